use Rattle.std.proofs.Common.{◌≡◌, ℕ, suc, length, ◌∙◌, ap, arith}
use Rattle.wbt_replay_order.specs.Definition.Run as spec
use Rattle.wbt_replay.proofs.ordered.bases_of.Goals as goal

pub returns : goal.returns
returns c =
    let trace = c.args.trace.now in
    let all : c.loop-domain.domain ≡ suc (length trace.cgroups) = omega arith in
    c.loop-domain.invariant ∙ ap (λ (n : ℕ). spec.bases_of trace n) all
