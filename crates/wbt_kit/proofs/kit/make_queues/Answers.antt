use Rattle.std.proofs.Common.{◌≤◌, ℕ, All, List, length, sym, ◌∙◌, subst}
use Rattle.wbt_kit.proofs.Laid.{sizes_some}
use Rattle.wbt_kit.proofs.kit.make_queues.Goals as goal

pub make-requires : goal.make-requires
make-requires c =
    let trace = c.args.trace.now in
    subst (λ (l : List ℕ). All (λ (size : ℕ). 1 ≤ size) l) (sym (c.as_slice.ensures ∙ c.in_ok-sizes.ensures)) (sizes_some trace (length trace.devices))
