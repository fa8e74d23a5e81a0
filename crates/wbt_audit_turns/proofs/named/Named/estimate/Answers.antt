use Rattle.std.proofs.Common.{◌≡◌, ℕ, suc, ◌-◌, [], List, ◌∷◌, get_or, sym, ap, ◌∙◌, arith}
use Rattle.std.specs.Prelude.{slice_get}
use Rattle.std.proofs.lemmas.List.{get_or_read}
use Rattle.wbt_audit_walk.proofs.Common.{Estimate, first_estimate, nth_estimate}
use Rattle.wbt_audit_turns.proofs.Naming.{nth_is}
use Rattle.wbt_audit_turns.proofs.named.Named.estimate.Goals as goal

pub returns : goal.returns
returns c =
    let lists = c.args.self.now.of_contexts.items in
    let list = get_or lists c.args.context [] in
    let some = c.if-version-eq0.false in
    let next : c.args.version ≡ suc (c.args.version - 1) = omega (arith, some) in
    let at : c.as_slice-estimates.result.now ≡ list = c.as_slice-estimates.ensures ∙ get_or_read lists c.args.context c.index.result.now c.requires.list c.index.ensures [] in
    c.estimate_at.ensures ∙ ap (λ (xs : List Estimate). slice_get xs (c.args.version - 1)) at ∙ nth_is (c.args.version - 1) list
    ∙ ap (λ (v : ℕ). nth_estimate v (first_estimate c.args.trace.now c.args.context c.args.self.now.opened ∷ list)) (sym next)
