use Rattle.std.proofs.Common.{◌<◌, ◌≤◌, ℕ, All, List, length, sym, ◌∙◌, subst}
use Rattle.wbt_num.specs.declared.most.TheConstants.{MOST_CONTEXTS}
use Rattle.wbt_kit.proofs.Common.{homes_of}
use Rattle.wbt_kit.proofs.Laid.{homes_fit}
use Rattle.wbt_kit.proofs.kit.make_shares.Goals as goal

pub make-requires-clause-contexts : goal.make-requires-clause-contexts
make-requires-clause-contexts c =
    let trace = c.args.trace.now in
    let fit = homes_fit trace 0 c.requires.lawful in
    let same = c.as_slice.ensures ∙ c.in_ok-homes.ensures in
    subst (λ (l : List ℕ). (length l ≤ MOST_CONTEXTS) × All (λ (home : ℕ). home < c.domains_of.result) l) (sym same)
    (fit.0, subst (λ (n : ℕ). All (λ (home : ℕ). home < n) (homes_of trace)) (sym c.domains_of.ensures) fit.1)
