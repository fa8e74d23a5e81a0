use Rattle.std.proofs.Common.{◌∙◌, ap, flat_map}
use Rattle.wbt_audit_walk.proofs.Common.{fold_in, folds_in, all_told, rest, told_in}
use Rattle.wbt_audit_walk.proofs.Gathered.{told_in-items, gathered, all_gathered}
use Rattle.wbt_audit_walk.proofs.Walking.{nearer}
use Rattle.wbt_audit_walk.proofs.gather.folds_of.Goals as goal

pub steps-init : goal.steps-init
steps-init c =
    rw c.new-folds.ensures.items
    (ap (λ items. flat_map fold_in (told_in items)) c.in_ok-walk.ensures.items ∙ ap (flat_map fold_in) (told_in-items c.args.journal.now))

pub steps-preserved : goal.steps-preserved
steps-preserved c =
    let shown = rw c.in-Some.is at c.in_ok-step.ensures in
    gathered fold_in c.steps.folds.items c.push_fold.new.folds.items (folds_in (all_told c.args.journal.now)) c.steps.walk c.in-Some.step c.next.new.self shown
    c.steps.invariant c.in_ok-push_fold.ensures

pub steps-smaller : goal.steps-smaller
steps-smaller c = let shown = rw c.in-Some.is at c.in_ok-step.ensures in nearer c.steps.walk c.in-Some.step c.next.new.self shown

pub returns : goal.returns
returns c =
    all_gathered fold_in c.steps.folds.items (folds_in (all_told c.args.journal.now)) (rest c.steps.walk) c.steps.invariant
    (rw c.in_default.is at c.in_ok-step.ensures)
