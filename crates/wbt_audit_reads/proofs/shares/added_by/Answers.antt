use Rattle.std.proofs.Common.{[], ◌++◌, replicate, ap, sym, subst, ◌∙◌, append_assoc, append-nil}
use Rattle.wbt_audit_walk.proofs.Common.{told_by, rest, told_in}
use Rattle.wbt_audit_reads.specs.Sharing.{AreAdded}
use Rattle.wbt_audit_reads.proofs.Shared.{added_first}
use Rattle.wbt_audit_walk.proofs.Gathered.{told_in-items, told_in-shown}
use Rattle.wbt_audit_walk.proofs.Walking.{nearer}
use Rattle.wbt_audit_reads.proofs.shares.added_by.Goals as goal

pub steps-init : goal.steps-init
steps-init c = record {
  done = [];
  are = added_first c.args.places c.in_ok-sums.sums.items (c.in_ok-sums.ensures ∙ ap (λ n. replicate n 0) c.pairs.ensures);
  to_come = ap told_in c.in_ok-walk.ensures.items ∙ told_in-items c.args.journal.now;
}

pub steps-preserved : goal.steps-preserved
steps-preserved c =
    let shown = rw c.in-Some.is at c.in_ok-step.ensures in
    let so_far = c.steps.invariant in record {
      done = so_far.done ++ told_by c.in-Some.step.act;
      are = c.in_ok-add_act.ensures so_far.done so_far.are;
      to_come =
          append_assoc so_far.done (told_by c.in-Some.step.act) (told_in (rest c.next.new.self))
          ∙ ap (λ es. so_far.done ++ es) (sym (told_in-shown c.steps.walk c.in-Some.step c.next.new.self shown))
          ∙ so_far.to_come;
    }

pub steps-smaller : goal.steps-smaller
steps-smaller c = nearer c.steps.walk c.in-Some.step c.next.new.self (rw c.in-Some.is at c.in_ok-step.ensures)

pub returns : goal.returns
returns c =
    let so_far = c.steps.invariant in
    let none = rw c.in_default.is at c.in_ok-step.ensures in
    subst (λ es. AreAdded c.args.places es c.steps.sums.items)
    (sym (append-nil so_far.done) ∙ ap (λ is. so_far.done ++ told_in is) (sym none) ∙ so_far.to_come) so_far.are
