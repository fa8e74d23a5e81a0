use Rattle.std.proofs.Common.{ap, subst, List, ◌∙◌, length}
use Rattle.wbt_audit_walk.proofs.Common.{Left, is_even_below, Item, all_told, Told, rest, told_in}
use Rattle.wbt_audit_turns.specs.Balanced.{Tallied}
use Rattle.wbt_audit_turns.proofs.Balancing.{begun, even_at}
use Rattle.wbt_audit_walk.proofs.Gathered.{told_in-items, told_in-shown}
use Rattle.wbt_audit_walk.proofs.Walking.{nearer}
use Rattle.wbt_audit_turns.proofs.ledger.is_even.Goals as goal

pub steps-init : goal.steps-init
steps-init c =
    begun c.args.tallies.now (all_told c.args.journal.now) (told_in (rest c.in_ok-walk.walk)) c.requires
    (ap told_in c.in_ok-walk.ensures.items ∙ told_in-items c.args.journal.now)

pub steps-preserved : goal.steps-preserved
steps-preserved c =
    let shown = rw c.in-Some.is at c.in_ok-step.ensures in
    c.in_ok-pass.ensures (told_in (rest c.next.new.self)) (all_told c.args.journal.now)
    (subst (λ (es : List Told). Tallied c.steps.tallies es (all_told c.args.journal.now)) (told_in-shown c.steps.walk c.in-Some.step c.next.new.self shown) c.steps.invariant)

pub steps-smaller : goal.steps-smaller
steps-smaller c = nearer c.steps.walk c.in-Some.step c.next.new.self (rw c.in-Some.is at c.in_ok-step.ensures)

pub returns : goal.returns
returns c =
    let none = rw c.in_default.is at c.in_ok-step.ensures in
    c.are_balanced.ensures
    ∙ even_at c.steps.tallies c.enter_left.new.tallies (all_told c.args.journal.now) c.as_slice.result.now
    (subst (λ (items : List Item). Tallied c.steps.tallies (told_in items) (all_told c.args.journal.now)) none c.steps.invariant)
    c.enter_left.auto.tallies c.in_ok-enter_left.ensures (length c.args.tallies.now) c.steps.auto.tallies
    ∙ ap (λ (l : List Left). is_even_below (all_told c.args.journal.now) l (length c.args.tallies.now)) c.as_slice.ensures
