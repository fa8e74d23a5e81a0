use Rattle.std.proofs.Common.{ap, sym, subst, List, ◌∙◌}
use Rattle.wbt_audit_walk.proofs.Common.{Item, all_told, Told, rest, told_in}
use Rattle.wbt_audit_turns.specs.Worked.{AreLeft, HaveChances}
use Rattle.wbt_audit_walk.proofs.Gathered.{told_in-items, told_in-shown}
use Rattle.wbt_audit_walk.proofs.Walking.{nearer}
use Rattle.wbt_audit_turns.proofs.ending.work.Goals as goal

pub steps-init : goal.steps-init
steps-init c =
    let told = ap told_in c.in_ok-walk.ensures.items ∙ told_in-items c.args.journal.now in record {
      pages = subst (λ (es : List Told). AreLeft c.args.trace.now c.args.pages.now es (all_told c.args.journal.now)) (sym told) c.requires.pages;
      chances = subst (λ (es : List Told). HaveChances c.args.trace.now c.args.chances.now es (all_told c.args.journal.now)) (sym told) c.requires.chances;
    }

pub steps-preserved : goal.steps-preserved
steps-preserved c =
    let shown = rw c.in-Some.is at c.in_ok-step.ensures in
    let told = told_in-shown c.steps.walk c.in-Some.step c.next.new.self shown in
    let trace = c.args.trace.now in
    let all = all_told c.args.journal.now in record {
      pages = c.pass.ensures.pages trace (told_in (rest c.next.new.self)) all (subst (λ (es : List Told). AreLeft trace c.steps.pages es all) told c.steps.invariant.pages);
      chances = c.pass.ensures.chances trace (told_in (rest c.next.new.self)) all (subst (λ (es : List Told). HaveChances trace c.steps.chances es all) told c.steps.invariant.chances);
    }

pub steps-smaller : goal.steps-smaller
steps-smaller c = nearer c.steps.walk c.in-Some.step c.next.new.self (rw c.in-Some.is at c.in_ok-step.ensures)

pub returns : goal.returns
returns c =
    let none = rw c.in_default.is at c.in_ok-step.ensures in
    let trace = c.args.trace.now in
    let all = all_told c.args.journal.now in record {
      pages = subst (λ (items : List Item). AreLeft trace c.steps.pages (told_in items) all) none c.steps.invariant.pages;
      chances = subst (λ (items : List Item). HaveChances trace c.steps.chances (told_in items) all) none c.steps.invariant.chances;
    }
