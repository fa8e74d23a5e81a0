use Rattle.std.proofs.Common.{rules, ◌≡◌, sym, ap, subst}
use Rattle.wbt_audit_walk.proofs.Common.{items_of, parts_of, first_cpu_line, first_lists, lists_after, wait_fault, unless, Shows, rest}
use Rattle.wbt_journal.specs.Verdict.{waits_fault}
use Rattle.wbt_audit_turns.specs.Waited.{AreOf, Keep}
use Rattle.wbt_audit_walk.specs.Walks.{Went}
use Rattle.wbt_audit_turns.proofs.Waiting.{all_of, first_kept, next_of}
use Rattle.wbt_audit_walk.proofs.Walking.{begins_walk, step_on, nearer}
use Rattle.wbt_audit_turns.proofs.waits.waits_fault.Goals as goal

pub loop-lists-init : goal.loop-lists-init
loop-lists-init c =
    let trace = c.args.trace.now in
    let journal = c.args.journal.now in
    let lists = c.in_ok-lists.lists in
    let walk = c.in_ok-walk.walk in
    let items : rest walk ≡ items_of journal = search rules in
    let line : walk.line ≡ first_cpu_line journal = search rules in
    record {
      goes = begins_walk (wait_fault trace) (lists_after trace) (Keep trace lists.cpu lists.wheels.items) (first_lists trace.flushers) walk (first_cpu_line journal) (items_of journal)
          (first_kept trace lists.cpu lists.wheels.items (c.in_ok-lists.ensures.empty)) line items;
      lists = search rules;
      parts = subst (AreOf lists.cpu) (sym items) (all_of lists.cpu 0 (parts_of journal));
    }

pub loop-lists-preserved : goal.loop-lists-preserved
loop-lists-preserved c =
    let trace = c.args.trace.now in
    let inv = c.loop-lists.invariant in
    let old = c.loop-lists.walk in
    let new = c.next.new.self in
    let step = c.in-Some.step in
    let ens = c.in_ok-step.ensures in
    let is = c.in-Some.is in
    let judged = c.pass.ensures.judged in
    let shows : Shows old step new = subst (Went old new) is ens in
    record {
      goes = step_on (wait_fault trace) (lists_after trace) (Keep trace c.loop-lists.lists.cpu c.loop-lists.lists.wheels.items) (Keep trace c.pass.new.self.cpu c.pass.new.self.wheels.items)
          (waits_fault trace c.args.journal.now) old step new (unless c.pass.result 0) inv.goes shows judged (ap (λ b. unless b 0) c.if-not-pass.false);
      lists = c.pass.ensures.lists;
      parts = subst (λ cpu. AreOf cpu (rest new)) (sym c.pass.ensures.cpu) (next_of c.loop-lists.lists.cpu step (rest old) (rest new) shows.item inv.parts).1;
    }

pub loop-lists-smaller : goal.loop-lists-smaller
loop-lists-smaller c = nearer c.loop-lists.walk c.in-Some.step c.next.new.self (subst (Went c.loop-lists.walk c.next.new.self) c.in-Some.is c.in_ok-step.ensures)
