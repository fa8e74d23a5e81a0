use Rattle.std.proofs.Common.{◌≡◌, ◌+◌, List, Some, sym, ap, ◌∙◌, arith}
use Rattle.wbt_audit_walk.proofs.Common.{ToldFlusher, first_flushers, flushers_after, items_of, first_cpu_line, turn_fault, unless, item_of}
use Rattle.wbt_journal.specs.Verdict.{flights_fault}
use Rattle.wbt_audit_turns.proofs.Flying.{none_flown, count_flown, judged}
use Rattle.wbt_audit_walk.proofs.Walking.{begins_walk, step_on, stops_at, ends_walk, nearer}
use Rattle.wbt_audit_turns.proofs.flights.walk_fault.Goals as goal

pub steps-init : goal.steps-init
steps-init c =
    let trace = c.args.trace.now in
    let journal = c.args.journal.now in record {
      flushers = count_flown c.args.flushers.now trace.flushers c.requires;
      goes = begins_walk (turn_fault trace) (flushers_after trace) (λ (s : List ToldFlusher). s ≡ c.args.flushers.now) (first_flushers trace.flushers) c.in_ok-walk.walk
          (first_cpu_line journal) (items_of journal) (sym (none_flown c.args.flushers.now trace.flushers c.requires)) c.in_ok-walk.ensures.line c.in_ok-walk.ensures.items;
    }

pub steps-preserved : goal.steps-preserved
steps-preserved c =
    let trace = c.args.trace.now in
    let inv = c.steps.invariant in
    let old = c.steps.flushers in
    let new = c.judge.new.flushers in record {
      flushers = c.judge.auto.flushers ∙ inv.flushers;
      goes = step_on (turn_fault trace) (flushers_after trace) (λ (s : List ToldFlusher). s ≡ old) (λ (s : List ToldFlusher). s ≡ new) (flights_fault trace c.args.journal.now)
          c.steps.walk c.in-Some.step c.next.new.self (unless c.in_ok-may.may 0) inv.goes (rw c.in-Some.is at c.in_ok-step.ensures)
          (judged trace old new (item_of c.in-Some.step) c.in_ok-may.may c.in_ok-may.ensures.may c.in_ok-may.ensures.moved) (ap (λ b. unless b 0) c.if-not-may.false);
    }

pub steps-smaller : goal.steps-smaller
steps-smaller c = nearer c.steps.walk c.in-Some.step c.next.new.self (rw c.in-Some.is at c.in_ok-step.ensures)

pub returns-then-not-may : goal.returns-then-not-may
returns-then-not-may c =
    let trace = c.args.trace.now in
    let inv = c.steps.invariant in
    let old = c.steps.flushers in
    let new = c.judge.new.flushers in
    let zero : c.in-Some.step.line ≡ c.in-Some.step.line + 0 = omega arith in
    ap Some zero
    ∙ stops_at (turn_fault trace) (flushers_after trace) (λ (s : List ToldFlusher). s ≡ old) (λ (s : List ToldFlusher). s ≡ new) (flights_fault trace c.args.journal.now)
    c.steps.walk c.in-Some.step c.next.new.self 0 inv.goes (rw c.in-Some.is at c.in_ok-step.ensures)
    (rw c.if-not-may.true at (judged trace old new (item_of c.in-Some.step) c.in_ok-may.may c.in_ok-may.ensures.may c.in_ok-may.ensures.moved))

pub returns : goal.returns
returns c =
    let trace = c.args.trace.now in
    ends_walk (turn_fault trace) (flushers_after trace) (λ (s : List ToldFlusher). s ≡ c.steps.flushers) (flights_fault trace c.args.journal.now) c.steps.walk c.steps.invariant.goes
    (rw c.in_default.is at c.in_ok-step.ensures)
