use Rattle.std.proofs.Common.{[], Some, ap, sym, subst, ◌∙◌}
use Rattle.wbt_audit_walk.proofs.Common.{CountsAreSums, folds_in, Each, all_told, items_of, fraction_fault, periods_after, first_cpu_line}
use Rattle.wbt_journal.specs.Verdict.{fractions_fault}
use Rattle.wbt_journal.proofs.Verdicts.{each_is_right}
use Rattle.wbt_audit_reads.specs.Fractioning.{KeepsFractions}
use Rattle.wbt_audit_reads.proofs.Fractioned.{rises}
use Rattle.wbt_audit_walk.proofs.Walking.{begins_walk, step_on, stops_at, ends_walk, nearer}
use Rattle.wbt_audit_reads.proofs.fractions.fractions_fault.Goals as goal

pub steps-init : goal.steps-init
steps-init c =
    let trace = c.args.trace.now in
    let journal = c.args.journal.now in record {
      goes =
          begins_walk (fraction_fault trace journal.timer (all_told journal)) periods_after (KeepsFractions trace journal.timer (all_told journal) c.in_ok-fractions.fractions) [] c.in_ok-walk.walk
          (first_cpu_line journal) (items_of journal) c.in_ok-fractions.ensures c.in_ok-walk.ensures.line c.in_ok-walk.ensures.items;
      sums =
          subst (Each (CountsAreSums trace (folds_in (all_told journal)))) (sym c.in_ok-walk.ensures.items)
          (((each_is_right trace journal).counts.holds c.requires.counts).0);
    }

pub steps-preserved : goal.steps-preserved
steps-preserved c =
    let trace = c.args.trace.now in
    let journal = c.args.journal.now in
    let all = folds_in (all_told journal) in
    let shown = rw c.in-Some.is at c.in_ok-step.ensures in
    let sums = subst (Each (CountsAreSums trace all)) shown.item c.steps.invariant.sums in record {
      goes =
          step_on (fraction_fault trace journal.timer (all_told journal)) periods_after (KeepsFractions trace journal.timer (all_told journal) c.steps.fractions) (KeepsFractions trace journal.timer (all_told journal) c.judge.new.self)
          (fractions_fault trace journal) c.steps.walk c.in-Some.step c.next.new.self c.judge.result c.steps.invariant.goes shown
          (c.judge.ensures trace all journal.timer (all_told journal) sums.0 (rises trace journal.timer (all_told journal) c.steps.fractions c.steps.invariant.goes.so_far c.steps.invariant.goes.keeps)) c.in_default-judge.is;
      sums = sums.1;
    }

pub steps-smaller : goal.steps-smaller
steps-smaller c = nearer c.steps.walk c.in-Some.step c.next.new.self (rw c.in-Some.is at c.in_ok-step.ensures)

pub returns-in-Some-judge : goal.returns-in-Some-judge
returns-in-Some-judge c =
    let trace = c.args.trace.now in
    let journal = c.args.journal.now in
    let all = folds_in (all_told journal) in
    let shown = rw c.in-Some.is at c.in_ok-step.ensures in
    let sums = subst (Each (CountsAreSums trace all)) shown.item c.steps.invariant.sums in
    ap Some c.in_ok-line.ensures
    ∙ stops_at (fraction_fault trace journal.timer (all_told journal)) periods_after (KeepsFractions trace journal.timer (all_told journal) c.steps.fractions) (KeepsFractions trace journal.timer (all_told journal) c.judge.new.self)
    (fractions_fault trace journal) c.steps.walk c.in-Some.step c.next.new.self c.in-Some-judge.at c.steps.invariant.goes shown
    (rw c.in-Some-judge.is at (c.judge.ensures trace all journal.timer (all_told journal) sums.0 (rises trace journal.timer (all_told journal) c.steps.fractions c.steps.invariant.goes.so_far c.steps.invariant.goes.keeps)))

pub returns : goal.returns
returns c =
    let trace = c.args.trace.now in
    let journal = c.args.journal.now in
    ends_walk (fraction_fault trace journal.timer (all_told journal)) periods_after (KeepsFractions trace journal.timer (all_told journal) c.steps.fractions) (fractions_fault trace journal) c.steps.walk c.steps.invariant.goes
    (rw c.in_default.is at c.in_ok-step.ensures)
