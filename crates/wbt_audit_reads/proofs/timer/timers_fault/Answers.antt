use Rattle.std.proofs.Common.{ap, sym, ◌∙◌, true, false, Some}
use Rattle.wbt_audit_walk.proofs.Common.{opened_at}
use Rattle.wbt_audit_reads.proofs.Timed.{begin_entries, entry_on, entry_stops, stopped, ended}
use Rattle.wbt_audit_reads.proofs.timer.timers_fault.Goals as goal

pub entries-init : goal.entries-init
entries-init c = begin_entries c.args.trace.now (opened_at c.as_slice-timer.result.now) c.as_slice-timer.result.now c.make-lines.result c.make-lines.ensures

pub entries-preserved : goal.entries-preserved
entries-preserved c =
    entry_on c.args.trace.now (opened_at c.as_slice-timer.result.now) c.as_slice-timer.result.now c.entries.place c.entries.lines c.allow.new.self _
    c.entries-test.true c.entries.invariant c.in_ok-allow.field-0 c.if-not-branch.false c.in_ok-allow.ensures

pub returns-then-not-branch : goal.returns-then-not-branch
returns-then-not-branch c =
    stopped c.args.trace.now c.args.journal.now c.as_slice-timer.result.now c.entries.place c.in_ok-line.line c.as_slice-timer.ensures c.in_ok-line.ensures
    (entry_stops c.args.trace.now (opened_at c.as_slice-timer.result.now) c.as_slice-timer.result.now c.entries.place c.entries.lines c.allow.new.self _
    c.entries-test.true c.entries.invariant c.in_ok-allow.field-0 c.if-not-branch.true c.in_ok-allow.ensures)

pub returns-then-are_opening : goal.returns-then-are_opening
returns-then-are_opening c =
    ap Some c.in_ok-line-2.ensures
    ∙ ended c.args.trace.now c.args.journal.now c.as_slice-timer.result.now c.entries.place c.entries.lines true c.as_slice-timer.ensures c.entries.invariant
    c.entries-test.false (sym c.are_opening.ensures ∙ c.if-are_opening.true)

pub returns : goal.returns
returns c =
    ended c.args.trace.now c.args.journal.now c.as_slice-timer.result.now c.entries.place c.entries.lines false c.as_slice-timer.ensures c.entries.invariant
    c.entries-test.false (sym c.are_opening.ensures ∙ c.if-are_opening.false)
