-- Names that many of the proofs on this crate cite.
pub use Rattle.wbt_audit_walk.specs.Acts.{told_by, told_of}
pub use Rattle.wbt_audit_walk.specs.Newest.{seen_at}
pub use Rattle.wbt_audit_walk.specs.Places.{below, counter_place}
pub use Rattle.wbt_audit_walk.specs.Rows.{cell, push_cell, row_of}
pub use Rattle.wbt_audit_walk.specs.Walking.{Goes, IsJudged, Judges}
pub use Rattle.wbt_audit_walk.specs.Walks.{Shows, item_of, rest, told_in}
pub use Rattle.wbt_counter.specs.Counters.{is_same}
pub use Rattle.wbt_counter.specs.declared.counter.Counter.{Counter}
pub use Rattle.wbt_counter.specs.declared.record.Fold.{Fold}
pub use Rattle.wbt_estimate.specs.declared.estimate.Estimate.{Estimate}
pub use Rattle.wbt_journal.specs.Checks.{nth_estimate, with_mark, with_marks}
pub use Rattle.wbt_journal.specs.Counts.{CountsAreSums, Load, cgroup_reads, count_fault, fold_fault, fold_in, folds_after, folds_in, loads_of, of_counter, read_loads, reads_of, versions_after}
pub use Rattle.wbt_journal.specs.Each.{Each}
pub use Rattle.wbt_journal.specs.Effects.{effect, of_part}
pub use Rattle.wbt_journal.specs.Estimates.{decision_at, estimate_fault, estimate_in, estimates_of, opened_at, sight_after}
pub use Rattle.wbt_journal.specs.Flights.{ToldFlusher, ToldPhase, first_flushers, flushers_after, new_flusher}
pub use Rattle.wbt_journal.specs.Items.{Item, all_told, begins, item_size, items_from, items_of, parts_of, tells}
pub use Rattle.wbt_journal.specs.Leaves.{has_all_steps, is_bounded, is_even_below, is_nothing}
pub use Rattle.wbt_journal.specs.Machine.{contexts, domains, numbers, pages_of_action, pages_of_task, rests_after, rests_last}
pub use Rattle.wbt_journal.specs.Pages.{page_fault, writes_after}
pub use Rattle.wbt_journal.specs.Reads.{added_to, fraction_fault, periods_after, periods_from, triple_fault, triples_after}
pub use Rattle.wbt_journal.specs.Side.{all_writers, is_on, number_from, numbers_from}
pub use Rattle.wbt_journal.specs.Told.{Told, aged, batch, checked, claimed, done, estimated, fault, folded, gave_back, noticed, share, told, told_entry, took, wrote}
pub use Rattle.wbt_journal.specs.Verdict.{first_cpu_line, turn_fault}
pub use Rattle.wbt_journal.specs.Waits.{first_lists, lists_after, wait_fault}
pub use Rattle.wbt_journal.specs.Walk.{first_failed, first_fault, first_of, unless}
pub use Rattle.wbt_journal.specs.declared.entry.CheckEntry.{CheckEntry}
pub use Rattle.wbt_journal.specs.declared.entry.CpuJournal.{CpuJournal}
pub use Rattle.wbt_journal.specs.declared.entry.DomainLine.{DomainLine}
pub use Rattle.wbt_journal.specs.declared.entry.Entry.{Entry}
pub use Rattle.wbt_journal.specs.declared.entry.EstEntry.{EstEntry}
pub use Rattle.wbt_journal.specs.declared.journal.Ending.{Ending}
pub use Rattle.wbt_journal.specs.declared.journal.Journal.{Journal}
pub use Rattle.wbt_journal.specs.declared.journal.Left.{Left}
pub use Rattle.wbt_journal.specs.declared.timer.TimerEntry.{TimerEntry}
pub use Rattle.wbt_num.specs.declared.limits.Limits.{Limits}
pub use Rattle.wbt_num.specs.declared.most.TheConstants.{MOST_CONTEXTS}
pub use Rattle.wbt_pause.specs.declared.decision.Decision.{Decision}
unfoldable pub use Rattle.wbt_rules.specs.First.{first_estimate}
pub use Rattle.wbt_rules.specs.declared.moments.TheConstants.{MOST_FAULTS}
unfoldable pub use Rattle.wbt_task.specs.Allowance.{first}
unfoldable pub use Rattle.wbt_task.specs.Counts.{is_write}
unfoldable pub use Rattle.wbt_task.specs.History.{cpu_after, new_writer}
pub use Rattle.wbt_task.specs.declared.history.Event.TheVariants.{Ended}
pub use Rattle.wbt_task.specs.declared.history.Writer.{Writer}
pub use Rattle.wbt_trace.specs.Lawful.{IsLawful}
pub use Rattle.wbt_trace.specs.Sofar.{inode_at}
pub use Rattle.wbt_trace.specs.declared.trace.Action.{Action}
pub use Rattle.wbt_trace.specs.declared.trace.Inode.{Inode}
pub use Rattle.wbt_trace.specs.declared.trace.TaskLine.{TaskLine}
pub use Rattle.wbt_trace.specs.declared.trace.Trace.{Trace}
