-- Names that many of the proofs on this crate cite.
pub use Rattle.atomic_table.specs.Seated.{TableId}
pub use Rattle.wbt_book.specs.Ledger.{absorbs, all_times, completes, dirties, times, times_in}
pub use Rattle.wbt_book.specs.PageWords.{bits_at}
pub use Rattle.wbt_counter.proofs.Sums.{total_change, total_same}
pub use Rattle.wbt_counter.specs.Counters.{with_debt, without_debt}
pub use Rattle.wbt_counter.specs.History.{at_least_zero}
pub use Rattle.wbt_counter.specs.Sums.{one_if, put, total}
pub use Rattle.wbt_counter.specs.Word.{version_in}
pub use Rattle.wbt_counter.specs.declared.counter.Count.{Count}
pub use Rattle.wbt_counter.specs.declared.counter.Counter.{Counter}
pub use Rattle.wbt_counter.specs.declared.counter.Counter.TheVariants.{Domain}
pub use Rattle.wbt_counter.specs.declared.record.Debt.{Debt}
pub use Rattle.wbt_counter.specs.declared.record.Debt.TheVariants.{ClearDue, Event, FoldDue, Free}
pub use Rattle.wbt_counter.specs.declared.record.Fold.{Fold}
pub use Rattle.wbt_counter.specs.declared.record.Owed.{Owed}
pub use Rattle.wbt_counter.specs.declared.record.Reading.{Reading}
pub use Rattle.wbt_estimate.specs.declared.estimate.Estimate.{Estimate}
pub use Rattle.wbt_expiry.specs.Waiting.{Waiting}
unfoldable pub use Rattle.wbt_expiry.specs.Waiting.{AreInOrder}
pub use Rattle.wbt_expiry.specs.declared.due.Due.{Due}
pub use Rattle.wbt_flex.specs.declared.share.Fraction.{Fraction}
pub use Rattle.wbt_fraction.proofs.Fitting.{fits_length}
unfoldable pub use Rattle.wbt_fraction.specs.Laws.{begun}
pub use Rattle.wbt_fraction.specs.Notes.{added_at}
pub use Rattle.wbt_fraction.specs.Several.{AllJoined, CanSplit, IsSeatOf, KeepsStakes, no_seat, right_of, room_in, stakes_in, total_right}
pub use Rattle.wbt_fraction.specs.Totals.{TotalSeated, room_of}
pub use Rattle.wbt_fraction.specs.declared.domain.note.Note.{Note}
pub use Rattle.wbt_grant.specs.Kinds.{MayGrant, Step, add, claim, clear, complete, count, dirty, first, fold, limits, look, mark, middle, unmark}
pub use Rattle.wbt_grant.specs.Laws.{NoneAhead}
pub use Rattle.wbt_grant.specs.Record.{debts_of, is_whole, read_triple}
pub use Rattle.wbt_grant.specs.Seats.{cpu_for, maker_of, record_after, timer_after}
pub use Rattle.wbt_grant.specs.Setting.{Setting, counters_of}
pub use Rattle.wbt_grant.specs.State.{deeds_of, found_of, held_of, newest_of, no_record, version_of, writer_in}
pub use Rattle.wbt_grant.specs.declared.record.CpuRecord.{CpuRecord}
pub use Rattle.wbt_grant.specs.declared.record.DomainLimits.{DomainLimits}
pub use Rattle.wbt_grant.specs.declared.record.Raised.{Raised}
pub use Rattle.wbt_grant.specs.declared.record.TimerRecord.{TimerRecord}
pub use Rattle.wbt_grant.specs.declared.record.WriterRecord.{WriterRecord}
pub use Rattle.wbt_grant.specs.declared.who.StepKind.{StepKind}
pub use Rattle.wbt_grant.specs.declared.who.Who.{Who}
pub use Rattle.wbt_grant.specs.declared.who.Who.TheVariants.{Timer}
pub use Rattle.wbt_io.specs.Faults.{HasRisen, HasRisenBy}
pub use Rattle.wbt_io.specs.Pages.{Grows}
pub use Rattle.wbt_journal.proofs.Few.{few_writers}
pub use Rattle.wbt_journal.specs.Checks.{IsInRange, is_due}
pub use Rattle.wbt_journal.specs.Counts.{Load, cgroup_reads, reads_of}
pub use Rattle.wbt_journal.specs.Each.{Each}
pub use Rattle.wbt_journal.specs.Effects.{Flight, Wait, effect, moment_of, of_part}
pub use Rattle.wbt_journal.specs.Estimates.{estimates_of}
pub use Rattle.wbt_journal.specs.Items.{tells}
pub use Rattle.wbt_journal.specs.Leaves.{is_fault}
pub use Rattle.wbt_journal.specs.Machine.{context_domain, contexts, cpu_of_task, domains, page_context, pages, pages_of_action, pages_of_task, ratelimit_pages, rests_last}
pub use Rattle.wbt_journal.specs.Pages.{writes_after}
pub use Rattle.wbt_journal.specs.Reads.{added_to}
pub use Rattle.wbt_journal.specs.Side.{Side, TaskState, all_writers, end_task, first_side, is_none_due, is_on, is_own_task, item, number_from, number_of, numbers_from, settle, side_after, task_of, with_page, write_fresh}
pub use Rattle.wbt_journal.specs.Timer.{LastLine, is_opening, lines_after}
pub use Rattle.wbt_journal.specs.Told.{NamesInOrder, Told, checked, folded, share, wrote}
pub use Rattle.wbt_journal.specs.Waits.{MayWait, waited}
pub use Rattle.wbt_journal.specs.Walk.{after}
pub use Rattle.wbt_journal.specs.declared.entry.CheckEntry.{CheckEntry}
pub use Rattle.wbt_journal.specs.declared.entry.CpuJournal.{CpuJournal}
pub use Rattle.wbt_journal.specs.declared.entry.DomainLine.{DomainLine}
pub use Rattle.wbt_journal.specs.declared.entry.EstEntry.{EstEntry}
pub use Rattle.wbt_journal.specs.declared.journal.Ending.{Ending}
pub use Rattle.wbt_journal.specs.declared.journal.Left.{Left}
pub use Rattle.wbt_journal.specs.declared.timer.TimerEntry.{TimerEntry}
pub use Rattle.wbt_kit.specs.Kit.{AreFirst, AreJoined, AreSeatsOf, HasCpu, HasOwners, HasTimer, IsKitOf}
pub use Rattle.wbt_kit.specs.Opening.{first_cpu, homes_of, layout_of, place_of}
pub use Rattle.wbt_num.specs.declared.limits.Limits.{Limits}
pub use Rattle.wbt_num.specs.declared.limits.TheConstants.{MAX_LIMIT}
pub use Rattle.wbt_num.specs.declared.most.TheConstants.{MOST_PAGES, MOST_PAGE_STEPS}
pub use Rattle.wbt_pause.specs.Reads.{IsCounted}
pub use Rattle.wbt_pause.specs.declared.decision.Decision.{Decision}
pub use Rattle.wbt_pause.specs.declared.decision.Kind.{Kind}
pub use Rattle.wbt_published.specs.Known.{after_read, first_in, knows_both, note_of, opening, with_right}
pub use Rattle.wbt_published.specs.Passes.{all_handed, all_joined, all_left, known_of}
pub use Rattle.wbt_published.specs.declared.known.Known.{Known}
pub use Rattle.wbt_queue.specs.Known.{accompanied, newcomer, nothing}
pub use Rattle.wbt_queue.specs.Order.{HasPut}
pub use Rattle.wbt_queue.specs.Passes.{AreAllTaken, Held, Seats, size_of}
pub use Rattle.wbt_rules.proofs.Firsts.{first_lawful}
pub use Rattle.wbt_rules.specs.First.{first_estimates}
pub use Rattle.wbt_rules.specs.Pace.{pace_of, since_after}
pub use Rattle.wbt_rules.specs.Places.{IsAhead, page_of}
unfoldable pub use Rattle.wbt_rules.specs.Strict.{is_strict}
pub use Rattle.wbt_rules.specs.Things.{context_at, flusher_device}
pub use Rattle.wbt_rules.specs.Thresholds.{first_limits, thresholds_at}
pub use Rattle.wbt_rules.specs.declared.moments.TheConstants.{MOST_FAULTS}
pub use Rattle.wbt_rules.specs.declared.scan.Scan.{Scan}
pub use Rattle.wbt_table.proofs.Joining.{length-merged}
pub use Rattle.wbt_table.proofs.Lists.{at_less, same_default}
pub use Rattle.wbt_table.proofs.Seating.{has_changed, none_some}
pub use Rattle.wbt_table.specs.Calls.{CanDirty, Halts, HasNoPageSteps, HasPageSteps, HoldsAll, IsCutLoad, Made, PayInOrder, Pays, Puts, Settles, joined_seat, left_seat, record_of, right_seat, timer_of, whole_load}
pub use Rattle.wbt_table.specs.Calls.IsCutLoad.{after_first, after_middle, at_once}
pub use Rattle.wbt_table.specs.History.{LogsSteps}
pub use Rattle.wbt_table.specs.Layout.{HasCounter, pages_in, setting}
pub use Rattle.wbt_table.specs.Rule.{Cpus, Has, HasLog, Holds, Logs, apart, merged, or_else, put_record, without_cpu}
pub use Rattle.wbt_table.specs.Seat.{Changes, LogComes, Makes, Seated}
pub use Rattle.wbt_table.specs.declared.answer.Dirtied.{Dirtied}
pub use Rattle.wbt_table.specs.declared.answer.Dirtied.TheVariants.{Already, Fresh}
pub use Rattle.wbt_table.specs.declared.answer.Put.{Put}
pub use Rattle.wbt_table.specs.declared.answer.Put.TheVariants.{Done, Last, Stopped}
pub use Rattle.wbt_table.specs.declared.answer.Settled.{Settled}
pub use Rattle.wbt_table.specs.declared.answer.Triple.{Triple}
pub use Rattle.wbt_table.specs.declared.layout.Layout.{Layout}
pub use Rattle.wbt_table.specs.declared.layout.Place.{Place}
pub use Rattle.wbt_table.specs.declared.rule.Granted.{Granted}
pub use Rattle.wbt_table.specs.declared.rule.Logged.{Logged}
pub use Rattle.wbt_task.proofs.Keeping.{others_stay, same_writers}
pub use Rattle.wbt_task.specs.Counts.{AllHavePagesLeft, counted, dirtied_by}
pub use Rattle.wbt_task.specs.History.{Cpu, writer_of}
unfoldable pub use Rattle.wbt_task.specs.History.{cpu_after, cpu_step, new_cpu, new_writer}
pub use Rattle.wbt_task.specs.declared.history.Event.TheVariants.{Checked, Ended}
pub use Rattle.wbt_task.specs.declared.history.Writer.{Writer}
pub use Rattle.wbt_trace.specs.Lawful.{AreFirsts, IsLawful}
pub use Rattle.wbt_trace.specs.Sofar.{inode_at, least_shares}
pub use Rattle.wbt_trace.specs.declared.trace.Action.{Action}
pub use Rattle.wbt_trace.specs.declared.trace.Action.TheVariants.{Rest, Write}
pub use Rattle.wbt_trace.specs.declared.trace.Cgroup.{Cgroup}
pub use Rattle.wbt_trace.specs.declared.trace.Context.{Context}
pub use Rattle.wbt_trace.specs.declared.trace.Device.{Device}
pub use Rattle.wbt_trace.specs.declared.trace.FlusherLine.{FlusherLine}
pub use Rattle.wbt_trace.specs.declared.trace.Inode.{Inode}
pub use Rattle.wbt_trace.specs.declared.trace.Pace.{Pace}
pub use Rattle.wbt_trace.specs.declared.trace.TaskLine.{TaskLine}
pub use Rattle.wbt_trace.specs.declared.trace.Trace.{Trace}
