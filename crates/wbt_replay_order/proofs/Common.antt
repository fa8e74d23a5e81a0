-- Names that many of the proofs on this crate cite.
pub use Rattle.wbt_book.proofs.PageWords.{word_holds_page}
pub use Rattle.wbt_book.specs.Book.{Bits, Book, bits_after, clean, is_claimable, page_word}
pub use Rattle.wbt_book.specs.Counts.{places}
pub use Rattle.wbt_book.specs.Ledger.{all_times, dirties, times, times_in}
pub use Rattle.wbt_book.specs.PageWords.{bits_at, shared_word}
unfoldable pub use Rattle.wbt_book.specs.PageWords.{packed_pages}
pub use Rattle.wbt_book.specs.declared.event.Event.{Event}
pub use Rattle.wbt_book.specs.declared.event.Event.TheVariants.{Claim, Complete, Dirty}
pub use Rattle.wbt_counter.proofs.Debts.{is_same-itself, is_same-true}
pub use Rattle.wbt_counter.proofs.Sums.{put_changes, put_other, put_same, total_nothing, total_same}
unfoldable pub use Rattle.wbt_counter.specs.Batch.{context_batch, domain_batch}
pub use Rattle.wbt_counter.specs.Counters.{debt_to, is_same, without_debt}
pub use Rattle.wbt_counter.specs.History.{at_least_zero, sum_of}
pub use Rattle.wbt_counter.specs.Sums.{one_if, put, total}
pub use Rattle.wbt_counter.specs.declared.counter.Count.{Count}
pub use Rattle.wbt_counter.specs.declared.counter.Counter.{Counter}
pub use Rattle.wbt_counter.specs.declared.counter.Counter.TheVariants.{Context}
pub use Rattle.wbt_counter.specs.declared.record.Debt.{Debt}
pub use Rattle.wbt_counter.specs.declared.record.Debt.TheVariants.{ClearDue}
pub use Rattle.wbt_counter.specs.declared.record.Fold.{Fold}
pub use Rattle.wbt_counter.specs.declared.record.Owed.{Owed}
pub use Rattle.wbt_counter.specs.declared.record.Reading.{Reading}
unfoldable pub use Rattle.wbt_estimate.specs.Estimate.{first_at, update_of, updated}
pub use Rattle.wbt_estimate.specs.declared.estimate.Estimate.{Estimate}
pub use Rattle.wbt_expiry.proofs.Sorting.{each_put}
unfoldable pub use Rattle.wbt_expiry.specs.Waiting.{has_inode, with_pair}
pub use Rattle.wbt_flex.specs.Proportions.{after_period, aged, fraction_of, may_be_added}
pub use Rattle.wbt_flex.specs.declared.half.Half.{Half}
pub use Rattle.wbt_grant.proofs.Bounding.{if_nothing}
pub use Rattle.wbt_grant.proofs.Entries.{times_in-append}
pub use Rattle.wbt_grant.proofs.Whole.{always_holds, opening_keeps}
pub use Rattle.wbt_grant.specs.Kinds.{AreAllowed, grant, last_found, page_now}
pub use Rattle.wbt_grant.specs.Rule.{Rule}
pub use Rattle.wbt_grant.specs.Setting.{IsSetting, Setting, is_inside}
pub use Rattle.wbt_grant.specs.State.{context_count, deeds_of, domain_count, held_of, holding, sequence_of, stage_of, version_of}
pub use Rattle.wbt_grant.specs.declared.record.CpuRecord.{CpuRecord}
pub use Rattle.wbt_grant.specs.declared.record.DomainLimits.{DomainLimits}
pub use Rattle.wbt_grant.specs.declared.record.TimerRecord.{TimerRecord}
pub use Rattle.wbt_grant.specs.declared.record.WriterRecord.{WriterRecord}
pub use Rattle.wbt_grant.specs.declared.who.StepKind.{StepKind}
pub use Rattle.wbt_io.specs.Moments.{done_at}
pub use Rattle.wbt_io.specs.Told.{GainsPart}
pub use Rattle.wbt_journal.proofs.Parting.{parts_back}
pub use Rattle.wbt_journal.specs.Checks.{DecidesBy, IsQuiet, has_page, nth_estimate}
pub use Rattle.wbt_journal.specs.Counts.{CountsAreFresh, Load, Version, cgroup_reads, fold_in, is_fresh_count, loads_in, loads_of, read_loads, reads_of, versions_after}
pub use Rattle.wbt_journal.specs.Each.{Each}
pub use Rattle.wbt_journal.specs.Effects.{Flight, Move, WaitMove, ages, effect, event_of, notices, of_part, takes_first}
pub use Rattle.wbt_journal.specs.Estimates.{estimate_in, estimates_of, opened_at}
pub use Rattle.wbt_journal.specs.Flights.{MayMove, ToldFlusher, ToldPhase, emptied, is_own_flusher, new_flusher, scanning}
pub use Rattle.wbt_journal.specs.Items.{items_from, tells}
pub use Rattle.wbt_journal.specs.Lawful.{EachPart, FlushersAreInTurn, FoundWereDirtied, LedgerIsEven, LeftIsBounded, LeftPagesAreThere, WaitsAreOwn, WritesAreInOrder}
pub use Rattle.wbt_journal.specs.Laws.{OfPart}
pub use Rattle.wbt_journal.specs.Machine.{batch_of, context_among, cpu_of_task, domains, numbers, page_context, pages, pages_of_task, ratelimit_pages, rests_last}
pub use Rattle.wbt_journal.specs.Side.{Side, TaskState, all_writers, check_by, end_task, ends, is_empty, is_not_due, is_on, is_own_task, item, settle, with_page, write_fresh}
pub use Rattle.wbt_journal.specs.Steps.{change_in, is_in, is_some_of}
pub use Rattle.wbt_journal.specs.Text.{is_done, is_fresh}
unfoldable pub use Rattle.wbt_journal.specs.Text.{journal_lines}
pub use Rattle.wbt_journal.specs.Told.{InOrder, Told, one_checked, one_estimated, told, told_entry}
pub use Rattle.wbt_journal.specs.Walk.{Along}
pub use Rattle.wbt_journal.specs.declared.entry.CheckEntry.{CheckEntry}
pub use Rattle.wbt_journal.specs.declared.entry.DomainLine.{DomainLine}
pub use Rattle.wbt_journal.specs.declared.entry.Entry.{Entry}
pub use Rattle.wbt_journal.specs.declared.entry.EstEntry.{EstEntry}
pub use Rattle.wbt_journal.specs.declared.journal.Left.{Left}
pub use Rattle.wbt_journal.specs.declared.step.StepEntry.{StepEntry}
pub use Rattle.wbt_journal.specs.declared.timer.TimerEntry.{TimerEntry}
unfoldable pub use Rattle.wbt_limits.specs.Thresholds.{background_below, global_threshold, threshold, thresholds_of}
unfoldable pub use Rattle.wbt_num.specs.Arithmetic.{halvings, log2}
pub use Rattle.wbt_num.specs.declared.limits.Limits.{Limits}
pub use Rattle.wbt_num.specs.declared.limits.TheConstants.{MAX_LIMIT}
pub use Rattle.wbt_num.specs.declared.most.TheConstants.{MOST_STEPS}
unfoldable pub use Rattle.wbt_pause.specs.Decision.{cut_decision, decided, decision_of, go_decision, rate_of, throttled}
unfoldable pub use Rattle.wbt_pause.specs.Pauses.{least_pause, longest_pause}
pub use Rattle.wbt_pause.specs.declared.decision.Decision.{Decision}
pub use Rattle.wbt_pause.specs.declared.reads.Reads.{Reads}
unfoldable pub use Rattle.wbt_position.specs.Polynom.{polynom_value}
unfoldable pub use Rattle.wbt_position.specs.Position.{position_ratio}
pub use Rattle.wbt_replay_changes.proofs.Agrees.{moves_are_changes}
pub use Rattle.wbt_replay_changes.proofs.Keeping.{move_keeps, turn_keeps}
pub use Rattle.wbt_replay_changes.proofs.Plain.{uncounted}
pub use Rattle.wbt_replay_changes.specs.Apply.{apply, apply_all, cpu_after, passes}
pub use Rattle.wbt_replay_changes.specs.Change.{Change}
pub use Rattle.wbt_replay_changes.specs.Change.Cpu.{CpuChange}
pub use Rattle.wbt_replay_changes.specs.Change.Flusher.{FlusherChange}
pub use Rattle.wbt_replay_changes.specs.ChangeOf.{move_changes, phase_changes, step_changes, turn_changes, whose_changes}
pub use Rattle.wbt_replay_changes.specs.ChangeOf.Flusher.{claim_changes, close_changes, complete_changes, group_changes, hand_over_changes, land_changes, look_changes, share_changes}
pub use Rattle.wbt_replay_changes.specs.ChangeOf.Idle.{estimated_changes, idle_changes, last_changes, notice_changes, test_changes, unmark_changes, waiting_changes, wheel_changes}
pub use Rattle.wbt_replay_changes.specs.ChangeOf.Timer.{timer_move_changes, timer_step_changes, timer_turn_changes}
pub use Rattle.wbt_replay_changes.specs.ChangeOf.Where.{by_flusher, by_task, then_changes, where_flying, where_scanning, where_taken}
pub use Rattle.wbt_replay_changes.specs.ChangeOf.Writer.{decide_changes, dirty_changes, due_changes, end_changes, page_changes, work_changes, write_changes}
pub use Rattle.wbt_replay_changes.specs.Plain.{IsPlainMove}
pub use Rattle.wbt_replay_moves.specs.Definition.Check.{cgroup_line, check_of, decide_by, decide_for, decide_so, decision_at, global_line, told_task, writer_in, writer_of}
pub use Rattle.wbt_replay_moves.specs.Definition.Counters.{add, clear, count_kept, counted, fold, fold_of, held_after, holds, limits_kept, load_count, load_first, load_limits, load_middle, word_of}
pub use Rattle.wbt_replay_moves.specs.Definition.Cpu.{added, at_turn, checked, do_last, do_last_at, do_next, estimated, log_at, logged, owe_at, owed_to, own_of, then_do, with_own}
pub use Rattle.wbt_replay_moves.specs.Definition.Estimates.{estimate, estimate_to, sample_of}
pub use Rattle.wbt_replay_moves.specs.Definition.Flight.{complete_by, complete_first, complete_in, complete_page, land_by, land_in, landed, part_in, share, share_group, share_now, with_written}
pub use Rattle.wbt_replay_moves.specs.Definition.Forget.{extended, forgotten}
pub use Rattle.wbt_replay_moves.specs.Definition.Idle.{age, begin_idle, begin_test, finish, measure, note, noticed, rest_until, scan_of, take_first, take_last, take_now, take_or_finish, take_or_rest, tell, test_by, tested_by, told_by, unmark_by, unmark_in, unmark_of, waits, with_hard, with_pairs}
unfoldable pub use Rattle.wbt_replay_moves.specs.Definition.Idle.{domain_loads, measures_of, notice_all, weighs_of}
pub use Rattle.wbt_replay_moves.specs.Definition.Perform.{begin_for, begin_phase, begin_turn}
unfoldable pub use Rattle.wbt_replay_moves.specs.Definition.Perform.{make_move, make_step, make_timer_move, make_timer_step}
pub use Rattle.wbt_replay_moves.specs.Definition.Scan.{claim_by, claim_in, claim_now, close_by, close_in, close_items, fly, hand_over_by, hand_over_in, is_scan_over, keep_place, land_empty, look_by, look_in, looked_at, places_after}
pub use Rattle.wbt_replay_moves.specs.Definition.State.{State, count_of, cpu_of, domain_of, flusher_of, in_phase, is_drained, no_context, no_cpu, no_domain, no_flusher, no_held, no_step, no_task, no_waiting, plain_step, queue_of, task_of, waiting_of, with_count, with_cpu, with_domain, with_event, with_flusher, with_queue, with_task, with_waiting, with_writeback, writeback_of}
pub use Rattle.wbt_replay_moves.specs.Definition.Timer.{begin_timer, is_time, load, peak, period, period_to, periods, publish, rest, thresh, turn_items, unseal, with_timer}
unfoldable pub use Rattle.wbt_replay_moves.specs.Definition.Timer.{domain_periods, domain_turns}
pub use Rattle.wbt_replay_moves.specs.Definition.Weigh.{is_over_by_itself, over_noted, weigh, weighed_by}
pub use Rattle.wbt_replay_moves.specs.Definition.Writer.{begin_due, begin_page, begin_pause, begin_rest, begin_work, check_items, count_page, counted_local, counted_page, dirty, dirty_by, dirty_fresh, dirty_next, dirty_page, end_by, end_now, has_nothing, leaked, mark, passed_page, pause_in, without_page}
pub use Rattle.wbt_replay_moves.specs.Kept.Fit.{FlyingFits, HasCount, HasOwn, ReadFits}
pub use Rattle.wbt_replay_moves.specs.Seen.{seen}
pub use Rattle.wbt_replay_moves.specs.Steps.{steps_of}
pub use Rattle.wbt_replay_moves.specs.declared.state.Actor.{Actor}
pub use Rattle.wbt_replay_moves.specs.declared.state.Cpu.{Cpu}
pub use Rattle.wbt_replay_moves.specs.declared.state.Domain.{Domain}
pub use Rattle.wbt_replay_moves.specs.declared.state.Flusher.{Flusher}
pub use Rattle.wbt_replay_moves.specs.declared.state.Found.{Found}
pub use Rattle.wbt_replay_moves.specs.declared.state.Held.{Held}
pub use Rattle.wbt_replay_moves.specs.declared.state.ReplayJob.{ReplayJob}
pub use Rattle.wbt_replay_moves.specs.declared.state.ReplayPhase.{ReplayPhase}
pub use Rattle.wbt_replay_moves.specs.declared.state.ReplayTask.{ReplayTask}
pub use Rattle.wbt_replay_moves.specs.declared.state.ReplayTurn.{ReplayTurn}
pub use Rattle.wbt_replay_moves.specs.declared.state.ReplayWork.{ReplayWork}
pub use Rattle.wbt_replay_moves.specs.declared.state.Stretch.{Stretch}
pub use Rattle.wbt_replay_moves.specs.declared.state.Timer.{Timer}
pub use Rattle.wbt_replay_moves.specs.declared.state.Whose.{Whose}
pub use Rattle.wbt_replay_moves.specs.declared.state.Writeback.{Writeback}
pub use Rattle.wbt_replay_moves.specs.declared.todo.Silent.{Silent}
pub use Rattle.wbt_replay_moves.specs.declared.todo.Step.{Step}
pub use Rattle.wbt_replay_moves.specs.declared.todo.TimerSilent.{TimerSilent}
pub use Rattle.wbt_replay_moves.specs.declared.todo.TimerStep.{TimerStep}
pub use Rattle.wbt_replay_moves.specs.declared.todo.TimerTodo.{TimerTodo}
pub use Rattle.wbt_replay_moves.specs.declared.todo.Todo.{Todo}
pub use Rattle.wbt_replay_order.specs.Claims.Ages.{AgedWereDue}
pub use Rattle.wbt_replay_order.specs.Claims.Bound.{HasEnded, IsBounded, IsBoundedCloser, IsCounted, PeaksArePrinted, PrintsBound}
pub use Rattle.wbt_replay_order.specs.Claims.Cleaned.{AreCleaned, deeds_told}
pub use Rattle.wbt_replay_order.specs.Claims.Complete.{CompletesAll, written_in}
pub use Rattle.wbt_replay_order.specs.Claims.Decided.{AreDecided, EachFrom, IsDecided}
pub use Rattle.wbt_replay_order.specs.Claims.Ending.{is_made_by, is_over, may_step}
pub use Rattle.wbt_replay_order.specs.Claims.Left.{TellsLeft}
pub use Rattle.wbt_replay_order.specs.Claims.Path.{AreAmong, FoldsBehind, HasTriples, IsFollowed, KeepsLoads, change_entry, entries_of, events_told, events_with, folds_told, folds_with, founds_told, founds_with, held_as, is_decide, is_limits_of, plain_entry, reading_of, readings_told, readings_with, triples_told}
pub use Rattle.wbt_replay_order.specs.Claims.Setting.{inode_with, writer_at, writers_in}
unfoldable pub use Rattle.wbt_replay_order.specs.Claims.Setting.{setting_of}
pub use Rattle.wbt_replay_order.specs.Claims.Unfailing.{NeverFails, TellsNoFailure}
pub use Rattle.wbt_replay_order.specs.Claims.Whole.{IsAtHome, IsWhole}
pub use Rattle.wbt_replay_order.specs.Definition.Opening.{first_context, first_contexts, first_cpu, first_cpus, first_domain, first_domains, first_entries, first_flusher, first_flushers, first_limits, first_task, first_tasks, opening_moment, stretch_of, tasks_from, work_of, works_of}
unfoldable pub use Rattle.wbt_replay_order.specs.Definition.Opening.{opening}
pub use Rattle.wbt_replay_order.specs.Definition.Order.{actor_at, advance, advance_by, after, ahead_of, at_moment, begin, begin_job, begin_or_drop, chance_by, chance_of, cpu_ahead, cpu_on, cpu_turn, finish_turn, follow, go_on, is_ended, is_finished, is_full, is_halted, is_nothing, is_phase_ready, is_task_ready, job_at, job_turn, move_clock, next_moment, next_turn, phase_sooner, place_after, rotate_from, sooner, spend, step_or_stop, stop, take, take_turn, task_sooner, tick, timer_ahead, timer_on, timer_todo_ahead, timer_turn, todo_ahead, turn_at, with_orders}
unfoldable pub use Rattle.wbt_replay_order.specs.Definition.Order.{flushers_sooner, run, seek_job, seek_turn, task_turn, tasks_sooner}
pub use Rattle.wbt_replay_order.specs.Definition.Run.{base_of, bases_of, ending_of, last_state, left_from, most_moves, part_of, state_at, writer_homes}
unfoldable pub use Rattle.wbt_replay_order.specs.Definition.Run.{journal_of}
pub use Rattle.wbt_replay_order.specs.Definition.Strict.{most_pages, pages_after, part_used}
pub use Rattle.wbt_replay_order.specs.Definition.Tasks.{task_cpu}
pub use Rattle.wbt_replay_order.specs.Kept.Ending.{ArePaced, Ending, IsPaid, IsWithinHalt, StepsPay, ahead_cost, cpu_cost, flusher_cost, is_last, parts_cost, pause_cost, phase_cost, task_cost, timer_cost, timer_silent_cost, wait}
unfoldable pub use Rattle.wbt_replay_order.specs.Kept.Ending.{work_left}
pub use Rattle.wbt_replay_order.specs.Kept.Facts.{Facts, IsFlusherOn, IsJobOn, IsPageOf, IsTaskOn}
pub use Rattle.wbt_replay_order.specs.Kept.Following.{AreLoads, Follows, FollowsCpu, HoldsLoads, InCheck, Looked, Moves, OwesNothing, ScansInside, Suits, Tidy, bared, batch_on, batched, by, count_in, debts_in, grants, heights_of, is_closing, own_in, resumes, silently, turn_readings}
pub use Rattle.wbt_replay_order.specs.Kept.Further.{after_rests, after_waits, fits_further, latest_moment}
pub use Rattle.wbt_replay_order.specs.Kept.Horizon.{credit_in, credit_of, latest, most_ever, reserve, rest_of, rests_of, silent_ticks, step_ticks, ticks_of, timer_credit, until_of}
pub use Rattle.wbt_replay_order.specs.Kept.InRange.{IsInRange, StaysInRange}
pub use Rattle.wbt_replay_order.specs.Kept.Naming.{Naming, PartNamesInOrder}
pub use Rattle.wbt_replay_order.specs.Kept.Opens.{ended_idle}
pub use Rattle.wbt_replay_order.specs.Kept.Ranges.{IsInside, IsTurnOf, IsWorker, Ranges}
unfoldable pub use Rattle.wbt_replay_order.specs.Kept.Seeks.{seek_actor}
pub use Rattle.wbt_replay_order.specs.Kept.Sound.{AreContexts, AreCpus, AreDirtied, AreDomains, AreQueued, AreQueues, AreTasks, AreWritten, HasRoom, Holds, IsAgreed, IsAt, IsClosed, IsContext, IsCount, IsCpu, IsDomain, IsFlusher, IsRoom, IsStretch, IsTask, IsTurn, IsWhose, PublishesNext, Sound, TimerItemFits, WheelFits, WorkFits, WriterFits, dirtied_by, dirtied_of, flown_of, is_at_work, is_running, is_stopped, leaks_of, most_counted, rests_at_end, working_on, written_of}
pub use Rattle.wbt_replay_order.specs.Kept.Strict.{ChecksFit, no_tally}
pub use Rattle.wbt_replay_order.specs.Kept.Turns.{Agrees, AreFrom, AreInOrder, AreOthers, FlusherAgrees, IsCounter, IsFlying, IsIdle, IsOpen, IsOpenAt, IsScanning, IsTaken, ItemFits, Settles, TaskAgrees, WritesNext, closes_in, floor_of, is_measured, is_settling, rank_of, settles_next}
pub use Rattle.wbt_replay_order.specs.Kept.Waiting.{AreBefore, AreListed, IsAwaited, IsPlaced, IsServed, IsStillOpen, IsTakeable, Waiting, is_end, is_hand_over, is_mark_of, owes_mark, pairs_in}
pub use Rattle.wbt_replay_order.specs.Kept.Waiting.IsAwaited.{owed, scanned, takeable}
pub use Rattle.wbt_replay_order.specs.Kept.Waiting.IsTakeable.{listed, queued, taken}
pub use Rattle.wbt_rules.specs.Age.{due_after, is_ageing}
unfoldable pub use Rattle.wbt_rules.specs.Age.{ages_in, expire_ticks}
unfoldable pub use Rattle.wbt_rules.specs.First.{first_estimate}
unfoldable pub use Rattle.wbt_rules.specs.Flusher.{quota_of}
pub use Rattle.wbt_rules.specs.Pace.{pace_of, pause_of}
pub use Rattle.wbt_rules.specs.Places.{IsAhead, page_of}
unfoldable pub use Rattle.wbt_rules.specs.Places.{page_at}
unfoldable pub use Rattle.wbt_rules.specs.Strict.{is_strict}
pub use Rattle.wbt_rules.specs.Things.{context_at, context_of, device_at, device_of, flusher_cpu, flusher_device, group_of, inode_of, max_share}
pub use Rattle.wbt_rules.specs.declared.age.TheConstants.{MOST_NOTICED}
pub use Rattle.wbt_rules.specs.declared.moments.TheConstants.{ESTIMATE_AGE, FLUSHER_REST}
pub use Rattle.wbt_rules.specs.declared.scan.Scan.{Scan}
pub use Rattle.wbt_run_laws.proofs.Lefts.{eqb_turned}
pub use Rattle.wbt_run_laws.proofs.Lists.{all_rest, and_both, each_append, each_both, each_of_all, each_weaker, flat_append, longer_none}
pub use Rattle.wbt_run_laws.proofs.Parts.{each_cpu, each_item, each_joined, joined, told_is}
pub use Rattle.wbt_run_laws.proofs.Walking.{walked_more, walks_silent}
pub use Rattle.wbt_run_laws.specs.Entries.{is_check}
pub use Rattle.wbt_run_laws.specs.Grew.{event_in, onto}
pub use Rattle.wbt_run_laws.specs.Held.{WereHeld, limits_of}
pub use Rattle.wbt_run_laws.specs.Notes.{newer}
pub use Rattle.wbt_run_laws.specs.Owns.{IsOwn}
pub use Rattle.wbt_run_laws.specs.Walks.{Walked, Walks, items_told}
pub use Rattle.wbt_strict.specs.Bound.{greatest_reading}
unfoldable pub use Rattle.wbt_strict.specs.Decision.{decision_for}
unfoldable pub use Rattle.wbt_task.specs.Allowance.{ended, first, page_after}
pub use Rattle.wbt_task.specs.History.{checked_writer, wrote_page, wrote_writer}
unfoldable pub use Rattle.wbt_task.specs.History.{new_writer}
pub use Rattle.wbt_task.specs.declared.allowance.CpuLocal.{CpuLocal}
pub use Rattle.wbt_task.specs.declared.allowance.Due.{Due}
pub use Rattle.wbt_task.specs.declared.history.Writer.{Writer}
pub use Rattle.wbt_trace.specs.Lawful.{AreFirsts, IsAction, IsLawful, IsPace, writers_after, writers_of}
pub use Rattle.wbt_trace.specs.Sofar.{pages_in}
pub use Rattle.wbt_trace.specs.WriterList.{is_writer}
pub use Rattle.wbt_trace.specs.declared.ranges.TheConstants.{MOST_COUNT}
pub use Rattle.wbt_trace.specs.declared.trace.Action.{Action}
pub use Rattle.wbt_trace.specs.declared.trace.Action.TheVariants.{Rest, Write}
pub use Rattle.wbt_trace.specs.declared.trace.Device.{Device}
pub use Rattle.wbt_trace.specs.declared.trace.FlusherLine.{FlusherLine}
pub use Rattle.wbt_trace.specs.declared.trace.Inode.{Inode}
pub use Rattle.wbt_trace.specs.declared.trace.Pace.{Pace}
pub use Rattle.wbt_trace.specs.declared.trace.TaskLine.{TaskLine}
pub use Rattle.wbt_trace.specs.declared.trace.Trace.{Trace}
