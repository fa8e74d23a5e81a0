-- Names that many of the proofs on this crate cite.
pub use Rattle.wbt_book.proofs.Words.{words_follow}
pub use Rattle.wbt_counter.proofs.Sums.{total_same}
unfoldable pub use Rattle.wbt_counter.specs.Batch.{context_batch, domain_batch}
pub use Rattle.wbt_counter.specs.Counters.{is_same}
pub use Rattle.wbt_counter.specs.Sums.{one_if, total}
pub use Rattle.wbt_counter.specs.declared.counter.Counter.{Counter}
pub use Rattle.wbt_counter.specs.declared.record.Fold.{Fold}
pub use Rattle.wbt_counter.specs.declared.record.Reading.{Reading}
unfoldable pub use Rattle.wbt_estimate.specs.Estimate.{first_at}
pub use Rattle.wbt_estimate.specs.declared.estimate.Estimate.{Estimate}
pub use Rattle.wbt_expiry.specs.declared.due.Due.{Due}
pub use Rattle.wbt_flex.specs.declared.share.Fraction.{Fraction}
unfoldable pub use Rattle.wbt_fraction.specs.Laws.{Falls, begun}
pub use Rattle.wbt_fraction.specs.Notes.{added_at}
pub use Rattle.wbt_fraction.specs.declared.domain.note.Note.{Note}
pub use Rattle.wbt_fraction.specs.declared.domain.note.Note.TheVariants.{Added, Found, Period}
pub use Rattle.wbt_grant.specs.Setting.{Setting}
pub use Rattle.wbt_grant.specs.State.{no_record}
pub use Rattle.wbt_grant.specs.declared.record.CpuRecord.{CpuRecord}
pub use Rattle.wbt_grant.specs.declared.record.DomainLimits.{DomainLimits}
pub use Rattle.wbt_journal.proofs.Parting.{along_more}
pub use Rattle.wbt_journal.specs.Counts.{CountsAreFresh, fold_in, is_behind, reads_of, versions_after}
pub use Rattle.wbt_journal.specs.Each.{Each}
pub use Rattle.wbt_journal.specs.Effects.{Flight, Write, effect, of_part}
pub use Rattle.wbt_journal.specs.Estimates.{Follows, NamesGoOn, estimates_of, names_after}
pub use Rattle.wbt_journal.specs.Flights.{MayMove, ToldFlusher, moved}
pub use Rattle.wbt_journal.specs.Items.{Item, all_told, begins, items_from, parts_of, tells}
pub use Rattle.wbt_journal.specs.Machine.{contexts, domains, pages, pages_of_task}
pub use Rattle.wbt_journal.specs.Pages.{writes_after}
pub use Rattle.wbt_journal.specs.Reads.{PeriodsGoOn, periods_after}
pub use Rattle.wbt_journal.specs.Side.{Event, Side, first_side, is_own_task, item, side_after}
pub use Rattle.wbt_journal.specs.Timer.{TimerGoesOn, lines_after}
pub use Rattle.wbt_journal.specs.Told.{Told, told}
pub use Rattle.wbt_journal.specs.Walk.{Along, after}
pub use Rattle.wbt_journal.specs.declared.entry.CheckEntry.{CheckEntry}
pub use Rattle.wbt_journal.specs.declared.entry.DomainLine.{DomainLine}
pub use Rattle.wbt_journal.specs.declared.entry.EstEntry.{EstEntry}
pub use Rattle.wbt_journal.specs.declared.journal.Journal.{Journal}
pub use Rattle.wbt_journal.specs.declared.timer.TimerEntry.{TimerEntry}
unfoldable pub use Rattle.wbt_limits.specs.Thresholds.{background_below, global_threshold, threshold, thresholds_of}
unfoldable pub use Rattle.wbt_num.specs.Arithmetic.{halvings, log2}
pub use Rattle.wbt_num.specs.declared.limits.Limits.{Limits}
pub use Rattle.wbt_pause.specs.Reads.{IsCounted}
pub use Rattle.wbt_pause.specs.declared.reads.Task.{Task}
pub use Rattle.wbt_published.proofs.Places.{first_version}
pub use Rattle.wbt_published.specs.Known.{first_in, first_one}
pub use Rattle.wbt_published.specs.Publishing.{IsAmong}
pub use Rattle.wbt_published.specs.declared.known.Known.{Known}
pub use Rattle.wbt_rules.specs.First.{first_estimates}
pub use Rattle.wbt_run_laws.specs.Closed.{first_lines}
pub use Rattle.wbt_run_laws.specs.Grew.{Gained, Grew, HasSeen, onto}
pub use Rattle.wbt_run_laws.specs.Held.{WereHeld, limits_in}
pub use Rattle.wbt_run_laws.specs.Noted.{NotedSince}
pub use Rattle.wbt_run_laws.specs.Notes.{EstimatesGrew, HasNamed, IsKept, IsNewest, IsTold, KeepsPeriods, Longer, SharesGrew, TellsKept, newer}
pub use Rattle.wbt_run_laws.specs.OnePage.{one_end, one_first, one_last, one_notes, one_setting, one_trace}
pub use Rattle.wbt_run_laws.specs.Owns.{IsOwn, IsOwnCheck, IsOwnFlight}
pub use Rattle.wbt_run_laws.specs.Phases.{FliesInTurn, flusher_after}
pub use Rattle.wbt_run_laws.specs.Shown.{HaveWritten, SideWalked, first_shown}
pub use Rattle.wbt_run_laws.specs.Small.{knows, knows_nothing, of_first}
pub use Rattle.wbt_run_laws.specs.Throttle.{left_from}
pub use Rattle.wbt_run_laws.specs.Ticks.{AreInOrder, TimerSince, begun_at_once, period_line}
pub use Rattle.wbt_run_laws.specs.Waits.{WaitsInTurn, list_after}
pub use Rattle.wbt_run_laws.specs.Walks.{Walks, items_told}
pub use Rattle.wbt_run_laws.specs.Worked.{NoneFailed, Run, Worked, part_at}
unfoldable pub use Rattle.wbt_task.specs.Allowance.{ended, first, page_after}
unfoldable pub use Rattle.wbt_task.specs.History.{cpu_after, cpu_step, new_cpu, new_writer}
pub use Rattle.wbt_trace.specs.declared.trace.Trace.{Trace}
