-- Names that many of the proofs on this crate cite.
pub use Rattle.atomic_table.proofs.Lists.{at_set, set_else, set_here}
pub use Rattle.atomic_table.specs.Seated.{TableId}
pub use Rattle.wbt_book.specs.Book.{Bits}
pub use Rattle.wbt_book.specs.Counts.{net}
pub use Rattle.wbt_book.specs.Ledger.{times_in}
pub use Rattle.wbt_book.specs.PageWords.{all_but, bits_at}
pub use Rattle.wbt_counter.proofs.Debts.{is_same-itself}
pub use Rattle.wbt_counter.proofs.Sums.{put_same}
pub use Rattle.wbt_counter.specs.Account.{amount, to_clear}
pub use Rattle.wbt_counter.specs.Addends.{addend_of, local_in}
pub use Rattle.wbt_counter.specs.Counters.{debt_to, is_same}
pub use Rattle.wbt_counter.specs.Sums.{one_if, put}
pub use Rattle.wbt_counter.specs.Word.{IsPackable, own_word, packed, version_in}
pub use Rattle.wbt_counter.specs.declared.counter.Counter.{Counter}
pub use Rattle.wbt_counter.specs.declared.counter.Counter.TheVariants.{Context, Domain}
pub use Rattle.wbt_counter.specs.declared.record.Debt.{Debt}
pub use Rattle.wbt_counter.specs.declared.record.Debt.TheVariants.{ClearDue, Event, FoldDue}
pub use Rattle.wbt_counter.specs.declared.record.Owed.{Owed}
pub use Rattle.wbt_grant.proofs.Whole.{step_keeps}
pub use Rattle.wbt_grant.specs.Kinds.{Allowed, MayGrant, Step, add, after, back, claim, clear, complete, count, dirty, first, fold, grant, last_found, limits, look, mark, middle, peak, publish, sequence_now, thresh, unmark, unseal}
pub use Rattle.wbt_grant.specs.Record.{claimed, granted, looked, one_more, owing_mark, passed, with_writer}
pub use Rattle.wbt_grant.specs.Rule.{Rule}
pub use Rattle.wbt_grant.specs.Seats.{RecordAllows, cpu_for, is_by_timer, look_record, maker_of, own_told, record_after, timer_after}
pub use Rattle.wbt_grant.specs.Setting.{FitsWords, IsSetting, Setting, batch_of, covers}
pub use Rattle.wbt_grant.specs.State.{State, found_of, held_of, holding, is_sealed, no_record, opening, sequence_of, stage_of, version_of, writer_in}
pub use Rattle.wbt_grant.specs.declared.record.CpuRecord.{CpuRecord}
pub use Rattle.wbt_grant.specs.declared.record.DomainLimits.{DomainLimits}
pub use Rattle.wbt_grant.specs.declared.record.Finding.TheVariants.{Words}
pub use Rattle.wbt_grant.specs.declared.record.TimerRecord.{TimerRecord}
pub use Rattle.wbt_grant.specs.declared.record.WriterRecord.{WriterRecord}
pub use Rattle.wbt_grant.specs.declared.who.Who.{Who}
pub use Rattle.wbt_grant.specs.declared.who.Who.TheVariants.{Cpu, Timer, Writer}
pub use Rattle.wbt_limits.specs.Words.{sequence_in, thresh_word_of}
pub use Rattle.wbt_num.specs.Limits.{IsLawful}
pub use Rattle.wbt_num.specs.declared.limits.Limits.{Limits}
pub use Rattle.wbt_num.specs.declared.limits.TheConstants.{LAST_SEQUENCE}
pub use Rattle.wbt_table.specs.Calls.{CanComplete, CanDirty, MakesAll, at_once, is_whole_load, looked_at, owing_event, triple_in}
pub use Rattle.wbt_table.specs.Census.{Counted, OwnFits, word_at}
pub use Rattle.wbt_table.specs.Held.{IsKept, KeepsSequences, KeepsTriples, first_triple, no_triple, triple_number, triple_of}
pub use Rattle.wbt_table.specs.History.{LogsGrant, Made, Past, log_of, logged, state_after, timer_log_of}
pub use Rattle.wbt_table.specs.Layout.{HasCounter, IsLayout, counters, domains, first_sequence_word, inode_at, limits_from, mark_at, no_limits, no_place, no_writer, own_at, page_at, pages_in, peak_at, sequence_at, setting, shared_at, stride, thresh_at, width}
pub use Rattle.wbt_table.specs.Rule.{Cpus, Found, GrantedStep, Has, HasLog, Holds, Kept, LogChanges, Logs, MayGive, Sat, Shows, Turned, both_of, first_view, given, merged, or_else, put_log, put_record}
pub use Rattle.wbt_table.specs.Seat.{Agrees, Changes, IsDue, IsSeat, IsTold, Keeps, KeepsLefts, KeepsTimer, Knows, LogComes, LogsOne, Makes, Seated, Shape, States, as_timer, debts_in, page_stepped, put_state, seated, stepped, with_grant, with_grants}
pub use Rattle.wbt_table.specs.Settle.{OwesFirst, OwesLater, with_due}
pub use Rattle.wbt_table.specs.Steps.{IsReady, turn}
