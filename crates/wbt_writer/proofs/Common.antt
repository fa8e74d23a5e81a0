-- Names that many of the proofs on this crate cite.
pub use Rattle.wbt_counter.specs.declared.counter.Counter.TheVariants.{Context}
pub use Rattle.wbt_kit.proofs.Common.{Action, AllHavePagesLeft, Already, Changes, CheckEntry, Checked, Count, Counter, Cpu, CpuJournal, CpuRecord, Decision, Dirtied, Domain, DomainLimits, DomainLine, Each, Ended, Estimate, Fresh, Has, HasCounter, Holds, Inode, IsCounted, IsInRange, IsLawful, Kind, MOST_PAGES, MOST_PAGE_STEPS, Makes, MayGrant, Pace, Rest, Seated, Setting, Side, TaskLine, TaskState, Told, Trace, Triple, Write, Writer, WriterRecord, all_writers, at_least_zero, cgroup_reads, checked, context_at, context_domain, contexts, count, counted, dirtied_by, end_task, first_side, held_of, inode_at, is_due, is_none_due, is_own_task, item, known_of, mark, note_of, number_from, number_of, numbers_from, others_stay, pace_of, pages_of_action, pages_of_task, ratelimit_pages, reads_of, record_after, rests_last, same_writers, setting, settle, side_after, since_after, task_of, tells, times_in, with_page, write_fresh, writer_in, writer_of, wrote}
unfoldable pub use Rattle.wbt_kit.proofs.Common.{cpu_after, cpu_step, is_strict, new_cpu, new_writer}
pub use Rattle.wbt_kit.specs.declared.kit.Kit.{Kit}
pub use Rattle.wbt_kit.specs.declared.kit.Seats.{Seats}
pub use Rattle.wbt_kit.specs.declared.turn.Turn.TheVariants.{Done, Halted, Resting, Spent, Stepped}
pub use Rattle.wbt_pause.specs.declared.decision.Kind.TheVariants.{Wait}
pub use Rattle.wbt_run_laws.proofs.Lists.{each_map, longer_none}
pub use Rattle.wbt_run_laws.proofs.Stepping.{steps_grow}
pub use Rattle.wbt_run_laws.specs.Grew.{Grew}
pub use Rattle.wbt_run_laws.specs.Held.{IsHeld, WereHeld, limits_in, limits_of}
pub use Rattle.wbt_run_laws.specs.Log.{Logged}
pub use Rattle.wbt_run_laws.specs.Notes.{EstimatesGrew, Longer, Notes, SharesGrew}
pub use Rattle.wbt_run_laws.specs.Owns.{IsOwn}
pub use Rattle.wbt_run_laws.specs.Shown.{SideWalked, Wrote}
pub use Rattle.wbt_run_laws.specs.Throttle.{writer_at}
pub use Rattle.wbt_run_steps.proofs.Changing.{apart_more, record_is}
pub use Rattle.wbt_run_steps.proofs.Gating.{asked_more, asked_none, asked_once, once_made}
pub use Rattle.wbt_run_steps.proofs.Logging.{none_as, takes_none}
pub use Rattle.wbt_run_steps.specs.Loads.{held_as, one, triple_of}
pub use Rattle.wbt_run_steps.specs.Made.{MakesEach, MakesSome, domain_steps}
pub use Rattle.wbt_run_steps.specs.Records.{OnlyCpu, record_of}
pub use Rattle.wbt_run_steps.specs.Steps.{IsStopped}
pub use Rattle.wbt_run_steps.specs.declared.loads.DomainLoad.{DomainLoad}
pub use Rattle.wbt_table.specs.Layout.{domains}
unfoldable pub use Rattle.wbt_task.specs.Allowance.{first}
pub use Rattle.wbt_task.specs.declared.allowance.Due.{Due}
pub use Rattle.wbt_writer.specs.Ahead.{HasPage, IsAlong, Skips, first_page}
pub use Rattle.wbt_writer.specs.Answers.{Turned}
pub use Rattle.wbt_writer.specs.Asked.{Gives, given_by, reads_for}
pub use Rattle.wbt_writer.specs.Checks.{Checks}
pub use Rattle.wbt_writer.specs.Choice.{AllEnded}
pub use Rattle.wbt_writer.specs.Counted.{AreTasksOf, GoesOn, IsLast, IsTaskOf, KeepsFixed, OnlyEnds, OthersStay, all_todo, cpu_of, is_due_at, no_name, no_task, rest_after, side_of, state_of, task_at, written_of}
pub use Rattle.wbt_writer.specs.Desk.{AreAt, AreProper, Fits, HaveLefts, HaveRead, IsGoing, OwesNothing, Sight, fractions_of, no_fractions, notes_of, record_in, sight}
pub use Rattle.wbt_writer.specs.Did.{Did, Does, IsTimed, Keeps, OnlyPuts}
pub use Rattle.wbt_writer.specs.Kinds.{StepsToDirty}
pub use Rattle.wbt_writer.specs.Lines.{HasGroupLine, HasLines, LinesRead, fractions_after}
pub use Rattle.wbt_writer.specs.Loads.{Gets, IsGroup, LoadedAll, LoadedSome, OnTable, group_triples, loads_in, triples_in}
pub use Rattle.wbt_writer.specs.Over.{AreOver, IsOver, own_of}
pub use Rattle.wbt_writer.specs.Took.{IsCheck}
pub use Rattle.wbt_writer.specs.Writes.{CutOff, Dirties}
