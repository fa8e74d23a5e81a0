-- Names that many of the proofs on this crate cite.
pub use Rattle.wbt_book.specs.declared.event.Event.{Event}
pub use Rattle.wbt_flusher.specs.Answers.{FlusherAnswers, IsReady, IsUntouched, Went}
pub use Rattle.wbt_flusher.specs.Did.{Moments, handed, no_moments, waited_at}
pub use Rattle.wbt_flusher.specs.Plans.{Suits}
pub use Rattle.wbt_flusher.specs.Sights.{OwesMark, OwesRescan, Sight, list_by, owing, owing_total, pages_by, phase_by, shown_by, sight}
pub use Rattle.wbt_flusher.specs.Turns.{IsPhase, IsSteady}
pub use Rattle.wbt_flusher.specs.declared.plan.FlusherPlan.{FlusherPlan}
pub use Rattle.wbt_flusher.specs.declared.work.Phase.{Phase}
pub use Rattle.wbt_flusher.specs.declared.work.Phase.TheVariants.{Failed}
pub use Rattle.wbt_journal.specs.Effects.{Write}
pub use Rattle.wbt_kit.proofs.Common.{AreFirst, AreSeatsOf, CheckEntry, CpuJournal, CpuRecord, Cpus, Each, Ending, EstEntry, Flight, FlusherLine, Grows, Has, HasCpu, HasLog, HasNoPageSteps, HasRisen, HasRisenBy, HasTimer, HoldsAll, IsKitOf, IsLawful, Layout, Limits, Logged, MOST_PAGE_STEPS, NamesInOrder, Seated, StepKind, TableId, TimerEntry, TimerRecord, Told, Trace, Wait, absorbs, after, all_times, completes, contexts, deeds_of, dirties, domains, effect, first_estimates, is_fault, known_of, moment_of, no_record, one_if, setting, times, times_in, total, total_same}
pub use Rattle.wbt_kit.specs.declared.kit.Kit.{Kit}
pub use Rattle.wbt_kit.specs.declared.kit.Seats.{Seats}
pub use Rattle.wbt_kit.specs.declared.turn.Turn.{Turn}
pub use Rattle.wbt_run_laws.proofs.Effects.{if_none, if_weaker}
pub use Rattle.wbt_run_laws.proofs.Lists.{each_append, each_weaker}
pub use Rattle.wbt_run_laws.proofs.Noting.{noted_more, noted_now}
pub use Rattle.wbt_run_laws.specs.Grew.{Grew}
pub use Rattle.wbt_run_laws.specs.Noted.{NotedFlusherTurn, NotedSince}
pub use Rattle.wbt_run_laws.specs.Notes.{Notes}
pub use Rattle.wbt_run_laws.specs.Owns.{IsOfFlusher}
pub use Rattle.wbt_run_laws.specs.Phases.{Flew}
pub use Rattle.wbt_run_laws.specs.Shown.{Shown, ShownFlusher, first_shown, none_shown}
pub use Rattle.wbt_run_laws.specs.Waits.{Waited}
pub use Rattle.wbt_run_laws.specs.Worker.{Worker, empty_log}
pub use Rattle.wbt_run_seats.proofs.Firsts.{first_held}
pub use Rattle.wbt_run_seats.proofs.Opening.{kit_is_opened}
pub use Rattle.wbt_run_seats.specs.Gathered.{AreGathered}
pub use Rattle.wbt_run_seats.specs.Opened.{first_notes}
pub use Rattle.wbt_run_seats.specs.Parts.{noted, owner_of}
pub use Rattle.wbt_run_seats.specs.Rooms.{AreBacked}
pub use Rattle.wbt_run_steps.proofs.Changing.{record_is}
pub use Rattle.wbt_run_steps.proofs.Queues.{puts_none}
pub use Rattle.wbt_run_steps.specs.Kinds.{Steps, StepsInTurn, kinds_in}
pub use Rattle.wbt_run_steps.specs.Records.{IsApart, firsts_of, record_of}
pub use Rattle.wbt_run_steps.specs.Steps.{IsStopped}
pub use Rattle.wbt_run_worker.specs.Answers.{CutsOff, EndsSo, Goes, JobAnswers, job_by}
pub use Rattle.wbt_run_worker.specs.Course.{HasRun}
pub use Rattle.wbt_run_worker.specs.Rotation.{HasNothingToDo, StandsStill, taker}
pub use Rattle.wbt_run_worker.specs.Rounds.{JobTakes, JobWaits}
pub use Rattle.wbt_run_worker.specs.Side.{ArePosted, HaveEnded, IsDesk, IsPost, IsSide, Stands}
pub use Rattle.wbt_run_worker.specs.Team.{AnyOf, AreApart, Seen, Team, both_told, claimed_by, failed_in, faults_in, flusher_at, owed_by, owed_in, owed_total, owed_totals, seen, team_of, worker_of, written_by}
pub use Rattle.wbt_run_worker.specs.Ticking.{MayTick, Ticks}
pub use Rattle.wbt_run_worker.specs.Voices.{HasSpoken, TimerSpeaks}
pub use Rattle.wbt_run_worker.specs.Went.{AreStill, Idled, IsFaulted, IsStill, IsTold, StandsStay, TeamWent}
pub use Rattle.wbt_run_worker.specs.Words.{AreWordsBy}
pub use Rattle.wbt_signals.specs.Signals.{Known}
pub use Rattle.wbt_timer.specs.Turn.{SeatsStay}
pub use Rattle.wbt_turns.specs.Words.{IsCutOff, IsTimerTurn, IsTurn, IsWhole}
pub use Rattle.wbt_writer.specs.Desk.{Desk}
pub use Rattle.wbt_writer.specs.declared.tasks.Tasks.{Tasks}
