-- Names that many of the proofs on this crate cite.
pub use Rattle.wbt_flusher.specs.Ageing.{NoticesBefore}
pub use Rattle.wbt_flusher.specs.Ages.{HasWheel, WasTold, pairs_of}
pub use Rattle.wbt_flusher.specs.Answers.{FlusherAnswers, Goes, GoesAt, GoesKept, GoesQuiet, IsReady, Went, wait_of}
pub use Rattle.wbt_flusher.specs.Did.{AreCounted, AreOwed, Did, Fits, HasRooms, IsTimed, KeepsDebts, Moments, OwesNothing, Works, handed, no_moments}
pub use Rattle.wbt_flusher.specs.Kinds.{AreCounts}
pub use Rattle.wbt_flusher.specs.Loads.{ReadOthers}
pub use Rattle.wbt_flusher.specs.Plans.{IsInode, IsPlan, IsPlanOf, IsWork, Suits, context_at, context_of, end_of, inode_at}
pub use Rattle.wbt_flusher.specs.Reads.{MeasuresBefore}
pub use Rattle.wbt_flusher.specs.Sights.{OwesMark, OwesRescan, Sight, all_completions, completions, first_tallies, flusher_in, held_cpus, is_completion, is_inside, landed_in, list_by, notes_by, notes_of, owed_by, owing, owing_total, pages_by, pages_in, phase_by, record_in, shown_of, sight, tallies_of, tally_in, with_tally}
pub use Rattle.wbt_flusher.specs.Turns.{AreOf, ArePlaces, AreProper, HasLists, HoldsPages, IsFlight, IsIdle, IsPhase, IsScan, IsSteady, IsWithinQuota, KeepsPlace, OnlyTallies, OnlyWaiting, OwesInodeNothing, PutsBefore, owing_more}
pub use Rattle.wbt_flusher.specs.Weighs.{WeighsBefore}
pub use Rattle.wbt_grant.specs.declared.who.Who.TheVariants.{Cpu}
pub use Rattle.wbt_kit.proofs.Common.{Changes, Context, Counter, CpuJournal, CpuRecord, Cpus, Device, Domain, Due, Each, EstEntry, Estimate, FlusherLine, Grows, Has, HasCounter, IsAhead, Known, Load, MOST_FAULTS, MOST_PAGE_STEPS, Makes, Note, Owed, Scan, Seated, Setting, Told, Trace, Triple, Waiting, added_at, added_to, after_read, claim, complete, contexts, count, domains, effect, first_in, known_of, look, mark, no_seat, note_of, one_if, page_of, record_after, room_of, same_default, setting, share, times, times_in, unmark}
unfoldable pub use Rattle.wbt_kit.proofs.Common.{AreInOrder, begun}
pub use Rattle.wbt_kit.specs.declared.kit.Kit.{Kit}
pub use Rattle.wbt_kit.specs.declared.kit.Seats.{Seats}
pub use Rattle.wbt_kit.specs.declared.turn.Turn.{Turn}
pub use Rattle.wbt_kit.specs.declared.turn.Turn.TheVariants.{Done, Faulted, Halted, NoMemory, Resting, Spent, Stepped}
pub use Rattle.wbt_run_laws.proofs.Growing.{by_nothing}
pub use Rattle.wbt_run_laws.proofs.Lists.{gained_none, here, longer_none}
pub use Rattle.wbt_run_laws.proofs.Logging.{logged_entry, logged_nothing}
pub use Rattle.wbt_run_laws.proofs.Stepping.{steps_grow, untold_grows}
pub use Rattle.wbt_run_laws.proofs.Walking.{IsSilent, walked_none, walked_silent, walks_silent}
pub use Rattle.wbt_run_laws.specs.Elsewhere.{IsPlain}
pub use Rattle.wbt_run_laws.specs.Grew.{Grew}
pub use Rattle.wbt_run_laws.specs.Log.{Logged, with_entry}
pub use Rattle.wbt_run_laws.specs.Noted.{NotedFlusherTurn}
pub use Rattle.wbt_run_laws.specs.Notes.{Longer, SharesGrew}
pub use Rattle.wbt_run_laws.specs.Owns.{IsOfFlusher, IsOwn}
pub use Rattle.wbt_run_laws.specs.Phases.{Flew, FliesInTurn, flusher_after}
pub use Rattle.wbt_run_laws.specs.Steps.{Gathered}
pub use Rattle.wbt_run_laws.specs.Waits.{Waited}
pub use Rattle.wbt_run_laws.specs.Walks.{items_told}
pub use Rattle.wbt_run_laws.specs.Worker.{Worker}
pub use Rattle.wbt_run_steps.proofs.Changing.{record_is}
pub use Rattle.wbt_run_steps.proofs.Gating.{asked_more, asked_none, asked_once, once_made}
pub use Rattle.wbt_run_steps.proofs.Logging.{makes_as, none_as}
pub use Rattle.wbt_run_steps.proofs.Queues.{only_same}
pub use Rattle.wbt_run_steps.specs.Gate.{AskedBeforeEach}
pub use Rattle.wbt_run_steps.specs.Inodes.{OnlyQueue}
pub use Rattle.wbt_run_steps.specs.Kinds.{Steps}
pub use Rattle.wbt_run_steps.specs.Loads.{load_of, triple_of}
pub use Rattle.wbt_run_steps.specs.Pens.{Paper}
pub use Rattle.wbt_run_steps.specs.Queues.{OnlyDevice}
pub use Rattle.wbt_run_steps.specs.Records.{IsApart, OnlyCpu, record_of}
pub use Rattle.wbt_run_steps.specs.Steps.{Settled}
pub use Rattle.wbt_run_steps.specs.declared.loads.DomainLoad.{DomainLoad}
pub use Rattle.wbt_turns.specs.Words.{IsSettled, MayTake}
