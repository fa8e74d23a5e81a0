-- What is claimed of the ordered run of a trace and of its journal, by subject.
use Rattle.std.specs.Prelude.{◌≡◌, length}
use Rattle.wbt_trace.specs.declared.trace.Trace.{Trace}
use Rattle.wbt_journal.specs.Lawful.{FlushersAreInTurn, FoundWereDirtied, IsLegal, LedgerIsEven, LeftIsBounded, LeftPagesAreThere, WaitsAreOwn, WritesAreInOrder}
use Rattle.wbt_journal.specs.declared.journal.Journal.{Journal}
use Rattle.wbt_replay_order.specs.Claims.Ages.{AgedWereDue}
use Rattle.wbt_replay_order.specs.Claims.Bound.{IsBounded, IsBoundedCloser, IsCounted, PeaksArePrinted, PrintsBound, HasEnded}
use Rattle.wbt_replay_order.specs.Claims.Cleaned.{AreCleaned}
use Rattle.wbt_replay_order.specs.Claims.Complete.{CompletesAll}
use Rattle.wbt_replay_order.specs.Claims.Ending.{EndsSo}
use Rattle.wbt_replay_order.specs.Claims.Left.{TellsLeft}
use Rattle.wbt_replay_order.specs.Claims.Strict.{StaysWithinStrict}
use Rattle.wbt_replay_order.specs.Claims.Unfailing.{NeverFails}
use Rattle.wbt_replay_order.specs.Definition.Run.{journal_of}
use Rattle.wbt_replay_turns.specs.Clock.{ClockIsRight}
use Rattle.wbt_replay_turns.specs.Lines.{ObeysOrder}
use Rattle.wbt_replay_turns.specs.Rotation.{TurnsAreFair}
use Rattle.wbt_replay_turns.specs.Schedules.{ShowsSchedules}
use Rattle.wbt_replay_turns.specs.Words.{TakesTurns}

-- What becomes of pages that are dirtied.
pub record AreAccounted (trace : Trace) : Type 0 where
  -- At each moment each fresh write that was told has been claimed and completed once, or its page is dirty or under writeback.
  pub cleaned : AreCleaned trace
  -- No fault is told, and no page that was given back: the disks of a replay never fail.
  pub unfailing : NeverFails trace
  -- Each page that a write found dirty was dirtied by a write that the journal tells.
  pub found_were_dirtied : FoundWereDirtied (journal_of trace)
  -- The pages that are told as left are those that are dirty or under writeback at the end.
  pub left : TellsLeft trace

-- What is printed of each domain's count, and within which bound it stays.
pub record StaysWithin (trace : Trace) : Type 0 where
  -- Each count that the journal's text prints is the exact count of the book after its step.
  pub counted : IsCounted trace
  -- Each bound that it prints is the domain's own: its peak so far, and what the CPUs, the writers and the contexts add.
  pub bound : PrintsBound trace
  -- Each peak is the greatest hard limit that the timer has printed for its domain, or is about to print.
  pub peaks : PeaksArePrinted trace
  -- Each count that the text prints is at most the bound that it prints beside it.
  pub bounded : IsBounded (journal_of trace)
  -- At each moment the exact count of each domain is at most the closer bound, which is twice the error less where the hard limit with
  -- the batches is at least twice the error.
  pub bounded_closer : IsBoundedCloser trace
  -- Each context of a strict device has its line, which tells the greatest exact count that the context had, and the bound of the
  -- context, within which it stayed at each moment.
  pub strict : StaysWithinStrict trace

-- Each point of a lawful journal but the one on its ending: the run may be spent.
pub record HasPoints (trace : Trace) (journal : Journal) : Type 0 where
  -- It is legal: folds, counts, triples, fractions, periods, estimates, checks, the timer's lines and the waiting lists are right.
  pub legal : IsLegal trace journal
  -- Each CPU has its part.
  pub parts : length journal.cpus ≡ trace.cpus
  -- The pages that a task wrote are the first of its pages, in order, in the part of its CPU.
  pub writes : WritesAreInOrder trace journal
  -- Each page that is left is a page of the trace.
  pub left_pages : LeftPagesAreThere trace journal
  -- Each page was claimed and completed as often as it was dirtied, but for what is left.
  pub ledger : LedgerIsEven trace journal
  -- Each flusher claims pages, hands all of them to its disk, and completes them in order, in the part of its CPU.
  pub flights : FlushersAreInTurn trace journal
  -- Each flusher of an ageing device notices and takes inodes in the part of its CPU.
  pub own_waits : WaitsAreOwn trace journal
  -- No domain has more pages left than its bound, with the greatest hard limit that the timer has printed.
  pub left_bounded : LeftIsBounded trace journal
  -- What is taken for its age was noticed before, in the part of the same CPU, as long ago as its context asks, and was due.
  pub ages : AgedWereDue trace journal

-- How the run ends.
pub record EndsByItself (trace : Trace) : Type 0 where
  -- It ends after at most as many steps as a replay may have.
  pub ended : HasEnded trace
  -- It is told as spent exactly where a step is due after the last one that it may have, of an actor that no halt line keeps from it;
  -- else as halted exactly where a CPU was stopped at the trace's halt number.
  pub ends : EndsSo trace
  -- Where no CPU was stopped and the run isn't spent, every page of every write was told, and no page is left.
  pub complete : CompletesAll trace

-- In which order the steps are made.
pub record GoesInOrder (trace : Trace) : Type 0 where
  -- The clock moves by tick lines, and to the next moment at which a rest, a flight or the timer's wait ends where no order line is left
  -- and nobody can do anything. Nothing else moves it.
  pub clock : ClockIsRight trace
  -- The first steps are those of the order lines' actors, line after line, each as many as its line says, or fewer where its actor can't
  -- make a further one or the run ends. No line is skipped, and none comes back.
  pub obeyed : ObeysOrder trace
  -- Where no order line is left an actor finishes its turn. Then the first one that can do something has its own, in the order of the
  -- rotation: the CPUs by number, and then the timer.
  pub fair : TurnsAreFair trace
  -- The steps of each CPU are those of whole turns, one after another, and of a last one that may be cut off. A turn is a check, a write,
  -- a flusher's test, a look at a page of its inode, or the completion of one. So are the timer's steps.
  pub turns : TakesTurns trace
  -- Each schedule of steps and ticks, of as many as there may be order lines, is that of a lawful trace: this one with other order
  -- lines. Its run makes the steps in this order, as long as each actor can make its own.
  pub schedules : ShowsSchedules trace
