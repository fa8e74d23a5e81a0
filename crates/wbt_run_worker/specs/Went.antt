-- What turns of a CPU's writers and flushers did, one after another.
use Rattle.std.specs.Prelude.{◌≡◌, ℕ, ◌+◌, ◌-◌, ◌≤◌, ◌⊎◌, List, [], ◌∷◌, map, sum_by, count_by, Some, IfSome}
use Rattle.wbt_flusher.specs.Did.{handed, waited_at}
use Rattle.wbt_flusher.specs.declared.work.Phase.TheVariants.{Failed}
use Rattle.wbt_fraction.specs.Several.{KeepsStakes}
use Rattle.wbt_io.specs.Faults.{HasRisen, HasRisenBy}
use Rattle.wbt_io.specs.Pages.{Grows}
use Rattle.wbt_journal.specs.Each.{Each}
use Rattle.wbt_journal.specs.Effects.{Flight, Wait, effect, moment_of}
use Rattle.wbt_journal.specs.Leaves.{is_fault}
use Rattle.wbt_journal.specs.Told.{Told}
use Rattle.wbt_journal.specs.declared.entry.CheckEntry.{CheckEntry}
use Rattle.wbt_journal.specs.declared.entry.EstEntry.{EstEntry}
use Rattle.wbt_kit.specs.declared.kit.Kit.{Kit}
use Rattle.wbt_kit.specs.declared.kit.Seats.{Seats}
use Rattle.wbt_rules.specs.declared.moments.TheConstants.{MOST_FAULTS}
use Rattle.wbt_run_steps.specs.Queues.{KeepsQueueStakes}
use Rattle.wbt_run_steps.specs.Records.{IsApart}
use Rattle.wbt_trace.specs.declared.trace.Trace.{Trace}
use Rattle.wbt_run_laws.specs.Worker.{Went}
use Rattle.wbt_run_worker.specs.declared.side.Post.{Post}
use Rattle.wbt_run_worker.specs.Team.{Seen, Team, failed_in, worker_of, written_by}

-- each moment that an entry tells was told by the clock
pub record IsTold (told : ℕ → Type 0) (entry : Told) : Type 0 where
  pub check : IfSome (effect entry).check (λ (check : CheckEntry). told check.now)
  pub batch : IfSome (effect entry).flight (λ (flight : Flight). IfSome (moment_of flight.move) told)
  pub estimate : IfSome (effect entry).estimate (λ (est : EstEntry). told est.estimate.at)
  pub wait : IfSome (effect entry).wait (λ (wait : Wait). IfSome (waited_at wait.move) told)

-- A flusher with the same plan. What it counts never falls, nor what its disk counts, which rose by as much at least.
pub record IsStill (old new : Seen) : Type 0 where
  pub plan : new.plan ≡ old.plan
  pub faults : old.faults ≤ new.faults
  pub failed : old.work.faults ≤ new.work.faults
  pub risen : HasRisenBy (new.work.faults - old.work.faults) old.faults new.faults

-- each flusher has its plan still, and counts no fewer failures
abbrev pub AreStill : (old new : List Seen) → Type 0
AreStill [] [] = Unit {0}
AreStill (p ∷ old) (q ∷ new) = IsStill p q × AreStill old new
AreStill _ _ = ⊥

-- the faults of a disk rose, and its flusher has failed: that was the eighth batch that the disk failed to write
pub record IsFaulted (old new : Seen) : Type 0 where
  pub risen : HasRisen old.faults new.faults
  pub failed : new.work.phase ≡ Failed
  pub eighth : new.work.faults ≡ MOST_FAULTS

-- one of these flushers failed for the last time
abbrev pub AnyFaulted : (old new : List Seen) → Type 0
AnyFaulted (p ∷ old) (q ∷ new) = IsFaulted p q ⊎ AnyFaulted old new
AnyFaulted _ _ = ⊥

-- no other CPU's record changes, nor the timer's; and all stakes stay, of shares, of written totals and of queues
pub record KeepsSeats (cpu : ℕ) (old new : Seats) : Type 0 where
  pub apart : IsApart cpu old.cpu new.cpu
  pub stakes : KeepsStakes old.share.domains new.share.domains
  pub total_stakes : new.share.totals.stakes ≡ old.share.totals.stakes
  pub queues : KeepsQueueStakes old.queue new.queue

-- The log tells just what became of the CPU's record, tasks, flushers and notes. The clock told each moment in it; the disks, where all
-- of them tell, have written as many pages more as it says; and the flushers count as many failures more as it tells faults.
pub record TeamWent (told : ℕ → Type 0) (trace : Trace) (cpu : ℕ) (kit : Kit) (old new : Team) (seats seats' : Seats) : Type 0 where
  pub went : Went trace kit.published.moment cpu (worker_of trace cpu old seats) (worker_of trace cpu new seats')
  pub moments : Each (IsTold told) went.added
  pub disks : Grows (Some (sum_by handed went.added)) (written_by old.posts) (written_by new.posts)
  pub faults : failed_in new.posts ≡ failed_in old.posts + count_by is_fault went.added
  pub still : AreStill old.posts new.posts
  pub keeps : KeepsSeats cpu seats seats'

-- tasks, the CPU's record, shares, estimates and the log stay; of queues it says nothing
pub record Idled (old new : Team) (seats seats' : Seats) : Type 0 where
  pub tasks : new.desk.work.tasks ≡ old.desk.work.tasks
  pub cpu : seats'.cpu ≡ seats.cpu
  pub share : seats'.share ≡ seats.share
  pub est : seats'.est ≡ seats.est
  pub log : new.log ≡ old.log

-- each flusher stands in the drain where it stood
abbrev pub StandsStay : {D : Type 0} (old new : List (Post D)) → Type 0
StandsStay {D} old new = map (λ (post : Post D). post.stand) new ≡ map (λ (post : Post D). post.stand) old
