-- A sweep on its way: inode after inode is looked at and cleaned.
use Rattle.std.proofs.Common.{◌≡◌, ℕ, ◌+◌, ◌<◌, ◌≤◌, Bool, List, length, Option, ⊎_elim, refl, ap, subst, arith}
use Rattle.std.proofs.lemmas.Bool.{cases_lt}
use Rattle.wbt_run_worker.proofs.Common.{IsKitOf, setting, Layout, IsLawful, Trace, Kit, Seats, puts_none}
use Rattle.wbt_queue.specs.Passes.{known_of}
use Rattle.wbt_run_worker.specs.declared.side.CpuSide.{CpuSide}
use Rattle.wbt_table.specs.Calls.{HasNoDirtyPage, OwesInodeNothing}
use Rattle.wbt_run_drain.specs.Ends.{HaveEnded}
use Rattle.wbt_run_drain.specs.Standing.{AreAllCleaned, AreAllDone, AreStanding, WentOn}
use Rattle.wbt_run_drain.specs.Swept.{IsInodeCleaned, StepsUntold, WasPut, WerePut}
use Rattle.wbt_run_drain.proofs.Cleaned.{held_all, holds_none, inode_there, is_cleaned, owes_nothing}
use Rattle.wbt_run_drain.proofs.Putting.{put_next}
use Rattle.wbt_run_drain.proofs.Queued.{queued_same}
use Rattle.wbt_run_drain.proofs.Turning.{went_more, went_nowhere}
use Rattle.wbt_run_drain.proofs.Untold.{still_standing, turns_still, went_untold}

-- all CPUs stand, and each flusher is done
pub record Sweeps {D : Type 0} (told : ℕ → Type 0) (said : ℕ → ℕ → Bool → Type 0) (written : D → Option ℕ) (faults : D → ℕ) (trace : Trace) (kit : Kit)
    (old new : List (CpuSide D)) (before behind : Seats) : Type 0 where
  pub standing : AreStanding told said written faults trace kit new behind
  pub ended : HaveEnded new
  pub done : AreAllDone new
  pub went : WentOn trace old new before behind

-- and the pages of the inodes before this one were cleaned
pub record Swept {D : Type 0} (told : ℕ → Type 0) (said : ℕ → ℕ → Bool → Type 0) (written : D → Option ℕ) (faults : D → ℕ) (trace : Trace) (kit : Kit)
    (old new : List (CpuSide D)) (before behind : Seats) (inodes : ℕ) : Type 0 where
  pub sweeps : Sweeps told said written faults trace kit old new before behind
  pub cleaned : (inode : ℕ) → inode < inodes → IsInodeCleaned trace kit inode behind
  pub put : WerePut inodes trace kit before.queue behind.queue

pub cpus_are : (trace : Trace) (now : ℕ) (kit : Kit) → IsKitOf trace now kit → kit.throttle.layout.cpus ≡ trace.cpus
cpus_are trace now kit of = ap (λ (key : Layout). key.cpus) of.layout

-- what was cleaned stays so
pub cleaned_still : {D : Type 0} (trace : Trace) (kit : Kit) (old new : List (CpuSide D)) (before behind : Seats) (inode : ℕ) → WentOn trace old new before behind
    → IsInodeCleaned trace kit inode before → IsInodeCleaned trace kit inode behind
cleaned_still trace kit old new before behind inode went cleaned page less its = went.cleaned page (cleaned page less its)

module _ {D : Type 0} (told : ℕ → Type 0) (said : ℕ → ℕ → Bool → Type 0) (written : D → Option ℕ) (faults : D → ℕ) (trace : Trace) (kit : Kit) where
  pub sweeps_now : (sides : List (CpuSide D)) (seats : Seats) → AreStanding told said written faults trace kit sides seats → HaveEnded sides → AreAllDone sides
      → Sweeps told said written faults trace kit sides sides seats seats
  sweeps_now sides seats standing ended done = record { standing = standing; ended = ended; done = done; went = went_nowhere trace sides seats }

  -- ---- an inode

  module _ (now : ℕ) (lawful : IsLawful trace) (of : IsKitOf trace now kit) (old mid : List (CpuSide D)) (before between behind : Seats)
      (sweeps : Sweeps told said written faults trace kit old mid before between) (untold : StepsUntold 0 kit between behind) (same : behind.queue ≡ between.queue) where
    looked_standing : AreStanding told said written faults trace kit mid behind
    looked_standing = still_standing told said written faults trace kit mid 0 between behind (cpus_are trace now kit of) lawful.whole.cpus untold sweeps.standing
        (queued_same written faults trace kit mid between behind same sweeps.standing.queued)
        (turns_still told said written faults trace kit mid 0 between behind (cpus_are trace now kit of) lawful.whole.cpus untold sweeps.standing sweeps.ended)

    looked_went : WentOn trace mid mid between behind
    looked_went = went_untold told said written faults trace kit mid 0 between behind (cpus_are trace now kit of) lawful.whole.cpus untold sweeps.standing
        (λ device. puts_none (known_of device between.queue) (known_of device behind.queue) (ap (known_of device) same))

    -- a look leaves all as it was
    pub looked : Sweeps told said written faults trace kit old mid before behind
    looked = record {
      standing = looked_standing;
      ended = sweeps.ended;
      done = sweeps.done;
      went = went_more trace old mid mid before between behind sweeps.went looked_went;
    }

    -- a look that finds no mark tells that the inode is clean
    pub found_clean : (inode : ℕ) → (OwesInodeNothing (setting kit.throttle.layout) inode between.cpu → HasNoDirtyPage (setting kit.throttle.layout) inode between.cpu)
        → IsInodeCleaned trace kit inode behind
    found_clean inode clean = cleaned_still trace kit mid mid between behind inode looked_went
        (is_cleaned trace now kit between inode lawful of
        (held_all told said written faults trace kit mid between (cpus_are trace now kit of) sweeps.standing)
        (clean (owes_nothing told said written faults trace kit mid between (cpus_are trace now kit of) sweeps.standing sweeps.ended sweeps.done inode))
        (holds_none told said written faults trace kit mid between (cpus_are trace now kit of) sweeps.standing sweeps.ended sweeps.done))

    -- its device's flushers were turned until they were done again
    module _ (new : List (CpuSide D)) (last : Seats) (went : WentOn trace mid new behind last) where
      pub turned_went : WentOn trace old new before last
      turned_went = went_more trace old mid new before behind last looked.went went

      pub turned : AreStanding told said written faults trace kit new last → (HaveEnded new → AreAllDone new) → HaveEnded new
          → Sweeps told said written faults trace kit old new before last
      turned standing over ended = record { standing = standing; ended = ended; done = over ended; went = turned_went }

  -- ---- inodes one after another

  module _ (old mid new : List (CpuSide D)) (before between behind : Seats) (inode : ℕ) (swept : Swept told said written faults trace kit old mid before between inode)
      (went : WentOn trace mid new between behind) where
    pub swept_went : WentOn trace old new before behind
    swept_went = went_more trace old mid new before between behind swept.sweeps.went went

    pub swept_put : WasPut trace kit inode between.queue behind.queue → WerePut (inode + 1) trace kit before.queue behind.queue
    swept_put next = put_next trace kit inode before.queue between.queue behind.queue swept.put next

    pub swept_next : AreStanding told said written faults trace kit new behind → HaveEnded new → AreAllDone new → IsInodeCleaned trace kit inode behind
        → WasPut trace kit inode between.queue behind.queue → Swept told said written faults trace kit old new before behind (inode + 1)
    swept_next standing ended done cleaned next = record {
      sweeps = record { standing = standing; ended = ended; done = done; went = swept_went };
      cleaned = λ i less. ⊎_elim
          (λ (earlier : i < inode). cleaned_still trace kit mid new between behind i went (swept.cleaned i earlier))
          (λ (here : inode ≤ i). subst (λ (k : ℕ). IsInodeCleaned trace kit k behind) (omega arith) cleaned) (cases_lt i inode);
      put = swept_put next;
    }

  -- each page belongs to an inode
  pub swept_all : (now : ℕ) (old new : List (CpuSide D)) (before behind : Seats) (inodes : ℕ) → IsLawful trace → IsKitOf trace now kit → length trace.inodes ≤ inodes
      → Swept told said written faults trace kit old new before behind inodes → AreAllCleaned trace behind
  swept_all now old new before behind inodes lawful of all swept page less =
      let there = inode_there trace now kit page lawful of less in
      swept.cleaned ((setting kit.throttle.layout).inode page) (omega arith) page less refl
