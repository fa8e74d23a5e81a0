-- One flusher along the entries of its CPU, those of other flushers among them: its phase and its faults.
use Rattle.std.specs.Prelude.{◌≡◌, ℕ, ◌+◌, Bool, true, false, ◌==◌, nat_le, if◌then◌else◌, IfSome, List, count_by}
use Rattle.wbt_rules.specs.declared.moments.TheConstants.{MOST_FAULTS}
use Rattle.wbt_journal.specs.Each.{Each}
use Rattle.wbt_journal.specs.Effects.{Flight, effect, of_part}
use Rattle.wbt_journal.specs.Flights.{ToldFlusher, ToldPhase, failed, MayMove, moved}
use Rattle.wbt_journal.specs.Leaves.{is_fault, is_fault_of}
use Rattle.wbt_journal.specs.Told.{Told}
use Rattle.wbt_run_laws.specs.Owns.{IsOfFlusher}
use Rattle.wbt_run_laws.specs.Walks.{Walked}

-- the flusher after an entry; an entry of another flusher leaves it as it is
abbrev pub flusher_after : (flusher : ℕ) (is : ToldFlusher) (entry : Told) → ToldFlusher
flusher_after flusher is entry =
    of_part is (λ (flight : Flight). if flight.flusher == flusher then moved flight.move is else is) (effect entry).flight

-- what the flusher's own entries need of its phase
abbrev pub FliesInTurn : (flusher : ℕ) (is : ToldFlusher) (entry : Told) → Type 0
FliesInTurn flusher is entry = IfSome (effect entry).flight (λ (flight : Flight). flight.flusher ≡ flusher → MayMove flight.move is.phase)

-- the flusher's walk from entry to entry
abbrev pub Flew : (flusher : ℕ) (old : ToldFlusher) (added : List Told) (new : ToldFlusher) → Type 0
Flew flusher old added new = Walked (FliesInTurn flusher) (flusher_after flusher) old added new

-- ---- faults

-- whether a flusher has failed
abbrev pub is_failed : (phase : ToldPhase) → Bool
is_failed failed = true
is_failed other = false

-- it has failed exactly where it has as many faults as it may have
abbrev pub FailsWithItsLast : (is : ToldFlusher) → Type 0
FailsWithItsLast is = is_failed is.phase ≡ nat_le MOST_FAULTS is.faults

-- a flusher gets just the faults of its own that stand
abbrev pub FaultsAreCounted : Type 0
FaultsAreCounted = (flusher : ℕ) (old new : ToldFlusher) (added : List Told) → Flew flusher old added new
    → new.faults ≡ old.faults + count_by (is_fault_of flusher) added

-- and along any entries it fails with its last one, and not before
abbrev pub FaultShows : Type 0
FaultShows = (flusher : ℕ) (old new : ToldFlusher) (added : List Told) → Flew flusher old added new → FailsWithItsLast old
    → FailsWithItsLast new

-- each fault in its own turns is its own
abbrev pub OwnFaultsAreAll : Type 0
OwnFaultsAreAll = (flusher : ℕ) (added : List Told) → Each (IsOfFlusher flusher) added
    → count_by is_fault added ≡ count_by (is_fault_of flusher) added
