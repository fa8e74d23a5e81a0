-- A flusher as the audit keeps it.
use Rattle.std.specs.Prelude.{◌≡◌, ℕ, ◌-◌, ◌<◌, ◌≤◌, Bool, true, false, ◌==◌, Option, Some, None, List, ◌∷◌, length}
use Rattle.wbt_rules.specs.declared.moments.TheConstants.{MOST_FAULTS}
use Rattle.wbt_journal.specs.Effects.{Flight, Wait, effect, of_part}
use Rattle.wbt_journal.specs.Flights.{ToldFlusher, ToldPhase, scanning, flying, returning, failed, emptied, returned, may_move, meets_chunk, moved}
use Rattle.wbt_journal.specs.Told.{Told}
use Rattle.wbt_audit_turns.specs.declared.flusher.Phase.{Phase}
use Rattle.wbt_audit_turns.specs.declared.flusher.Phase.TheVariants as phase

-- the phase, with the pages of the batch that aren't done
abbrev pub told_phase : (p : Phase) (pages : List ℕ) → ToldPhase
told_phase phase.Scanning pages = scanning pages
told_phase phase.Flying pages = flying pages
told_phase phase.Returning pages = returning pages
told_phase phase.Failed pages = failed

-- the flusher that a phase, its pages and its chances stand for
abbrev pub told_flusher : (p : Phase) (pages : List ℕ) (chances : ℕ) → ToldFlusher
told_flusher p pages chances = record { phase = told_phase p pages; faults = MOST_FAULTS - chances }

-- so many of its pages are done; a flusher that hasn't failed has a chance
abbrev pub HasDone : (p : Phase) (pages done chances : ℕ) → Type 0
HasDone phase.Scanning pages done chances = (done ≡ 0) × (1 ≤ chances)
HasDone phase.Flying pages done chances = (done < pages) × (1 ≤ chances)
HasDone phase.Returning pages done chances = (done < pages) × (1 ≤ chances)
HasDone phase.Failed pages done chances = Unit {0}

-- a flusher as the audit keeps it: its chances and the pages that are done fit its phase
pub record IsFlusher (p : Phase) (pages : List ℕ) (done chances : ℕ) : Type 0 where
  pub few : chances ≤ MOST_FAULTS
  pub has_done : HasDone p (length pages) done chances

-- ---- a batch that is completed or given back

-- it is completed or given back page by page
abbrev pub IsBusy : (phase : ToldPhase) → Type 0
IsBusy (flying pages) = Unit {0}
IsBusy (returning pages) = Unit {0}
IsBusy other = ⊥

-- whether a page is its next one
abbrev pub is_leaving : (page : ℕ) (phase : ToldPhase) → Bool
is_leaving page (flying (next ∷ pages)) = next == page
is_leaving page (returning (next ∷ pages)) = next == page
is_leaving page other = false

-- without its next page
abbrev pub left_batch : (phase : ToldPhase) → ToldPhase
left_batch (flying (page ∷ pages)) = emptied pages
left_batch (returning (page ∷ pages)) = returned pages
left_batch other = other

-- ---- what an entry makes of its flusher

-- the flusher of a move of a waiting list, where there is one
abbrev pub of_wait_flusher : (wait : Option Wait) → Option ℕ
of_wait_flusher None = None
of_wait_flusher (Some wait) = Some wait.flusher

-- the flusher of an entry's move, of its pages or else of its waiting list
abbrev pub flusher_by : (flight : Option Flight) (wait : Option Wait) → Option ℕ
flusher_by None wait = of_wait_flusher wait
flusher_by (Some flight) wait = Some flight.flusher

-- the flusher that an entry is of
abbrev pub flusher_named : (entry : Told) → Option ℕ
flusher_named entry = flusher_by (effect entry).flight (effect entry).wait

-- whether its phase allows the entry
abbrev pub may_come : (entry : Told) (flusher : ToldFlusher) → Bool
may_come entry flusher = of_part true (λ (flight : Flight). may_move flight.move flusher.phase) (effect entry).flight

-- the flusher after an entry
abbrev pub moved_by : (entry : Told) (flusher : ToldFlusher) → ToldFlusher
moved_by entry flusher = of_part flusher (λ (flight : Flight). moved flight.move flusher) (effect entry).flight

-- ---- how many pages it hands over

-- whether an entry hands over no more pages than the device's line says
abbrev pub meets_by : (chunk : Option ℕ) (entry : Told) → Bool
meets_by chunk entry = of_part true (λ (flight : Flight). meets_chunk chunk flight.move) (effect entry).flight
