-- Flushers: each claims pages, hands them to its disk as a batch, and completes that batch in order. A batch that its disk fails to
-- write it gives back in order; after as many such batches as it may have it does nothing.
use Rattle.std.specs.Prelude.{◌≡◌, ℕ, ◌+◌, ◌≤◌, Bool, true, false, ◌&&◌, ◌==◌, nat_le, if◌then◌else◌, Option, None, IfSome, List, [], ◌∷◌, ◌++◌, length, get_or, set, map}
use Rattle.wbt_rules.specs.Flusher.{IsWithinChunk, is_within_chunk, chunk_at}
use Rattle.wbt_rules.specs.declared.moments.TheConstants.{MOST_FAULTS}
use Rattle.wbt_trace.specs.declared.trace.FlusherLine.{FlusherLine}
use Rattle.wbt_trace.specs.declared.trace.Trace.{Trace}
use Rattle.wbt_journal.specs.Effects.{Flight, Move, takes, flies, lands, fails, gives_back, effect, of_part}
use Rattle.wbt_journal.specs.Items.{Item, begins, tells}
use Rattle.wbt_journal.specs.Machine.{flusher_cpu}
use Rattle.wbt_journal.specs.Side.{is_on}
use Rattle.wbt_journal.specs.Told.{Told}
use Rattle.wbt_journal.specs.Walk.{unless}

-- what a flusher is about, as its entries tell
pub data ToldPhase : Type 0 where
  -- it has claimed these pages, the first one first
  scanning : (pages : List ℕ) → ToldPhase
  -- these pages of its batch aren't completed yet
  flying : (pages : List ℕ) → ToldPhase
  -- these pages of a batch that its disk failed to write aren't given back yet
  returning : (pages : List ℕ) → ToldPhase
  failed : ToldPhase

-- a flusher as its entries tell of it: its phase, and how many of its batches its disk failed to write
pub record ToldFlusher : Type 0 where
  pub phase : ToldPhase
  pub faults : ℕ

-- a flusher at the opening: it has claimed nothing and had no fault
abbrev pub new_flusher : ToldFlusher
new_flusher = record { phase = scanning []; faults = 0 }

-- a flusher that isn't there does nothing
abbrev pub no_flusher : ToldFlusher
no_flusher = record { phase = failed; faults = MOST_FAULTS }

-- ---- what a move makes of the phase

-- the phase of a batch of which these pages aren't completed yet; with none left the flusher scans again
abbrev pub emptied : (numbers : List ℕ) → ToldPhase
emptied [] = scanning []
emptied (page ∷ pages) = flying (page ∷ pages)

-- the phase of a failed batch of which these pages aren't given back yet; with none left the flusher scans again
abbrev pub returned : (numbers : List ℕ) → ToldPhase
returned [] = scanning []
returned (page ∷ pages) = returning (page ∷ pages)

-- one page more is claimed
abbrev pub taken : (page : ℕ) (phase : ToldPhase) → ToldPhase
taken page (scanning pages) = scanning (pages ++ page ∷ [])
taken page other = other

-- the pages that were claimed are handed to the disk
abbrev pub flown : (phase : ToldPhase) → ToldPhase
flown (scanning pages) = emptied pages
flown other = other

-- the first page of the batch is completed
abbrev pub landed : (phase : ToldPhase) → ToldPhase
landed (flying []) = scanning []
landed (flying (page ∷ pages)) = emptied pages
landed other = other

-- the first page of the failed batch is given back
abbrev pub given_back : (phase : ToldPhase) → ToldPhase
given_back (returning []) = scanning []
given_back (returning (page ∷ pages)) = returned pages
given_back other = other

-- with so many faults it has failed, or it gives back the pages that it had claimed
abbrev pub faulted_with : (faults : ℕ) (pages : List ℕ) → ToldFlusher
faulted_with faults pages = record { phase = if nat_le MOST_FAULTS faults then failed else returned pages; faults = faults }

-- the disk failed to write the pages that were claimed
abbrev pub faulted : (faults : ℕ) (phase : ToldPhase) → ToldFlusher
faulted faults (scanning pages) = faulted_with (faults + 1) pages
faulted faults other = record { phase = other; faults = faults }

-- a flusher after a move
abbrev pub moved : (move : Move) (flusher : ToldFlusher) → ToldFlusher
moved (takes page) flusher = record flusher { phase = taken page flusher.phase }
moved (flies pages now until) flusher = record flusher { phase = flown flusher.phase }
moved (lands page) flusher = record flusher { phase = landed flusher.phase }
moved (fails pages) flusher = faulted flusher.faults flusher.phase
moved (gives_back page absorbed) flusher = record flusher { phase = given_back flusher.phase }

-- ---- what may come in a phase

-- the flusher scans: only then it claims pages
abbrev pub Scans : (phase : ToldPhase) → Type 0
Scans (scanning pages) = Unit {0}
Scans other = ⊥

-- decides whether the flusher scans
abbrev pub scans : (phase : ToldPhase) → Bool
scans (scanning pages) = true
scans other = false

-- a batch or a fault is of all pages claimed, and there are some
abbrev pub Hands : (count : ℕ) (phase : ToldPhase) → Type 0
Hands count (scanning pages) = (1 ≤ count) × (count ≡ length pages)
Hands count other = ⊥

-- decides whether a batch or a fault is of all pages claimed, of which there are some
abbrev pub hands : (count : ℕ) (phase : ToldPhase) → Bool
hands count (scanning pages) = nat_le 1 count && count == length pages
hands count other = false

-- the page is the first of the batch that isn't completed yet
abbrev pub Lands : (page : ℕ) (phase : ToldPhase) → Type 0
Lands page (flying (next ∷ pages)) = next ≡ page
Lands page other = ⊥

-- decides whether the page is the first of the batch that isn't completed yet
abbrev pub is_landing : (page : ℕ) (phase : ToldPhase) → Bool
is_landing page (flying (next ∷ pages)) = next == page
is_landing page other = false

-- the page is the first of the failed batch that isn't given back yet
abbrev pub GivesBack : (page : ℕ) (phase : ToldPhase) → Type 0
GivesBack page (returning (next ∷ pages)) = next ≡ page
GivesBack page other = ⊥

-- decides whether the page is the first of the failed batch that isn't given back yet
abbrev pub is_giving_back : (page : ℕ) (phase : ToldPhase) → Bool
is_giving_back page (returning (next ∷ pages)) = next == page
is_giving_back page other = false

-- what each move needs of the phase
abbrev pub MayMove : (move : Move) (phase : ToldPhase) → Type 0
MayMove (takes page) phase = Scans phase
MayMove (flies pages now until) phase = Hands pages phase
MayMove (lands page) phase = Lands page phase
MayMove (fails pages) phase = Hands pages phase
MayMove (gives_back page absorbed) phase = GivesBack page phase

-- decides whether the phase allows a move
abbrev pub may_move : (move : Move) (phase : ToldPhase) → Bool
may_move (takes page) phase = scans phase
may_move (flies pages now until) phase = hands pages phase
may_move (lands page) phase = is_landing page phase
may_move (fails pages) phase = hands pages phase
may_move (gives_back page absorbed) phase = is_giving_back page phase

-- a batch and a fault have no more pages than the line of the flusher's device says
abbrev pub MeetsChunk : (chunk : Option ℕ) (move : Move) → Type 0
MeetsChunk chunk (takes page) = Unit {0}
MeetsChunk chunk (flies pages now until) = IsWithinChunk chunk pages
MeetsChunk chunk (lands page) = Unit {0}
MeetsChunk chunk (fails pages) = IsWithinChunk chunk pages
MeetsChunk chunk (gives_back page absorbed) = Unit {0}

-- decides whether a batch or a fault has no more pages than the device's line says
abbrev pub meets_chunk : (chunk : Option ℕ) (move : Move) → Bool
meets_chunk chunk (takes page) = true
meets_chunk chunk (flies pages now until) = is_within_chunk chunk pages
meets_chunk chunk (lands page) = true
meets_chunk chunk (fails pages) = is_within_chunk chunk pages
meets_chunk chunk (gives_back page absorbed) = true

-- ---- all flushers, by number

-- all flushers at the opening
abbrev pub first_flushers : (lines : List FlusherLine) → List ToldFlusher
first_flushers lines = map (λ (line : FlusherLine). new_flusher) lines

-- a flusher by its number
abbrev pub flusher_of : (flushers : List ToldFlusher) (flusher : ℕ) → ToldFlusher
flusher_of flushers flusher = get_or flushers flusher no_flusher

-- whether an entry of a flusher stands in the part of the flusher's CPU
abbrev pub is_own_flusher : (trace : Trace) (cpu flusher : ℕ) → Bool
is_own_flusher trace cpu flusher = is_on cpu (flusher_cpu trace flusher)

-- the flushers after a move of one of them
abbrev pub flushers_by : (flushers : List ToldFlusher) (flight : Flight) → List ToldFlusher
flushers_by flushers flight = set flushers flight.flusher (moved flight.move (flusher_of flushers flight.flusher))

-- the flushers after an entry
abbrev pub flushers_after_told : (flushers : List ToldFlusher) (entry : Told) → List ToldFlusher
flushers_after_told flushers entry = of_part flushers (flushers_by flushers) (effect entry).flight

-- a CPU's flushers begin with its part
abbrev pub flushers_after : (trace : Trace) (flushers : List ToldFlusher) (item : Item) → List ToldFlusher
flushers_after trace flushers (begins cpu) = first_flushers trace.flushers
flushers_after trace flushers (tells cpu entry) = flushers_after_told flushers entry

-- a move stands in its flusher's own part, its phase allows it, and it meets the device's chunk
abbrev pub FliesBy : (trace : Trace) (cpu : ℕ) (flushers : List ToldFlusher) (flight : Flight) → Type 0
FliesBy trace cpu flushers flight =
    (is_own_flusher trace cpu flight.flusher ≡ true) × MayMove flight.move (flusher_of flushers flight.flusher).phase
    × MeetsChunk (chunk_at trace flight.flusher) flight.move

-- an entry's move, if it has one, is one that may come
abbrev pub FliesTold : (trace : Trace) (cpu : ℕ) (flushers : List ToldFlusher) (entry : Told) → Type 0
FliesTold trace cpu flushers entry = IfSome (effect entry).flight (FliesBy trace cpu flushers)

-- decides whether a move may come
abbrev pub flies_by : (trace : Trace) (cpu : ℕ) (flushers : List ToldFlusher) (flight : Flight) → Bool
flies_by trace cpu flushers flight =
    is_own_flusher trace cpu flight.flusher && (may_move flight.move (flusher_of flushers flight.flusher).phase
    && meets_chunk (chunk_at trace flight.flusher) flight.move)

-- decides whether an entry's move may come
abbrev pub flies_told : (trace : Trace) (cpu : ℕ) (flushers : List ToldFlusher) (entry : Told) → Bool
flies_told trace cpu flushers entry = of_part true (flies_by trace cpu flushers) (effect entry).flight

-- an item's move, if it has one, is one that may come
abbrev pub Flies : (trace : Trace) (flushers : List ToldFlusher) (item : Item) → Type 0
Flies trace flushers (begins cpu) = Unit {0}
Flies trace flushers (tells cpu entry) = FliesTold trace cpu flushers entry

-- the fault of an item whose move may not come
abbrev pub flight_fault : (trace : Trace) (flushers : List ToldFlusher) (item : Item) → Option ℕ
flight_fault trace flushers (begins cpu) = None
flight_fault trace flushers (tells cpu entry) = unless (flies_told trace cpu flushers entry) 0
