-- Several domains, each with words of its own, and the seats of one thread at them.
use Rattle.std.specs.Prelude.{◌≡◌, ℕ, ◌+◌, ◌-◌, ◌*◌, ◌^◌, ◌++◌, ◌≤◌, ◌==◌, cond, List, [], ◌∷◌, map, All, slice_set, slice_index_or, ◌<◌, ◌⊎◌, length}
use Rattle.atomic_table.specs.Seated.{TableId}
use Rattle.wbt_fraction.specs.History.{no_trail, joined_trail, fresh_trail}
use Rattle.wbt_fraction.specs.Seat.{Seated, Shape, HasAllNotes, HasAllSteps}
use Rattle.wbt_fraction.specs.Totals.{TotalSeated, TotalShape, room_of, sums, HasEachTally, HasEachStep, total_joined, total_fresh}

-- the seats are those of these domains, one for one
abbrev pub Fits : (domains : List Shape) (seats : List Seated) → Type 0
Fits [] [] = Unit {0}
Fits [] (y ∷ ys) = ⊥
Fits (x ∷ xs) [] = ⊥
Fits (x ∷ xs) (y ∷ ys) = (y.table ≡ x.table) × Fits xs ys

-- no words at all
abbrev pub no_table : TableId
no_table = record { words = 0; slots = 0; views_name = 0; atom = 0; block = 0; offset = 0; slot_names = [] }

-- a domain that isn't there
abbrev pub no_shape : Shape
no_shape = record { table = no_table; parts = 0 }

-- a seat at no domain: it has no stake, and may add nothing
abbrev pub no_seat : Seated
no_seat = record { table = no_table; notes = []; trail = no_trail; stakes = 0; room = 0 }

-- how many parts each domain has
abbrev pub parts_of : (domains : List Shape) → List ℕ
parts_of domains = map (λ (s : Shape). s.parts) domains

-- the seats of `make`: no note, no step, all stakes, all room
abbrev pub AllFirst : (seats : List Seated) → Type 0
AllFirst seats = All (λ (s : Seated). (s.notes ≡ []) × (s.stakes ≡ 2 ^ 32) × (s.room ≡ 2 ^ 39) × (s.trail ≡ no_trail)) seats

-- each seat has two stakes and 2^33 of room
abbrev pub HasRoom : (seats : List Seated) → Type 0
HasRoom seats = All (λ (s : Seated). (2 ≤ s.stakes) × (2 ^ 33 ≤ s.room)) seats

-- how much the seat at one domain may still add, and its stakes
abbrev pub room_in : (domain : ℕ) (seats : List Seated) → ℕ
room_in domain seats = (slice_index_or seats domain no_seat).room

-- the stakes of the seat at one domain
abbrev pub stakes_in : (domain : ℕ) (seats : List Seated) → ℕ
stakes_in domain seats = (slice_index_or seats domain no_seat).stakes

-- at each domain the seat has the stakes that it had
abbrev pub KeepsStakes : (old new : List Seated) → Type 0
KeepsStakes old new = (domain : ℕ) → stakes_in domain new ≡ stakes_in domain old

-- at each domain it may add what it might
abbrev pub KeepsRooms : (old new : List Seated) → Type 0
KeepsRooms old new = (domain : ℕ) → room_in domain new ≡ room_in domain old

-- at one domain it may add n less
abbrev pub TakesRoom : (domain n : ℕ) (old new : List Seated) → Type 0
TakesRoom domain n old new = (d : ℕ) → room_in d new ≡ room_in d old - cond (d == domain) n 0

-- a seat after one was split from it, and the new one
abbrev pub left_of : (seat : Seated) → Seated
left_of s = record { table = s.table; notes = s.notes; trail = s.trail; stakes = s.stakes - 1; room = s.room - 2 ^ 33 }

-- the new seat after a split: one stake, 2^33 of room, and no step of its own
abbrev pub right_of : (seat : Seated) → Seated
right_of s = record { table = s.table; notes = []; trail = fresh_trail s.trail; stakes = 1; room = 2 ^ 33 }

-- the seat at one domain changes so, and no other
abbrev pub Changes : (domain : ℕ) (so : Seated → Seated → Type 0) (old new : List Seated) → Type 0
Changes domain so old new = (mid : Seated) × so (slice_index_or old domain no_seat) mid × (new ≡ slice_set old domain mid)

-- a seat that got what another had: with all stakes it has all notes, and all steps in their places
pub record IsJoined (old from new : Seated) : Type 0 where
  pub table : new.table ≡ old.table
  pub notes : new.notes ≡ from.notes ++ old.notes
  pub trail : new.trail ≡ joined_trail old.trail from.trail
  pub stakes : new.stakes ≡ old.stakes + from.stakes
  pub room : new.room ≡ old.room + from.room
  pub complete : HasAllNotes new
  pub whole : HasAllSteps new

-- each of them, domain by domain
abbrev pub AllJoined : (old from new : List Seated) → Type 0
AllJoined [] [] [] = Unit {0}
AllJoined (o ∷ old) (f ∷ from) (n ∷ new) = IsJoined o f n × AllJoined old from new
AllJoined _ _ _ = ⊥

-- everything that threads share: the domains, the written totals, and the domain of each context
pub record Shared : Type 0 where
  pub domains : List Shape
  pub totals : TotalShape
  pub homes : List ℕ

-- the seats of one thread at all of it
pub record Seats : Type 0 where
  pub domains : List Seated
  pub totals : TotalSeated

-- the seats are those of these words, with a room for each total
abbrev pub IsSeatOf : (shared : Shared) (seat : Seats) → Type 0
IsSeatOf shared seat = Fits shared.domains seat.domains × (seat.totals.table ≡ shared.totals.table) × (length seat.totals.rooms ≡ shared.totals.contexts)

-- the context has a share of this domain: the global one, or its own
abbrev pub HasShare : (homes : List ℕ) (domain context : ℕ) → Type 0
HasShare homes domain context = (context < length homes) × ((domain ≡ 0) ⊎ (domain ≡ slice_index_or homes context 0))

-- all rooms for the totals have 2^33
abbrev pub HasTotalRoom : (totals : TotalShape) (seat : TotalSeated) → Type 0
HasTotalRoom totals seat = (2 ≤ seat.stakes) × ((i : ℕ) → i < totals.contexts → 2 ^ 33 ≤ room_of i seat.rooms)

-- a seat at the totals after one was split from it, and the new one
abbrev pub total_left : (seat : TotalSeated) → TotalSeated
total_left seat = record { table = seat.table; notes = seat.notes; trail = seat.trail; stakes = seat.stakes - 1; rooms = map (λ r. r - 2 ^ 33) seat.rooms }

-- the new seat at the totals: one stake, 2^33 of room for each total, and no step of its own
abbrev pub total_right : (seat : TotalSeated) → TotalSeated
total_right seat = record { table = seat.table; notes = []; trail = total_fresh seat.trail; stakes = 1; rooms = map (λ r. 2 ^ 33) seat.rooms }

-- a seat at the totals that got what another had: with all stakes it has all notes, and all steps in their places
pub record IsTotalJoined (old from new : TotalSeated) : Type 0 where
  pub table : new.table ≡ old.table
  pub notes : new.notes ≡ from.notes ++ old.notes
  pub trail : new.trail ≡ total_joined old.trail from.trail
  pub stakes : new.stakes ≡ old.stakes + from.stakes
  pub rooms : new.rooms ≡ sums old.rooms from.rooms
  pub complete : HasEachTally new
  pub whole : HasEachStep new

-- a split moved one stake and 2^33 of each room from the old seat to the new one
pub record IsParted (shared : Shared) (old left right : Seats) : Type 0 where
  pub rooms : (d : ℕ) → d < length shared.domains → (room_in d left.domains + 2 ^ 33 ≡ room_in d old.domains) × (room_in d right.domains ≡ 2 ^ 33)
  pub stakes : (d : ℕ) → d < length shared.domains → (stakes_in d left.domains + 1 ≡ stakes_in d old.domains) × (stakes_in d right.domains ≡ 1)
  pub totals : (w : ℕ) → w < shared.totals.contexts → (room_of w left.totals.rooms + 2 ^ 33 ≡ room_of w old.totals.rooms) × (room_of w right.totals.rooms ≡ 2 ^ 33)
  pub total_stakes : (left.totals.stakes + 1 ≡ old.totals.stakes) × (right.totals.stakes ≡ 1)

-- a join added the rooms and stakes of both seats up
pub record AreAdded (old from new : Seats) : Type 0 where
  pub rooms : (d : ℕ) → room_in d new.domains ≡ room_in d old.domains + room_in d from.domains
  pub stakes : (d : ℕ) → stakes_in d new.domains ≡ stakes_in d old.domains + stakes_in d from.domains
  pub totals : (w : ℕ) → room_of w new.totals.rooms ≡ room_of w old.totals.rooms + room_of w from.totals.rooms

-- the seat can be split so many times, one split after the other
pub record CanSplit (times : ℕ) (shared : Shared) (seat : Seats) : Type 0 where
  pub stakes : (d : ℕ) → d < length shared.domains → times + 1 ≤ stakes_in d seat.domains
  pub rooms : (d : ℕ) → d < length shared.domains → times * 2 ^ 33 ≤ room_in d seat.domains
  pub total_stakes : times + 1 ≤ seat.totals.stakes
  pub totals : (w : ℕ) → w < shared.totals.contexts → times * 2 ^ 33 ≤ room_of w seat.totals.rooms
