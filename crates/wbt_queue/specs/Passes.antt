-- What contracts see of the queues and of a pass.
use Rattle.std.specs.Prelude.{◌≡◌, ℕ, false, Option, List, [], ◌∷◌, All, map, length, get_or, sum_by}
use Rattle.atomic_table.specs.Seated.{TableId}
use Rattle.crossbeam_queue.specs.declared.array_queue.Doing.{Doing}
use Rattle.crossbeam_queue.specs.declared.array_queue.Slotted.{Slotted}
use Rattle.crossbeam_queue.specs.Passes.{Pass, view, ruled_capacity}
use Rattle.wbt_queue.specs.declared.known.Known.{Known}
use Rattle.wbt_queue.specs.Known.{opening, knows_both, puts_by, takes_by}
use Rattle.wbt_queue.specs.Order.{AreLeft, Waits}

-- the queues by device: which queue each is, and how many numbers it holds at most
pub record Rings : Type 0 where
  pub names : List TableId
  pub sizes : List ℕ

-- a pass by device: of which queue it is, and what it knows of it
pub record Seats : Type 0 where
  pub names : List TableId
  pub known : List Known

-- which queues the places of a pass are of
abbrev pub place_names : (places : List (Pass ℕ Known)) → List TableId
place_names places = map (λ (place : Pass ℕ Known). place.table_id) places

-- what the places of a pass know
abbrev pub known_by : (places : List (Pass ℕ Known)) → List Known
known_by places = map view places

-- no other pass took these in
abbrev pub AreHere : (known : List Known) → Type 0
AreHere known = All (λ (k : Known). k.gone ≡ false) known

-- no call is under way at any place
abbrev pub AreAtRest : (places : List (Pass ℕ Known)) → Type 0
AreAtRest places = All (λ (place : Pass ℕ Known). place.me.1 ≡ []) places

module _ {Q A : Type 0} where
  -- which queues these are
  abbrev pub ring_names : (rings : List (Slotted (Option ℕ) (Doing ℕ Known) Q A)) → List TableId
  ring_names rings = map (λ (ring : Slotted (Option ℕ) (Doing ℕ Known) Q A). ring.table.shared.table_id) rings

  -- how many numbers each holds at most
  abbrev pub ring_sizes : (rings : List (Slotted (Option ℕ) (Doing ℕ Known) Q A)) → List ℕ
  ring_sizes rings = map ruled_capacity rings

  -- the places are those of one pass to these queues
  abbrev pub ArePlacesOf : (rings : List (Slotted (Option ℕ) (Doing ℕ Known) Q A)) (places : List (Pass ℕ Known)) → Type 0
  ArePlacesOf rings places = (place_names places ≡ ring_names rings) × AreAtRest places

-- the pass is one of these queues
abbrev pub IsPassOf : (queues : Rings) (pass : Seats) → Type 0
IsPassOf queues pass = pass.names ≡ queues.names

-- how many numbers the device's queue holds at most
abbrev pub size_of : (device : ℕ) (queues : Rings) → ℕ
size_of device queues = get_or queues.sizes device 0

-- what the pass knows of the device's queue
abbrev pub known_of : (device : ℕ) (pass : Seats) → Known
known_of device pass = get_or pass.known device opening

-- at a moment just this many numbers waited, as far as the pass knows
abbrev pub Held : (count : ℕ) (known : Known) → Type 0
Held count known = (waiting : List ℕ) × (length waiting ≡ count) × Waits known waiting

-- each number that the pass knows to be put it knows to be taken, just as often
abbrev pub AreAllTaken : (known : Known) → Type 0
AreAllTaken known = (weight : ℕ → ℕ) → sum_by weight (puts_by known) ≡ sum_by weight (takes_by known)

-- of all numbers that the pass knows to be put, it knows all but just so many to be taken
abbrev pub LeavesJust : (count : ℕ) (known : Known) → Type 0
LeavesJust count known = (waiting : List ℕ) × (length waiting ≡ count) × AreLeft known waiting

-- for each device what one pass knows, and then what another does
abbrev pub all_joined : (into from : List Known) → List Known
all_joined [] from = []
all_joined (one ∷ more) [] = one ∷ more
all_joined (one ∷ more) (other ∷ others) = knows_both one other ∷ all_joined more others
