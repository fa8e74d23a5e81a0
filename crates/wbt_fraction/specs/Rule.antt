-- The rule of a domain's words: all steps of all seats stand in one history, which made the words.
use Rattle.std.specs.Prelude.{◌≡◌, ℕ, ◌+◌, ◌-◌, ◌^◌, ◌≤◌, List, [], length, slice_index_or}
use mathlib.Core.Option.{some}
use lib.ListN.{get_elem?}
use Rattle.atomic_table.specs.Table.{State}
use Rattle.wbt_fraction.specs.declared.domain.note.Made.{Made}
use Rattle.wbt_fraction.specs.declared.domain.rule.View.{View}
use Rattle.wbt_fraction.specs.declared.domain.rule.Layout.{Layout}
use Rattle.wbt_fraction.specs.Sums.{total}
use Rattle.wbt_fraction.specs.Notes.{Shows, IsHistory, added_domain, added_part}
use Rattle.wbt_fraction.specs.History.{notes_of, word_at, AreInOrder, IsEnd, no_trail, joined_trail, fresh_trail}

-- what holds between any two steps of any threads
pub record Kept (key : Layout) (s : State (Unit {0}) View) : Type 0 where
  -- all steps in the order in which they were made, the newest first
  pub history : List Made
  -- each step, with its place, is just one seat's: weighed in any way, the seats' own steps weigh what the history does
  pub noted : (weight : Made → ℕ) → total (λ v. total weight v.trail.own) s.views ≡ total weight history
  -- each step stands in its place, and found what the steps before it had left
  pub in_order : AreInOrder history
  -- in each word stands what the history left there
  pub stand : (at : ℕ) → at ≤ key.parts → slice_index_or s.words at 0 ≡ word_at at history
  -- what a seat knows, the history goes on from
  pub ends : (j : ℕ) (v : View) → get_elem? s.views j ≡ some v → IsEnd v.trail.known history
  pub lawful : IsHistory (notes_of history)
  -- each word is the number that the notes make
  pub words : (at : ℕ) → at ≤ key.parts → Shows (notes_of history) at (slice_index_or s.words at 0)
  pub stakes : total (λ v. v.stakes) s.views ≡ 2 ^ 32
  pub idle : (j : ℕ) (v : View) → get_elem? s.views j ≡ some v → v.stakes ≡ 0 → v.trail.own ≡ []
  -- what was added and what may still be added is 2^39 in all, so no addition reaches the period's bits
  pub domain_room : total (λ v. v.domain_room + total added_domain (notes_of v.trail.own)) s.views ≡ 2 ^ 39
  pub part_room : total (λ v. v.part_room + total added_part (notes_of v.trail.own)) s.views ≡ 2 ^ 39
  pub long : length s.words ≡ key.parts + 1

-- the first seat has all stakes and all room
abbrev pub first_view : View
first_view = record { trail = no_trail; stakes = 2 ^ 32; domain_room = 2 ^ 39; part_room = 2 ^ 39 }

-- a split moves one stake and 2^33 of the room to the new seat, and no step; the new seat knows what the old one does
abbrev pub left_view : (view : View) → View
left_view view = record { trail = view.trail; stakes = view.stakes - 1; domain_room = view.domain_room - 2 ^ 33; part_room = view.part_room - 2 ^ 33 }

-- the new seat: one stake, 2^33 of each room, and no step of its own
abbrev pub right_view : (view : View) → View
right_view view = record { trail = fresh_trail view.trail; stakes = 1; domain_room = 2 ^ 33; part_room = 2 ^ 33 }

-- a join brings steps, stakes and room together, and leaves a seat with nothing
abbrev pub joined : (view other : View) → View
joined view other = record { trail = joined_trail view.trail other.trail; stakes = view.stakes + other.stakes; domain_room = view.domain_room + other.domain_room; part_room = view.part_room + other.part_room }

-- a seat whose steps, stakes and room went to another
abbrev pub spent : View
spent = record { trail = no_trail; stakes = 0; domain_room = 0; part_room = 0 }
