use Rattle.std.proofs.Common.{◌≡◌, ℕ, ◌<◌, ◌≤◌, length, get_or}
use Rattle.wbt_kit.proofs.Common.{CanSplit, AreSeatsOf}
use Rattle.wbt_kit.specs.declared.kit.Seats.{Seats as Parts}
use Rattle.wbt_run_seats.specs.Parts.{rest_of, parts_of, AreBack}
use Rattle.wbt_run_seats.proofs.split.take_back.Given as goal

abbrev pub invariant-loop-part : goal.invariant-loop-part
invariant-loop-part g l = record {
  seats_are : AreSeatsOf l.kit l.seats;
  parts_are : (k : ℕ) (other : Parts) → k < length l.parts.items → AreSeatsOf l.kit (get_or l.parts.items k other);
  fewer : length l.parts.items ≤ length l.fn.parts.items;
  back : (first : Parts) → AreSeatsOf l.kit first → CanSplit (length l.fn.parts.items) l.kit.shares first.share → l.fn.seats ≡ rest_of l.kit (length l.fn.parts.items) first
      → l.fn.parts.items ≡ parts_of l.kit (length l.fn.parts.items) first
      → AreBack (rest_of l.kit (length l.parts.items) first) l.seats × (l.parts.items ≡ parts_of l.kit (length l.parts.items) first);
}

abbrev pub decreases-loop-part : goal.decreases-loop-part
decreases-loop-part g l = goal.left-loop-part g l
