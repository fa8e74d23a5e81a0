use Rattle.std.proofs.Common.{ℕ, ◌≡◌, ◌<◌, drop, get_or, length}
use Rattle.wbt_audit_turns.specs.Balanced.{nothing, plus, tally_of_left}
use Rattle.wbt_audit_turns.proofs.ledger.enter_left.Given as goal

abbrev pub invariant-loop-one : goal.invariant-loop-one
invariant-loop-one l =
    (page : ℕ) → page < length l.tallies
    → plus (get_or l.tallies page nothing) (tally_of_left (drop l.one-index l.left) page) ≡ plus (get_or l.initial.tallies page nothing) (tally_of_left l.left page)
