use Rattle.std.proofs.Common.{◌≡◌, replicate}
use Rattle.wbt_audit_turns.specs.Balanced.{nothing}
use Rattle.wbt_audit_turns.proofs.ledger.no_tallies.Given as goal

abbrev pub invariant-loop-page : goal.invariant-loop-page
invariant-loop-page l = l.tallies.items ≡ replicate l._page nothing
