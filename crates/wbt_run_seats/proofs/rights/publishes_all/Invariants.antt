use Rattle.std.proofs.Common.{◌≡◌, ◌<◌, ◌↔◌, ℕ, true, IsTrue}
use Rattle.wbt_kit.proofs.Common.{known_of}
use Rattle.wbt_published.specs.Publishing.{IsComplete}
use Rattle.wbt_run_seats.proofs.rights.publishes_all.Given as goal

abbrev pub invariant-loop-context : goal.invariant-loop-context
invariant-loop-context l = record {
  all : IsTrue l.all ↔ ((context : ℕ) → context < l.context → (known_of context l.pass).publishes ≡ true);
  complete : (context : ℕ) → context < l.context → (known_of context l.pass).publishes ≡ true → IsComplete (known_of context l.pass);
}
