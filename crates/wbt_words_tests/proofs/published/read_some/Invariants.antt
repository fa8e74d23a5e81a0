use Rattle.std.proofs.Common.{◌<◌, length}
use Rattle.wbt_published.specs.Passes.{IsPassOf}
use Rattle.wbt_words_tests.proofs.published.read_some.Given as goal

abbrev pub invariant-loop : goal.invariant-loop
invariant-loop g l = (goal.iterator-loop g).can_next l.iterator' × (goal.iterator-loop g).is_finite l.iterator' × IsPassOf l.published l.pass × (0 < length l.published.names)
