use Rattle.std.proofs.Common.{◌≡◌, ◌+◌, ◌<◌, true, length}
use Rattle.wbt_published.specs.Known.{next_version}
use Rattle.wbt_published.specs.Passes.{IsPassOf, known_of}
use Rattle.wbt_words_tests.proofs.published.publish_some.Given as goal

abbrev pub invariant-loop-version : goal.invariant-loop-version
invariant-loop-version g l = IsPassOf l.published l.pass × (0 < length l.published.names) × (0 < length l.pass.known) × ((known_of 0 l.pass).publishes ≡ true) × (next_version (known_of 0 l.pass) ≡ l.version + 1)
