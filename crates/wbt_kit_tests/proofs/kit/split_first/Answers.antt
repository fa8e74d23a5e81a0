use Rattle.std.proofs.Common.{refl}
use Rattle.wbt_kit_tests.proofs.kit.split_first.Goals as goal

pub split-requires-clause-held : goal.split-requires-clause-held
split-requires-clause-held g c = c.if-holds.ensures.0 refl
