use Rattle.std.proofs.Common.{◌≡◌, map, take}
use Rattle.wbt_kit.specs.Opening as spec
use Rattle.wbt_kit.proofs.layout.seated_each.Given as goal

abbrev pub invariant-loop-pair : goal.invariant-loop-pair
invariant-loop-pair l = l.writers ≡ map (spec.seated l.trace) (take l.pair-index l.pairs)
