use Rattle.std.proofs.Common.{◌≡◌, drop}
use Rattle.wbt_rules.specs.Age.{ages_in}
use Rattle.wbt_rules.proofs.age.ages_in.Given as goal

abbrev pub invariant-loop-context : goal.invariant-loop-context
invariant-loop-context l = ages_in l.device (drop l.context-index l.contexts) ≡ ages_in l.device l.contexts
