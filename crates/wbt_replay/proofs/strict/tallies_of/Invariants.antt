use Rattle.wbt_replay_order.specs.Kept.Strict.{AreTallies}
use Rattle.wbt_replay.proofs.strict.tallies_of.Given as goal

abbrev pub invariant-loop-step : goal.invariant-loop-step
invariant-loop-step l = AreTallies l.contexts l.steps l.step-index l.tallies
