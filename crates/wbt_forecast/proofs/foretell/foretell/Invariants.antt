use Rattle.std.proofs.Common.{◌≤◌}
use Rattle.wbt_forecast.specs.Telling.{IsTelling}
use Rattle.wbt_forecast.proofs.foretell.foretell.Given as goal

abbrev pub invariant-loop-move : goal.invariant-loop-move
invariant-loop-move g l = record {
  telling : IsTelling l.trace l.every l._move (g.K.Sink.held l.initial.sink) (g.K.Sink.held l.sink) l.teller;
  later : g.K.Sink.faults l.initial.sink ≤ g.K.Sink.faults l.sink;
}
