use Rattle.std.proofs.Common.{sym, subst}
use Rattle.wbt_replay_order.proofs.Common.{seen, Sound}
use Rattle.wbt_forecast_run.proofs.Runs.Letting.{let_on_range}
use Rattle.wbt_forecast.proofs.teller.Teller.move_on.Goals as goal

pub advance-requires-clause-sound : goal.advance-requires-clause-sound
advance-requires-clause-sound c =
    subst (Sound c.args.trace.now) (sym c.in_ok-let_on.ensures) (let_on_range c.args.trace.now (seen c.args.self.now.machine) c.requires.range).0
