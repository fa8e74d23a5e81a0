use Rattle.wbt_replay_order.proofs.Facts.Settings.{setting_is}
use Rattle.wbt_replay_points.proofs.StrictLines.Within.{stays_within}
use Rattle.wbt_replay_points.proofs.laws.strict_contexts_are_bounded.Goals as goal

pub returns : goal.returns
returns c = λ trace lawful runs. stays_within trace (setting_is trace lawful) runs.followed runs.ended.0
