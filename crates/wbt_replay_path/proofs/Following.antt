-- A run whose states are in range follows the step relation.
use Rattle.wbt_replay_order.proofs.Common.{IsLawful, Trace, HasEnded, IsFollowed, IsInRange, StaysInRange}
use Rattle.wbt_replay_order.proofs.Facts.Facts.{facts}
use Rattle.wbt_replay_order.proofs.Facts.Settings.{setting_is, pair_of}
use Rattle.wbt_replay_path.proofs.Follow.Whole as path

pub is_followed : (trace : Trace) → IsLawful trace → StaysInRange trace → HasEnded trace → IsFollowed trace
is_followed trace lawful stays ended =
    path.followed trace (facts trace lawful) (setting_is trace lawful) (λ w less. pair_of trace lawful w less) (IsInRange trace) (λ s k. k.0)
    stays.first stays.on ended.0
