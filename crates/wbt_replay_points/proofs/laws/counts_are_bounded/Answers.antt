use Rattle.wbt_replay_points.proofs.Claims.Together as claims
use Rattle.wbt_replay_points.proofs.laws.counts_are_bounded.Goals as goal

pub returns : goal.returns
returns c = λ trace lawful runs. (claims.counted trace lawful runs.stays.sound runs.followed, claims.prints_bound trace lawful runs.stays.sound runs.followed, claims.bounded trace lawful runs.stays.sound runs.followed, claims.bounded_closer trace lawful runs.stays.sound runs.followed)
