use Rattle.wbt_replay_points.proofs.Claims.Together as claims
use Rattle.wbt_replay_points.proofs.laws.checks_decide_by_the_law.Goals as goal

pub returns : goal.returns
returns c = λ trace lawful runs. claims.decided trace lawful runs.stays.sound runs.followed
