use Rattle.wbt_replay_points.proofs.Legally as legally
use Rattle.wbt_replay_points.proofs.laws.journals_are_legal.Goals as goal

pub returns : goal.returns
returns c = λ trace lawful runs. legally.is_legal trace lawful runs.stays.sound runs.followed runs.ended
