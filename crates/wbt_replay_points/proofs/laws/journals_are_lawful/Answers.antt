use Rattle.wbt_replay_points.proofs.Legally as legally
use Rattle.wbt_replay_points.proofs.laws.journals_are_lawful.Goals as goal

pub returns : goal.returns
returns c = λ trace lawful runs complete unspent. legally.is_lawful trace lawful runs.stays.sound runs.followed runs.ended complete unspent
