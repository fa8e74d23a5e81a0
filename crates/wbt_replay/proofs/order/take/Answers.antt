use Rattle.std.proofs.Common.{◌∙◌}
use Rattle.wbt_replay_order.proofs.Common.{seen}
use Rattle.wbt_replay.proofs.Ordering.Seeking.{goes_on}
use Rattle.wbt_replay.proofs.order.take.Goals as goal

pub go_on-requires-clause-going : goal.go_on-requires-clause-going
go_on-requires-clause-going c = goes_on (seen c.args.machine.now) c.args.actor (c.requires.found ∙ c.in-GoesOn.is)
