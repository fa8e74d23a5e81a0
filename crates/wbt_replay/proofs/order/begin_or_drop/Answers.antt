use Rattle.std.proofs.Common.{sym, ◌∙◌}
use Rattle.wbt_replay_order.proofs.Common.{seen}
use Rattle.wbt_replay.proofs.Ordering.Seeking.{turn_begins}
use Rattle.wbt_replay.proofs.order.begin_or_drop.Goals as goal

pub go_on-requires-clause-going : goal.go_on-requires-clause-going
go_on-requires-clause-going c = absurd (turn_begins (seen c.args.machine.now) c.args.actor (sym c.turn_at.ensures ∙ c.in-GoesOn.is))
