use Rattle.wbt_table.proofs.Trying.{after_comes}
use Rattle.throttle_in_use.proofs.calls.settle_under.Goals as goal

pub returns : goal.returns
returns g c = after_comes c.args.throttle.now c.args.cpu _ c.args.seat.now c.settle.new.seat c.requires c.settle.ensures
