use Rattle.wbt_table.specs.Layout.{setting}
use Rattle.wbt_table.proofs.Trying.{may_complete}
use Rattle.throttle_in_use.proofs.Backs.{backs_keep, backs_leave}
use Rattle.throttle_in_use.proofs.calls.give_back_under.Goals as goal

pub give_back-requires-clause-may : goal.give_back-requires-clause-may
give_back-requires-clause-may g c = may_complete (setting c.args.throttle.now.layout) c.args.cpu c.args.page c.args.seat.now c.owes.result c.requires.page c.requires.mine c.if-owes.false c.owes.ensures

pub returns-in-Ok-clause-seat : goal.returns-in-Ok-clause-seat
returns-in-Ok-clause-seat g c = backs_keep c.args.throttle.now c.args.cpu c.args.page (g.G.Gate.said c.args.gate.now c.args.cpu) c.args.seat.now c.give_back.new.seat c.requires.seat c.in-Ok.back c.in-Ok.ensures.gives

pub returns-in-Ok-clause-leaves : goal.returns-in-Ok-clause-leaves
returns-in-Ok-clause-leaves g c = backs_leave c.args.throttle.now c.args.cpu c.args.page (g.G.Gate.said c.args.gate.now c.args.cpu) c.args.seat.now c.give_back.new.seat c.requires.mine c.in-Ok.back c.in-Ok.ensures.gives
