use Rattle.throttle_in_use.proofs.Steps.{loads_still}
use Rattle.throttle_in_use.proofs.seats.load_under.Goals as goal

pub load_limits-requires-clause-held : goal.load_limits-requires-clause-held
load_limits-requires-clause-held g c = (c.requires.known, c.requires.held)

pub returns : goal.returns
returns g c = loads_still c.args.throttle.now (g.G.Gate.said c.args.gate.now c.args.cpu) c.args.seat.now c.load_limits.new.seat c.args.cpu c.requires c.load_limits.result c.load_limits.ensures
