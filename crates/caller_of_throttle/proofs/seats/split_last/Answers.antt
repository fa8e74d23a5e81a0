use Rattle.caller_of_throttle.proofs.Parting.{is_held, split_gives}
use Rattle.caller_of_throttle.proofs.seats.split_last.Goals as goal

pub split-requires-clause-held : goal.split-requires-clause-held
split-requires-clause-held c = is_held c.args.throttle.now c.args.cpu c.args.seat.now c.requires.seat c.requires.cpu

pub returns-in-Ok : goal.returns-in-Ok
returns-in-Ok c = split_gives c.args.throttle.now c.args.cpu c.args.seat.now c.requires.seat c.requires.cpu c.split.new.seat c.in-Ok.other c.in-Ok.ensures.ok.0 c.in-Ok.ensures.ok.1
