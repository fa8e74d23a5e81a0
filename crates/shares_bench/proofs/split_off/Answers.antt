use Rattle.std.proofs.Common.{arith}
use Rattle.wbt_fraction.proofs.Parting.{has_room, splits_on}
use Rattle.shares_bench.proofs.split_off.Goals as goal

pub split-requires-clause-room : goal.split-requires-clause-room
split-requires-clause-room c = has_room c.args.shares.now c.args.seat.now c.args.left c.requires.seat.0 c.requires.splits

pub returns-in-Ok-clause-splits : goal.returns-in-Ok-clause-splits
returns-in-Ok-clause-splits c = splits_on c.args.shares.now c.args.seat.now c.split.new.seat c.in-Ok.new c.in-Ok.ensures.parted c.args.left c.requires.splits

pub returns-in-Ok-clause-room : goal.returns-in-Ok-clause-room
returns-in-Ok-clause-room c = let new = (c.in-Ok.ensures.parted.rooms 0 c.requires.seat.1).1 in omega arith
