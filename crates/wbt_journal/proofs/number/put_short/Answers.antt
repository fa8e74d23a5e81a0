use Rattle.std.proofs.Common.{arith}
use Rattle.wbt_journal.proofs.LastDigit.{has_short_room}
use Rattle.wbt_journal.proofs.number.put_short.Goals as goal

pub put_before-requires-clause-long : goal.put_before-requires-clause-long
put_before-requires-clause-long c = omega (arith, has_short_room c.args.number (omega arith))

pub returns-clause-place : goal.returns-clause-place
returns-clause-place c = omega (arith, c.put_before.ensures.place, has_short_room c.args.number (omega arith))
