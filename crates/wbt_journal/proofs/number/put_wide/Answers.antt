use Rattle.std.proofs.Common.{◌≤◌, arith, ◌∙◌}
use Rattle.wbt_journal.proofs.LastDigit.{has_room, one_longer, one_more}
use Rattle.wbt_journal.proofs.number.put_wide.Goals as goal

pub overflow_sub-at : goal.overflow_sub-at
overflow_sub-at c = omega (arith, has_room c.args.number (omega arith), one_longer c.loop-left.left (omega arith) (omega arith))

pub bounds-room-at : goal.bounds-room-at
bounds-room-at c = omega (arith, has_room c.args.number (omega arith), one_longer c.loop-left.left (omega arith) (omega arith))

pub loop-left-preserved : goal.loop-left-preserved
loop-left-preserved c =
    let l = c.loop-left in
    let long = one_longer l.left (omega arith) (omega arith) in
    let some : 1 ≤ l.at = omega (arith, long, has_room c.args.number (omega arith)) in
    record {
      within = omega arith;
      place = omega (arith, long, some);
      text = one_more l.left l.at l.room (omega arith) (omega arith) some (omega arith) ∙ l.invariant.text;
    }

pub put_before-requires-clause-long : goal.put_before-requires-clause-long
put_before-requires-clause-long c = omega (arith, has_room c.args.number (omega arith))

pub returns-clause-place : goal.returns-clause-place
returns-clause-place c = omega (arith, has_room c.args.number (omega arith), c.put_before.ensures.place)
