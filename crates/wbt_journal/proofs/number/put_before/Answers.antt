use Rattle.std.proofs.Common.{◌≤◌, arith, ◌∙◌}
use Rattle.wbt_journal.proofs.LastDigit.{one_long, one_longer, one_more, the_first}
use Rattle.wbt_journal.proofs.number.put_before.Goals as goal

pub overflow_sub-at : goal.overflow_sub-at
overflow_sub-at c = omega (arith, one_longer c.loop-left.left (omega arith) (omega arith))

pub bounds-room-at : goal.bounds-room-at
bounds-room-at c = omega (arith, one_longer c.loop-left.left (omega arith) (omega arith))

pub loop-left-preserved : goal.loop-left-preserved
loop-left-preserved c =
    let l = c.loop-left in
    let long = one_longer l.left (omega arith) (omega arith) in
    let some : 1 ≤ l.at = omega (arith, long) in
    record {
      within = omega arith;
      place = omega (arith, long, some);
      text = one_more l.left l.at l.room (omega arith) (omega arith) some (omega arith) ∙ l.invariant.text;
    }

pub overflow_sub-room : goal.overflow_sub-room
overflow_sub-room c = omega (arith, one_long c.loop-left.left (omega arith))

pub bounds-room-at-2 : goal.bounds-room-at-2
bounds-room-at-2 c = omega (arith, one_long c.loop-left.left (omega arith))

pub overflow_sub-result : goal.overflow_sub-result
overflow_sub-result c = omega (arith, one_long c.loop-left.left (omega arith))

pub returns-clause-place : goal.returns-clause-place
returns-clause-place c = omega (arith, one_long c.loop-left.left (omega arith))

pub returns-clause-text : goal.returns-clause-text
returns-clause-text c =
    let l = c.loop-left in
    let some : 1 ≤ l.at = omega (arith, one_long l.left (omega arith)) in
    the_first l.left l.at l.room (omega arith) some (omega arith) ∙ l.invariant.text
