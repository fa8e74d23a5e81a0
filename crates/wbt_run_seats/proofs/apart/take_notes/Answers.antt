use Rattle.wbt_run_seats.proofs.Aparts.{with_notes}
use Rattle.wbt_run_seats.proofs.apart.take_notes.Goals as goal

pub returns-clause-seats : goal.returns-clause-seats
returns-clause-seats g c =
    with_notes c.args.kit.now c.args.seats.now c.args.apart c.join.new.into c.join-2.new.into c.swap-2.new.x c.swap-2.new.y
    c.requires.seats.0 c.requires.seats.1 c.join.ensures.seat c.swap-2.ensures.x_after c.swap-2.ensures.y_after c.join-2.ensures
