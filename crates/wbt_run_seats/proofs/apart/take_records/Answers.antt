use Rattle.std.proofs.Common.{sym, subst}
use Rattle.wbt_kit.proofs.Common.{Has, Seated}
use Rattle.wbt_kit.proofs.Joining.{has_come}
use Rattle.wbt_kit.proofs.Seating.{as_long}
use Rattle.wbt_run_seats.proofs.Aparts.{with_records}
use Rattle.wbt_run_seats.proofs.apart.take_records.Goals as goal

pub returns-clause-seats : goal.returns-clause-seats
returns-clause-seats g c =
    with_records c.args.kit.now c.args.seats.now c.args.cpus c.join.new.into c.swap.new.x c.swap-2.new.x c.join-2.new.into c.requires.seats.0 c.requires.seats.1
    c.join.ensures c.swap.ensures.x_after c.swap-2.ensures.x_after c.join-2.ensures

pub returns-clause-came : goal.returns-clause-came
returns-clause-came g c = λ n r has.
    let long = as_long c.args.kit.now c.args.seats.now c.args.cpus c.requires.seats.0 c.requires.seats.1 in
    subst (λ (s : Seated). Has s.cpus n r) (sym c.join.ensures) (has_come c.args.seats.now.cpu.cpus c.args.cpus.cpu.cpus n r long has)
