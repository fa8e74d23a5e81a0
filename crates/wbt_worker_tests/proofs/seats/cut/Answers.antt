use Rattle.std.proofs.Common.{ap, arith}
use Rattle.wbt_grant.specs.State.{no_record}
use Rattle.wbt_table.specs.declared.layout.Layout.{Layout}
use Rattle.wbt_run_seats.proofs.Firsts.{first_has}
use Rattle.wbt_worker_tests.proofs.seats.cut.Goals as goal

pub split_each-requires-clause-held : goal.split_each-requires-clause-held
split_each-requires-clause-held g c = λ cpu less.
    let seats = c.requires.seats in
    let cpus = ap (λ (l : Layout). l.cpus) seats.1.cpu.layout in
    (no_record, first_has c.args.kit c.args.left cpu seats.2 (omega (arith, less, cpus)))
