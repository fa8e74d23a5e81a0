use Rattle.std.proofs.Common.{sym, ap, ◌∙◌, subst, arith}
use Rattle.wbt_table.specs.declared.layout.Layout.{Layout}
use Rattle.wbt_table.specs.Layout.{IsLayout}
use Rattle.caller_of_throttle.proofs.Machines.{is_layout}
use Rattle.caller_of_throttle.proofs.Parting.{first_holds}
use Rattle.table_bench.proofs.timed.on_throttle.Goals as goal

pub make-requires : goal.make-requires
make-requires g c = record { layout = subst IsLayout (sym c.in_ok-machine.ensures) (is_layout 4 256 2097152 (omega arith) (omega arith) (omega arith) (omega arith) (omega arith)) }

pub on_four-requires-clause-layout : goal.on_four-requires-clause-layout
on_four-requires-clause-layout g c κs within = c.in_ok-throttle.ensures.layout ∙ c.in_ok-machine.ensures

pub on_four-requires-clause-seat : goal.on_four-requires-clause-seat
on_four-requires-clause-seat g c κs within = let made = c.in_ok-throttle.ensures in
    first_holds c.in_ok-throttle.throttle 4 c.in_ok-throttle.one (ap (λ (l : Layout). l.cpus) (made.layout ∙ c.in_ok-machine.ensures)) made.seat.0 made.seat.1

pub on_one-requires-clause-layout : goal.on_one-requires-clause-layout
on_one-requires-clause-layout g c = c.in_ok-throttle.ensures.layout ∙ c.in_ok-machine.ensures

pub on_one-requires-clause-seat : goal.on_one-requires-clause-seat
on_one-requires-clause-seat g c = let made = c.in_ok-throttle.ensures in
    first_holds c.in_ok-throttle.throttle 4 c.in_ok-throttle.one (ap (λ (l : Layout). l.cpus) (made.layout ∙ c.in_ok-machine.ensures)) made.seat.0 made.seat.1
