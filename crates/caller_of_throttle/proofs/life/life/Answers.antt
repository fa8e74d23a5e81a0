use Rattle.std.proofs.Common.{◌<◌, ◌≤◌, ap, ◌∙◌, arith}
use Rattle.wbt_table.specs.declared.layout.Layout.{Layout}
use Rattle.caller_of_throttle.proofs.Parting.{first_holds}
use Rattle.caller_of_throttle.proofs.Bounding.{left_is_bounded}
use Rattle.caller_of_throttle.proofs.life.life.Goals as goal

pub split_last-requires-clause-seat : goal.split_last-requires-clause-seat
split_last-requires-clause-seat g c = let made = c.in_ok-throttle.ensures in
    first_holds c.in_ok-throttle.throttle 2 c.in_ok-throttle.one (ap (λ (l : Layout). l.cpus) (made.layout ∙ c.in_ok-machine.ensures)) made.seat.0 made.seat.1

pub overflow_cast-result : goal.overflow_cast-result
overflow_cast-result g c = let few : c.unsigned_abs.result ≤ 292 = left_is_bounded c.in_ok-throttle.throttle c.work_by_two-all.result c.close-census.result c.exact.result c.unsigned_abs.result
    c.work_by_two-all.ensures c.close-census.ensures c.exact.ensures c.unsigned_abs.ensures.value in
    let fits : c.unsigned_abs.result < 18446744073709551616 = omega arith in record { fits = fits }

pub returns : goal.returns
returns g c = record {
  bounded = left_is_bounded c.in_ok-throttle.throttle c.work_by_two-all.result c.close-census.result c.exact.result c.unsigned_abs.result
      c.work_by_two-all.ensures c.close-census.ensures c.exact.ensures c.unsigned_abs.ensures.value;
}
