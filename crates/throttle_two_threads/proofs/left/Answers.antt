use Rattle.std.proofs.Common.{◌<◌, ◌≤◌, ap, ◌∙◌, arith}
use Rattle.wbt_table.specs.declared.layout.Layout.{Layout}
use Rattle.caller_of_throttle.specs.declared.worker.Part.{Part}
use Rattle.caller_of_throttle.proofs.Parting.{first_holds}
use Rattle.caller_of_throttle.proofs.Bounding.{left_is_bounded}
use Rattle.throttle_two_threads.proofs.Pairing.{is_back}
use Rattle.throttle_two_threads.proofs.left.Goals as goal

pub split_last-requires-clause-seat : goal.split_last-requires-clause-seat
split_last-requires-clause-seat g c = let made = c.in_ok-made.ensures in
    first_holds c.in_ok-made.made 2 c.in_ok-made.one (ap (λ (l : Layout). l.cpus) (made.layout ∙ c.in_ok-machine.ensures)) made.seat.0 made.seat.1

pub close-requires-clause-all : goal.close-requires-clause-all
close-requires-clause-all g c = let made = c.in_ok-made.ensures in
    (is_back c.in_ok-made.made c.in_ok-made.one c.split_last.new.seat c.in_ok-two.two (made.layout ∙ c.in_ok-machine.ensures) made.seat.0 made.seat.1 c.in_ok-two.ensures
    c.part-low.result.cpu c.part-high.result.cpu c.join-all.result.0 c.join-all.result.1 c.join.new.into
    (ap (λ (p : Part). p.cpu) c.part-low.ensures) (ap (λ (p : Part). p.cpu) c.part-high.ensures) c.join-all.ensures.first c.join-all.ensures.second c.join.ensures).all

pub overflow_cast-result : goal.overflow_cast-result
overflow_cast-result g c = let made = c.in_ok-made.ensures in
    let back = is_back c.in_ok-made.made c.in_ok-made.one c.split_last.new.seat c.in_ok-two.two (made.layout ∙ c.in_ok-machine.ensures) made.seat.0 made.seat.1 c.in_ok-two.ensures
    c.part-low.result.cpu c.part-high.result.cpu c.join-all.result.0 c.join-all.result.1 c.join.new.into
    (ap (λ (p : Part). p.cpu) c.part-low.ensures) (ap (λ (p : Part). p.cpu) c.part-high.ensures) c.join-all.ensures.first c.join-all.ensures.second c.join.ensures in
    let few : c.unsigned_abs.result ≤ 292 = left_is_bounded c.in_ok-made.made c.join.new.into c.close.result c.exact.result c.unsigned_abs.result back
    c.close.ensures c.exact.ensures c.unsigned_abs.ensures.value in
    let fits : c.unsigned_abs.result < 18446744073709551616 = omega arith in record { fits = fits }

pub returns : goal.returns
returns g c = let made = c.in_ok-made.ensures in
    let back = is_back c.in_ok-made.made c.in_ok-made.one c.split_last.new.seat c.in_ok-two.two (made.layout ∙ c.in_ok-machine.ensures) made.seat.0 made.seat.1 c.in_ok-two.ensures
    c.part-low.result.cpu c.part-high.result.cpu c.join-all.result.0 c.join-all.result.1 c.join.new.into
    (ap (λ (p : Part). p.cpu) c.part-low.ensures) (ap (λ (p : Part). p.cpu) c.part-high.ensures) c.join-all.ensures.first c.join-all.ensures.second c.join.ensures in
    record { bounded = left_is_bounded c.in_ok-made.made c.join.new.into c.close.result c.exact.result c.unsigned_abs.result back c.close.ensures c.exact.ensures c.unsigned_abs.ensures.value }
