use Rattle.std.proofs.Common.{List, length, ap, arith}
use Rattle.wbt_kit.proofs.Common.{domains}
use Rattle.wbt_timer.specs.declared.side.DomainSide.{DomainSide}
use Rattle.wbt_timer.proofs.Opened.{sides_long, first_is_side}
use Rattle.wbt_timer.proofs.side.TimerSide.make.Goals as goal

pub log_first-requires-clause-room : goal.log_first-requires-clause-room
log_first-requires-clause-room c =
    let trace = c.args.trace.now in
    omega (arith, c.in_ok-reserve.ensures.ok, c.len.ensures, ap (λ (l : List DomainSide). length l) c.in_ok-domains.ensures, sides_long trace c.args.now (domains trace))

pub invariant_of-result : goal.invariant_of-result
invariant_of-result c =
    first_is_side c.args.trace.now c.in_ok-machine.machine c.args.now c.in_ok-domains.domains.items c.requires.lawful c.requires.moment c.in_ok-machine.ensures.cgroups c.in_ok-domains.ensures
