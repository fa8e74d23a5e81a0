use Rattle.std.proofs.Common.{refl}
use Rattle.wbt_kit.proofs.Common.{count, cpu_for, record_after, setting}
use Rattle.wbt_kit.specs.declared.kit.Seats.{Seats}
use Rattle.wbt_run_steps.proofs.Changing.{seats_stay}
use Rattle.wbt_run_steps.proofs.Logging.{makes_as}
use Rattle.wbt_run_steps.proofs.Loading.{loader_held, made_by}
use Rattle.wbt_run_steps.proofs.loads.load_count.Goals as goal

pub load_count-requires : goal.load_count-requires
load_count-requires c = record { seat = c.requires.seats.cpu; there = c.requires.counter; held = c.requires.held.held }

pub returns-clause-seats : goal.returns-clause-seats
returns-clause-seats c =
    let set' = setting c.args.kit.now.throttle.layout in
    let who = c.args.who in
    let old = c.args.seats.now in
    let new : Seats = record { cpu = c.load_count.new.seat; share = old.share; est = old.est; queue = old.queue } in
    let l = c.load_count.ensures.loads in
    let step = count who c.args.counter in
    let held = loader_held set' who old.cpu c.requires.held.no_timer c.requires.held.held in
    seats_stay c.args.kit.now (cpu_for set' who) (record_after set' step l.0) old new held.0 c.requires.seats held.1
    (made_by set' who step l.0 old.cpu new.cpu c.requires.held.no_timer l.2).changes (record { share = refl; est = refl; queue = refl })

pub returns-clause-loads : goal.returns-clause-loads
returns-clause-loads c =
    let old = c.args.seats.now in
    let l = c.load_count.ensures.loads in
    record {
      found = l.0;
      is_found = l.1;
      newest = c.load_count.ensures.newest;
      makes = made_by (setting c.args.kit.now.throttle.layout) c.args.who (count c.args.who c.args.counter) l.0 old.cpu c.load_count.new.seat c.requires.held.no_timer l.2;
      only = record { share = refl; est = refl; queue = refl };
    }

pub returns-clause-kinds : goal.returns-clause-kinds
returns-clause-kinds c =
    let set' = setting c.args.kit.now.throttle.layout in
    let who = c.args.who in
    let old = c.args.seats.now in
    let new : Seats = record { cpu = c.load_count.new.seat; share = old.share; est = old.est; queue = old.queue } in
    let l = c.load_count.ensures.loads in
    let step = count who c.args.counter in
    makes_as (cpu_for set' who) set' step l.0 old new refl (made_by set' who step l.0 old.cpu new.cpu c.requires.held.no_timer l.2)
