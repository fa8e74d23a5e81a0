use Rattle.std.proofs.Common.{◌≤◌, Bool, [], refl, sym, arith, subst}
use Rattle.std.proofs.lemmas.List.{append-nil, set-get_or}
use Rattle.wbt_kit.proofs.Common.{no_seat}
use Rattle.wbt_fraction.specs.Seat.{Begins}
use Rattle.wbt_timer.specs.Turn.{seat_at}
use Rattle.wbt_timer.specs.Turn.Tries.{none, refused, came_between}
use Rattle.wbt_timer.proofs.periods.begin.Goals as goal

pub returns-then-k-eq0-clause-tried : goal.returns-then-k-eq0-clause-tried
returns-then-k-eq0-clause-tried c =
    let seats = c.args.seats.now in
    record {
      kept = record { cpu = refl; totals = refl; stakes = λ d. refl; rooms = λ d. refl; est = refl; queue = refl };
      mid = seat_at c.args.domain seats.share;
      domains_are = sym (set-get_or seats.share.domains c.args.domain no_seat);
      added = [];
      tries = none c.if-k-eq0.true refl refl refl;
      logged = sym (append-nil c.args.log.now.items);
    }

pub returns-in-Ok-false-clause-tried : goal.returns-in-Ok-false-clause-tried
returns-in-Ok-false-clause-tried c =
    let told = c.in-Ok-false.ensures in
    let some : 1 ≤ c.args.k = omega (arith, c.if-k-eq0.false) in
    record {
      kept = record { cpu = refl; totals = told.totals; stakes = told.same.0; rooms = told.same.1; est = refl; queue = refl };
      mid = told.told.0;
      domains_are = told.told.2;
      added = [];
      tries = refused some (subst (λ (b : Bool). Begins c.args.k b (seat_at c.args.domain c.args.seats.now.share) told.told.0) c.in-Ok-false.field-0-test told.told.1) refl refl;
      logged = sym (append-nil c.args.log.now.items);
    }

pub returns-in-Err-clause-tried : goal.returns-in-Err-clause-tried
returns-in-Err-clause-tried c =
    let told = c.in-Err.ensures in
    let some : 1 ≤ c.args.k = omega (arith, c.if-k-eq0.false) in
    record {
      kept = record { cpu = refl; totals = told.totals; stakes = told.same.0; rooms = told.same.1; est = refl; queue = refl };
      mid = told.told.0;
      domains_are = told.told.2;
      added = [];
      tries = came_between c.in-Err.field-0 some told.told.1 refl refl;
      logged = sym (append-nil c.args.log.now.items);
    }
