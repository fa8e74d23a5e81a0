use Rattle.std.proofs.Common.{◌∷◌, sym, refl, ap}
use Rattle.wbt_kit.proofs.Common.{Count, Domain, count, timer_after, Timer}
use Rattle.wbt_timer.specs.Turn.{reading_of}
use Rattle.wbt_timer.proofs.limits.read.Goals as goal

pub returns-clause-counted : goal.returns-clause-counted
returns-clause-counted c =
    let d = c.args.domain in
    let load = c.load_count.ensures.loads in
    record {
      kept = record { table = load.2.table; layout = load.2.layout; cpus = load.2.cpus; logs = load.2.logs; share = refl; est = refl; queue = refl };
      became = λ r has. record {
        held = timer_after (count Timer (Domain d)) load.0 r;
        has = load.2.timer r has;
        readings_are = ap (λ (n : Count). reading_of d n ∷ r.readings) (sym load.1);
        published_are = refl;
        raised_are = refl;
      };
    }

pub returns-clause-step : goal.returns-clause-step
returns-clause-step c = let load = c.load_count.ensures.loads in (load.0, load.2)
