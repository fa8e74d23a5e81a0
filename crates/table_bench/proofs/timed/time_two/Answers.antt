use Rattle.std.proofs.Common.{ℕ, sym, ap, subst, arith, rules}
use Rattle.wbt_table.specs.Callers.{StepsFor}
use Rattle.caller_of_throttle.specs.declared.worker.Part.{Part}
use Rattle.table_bench.proofs.Timing.{timed_part}
use Rattle.table_bench.proofs.timed.time_two.Goals as goal

pub join-requires-after_bounds : goal.join-requires-after_bounds
join-requires-after_bounds g c κs within = let t = c.args.throttle.now in
    let few = c.requires.cpu in
    let low = timed_part t.layout c.part-low.result c.args.cpu c.requires.layout c.part-low.ensures (omega arith) in
    let high = timed_part t.layout c.part-high.result _ c.requires.layout c.part-high.ensures (omega arith) in (
      (search rules, subst (λ (i : ℕ). StepsFor t i c.args.one) (sym (ap (λ (p : Part). p.cpu) c.part-low.ensures)) c.requires.seats.0, low.0, low.1),
      (search rules, subst (λ (i : ℕ). StepsFor t i c.args.two) (sym (ap (λ (p : Part). p.cpu) c.part-high.ensures)) c.requires.seats.1, high.0, high.1),
    )
