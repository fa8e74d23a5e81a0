use Rattle.std.proofs.Common.{Bool, eqb, length, replicate, None, sym, subst}
use Rattle.std.proofs.lemmas.Bool.{cond_both}
use Rattle.wbt_table.specs.Rule.{without_cpu, apart}
use Rattle.wbt_table.specs.Seat.{Seated, IsAt, as_cpu}
use Rattle.throttle_in_use.proofs.calls.split_off.Goals as goal

pub split-requires-clause-held : goal.split-requires-clause-held
split-requires-clause-held c = let h = c.requires.seat.held in as_cpu h.0 h.1

pub returns-in-Ok-clause-ok : goal.returns-in-Ok-clause-ok
returns-in-Ok-clause-ok c = let old : Seated = c.args.seat.now in let at = c.requires.seat.at in let b : Bool = eqb c.args.cpu old.layout.cpus in (
  subst (IsAt c.args.throttle.now) (sym c.in-Ok.ensures.ok.0) (cond_both b (record old { timer = None; timer_log = None }) (record old { cpus = without_cpu c.args.cpu old.cpus; logs = without_cpu c.args.cpu old.logs }) (IsAt c.args.throttle.now)
      (λ e. record { table = at.table; layout = at.layout }) (λ e. record { table = at.table; layout = at.layout })),
  subst (IsAt c.args.throttle.now) (sym c.in-Ok.ensures.ok.1) (cond_both b (record old { cpus = replicate (length old.cpus) None; logs = replicate (length old.logs) None }) (record old { cpus = apart c.args.cpu old.cpus; timer = None; logs = apart c.args.cpu old.logs; timer_log = None }) (IsAt c.args.throttle.now)
      (λ e. record { table = at.table; layout = at.layout }) (λ e. record { table = at.table; layout = at.layout })),
)
