use Rattle.std.proofs.Common.{◌≡◌}
use Rattle.wbt_table.proofs.Common.{with_grant}
use Rattle.wbt_table.proofs.Joining.{followed}
use Rattle.wbt_table.proofs.Logging.{GivenTo}
use Rattle.wbt_table.proofs.seat.Throttle.close.Given as goal

-- the grants of the first CPUs are in their records
abbrev pub invariant-loop-i : goal.invariant-loop-i
invariant-loop-i l = (l.place.table_id ≡ l.initial.place.table_id) × (l.place.me.0.layout ≡ l.initial.place.me.0.layout)
    × (l.place.me.0.timer ≡ l.initial.place.me.0.timer)
    × (l.place.me.0.cpus ≡ followed with_grant l.i l.cpus.items l.initial.place.me.0.cpus)
    × (l.place.me.0.timer_log ≡ l.initial.place.me.0.timer_log) × GivenTo l.i l.initial.place.me.0.logs l.place.me.0.logs
