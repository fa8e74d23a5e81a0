use Rattle.std.proofs.Common.{◌≡◌, ◌+◌, ◌-◌, ◌≤◌, ◌++◌}
use Rattle.std.specs.Vec.{vec_len, vec_capacity}
use Rattle.wbt_kit.proofs.Common.{domains, first_limits}
use Rattle.wbt_run_laws.specs.Closed.{first_lines}
use Rattle.wbt_timer.proofs.side.log_first.Given as goal

abbrev pub invariant-loop-domain : goal.invariant-loop-domain
invariant-loop-domain l = record {
  items : l.log.items ++ first_lines (first_limits l.trace l.now) l.now l.domain (domains l.trace - l.domain)
      ≡ l.initial.log.items ++ first_lines (first_limits l.trace l.now) l.now 0 (domains l.trace);
  room : vec_len l.log + (domains l.trace - l.domain) ≤ vec_capacity l.log;
}
