use Rattle.std.proofs.Common.{◌-◌, ◌+◌, ◌++◌, ◌∷◌, [], List, ap, ◌∙◌, arith}
use Rattle.wbt_kit.proofs.Common.{Limits, domains, TimerEntry, first_limits}
use Rattle.wbt_journal.specs.declared.timer.TimerEntry.TheVariants.{Limits as LimitsLine}
use Rattle.wbt_run_laws.specs.Closed.{first_lines}
use Rattle.wbt_timer.proofs.Opened.{lines_more}
use Rattle.wbt_timer.proofs.side.log_first.Goals as goal

pub loop-domain-preserved : goal.loop-domain-preserved
loop-domain-preserved c =
    let trace = c.args.trace.now in
    let now = c.args.now in
    let d = c.loop-domain.domain in
    let n = domains trace in
    record {
      items = ap (λ (l : List TimerEntry). l ++ first_lines (first_limits trace now) now (d + 1) (n - (d + 1)))
          (c.push_reserved.ensures.items ∙ ap (λ (l : Limits). c.loop-domain.log.items ++ LimitsLine d now l ∷ []) c.first_limits.ensures.value)
          ∙ lines_more (first_limits trace now) now d n c.loop-domain.log.items (omega (arith, c.loop-domain-test.true, c.domains_of-domain-end.ensures)) ∙ c.loop-domain.invariant.items;
      room = omega (arith, c.push_reserved.ensures.len, c.push_reserved.ensures.capacity, c.loop-domain.invariant.room, c.loop-domain-test.true, c.domains_of-domain-end.ensures);
    }
