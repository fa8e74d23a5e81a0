use Rattle.std.proofs.Common.{ap, ◌∙◌}
use Rattle.wbt_table.proofs.Common.{Seated}
use Rattle.wbt_table.proofs.QuietLoads.{newest_by_timer}
use Rattle.wbt_table.proofs.seat.Throttle.timer_count.Goals as goal

pub returns-clause-newest : goal.returns-clause-newest
returns-clause-newest c r has = let s = c.seat.inside in
    newest_by_timer c.self.inside.words.layout c.args.counter c.timer_count-found.result r s.place.me.0
    (c.timer_count-found.ensures.ticked.found r (ap (λ (z : Seated). z.timer) c.seat.view_is ∙ has))
