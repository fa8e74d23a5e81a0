use Rattle.wbt_timer.proofs.Ready.{ready_at_first}
use Rattle.wbt_timer_tests.proofs.timer.open_at_one.Goals as goal

pub returns-in-Ok-make : goal.returns-in-Ok-make
returns-in-Ok-make c = let made = c.in-Ok.ensures in let side = c.in-Ok-make.ensures in
    ready_at_first c.in_ok-trace.trace 1 c.in-Ok.kit c.in-Ok-make.side c.in-Ok.seats made.kit made.seats made.first side.timer side.first
