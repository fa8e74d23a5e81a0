use Rattle.std.proofs.Common.{◌≡◌, true}
use Rattle.wbt_trace_text.specs.Reading.{have_flushers}
use Rattle.wbt_trace_text.proofs.whole.have_flushers.Given as goal

abbrev pub invariant-loop-device : goal.invariant-loop-device
invariant-loop-device l = have_flushers l.device l.flushers ≡ true
