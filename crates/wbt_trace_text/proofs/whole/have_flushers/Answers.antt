use Rattle.std.proofs.Common.{sym, ◌∙◌}
use Rattle.wbt_trace_text.proofs.Flushers.{one_lacks}
use Rattle.wbt_trace_text.proofs.whole.have_flushers.Goals as goal

pub returns-then-not-has_flusher : goal.returns-then-not-has_flusher
returns-then-not-has_flusher c = sym (one_lacks c.args.devices c.loop-device.device c.args.flushers.now c.loop-device-test.true (sym c.has_flusher.ensures ∙ c.if-not-has_flusher.true))
