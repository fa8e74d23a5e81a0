use Rattle.std.proofs.Common.{rules}
use Rattle.wbt_run_worker.proofs.Speaking.{may_true, speaks_none, speaks_written}
use Rattle.wbt_run_worker.proofs.worker.tell_written.Goals as goal

pub has_written-requires-clause-writes : goal.has_written-requires-clause-writes
has_written-requires-clause-writes c = may_true c.args.condition.now.signals c.args.writes.now c.args.voice.now (search rules) c.requires.voice

pub returns-then-writes-clause-speaks : goal.returns-then-writes-clause-speaks
returns-then-writes-clause-speaks c = speaks_written c.args.condition.now.signals c.args.writes.now c.args.voice.now c.has_written.new.voice (search rules) c.requires.voice c.has_written.ensures.stopped

pub returns-else-writes-clause-speaks : goal.returns-else-writes-clause-speaks
returns-else-writes-clause-speaks c = speaks_none c.args.condition.now.signals c.args.writes.now c.args.voice.now (search rules) c.requires.voice
