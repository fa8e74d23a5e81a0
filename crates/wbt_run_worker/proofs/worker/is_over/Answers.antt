use Rattle.wbt_run_worker.proofs.Speaking.{speaks_now, speaks_quiet_after}
use Rattle.wbt_run_worker.proofs.worker.is_over.Goals as goal

pub returns-then-still-clause-speaks : goal.returns-then-still-clause-speaks
returns-then-still-clause-speaks c = speaks_now c.args.condition.now.signals c.args.writes.now c.args.voice.now c.requires.voice

pub returns-clause-speaks : goal.returns-clause-speaks
returns-clause-speaks c = speaks_quiet_after c.args.condition.now.signals c.tell_written.new.writes c.is_quiet.result c.args.voice.now c.tell_written.new.voice c.is_quiet.new.voice
    c.tell_written.ensures.written c.tell_written.ensures.speaks c.is_quiet.ensures.quiet
