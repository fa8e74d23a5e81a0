use Rattle.std.proofs.Common.{rules}
use Rattle.wbt_run_worker.proofs.Speaking.{speaks_cut, speaks_halted}
use Rattle.wbt_run_worker.proofs.worker.tell_end.Goals as goal

pub returns-then-ne : goal.returns-then-ne
returns-then-ne c = speaks_cut c.args.condition.now.signals c.tell_written.new.writes c.args.end c.args.voice.now c.tell_written.new.voice c.ring.new.voice
    c.tell_written.ensures.written c.tell_written.ensures.speaks c.ring.ensures.rang (search rules) c.requires.cut

pub returns-else-ne : goal.returns-else-ne
returns-else-ne c = speaks_halted c.args.condition.now.signals c.tell_written.new.writes c.args.end c.args.voice.now c.tell_written.new.voice
    c.tell_written.ensures.written c.tell_written.ensures.speaks (search rules)
