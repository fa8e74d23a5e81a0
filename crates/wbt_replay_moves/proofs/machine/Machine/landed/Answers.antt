use Rattle.std.proofs.Common.{◌∙◌}
use Rattle.std.proofs.lemmas.Result.{on_ok_weaker}
use Rattle.wbt_replay_moves.specs.Seen.{seen}
use Rattle.wbt_replay_moves.proofs.Landing.{lands}
use Rattle.wbt_replay_moves.proofs.machine.Machine.landed.Goals as goal

pub returns : goal.returns
returns c = on_ok_weaker c.share-2.result (λ shared. shared
    ∙ lands c.args.trace.now c.args.cpu c.args.flusher c.args.context c.args.n c.group_of-group.result (seen c.args.self.now)
    (seen c.set_phase.new.self) (seen c.add_written.new.self) (seen c.share.new.self)
    c.if-group-eq0.false c.group_of-group.ensures c.set_phase.ensures c.add_written.ensures c.in_ok-share.ensures)
    c.share-2.ensures
