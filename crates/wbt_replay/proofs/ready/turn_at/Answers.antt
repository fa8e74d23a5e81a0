use Rattle.std.proofs.Common.{sym, ◌∙◌, ap, arith}
use Rattle.wbt_replay_order.proofs.Common.{seen, Actor, turn_at}
use Rattle.wbt_replay_order.proofs.Facts.Actors.{past_turn}
use Rattle.wbt_replay.proofs.ready.turn_at.Goals as goal

pub returns-in-Cpu-2 : goal.returns-in-Cpu-2
returns-in-Cpu-2 c =
    let s = seen c.args.machine.now in
    sym (ap (λ (a : Actor). turn_at a s) c.in-Cpu.is ∙ past_turn s c.in-Cpu.cpu (omega (arith, c.len.ensures, c.if-cpu-len.false)))
