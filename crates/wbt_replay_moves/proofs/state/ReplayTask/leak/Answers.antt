use Rattle.std.proofs.Common.{◌∙◌, ◌+◌, ap, sym, arith, drop, fold}
use Rattle.wbt_task.specs.History.{new_writer}
use Rattle.wbt_task.specs.declared.allowance.CpuLocal.{CpuLocal}
use Rattle.wbt_task.specs.declared.history.Writer.{Writer}
use Rattle.wbt_replay_moves.specs.Definition.Writer.{leaked}
use Rattle.wbt_replay_moves.proofs.Writing.{leaks_more, leaked_more}
use Rattle.wbt_replay_moves.proofs.state.ReplayTask.leak.Goals as goal

pub end_task-requires : goal.end_task-requires
end_task-requires c =
    let is = ap (λ (w : Writer). w.task.nr_dirtied) (c.get.ensures (new_writer 0)) in
    let more = leaks_more c.args.self.now.writers c.loop-context.context (omega arith) in
    let sums = c.loop-context.invariant.1 in
    let few = c.requires.leaks in
    omega arith

pub loop-context-preserved : goal.loop-context-preserved
loop-context-preserved c =
    let ws = c.args.self.now.writers in
    let at = c.loop-context.context in
    let is = ap (λ (w : Writer). w.task.nr_dirtied) (c.get.ensures (new_writer 0)) in
    let more = leaks_more ws at (omega arith) in
    let sums = c.loop-context.invariant.1 in
    let grow = c.end_task.ensures.leaks_grow in (
      ap (λ (l : CpuLocal). fold leaked l (drop (at + 1) ws))
          (c.end_task.ensures.value ∙ ap (leaked c.loop-context.local) (c.get.ensures (new_writer 0)))
          ∙ sym (leaked_more ws at (omega arith) c.loop-context.local) ∙ c.loop-context.invariant.0,
      omega arith,
    )
