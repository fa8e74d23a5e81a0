use Rattle.std.proofs.Common.{Some, ◌∙◌, ap, arith}
use Rattle.wbt_table.specs.declared.state.CpuState.{CpuState}
use Rattle.wbt_table.proofs.Common.{stepped, with_due}
use Rattle.wbt_table.proofs.Lists.{at_less}
use Rattle.wbt_table.proofs.Seating.{some_kept, puts}
use Rattle.wbt_table.proofs.state.step_slot.Goals as goal

pub index_mut-requires : goal.index_mut-requires
index_mut-requires c = let less = at_less c.args.cpus.now.items c.args.cpu (Some c.requires.0) c.requires.1 in omega arith

pub unreachable-requires : goal.unreachable-requires
unreachable-requires c = some_kept c.args.cpus.now.items c.args.cpu c.requires.0 c.index_mut.result.now c.requires.1 c.index_mut.ensures.value c.in-None.is

pub returns : goal.returns
returns c s knows = puts c.args.cpus.now.items c.args.cpu s c.index_mut.result.now knows c.index_mut.ensures.value
    (λ (z : CpuState). with_due c.args.slot c.args.due (stepped z)) c.in-Some.state c.owe.new.self c.in-Some.is
    (c.owe.ensures ∙ ap (with_due c.args.slot c.args.due) c.step.ensures)
