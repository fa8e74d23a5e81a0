use Rattle.std.proofs.Common.{Some, arith}
use Rattle.wbt_table.proofs.Common.{page_stepped}
use Rattle.wbt_table.proofs.Lists.{at_less}
use Rattle.wbt_table.proofs.Seating.{some_kept, has_page_step, puts}
use Rattle.wbt_table.proofs.state.step_page.Goals as goal

pub index_mut-requires : goal.index_mut-requires
index_mut-requires c = let less = at_less c.args.cpus.now.items c.args.cpu (Some c.requires.0) c.requires.1 in omega arith

pub unreachable-requires : goal.unreachable-requires
unreachable-requires c = some_kept c.args.cpus.now.items c.args.cpu c.requires.0 c.index_mut.result.now c.requires.1 c.index_mut.ensures.value c.in-None.is

pub page_step-requires : goal.page_step-requires
page_step-requires c = record {
  few = has_page_step c.args.cpus.now.items c.args.cpu c.requires.0 c.index_mut.result.now c.requires.1 c.index_mut.ensures.value c.in-Some.state c.in-Some.is c.requires.2;
}

pub returns : goal.returns
returns c s knows = puts c.args.cpus.now.items c.args.cpu s c.index_mut.result.now knows c.index_mut.ensures.value
    page_stepped c.in-Some.state c.page_step.new.self c.in-Some.is c.page_step.ensures
