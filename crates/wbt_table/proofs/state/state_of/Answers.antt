use Rattle.std.proofs.Common.{Some, sym, ◌∙◌, arith}
use Rattle.wbt_table.proofs.Lists.{at_less, at_read, read_at}
use Rattle.wbt_table.proofs.Seating.{none_some}
use Rattle.wbt_table.proofs.state.state_of.Goals as goal

pub index-requires : goal.index-requires
index-requires c = let less = at_less c.args.cpus.now.items c.args.cpu (Some c.requires.0) c.requires.1 in omega arith

pub unreachable-requires : goal.unreachable-requires
unreachable-requires c = none_some c.requires.0 (sym c.in-None.is ∙ c.index.ensures ∙ at_read c.args.cpus.now.items c.args.cpu (Some c.requires.0) c.requires.1 c.index.result.now)

pub returns : goal.returns
returns c = read_at c.args.cpus.now.items c.args.cpu (Some c.in-Some.state) c.index.result.now (at_less c.args.cpus.now.items c.args.cpu (Some c.requires.0) c.requires.1) (sym c.index.ensures ∙ c.in-Some.is)
