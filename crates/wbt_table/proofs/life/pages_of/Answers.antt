use Rattle.std.proofs.Common.{◌-◌, length, sym, ◌∙◌, arith}
use Rattle.wbt_table.proofs.Common.{no_place}
use Rattle.wbt_table.proofs.Opening.{last_end, some_length}
use Rattle.wbt_table.proofs.life.pages_of.Goals as goal

pub overflow_add-result : goal.overflow_add-result
overflow_add-result c = let few = c.requires.few in
    let is = last_end c.args.inodes.now 0 (length c.args.inodes.now - 1) no_place c.requires.in_order (some_length c.args.inodes.now (sym c.is_empty.ensures ∙ c.if-is_empty.false)) in
    omega arith

pub returns : goal.returns
returns c = last_end c.args.inodes.now 0 (length c.args.inodes.now - 1) no_place c.requires.in_order (some_length c.args.inodes.now (sym c.is_empty.ensures ∙ c.if-is_empty.false)) ∙ omega arith
