use Rattle.std.proofs.Common.{ℕ, List, subst, arith}
use Rattle.wbt_expiry.specs.Lists.{IsLeast}
use Rattle.wbt_expiry.proofs.Filing.{first_pair}
use Rattle.wbt_expiry.proofs.filed.Filed.take_lowest.Goals as goal

pub take_inode-requires-clause-first : goal.take_inode-requires-clause-first
take_inode-requires-clause-first c = let now = c.args.self.now in
    let least : IsLeast c.deref.result.now now.lists c.slot_list.result c.in-Some.inode = c.in-Some.ensures in
    first_pair 0 now.base c.args.place now.dues.items now.lists (omega arith) c.requires.filed c.requires.from c.requires.first
    c.slot_list.result c.slot_list.ensures c.in-Some.inode (subst (λ (d : List ℕ). IsLeast d now.lists c.slot_list.result c.in-Some.inode) c.deref.ensures.value least)
