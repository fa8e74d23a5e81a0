use Rattle.std.proofs.Common.{ℕ, set, sym, ap, ◌∙◌, subst, arith}
use Rattle.wbt_expiry.specs.Filed.{AreFiled}
use Rattle.wbt_expiry.proofs.SlotOrder.{slot_below}
use Rattle.wbt_expiry.proofs.Filing.{filed_more}
use Rattle.wbt_expiry.proofs.filed.Filed.put.Goals as goal

pub push-requires-clause-list : goal.push-requires-clause-list
push-requires-clause-list c = let below = slot_below c.args.self.now.base c.args.due in omega (arith, c.slot_of.ensures)

pub returns-clause-filed : goal.returns-clause-filed
returns-clause-filed c =
    let now = c.args.self.now in
    subst (AreFiled now.base (set now.dues.items c.args.inode c.args.due)) (sym (c.push.ensures ∙ ap (λ (s : ℕ). set now.lists c.args.inode s) c.slot_of.ensures))
    (filed_more now.base now.dues.items now.lists c.args.inode c.args.due c.requires.filed c.requires.inode c.requires.near c.requires.due_early)
