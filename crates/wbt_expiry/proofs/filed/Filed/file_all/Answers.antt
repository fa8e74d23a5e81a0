use Rattle.std.proofs.Common.{ℕ, List, subst}
use Rattle.std.specs.Prelude.{Some}
use Rattle.wbt_expiry.specs.Lists.{due_of}
use Rattle.wbt_expiry.specs.Slots.{loose}
use Rattle.wbt_expiry.specs.Filed.{AreMoved}
use Rattle.wbt_expiry.proofs.Filing.{filed_anew, same_anew, apart_from_loose}
use Rattle.wbt_expiry.proofs.filed.Filed.file_all.Goals as goal

pub move_list-requires-clause-apart : goal.move_list-requires-clause-apart
move_list-requires-clause-apart c = λ inode _. apart_from_loose c.args.base (due_of c.deref-2.result.now inode)

pub returns-clause-filed : goal.returns-clause-filed
returns-clause-filed c =
    let now = c.args.self.now in
    let moved = subst (λ (d : List ℕ). AreMoved d (Some c.args.base) loose c.loosen_all.new.lists c.move_list.new.lists) c.deref-2.ensures.value c.move_list.ensures.moved in
    filed_anew c.args.base now.base now.dues.items now.lists c.loosen_all.new.lists c.move_list.new.lists c.requires.filed c.loosen_all.ensures moved c.requires.base c.requires.near

pub returns-clause-same : goal.returns-clause-same
returns-clause-same c =
    let now = c.args.self.now in
    let moved = subst (λ (d : List ℕ). AreMoved d (Some c.args.base) loose c.loosen_all.new.lists c.move_list.new.lists) c.deref-2.ensures.value c.move_list.ensures.moved in
    same_anew c.args.base now.base now.dues.items now.lists c.loosen_all.new.lists c.move_list.new.lists c.requires.filed c.loosen_all.ensures moved
