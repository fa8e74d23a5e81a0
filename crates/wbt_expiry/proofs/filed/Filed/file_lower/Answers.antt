use Rattle.std.proofs.Common.{◌≢◌, ◌*◌, ℕ, List, ap, sym, subst}
use Rattle.std.specs.Prelude.{Some}
use Rattle.wbt_expiry.specs.Lists.{due_of}
use Rattle.wbt_expiry.specs.Slots.{slot}
use Rattle.wbt_expiry.specs.Filed.{AreMoved}
use Rattle.wbt_expiry.proofs.Filing.{slot_apart, slot_filed, slot_lowered}
use Rattle.wbt_expiry.proofs.filed.Filed.file_lower.Goals as goal

pub move_list-requires-clause-apart : goal.move_list-requires-clause-apart
move_list-requires-clause-apart c = λ inode at. let now = c.args.self.now in
    let base : ℕ = c.args.place * c.span_of.result in
    subst (λ (d : List ℕ). slot base (due_of d inode) ≢ c.slot_list-list.result) (sym c.deref.ensures.value)
    (slot_apart c.args.level now.base c.args.place now.dues.items now.lists c.requires.level c.requires.filed c.requires.from c.requires.first
    c.slot_list-list.result c.slot_list-list.ensures base c.requires.some (ap (λ (s : ℕ). c.args.place * s) c.span_of.ensures) inode at)

pub returns-clause-filed : goal.returns-clause-filed
returns-clause-filed c = let now = c.args.self.now in
    let base : ℕ = c.args.place * c.span_of.result in
    slot_filed c.args.level now.base c.args.place now.dues.items now.lists c.requires.level c.requires.filed c.requires.from c.requires.first
    c.slot_list-list.result c.slot_list-list.ensures base c.requires.some (ap (λ (s : ℕ). c.args.place * s) c.span_of.ensures) c.move_list.new.lists
    (subst (λ (d : List ℕ). AreMoved d (Some base) c.slot_list-list.result now.lists c.move_list.new.lists) c.deref.ensures.value c.move_list.ensures.moved)

pub returns-clause-lowered : goal.returns-clause-lowered
returns-clause-lowered c = let now = c.args.self.now in
    let base : ℕ = c.args.place * c.span_of.result in
    slot_lowered c.args.level now.base c.args.place now.dues.items now.lists c.requires.level c.requires.filed c.requires.from c.requires.first
    c.slot_list-list.result c.slot_list-list.ensures base c.requires.some (ap (λ (s : ℕ). c.args.place * s) c.span_of.ensures) c.move_list.new.lists
    (subst (λ (d : List ℕ). AreMoved d (Some base) c.slot_list-list.result now.lists c.move_list.new.lists) c.deref.ensures.value c.move_list.ensures.moved)
