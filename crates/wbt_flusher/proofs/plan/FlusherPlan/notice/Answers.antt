use Rattle.std.proofs.Common.{refl, sym, ◌∙◌, true≢false, arith}
use Rattle.wbt_flusher.proofs.Ageing.{notices_again, notices_new, notices_strange, soon_told, wheel_there}
use Rattle.wbt_flusher.proofs.plan.FlusherPlan.notice.Goals as goal

pub put_in-requires-clause-there : goal.put_in-requires-clause-there
put_in-requires-clause-there c = wheel_there c.args.self.now c.args.inode c.args.work.now.wheel c.requires.lists.wheel (c.has.ensures.0 c.if-not-has.false).there

pub put_in-requires-clause-soon : goal.put_in-requires-clause-soon
put_in-requires-clause-soon c = soon_told c.args.now c.due_of.result c.args.work.now.wheel c.requires.told c.due_of.ensures.soon

pub returns-then-not-has : goal.returns-then-not-has
returns-then-not-has c =
    let n = notices_strange c.args.self.now c.args.now c.args.inode c.args.work.now c.args.pen.now.log c.requires.lists c.requires.told (λ its. true≢false (sym (c.has.ensures.1 its) ∙ c.if-not-has.true)) in
    record { goes = n.goes; lists = n.lists; told = n.told; only_wheel = refl; notices = n.notices; room = omega arith }

pub returns-then-put_in : goal.returns-then-put_in
returns-then-put_in c =
    let e = c.put_in.ensures in
    let room = c.tell.ensures.room in
    let n = notices_new c.args.self.now c.args.now c.args.inode c.due_of.result c.args.work.now c.put_in.new.wheel c.args.pen.now.log c.tell.new.self.log c.put_in.result c.requires.moment c.requires.lists c.requires.told c.requires.ages
    (c.has.ensures.0 c.if-not-has.false) c.due_of.ensures.value e.accepted c.if-put_in.true (e.put c.if-put_in.true) e.order c.tell.ensures.log in
    record { goes = n.goes; lists = n.lists; told = n.told; only_wheel = refl; notices = n.notices; room = omega arith }

pub returns-else-put_in : goal.returns-else-put_in
returns-else-put_in c =
    let e = c.put_in.ensures in
    let n = notices_again c.args.self.now c.args.now c.args.inode c.args.work.now c.put_in.new.wheel c.args.pen.now.log c.requires.lists c.requires.told (e.refused c.if-put_in.false) c.put_in.result c.requires.ages
    (c.has.ensures.0 c.if-not-has.false) e.accepted c.if-put_in.false in
    record { goes = n.goes; lists = n.lists; told = n.told; only_wheel = refl; notices = n.notices; room = omega arith }
