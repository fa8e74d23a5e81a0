use Rattle.std.proofs.Common.{refl, sym, subst}
use Rattle.wbt_flusher.proofs.Common.{CpuJournal, Goes}
use Rattle.wbt_journal.specs.declared.entry.Entry.TheVariants.{Taken}
use Rattle.wbt_flusher.proofs.Ageing.{as_it_was, none_first, takes_first, takes_it, takes_one}
use Rattle.wbt_flusher.proofs.plan.FlusherPlan.take_first.Goals as goal

pub returns-in-None : goal.returns-in-None
returns-in-None c =
    let t = c.in-None.ensures.taken in
    let same = none_first c.args.work.now c.first_in.new.wheel t.0 t.1 c.first_in.ensures.only_list in
    let was = as_it_was c.args.self.now c.args.work.now c.first_in.new.wheel c.args.pen.now.log c.requires.lists same in
    record {
      goes = was.goes;
      lists = was.lists;
      only_wheel = refl;
      none = (t.0, was.same, refl);
      takes = tt;
    }

pub returns-in-Some : goal.returns-in-Some
returns-in-Some c =
    let plan = c.args.self.now in
    let was = c.args.work.now in
    let wheel = c.first_in.new.wheel in
    let first = c.in-Some.ensures.taken in
    let due = c.in-Some.due in
    let becomes = c.first_in.ensures.only_list in
    let one = takes_one plan due was wheel c.requires.lists first becomes in
    record {
      goes = λ kit seats fits. subst (λ (l : CpuJournal). Goes plan kit seats seats c.args.pen.now.log l was (record was { wheel = wheel })) (sym c.tell.ensures.log)
          (takes_first plan kit seats was wheel fits due.inode due.due c.args.pen.now.log first);
      lists = one.lists;
      only_wheel = refl;
      none = tt;
      takes = (
        one.its,
        λ seats written. record {
          due = due.due;
          takes = takes_it plan due was wheel c.requires.lists first becomes (Taken plan.flusher due.inode) seats c.args.pen.now.log c.tell.new.self.log written c.tell.ensures.log;
        },
      );
    }
