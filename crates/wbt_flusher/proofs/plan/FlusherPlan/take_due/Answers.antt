use Rattle.std.proofs.Common.{◌≡◌, ◌∙◌, refl, sym, subst, ap}
use Rattle.wbt_flusher.proofs.Common.{CpuJournal, pairs_of, GoesAt}
use Rattle.wbt_journal.specs.declared.entry.Entry.TheVariants.{Aged}
use Rattle.wbt_flusher.specs.Ages.{with_list}
use Rattle.wbt_flusher.proofs.Ageing.{ages_first, as_it_was, none_taken, takes_it, takes_one, told_again}
use Rattle.wbt_flusher.proofs.plan.FlusherPlan.take_due.Goals as goal

pub returns-in-None : goal.returns-in-None
returns-in-None c =
    let t = c.in-None.ensures.taken in
    let same = none_taken c.args.now c.args.work.now c.next_in.new.wheel c.requires.told t.1 c.next_in.ensures.only_list in
    let was = as_it_was c.args.self.now c.args.work.now c.next_in.new.wheel c.args.pen.now.log c.requires.lists same in
    record {
      goes = λ kit seats fits told written has. was.goes kit seats fits told written;
      lists = was.lists;
      only_wheel = refl;
      none = (t.0, was.same, refl);
      takes = tt;
    }

pub returns-in-Some : goal.returns-in-Some
returns-in-Some c =
    let plan = c.args.self.now in
    let was = c.args.work.now in
    let wheel = c.next_in.new.wheel in
    let t = c.in-Some.ensures.taken in
    let due = c.in-Some.due in
    let becomes : wheel ≡ with_list (pairs_of wheel) was.wheel = c.next_in.ensures.only_list ∙ ap (with_list (pairs_of wheel)) (told_again c.args.now was.wheel c.requires.told) in
    let one = takes_one plan due was wheel c.requires.lists t.1 becomes in
    record {
      goes = λ kit seats fits. subst (λ (l : CpuJournal). GoesAt c.args.now plan kit seats seats c.args.pen.now.log l was (record was { wheel = wheel })) (sym c.tell.ensures.log)
          (ages_first plan kit seats was wheel fits c.args.now due.inode due.due c.args.pen.now.log t.0 t.1);
      lists = one.lists;
      only_wheel = refl;
      none = tt;
      takes = (
        one.its,
        λ seats written. record {
          due = due.due;
          by_now = t.0;
          takes = takes_it plan due was wheel c.requires.lists t.1 becomes (Aged plan.flusher due.inode due.due c.args.now) seats c.args.pen.now.log c.tell.new.self.log written c.tell.ensures.log;
        },
      );
    }
