use Rattle.std.proofs.Common.{◌≡◌, ◌⊎◌, false, [], ap, ◌∙◌, subst}
use Rattle.wbt_flusher.proofs.Common.{CpuJournal, Paper, GoesAt, list_by, sight}
use Rattle.wbt_flusher.specs.Ageing.{TakesAny, for_its_age, as_it_is_over}
use Rattle.wbt_flusher.specs.declared.work.FlusherWork.{FlusherWork}
use Rattle.wbt_flusher.proofs.Ageing.{if_none, if_some}
use Rattle.wbt_flusher.proofs.plan.FlusherPlan.take_by_age.Goals as goal

pub returns-in-Some : goal.returns-in-Some
returns-in-Some c =
    let t = c.take_due.ensures in
    record {
      goes = t.goes;
      lists = t.lists;
      only_wheel = t.only_wheel;
      none = tt;
      takes = (c.in-Some.ensures.takes.0, λ seats written. for_its_age (c.in-Some.ensures.takes.1 seats written));
    }

pub returns-in-None : goal.returns-in-None
returns-in-None c =
    let none = c.in-None.ensures.none in
    let plan = c.args.self.now in
    let was = c.args.work.now in
    let mid = c.take_due.new.work in
    let t = c.take_if in
    let log : c.take_due.new.pen.log ≡ c.args.pen.now.log = ap (λ (p : Paper). p.log) none.2 in
    let same : mid ≡ was = none.1 in
    record {
      goes = λ kit seats fits told written has. subst (λ (z : FlusherWork × CpuJournal). GoesAt c.args.now plan kit seats seats z.1 t.new.pen.log z.0 t.new.work) (λ i. (same i, log i))
          (λ told written has. t.ensures.goes kit seats fits told written) told written has;
      lists = t.ensures.lists;
      only_wheel = subst (λ (w : FlusherWork). t.new.work ≡ record w { wheel = t.new.work.wheel }) same t.ensures.only_wheel;
      none = if_none t.result (λ r. (none.0, subst (λ (w : FlusherWork). (c.args.over ≡ false) ⊎ (list_by w ≡ [])) same r.0, r.1 ∙ same, r.2 ∙ log)) t.ensures.none;
      takes = if_some t.result (λ inode takes. (
        takes.0,
        λ seats written. as_it_is_over none.0 takes.1
            (subst (λ (z : FlusherWork × CpuJournal). TakesAny plan inode (sight z.0 seats z.1 written) (sight t.new.work seats t.new.pen.log written)) (λ i. (same i, log i)) (takes.2 seats written)),
      )) t.ensures.takes;
    }
