use Rattle.std.proofs.Common.{ℕ, false, refl, sym, ◌∙◌, subst}
use Rattle.wbt_flusher.proofs.Common.{sight}
use Rattle.wbt_flusher.specs.Weighs.{WeighsIn, has_none, has_one}
use Rattle.wbt_flusher.proofs.Going.{kept_more}
use Rattle.wbt_flusher.proofs.Weighing.{or_none}
use Rattle.wbt_flusher.proofs.plan.FlusherPlan.weigh_in_both.Goals as goal

pub returns-clause-goes : goal.returns-clause-goes
returns-clause-goes c =
    let a = c.weigh_in-over in
    let b = c.weigh_in-more in
    kept_more c.args.self.now c.args.kit.now c.args.seats.now a.new.seats b.new.seats c.args.work.now a.new.work b.new.work a.ensures.goes b.ensures.goes

pub returns-then-group-eq0-clause-weighs : goal.returns-then-group-eq0-clause-weighs
returns-then-group-eq0-clause-weighs c log written =
    let a = c.weigh_in-over in
    record {
      in_global = a.result;
      between = sight a.new.work a.new.seats log written;
      global = a.ensures.weighs log written;
      in_group = false;
      group = has_none (sym c.group_of-group.ensures ∙ c.if-group-eq0.true) refl refl;
      over_is = or_none a.result;
    }

pub returns-clause-weighs : goal.returns-clause-weighs
returns-clause-weighs c log written =
    let a = c.weigh_in-over in
    let b = c.weigh_in-more in
    record {
      in_global = a.result;
      between = sight a.new.work a.new.seats log written;
      global = a.ensures.weighs log written;
      in_group = b.result;
      group = has_one (λ none. c.if-group-eq0.false (c.group_of-group.ensures ∙ none))
          (subst (λ (n : ℕ). WeighsIn c.args.self.now c.args.kit.now n c.args.context c.args.reading b.result (sight a.new.work a.new.seats log written) (sight b.new.work b.new.seats log written)) c.group_of-group.ensures (b.ensures.weighs log written));
      over_is = c.is_or_was.ensures;
    }
