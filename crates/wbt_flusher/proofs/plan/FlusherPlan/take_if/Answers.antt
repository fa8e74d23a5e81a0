use Rattle.std.proofs.Common.{refl, ap, inl, inr}
use Rattle.wbt_flusher.proofs.Common.{Paper}
use Rattle.wbt_flusher.proofs.Ageing.{if_none, if_some}
use Rattle.wbt_flusher.proofs.Going.{goes_nowhere}
use Rattle.wbt_flusher.proofs.plan.FlusherPlan.take_if.Goals as goal

pub returns-then-not-over : goal.returns-then-not-over
returns-then-not-over c = record {
  goes = λ kit seats fits told written. goes_nowhere c.args.self.now kit seats fits told c.args.work.now c.args.pen.now.log written;
  lists = c.requires.lists;
  only_wheel = refl;
  none = (inl c.if-not-over.true, refl, refl);
  takes = tt;
}

pub returns-clause-none : goal.returns-clause-none
returns-clause-none c = if_none c.take_first.result (λ none. (inr none.0, none.1, ap (λ (p : Paper). p.log) none.2)) c.take_first.ensures.none

pub returns-clause-takes : goal.returns-clause-takes
returns-clause-takes c = if_some c.take_first.result (λ inode takes. (takes.0, c.if-not-over.false, takes.1)) c.take_first.ensures.takes
