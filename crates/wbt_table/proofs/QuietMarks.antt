-- The steps on marks leave debts and what writers have left alone.
use Rattle.std.proofs.Common.{ℕ, refl}
use Rattle.wbt_table.proofs.Common.{CpuRecord, Setting}
use Rattle.wbt_grant.specs.Seats.{mark_record, unmark_record}
use Rattle.wbt_table.proofs.Keeping.{own_same}
use Rattle.wbt_table.proofs.Calling.{Quiet}

pub mark_quiet : (set' : Setting) (n found : ℕ) (r : CpuRecord) → Quiet set' r (mark_record set' n found r)
mark_quiet set' n found r = record {
  steps = refl;
  page_steps = refl;
  debts = refl;
  own = λ x. own_same set' x r (mark_record set' n found r) record { page_steps = refl; events = refl; debts = refl; folds = refl };
  lefts = λ w. refl;
}

pub unmark_quiet : (set' : Setting) (n found : ℕ) (r : CpuRecord) → Quiet set' r (unmark_record set' n found r)
unmark_quiet set' n found r = record {
  steps = refl;
  page_steps = refl;
  debts = refl;
  own = λ x. own_same set' x r (unmark_record set' n found r) record { page_steps = refl; events = refl; debts = refl; folds = refl };
  lefts = λ w. refl;
}
