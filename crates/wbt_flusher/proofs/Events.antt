-- An event of a page that a flusher's CPU owes to the page's counters, and the steps that settle it.
use Rattle.std.proofs.Common.{◌≡◌, ℕ, Bool, true, false, List, inl, inr, sym, ap, ◌∙◌, subst}
use Rattle.std.specs.Prelude.{negsuc, ◌++◌}
use Rattle.wbt_flusher.proofs.Common.{Owed, complete, record_after, CpuRecord, setting, Has, Makes, Kit, Seats, IsSettled, Steps, record_of, record_is, OwesNothing}
use Rattle.wbt_kit.proofs.Common.{has_changed}
use Rattle.wbt_turns.specs.Words.{IsCut, MaySettle}
use Rattle.wbt_run_steps.specs.Backs.{Came, Returned}
use Rattle.wbt_run_steps.specs.Kinds.{ArePayments, StepsToPay}
use Rattle.wbt_run_steps.proofs.Logging.{steps_so}
use Rattle.wbt_run_steps.proofs.Payments.{page_settled, page_settled_part}
use Rattle.wbt_flusher.specs.Kinds.{MayOweEvent, OwesEvent}
use Rattle.wbt_flusher.specs.declared.plan.FlusherPlan.{FlusherPlan}

-- ---- what is owed

pub owes_completed : (plan : FlusherPlan) (kit : Kit) (page found : ℕ) (old new : Seats) → (held : (r : CpuRecord) × Has old.cpu.cpus plan.cpu r)
    → Makes (setting kit.throttle.layout) (complete plan.cpu page) found old.cpu new.cpu → OwesEvent plan kit new
owes_completed plan kit page found old new held makes =
    let f = record_after (setting kit.throttle.layout) (complete plan.cpu page) found in (
      page,
      ap (λ (r : CpuRecord). r.debts) (record_is new.cpu.cpus plan.cpu (f held.0) (has_changed plan.cpu f old.cpu new.cpu held.0 makes.changes held.1)),
    )

pub owes_given : (plan : FlusherPlan) (kit : Kit) (page : ℕ) (absorbed : Bool) (old new : Seats) → OwesNothing plan old
    → Came plan.cpu (Returned (setting kit.throttle.layout) plan.flusher page absorbed) old new → MayOweEvent plan kit new
owes_given plan kit page true old new none came = inl (page, ap (λ (r : CpuRecord). r.debts) (record_is new.cpu.cpus plan.cpu came.is came.has) ∙ came.came.debts)
owes_given plan kit page false old new none came =
    let is = ap (λ (r : CpuRecord). r.debts) (record_is new.cpu.cpus plan.cpu came.is came.has) in
    let was = ap (λ (r : CpuRecord). r.debts) (record_is old.cpu.cpus plan.cpu came.was came.had) in
    inr (is ∙ came.came.debts ∙ sym was ∙ none)

-- ---- how it is settled

module _ (plan : FlusherPlan) (kit : Kit) (all : Bool) (old new : Seats) where
  paid_as : (so : Bool) → all ≡ so → StepsToPay plan.cpu all old new → StepsToPay plan.cpu so old new
  paid_as so is = subst (λ (b : Bool). StepsToPay plan.cpu b old new) is

  pub event_settled : OwesEvent plan kit old → all ≡ true → StepsToPay plan.cpu all old new → Steps plan.cpu IsSettled old new
  event_settled owes is steps = page_settled (setting kit.throttle.layout) owes.0 (negsuc 0) plan.cpu old new owes.1 (paid_as true is steps)

  pub event_settled_part : OwesEvent plan kit old → all ≡ false → StepsToPay plan.cpu all old new → Steps plan.cpu (IsCut IsSettled) old new
  event_settled_part owes is steps = page_settled_part (setting kit.throttle.layout) owes.0 (negsuc 0) plan.cpu old new owes.1 (paid_as false is steps)

  -- where it may be owed
  pub may_settle : MayOweEvent plan kit old → all ≡ true → StepsToPay plan.cpu all old new → Steps plan.cpu MaySettle old new
  may_settle (inl owes) is steps = steps_so plan.cpu IsSettled MaySettle old new (λ word settled. inr settled) (event_settled owes is steps)
  may_settle (inr none) is steps = steps_so plan.cpu (ArePayments (record_of plan.cpu old.cpu.cpus).debts) MaySettle old new
      (λ word pays. inl (subst (λ (l : List Owed). ArePayments l word) none pays)) (paid_as true is steps)

  pub may_settle_part : MayOweEvent plan kit old → all ≡ false → StepsToPay plan.cpu all old new → Steps plan.cpu (IsCut MaySettle) old new
  may_settle_part (inl owes) is steps = steps_so plan.cpu (IsCut IsSettled) (IsCut MaySettle) old new (λ word cut. (cut.0, inr cut.1)) (event_settled_part owes is steps)
  may_settle_part (inr none) is steps = steps_so plan.cpu (IsCut (ArePayments (record_of plan.cpu old.cpu.cpus).debts)) (IsCut MaySettle) old new
      (λ word cut. (cut.0, inl (subst (λ (l : List Owed). ArePayments l (word ++ cut.0)) none cut.1))) (paid_as false is steps)
