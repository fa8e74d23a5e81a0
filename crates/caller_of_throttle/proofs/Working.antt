-- What a worker knows of its seat after a call.
use Rattle.std.proofs.Common.{◌≡◌, ℕ, Bool, length, Some, ap, sym, ◌∙◌, subst, refl, length-set}
use Rattle.wbt_grant.specs.declared.record.CpuRecord.{CpuRecord}
use Rattle.wbt_grant.specs.Setting.{Setting}
use Rattle.wbt_table.specs.declared.answer.Claim.{Claim}
use Rattle.wbt_table.specs.declared.answer.Claim.TheVariants.{Mine, NotDirty, Missed, Stopped}
use Rattle.wbt_table.specs.Rule.{Cpus}
use Rattle.wbt_table.specs.Seat.{Shape, Seated, Changes}
use Rattle.wbt_table.specs.Calls.{Comes, Claims, Halts, before_its_look, after_its_look, looked_at, tried}
use Rattle.wbt_table.specs.Callers.{StepsFor}
use Rattle.wbt_table.proofs.Trying.{after_changes, after_comes}
use Rattle.caller_of_throttle.specs.Work.{Worked}

module _ (t : Shape) (c : ℕ) where
  pub worked_none : (old : Seated) → StepsFor t c old → Worked t c old old
  worked_none old steps = record { steps = steps; timer = refl; long = refl }

  pub worked_on : (old mid new : Seated) → Worked t c old mid → Worked t c mid new → Worked t c old new
  worked_on old mid new first second = record {
    steps = second.steps;
    timer = second.timer ∙ first.timer;
    long = second.long ∙ first.long;
  }

  pub worked_changes : (f : CpuRecord → CpuRecord) (old new : Seated) → StepsFor t c old → Changes c f old new → Worked t c old new
  worked_changes f old new steps change = let r : CpuRecord = steps.held.0 in record {
    steps = after_changes t c f old new steps change;
    timer = change.timer;
    long = ap (λ (l : Cpus). length l) (change.cpus r steps.held.1) ∙ length-set old.cpus c (Some (f r));
  }

  pub worked_as : (d : ℕ) (f : CpuRecord → CpuRecord) (old new : Seated) → d ≡ c → StepsFor t c old → Changes d f old new → Worked t c old new
  worked_as d f old new is steps change = worked_changes f old new steps (subst (λ (i : ℕ). Changes i f old new) is change)

  pub worked_comes : (P : CpuRecord → CpuRecord → Type 0) (old new : Seated) → StepsFor t c old → Comes c P old new → Worked t c old new
  worked_comes P old new steps comes = let here = comes.cpus steps.held.0 steps.held.1 in record {
    steps = after_comes t c P old new steps comes;
    timer = comes.timer;
    long = ap (λ (l : Cpus). length l) here.2 ∙ length-set old.cpus c (Some here.0);
  }

  worked_halts : (set' : Setting) (p : ℕ) (said : ℕ → Bool → Type 0) (old new : Seated) → StepsFor t c old → Halts set' c p said old new → Worked t c old new
  worked_halts set' p said old new steps (before_its_look same) = subst (Worked t c old) (sym same) (worked_none old steps)
  worked_halts set' p said old new steps (after_its_look n is change logs asked) = worked_changes (looked_at set' c p n) old new steps change

  pub worked_claims : (set' : Setting) (p : ℕ) (said : ℕ → Bool → Type 0) (answer : Claim) (old new : Seated) → StepsFor t c old
      → Claims set' c p said answer old new → Worked t c old new
  worked_claims set' p said Mine old new steps claims = worked_changes (tried set' c p claims.0 claims.0) old new steps claims.2
  worked_claims set' p said (NotDirty bits) old new steps claims = worked_changes (looked_at set' c p claims.0) old new steps claims.3
  worked_claims set' p said (Missed first second) old new steps claims = worked_changes (tried set' c p first second) old new steps claims.2
  worked_claims set' p said Stopped old new steps claims = worked_halts set' p said old new steps claims.1
