-- A writer gets the pages that are left to it.
use Rattle.std.proofs.Common.{◌≡◌, ◌≢◌, ℕ, refl, sym, ap, ◌∙◌, subst}
use Rattle.wbt_writer.proofs.Common.{MayGrant, Decision, Kind, CpuRecord, setting, Holds, Changes, Kit, Seats, Wait, OnlyCpu, record_is, Gives, given_by, Fits, record_in}
use Rattle.wbt_grant.specs.Record.{granted}
use Rattle.wbt_pause.specs.declared.decision.Kind.TheVariants.{Exempt, Free, Go}
use Rattle.wbt_run_steps.specs.Gate.{steps_of}
use Rattle.wbt_writer.proofs.Changing.{changed}

pub may_give : (cpu : ℕ) (kit : Kit) (w left : ℕ) (seats : Seats) → Fits cpu kit seats → (setting kit.throttle.layout).seat w ≡ cpu
    → MayGrant (setting kit.throttle.layout) w left (record_in cpu seats) → Holds seats.cpu.cpus ((setting kit.throttle.layout).seat w) (MayGrant (setting kit.throttle.layout) w left)
may_give cpu kit w left seats fits its may =
    subst (λ (c : ℕ). Holds seats.cpu.cpus c (MayGrant (setting kit.throttle.layout) w left)) (sym its)
    (fits.held.0, fits.held.1, subst (MayGrant (setting kit.throttle.layout) w left) (record_is seats.cpu.cpus cpu fits.held.0 fits.held.1) may)

granted_is : (kind : Kind) (w left : ℕ) (r : CpuRecord) → kind ≢ Wait → granted w left r ≡ given_by kind w left r
granted_is Wait w left r goes = absurd (goes refl)
granted_is Free w left r goes = refl
granted_is Go w left r goes = refl
granted_is Exempt w left r goes = refl

pub record Given (cpu : ℕ) (kit : Kit) (w : ℕ) (decision : Decision) (old new : Seats) : Type 0 where
  pub fits : Fits cpu kit new
  pub gives : Gives cpu w decision old new

pub given : (cpu : ℕ) (kit : Kit) (w : ℕ) (decision : Decision) (old new : Seats) → Fits cpu kit old → (setting kit.throttle.layout).seat w ≡ cpu → OnlyCpu old new → decision.kind ≢ Wait
    → Changes ((setting kit.throttle.layout).seat w) (granted w decision.left) old.cpu new.cpu → Given cpu kit w decision old new
given cpu kit w decision old new fits its only goes change =
    let by = changed cpu kit (granted w decision.left) old new fits only (subst (λ (c : ℕ). Changes c (granted w decision.left) old.cpu new.cpu) its change) in
    record {
      fits = by.fits;
      gives = record {
        on = by.on;
        becomes = subst (λ (r : CpuRecord). record_in cpu new ≡ r) (granted_is decision.kind w decision.left (record_in cpu old) goes) by.becomes;
      };
    }

-- a grant is no step
given_by_steps : (kind : Kind) (w left : ℕ) (r : CpuRecord) → (given_by kind w left r).steps ≡ r.steps
given_by_steps Wait w left r = refl
given_by_steps Free w left r = refl
given_by_steps Go w left r = refl
given_by_steps Exempt w left r = refl

pub given_steps : (cpu w : ℕ) (decision : Decision) (old new : Seats) → Gives cpu w decision old new → steps_of cpu new ≡ steps_of cpu old
given_steps cpu w decision old new gives = ap (λ (r : CpuRecord). r.steps) gives.becomes ∙ given_by_steps decision.kind w decision.left (record_in cpu old)
