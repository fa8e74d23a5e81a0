-- What the gate answered.
use Rattle.std.proofs.Common.{◌≡◌, ℕ, Bool, false, subst}
use Rattle.wbt_kit.specs.declared.kit.Seats.{Seats}
use Rattle.wbt_run_steps.specs.Steps.{IsAnswered, IsStopped}

-- where it answered false the CPU is stopped
pub stopped_by : (cpu : ℕ) (said : ℕ → ℕ → Bool → Type 0) (answer : Bool) (seats : Seats) → IsAnswered cpu said answer seats → answer ≡ false → IsStopped cpu said seats
stopped_by cpu said answer seats answered is = subst (λ (b : Bool). IsAnswered cpu said b seats) is answered
