-- Tasks, and when they rest between their pages.
use Rattle.std.proofs.Common.{◌≡◌, ℕ, zero, suc, Some, None, List, [], ◌∷◌, ◌++◌, length, refl, sym, ap}
use Rattle.wbt_trace.specs.Sofar.{task_at, with_pace}
use Rattle.wbt_trace.specs.declared.trace.Pace.{Pace}
use Rattle.wbt_trace.specs.declared.trace.TaskLine.{TaskLine}

pub pace_length : (t : ℕ) (pace : Pace) (tasks : List TaskLine) → length (with_pace t pace tasks) ≡ length tasks
pace_length t pace [] = refl
pace_length zero pace (x ∷ xs) = refl
pace_length (suc t) pace (x ∷ xs) = ap suc (pace_length t pace xs)

-- a task as its own line says it
abbrev pub unpaced : TaskLine → TaskLine
unpaced t = record t { pace = None }

pub unpaced_is : (x : TaskLine) → x.pace ≡ None → unpaced x ≡ x
unpaced_is x is = λ i. record x { pace = sym is i }

pub at_front : (front : List TaskLine) (x : TaskLine) (more : List TaskLine) → task_at (length front) (front ++ x ∷ more) ≡ x
at_front [] x more = refl
at_front (y ∷ front) x more = at_front front x more

-- the line of its pace makes it what it was
pub made_paced : (front : List TaskLine) (x : TaskLine) (more : List TaskLine) (pace : Pace) → x.pace ≡ Some pace → with_pace (length front) pace (front ++ unpaced x ∷ more) ≡ front ++ x ∷ more
made_paced [] x more pace is = λ i. record x { pace = sym is i } ∷ more
made_paced (y ∷ front) x more pace is = ap (λ (l : List TaskLine). y ∷ l) (made_paced front x more pace is)
