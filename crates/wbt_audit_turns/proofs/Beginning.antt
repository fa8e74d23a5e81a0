-- A side at the beginning of a part.
use Rattle.std.proofs.Common.{◌≡◌, ℕ, zero, suc, ◌+◌, ◌^◌, ◌<◌, ◌≤◌, not, ◌&&◌, ◌==◌, List, [], ◌∷◌, length, map, get_or, replicate, refl, ap, ◌∙◌, arith, ne_eqb}
use Rattle.std.specs.List.{sum_by}
use Rattle.std.proofs.lemmas.List.Sums.{sum_by-cons}
use Rattle.wbt_audit_walk.proofs.Common.{first, new_writer, Writer, TaskLine, Trace, pages_of_task, rests_last, all_writers}
use Rattle.wbt_task.specs.Counts.{dirtied_by}
use Rattle.wbt_task.specs.History.{new_cpu}
use Rattle.wbt_journal.specs.Side.{first_side, first_states, is_empty}
use Rattle.wbt_audit_turns.specs.Sides.{Fits, IsMachine, at_first, no_plan, plan_of, side_of, state_of}
use Rattle.wbt_audit_turns.specs.declared.machine.Machine.{Machine}
use Rattle.wbt_audit_turns.specs.declared.machine.TaskPlan.{TaskPlan}
use Rattle.wbt_audit_turns.specs.declared.side.Side.{Side}

empty_is : (pages : List ℕ) → (length pages == 0) ≡ is_empty pages
empty_is [] = refl
empty_is (page ∷ pages) = ne_eqb (suc (length pages)) 0 (λ e. omega (arith, e))

states_from : (trace : Trace) (m : ℕ) (lines : List TaskLine) (plans : List TaskPlan) → length plans ≡ length lines
    → ((k : ℕ) → k < length lines → get_or plans k no_plan ≡ plan_of trace (m + k)) → map state_of (map at_first plans) ≡ first_states trace m lines
states_from trace m [] [] long each = refl
states_from trace m [] (plan ∷ plans) long each = absurd (omega arith)
states_from trace m (line ∷ lines) [] long each = absurd (omega arith)
states_from trace m (line ∷ lines) (plan ∷ plans) long each =
    let here : plan ≡ plan_of trace m = each 0 (omega arith) ∙ ap (plan_of trace) (let e : m + 0 ≡ m = omega arith in e) in
    let rest = states_from trace (suc m) lines plans (omega arith) (λ k less. each (suc k) (omega arith) ∙ ap (plan_of trace) (let e : m + suc k ≡ suc m + k = omega arith in e)) in
    (λ i. state_of (at_first (here i)) ∷ rest i)
    ∙ (λ i. record { todo = length (pages_of_task trace m); has_ended = not (rests_last trace m) && empty_is (pages_of_task trace m) i } ∷ first_states trace (suc m) lines)

none_dirtied : (cap n : ℕ) → sum_by dirtied_by (replicate n (new_writer cap)) ≡ 0
unfolding new_writer first
none_dirtied cap zero = refl
none_dirtied cap (suc n) = sum_by-cons dirtied_by (new_writer cap) (replicate n (new_writer cap)) ∙ let rest = none_dirtied cap n in omega (arith, rest)

long_ones : (w : Writer) (n : ℕ) → length (replicate n w) ≡ n
long_ones w zero = refl
long_ones w (suc n) = ap suc (long_ones w n)

module _ (machine : Machine) (is : IsMachine machine) (side : Side) (nothing : side.local ≡ record { since_check = 0; leaks = 0 })
    (writers : side.writers.items ≡ replicate machine.numbers.count (new_writer machine.cap)) (tasks : side.tasks.items ≡ map at_first machine.tasks.items) where
  ones : side.writers.items ≡ replicate (length (all_writers machine.trace.now)) (new_writer machine.trace.now.cap)
  ones = writers ∙ (λ i. replicate (is.numbers.count i) (new_writer (is.cap i)))

  pub is_first : side_of side ≡ first_side machine.trace.now
  unfolding new_cpu
  is_first =
      let states = ap (map state_of) tasks ∙ states_from machine.trace.now 0 machine.trace.now.tasks machine.tasks.items is.plans.long
      (λ k less. is.plans.each k less ∙ ap (plan_of machine.trace.now) (let e : k ≡ 0 + k = omega arith in e)) in
      (λ i. record { cpu = record { local = nothing i; writers = ones i }; tasks = states i })

  pub fits_first : side.room ≤ 2 ^ 46 → length side.tasks.items ≡ length machine.trace.now.tasks → Fits machine side
  fits_first room long =
      let none : sum_by dirtied_by side.writers.items ≡ 0 = ap (sum_by dirtied_by) ones ∙ none_dirtied machine.trace.now.cap (length (all_writers machine.trace.now)) in
      let leaks : side.local.leaks ≡ 0 = λ i. (nothing i).leaks in
      let since : side.local.since_check ≡ 0 = λ i. (nothing i).since_check in
      record {
        writers = ap length ones ∙ long_ones (new_writer machine.trace.now.cap) (length (all_writers machine.trace.now));
        tasks = long;
        pages = omega (arith, none, leaks, room);
        since = omega (arith, since, room);
      }
