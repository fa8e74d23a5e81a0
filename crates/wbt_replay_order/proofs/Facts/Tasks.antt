-- The tasks of the CPUs at the opening.
use Rattle.std.proofs.Common.{◌≡◌, ℕ, zero, suc, ◌+◌, ◌<◌, ◌≤◌, Bool, true, false, cond, eqb, List, [], ◌∷◌, ◌++◌, length, get_or, All, ◌∙◌, ap, subst, arith, eq-eqb, eqb-true, length-append, None}
use Rattle.std.proofs.lemmas.List.Elements.{All-nil}
use Rattle.wbt_replay_order.proofs.Common.{TaskLine, Trace, tasks_from, task_cpu, IsTaskOn}
use Rattle.wbt_replay_order.proofs.Facts.Lists.{all_push, either}

abbrev pub no_task : TaskLine
no_task = record { cpu = 0; pace = None }

-- ---- each is one of the CPU's

tasks_are_tasks : (trace : Trace) (cpu number : ℕ) (ts : List TaskLine) (known : List ℕ)
    → ((k : ℕ) → k < length ts → (get_or ts k no_task).cpu ≡ cpu → IsTaskOn trace cpu (number + k))
    → All (IsTaskOn trace cpu) known → All (IsTaskOn trace cpu) (tasks_from cpu number ts known)
tasks_are_tasks trace cpu number [] known on all = all
tasks_are_tasks trace cpu number (t ∷ ts) known on all =
    tasks_are_tasks trace cpu (number + 1) ts (cond (eqb t.cpu cpu) (known ++ number ∷ []) known)
    (λ k less is. subst (IsTaskOn trace cpu) (let e : number + suc k ≡ (number + 1) + k = omega arith in e) (on (suc k) (omega (arith, less)) is))
    (either (All (IsTaskOn trace cpu)) (eqb t.cpu cpu) (known ++ number ∷ []) known
    (λ is.
    let here = subst (IsTaskOn trace cpu) (let e : number + 0 ≡ number = omega arith in e) (on 0 (omega arith) (eqb-true t.cpu cpu is)) in
    all_push (IsTaskOn trace cpu) known number all here)
    (λ other. all))

one_of : (trace : Trace) (cpu k : ℕ) → k < length trace.tasks → (get_or trace.tasks k no_task).cpu ≡ cpu → IsTaskOn trace cpu (0 + k)
one_of trace cpu k less is = record { there = omega (arith, less); cpu_is = ap (task_cpu trace) (let e : 0 + k ≡ k = omega arith in e) ∙ is }

pub tasks_of_cpu : (trace : Trace) (cpu : ℕ) → All (IsTaskOn trace cpu) (tasks_from cpu 0 trace.tasks [])
tasks_of_cpu trace cpu = tasks_are_tasks trace cpu 0 trace.tasks [] (one_of trace cpu) (All-nil (IsTaskOn trace cpu))

-- ---- there are few

pub few_tasks_from : (cpu number : ℕ) (ts : List TaskLine) (known : List ℕ) → length (tasks_from cpu number ts known) ≤ length known + length ts
few_tasks_from cpu number [] known = omega arith
few_tasks_from cpu number (t ∷ ts) known =
    let rest = few_tasks_from cpu (number + 1) ts (cond (eqb t.cpu cpu) (known ++ number ∷ []) known) in
    omega (arith, rest, by_cpu (eqb t.cpu cpu))
  where
    by_cpu : (b : Bool) → length (cond b (known ++ number ∷ []) known) ≤ length known + 1
    by_cpu true = omega (arith, length-append known (number ∷ []))
    by_cpu false = omega arith

-- ---- a CPU on which a task runs has some

still_some : (cpu number : ℕ) (ts : List TaskLine) (known : List ℕ) → length known ≤ length (tasks_from cpu number ts known)
still_some cpu number [] known = omega arith
still_some cpu number (t ∷ ts) known =
    let rest = still_some cpu (number + 1) ts (cond (eqb t.cpu cpu) (known ++ number ∷ []) known) in
    omega (arith, rest, by_cpu (eqb t.cpu cpu))
  where
    by_cpu : (b : Bool) → length known ≤ length (cond b (known ++ number ∷ []) known)
    by_cpu true = omega (arith, length-append known (number ∷ []))
    by_cpu false = omega arith

some_from : (cpu number : ℕ) (ts : List TaskLine) (known : List ℕ) (k : ℕ) → k < length ts → (get_or ts k no_task).cpu ≡ cpu → 1 ≤ length (tasks_from cpu number ts known)
some_from cpu number [] known k less is = absurd (omega (arith, less))
some_from cpu number (t ∷ ts) known zero less is =
    let rest = still_some cpu (number + 1) ts (cond (eqb t.cpu cpu) (known ++ number ∷ []) known) in
    let here : length (cond (eqb t.cpu cpu) (known ++ number ∷ []) known) ≡ length known + 1 =
    ap (λ (b : Bool). length (cond b (known ++ number ∷ []) known)) (eq-eqb t.cpu cpu is) ∙ length-append known (number ∷ []) in
    omega (arith, rest, here)
some_from cpu number (t ∷ ts) known (suc k) less is = some_from cpu (number + 1) ts (cond (eqb t.cpu cpu) (known ++ number ∷ []) known) k (omega (arith, less)) is

pub some_tasks : (trace : Trace) (cpu task : ℕ) → IsTaskOn trace cpu task → 1 ≤ length (tasks_from cpu 0 trace.tasks [])
some_tasks trace cpu task on = some_from cpu 0 trace.tasks [] task on.there on.cpu_is
