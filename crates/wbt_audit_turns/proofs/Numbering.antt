-- Numbers of writers, look-up by look-up.
use Rattle.std.proofs.Common.{◌≡◌, ◌≢◌, ℕ, zero, suc, ◌+◌, ◌*◌, ◌<◌, ◌≤◌, ◌⊎◌, inl, inr, Bool, true, false, ◌&&◌, cond, eqb, List, [], ◌∷◌, ◌++◌, length, get_or, set, drop, refl, sym, ap, ◌∙◌, arith, append_assoc, add-one, drop-cons, eq-eqb, ne_eqb, All}
use Rattle.std.proofs.lemmas.Bool.{cond-true, cond-false, cases_eq}
use Rattle.std.proofs.lemmas.List.{append-nil, drop_all, get_or-set_same, get_or-set_other}
use Rattle.wbt_audit_walk.proofs.Common.{MOST_CONTEXTS, IsLawful, Trace, Each, all_writers, number_from, numbers_from}
use Rattle.wbt_num.specs.declared.most.TheConstants.{MOST_TASKS}
use Rattle.wbt_trace.specs.Lawful.{writers_of}
use Rattle.wbt_trace.specs.WriterList.{is_writer, writers_from, writers_of_task}
use Rattle.wbt_trace.specs.declared.writers.Writer.{Writer}
use Rattle.wbt_audit_turns.specs.Naming.{AreInRange, no_name}

-- ---- the numbers of a task

pub with_number : (ns : List ℕ) (task k : ℕ) (names : List Writer) → k < length names → (get_or names k no_name).task ≡ task
    → (ns ++ k ∷ []) ++ numbers_from task (k + 1) (drop (k + 1) names) ≡ ns ++ numbers_from task k (drop k names)
with_number ns task k names less own =
    let more : List ℕ = numbers_from task (k + 1) (drop (k + 1) names) in
    append_assoc ns (k ∷ []) more
    ∙ ap (λ (xs : List ℕ). ns ++ xs) (sym (cond-true (eqb (get_or names k no_name).task task) (k ∷ more) more (eq-eqb _ _ own)))
    ∙ ap (λ (xs : List Writer). ns ++ numbers_from task k xs) (sym (first_is k names less))
  where
    first_is : (k : ℕ) (names : List Writer) → k < length names → drop k names ≡ get_or names k no_name ∷ drop (k + 1) names
    first_is k names less = rw (add-one, drop-cons names k no_name) refl

pub without_number : (ns : List ℕ) (task k : ℕ) (names : List Writer) → k < length names → (get_or names k no_name).task ≢ task
    → ns ++ numbers_from task (k + 1) (drop (k + 1) names) ≡ ns ++ numbers_from task k (drop k names)
without_number ns task k names less other =
    let more : List ℕ = numbers_from task (k + 1) (drop (k + 1) names) in
    ap (λ (xs : List ℕ). ns ++ xs) (sym (cond-false (eqb (get_or names k no_name).task task) (k ∷ more) more (ne_eqb _ _ other)))
    ∙ ap (λ (xs : List Writer). ns ++ numbers_from task k xs) (sym (first_is k names less))
  where
    first_is : (k : ℕ) (names : List Writer) → k < length names → drop k names ≡ get_or names k no_name ∷ drop (k + 1) names
    first_is k names less = rw (add-one, drop-cons names k no_name) refl

pub no_number : (ns : List ℕ) (task k : ℕ) (names : List Writer) → length names ≤ k → ns ++ numbers_from task k (drop k names) ≡ ns
no_number ns task k names past = ap (λ (xs : List Writer). ns ++ numbers_from task k xs) (drop_all k names past) ∙ append-nil ns

-- ---- the number of a task and a context

-- what the table says, with the number of the name before
pub numbered : (table : List ℕ) (task context k : ℕ) (names : List Writer) → length table ≡ MOST_TASKS * MOST_CONTEXTS → k < length names
    → task < MOST_TASKS → context < MOST_CONTEXTS → (get_or names k no_name).task < MOST_TASKS → (get_or names k no_name).context < MOST_CONTEXTS
    → get_or table (MOST_CONTEXTS * task + context) 0 ≡ number_from task context (k + 1) (drop (k + 1) names)
    → get_or (set table (MOST_CONTEXTS * (get_or names k no_name).task + (get_or names k no_name).context) k) (MOST_CONTEXTS * task + context) 0 ≡ number_from task context k (drop k names)
numbered table task context k names long less task_there context_there name_task name_context was =
    by (cases_eq (get_or names k no_name).task task) (cases_eq (get_or names k no_name).context context) ∙ ap (number_from task context k) (sym (first_is k names less))
  where
    first_is : (k : ℕ) (names : List Writer) → k < length names → drop k names ≡ get_or names k no_name ∷ drop (k + 1) names
    first_is k names less = rw (add-one, drop-cons names k no_name) refl

    both : (a b : Bool) → a ≡ true → b ≡ true → (a && b) ≡ true
    both a b p q = ap (λ (x : Bool). x && b) p ∙ q

    second_false : (a b : Bool) → b ≡ false → (a && b) ≡ false
    second_false true b q = q
    second_false false b q = refl

    by : ((get_or names k no_name).task ≡ task) ⊎ ((get_or names k no_name).task ≢ task) → ((get_or names k no_name).context ≡ context) ⊎ ((get_or names k no_name).context ≢ context)
        → get_or (set table (MOST_CONTEXTS * (get_or names k no_name).task + (get_or names k no_name).context) k) (MOST_CONTEXTS * task + context) 0
        ≡ number_from task context k (get_or names k no_name ∷ drop (k + 1) names)
    by (inl one) (inl two) =
        let here : ℕ = MOST_CONTEXTS * (get_or names k no_name).task + (get_or names k no_name).context in
        let same : MOST_CONTEXTS * task + context ≡ here = λ i. MOST_CONTEXTS * (sym one i) + (sym two i) in
        ap (λ (n : ℕ). get_or (set table here k) n 0) same
        ∙ get_or-set_same table here k 0 (omega arith)
        ∙ sym (cond-true (eqb (get_or names k no_name).task task && eqb (get_or names k no_name).context context) k (number_from task context (k + 1) (drop (k + 1) names))
        (both (eqb (get_or names k no_name).task task) (eqb (get_or names k no_name).context context) (eq-eqb _ _ one) (eq-eqb _ _ two)))
    by (inl one) (inr two) =
        let here : ℕ = MOST_CONTEXTS * (get_or names k no_name).task + (get_or names k no_name).context in
        get_or-set_other table here (MOST_CONTEXTS * task + context) k 0 (λ e. two (omega arith)) ∙ was
        ∙ sym (cond-false (eqb (get_or names k no_name).task task && eqb (get_or names k no_name).context context) k (number_from task context (k + 1) (drop (k + 1) names))
        (second_false (eqb (get_or names k no_name).task task) (eqb (get_or names k no_name).context context) (ne_eqb _ _ two)))
    by (inr one) two =
        let here : ℕ = MOST_CONTEXTS * (get_or names k no_name).task + (get_or names k no_name).context in
        get_or-set_other table here (MOST_CONTEXTS * task + context) k 0 (λ e. one (omega arith)) ∙ was
        ∙ sym (cond-false (eqb (get_or names k no_name).task task && eqb (get_or names k no_name).context context) k (number_from task context (k + 1) (drop (k + 1) names))
        (ap (λ (x : Bool). x && eqb (get_or names k no_name).context context) (ne_eqb _ _ one)))

-- ---- the writers of a trace

each_append : (P : Writer → Type 0) (xs ys : List Writer) → Each P xs → Each P ys → Each P (xs ++ ys)
each_append P [] ys first second = second
each_append P (x ∷ xs) ys first second = (first.0, each_append P xs ys first.1 second)

each_at : (P : Writer → Type 0) (xs : List Writer) → Each P xs → (n : ℕ) → n < length xs → P (get_or xs n no_name)
each_at P [] all n less = absurd (omega arith)
each_at P (x ∷ xs) all zero less = all.0
each_at P (x ∷ xs) all (suc n) less = each_at P xs all.1 n (omega arith)

abbrev IsPair : (tasks contexts : ℕ) (w : Writer) → Type 0
IsPair tasks contexts w = (w.task < tasks) × (w.context < contexts)

one_more : (b : Bool) (tasks contexts task c : ℕ) (more : List Writer) → task < tasks → c < contexts → Each (IsPair tasks contexts) more
    → Each (IsPair tasks contexts) (cond b (record { task = task; context = c } ∷ more) more)
one_more true tasks contexts task c more task_there there all = ((task_there, there), all)
one_more false tasks contexts task c more task_there there all = all

of_task : (tasks contexts task c n : ℕ) (known : List Writer) → task < tasks → c + n ≤ contexts → Each (IsPair tasks contexts) (writers_of_task task c n known)
of_task tasks contexts task c zero known task_there within = tt
of_task tasks contexts task c (suc n) known task_there within =
    one_more (is_writer task c known) tasks contexts task c (writers_of_task task (suc c) n known) task_there (omega arith) (of_task tasks contexts task (suc c) n known task_there (omega arith))

of_tasks : (tasks contexts task n : ℕ) (known : List Writer) → task + n ≤ tasks → Each (IsPair tasks contexts) (writers_from task n contexts known)
of_tasks tasks contexts task zero known within = tt
of_tasks tasks contexts task (suc n) known within =
    each_append (IsPair tasks contexts) (writers_of_task task 0 contexts known) (writers_from (suc task) n contexts known)
    (of_task tasks contexts task 0 contexts known (omega arith) (omega arith)) (of_tasks tasks contexts (suc task) n known (omega arith))

pub in_range : (trace : Trace) → IsLawful trace → AreInRange (all_writers trace)
in_range trace lawful n less =
    let pair = each_at (IsPair (length trace.tasks) (length trace.contexts)) (all_writers trace)
    (of_tasks (length trace.tasks) (length trace.contexts) 0 (length trace.tasks) (writers_of trace.inodes trace.actions) (omega arith)) n less in
    (omega (arith, pair.0, lawful.within.few_tasks), omega (arith, pair.1, lawful.within.few_contexts))

-- each number of a task's writers is one of a writer
one_there : (b : Bool) (m most : ℕ) (more : List ℕ) → m < most → Each (λ n. n < most) more → Each (λ n. n < most) (cond b (m ∷ more) more)
one_there true m most more there all = (there, all)
one_there false m most more there all = all

each_there : (task m : ℕ) (ws : List Writer) (most : ℕ) → m + length ws ≤ most → Each (λ n. n < most) (numbers_from task m ws)
each_there task m [] most within = tt
each_there task m (w ∷ ws) most within = one_there (eqb w.task task) m most (numbers_from task (m + 1) ws) (omega arith) (each_there task (m + 1) ws most (omega arith))

each_all : (most : ℕ) (ns : List ℕ) → Each (λ n. n < most) ns → All (λ n. n < most) ns
each_all most [] all k d less = absurd (omega arith)
each_all most (n ∷ ns) all zero d less = all.0
each_all most (n ∷ ns) all (suc k) d less = each_all most ns all.1 k d (omega arith)

pub numbers_there : (trace : Trace) (task : ℕ) → All (λ n. n < length (all_writers trace)) (numbers_from task 0 (all_writers trace))
numbers_there trace task = each_all (length (all_writers trace)) (numbers_from task 0 (all_writers trace)) (each_there task 0 (all_writers trace) (length (all_writers trace)) (omega arith))
