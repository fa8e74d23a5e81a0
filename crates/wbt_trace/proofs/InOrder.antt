-- The writers in order are the writers, each once.
use Rattle.std.proofs.Common.{◌≡◌, ℕ, zero, suc, ◌+◌, ◌<◌, Bool, true, false, ◌||◌, ◌&&◌, ◌==◌, List, [], ◌∷◌, ◌++◌, length, count_by, cond, refl, sym, ◌∙◌, ap, subst, arith, zero-add, if◌then◌else◌}
use Rattle.std.specs.List.{All, AllByRecursion}
use Rattle.std.proofs.lemmas.Bool.Decides.{nat_tests}
use Rattle.std.proofs.lemmas.List.Elements.{recursion_from_All}
use Rattle.std.proofs.lemmas.List.Folds.{list_any-append}
use Rattle.std.proofs.lemmas.List.Sums.{sum_by-append, sum_by-cons}
use Rattle.wbt_trace.specs.Lawful.{IsAction, IsInode, writers_after}
use Rattle.wbt_trace.specs.Sofar.{inode_at}
use Rattle.wbt_trace.specs.WriterList.{is_writer, with_writer, writers_of_task, writers_from, writers_in_order}
use Rattle.wbt_trace.specs.declared.trace.Action.{Action}
use Rattle.wbt_trace.specs.declared.trace.Action.TheVariants as action
use Rattle.wbt_trace.specs.declared.trace.Inode.{Inode}
use Rattle.wbt_trace.specs.declared.writers.Writer.{Writer}

abbrev one_if : (b : Bool) → ℕ
one_if true = 1
one_if false = 0

counted : (test : Writer → Bool) (w : Writer) (more : List Writer) → count_by test (w ∷ more) ≡ one_if (test w) + count_by test more
counted test w more = sum_by-cons (λ x. cond (test x) 1 0) w more ∙ ap (λ n. n + count_by test more) (one (test w))
  where
    one : (b : Bool) → cond b 1 0 ≡ one_if b
    one true = refl
    one false = refl

joined : (test : Writer → Bool) (xs ys : List Writer) → count_by test (xs ++ ys) ≡ count_by test xs + count_by test ys
joined test xs ys = sum_by-append (λ x. cond (test x) 1 0) xs ys

-- ---- one writer more

abbrev is_same : (task context : ℕ) (w : Writer) → Bool
is_same task context w = w.task == task && w.context == context

or_false : (b : Bool) → (b || false) ≡ b
or_false true = refl
or_false false = refl

one_more : (task context : ℕ) (ws : List Writer) (w : Writer) → is_writer task context (ws ++ w ∷ []) ≡ (is_writer task context ws || is_same task context w)
one_more task context ws w =
    list_any-append (is_same task context) ws (w ∷ []) ∙ ap (λ b. is_writer task context ws || b) (or_false (is_same task context w))

no_and : (a b : Bool) → a ≡ false → (a && b) ≡ false
no_and a b is = ap (λ x. x && b) is

and_no : (a b : Bool) → b ≡ false → (a && b) ≡ false
and_no true b is = is
and_no false b is = refl

differ : (m n : ℕ) → m < n → (m == n) ≡ false
differ m n less = grind (arith, nat_tests)

differ_above : (m n : ℕ) → n < m → (m == n) ≡ false
differ_above m n less = grind (arith, nat_tests)

same_self : (m : ℕ) → (m == m) ≡ true
same_self m = grind (arith, nat_tests)

still : (task context : ℕ) (ws : List Writer) (w : Writer) → is_same task context w ≡ false → is_writer task context (ws ++ w ∷ []) ≡ is_writer task context ws
still task context ws w other = one_more task context ws w ∙ ap (λ b. is_writer task context ws || b) other ∙ or_false (is_writer task context ws)

-- the list with a pair where it is a writer
abbrev with_pair : (is : Bool) (w : Writer) (more : List Writer) → List Writer
with_pair is w more = if is then w ∷ more else more

abbrev pair : (task context : ℕ) → Writer
pair task context = record { task = task; context = context }

-- of another task, the writers stay
other_task : (task context n : ℕ) (ws : List Writer) (w : Writer) → (w.task == task) ≡ false → writers_of_task task context n (ws ++ w ∷ []) ≡ writers_of_task task context n ws
other_task task context zero ws w other = refl
other_task task context (suc n) ws w other =
    ap (λ (b : Bool). with_pair b (pair task context) (writers_of_task task (suc context) n (ws ++ w ∷ []))) (still task context ws w (no_and (w.task == task) (w.context == context) other))
    ∙ ap (λ (more : List Writer). with_pair (is_writer task context ws) (pair task context) more) (other_task task (suc context) n ws w other)

-- past its context, the writers stay
past_context : (task context n : ℕ) (ws : List Writer) (w : Writer) → w.context < context → writers_of_task task context n (ws ++ w ∷ []) ≡ writers_of_task task context n ws
past_context task context zero ws w past = refl
past_context task context (suc n) ws w past =
    ap (λ (b : Bool). with_pair b (pair task context) (writers_of_task task (suc context) n (ws ++ w ∷ []))) (still task context ws w (and_no (w.task == task) (w.context == context) (differ w.context context past)))
    ∙ ap (λ (more : List Writer). with_pair (is_writer task context ws) (pair task context) more) (past_context task (suc context) n ws w (omega (arith, past)))

swap_in : (a b c : ℕ) → a + (b + c) ≡ b + (a + c)
swap_in a b c = omega (arith)

with_pair_counts : (test : Writer → Bool) (is : Bool) (w : Writer) (more : List Writer) (k : ℕ) (less : List Writer) → count_by test more ≡ k + count_by test less → count_by test (with_pair is w more) ≡ k + count_by test (with_pair is w less)
with_pair_counts test true w more k less e =
    counted test w more ∙ ap (λ n. one_if (test w) + n) e ∙ swap_in (one_if (test w)) k (count_by test less) ∙ ap (λ n. k + n) (sym (counted test w less))
with_pair_counts test false w more k less e = e

-- Of its own task and among its contexts, it is counted once.
own_task : (test : Writer → Bool) (task context n d : ℕ) (ws : List Writer) → d < n → is_writer task (context + d) ws ≡ false
    → count_by test (writers_of_task task context n (ws ++ pair task (context + d) ∷ [])) ≡ one_if (test (pair task (context + d))) + count_by test (writers_of_task task context n ws)
own_task test task context zero d ws less new = omega (arith, less)
own_task test task context (suc n) zero ws less new =
    let at : context + 0 ≡ context = omega (arith) in
    let w = pair task (context + 0) in
    let here : is_writer task context (ws ++ w ∷ []) ≡ true =
    one_more task context ws w
    ∙ ap (λ b. is_writer task context ws || (b && (context + 0 == context))) (same_self task)
    ∙ ap (λ (k : ℕ). is_writer task context ws || (k == context)) at
    ∙ ap (λ b. is_writer task context ws || b) (same_self context)
    ∙ or_true (is_writer task context ws) in
    let before : is_writer task context ws ≡ false = ap (λ (k : ℕ). is_writer task k ws) (sym at) ∙ new in
    let rest : writers_of_task task (suc context) n (ws ++ w ∷ []) ≡ writers_of_task task (suc context) n ws = past_context task (suc context) n ws w (omega (arith)) in
    ap (λ (b : Bool). count_by test (with_pair b (pair task context) (writers_of_task task (suc context) n (ws ++ w ∷ [])))) here
    ∙ counted test (pair task context) (writers_of_task task (suc context) n (ws ++ w ∷ []))
    ∙ ap (λ (k : ℕ). one_if (test (pair task k)) + count_by test (writers_of_task task (suc context) n (ws ++ w ∷ []))) (sym at)
    ∙ ap (λ (l : List Writer). one_if (test w) + count_by test l) rest
    ∙ ap (λ (b : Bool). one_if (test w) + count_by test (with_pair b (pair task context) (writers_of_task task (suc context) n ws))) (sym before)
  where
    or_true : (b : Bool) → (b || true) ≡ true
    or_true true = refl
    or_true false = refl
own_task test task context (suc n) (suc d) ws less new =
    let at : suc context + d ≡ context + suc d = omega (arith) in
    let w = pair task (context + suc d) in
    let flag : is_writer task context (ws ++ w ∷ []) ≡ is_writer task context ws = still task context ws w (and_no (task == task) (context + suc d == context) (differ_above (context + suc d) context (omega (arith)))) in
    let deep : count_by test (writers_of_task task (suc context) n (ws ++ w ∷ [])) ≡ one_if (test w) + count_by test (writers_of_task task (suc context) n ws) =
    subst (λ (k : ℕ). count_by test (writers_of_task task (suc context) n (ws ++ pair task k ∷ [])) ≡ one_if (test (pair task k)) + count_by test (writers_of_task task (suc context) n ws)) at
    (own_task test task (suc context) n d ws (omega (arith, less)) (ap (λ (k : ℕ). is_writer task k ws) at ∙ new)) in
    ap (λ (b : Bool). count_by test (with_pair b (pair task context) (writers_of_task task (suc context) n (ws ++ w ∷ [])))) flag
    ∙ with_pair_counts test (is_writer task context ws) (pair task context) (writers_of_task task (suc context) n (ws ++ w ∷ [])) (one_if (test w)) (writers_of_task task (suc context) n ws) deep

of_first : (test : Writer → Bool) (task contexts context : ℕ) (ws : List Writer) → context < contexts → is_writer task context ws ≡ false
    → count_by test (writers_of_task task 0 contexts (ws ++ pair task context ∷ [])) ≡ one_if (test (pair task context)) + count_by test (writers_of_task task 0 contexts ws)
of_first test task contexts context ws few new =
    let at : 0 + context ≡ context = zero-add context in
    subst (λ (k : ℕ). count_by test (writers_of_task task 0 contexts (ws ++ pair task k ∷ [])) ≡ one_if (test (pair task k)) + count_by test (writers_of_task task 0 contexts ws)) at
    (own_task test task 0 contexts context ws few (ap (λ (k : ℕ). is_writer task k ws) at ∙ new))

-- before its task come no writers of it
past_task : (task n contexts : ℕ) (ws : List Writer) (w : Writer) → w.task < task → writers_from task n contexts (ws ++ w ∷ []) ≡ writers_from task n contexts ws
past_task task zero contexts ws w past = refl
past_task task (suc n) contexts ws w past =
    ap (λ (l : List Writer). l ++ writers_from (suc task) n contexts (ws ++ w ∷ [])) (other_task task 0 contexts ws w (differ w.task task past))
    ∙ ap (λ (l : List Writer). writers_of_task task 0 contexts ws ++ l) (past_task (suc task) n contexts ws w (omega (arith, past)))

-- A new writer of these tasks and contexts is counted once.
among_tasks : (test : Writer → Bool) (task n contexts d context : ℕ) (ws : List Writer) → d < n → context < contexts → is_writer (task + d) context ws ≡ false
    → count_by test (writers_from task n contexts (ws ++ pair (task + d) context ∷ [])) ≡ one_if (test (pair (task + d) context)) + count_by test (writers_from task n contexts ws)
among_tasks test task zero contexts d context ws less few new = omega (arith, less)
among_tasks test task (suc n) contexts zero context ws less few new =
    let at : task + 0 ≡ task = omega (arith) in
    let w = pair (task + 0) context in
    let own : count_by test (writers_of_task task 0 contexts (ws ++ w ∷ [])) ≡ one_if (test w) + count_by test (writers_of_task task 0 contexts ws) =
    subst (λ (k : ℕ). count_by test (writers_of_task task 0 contexts (ws ++ pair k context ∷ [])) ≡ one_if (test (pair k context)) + count_by test (writers_of_task task 0 contexts ws)) (sym at)
    (of_first test task contexts context ws few (ap (λ (k : ℕ). is_writer k context ws) (sym at) ∙ new)) in
    let rest : writers_from (suc task) n contexts (ws ++ w ∷ []) ≡ writers_from (suc task) n contexts ws = past_task (suc task) n contexts ws w (omega (arith)) in
    joined test (writers_of_task task 0 contexts (ws ++ w ∷ [])) (writers_from (suc task) n contexts (ws ++ w ∷ []))
    ∙ ap (λ k. k + count_by test (writers_from (suc task) n contexts (ws ++ w ∷ []))) own
    ∙ ap (λ (l : List Writer). one_if (test w) + count_by test (writers_of_task task 0 contexts ws) + count_by test l) rest
    ∙ add_assoc (one_if (test w)) (count_by test (writers_of_task task 0 contexts ws)) (count_by test (writers_from (suc task) n contexts ws))
    ∙ ap (λ k. one_if (test w) + k) (sym (joined test (writers_of_task task 0 contexts ws) (writers_from (suc task) n contexts ws)))
  where
    add_assoc : (a b c : ℕ) → a + b + c ≡ a + (b + c)
    add_assoc a b c = omega (arith)
among_tasks test task (suc n) contexts (suc d) context ws less few new =
    let at : suc task + d ≡ task + suc d = omega (arith) in
    let w = pair (task + suc d) context in
    let same : writers_of_task task 0 contexts (ws ++ w ∷ []) ≡ writers_of_task task 0 contexts ws = other_task task 0 contexts ws w (differ_above (task + suc d) task (omega (arith))) in
    let deep : count_by test (writers_from (suc task) n contexts (ws ++ w ∷ [])) ≡ one_if (test w) + count_by test (writers_from (suc task) n contexts ws) =
    subst (λ (k : ℕ). count_by test (writers_from (suc task) n contexts (ws ++ pair k context ∷ [])) ≡ one_if (test (pair k context)) + count_by test (writers_from (suc task) n contexts ws)) at
    (among_tasks test (suc task) n contexts d context ws (omega (arith, less)) few (ap (λ (k : ℕ). is_writer k context ws) at ∙ new)) in
    joined test (writers_of_task task 0 contexts (ws ++ w ∷ [])) (writers_from (suc task) n contexts (ws ++ w ∷ []))
    ∙ ap (λ (l : List Writer). count_by test l + count_by test (writers_from (suc task) n contexts (ws ++ w ∷ []))) same
    ∙ ap (λ k. count_by test (writers_of_task task 0 contexts ws) + k) deep
    ∙ swap_in (count_by test (writers_of_task task 0 contexts ws)) (one_if (test w)) (count_by test (writers_from (suc task) n contexts ws))
    ∙ ap (λ k. one_if (test w) + k) (sym (joined test (writers_of_task task 0 contexts ws) (writers_from (suc task) n contexts ws)))

from_first : (test : Writer → Bool) (tasks contexts task context : ℕ) (ws : List Writer) → task < tasks → context < contexts → is_writer task context ws ≡ false
    → count_by test (writers_in_order tasks contexts (ws ++ pair task context ∷ [])) ≡ one_if (test (pair task context)) + count_by test (writers_in_order tasks contexts ws)
from_first test tasks contexts task context ws less few new =
    let at : 0 + task ≡ task = zero-add task in
    subst (λ (k : ℕ). count_by test (writers_in_order tasks contexts (ws ++ pair k context ∷ [])) ≡ one_if (test (pair k context)) + count_by test (writers_in_order tasks contexts ws)) at
    (among_tasks test 0 tasks contexts task context ws less few (ap (λ (k : ℕ). is_writer k context ws) at ∙ new))

-- ---- all writers of the actions

abbrev Agree : (test : Writer → Bool) (tasks contexts : ℕ) (ws : List Writer) → Type 0
Agree test tasks contexts ws = count_by test (writers_in_order tasks contexts ws) ≡ count_by test ws

with_one : (test : Writer → Bool) (tasks contexts task context : ℕ) (ws : List Writer) (is : Bool) → is_writer task context ws ≡ is → task < tasks → context < contexts
    → Agree test tasks contexts ws → Agree test tasks contexts (if is then ws else ws ++ pair task context ∷ [])
with_one test tasks contexts task context ws true is less few agree = agree
with_one test tasks contexts task context ws false is less few agree =
    from_first test tasks contexts task context ws less few is
    ∙ ap (λ n. one_if (test (pair task context)) + n) agree
    ∙ commuted (one_if (test (pair task context))) (count_by test ws)
    ∙ ap (λ n. count_by test ws + n) (sym (counted test (pair task context) [] ∙ none (one_if (test (pair task context)))))
    ∙ sym (joined test ws (pair task context ∷ []))
  where
    commuted : (a b : ℕ) → a + b ≡ b + a
    commuted a b = omega (arith)

    none : (a : ℕ) → a + 0 ≡ a
    none a = omega (arith)

context_of : (contexts inode : ℕ) (inodes : List Inode) → All (IsInode contexts) inodes → inode < length inodes → (inode_at inode inodes).context < contexts
context_of contexts inode inodes all less = (all inode (record { context = 0; first = 0; pages = 0 }) less).0

by_actions : (test : Writer → Bool) (tasks contexts : ℕ) (inodes : List Inode) (actions : List Action) (ws : List Writer) → All (IsInode contexts) inodes → AllByRecursion (IsAction tasks inodes) actions
    → Agree test tasks contexts ws → Agree test tasks contexts (writers_after ws inodes actions)
by_actions test tasks contexts inodes [] ws each all agree = agree
by_actions test tasks contexts inodes (action.Write task inode from pages ∷ more) ws each all agree =
    let context = (inode_at inode inodes).context in
    by_actions test tasks contexts inodes more (with_writer task context ws) each all.1
    (with_one test tasks contexts task context ws (is_writer task context ws) refl all.0.0 (context_of contexts inode inodes each all.0.1) agree)
by_actions test tasks contexts inodes (action.Rest task ticks ∷ more) ws each all agree = by_actions test tasks contexts inodes more ws each all.1 agree

none_of_task : (task context n : ℕ) → writers_of_task task context n [] ≡ []
none_of_task task context zero = refl
none_of_task task context (suc n) = none_of_task task (suc context) n

none_from : (task n contexts : ℕ) → writers_from task n contexts [] ≡ []
none_from task zero contexts = refl
none_from task (suc n) contexts = ap (λ (l : List Writer). l ++ writers_from (suc task) n contexts []) (none_of_task task 0 contexts) ∙ none_from (suc task) n contexts

-- As many writers of the actions pass each test when they are put in order.
pub counts_stay : (tasks contexts : ℕ) (inodes : List Inode) (actions : List Action) → All (IsInode contexts) inodes → All (IsAction tasks inodes) actions → (test : Writer → Bool)
    → count_by test (writers_in_order tasks contexts (writers_after [] inodes actions)) ≡ count_by test (writers_after [] inodes actions)
counts_stay tasks contexts inodes actions each all test =
    by_actions test tasks contexts inodes actions [] each (recursion_from_All (IsAction tasks inodes) actions all) (ap (count_by test) (none_from 0 tasks contexts))

all_counted : (ws : List Writer) → count_by (λ w. true) ws ≡ length ws
all_counted [] = refl
all_counted (w ∷ ws) = counted (λ w. true) w ws ∙ one_up (count_by (λ w. true) ws) (length ws) (all_counted ws)
  where
    one_up : (a b : ℕ) → a ≡ b → 1 + a ≡ suc b
    one_up a b e = omega (arith, e)

-- There are as many in order.
pub length_stays : (tasks contexts : ℕ) (inodes : List Inode) (actions : List Action) → All (IsInode contexts) inodes → All (IsAction tasks inodes) actions
    → length (writers_in_order tasks contexts (writers_after [] inodes actions)) ≡ length (writers_after [] inodes actions)
length_stays tasks contexts inodes actions each all =
    let ws = writers_after [] inodes actions in
    sym (all_counted (writers_in_order tasks contexts ws)) ∙ counts_stay tasks contexts inodes actions each all (λ w. true) ∙ all_counted ws
