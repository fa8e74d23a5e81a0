-- What one more step, entry or check counts.
use Rattle.std.proofs.Common.{◌≡◌, ℕ, ◌+◌, ◌<◌, ◌≤◌, max, Bool, false, nat_lt, cond, ℤ, ◌+ℤ◌, List, [], ◌∷◌, ◌++◌, length, drop, get_or, refl, sym, ap, ◌∙◌, arith}
use Rattle.std.proofs.lemmas.List.{drop_all, drop_more}
use Rattle.std.proofs.lemmas.List.Sums.{sum_by-append, sum_by-cons}
use Rattle.std.specs.List.{sum_by, count_by}
use Rattle.wbt_replay_order.proofs.Common.{at_least_zero, Trace, change_in, CheckEntry, Entry, StepEntry}
use Rattle.wbt_forecast_rows.specs.Counts.{count_after, most_after, is_dirtied_in, is_written_in, is_write_by, is_check_of, is_pause_of, pause_after, longest_pause}
use Rattle.wbt_forecast_rows.specs.Tally.{domain_after, domain_next, context_after, task_after_entries, task_after_checks}
use Rattle.wbt_forecast_rows.specs.declared.tally.ContextTally.{ContextTally}
use Rattle.wbt_forecast_rows.specs.declared.tally.DomainTally.{DomainTally}
use Rattle.wbt_forecast_rows.specs.declared.tally.TaskTally.{TaskTally}

-- ---- sums

pub count_by-append : {A : Type 0} (p : A → Bool) (xs ys : List A) → count_by p (xs ++ ys) ≡ count_by p xs + count_by p ys
count_by-append p xs ys = sum_by-append (λ x. cond (p x) 1 0) xs ys

pub count_by-cons : {A : Type 0} (p : A → Bool) (x : A) (xs : List A) → count_by p (x ∷ xs) ≡ cond (p x) 1 0 + count_by p xs
count_by-cons p x xs = sum_by-cons (λ y. cond (p y) 1 0) x xs

pub count_by-one : {A : Type 0} (p : A → Bool) (x : A) → count_by p (x ∷ []) ≡ cond (p x) 1 0
count_by-one p x = let none : count_by p [] ≡ 0 = refl in omega (arith, count_by-cons p x [], none)

pub count_by-is : {A : Type 0} (p : A → Bool) (x : A) (b : Bool) → p x ≡ b → count_by p (x ∷ []) ≡ cond b 1 0
count_by-is p x b is = count_by-one p x ∙ ap {B = ℕ} (λ (v : Bool). cond v 1 0) is

pub sum_by-one : {A : Type 0} (f : A → ℕ) (x : A) → sum_by f (x ∷ []) ≡ f x
sum_by-one f x = let none : sum_by f [] ≡ 0 = refl in omega (arith, sum_by-cons f x [], none)

pub max_again : (a b c : ℕ) → max (max a b) c ≡ max a (max b c)
max_again a b c = omega arith

-- ---- steps

-- the next step of a walk over steps
pub count_more : (homes : List ℕ) (domain : ℕ) (count : ℤ) (steps : List StepEntry) (i : ℕ) (d : StepEntry) → i < length steps
    → count_after homes domain (count +ℤ change_in homes domain (get_or steps i d)) (drop (i + 1) steps) ≡ count_after homes domain count (drop i steps)
count_more homes domain count steps i d less = ap (count_after homes domain count) (sym (drop_more steps i d less))

pub most_more : (homes : List ℕ) (domain : ℕ) (count : ℤ) (most : ℕ) (steps : List StepEntry) (i : ℕ) (d : StepEntry) → i < length steps
    → max (max most (at_least_zero (count +ℤ change_in homes domain (get_or steps i d)))) (most_after homes domain (count +ℤ change_in homes domain (get_or steps i d)) (drop (i + 1) steps))
    ≡ max most (most_after homes domain count (drop i steps))
most_more homes domain count most steps i d less =
    let next = count +ℤ change_in homes domain (get_or steps i d) in
    max_again most (at_least_zero next) (most_after homes domain next (drop (i + 1) steps))
    ∙ ap (λ rest. max most (most_after homes domain count rest)) (sym (drop_more steps i d less))

pub same_domain : (a b : DomainTally) → a.count ≡ b.count → a.most ≡ b.most → a ≡ b
same_domain a b count_is most_is =
    ap (λ (x : ℤ). record b { count = x; most = a.most }) count_is ∙ ap (λ (x : ℕ). record b { most = x }) most_is

pub domain_step : (homes : List ℕ) (domain : ℕ) (t u : DomainTally) (steps : List StepEntry) (i : ℕ) (d : StepEntry) → i < length steps
    → u ≡ domain_next homes domain (get_or steps i d) t
    → domain_after homes (drop (i + 1) steps) domain u ≡ domain_after homes (drop i steps) domain t
domain_step homes domain t u steps i d less is =
    ap (domain_after homes (drop (i + 1) steps) domain) is
    ∙ same_domain _ _ (count_more homes domain t.count steps i d less) (most_more homes domain t.count t.most steps i d less)

pub domain_end : (homes : List ℕ) (domain : ℕ) (t : DomainTally) (steps : List StepEntry) (i : ℕ) → length steps ≤ i
    → domain_after homes (drop i steps) domain t ≡ t
domain_end homes domain t steps i past =
    ap (λ (rest : List StepEntry). domain_after homes rest domain t) (drop_all i steps past)
    ∙ same_domain (domain_after homes [] domain t) t refl (omega arith)

-- ---- contexts

pub same_context : (a b : ContextTally) → a.dirtied ≡ b.dirtied → a.written ≡ b.written → a ≡ b
same_context a b dirtied written =
    ap (λ (n : ℕ). record a { dirtied = n }) dirtied ∙ ap (λ (n : ℕ). record b { written = n }) written

-- more entries after others
pub context_more : (trace : Trace) (xs ys : List Entry) (context : ℕ) (t : ContextTally)
    → context_after trace ys context (context_after trace xs context t) ≡ context_after trace (xs ++ ys) context t
context_more trace xs ys context t =
    same_context _ _
    (omega (arith, count_by-append (is_dirtied_in trace context) xs ys))
    (omega (arith, count_by-append (is_written_in trace context) xs ys))

-- an entry that tells no page of the context
pub context_none : (trace : Trace) (e : Entry) (context : ℕ) (t : ContextTally) → is_dirtied_in trace context e ≡ false → is_written_in trace context e ≡ false
    → context_after trace (e ∷ []) context t ≡ t
context_none trace e context t not_dirtied not_written =
    same_context _ _
    (omega (arith, count_by-is (is_dirtied_in trace context) e false not_dirtied))
    (omega (arith, count_by-is (is_written_in trace context) e false not_written))

-- ---- tasks

pub same_task : (a b : TaskTally) → a.pages ≡ b.pages → a.checks ≡ b.checks → a.pauses ≡ b.pauses → a.ticks ≡ b.ticks → a.longest ≡ b.longest → a ≡ b
same_task a b pages checks pauses ticks longest =
    ap (λ (n : ℕ). record a { pages = n }) pages
    ∙ ap (λ (n : ℕ). record a { pages = b.pages; checks = n }) checks
    ∙ ap (λ (n : ℕ). record b { pauses = n; ticks = a.ticks; longest = a.longest }) pauses
    ∙ ap (λ (n : ℕ). record b { ticks = n; longest = a.longest }) ticks
    ∙ ap (λ (n : ℕ). record b { longest = n }) longest

pub task_more_entries : (xs ys : List Entry) (task : ℕ) (t : TaskTally)
    → task_after_entries ys task (task_after_entries xs task t) ≡ task_after_entries (xs ++ ys) task t
task_more_entries xs ys task t = same_task _ _ (omega (arith, count_by-append (is_write_by task) xs ys)) refl refl refl refl

pub task_no_entry : (e : Entry) (task : ℕ) (t : TaskTally) → is_write_by task e ≡ false → task_after_entries (e ∷ []) task t ≡ t
task_no_entry e task t not_by =
    same_task _ _ (omega (arith, count_by-is (is_write_by task) e false not_by)) refl refl refl refl

pub longest-append : (task : ℕ) (xs ys : List CheckEntry) → longest_pause task (xs ++ ys) ≡ max (longest_pause task xs) (longest_pause task ys)
longest-append task [] ys = omega arith
longest-append task (x ∷ xs) ys = let rest = longest-append task xs ys in omega (arith, rest)

pub task_more_checks : (xs ys : List CheckEntry) (task : ℕ) (t : TaskTally)
    → task_after_checks ys task (task_after_checks xs task t) ≡ task_after_checks (xs ++ ys) task t
task_more_checks xs ys task t =
    same_task _ _ refl
    (omega (arith, count_by-append (is_check_of task) xs ys))
    (omega (arith, count_by-append (is_pause_of task) xs ys))
    (omega (arith, sum_by-append (pause_after task) xs ys))
    (omega (arith, longest-append task xs ys))

longest_one : (task : ℕ) (check : CheckEntry) → longest_pause task (check ∷ []) ≡ pause_after task check
longest_one task check = omega arith

-- the tally after a check of its task, and of another one
pub task_one_check : (check : CheckEntry) (task : ℕ) (t : TaskTally) (b : Bool) → is_check_of task check ≡ b
    → task_after_checks (check ∷ []) task t
    ≡ record t {
      checks = t.checks + cond b 1 0;
      pauses = t.pauses + cond (nat_lt 0 (cond b check.decision.pause 0)) 1 0;
      ticks = t.ticks + cond b check.decision.pause 0;
      longest = max t.longest (cond b check.decision.pause 0);
    }
task_one_check check task t b is =
    let pause : pause_after task check ≡ cond b check.decision.pause 0 = ap {B = ℕ} (λ (v : Bool). cond v check.decision.pause 0) is in
    let begins : is_pause_of task check ≡ nat_lt 0 (cond b check.decision.pause 0) = ap {B = Bool} (λ (n : ℕ). nat_lt 0 n) pause in
    same_task _ _ refl
    (ap (λ (n : ℕ). t.checks + n) (count_by-is (is_check_of task) check b is))
    (ap (λ (n : ℕ). t.pauses + n) (count_by-is (is_pause_of task) check (nat_lt 0 (cond b check.decision.pause 0)) begins))
    (ap (λ (n : ℕ). t.ticks + n) (sum_by-one (pause_after task) check ∙ pause))
    (ap (λ (n : ℕ). max t.longest n) (longest_one task check ∙ pause))
