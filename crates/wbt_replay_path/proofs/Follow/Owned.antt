-- One counter's own number, shared count or debt changed.
use Rattle.std.proofs.Common.{◌≡◌, ◌≢◌, ℕ, Bool, false, cond, eqb, ℤ, pos, List, [], ◌∷◌, get_or, refl, sym, ◌∙◌, ap, subst, ⊎_elim, not}
use Rattle.std.proofs.Math.ListN.{set}
use Rattle.std.proofs.lemmas.Bool.{cases_Bool, cond-true, cond-false}
use Rattle.wbt_replay_order.proofs.Common.{Count, Counter, Debt, ClearDue, Owed, is_same, without_debt, debt_to, put, put_same, put_other, is_same-true, is_same-itself, own_of, with_own, State, no_domain, no_context, count_of, with_count, domain_of, writeback_of, HasOwn, HasCount, Cpu, Domain, Writeback, Todo, heights_of, own_in, count_in, debts_in, resumes, Tidy}
use Rattle.wbt_counter.specs.declared.counter.Counter.TheVariants.{Domain as ofDomain, Context as ofContext}
use Rattle.wbt_counter.specs.Counters.{put_counter}
use Rattle.wbt_replay_moves.specs.declared.todo.Step.TheVariants as item
use Rattle.wbt_replay_moves.specs.declared.todo.Todo.TheVariants as todo
use Rattle.wbt_replay_order.specs.Kept.Following.{IsClearedNext}
use Rattle.wbt_replay_order.proofs.Lists.Places.{still, cond_ap, get_set}

-- ---- own numbers

pub own_is : (x : Counter) (c : Cpu) → own_of x c ≡ own_in x c.own_domains c.own_contexts
own_is (ofDomain d) c = refl
own_is (ofContext k) c = refl

-- Of the CPU one own number has changed.
pub record Owned (x : Counter) (n : ℤ) (c o : Cpu) : Type 0 where
  pub todos : o.todo ≡ c.todo
  pub entries : o.entries ≡ c.entries
  pub checks : o.checks ≡ c.checks
  pub held : o.held ≡ c.held
  pub turn : o.turn ≡ c.turn
  pub made : o.made ≡ c.made
  pub own : (y : Counter) → own_in y o.own_domains o.own_contexts ≡ cond (is_same y x) n (own_in y c.own_domains c.own_contexts)

pub owned : (x : Counter) (n : ℤ) (c : Cpu) → HasOwn x c → Owned x n c (with_own x n c)
owned (ofDomain d) n c has = record { todos = refl; entries = refl; checks = refl; held = refl; turn = refl; made = refl; own = by_name }
  where
    by_name : (y : Counter) → own_in y (set c.own_domains d n) c.own_contexts ≡ cond (is_same y (ofDomain d)) n (own_in y c.own_domains c.own_contexts)
    by_name (ofDomain e) = get_set c.own_domains d e n (pos 0) has
    by_name (ofContext k) = refl
owned (ofContext l) n c has = record { todos = refl; entries = refl; checks = refl; held = refl; turn = refl; made = refl; own = by_name }
  where
    by_name : (y : Counter) → own_in y c.own_domains (set c.own_contexts l n) ≡ cond (is_same y (ofContext l)) n (own_in y c.own_domains c.own_contexts)
    by_name (ofDomain e) = refl
    by_name (ofContext k) = get_set c.own_contexts l k n (pos 0) has

pub own_at : (own : Counter → ℕ → ℤ) (x : Counter) (i : ℕ) (v : ℤ) (y : Counter) → put_counter own x (put (own x) i v) y i ≡ cond (is_same y x) v (own y i)
own_at own x i v y = ⊎_elim
    (λ t. ap (λ (b : Bool). cond b (put (own x) i v) (own y) i) t ∙ (put_same (own x) i v ∙ sym (cond-true (is_same y x) v (own y i) t)))
    (λ t. ap (λ (b : Bool). cond b (put (own x) i v) (own y) i) t ∙ sym (cond-false (is_same y x) v (own y i) t))
    (cases_Bool (is_same y x))

pub own_elsewhere : (own : Counter → ℕ → ℤ) (x : Counter) (i : ℕ) (v : ℤ) (y : Counter) (j : ℕ) → j ≢ i → put_counter own x (put (own x) i v) y j ≡ own y j
own_elsewhere own x i v y j n = ⊎_elim
    (λ t. ap (λ (b : Bool). cond b (put (own x) i v) (own y) j) t ∙ (put_other (own x) i v j n ∙ ap (λ (z : Counter). own z j) (sym (is_same-true y x t))))
    (λ t. ap (λ (b : Bool). cond b (put (own x) i v) (own y) j) t)
    (cases_Bool (is_same y x))

-- ---- shared counts

pub count_is : (x : Counter) (s : State) → count_of x s ≡ count_in x s.domains s.contexts
count_is (ofDomain d) s = refl
count_is (ofContext k) s = refl

-- Of the state one shared count has changed.
pub record Shared (x : Counter) (n : Count) (s t : State) : Type 0 where
  pub book : t.book ≡ s.book
  pub marks : t.marks ≡ s.marks
  pub tasks : t.tasks ≡ s.tasks
  pub flushers : t.flushers ≡ s.flushers
  pub cpus : t.cpus ≡ s.cpus
  pub timer : t.timer ≡ s.timer
  pub steps : t.steps ≡ s.steps
  pub limits : (d : ℕ) → (domain_of d t).limits ≡ (domain_of d s).limits
  pub peak : (d : ℕ) → heights_of (domain_of d t) ≡ heights_of (domain_of d s)
  pub count : (y : Counter) → count_in y t.domains t.contexts ≡ cond (is_same y x) n (count_in y s.domains s.contexts)

pub shared : (x : Counter) (n : Count) (s : State) → HasCount x s → Shared x n s (with_count x n s)
shared (ofDomain d) n s has = record {
  book = refl;
  marks = refl;
  tasks = refl;
  flushers = refl;
  cpus = refl;
  timer = refl;
  steps = refl;
  limits = still (λ (q : Domain). q.limits) s.domains d (record (domain_of d s) { count = n }) no_domain refl;
  peak = still (λ (q : Domain). heights_of q) s.domains d (record (domain_of d s) { count = n }) no_domain refl;
  count = by_name;
}
  where
    by_name : (y : Counter) → count_in y (set s.domains d (record (domain_of d s) { count = n })) s.contexts ≡ cond (is_same y (ofDomain d)) n (count_in y s.domains s.contexts)
    by_name (ofDomain e) =
        ap (λ (q : Domain). q.count) (get_set s.domains d e (record (domain_of d s) { count = n }) no_domain has) ∙
        cond_ap (λ (q : Domain). q.count) (eqb e d) (record (domain_of d s) { count = n }) (get_or s.domains e no_domain)
    by_name (ofContext k) = refl
shared (ofContext l) n s has = record {
  book = refl;
  marks = refl;
  tasks = refl;
  flushers = refl;
  cpus = refl;
  timer = refl;
  steps = refl;
  limits = λ d. refl;
  peak = λ d. refl;
  count = by_name;
}
  where
    by_name : (y : Counter) → count_in y s.domains (set s.contexts l (record (writeback_of l s) { count = n })) ≡ cond (is_same y (ofContext l)) n (count_in y s.domains s.contexts)
    by_name (ofDomain e) = refl
    by_name (ofContext k) =
        ap (λ (q : Writeback). q.count) (get_set s.contexts l k (record (writeback_of l s) { count = n }) no_context has) ∙
        cond_ap (λ (q : Writeback). q.count) (eqb k l) (record (writeback_of l s) { count = n }) (get_or s.contexts k no_context)

-- ---- debts

pub first_debt : (x : Counter) (debt : Debt) (rest : List Owed) → debt_to x (record { counter = x; debt = debt } ∷ rest) ≡ debt
first_debt x debt rest = cond-true (is_same x x) debt (debt_to x rest) (is_same-itself x)

pub first_gone : (x : Counter) (debt : Debt) (rest : List Owed) → without_debt x (record { counter = x; debt = debt } ∷ rest) ≡ without_debt x rest
first_gone x debt rest = ap (λ (b : Bool). cond (not b) (record { counter = x; debt = debt } ∷ without_debt x rest) (without_debt x rest)) (is_same-itself x)

-- What a list owes that begins with the clear of a counter.
pub record BeginsWithClear (x : Counter) (ts : List Todo) : Type 0 where
  pub claims : resumes ts ≡ false
  pub debts : debts_in ts ≡ record { counter = x; debt = ClearDue (pos 0) } ∷ without_debt x (debts_in ts)
  pub once : without_debt x (without_debt x (debts_in ts)) ≡ without_debt x (debts_in ts)

pub cleared_next : (x : Counter) (ts : List Todo) → IsClearedNext x ts → Tidy ts → BeginsWithClear x ts
cleared_next x [] next tidy = absurd next
cleared_next x (todo.Step (item.Clear y) ∷ more) next tidy =
    let gone = first_gone y (ClearDue (pos 0)) (debts_in more) ∙ tidy.0.debts in
    subst (λ (z : Counter). BeginsWithClear z (todo.Step (item.Clear y) ∷ more)) next (record {
      claims = refl;
      debts = ap (λ (l : List Owed). record { counter = y; debt = ClearDue (pos 0) } ∷ l) (sym gone);
      once = ap (without_debt y) gone ∙ (tidy.0.debts ∙ sym gone);
    })
cleared_next x (todo.Step item.Dirty ∷ more) next tidy = absurd next
cleared_next x (todo.Step (item.Add y a) ∷ more) next tidy = absurd next
cleared_next x (todo.Step (item.Fold y) ∷ more) next tidy = absurd next
cleared_next x (todo.Step (item.Mark n) ∷ more) next tidy = absurd next
cleared_next x (todo.Step (item.First d) ∷ more) next tidy = absurd next
cleared_next x (todo.Step (item.Middle d) ∷ more) next tidy = absurd next
cleared_next x (todo.Step (item.Limits d) ∷ more) next tidy = absurd next
cleared_next x (todo.Step (item.Count y) ∷ more) next tidy = absurd next
cleared_next x (todo.Step item.Unmark ∷ more) next tidy = absurd next
cleared_next x (todo.Step item.Look ∷ more) next tidy = absurd next
cleared_next x (todo.Step (item.Claim word) ∷ more) next tidy = absurd next
cleared_next x (todo.Step item.Complete ∷ more) next tidy = absurd next
cleared_next x (todo.Silent move ∷ more) next tidy = absurd next
