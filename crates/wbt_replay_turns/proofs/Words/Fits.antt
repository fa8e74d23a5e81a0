-- The items that a turn begins with come to the steps of a turn.
use Rattle.std.proofs.Common.{◌≡◌, inl, inr, ℕ, zero, suc, ◌+◌, leb, List, [], ◌∷◌, ◌++◌, refl, ◌∙◌, ap, ⊎_elim, arith}
use Rattle.std.proofs.lemmas.List.{append-nil, append_assoc}
use Rattle.wbt_replay_order.proofs.Common.{Counter, Context, StepKind, domains, ESTIMATE_AGE, Trace, domain_loads, measure, measures_of, weighs_of, State, writeback_of, check_items, Silent, Todo}
use Rattle.wbt_counter.specs.declared.counter.Counter.TheVariants.{Domain}
use Rattle.wbt_grant.specs.declared.who.StepKind.TheVariants as kind
use Rattle.wbt_replay_moves.specs.declared.todo.Silent.TheVariants as silent
use Rattle.wbt_replay_moves.specs.declared.todo.Step.TheVariants as step
use Rattle.wbt_replay_moves.specs.declared.todo.Todo.TheVariants as todo
use Rattle.wbt_replay_order.proofs.Facts.Lists.{either}
use Rattle.wbt_turns.specs.Words.{checks, completes, counts, loads, looks, rests, tests, writes, writes_again}
use Rattle.wbt_replay_turns.specs.Words.{IsOrderedTurn}
use Rattle.wbt_replay_turns.proofs.Words.Language.{Runs, SilentRuns, runs_parts, one_of, none_of, single}

-- ---- loads

-- of one domain, and what comes after them
load_runs : (d : ℕ) (x : Counter) (more : List Todo) (word : List StepKind)
    → Runs (todo.Step (step.First d) ∷ todo.Step (step.Middle d) ∷ todo.Step (step.Limits d) ∷ todo.Step (step.Count x) ∷ more) word
    → (rest : List StepKind) × Runs more rest × (word ≡ kind.First ∷ kind.Middle ∷ kind.Limits ∷ kind.Count ∷ rest)
load_runs d x more word h =
    let a = one_of (todo.Step (step.First d)) kind.First (λ w is. is) (todo.Step (step.Middle d) ∷ todo.Step (step.Limits d) ∷ todo.Step (step.Count x) ∷ more) word h in
    let b = one_of (todo.Step (step.Middle d)) kind.Middle (λ w is. is) (todo.Step (step.Limits d) ∷ todo.Step (step.Count x) ∷ more) a.0 a.1 in
    let c = one_of (todo.Step (step.Limits d)) kind.Limits (λ w is. is) (todo.Step (step.Count x) ∷ more) b.0 b.1 in
    let e = one_of (todo.Step (step.Count x)) kind.Count (λ w is. is) more c.0 c.1 in (
      e.0,
      e.1,
      a.2 ∙ ap (λ (l : List StepKind). kind.First ∷ l) (b.2 ∙ ap (λ (l : List StepKind). kind.Middle ∷ l)
          (c.2 ∙ ap (λ (l : List StepKind). kind.Limits ∷ l) e.2)),
    )

domains_run : (n d : ℕ) (word : List StepKind) → Runs (domain_loads n d) word → word ≡ loads n
unfolding domain_loads
domains_run zero d word h = h
domains_run (suc n) d word h =
    let a = load_runs d (Domain d) (domain_loads n (d + 1)) word h in
    a.2 ∙ ap (λ (l : List StepKind). kind.First ∷ kind.Middle ∷ kind.Limits ∷ kind.Count ∷ l) (domains_run n (d + 1) a.0 a.1)

-- counts of some contexts
abbrev AreCounts : (word : List StepKind) → Type 0
AreCounts word = (n : ℕ) × (word ≡ counts n)

counts_more : (n m : ℕ) → counts n ++ counts m ≡ counts (n + m)
counts_more zero m = ap counts (let e : m ≡ 0 + m = omega arith in e)
counts_more (suc n) m = ap (λ (l : List StepKind). kind.Count ∷ l) (counts_more n m) ∙ ap counts (let e : suc (n + m) ≡ suc n + m = omega arith in e)

both_counts : (a b word : List StepKind) → AreCounts a → AreCounts b → word ≡ a ++ b → AreCounts word
both_counts a b word x y is =
    (x.0 + y.0, is ∙ (ap (λ (l : List StepKind). l ++ b) x.1 ∙ (ap (λ (l : List StepKind). counts x.0 ++ l) y.1 ∙ counts_more x.0 y.0)))

-- a count that a silent move comes after
count_runs : (x : Counter) (item : Silent) → ((w : List StepKind) → SilentRuns item w → w ≡ []) → (word : List StepKind)
    → Runs (todo.Step (step.Count x) ∷ todo.Silent item ∷ []) word → AreCounts word
count_runs x item none word h =
    let a = one_of (todo.Step (step.Count x)) kind.Count (λ w is. is) (todo.Silent item ∷ []) word h in
    (1, a.2 ∙ ap (λ (l : List StepKind). kind.Count ∷ l) (none a.0 (single (todo.Silent item) a.0 a.1)))

measure_runs : (k : ℕ) (s : State) (word : List StepKind) → Runs (measure k s) word → AreCounts word
measure_runs k s word =
    either (λ (l : List Todo). Runs l word → AreCounts word) (leb ((writeback_of k s).estimate.at + ESTIMATE_AGE) s.now) _ _
    (λ old h. count_runs (Context k) (silent.Estimate k) (λ w is. is) word h) (λ new h. (0, h))

measures_run : (ks : List ℕ) (s : State) (word : List StepKind) → Runs (measures_of ks s) word → AreCounts word
unfolding measures_of
measures_run [] s word h = (0, h)
measures_run (k ∷ ks) s word h =
    let parts = runs_parts (measure k s) (measures_of ks s) word h in
    both_counts parts.0 parts.1 word (measure_runs k s parts.0 parts.2) (measures_run ks s parts.1 parts.3) parts.4

weighs_run : (ks : List ℕ) (word : List StepKind) → Runs (weighs_of ks) word → AreCounts word
unfolding weighs_of
weighs_run [] word h = (0, h)
weighs_run (k ∷ ks) word h =
    let parts = runs_parts (todo.Step (step.Count (Context k)) ∷ todo.Silent (silent.Weigh k) ∷ []) (weighs_of ks) word h in
    both_counts parts.0 parts.1 word (count_runs (Context k) (silent.Weigh k) (λ w is. is) parts.0 parts.2) (weighs_run ks parts.1 parts.3) parts.4

-- ---- turns

-- these items come to the steps of a turn
abbrev pub Fits : (trace : Trace) (todos : List Todo) → Type 0
Fits trace todos = (word : List StepKind) → Runs todos word → IsOrderedTurn trace word

pub fits_none : (trace : Trace) → Fits trace []
fits_none trace word h = (rests (inl h), tt)

pub fits_end : (trace : Trace) → Fits trace (todo.Silent silent.End ∷ [])
fits_end trace word h = (rests (inl (single (todo.Silent silent.End) word h)), tt)

-- the end of a check
check_ends : (k : ℕ) (word : List StepKind) → Runs (todo.Step (step.Count (Context k)) ∷ todo.Silent silent.Decide ∷ todo.Silent silent.End ∷ []) word → word ≡ kind.Count ∷ []
check_ends k word h =
    let a = one_of (todo.Step (step.Count (Context k))) kind.Count (λ w is. is) (todo.Silent silent.Decide ∷ todo.Silent silent.End ∷ []) word h in
    let b = none_of (todo.Silent silent.Decide) (λ w is. is) (todo.Silent silent.End ∷ []) a.0 a.1 in
    a.2 ∙ ap (λ (l : List StepKind). kind.Count ∷ l) (single (todo.Silent silent.End) a.0 b)

pub fits_check : (trace : Trace) (k group : ℕ) → Fits trace (check_items k group)
fits_check trace k zero word h =
    let a = load_runs 0 (Domain 0) (todo.Step (step.Count (Context k)) ∷ todo.Silent silent.Decide ∷ todo.Silent silent.End ∷ []) word h in
    (checks 1 (inl refl) (a.2 ∙ ap (λ (l : List StepKind). kind.First ∷ kind.Middle ∷ kind.Limits ∷ kind.Count ∷ l) (check_ends k a.0 a.1)), tt)
fits_check trace k (suc cgroup) word h =
    let end = todo.Step (step.Count (Context k)) ∷ todo.Silent silent.Decide ∷ todo.Silent silent.End ∷ [] in
    let a = load_runs 0 (Domain 0) (todo.Step (step.First (suc cgroup)) ∷ todo.Step (step.Middle (suc cgroup)) ∷ todo.Step (step.Limits (suc cgroup))
    ∷ todo.Step (step.Count (Domain (suc cgroup))) ∷ end) word h in
    let b = load_runs (suc cgroup) (Domain (suc cgroup)) end a.0 a.1 in (
      checks 2 (inr refl) (a.2 ∙ ap (λ (l : List StepKind). kind.First ∷ kind.Middle ∷ kind.Limits ∷ kind.Count ∷ l)
          (b.2 ∙ ap (λ (l : List StepKind). kind.First ∷ kind.Middle ∷ kind.Limits ∷ kind.Count ∷ l) (check_ends k b.0 b.1))),
      tt,
    )

pub fits_write : (trace : Trace) → Fits trace (todo.Step step.Dirty ∷ todo.Silent silent.End ∷ [])
fits_write trace word h =
    let parts = runs_parts (todo.Step step.Dirty ∷ []) (todo.Silent silent.End ∷ []) word h in
    let same : word ≡ parts.0 = parts.4 ∙ (ap (λ (l : List StepKind). parts.0 ++ l) (single (todo.Silent silent.End) parts.1 parts.3) ∙ append-nil parts.0) in
    ⊎_elim (λ again. (writes_again (same ∙ again), tt)) (λ fresh. (writes fresh.0 fresh.1 (same ∙ fresh.2), tt)) (single (todo.Step step.Dirty) parts.0 parts.2)

pub fits_unmark : (trace : Trace) → Fits trace (todo.Step step.Unmark ∷ [])
fits_unmark trace word h = (rests (inr (single (todo.Step step.Unmark) word h)), tt)

pub fits_look : (trace : Trace) → Fits trace (todo.Step step.Look ∷ [])
fits_look trace word h = let is = single (todo.Step step.Look) word h in (looks is.0 is.1 is.2, tt)

pub fits_complete : (trace : Trace) → Fits trace (todo.Step step.Complete ∷ [])
fits_complete trace word h = let is = single (todo.Step step.Complete) word h in (completes is.0 is.1 is.2, tt)

-- loads, counts and what is taken, put together
joined : (l a b taken x y word : List StepKind) (n k : ℕ) → x ≡ l ++ a → a ≡ counts n → y ≡ x ++ b → b ≡ counts k → word ≡ y ++ taken → word ≡ l ++ counts (n + k) ++ taken
joined l a b taken x y word n k x_is a_is y_is b_is is =
    let first : x ≡ l ++ counts n = x_is ∙ ap (λ (z : List StepKind). l ++ z) a_is in
    let both : x ++ b ≡ l ++ counts n ++ counts k = ap (λ (z : List StepKind). z ++ b) first ∙ ap (λ (z : List StepKind). l ++ counts n ++ z) b_is in
    let all : l ++ counts n ++ counts k ≡ l ++ counts (n + k) = append_assoc l (counts n) (counts k) ∙ ap (λ (z : List StepKind). l ++ z) (counts_more n k) in
    is ∙ ap (λ (z : List StepKind). z ++ taken) (y_is ∙ (both ∙ all))

pub fits_test : (trace : Trace) (measures weighs : List ℕ) (s : State)
    → Fits trace (domain_loads (domains trace) 0 ++ measures_of measures s ++ weighs_of weighs ++ todo.Silent silent.Test ∷ [])
fits_test trace measures weighs s word h =
    let l : List Todo = domain_loads (domains trace) 0 in
    let m : List Todo = measures_of measures s in
    let w : List Todo = weighs_of weighs in
    let a = runs_parts (l ++ m ++ w) (todo.Silent silent.Test ∷ []) word h in
    let b = runs_parts (l ++ m) w a.0 a.2 in
    let c = runs_parts l m b.0 b.2 in
    let n = measures_run measures s c.1 c.3 in
    let k = weighs_run weighs b.1 b.3 in
    let first : b.0 ≡ loads (domains trace) ++ c.1 = c.4 ∙ ap (λ (z : List StepKind). z ++ c.1) (domains_run (domains trace) 0 c.0 c.2) in (
      tests (n.0 + k.0) a.1 (single (todo.Silent silent.Test) a.1 a.3)
          (joined (loads (domains trace)) c.1 b.1 a.1 b.0 a.0 word n.0 k.0 first n.1 b.4 k.1 a.4),
      tt,
    )
