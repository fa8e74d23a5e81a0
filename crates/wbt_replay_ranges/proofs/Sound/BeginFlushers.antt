-- A flusher begins a turn.
use Rattle.std.proofs.Common.{◌≡◌, ℕ, zero, suc, ◌+◌, ◌<◌, ◌≤◌, Bool, true, false, ◌||◌, eqb, eq-eqb, leb, List, [], ◌∷◌, ◌++◌, length, get_or, All, refl, sym, ◌∙◌, ap, subst, arith, append_assoc, append-nil}
use Rattle.std.proofs.Math.ListN.{set}
use Rattle.std.specs.List.{list_any}
use Rattle.std.proofs.lemmas.Bool.{or_right}
use Rattle.std.proofs.lemmas.List.Elements.{All-nil, All-cons, All-head, All-tail}
use Rattle.wbt_replay_order.proofs.Common.{Context, domains, Trace, then_do, do_last, domain_loads, measures_of, weighs_of, begin_test, begin_idle, take_last, ESTIMATE_AGE, begin_phase, State, no_cpu, cpu_of, flusher_of, writeback_of, is_drained, waiting_of, Cpu, ReplayPhase, Whose, Todo, Facts, IsFlusherOn, credit_in, ItemFits, Agrees, FlusherAgrees, IsIdle, IsTaken, IsScanning, IsFlying, IsOpen, floor_of, is_measured, rank_of, is_settling}
use Rattle.wbt_counter.specs.declared.counter.Counter.TheVariants.{Domain}
use Rattle.wbt_replay_moves.specs.Definition.Perform.{begin_flush}
use Rattle.wbt_replay_moves.specs.declared.state.ReplayPhase.TheVariants as phase
use Rattle.wbt_replay_moves.specs.declared.state.Whose.TheVariants as whose
use Rattle.wbt_replay_moves.specs.declared.todo.Silent.TheVariants as silent
use Rattle.wbt_replay_moves.specs.declared.todo.Step.TheVariants as step
use Rattle.wbt_replay_moves.specs.declared.todo.Todo.TheVariants as todo
use Rattle.wbt_replay_order.proofs.Facts.Lists.{either, twice}
use Rattle.wbt_replay_ranges.proofs.Sound.Going.{Going}
use Rattle.wbt_replay_ranges.proofs.Sound.Idles.{take_last_done}
use Rattle.wbt_replay_ranges.proofs.Sound.Own.{Fits, Free, Done, push, fits_less, do_done}
use Rattle.wbt_replay_ranges.proofs.Sound.Scans.{own_open, stays_done}

module _ (trace : Trace) (facts : Facts trace) (i : ℕ) (less : i < trace.cpus) (s : State) (f : ℕ) (on : IsFlusherOn trace i f) (turn : (cpu_of i s).turn.whose ≡ whose.Flusher f)
    (g : Going trace i 0 0 s) (free : Free trace i 3 s) (idle : (cpu_of i s).todo ≡ []) (opens : IsOpen trace (flusher_of f s)) where
  abbrev ItemsFit : (n : ℕ) (todos : List Todo) → Type 0
  ItemsFit n todos = Fits trace s.tasks s.flushers (cpu_of i s).turn.whose n todos

  put : (n m : ℕ) (t : Todo) (todos : List Todo) → ItemsFit n todos → ItemFits trace t → FlusherAgrees trace (flusher_of f s) t → is_settling t ≡ false → floor_of t ≤ n → m ≤ n → m ≤ rank_of t → ItemsFit m (t ∷ todos)
  put n m t todos h fits agrees other floor less' rank = push trace s.tasks s.flushers (cpu_of i s).turn.whose n m t todos h fits (subst (λ (w : Whose). Agrees trace s.tasks s.flushers w t) (sym turn) agrees) other floor less' rank

  items_done : (items : List Todo) (n : ℕ) → ItemsFit n (items ++ (cpu_of i s).todo) → credit_in (items ++ (cpu_of i s).todo) ≡ 0 → Done trace i (then_do i items s)
  items_done items n fits credit = do_done trace facts i less items 0 0 3 n s g free fits (omega (arith, credit)) (λ f' on' e none. own_open trace facts i less s f on turn s turn opens f' e)

  -- ---- a test

  loads_fit : (count d : ℕ) (todos : List Todo) → d + count ≤ domains trace → ItemsFit 0 todos → ItemsFit 0 (domain_loads count d ++ todos)
  unfolding domain_loads
  loads_fit zero d todos l h = h
  loads_fit (suc count) d todos l h =
      let rest = loads_fit count (d + 1) todos (omega (arith, l)) h in
      let a = put 0 0 (todo.Step (step.Count (Domain d))) (domain_loads count (d + 1) ++ todos) rest (omega (arith, l)) tt refl (omega arith) (omega arith) (omega arith) in
      let more : List Todo = todo.Step (step.Count (Domain d)) ∷ (domain_loads count (d + 1) ++ todos) in
      let b = put 0 0 (todo.Step (step.Limits d)) more a (omega (arith, l)) tt refl (omega arith) (omega arith) (omega arith) in
      let c = put 0 0 (todo.Step (step.Middle d)) (todo.Step (step.Limits d) ∷ more) b (omega (arith, l)) tt refl (omega arith) (omega arith) (omega arith) in
      put 0 0 (todo.Step (step.First d)) (todo.Step (step.Middle d) ∷ todo.Step (step.Limits d) ∷ more) c (omega (arith, l)) tt refl (omega arith) (omega arith) (omega arith)

  -- each of a list's contexts is one of it
  all_measured : (before ks : List ℕ) → All (λ k. is_measured k (before ++ ks) ≡ true) ks
  all_measured before [] = All-nil (λ k. is_measured k (before ++ []) ≡ true)
  all_measured before (k ∷ ks) =
      All-cons (λ n. is_measured n (before ++ k ∷ ks) ≡ true) k ks (found before)
      (subst (λ (l : List ℕ). All (λ n. is_measured n l ≡ true) ks) (append_assoc before (k ∷ []) ks) (all_measured (before ++ k ∷ []) ks))
    where
      found : (xs : List ℕ) → is_measured k (xs ++ k ∷ ks) ≡ true
      found [] = ap (λ (b : Bool). b || list_any (λ n. eqb n k) ks) (eq-eqb k k refl)
      found (x ∷ xs) = or_right (eqb x k) (is_measured k (xs ++ k ∷ ks)) (found xs)

  measures_fit : (ks : List ℕ) (todos : List Todo) → All (λ k. k < length trace.contexts) ks → All (λ k. is_measured k (flusher_of f s).measures ≡ true) ks → IsIdle (flusher_of f s).phase → ItemsFit 0 todos
      → ItemsFit 0 (measures_of ks s ++ todos)
  unfolding measures_of
  measures_fit [] todos all known rests h = h
  measures_fit (k ∷ ks) todos all known rests h =
      let rest = measures_fit ks todos (All-tail (λ k. k < length trace.contexts) k ks all) (All-tail (λ n. is_measured n (flusher_of f s).measures ≡ true) k ks known) rests h in
      let measured = All-head (λ n. is_measured n (flusher_of f s).measures ≡ true) k ks known in
      let there = All-head (λ k. k < length trace.contexts) k ks all in
      either (λ items. ItemsFit 0 ((items ++ measures_of ks s) ++ todos)) (leb ((writeback_of k s).estimate.at + ESTIMATE_AGE) s.now) (todo.Step (step.Count (Context k)) ∷ todo.Silent (silent.Estimate k) ∷ []) []
      (λ old. let a = put 0 0 (todo.Silent (silent.Estimate k)) (measures_of ks s ++ todos) rest there (rests, measured) refl (omega arith) (omega arith) (omega arith) in
      put 0 0 (todo.Step (step.Count (Context k))) (todo.Silent (silent.Estimate k) ∷ (measures_of ks s ++ todos)) a there tt refl (omega arith) (omega arith) (omega arith))
      (λ young. rest)

  weighs_fit : (ks : List ℕ) (todos : List Todo) → All (λ k. k < length trace.contexts) ks → IsIdle (flusher_of f s).phase → ItemsFit 0 todos → ItemsFit 0 (weighs_of ks ++ todos)
  unfolding weighs_of
  weighs_fit [] todos all rests h = h
  weighs_fit (k ∷ ks) todos all rests h =
      let there = All-head (λ k. k < length trace.contexts) k ks all in
      let rest = weighs_fit ks todos (All-tail (λ k. k < length trace.contexts) k ks all) rests h in
      let a = put 0 0 (todo.Silent (silent.Weigh k)) (weighs_of ks ++ todos) rest there rests refl (omega arith) (omega arith) (omega arith) in
      put 0 0 (todo.Step (step.Count (Context k))) (todo.Silent (silent.Weigh k) ∷ (weighs_of ks ++ todos)) a there tt refl (omega arith) (omega arith) (omega arith)

  loads_first : (count d : ℕ) (todos : List Todo) → 1 ≤ count → credit_in (domain_loads count d ++ todos) ≡ 0
  unfolding domain_loads
  loads_first zero d todos l = absurd (omega (arith, l))
  loads_first (suc count) d todos l = refl

  -- what the test puts last: its loads, the estimates, the contexts that are weighed, and the test itself
  abbrev test_items : List Todo
  test_items = domain_loads (length s.domains) 0 ++ (measures_of (flusher_of f s).measures s ++ (weighs_of (flusher_of f s).weighs ++ (todo.Silent silent.Test ∷ (cpu_of i s).todo)))

  test_fits : IsIdle (flusher_of f s).phase → ItemsFit 0 test_items
  test_fits rests =
      let last = put 3 1 (todo.Silent silent.Test) (cpu_of i s).todo free.fits tt rests refl (omega arith) (omega arith) (omega arith) in
      let last0 = fits_less trace s.tasks s.flushers (cpu_of i s).turn.whose 0 1 (todo.Silent silent.Test ∷ (cpu_of i s).todo) (omega arith) last in
      let flusher = g.holds.flushers.each f in
      let weighed = weighs_fit (flusher_of f s).weighs (todo.Silent silent.Test ∷ (cpu_of i s).todo) flusher.weighs rests last0 in
      let behind : List Todo = weighs_of (flusher_of f s).weighs ++ (todo.Silent silent.Test ∷ (cpu_of i s).todo) in
      loads_fit (length s.domains) 0 (measures_of (flusher_of f s).measures s ++ behind) (omega (arith, g.holds.domains.many))
      (measures_fit (flusher_of f s).measures behind flusher.measures (all_measured [] (flusher_of f s).measures) rests weighed)

  apart : (a b d : List Todo) (t : Todo) (todos : List Todo) → a ++ (b ++ (d ++ (t ∷ todos))) ≡ (((a ++ b) ++ d) ++ (t ∷ [])) ++ todos
  apart a b d t todos = simp append_assoc

  last_is_next : (a b d : List Todo) (t : Todo) (todos : List Todo) → todos ≡ [] → (((a ++ b) ++ d) ++ (t ∷ [])) ++ todos ≡ (((todos ++ a) ++ b) ++ d) ++ (t ∷ [])
  last_is_next a b d t [] e = simp append-nil
  last_is_next a b d t (x ∷ todos) e = absurd (cc e)

  test_begins : IsIdle (flusher_of f s).phase → Done trace i (begin_test i f s)
  test_begins rests =
      let a : List Todo = domain_loads (length s.domains) 0 in
      let b : List Todo = measures_of (flusher_of f s).measures s in
      let d : List Todo = weighs_of (flusher_of f s).weighs in
      let c : Cpu = cpu_of i s in
      let last : Todo = todo.Silent silent.Test in
      let items : List Todo = ((a ++ b) ++ d) ++ (last ∷ []) in
      let same = apart a b d last c.todo in
      let there : i < length s.cpus = omega (arith, less, g.holds.cpus.many) in
      let loaded : Cpu = do_last b (do_last a c) in
      let weighed : Cpu = do_last d loaded in
      let cpus : (begin_test i f s).cpus ≡ set s.cpus i (record c { todo = (((c.todo ++ a) ++ b) ++ d) ++ (last ∷ []) }) =
      ap (λ (l : List Cpu). let m : List Cpu = set l i (do_last d (get_or l i no_cpu)) in set m i (do_last (last ∷ []) (get_or m i no_cpu))) (twice (do_last b) s.cpus i (do_last a c) no_cpu there)
      ∙ ap (λ (l : List Cpu). set l i (do_last (last ∷ []) (get_or l i no_cpu))) (twice (do_last d) s.cpus i loaded no_cpu there)
      ∙ twice (do_last (last ∷ [])) s.cpus i weighed no_cpu there in
      let some = g.holds.domains.many in
      let first = loads_first (length s.domains) 0 (b ++ (d ++ (last ∷ (cpu_of i s).todo))) (omega (arith, some)) in
      subst (λ (l : List Cpu). Done trace i (record s { cpus = l })) (sym cpus)
      (subst (λ (todos : List Todo). Done trace i (record s { cpus = set s.cpus i (record c { todo = todos }) })) (last_is_next a b d last c.todo idle)
      (items_done items 0 (subst (ItemsFit 0) same (test_fits rests)) (subst (λ (todos : List Todo). credit_in todos ≡ 0) same first)))

  idle_begins : (until : ℕ) (kept : Bool) → (flusher_of f s).phase ≡ phase.Idle until kept → Done trace i (begin_idle trace i f s)
  idle_begins until kept e = either (Done trace i) (is_drained s) (take_last trace i f (waiting_of f s).pairs s) (begin_test i f s)
      (λ drained. take_last_done trace facts i less s f on turn until kept e 0 (waiting_of f s).pairs refl g
      (record { whose = free.whose; fits = fits_less trace s.tasks s.flushers (cpu_of i s).turn.whose 2 3 (cpu_of i s).todo (omega arith) free.fits; room = free.room }))
      (λ runs. test_begins (subst IsIdle (sym e) tt))

  one_begins : (t : Todo) → ItemFits trace t → FlusherAgrees trace (flusher_of f s) t → is_settling t ≡ false → floor_of t ≤ 3 → credit_in (t ∷ (cpu_of i s).todo) ≡ 0 → Done trace i (then_do i (t ∷ []) s)
  one_begins t fits agrees other floor credit = items_done (t ∷ []) 0 (put 3 0 t (cpu_of i s).todo free.fits fits agrees other floor (omega arith) (omega arith)) credit

  phase_begins : (p : ReplayPhase) → (flusher_of f s).phase ≡ p → Done trace i (begin_phase trace i f p s)
  phase_begins (phase.Idle until kept) e = idle_begins until kept e
  phase_begins (phase.Taken inode) e = one_begins (todo.Step step.Unmark) tt (subst IsTaken (sym e) tt) refl (omega arith) refl
  phase_begins (phase.Scanning scan) e = one_begins (todo.Step step.Look) tt (subst IsScanning (sym e) tt, opens) refl (omega arith) refl
  phase_begins (phase.Flying inode pages until) e = one_begins (todo.Step step.Complete) tt (subst IsFlying (sym e) tt, opens) refl (omega arith) refl
  phase_begins phase.Finished e = stays_done trace facts i less s f on turn 0 0 3 s g free turn opens

  pub flusher_begins : Done trace i (begin_flush trace i f s)
  flusher_begins = phase_begins (flusher_of f s).phase refl
