-- Steps on counters, and loads.
use Rattle.std.proofs.Common.{◌≡◌, ℕ, zero, suc, ◌+◌, ◌<◌, ◌≤◌, false, eqb, ℤ, pos, unsigned_abs, List, [], ◌∷◌, ◌++◌, length, get_or, All, ⊎_elim, refl, sym, ◌∙◌, subst, arith, eq-eqb, length-append}
use Rattle.std.specs.Prelude.{◌+ℤ◌}
use Rattle.std.proofs.lemmas.Int.{ints}
use Rattle.std.proofs.Math.ListN.{set}
use Rattle.std.proofs.lemmas.List.{length-set, get_or-set_same, get_or-set_other}
use Rattle.std.proofs.lemmas.List.Elements.{All-cons}
use Rattle.std.proofs.lemmas.Bool.{cases_Bool}
use Rattle.std.proofs.lemmas.Bool.Decides.{nat_tests}
use Rattle.wbt_replay_order.proofs.Common.{domain_batch, context_batch, is_same, Count, Counter, Context, is_same-true, StepKind, CheckEntry, Entry, EstEntry, StepEntry, CpuLocal, MOST_COUNT, Trace, add, fold, clear, counted, fold_of, word_of, held_after, limits_kept, load_first, load_middle, load_limits, count_kept, load_count, batch_of, own_of, with_own, State, no_held, cpu_of, task_of, flusher_of, domain_of, writeback_of, count_of, Cpu, Flusher, Held, ReplayTask, ReplayTurn, Whose, Todo, setting_of, Facts, IsFlusherOn, credit_in, silent_ticks, IsClosed, IsRoom, IsCount, IsTurn, IsWhose, most_counted, IsCounter, ItemFits, AreInOrder, AreOthers, Settles, settles_next, Agrees, TaskAgrees, FlusherAgrees, IsOpen, closes_in}
use Rattle.wbt_counter.specs.declared.counter.Counter.TheVariants.{Domain}
use Rattle.wbt_grant.proofs.Ranges.{batch_fits}
use Rattle.wbt_grant.specs.declared.who.StepKind.TheVariants as kind
use Rattle.wbt_num.specs.Limits.{IsLawful}
use Rattle.wbt_replay_moves.specs.Definition.Counters.{is_whole}
use Rattle.wbt_replay_moves.specs.declared.state.Whose.TheVariants as whose
use Rattle.wbt_replay_moves.specs.declared.todo.Silent.TheVariants as silent
use Rattle.wbt_replay_moves.specs.declared.todo.Step.TheVariants as step
use Rattle.wbt_replay_moves.specs.declared.todo.Todo.TheVariants as todo
use Rattle.wbt_replay_order.proofs.Facts.Lists.{either}
use Rattle.wbt_replay_ranges.proofs.Sound.Frames.{cpu_going}
use Rattle.wbt_replay_ranges.proofs.Sound.Going.{Going, spare_going}
use Rattle.wbt_replay_order.proofs.Lists.Numbered.{set_all}
use Rattle.wbt_replay_ranges.proofs.Sound.Own.{Free, Done, changed, changed_cpu, changed_agreed, is_set, settles_others, room_free, done_free}
use Rattle.wbt_replay_ranges.proofs.Sound.Things.{domain_going, context_going}

-- ---- batches

pub batch_few : (trace : Trace) (facts : Facts trace) (x : Counter) → batch_of trace x ≤ 512
unfolding setting_of
batch_few trace facts (Domain d) = let l = batch_fits (setting_of trace) (Domain d) (omega (arith, facts.few_cpus)) in omega (arith, l)
batch_few trace facts (Context k) = let l = batch_fits (setting_of trace) (Context k) (omega (arith, facts.few_cpus)) in omega (arith, l)

domain_batch_some : (cpus : ℕ) → 0 < domain_batch cpus
unfolding domain_batch
domain_batch_some cpus = omega arith

context_batch_some : (cpus : ℕ) → 0 < context_batch cpus
unfolding context_batch
context_batch_some cpus = omega arith

pub batch_some : (trace : Trace) (x : Counter) → 0 < batch_of trace x
batch_some trace (Domain d) = domain_batch_some trace.cpus
batch_some trace (Context k) = context_batch_some trace.cpus

pub credit_few : (todos : List Todo) → credit_in todos ≤ silent_ticks
credit_few [] = omega arith
credit_few (todo.Step item ∷ more) = omega arith
credit_few (todo.Silent silent.Decide ∷ more) = omega arith
credit_few (todo.Silent silent.End ∷ more) = omega arith
credit_few (todo.Silent (silent.Estimate context) ∷ more) = omega arith
credit_few (todo.Silent (silent.Weigh context) ∷ more) = omega arith
credit_few (todo.Silent silent.Test ∷ more) = omega arith
credit_few (todo.Silent silent.Close ∷ more) = omega arith
credit_few (todo.Silent silent.HandOver ∷ more) = omega arith
credit_few (todo.Silent silent.Land ∷ more) = omega arith

-- ---- entries of steps, and a state in which a step may be made

abbrev pub plain_entry : (i : ℕ) (k : StepKind) → StepEntry
plain_entry i k = record { who = i; kind = k; context = 0; change = pos 0; domain = 0; peak = 0 }

abbrev pub with_step : (x : StepEntry) (s : State) → State
with_step x s = record s { steps = s.steps ++ x ∷ [] }

abbrev pub Ready : (trace : Trace) (i : ℕ) (s : State) → Type 0
Ready trace i s = (x : StepEntry) → Going trace i 1 silent_ticks (with_step x s)

-- a written page may bring the rest for its task's pace, so it may spend more
abbrev pub write_ticks : ℕ
write_ticks = silent_ticks + MOST_COUNT

abbrev pub ReadyToWrite : (trace : Trace) (i : ℕ) (s : State) → Type 0
ReadyToWrite trace i s = (x : StepEntry) → Going trace i 1 write_ticks (with_step x s)

-- ---- own numbers

-- the number of another counter than the one that was put
pub own_put : (x y : Counter) (n : ℤ) (c : Cpu) → is_same y x ≡ false → own_of y (with_own x n c) ≡ own_of y c
own_put (Domain d) (Domain e) n c other = get_or-set_other c.own_domains d e n (pos 0) (λ same. absurd (cc (other, eq-eqb e d same)))
own_put (Domain d) (Context k) n c other = refl
own_put (Context l) (Domain e) n c other = refl
own_put (Context l) (Context k) n c other = get_or-set_other c.own_contexts l k n (pos 0) (λ same. absurd (cc (other, eq-eqb k l same)))

module _ (trace : Trace) (facts : Facts trace) (i : ℕ) (less : i < trace.cpus) where
  pub own_here : (x : Counter) (n : ℤ) (e t : ℕ) (s : State) → Going trace i e t s → IsCounter trace x → own_of x (with_own x n (cpu_of i s)) ≡ n
  own_here (Domain d) n e t s g fits = let l = (g.holds.cpus.each i less).own_domains in get_or-set_same (cpu_of i s).own_domains d n (pos 0) (omega (arith, l, fits))
  own_here (Context k) n e t s g fits = let l = (g.holds.cpus.each i less).own_contexts in get_or-set_same (cpu_of i s).own_contexts k n (pos 0) (omega (arith, l, fits))

  -- with another turn, or other entries, there is the same room
  pub room_as : (c : Cpu) (turn : ReplayTurn) (es : List Entry) (cs : List CheckEntry) (xs : List EstEntry) → IsRoom trace c
      → IsRoom trace (record c { turn = turn; entries = es; checks = cs; estimates = xs })
  room_as c turn es cs xs h = record { settles = h.settles; most = most_of; room = room_of }
    where
      most_of : (y : Counter) → unsigned_abs (own_of y (record c { turn = turn; entries = es; checks = cs; estimates = xs })) ≤ batch_of trace y
      most_of (Domain d) = h.most (Domain d)
      most_of (Context k) = h.most (Context k)

      room_of : (y : Counter) → settles_next y c.todo ≡ false → unsigned_abs (own_of y (record c { turn = turn; entries = es; checks = cs; estimates = xs })) < batch_of trace y
      room_of (Domain d) = h.room (Domain d)
      room_of (Context k) = h.room (Context k)

  -- ---- the CPU changes in all that no task or flusher is told of

  pub changed_done : (turn : ReplayTurn) (todos : List Todo) (local : CpuLocal) (ds ks : List ℤ) (es : List Entry) (cs : List CheckEntry) (xs : List EstEntry) (e t : ℕ) (s : State)
      → Going trace i e t s → IsTurn s.now turn → (cpu_of i s).turn.whose ≡ turn.whose → IsWhose trace i (cpu_of i s).turn.whose
      → length ds ≡ length (cpu_of i s).own_domains → length ks ≡ length (cpu_of i s).own_contexts
      → local.since_check ≤ length s.steps → local.leaks ≤ (cpu_of i s).local.leaks + e
      → All (ItemFits trace) todos → AreInOrder todos → All (Agrees trace s.tasks s.flushers (cpu_of i s).turn.whose) todos
      → credit_in todos ≤ credit_in (cpu_of i s).todo + t
      → ((f : ℕ) → IsFlusherOn trace i f → turn.whose ≡ whose.Flusher f → closes_in todos ≡ false → IsOpen trace (flusher_of f s))
      → IsRoom trace (changed (cpu_of i s) turn todos local ds ks es cs xs (cpu_of i s).made)
      → Done trace i (record s { cpus = set s.cpus i (changed (cpu_of i s) turn todos local ds ks es cs xs (cpu_of i s).made) })
  changed_done turn todos local ds ks es cs xs e t s g at same is dl kl since leaks fit order agree credit opens room =
      let c : Cpu = cpu_of i s in
      let d : Cpu = changed c turn todos local ds ks es cs xs c.made in
      let h = g.holds.cpus.each i less in
      let now = sym (is_set trace facts i less d e t s g) in
      record {
        going = cpu_going trace facts i less d e 0 t 0 s g
            (changed_cpu trace facts i less (length s.steps) s.now c turn todos local ds ks es cs xs c.made h at (λ _. subst (IsWhose trace i) same is) fit order dl kl since h.made)
            (changed_agreed trace facts i less s c turn todos local ds ks es cs xs c.made (g.holds.agreed i less) (sym same) agree)
            refl (omega (arith, leaks)) (omega (arith, credit)) (omega arith);
        closed = subst (IsClosed trace s.flushers i) now opens;
        room = subst (IsRoom trace) now room;
      }

  -- ---- an event is added

  add_less : (n change : ℤ) (b : ℕ) → unsigned_abs n < b → unsigned_abs change ≡ 1 → unsigned_abs (n +ℤ change) ≤ b
  add_less n change b l one = omega (arith, ints, l, one)

  full_room : (x : Counter) (n : ℤ) (c : Cpu) (ts : List Todo) → own_of x (with_own x n c) ≡ n → AreOthers ts → ((y : Counter) → unsigned_abs (own_of y c) < batch_of trace y) → unsigned_abs n ≤ batch_of trace x
      → (y : Counter) → (unsigned_abs (own_of y (with_own x n c)) ≤ batch_of trace y) × (is_same y x ≡ false → unsigned_abs (own_of y (with_own x n c)) < batch_of trace y)
  full_room x n c ts here others free most y = ⊎_elim
      (λ t. let e = is_same-true y x t in
      (subst (λ (z : Counter). unsigned_abs (own_of z (with_own x n c)) ≤ batch_of trace z) (sym e) (subst (λ (m : ℤ). unsigned_abs m ≤ batch_of trace x) (sym here) most), λ f. absurd (cc (t, f))))
      (λ f. let l = free y in
      let same = own_put x y n c f in
      (subst (λ (m : ℤ). unsigned_abs m ≤ batch_of trace y) (sym same) (omega (arith, l)), λ _. subst (λ (m : ℤ). unsigned_abs m < batch_of trace y) (sym same) l))
      (cases_Bool (is_same y x))

  -- what an item that the turn goes on after leaves open
  abbrev pub Opens : (s : State) (todos : List Todo) → Type 0
  Opens s todos = (f : ℕ) → IsFlusherOn trace i f → (cpu_of i s).turn.whose ≡ whose.Flusher f → closes_in todos ≡ false → IsOpen trace (flusher_of f s)

  module _ (s : State) (ready : Ready trace i s) (is : IsWhose trace i (cpu_of i s).turn.whose) (opens : Opens s (cpu_of i s).todo) where
    -- the CPU's own numbers, and what it does next
    own_done : (k : StepKind) (todos : List Todo) (ds ks : List ℤ) → length ds ≡ length (cpu_of i s).own_domains → length ks ≡ length (cpu_of i s).own_contexts
        → All (ItemFits trace) todos → AreInOrder todos → All (Agrees trace s.tasks s.flushers (cpu_of i s).turn.whose) todos → (closes_in todos ≡ false → closes_in (cpu_of i s).todo ≡ false)
        → IsRoom trace (record (cpu_of i s) { todo = todos; own_domains = ds; own_contexts = ks })
        → Done trace i (with_step (plain_entry i k) (record s { cpus = set s.cpus i (record (cpu_of i s) { todo = todos; own_domains = ds; own_contexts = ks }) }))
    own_done k todos ds ks dl kl fit order agree closes room =
        let c : Cpu = cpu_of i s in
        let g = ready (plain_entry i k) in
        let h = g.holds.cpus.each i less in
        let few = credit_few todos in
        changed_done c.turn todos c.local ds ks c.entries c.checks c.estimates 1 silent_ticks (with_step (plain_entry i k) s) g h.turn refl is dl kl h.since (omega arith) fit order agree
        (omega (arith, few)) (λ f on turn none. opens f on turn (closes none)) room

    -- where the own number was put
    put_done : (k : StepKind) (x : Counter) (n : ℤ) (todos : List Todo)
        → All (ItemFits trace) todos → AreInOrder todos → All (Agrees trace s.tasks s.flushers (cpu_of i s).turn.whose) todos → (closes_in todos ≡ false → closes_in (cpu_of i s).todo ≡ false)
        → Settles todos → ((y : Counter) → unsigned_abs (own_of y (with_own x n (cpu_of i s))) ≤ batch_of trace y)
        → ((y : Counter) → settles_next y todos ≡ false → unsigned_abs (own_of y (with_own x n (cpu_of i s))) < batch_of trace y)
        → Done trace i (with_step (plain_entry i k) (record s { cpus = set s.cpus i (record (with_own x n (cpu_of i s)) { todo = todos }) }))
    put_done k (Domain d) n todos fit order agree closes settles most room = own_done k todos (set (cpu_of i s).own_domains d n) (cpu_of i s).own_contexts (length-set (cpu_of i s).own_domains d n) refl fit order agree closes
        (record { settles = settles; most = most_of; room = room_of })
      where
        most_of : (y : Counter) → unsigned_abs (own_of y (record (with_own (Domain d) n (cpu_of i s)) { todo = todos })) ≤ batch_of trace y
        most_of (Domain e) = most (Domain e)
        most_of (Context k) = most (Context k)

        room_of : (y : Counter) → settles_next y todos ≡ false → unsigned_abs (own_of y (record (with_own (Domain d) n (cpu_of i s)) { todo = todos })) < batch_of trace y
        room_of (Domain e) = room (Domain e)
        room_of (Context k) = room (Context k)
    put_done k (Context l) n todos fit order agree closes settles most room = own_done k todos (cpu_of i s).own_domains (set (cpu_of i s).own_contexts l n) refl (length-set (cpu_of i s).own_contexts l n) fit order agree closes
        (record { settles = settles; most = most_of; room = room_of })
      where
        most_of : (y : Counter) → unsigned_abs (own_of y (record (with_own (Context l) n (cpu_of i s)) { todo = todos })) ≤ batch_of trace y
        most_of (Domain e) = most (Domain e)
        most_of (Context k) = most (Context k)

        room_of : (y : Counter) → settles_next y todos ≡ false → unsigned_abs (own_of y (record (with_own (Context l) n (cpu_of i s)) { todo = todos })) < batch_of trace y
        room_of (Domain e) = room (Domain e)
        room_of (Context k) = room (Context k)

    todo_own : (x : Counter) (n : ℤ) (c : Cpu) → record (with_own x n c) { todo = c.todo } ≡ with_own x n c
    todo_own (Domain d) n c = refl
    todo_own (Context k) n c = refl

    next_own : (x : Counter) (n : ℤ) (c : Cpu) (a b : Todo) → record (with_own x n c) { todo = a ∷ b ∷ c.todo } ≡ record (with_own x n c) { todo = a ∷ b ∷ (with_own x n c).todo }
    next_own (Domain d) n c a b = refl
    next_own (Context k) n c a b = refl

    pub add_done : (x : Counter) (change : ℤ) → Free trace i 0 s → IsCounter trace x → unsigned_abs change ≡ 1 → Done trace i (add trace i x change s)
    add_done x change free fits one =
        let c : Cpu = cpu_of i s in
        let n : ℤ = own_of x c +ℤ change in
        let most = add_less (own_of x c) change (batch_of trace x) (free.room x) one in
        let here = own_here x n 1 silent_ticks (with_step (plain_entry i kind.Add) s) (ready (plain_entry i kind.Add)) fits in
        let room = full_room x n c c.todo here free.fits.others free.room most in
        either (λ d. Done trace i (with_step (plain_entry i kind.Add) (record s { cpus = set s.cpus i d }))) (eqb (unsigned_abs n) (batch_of trace x)) _ _
        (λ full. subst (λ d. Done trace i (with_step (plain_entry i kind.Add) (record s { cpus = set s.cpus i d }))) (next_own x n c (todo.Step (step.Fold x)) (todo.Step (step.Clear x)))
        (put_done kind.Add x n (todo.Step (step.Fold x) ∷ todo.Step (step.Clear x) ∷ c.todo)
        (All-cons (ItemFits trace) (todo.Step (step.Fold x)) (todo.Step (step.Clear x) ∷ c.todo) fits (All-cons (ItemFits trace) (todo.Step (step.Clear x)) c.todo fits free.fits.fit))
        ((omega arith, free.fits.from), (free.fits.from, free.fits.order))
        (agree_free (todo.Step (step.Fold x)) (λ t. tt) (λ f. tt) (todo.Step (step.Clear x) ∷ c.todo) (agree_free (todo.Step (step.Clear x)) (λ t. tt) (λ f. tt) c.todo free.fits.agree))
        (λ none. none)
        (refl, free.fits.others)
        (λ y. (room y).0) (λ y. (room y).1)))
        (λ other. subst (λ d. Done trace i (with_step (plain_entry i kind.Add) (record s { cpus = set s.cpus i d }))) (todo_own x n c)
        (put_done kind.Add x n c.todo free.fits.fit free.fits.order free.fits.agree (λ none. none) (settles_others c.todo free.fits.others)
        (λ y. (room y).0) (λ y _. below x n c here other most y (room y))))
      where
        agree_free : (t : Todo) → ((x : ReplayTask) → TaskAgrees x t) → ((x : Flusher) → FlusherAgrees trace x t) → (ts : List Todo) → All (Agrees trace s.tasks s.flushers (cpu_of i s).turn.whose) ts
            → All (Agrees trace s.tasks s.flushers (cpu_of i s).turn.whose) (t ∷ ts)
        agree_free t p q ts h = All-cons (Agrees trace s.tasks s.flushers (cpu_of i s).turn.whose) t ts (by_whose (cpu_of i s).turn.whose) h
          where
            by_whose : (w : Whose) → Agrees trace s.tasks s.flushers w t
            by_whose (whose.Task task) = p (task_of task s)
            by_whose (whose.Flusher flusher) = q (flusher_of flusher s)

        below : (x : Counter) (n : ℤ) (c : Cpu) → own_of x (with_own x n c) ≡ n → eqb (unsigned_abs n) (batch_of trace x) ≡ false → unsigned_abs n ≤ batch_of trace x
            → (y : Counter) → (unsigned_abs (own_of y (with_own x n c)) ≤ batch_of trace y) × (is_same y x ≡ false → unsigned_abs (own_of y (with_own x n c)) < batch_of trace y)
            → unsigned_abs (own_of y (with_own x n c)) < batch_of trace y
        below x n c here other most y room = ⊎_elim
            (λ t. subst (λ (z : Counter). unsigned_abs (own_of z (with_own x n c)) < batch_of trace z) (sym (is_same-true y x t))
            (subst (λ (m : ℤ). unsigned_abs m < batch_of trace x) (sym here) (grind (arith, nat_tests))))
            (λ f. room.1 f)
            (cases_Bool (is_same y x))

    -- ---- a number is cleared

    pub clear_done : (x : Counter) → IsCounter trace x → AreOthers (cpu_of i s).todo → ((y : Counter) → is_same y x ≡ false → unsigned_abs (own_of y (cpu_of i s)) < batch_of trace y) → Done trace i (clear i x s)
    clear_done x fits others room =
        let c : Cpu = cpu_of i s in
        let g = ready (plain_entry i kind.Clear) in
        let h = g.holds.cpus.each i less in
        subst (λ d. Done trace i (with_step (plain_entry i kind.Clear) (record s { cpus = set s.cpus i d }))) (todo_own x (pos 0) c)
        (put_done kind.Clear x (pos 0) c.todo h.todo h.in_order (g.holds.agreed i less).items (λ none. none) (settles_others c.todo others)
        (λ y. let l = small y in omega (arith, l)) (λ y _. small y))
      where
        small : (y : Counter) → unsigned_abs (own_of y (with_own x (pos 0) (cpu_of i s))) < batch_of trace y
        small y = ⊎_elim
            (λ t. subst (λ (z : Counter). unsigned_abs (own_of z (with_own x (pos 0) (cpu_of i s))) < batch_of trace z) (sym (is_same-true y x t))
            (subst (λ (m : ℤ). unsigned_abs m < batch_of trace x) (sym (own_here x (pos 0) 1 silent_ticks (with_step (plain_entry i kind.Clear) s) (ready (plain_entry i kind.Clear)) fits)) (batch_some trace x)))
            (λ f. subst (λ (m : ℤ). unsigned_abs m < batch_of trace y) (sym (own_put x y (pos 0) (cpu_of i s) f)) (room y f))
            (cases_Bool (is_same y x))

    -- ---- the turn loads

    load_done : (k : StepKind) (turn : ReplayTurn) → Free trace i 0 s → IsTurn s.now turn → turn.whose ≡ (cpu_of i s).turn.whose
        → Done trace i (with_step (plain_entry i k) (record s { cpus = set s.cpus i (record (cpu_of i s) { turn = turn }) }))
    load_done k turn free at same =
        let c : Cpu = cpu_of i s in
        let g = ready (plain_entry i k) in
        let h = g.holds.cpus.each i less in
        changed_done turn c.todo c.local c.own_domains c.own_contexts c.entries c.checks c.estimates 1 silent_ticks (with_step (plain_entry i k) s) g at (sym same) is refl refl h.since (omega arith)
        h.todo h.in_order (g.holds.agreed i less).items (omega arith) (λ f on turn' none. opens f on (sym same ∙ turn') none)
        (room_as c turn c.entries c.checks c.estimates (room_free trace c free.fits.others free.room))

    pub first_done : (d : ℕ) → Free trace i 0 s → Done trace i (load_first i d s)
    first_done d free =
        let t = ((ready (plain_entry i kind.First)).holds.cpus.each i less).turn in
        load_done kind.First (record (cpu_of i s).turn { found = word_of (domain_of d s) }) free
        (record { began = t.began; global = t.global; cgroup = t.cgroup; global_count = t.global_count; cgroup_count = t.cgroup_count; context_count = t.context_count }) refl

    pub middle_done : Free trace i 0 s → Done trace i (load_middle i s)
    middle_done free =
        let s' : State = with_step (plain_entry i kind.Middle) s in
        done_free trace i 0 s' (spare_going trace i 1 0 silent_ticks 0 s' (omega arith) (omega arith) (ready (plain_entry i kind.Middle))) opens
        (record { whose = free.whose; fits = free.fits; room = free.room })

    -- the CPU holds lawful limits of a domain, and its turn keeps them
    hold_done : (d : ℕ) (x : Held) (turn : ReplayTurn) → Free trace i 0 s → IsLawful x.limits → IsTurn s.now turn → turn.whose ≡ (cpu_of i s).turn.whose
        → Done trace i (with_step (plain_entry i kind.Limits) (record s { cpus = set s.cpus i (record (cpu_of i s) { held = set (cpu_of i s).held d x; turn = turn }) }))
    hold_done d x turn free lawful at same =
        let c : Cpu = cpu_of i s in
        let q : Cpu = record c { held = set c.held d x; turn = turn } in
        let s' : State = with_step (plain_entry i kind.Limits) s in
        let g = ready (plain_entry i kind.Limits) in
        let h = g.holds.cpus.each i less in
        let a = g.holds.agreed i less in
        let now = sym (is_set trace facts i less q 1 silent_ticks s' g) in
        record {
          going = cpu_going trace facts i less q 1 0 silent_ticks 0 s' g
              (record {
                jobs = h.jobs;
                tasks = h.tasks;
                next = h.next;
                next_task = h.next_task;
                turn = at;
                whose = λ _. subst (IsWhose trace i) (sym same) is;
                todo = h.todo;
                in_order = h.in_order;
                own_domains = h.own_domains;
                own_contexts = h.own_contexts;
                many_held = length-set c.held d x ∙ h.many_held;
                held = set_all (λ j (y : Held). IsLawful y.limits) c.held d x no_held lawful h.held;
                since = h.since;
                made = h.made;
              })
              (record { items = subst (λ (w : Whose). All (Agrees trace s.tasks s.flushers w) c.todo) (sym same) a.items; others = λ f on n. a.others f on (λ e. n (same ∙ e)) })
              refl (omega arith) (omega arith) (omega arith);
          closed = subst (IsClosed trace s.flushers i) now (λ f on e none. opens f on (sym same ∙ e) none);
          room = subst (IsRoom trace) now (record { settles = settles_others c.todo free.fits.others; most = λ y. (let l = few y in omega (arith, l)); room = λ y e. few y });
        }
      where
        few : (y : Counter) → unsigned_abs (own_of y (record (cpu_of i s) { held = set (cpu_of i s).held d x; turn = turn })) < batch_of trace y
        few (Domain k) = free.room (Domain k)
        few (Context k) = free.room (Context k)

    -- the limits that it holds afterwards are lawful
    held_lawful : (d : ℕ) → IsLawful (held_after (cpu_of i s).turn.found (domain_of d s) (get_or (cpu_of i s).held d no_held)).limits
    held_lawful d =
        let g = ready (plain_entry i kind.Limits) in
        either (λ (x : Held). IsLawful x.limits) (is_whole (cpu_of i s).turn.found (domain_of d s)) _ _
        (λ whole. (g.holds.domains.each d).limits) (λ not. (g.holds.cpus.each i less).held d)

    pub limits_done : (d : ℕ) → Free trace i 0 s → Done trace i (load_limits i d s)
    limits_done zero free =
        let t = ((ready (plain_entry i kind.Limits)).holds.cpus.each i less).turn in
        let x : Held = held_after (cpu_of i s).turn.found (domain_of 0 s) (get_or (cpu_of i s).held 0 no_held) in
        hold_done 0 x (limits_kept 0 x (cpu_of i s).turn) free (held_lawful 0)
        (record { began = t.began; global = held_lawful 0; cgroup = t.cgroup; global_count = t.global_count; cgroup_count = t.cgroup_count; context_count = t.context_count }) refl
    limits_done (suc d) free =
        let t = ((ready (plain_entry i kind.Limits)).holds.cpus.each i less).turn in
        let x : Held = held_after (cpu_of i s).turn.found (domain_of (suc d) s) (get_or (cpu_of i s).held (suc d) no_held) in
        hold_done (suc d) x (limits_kept (suc d) x (cpu_of i s).turn) free (held_lawful (suc d))
        (record { began = t.began; global = t.global; cgroup = held_lawful (suc d); global_count = t.global_count; cgroup_count = t.cgroup_count; context_count = t.context_count }) refl

    -- a count after so many steps has no more pages than any may have
    count_small : (count : Count) → IsCount s.most (length (with_step (plain_entry i kind.Count) s).steps) count → unsigned_abs count.value ≤ most_counted
    count_small count h = omega (arith, h.value)

    pub count_done : (x : Counter) → IsCounter trace x → Free trace i 0 s → Done trace i (load_count i x s)
    count_done (Domain zero) fits free =
        let g = ready (plain_entry i kind.Count) in
        let t = (g.holds.cpus.each i less).turn in
        load_done kind.Count (count_kept (Domain 0) (domain_of 0 s).count (cpu_of i s).turn) free
        (record { began = t.began; global = t.global; cgroup = t.cgroup; global_count = count_small (domain_of 0 s).count (g.holds.domains.each 0).count; cgroup_count = t.cgroup_count; context_count = t.context_count }) refl
    count_done (Domain (suc d)) fits free =
        let g = ready (plain_entry i kind.Count) in
        let t = (g.holds.cpus.each i less).turn in
        load_done kind.Count (count_kept (Domain (suc d)) (domain_of (suc d) s).count (cpu_of i s).turn) free
        (record { began = t.began; global = t.global; cgroup = t.cgroup; global_count = t.global_count; cgroup_count = count_small (domain_of (suc d) s).count (g.holds.domains.each (suc d)).count; context_count = t.context_count }) refl
    count_done (Context k) fits free =
        let g = ready (plain_entry i kind.Count) in
        let t = (g.holds.cpus.each i less).turn in
        load_done kind.Count (count_kept (Context k) (writeback_of k s).count (cpu_of i s).turn) free
        (record { began = t.began; global = t.global; cgroup = t.cgroup; global_count = t.global_count; cgroup_count = t.cgroup_count; context_count = count_small (writeback_of k s).count (g.holds.contexts.each k fits).count }) refl

    -- ---- a full number is folded

    counted_fits : (n : ℕ) (own : ℤ) (count : Count) → IsCount s.most n count → unsigned_abs own ≤ 512 → (m : ℕ) → m ≡ n + 1 → m ≤ s.most → IsCount s.most m (counted own count)
    counted_fits n own count h few m more left = record { version = omega (arith, h.version, more); value = omega (arith, ints, h.value, few, more, left) }

    folded_done : (x : Counter) (s' : State) → Going trace i 1 silent_ticks s' → s'.cpus ≡ s.cpus → s'.now ≡ s.now → IsRoom trace (cpu_of i s') → Opens s' (cpu_of i s').todo → IsWhose trace i (cpu_of i s').turn.whose → (es : List Entry)
        → Done trace i (record s' { cpus = set s'.cpus i (record (cpu_of i s') { entries = es }) })
    folded_done x s' g same moment room opens' is' es =
        let c : Cpu = cpu_of i s' in
        let h = g.holds.cpus.each i less in
        changed_done c.turn c.todo c.local c.own_domains c.own_contexts es c.checks c.estimates 1 silent_ticks s' g h.turn refl is' refl refl h.since (omega arith)
        h.todo h.in_order (g.holds.agreed i less).items (omega arith) opens'
        (room_as c c.turn es c.checks c.estimates room)

    pub fold_done : (x : Counter) → IsCounter trace x → IsRoom trace (cpu_of i s) → IsCount s.most (length s.steps) (count_of x s) → Done trace i (fold i x s)
    fold_done (Domain d) fits room count =
        let c : Cpu = cpu_of i s in
        let g = ready (plain_entry i kind.Fold) in
        let few = batch_few trace facts (Domain d) in
        let most = room.most (Domain d) in
        let at = g.holds.domains.each d in
        let after : Count = counted (own_of (Domain d) c) (domain_of d s).count in
        let one : length (with_step (plain_entry i kind.Fold) s).steps ≡ length s.steps + 1 = length-append s.steps (plain_entry i kind.Fold ∷ []) in
        let m = domain_going trace i 1 silent_ticks d (record (domain_of d s) { count = after }) (with_step (plain_entry i kind.Fold) s) g (omega (arith, g.holds.domains.many, fits))
        (record { limits = at.limits; sequence = at.sequence; under_peak = at.under_peak; peak = at.peak; count = counted_fits (length s.steps) (own_of (Domain d) c) (domain_of d s).count count (omega (arith, few, most)) (length (with_step (plain_entry i kind.Fold) s).steps) one g.holds.few; period = at.period })
        (omega arith) (omega arith) (g.holds.written.events d) in
        folded_done (Domain d) _ m refl refl room opens is (fold_of (Domain d) (domain_of d s).count c).entries
    fold_done (Context k) fits room count =
        let c : Cpu = cpu_of i s in
        let g = ready (plain_entry i kind.Fold) in
        let few = batch_few trace facts (Context k) in
        let most = room.most (Context k) in
        let at = g.holds.contexts.each k fits in
        let after : Count = counted (own_of (Context k) c) (writeback_of k s).count in
        let one : length (with_step (plain_entry i kind.Fold) s).steps ≡ length s.steps + 1 = length-append s.steps (plain_entry i kind.Fold ∷ []) in
        let m = context_going trace i 1 silent_ticks k (record (writeback_of k s) { count = after }) (with_step (plain_entry i kind.Fold) s) g (omega (arith, g.holds.contexts.many, fits))
        (record { count = counted_fits (length s.steps) (own_of (Context k) c) (writeback_of k s).count count (omega (arith, few, most)) (length (with_step (plain_entry i kind.Fold) s).steps) one g.holds.few; estimate = at.estimate; estimated = at.estimated; part = at.part; cgroup_part = at.cgroup_part })
        refl (g.holds.written.part k) (g.holds.written.cgroup_part k) in
        folded_done (Context k) _ m refl refl room opens is (fold_of (Context k) (writeback_of k s).count c).entries
