-- Each step of a CPU's turn, but for a write, pays for what it puts down.
use Rattle.std.proofs.Common.{◌≡◌, ℕ, ◌+◌, ◌<◌, ◌≤◌, true, false, ◌||◌, ◌&&◌, eqb, ℤ, pos, negsuc, unsigned_abs, ◌+ℤ◌, List, [], ◌∷◌, ◌++◌, length, get_or, refl, sym, ◌∙◌, ap, subst, arith}
use Rattle.std.proofs.Math.ListN.{set}
use Rattle.std.proofs.lemmas.List.{set-get_or}
use Rattle.wbt_replay_order.proofs.Common.{is_claimable, shared_word, Counter, Context, StepKind, Trace, add, fold, fold_of, clear, word_of, holds, load_first, load_middle, load_limits, load_count, count_kept, batch_of, do_next, logged, own_of, with_own, owed_to, complete_first, complete_in, scan_of, unmark_in, look_in, claim_now, claim_in, State, no_cpu, cpu_of, flusher_of, domain_of, count_of, with_cpu, plain_step, page_of, context_of, group_of, mark, Cpu, Flusher, ReplayPhase, Step, Todo, is_finished, ahead_cost, StepsPay, IsPaid, is_last, IsTaken, IsScanning, IsFlying, IsOpenAt}
use Rattle.wbt_counter.specs.declared.counter.Counter.TheVariants.{Domain}
use Rattle.wbt_grant.specs.declared.who.StepKind.TheVariants as kind
use Rattle.wbt_journal.specs.declared.entry.Entry.TheVariants as entry
use Rattle.wbt_replay_moves.specs.declared.state.ReplayPhase.TheVariants as phase
use Rattle.wbt_replay_moves.specs.declared.todo.Silent.TheVariants as silent
use Rattle.wbt_replay_moves.specs.declared.todo.Step.TheVariants as step
use Rattle.wbt_replay_moves.specs.declared.todo.Todo.TheVariants as todo
use Rattle.wbt_replay_order.specs.Kept.Ending.{step_cost}
use Rattle.wbt_replay_order.proofs.Facts.Lists.{either, twice}
use Rattle.wbt_replay_ends.proofs.Ends.Goes.{outside, pace, Goes, Plain, cpu_goes, flusher_goes, one_more, paid_most}

-- what comes after the step is paid by it
abbrev pub Pays : (item : Step) (behind : List Todo) → Type 0
Pays item behind = (step_cost item + ahead_cost false behind ≤ 8) × StepsPay behind

-- A step costs at most so much.
abbrev pub Steps : (i : ℕ) (s r : State) → Type 0
Steps i s r = Goes i 1 16 s r

-- what is after a step, where it puts nothing down
paid_behind : (item : Step) (ts : List Todo) → Pays item ts → IsPaid ts
paid_behind item ts h = (omega (arith, h.0), h.1)

own_kept : (x : Counter) (n : ℤ) (c : Cpu) → ((with_own x n c).todo ≡ c.todo) × (pace (with_own x n c) ≡ pace c)
own_kept (Domain d) n c = (refl, refl)
own_kept (Context k) n c = (refl, refl)

module _ (trace : Trace) (i : ℕ) (s : State) (there : i < length s.cpus) where
  -- ---- steps that change a CPU alone

  -- any step that leaves tasks and flushers as they were
  quiet_goes : (r : State) (c : Cpu) → Plain i 1 s r c → r.tasks ≡ s.tasks → r.flushers ≡ s.flushers → Steps i s r
  quiet_goes r c plain tasks flushers =
      cpu_goes i 1 16 s r c plain tasks flushers (let most = paid_most (is_last s.tasks c.turn.whose) c.todo plain.todo in omega (arith, most))

  step_goes : (kind : StepKind) (c : Cpu) → pace c ≡ pace (cpu_of i s) → IsPaid c.todo → Steps i s (plain_step i kind (with_cpu i c s))
  step_goes kind c paces paid =
      quiet_goes (plain_step i kind (with_cpu i c s)) c (record { same = refl; steps = one_more s.steps _; cpus = refl; paces = paces; todo = paid }) refl refl

  pub add_goes : (x : Counter) (change : ℤ) → Pays (step.Add x change) (cpu_of i s).todo → Steps i s (add trace i x change s)
  add_goes x change paid =
      let c = cpu_of i s in
      let n = own_of x c +ℤ change in
      let own = own_kept x n c in
      let behind : IsPaid (with_own x n c).todo = subst IsPaid (sym own.0) (paid_behind (step.Add x change) c.todo paid) in
      either (λ (d : Cpu). Steps i s (plain_step i kind.Add (with_cpu i d s))) (eqb (unsigned_abs n) (batch_of trace x)) _ _
      (λ full. step_goes kind.Add (do_next (todo.Step (step.Fold x) ∷ todo.Step (step.Clear x) ∷ []) (with_own x n c)) own.1
      (omega arith, (omega arith, (omega (arith, behind.0), behind.1))))
      (λ room. step_goes kind.Add (with_own x n c) own.1 behind)

  pub fold_goes : (x : Counter) → Pays (step.Fold x) (cpu_of i s).todo → Steps i s (fold i x s)
  fold_goes (Domain d) paid =
      quiet_goes (fold i (Domain d) s) (fold_of (Domain d) (count_of (Domain d) s) (cpu_of i s))
      (record { same = refl; steps = one_more s.steps _; cpus = refl; paces = refl; todo = paid_behind (step.Fold (Domain d)) _ paid }) refl refl
  fold_goes (Context k) paid =
      quiet_goes (fold i (Context k) s) (fold_of (Context k) (count_of (Context k) s) (cpu_of i s))
      (record { same = refl; steps = one_more s.steps _; cpus = refl; paces = refl; todo = paid_behind (step.Fold (Context k)) _ paid }) refl refl

  pub clear_goes : (x : Counter) → Pays (step.Clear x) (cpu_of i s).todo → Steps i s (clear i x s)
  clear_goes x paid =
      let own = own_kept x (pos 0) (cpu_of i s) in
      step_goes kind.Clear (with_own x (pos 0) (cpu_of i s)) own.1 (subst IsPaid (sym own.0) (paid_behind (step.Clear x) _ paid))

  -- a step that leaves the CPU as it was, too
  same_goes : (r : State) → outside r ≡ outside s → length r.steps ≡ length s.steps + 1 → r.cpus ≡ s.cpus → r.tasks ≡ s.tasks → r.flushers ≡ s.flushers → IsPaid (cpu_of i s).todo
      → Steps i s r
  same_goes r same steps cpus tasks flushers paid =
      quiet_goes r (cpu_of i s) (record { same = same; steps = steps; cpus = cpus ∙ sym (set-get_or s.cpus i no_cpu); paces = refl; todo = paid }) tasks flushers

  pub mark_goes : (inode : ℕ) → Pays (step.Mark inode) (cpu_of i s).todo → Steps i s (mark trace i inode s)
  mark_goes inode paid =
      either (λ t. Steps i s (plain_step i kind.Mark t)) (get_or s.marks inode true) _ _
      (λ is. same_goes _ refl (one_more s.steps _) refl refl refl (paid_behind (step.Mark inode) _ paid))
      (λ is. same_goes _ refl (one_more s.steps _) refl refl refl (paid_behind (step.Mark inode) _ paid))

  pub first_goes : (d : ℕ) → Pays (step.First d) (cpu_of i s).todo → Steps i s (load_first i d s)
  first_goes d paid = step_goes kind.First (record (cpu_of i s) { turn = record (cpu_of i s).turn { found = word_of (domain_of d s) } }) refl (paid_behind (step.First d) _ paid)

  pub middle_goes : (d : ℕ) → Pays (step.Middle d) (cpu_of i s).todo → Steps i s (load_middle i s)
  middle_goes d paid = same_goes (load_middle i s) refl (one_more s.steps _) refl refl refl (paid_behind (step.Middle d) _ paid)

  pub limits_goes : (d : ℕ) → Pays (step.Limits d) (cpu_of i s).todo → Steps i s (load_limits i d s)
  limits_goes d paid = step_goes kind.Limits (holds d (domain_of d s) (cpu_of i s)) refl (paid_behind (step.Limits d) _ paid)

  pub count_goes : (x : Counter) → Pays (step.Count x) (cpu_of i s).todo → Steps i s (load_count i x s)
  count_goes x paid = step_goes kind.Count (record (cpu_of i s) { turn = count_kept x (count_of x s) (cpu_of i s).turn }) refl (paid_behind (step.Count x) _ paid)

  -- ---- steps of a flusher

  module _ (f : ℕ) where
    -- the CPU and one flusher
    both_goes : (r : State) (c : Cpu) (g : Flusher) → Plain i 1 s r c → r.tasks ≡ s.tasks → r.flushers ≡ set s.flushers f g → is_finished (flusher_of f s).phase ≡ false → Steps i s r
    both_goes r c g plain tasks flushers works =
        flusher_goes i 1 16 s r c plain tasks f g flushers works (let most = paid_most (is_last s.tasks c.turn.whose) c.todo plain.todo in omega (arith, most))

    pub unmark_goes : (p : ReplayPhase) → (flusher_of f s).phase ≡ p → IsTaken p → Pays step.Unmark (cpu_of i s).todo → Steps i s (unmark_in trace i f p s)
    unmark_goes (phase.Taken n) is h paid =
        both_goes (unmark_in trace i f (phase.Taken n) s) (cpu_of i s) (record (flusher_of f s) { phase = scan_of trace f n s })
        (record { same = refl; steps = one_more s.steps _; cpus = sym (set-get_or s.cpus i no_cpu); paces = refl; todo = paid_behind step.Unmark _ paid }) refl refl (ap is_finished is)
    unmark_goes (phase.Idle until kept) is h paid = absurd h
    unmark_goes (phase.Scanning scan) is h paid = absurd h
    unmark_goes (phase.Flying n pages until) is h paid = absurd h
    unmark_goes phase.Finished is h paid = absurd h

    pub look_goes : (p : ReplayPhase) → (flusher_of f s).phase ≡ p → IsScanning p → Pays step.Look (cpu_of i s).todo → Steps i s (look_in i f p s)
    look_goes (phase.Scanning scan) is h paid =
        either (λ (t : State). Steps i s (plain_step i kind.Look t)) (is_claimable (s.book (page_of scan))) _ _
        (λ found. step_goes kind.Look (do_next (todo.Step (step.Claim (shared_word s.book (page_of scan))) ∷ []) (cpu_of i s)) refl (omega arith, (paid.0, paid.1)))
        (λ missed. both_goes _ (do_next (todo.Silent silent.Close ∷ []) (cpu_of i s))
        (record (flusher_of f s) { phase = phase.Scanning (record scan { passed = scan.passed + 1; noted = scan.noted || ((s.book (page_of scan)).dirty && (s.book (page_of scan)).writeback) }) })
        (record { same = refl; steps = one_more s.steps _; cpus = refl; paces = refl; todo = (omega (arith, paid.0), (tt, paid.1)) }) refl refl (ap is_finished is))
    look_goes (phase.Idle until kept) is h paid = absurd h
    look_goes (phase.Taken n) is h paid = absurd h
    look_goes (phase.Flying n pages until) is h paid = absurd h
    look_goes phase.Finished is h paid = absurd h

    pub claim_goes : (word : ℕ) (p : ReplayPhase) → (flusher_of f s).phase ≡ p → IsScanning p → Pays (step.Claim word) (cpu_of i s).todo → Steps i s (claim_in i f word p s)
    claim_goes word (phase.Scanning scan) is h paid =
        let e = entry.Claimed f (page_of scan) in
        either (λ (t : State). Steps i s (plain_step i kind.Claim t)) (eqb (shared_word s.book (page_of scan)) word) _ _
        (λ hit. both_goes (plain_step i kind.Claim (claim_now i f scan s)) (do_next (todo.Silent silent.Close ∷ []) (logged e (cpu_of i s)))
        (record (flusher_of f s) { phase = phase.Scanning (record scan { passed = scan.passed + 1 }); batch = (flusher_of f s).batch ++ page_of scan ∷ [] })
        (record {
          same = refl;
          steps = one_more s.steps _;
          cpus = twice (do_next (todo.Silent silent.Close ∷ [])) s.cpus i (logged e (cpu_of i s)) no_cpu there;
          paces = refl;
          todo = (omega (arith, paid.0), (tt, paid.1));
        }) refl refl (ap is_finished is))
        (λ missed. same_goes (plain_step i kind.Claim s) refl (one_more s.steps _) refl refl refl (omega (arith, paid.0), paid.1))
    claim_goes word (phase.Idle until kept) is h paid = absurd h
    claim_goes word (phase.Taken n) is h paid = absurd h
    claim_goes word (phase.Flying n pages until) is h paid = absurd h
    claim_goes word phase.Finished is h paid = absurd h

    -- what a completed page puts down
    owed_paid : (change : ℤ) (context group : ℕ) (ts : List Todo) → (3 + ahead_cost false ts ≤ 8) → StepsPay ts → IsPaid (owed_to change context group (todo.Silent silent.Land) ++ ts)
    owed_paid change context group ts few pay =
        either (λ (l : List Todo). IsPaid (l ++ ts)) (eqb group 0) _ _
        (λ none. (omega arith, (omega arith, (omega (arith, few), (tt, pay)))))
        (λ some. (omega arith, (omega arith, (omega arith, (omega (arith, few), (tt, pay))))))

    -- A flight has a page to complete.
    batch_goes : (n pages until : ℕ) (batch : List ℕ) → 1 ≤ length batch → (flusher_of f s).phase ≡ phase.Flying n pages until → Pays step.Complete (cpu_of i s).todo
        → Steps i s (complete_first trace i f (context_of trace n) batch s)
    batch_goes n pages until [] some is paid = absurd (omega (arith, some))
    batch_goes n pages until (page ∷ batch) some is paid =
        let k = context_of trace n in
        let e = entry.Done f page in
        let items = owed_to (negsuc 0) k (group_of trace k) (todo.Silent silent.Land) in
        both_goes (complete_first trace i f k (page ∷ batch) s) (do_next items (logged e (cpu_of i s))) (record (flusher_of f s) { batch = batch })
        (record {
          same = refl;
          steps = one_more s.steps _;
          cpus = twice (do_next items) s.cpus i (logged e (cpu_of i s)) no_cpu there;
          paces = refl;
          todo = owed_paid (negsuc 0) k (group_of trace k) (cpu_of i s).todo paid.0 paid.1;
        }) refl refl (ap is_finished is)

    pub complete_goes : (p : ReplayPhase) → (flusher_of f s).phase ≡ p → IsFlying p → IsOpenAt trace (flusher_of f s).batch p → Pays step.Complete (cpu_of i s).todo
        → Steps i s (complete_in trace i f p s)
    complete_goes (phase.Flying n pages until) is h some paid = batch_goes n pages until (flusher_of f s).batch some is paid
    complete_goes (phase.Idle until kept) is h some paid = absurd h
    complete_goes (phase.Taken n) is h some paid = absurd h
    complete_goes (phase.Scanning scan) is h some paid = absurd h
    complete_goes phase.Finished is h some paid = absurd h
