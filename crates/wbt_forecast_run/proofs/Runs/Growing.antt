-- Each move only lets steps, entries and checks grow at their ends, and one that moves the clock tells nothing.
use Rattle.std.proofs.Common.{◌≡◌, ℕ, zero, suc, ◌+◌, ◌-◌, ◌/◌, ◌==◌, ◌&&◌, true, ℤ, pos, negsuc, ◌+ℤ◌, unsigned_abs, List, [], ◌∷◌, ◌++◌, length, map, drop, set, get_or, refl, sym, ◌∙◌, ap, subst, append_assoc, append-nil, arith}
use Rattle.std.proofs.lemmas.List.{drop_at}
use Rattle.wbt_book.specs.declared.event.Event.TheVariants as event
use Rattle.wbt_replay_order.proofs.Common.{Counter, Context, Trace, batch_of, Entry, StepEntry, context_of, group_of, do_next, own_of, with_own, checked, log_at, owe_at, extended, State, no_cpu, cpu_of, with_cpu, flusher_of, with_flusher, with_event, count_page, Cpu, Todo, advance, is_ended, is_full, fits_further, cpu_after, passes, apply, Change, CpuChange}
use Rattle.wbt_counter.specs.declared.counter.Counter.TheVariants.{Domain}
use Rattle.wbt_journal.specs.declared.entry.Entry.TheVariants as entry
use Rattle.wbt_replay_moves.specs.declared.todo.Silent.TheVariants as silent
use Rattle.wbt_replay_moves.specs.declared.todo.Step.TheVariants as step
use Rattle.wbt_replay_moves.specs.declared.todo.Todo.TheVariants as todo
use Rattle.wbt_replay_order.proofs.Facts.Lists.{either}
use Rattle.wbt_replay_changes.specs.Change as change
use Rattle.wbt_replay_changes.specs.Change.Cpu as cpu_change
use Rattle.wbt_forecast_rows.specs.Between.{HasGrown, HaveGrown, entries_of, checks_of, IsAfter}
use Rattle.wbt_forecast_rows.specs.Laws.{IsStill, IsToldInOrder}
use Rattle.wbt_forecast_rows.specs.Rows.{interval_of}
use Rattle.wbt_forecast_run.specs.Claims.{RunsTellInOrder}
use Rattle.wbt_forecast_run.specs.Run.{let_on, moved, state_after}
use Rattle.wbt_forecast_run.proofs.Runs.Changing.{move_keeps}
use Rattle.wbt_forecast_run.proofs.Runs.Clock.{clock_alone}
use Rattle.wbt_forecast_run.proofs.Runs.Ends.{next_state}
use Rattle.wbt_forecast_run.proofs.Runs.Walking.{with_course}

-- ---- lists that grow

pub grown : {A : Type 0} (xs more ys : List A) → ys ≡ xs ++ more → HasGrown xs ys
grown xs more ys is = ap (λ zs. xs ++ zs) (ap (drop (length xs)) is ∙ drop_at xs more (length xs) refl) ∙ sym is

pub grown_none : {A : Type 0} (xs ys : List A) → ys ≡ xs → HasGrown xs ys
grown_none xs ys is = grown xs [] ys (is ∙ sym (append-nil xs))

pub grown_on : {A : Type 0} (xs ys zs : List A) → HasGrown xs ys → HasGrown ys zs → HasGrown xs zs
grown_on xs ys zs one two =
    grown xs (drop (length xs) ys ++ drop (length ys) zs) zs
    (sym two ∙ (ap (λ l. l ++ drop (length ys) zs) (sym one) ∙ append_assoc xs (drop (length xs) ys) (drop (length ys) zs)))

all_none : {A : Type 0} (xs : List (List A)) → HaveGrown xs xs
all_none [] = tt
all_none (x ∷ xs) = (grown_none x x refl, all_none xs)

all_on : {A : Type 0} (xs ys zs : List (List A)) → HaveGrown xs ys → HaveGrown ys zs → HaveGrown xs zs
all_on [] [] [] one two = tt
all_on [] [] (z ∷ zs) one two = absurd two
all_on [] (y ∷ ys) zs one two = absurd one
all_on (x ∷ xs) [] zs one two = absurd one
all_on (x ∷ xs) (y ∷ ys) [] one two = absurd two
all_on (x ∷ xs) (y ∷ ys) (z ∷ zs) one two = (grown_on x y z one.0 two.0, all_on xs ys zs one.1 two.1)

all_set : {A : Type 0} (f : Cpu → List A) (cs : List Cpu) (i : ℕ) (c : Cpu) → HasGrown (f (get_or cs i no_cpu)) (f c)
    → HaveGrown (map f cs) (map f (set cs i c))
all_set f [] i c here = tt
all_set f (d ∷ cs) zero c here = (here, all_none (map f cs))
all_set f (d ∷ cs) (suc i) c here = (grown_none (f d) (f d) refl, all_set f cs i c here)

-- ---- states

-- neither a step nor what a CPU has told is another
pub same_after : (s u : State) → u.steps ≡ s.steps → u.cpus ≡ s.cpus → IsAfter s u
same_after s u steps cpus = record {
  steps = grown_none s.steps u.steps steps;
  entries = subst (λ (cs : List Cpu). HaveGrown (entries_of s.cpus) (entries_of cs)) (sym cpus) (all_none (entries_of s.cpus));
  checks = subst (λ (cs : List Cpu). HaveGrown (checks_of s.cpus) (checks_of cs)) (sym cpus) (all_none (checks_of s.cpus));
}

-- a step more
pub step_after : (s u : State) (e : StepEntry) → u.steps ≡ s.steps ++ e ∷ [] → u.cpus ≡ s.cpus → IsAfter s u
step_after s u e steps cpus = record {
  steps = grown s.steps (e ∷ []) u.steps steps;
  entries = subst (λ (cs : List Cpu). HaveGrown (entries_of s.cpus) (entries_of cs)) (sym cpus) (all_none (entries_of s.cpus));
  checks = subst (λ (cs : List Cpu). HaveGrown (checks_of s.cpus) (checks_of cs)) (sym cpus) (all_none (checks_of s.cpus));
}

-- a CPU is another, which may have told more
pub cpu_after_it : (s u : State) (i : ℕ) (c : Cpu) → u.steps ≡ s.steps → u.cpus ≡ set s.cpus i c
    → HasGrown (cpu_of i s).entries c.entries → HasGrown (cpu_of i s).checks c.checks → IsAfter s u
cpu_after_it s u i c steps cpus entries checks = record {
  steps = grown_none s.steps u.steps steps;
  entries = subst (λ (cs : List Cpu). HaveGrown (entries_of s.cpus) (entries_of cs)) (sym cpus) (all_set (λ x. x.entries) s.cpus i c entries);
  checks = subst (λ (cs : List Cpu). HaveGrown (checks_of s.cpus) (checks_of cs)) (sym cpus) (all_set (λ x. x.checks) s.cpus i c checks);
}

log_after : (s u : State) (i : ℕ) (e : Entry) (c : Cpu) → u.steps ≡ s.steps → u.cpus ≡ set s.cpus i c
    → c.entries ≡ (cpu_of i s).entries ++ e ∷ [] → c.checks ≡ (cpu_of i s).checks → IsAfter s u
log_after s u i e c steps cpus entries checks =
    cpu_after_it s u i c steps cpus (grown (cpu_of i s).entries (e ∷ []) c.entries entries) (grown_none (cpu_of i s).checks c.checks checks)

pub quiet_after : (s u : State) (i : ℕ) (c : Cpu) → u.steps ≡ s.steps → u.cpus ≡ set s.cpus i c
    → c.entries ≡ (cpu_of i s).entries → c.checks ≡ (cpu_of i s).checks → IsAfter s u
quiet_after s u i c steps cpus entries checks =
    cpu_after_it s u i c steps cpus (grown_none (cpu_of i s).entries c.entries entries) (grown_none (cpu_of i s).checks c.checks checks)

pub after_on : (s u v : State) → IsAfter s u → IsAfter u v → IsAfter s v
after_on s u v one two = record {
  steps = grown_on s.steps u.steps v.steps one.steps two.steps;
  entries = all_on (entries_of s.cpus) (entries_of u.cpus) (entries_of v.cpus) one.entries two.entries;
  checks = all_on (checks_of s.cpus) (checks_of u.cpus) (checks_of v.cpus) one.checks two.checks;
}

-- ---- a change

-- what a CPU has told isn't another
abbrev Tells : (c d : Cpu) → Type 0
Tells c d = (d.entries ≡ c.entries) × (d.checks ≡ c.checks)

own_told : (x : Counter) (n : ℤ) (c : Cpu) → Tells c (with_own x n c)
own_told (Domain d) n c = (refl, refl)
own_told (Context k) n c = (refl, refl)

module _ (trace : Trace) (s : State) where
  pub cpu_told : (i : ℕ) (one : CpuChange) → Tells (cpu_of i s) (cpu_after trace one s (cpu_of i s))
  cpu_told i (cpu_change.began w) = (refl, refl)
  cpu_told i (cpu_change.planned items) = (refl, refl)
  cpu_told i (cpu_change.appended items) = (refl, refl)
  cpu_told i (cpu_change.added x n) =
      let c : Cpu = cpu_of i s in
      let sum : ℤ = own_of x c +ℤ n in
      let d : Cpu = with_own x sum c in
      either (Tells c) (unsigned_abs sum == batch_of trace x) (do_next (todo.Step (step.Fold x) ∷ todo.Step (step.Clear x) ∷ []) d) d
      (λ full. own_told x sum c) (λ more. own_told x sum c)
  cpu_told i (cpu_change.cleared x) = own_told x (pos 0) (cpu_of i s)
  cpu_told i (cpu_change.found domain) = (refl, refl)
  cpu_told i (cpu_change.held domain) = (refl, refl)
  cpu_told i (cpu_change.read x) = (refl, refl)
  cpu_told i (cpu_change.weighed over) = (refl, refl)

  -- what an event owes to its counters, which a CPU does next
  owes_told : (i : ℕ) (items : List Todo) (u : State) → IsAfter u (with_cpu i (do_next items (cpu_of i u)) u)
  owes_told i items u = quiet_after u _ i (do_next items (cpu_of i u)) refl refl refl refl

  change_told : (one : Change) → IsAfter s (apply trace one s)
  change_told (change.stepped who kind) = step_after s _ _ refl refl
  change_told (change.of_cpu i one) =
      let told = cpu_told i one in
      quiet_after s _ i (cpu_after trace one s (cpu_of i s)) refl refl told.0 told.1
  change_told (change.of_task task one) = same_after s _ refl refl
  change_told (change.of_flusher flusher one) = same_after s _ refl refl
  change_told (change.of_timer one) = same_after s _ refl refl
  change_told (change.rewrote i task page works) = log_after s _ i _ _ refl refl refl refl
  change_told (change.dirtied i task inode page works) =
      let context = context_of trace inode in
      let counted = count_page i task context (with_event (event.Dirty page) page (passes task works s)) in
      let logs = log_at i (entry.Write task page true) counted in
      let owes = owe_at i (pos 1) context (group_of trace context) (todo.Step (step.Mark inode)) logs in
      after_on s counted _ (quiet_after s counted i _ refl refl refl refl)
      (after_on counted logs _ (log_after counted logs i (entry.Write task page true) _ refl refl refl refl)
      (after_on logs owes _ (quiet_after logs owes i _ refl refl refl refl) (step_after owes _ _ refl refl)))
  change_told (change.marked inode) = same_after s _ refl refl
  change_told (change.checked i check) =
      let c : Cpu = checked check (cpu_of i s) in
      cpu_after_it s _ i c refl refl (grown (cpu_of i s).entries (entry.Check (length (cpu_of i s).checks) ∷ []) c.entries refl)
      (grown (cpu_of i s).checks (check ∷ []) c.checks refl)
  change_told (change.ended i task) = quiet_after s _ i _ refl refl refl refl
  change_told (change.folded i (Domain d)) = log_after s _ i _ _ refl refl refl refl
  change_told (change.folded i (Context k)) = log_after s _ i _ _ refl refl refl refl
  change_told (change.estimated i context estimate) = log_after s _ i _ _ refl refl refl refl
  change_told (change.took flusher inode left) = same_after s _ refl refl
  change_told (change.took_due i flusher now pair left) = log_after s _ i _ _ refl refl refl refl
  change_told (change.took_first i flusher pair left) = log_after s _ i _ _ refl refl refl refl
  change_told (change.noticed i flusher inode since left) = log_after s _ i _ _ refl refl refl refl
  change_told (change.dropped flusher left) = same_after s _ refl refl
  change_told (change.finished flusher) = same_after s _ refl refl
  change_told (change.unmarked flusher scan) = same_after s _ refl refl
  change_told (change.claimed i flusher scan) = log_after s _ i _ _ refl refl refl refl
  change_told (change.flew i flusher inode pages until) = log_after s _ i _ _ refl refl refl refl
  change_told (change.completed i flusher context page left) =
      let taken = with_event (event.Complete page) page (with_flusher flusher (record (flusher_of flusher s) { batch = left }) s) in
      let logs = log_at i (entry.Done flusher page) taken in
      let owes = owe_at i (negsuc 0) context (group_of trace context) (todo.Silent silent.Land) logs in
      after_on s logs _ (log_after s logs i (entry.Done flusher page) _ refl refl refl refl)
      (after_on logs owes _ (quiet_after logs owes i _ refl refl refl refl) (step_after owes _ _ refl refl))
  change_told (change.landed flusher context pages) = same_after s _ refl refl
  change_told (change.shared i domain context pages) = log_after s _ i _ _ refl refl refl refl
  change_told (change.raised domain hard) = step_after s _ _ refl refl
  change_told (change.unsealed domain) = same_after s _ refl refl
  change_told (change.published domain) = same_after s _ refl refl
  change_told (change.renewed domain periods events) = same_after s _ refl refl

-- ---- a move

pub advance_after : (trace : Trace) (s : State) → IsAfter s (advance trace s)
advance_after trace s =
    move_keeps trace IsAfter after_on (λ c u. same_after u (with_course c u) refl refl) (λ i c u. quiet_after u (with_cpu i c u) i c refl refl)
    (λ todos u. same_after u _ refl refl) (λ one u. change_told trace u one) s

pub let_after : (s : State) → IsAfter s (let_on s)
let_after s = either (IsAfter s) (is_full s && fits_further s) (extended s) s (λ is. same_after s (extended s) refl refl) (λ no. same_after s s refl refl)

pub moved_after : (trace : Trace) (s : State) → IsAfter s (moved trace s)
moved_after trace s = either (IsAfter s) (is_ended s) s (advance trace (let_on s))
    (λ over. same_after s s refl refl)
    (λ going. after_on s (let_on s) (advance trace (let_on s)) (let_after s) (advance_after trace (let_on s)))

-- ---- the run

module _ (trace : Trace) where
  after_so_many : (m k n : ℕ) → n ≡ m + k → IsAfter (state_after trace m) (state_after trace n)
  after_so_many m zero n is =
      let same : n ≡ m = omega (arith, is) in
      subst (λ (i : ℕ). IsAfter (state_after trace m) (state_after trace i)) (sym same) (same_after (state_after trace m) (state_after trace m) refl refl)
  after_so_many m (suc k) n is =
      let s = state_after trace (m + k) in
      subst (IsAfter (state_after trace m)) (sym (next_state trace (m + k) n (omega (arith, is))))
      (after_on (state_after trace m) s (moved trace s) (after_so_many m k (m + k) refl) (moved_after trace s))

  leaves_still : (every : ℕ) (s : State) → (interval_of every (moved trace s) ≡ interval_of every s → ⊥) → IsStill s (moved trace s)
  leaves_still every s leaves =
      let alone = clock_alone trace s (λ same. leaves (ap (λ (n : ℕ). n / every) same)) in
      record { entries = ap (λ (u : State). entries_of u.cpus) (sym alone); checks = ap (λ (u : State). checks_of u.cpus) (sym alone) }

  told_in_order : (every moves : ℕ) → IsToldInOrder every (state_after trace) moves
  told_in_order every moves = record {
    grows = λ n less. subst (IsAfter (state_after trace n)) (sym (next_state trace n (n + 1) refl)) (moved_after trace (state_after trace n));
    still = λ n less leaves.
        let next = next_state trace n (n + 1) refl in
        subst (IsStill (state_after trace n)) (sym next)
        (leaves_still every (state_after trace n) (λ same. leaves (ap (interval_of every) next ∙ same)));
  }

pub runs_tell_in_order : RunsTellInOrder
runs_tell_in_order = λ trace. record {
  on = moved_after trace;
  after = λ m n le. after_so_many trace m (n - m) n (omega (arith, le));
  told = told_in_order trace;
}
