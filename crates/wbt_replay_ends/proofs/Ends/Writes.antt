-- Each move of a task's turn costs less than it leaves to be done.
use Rattle.std.proofs.Common.{◌≡◌, ◌≢◌, ℕ, suc, ◌+◌, ◌*◌, ◌<◌, ◌≤◌, Bool, true, false, cond, eqb, pos, List, [], ◌∷◌, ◌++◌, length, get_or, fold, refl, sym, ◌∙◌, ap, arith}
use Rattle.std.proofs.Math.ListN.{set}
use Rattle.std.specs.List.{sum_by}
use Rattle.std.proofs.lemmas.List.Sums.{sum_by-set}
use Rattle.std.proofs.lemmas.List.{get_or-set_other, set-get_or}
use Rattle.wbt_grant.specs.declared.who.StepKind.TheVariants as kind
use Rattle.wbt_journal.specs.declared.entry.Entry.TheVariants as entry
use Rattle.wbt_replay_order.proofs.Common.{Decision, Trace, writer_of, check_of, decide_so, told_task, do_next, logged, log_at, checked, owed_to, State, no_cpu, no_task, cpu_of, task_of, with_task, plain_step, context_of, group_of, without_page, passed_page, counted_page, counted_local, dirty_fresh, dirty_page, dirty_next, leaked, end_now, end_by, has_nothing, Cpu, Flusher, ReplayTask, Whose, ReplayWork, Todo, ahead_cost, StepsPay, IsPaid, is_last, cpu_cost, wait, pause_cost, task_cost, flusher_cost, WritesNext}
use Rattle.wbt_replay_moves.specs.declared.state.Whose.TheVariants as whose
use Rattle.wbt_replay_moves.specs.declared.state.ReplayWork.TheVariants as work
use Rattle.wbt_replay_moves.specs.declared.todo.Silent.TheVariants as silent
use Rattle.wbt_replay_moves.specs.declared.todo.Step.TheVariants as step
use Rattle.wbt_replay_moves.specs.declared.todo.Todo.TheVariants as todo
use Rattle.wbt_replay_order.proofs.Facts.Lists.{either, twice}
use Rattle.wbt_replay_ends.proofs.Ends.Goes.{Outside, outside, pace, Goes, cpu_goes, one_more, paid_most, wait_most}
use Rattle.wbt_replay_ends.proofs.Ends.Steps.{Pays, Steps}
use Rattle.wbt_replay_ends.proofs.Ends.Turns.{ahead_most}

-- ---- the CPUs that aren't at the task

abbrev pub IsOther : (t : ℕ) (whose : Whose) → Type 0
IsOther t (whose.Task k) = k ≢ t
IsOther t (whose.Flusher f) = Unit {0}

-- No other CPU is in a turn of the task.
abbrev pub IsAlone : (i t : ℕ) (s : State) → Type 0
IsAlone i t s = (j : ℕ) → j ≢ i → 1 ≤ length (cpu_of j s).todo → IsOther t (cpu_of j s).turn.whose

other_last : (tasks : List ReplayTask) (t : ℕ) (u : ReplayTask) (w : Whose) → IsOther t w → is_last tasks w ≡ is_last (set tasks t u) w
other_last tasks t u (whose.Task k) h =
    ap (λ (x : ReplayTask). has_nothing x.works (writer_of x).due) (sym (get_or-set_other tasks t k u no_task h))
other_last tasks t u (whose.Flusher f) h = refl

other_ahead : (tasks : List ReplayTask) (t : ℕ) (u : ReplayTask) (w : Whose) (ts : List Todo) → (1 ≤ length ts → IsOther t w)
    → ahead_cost (is_last tasks w) ts ≡ ahead_cost (is_last (set tasks t u) w) ts
other_ahead tasks t u w [] h = refl
other_ahead tasks t u w (first ∷ ts) h = ap (λ b. ahead_cost b (first ∷ ts)) (other_last tasks t u w (h (omega arith)))

-- ---- a move that changes one task

module _ (i made most : ℕ) (s r : State) (c : Cpu)
    (same : outside r ≡ outside s) (steps : length r.steps ≡ length s.steps + made) (cpus : r.cpus ≡ set s.cpus i c)
    (paces : pace c ≡ pace (cpu_of i s)) (paid : IsPaid c.todo)
    (flushers : r.flushers ≡ s.flushers)
    (t : ℕ) (u : ReplayTask) (tasks : r.tasks ≡ set s.tasks t u) (one : t < length s.tasks) (alone : IsAlone i t s)
    (less : ahead_cost (is_last r.tasks c.turn.whose) c.todo + task_cost s.now u + 1 ≤ most + task_cost s.now (task_of t s)) where
  pub task_goes : Goes i made most s r
  task_goes = record {
    same = same;
    steps = steps;
    cpu = c;
    cpus = cpus;
    paces = paces;
    todo = paid;
    apart = λ j n.
        let d = cpu_of j s in
        let so = other_ahead s.tasks t u d.turn.whose d.todo (alone j n) in
        ap (λ n. n + cond d.stopped 0 1) so ∙ ap (λ (l : List ReplayTask). cpu_cost l d) (sym tasks);
    sums =
        let now = ap (λ (o : Outside). sum_by (task_cost o.now) r.tasks + sum_by (flusher_cost o.now) r.flushers) same in
        let all = ap (λ (l : List ReplayTask). sum_by (task_cost s.now) l) tasks in
        let fl = ap (λ (l : List Flusher). sum_by (flusher_cost s.now) l) flushers in
        let changed = sum_by-set (task_cost s.now) s.tasks t u no_task one in
        omega (arith, now, all, fl, changed, less);
  }

-- ---- a write

fewer_works : (inode page pages : ℕ) (works : List ReplayWork) → length (without_page inode page pages works) ≤ suc (length works)
fewer_works inode page pages works = either (λ (l : List ReplayWork). length l ≤ suc (length works)) (eqb pages 1) _ _ (λ is. omega arith) (λ is. omega arith)

pause_most : (u : ReplayTask) → pause_cost u ≤ 4
pause_most u = either (λ n. n ≤ 4) (eqb u.since 0) 0 4 (λ none. omega arith) (λ some. omega arith)

-- what a fresh write puts down
owed_paid : (context group inode : ℕ) (ts : List Todo) → (ahead_cost false ts ≤ 8) → StepsPay ts → IsPaid (owed_to (pos 1) context group (todo.Step (step.Mark inode)) ++ ts)
owed_paid context group inode ts few pay =
    either (λ (l : List Todo). IsPaid (l ++ ts)) (eqb group 0) _ _
    (λ none. (omega arith, (omega arith, (omega arith, (omega (arith, few), pay)))))
    (λ some. (omega arith, (omega arith, (omega arith, (omega arith, (omega (arith, few), pay))))))

module _ (trace : Trace) (i : ℕ) (s : State) (there : i < length s.cpus) (t : ℕ) (one : t < length s.tasks) (alone : IsAlone i t s) where
  -- fewer works, and the same rest; a page more pays for a rest
  lighter : (u : ReplayTask) (inode page pages : ℕ) (works : List ReplayWork) → (task_of t s).works ≡ work.Write inode page pages ∷ works → u.ended ≡ (task_of t s).ended → u.rest ≡ (task_of t s).rest
      → u.works ≡ without_page inode page pages works → task_cost s.now u ≤ task_cost s.now (task_of t s) + 4
  lighter u inode page pages works is ended rest so =
      let tail = ap {A = Bool} {B = ℕ} (λ b. cond b 0 (8 + wait s.now u.rest)) ended in
      let wait = ap {A = ℕ} {B = ℕ} (λ n. cond (task_of t s).ended 0 (8 + wait s.now n)) rest in
      let few = fewer_works inode page pages works in
      let was = ap (λ (l : List ReplayWork). length l) is in
      let now = ap (λ (l : List ReplayWork). length l) so in
      omega (arith, tail, wait, few, was, now, pause_most u)

  again_goes : (inode page pages : ℕ) (works : List ReplayWork) → (task_of t s).works ≡ work.Write inode page pages ∷ works → Pays step.Dirty (cpu_of i s).todo
      → Steps i s (plain_step i kind.Dirty (log_at i (entry.Write t page false) (with_task t (passed_page inode page pages works (task_of t s)) s)))
  again_goes inode page pages works is paid =
      let u = passed_page inode page pages works (task_of t s) in
      let c = logged (entry.Write t page false) (cpu_of i s) in
      let behind : IsPaid c.todo = (omega (arith, paid.0), paid.1) in
      let r = plain_step i kind.Dirty (log_at i (entry.Write t page false) (with_task t u s)) in
      task_goes i 1 16 s r c refl (one_more s.steps _) refl refl behind refl t u refl one alone
      (let most = paid_most (is_last r.tasks c.turn.whose) c.todo behind in omega (arith, most, lighter u inode page pages works is refl refl refl))

  fresh_goes : (inode page pages : ℕ) (works : List ReplayWork) → (task_of t s).works ≡ work.Write inode page pages ∷ works → Pays step.Dirty (cpu_of i s).todo
      → Steps i s (dirty_fresh trace i t inode page (with_task t (passed_page inode page pages works (task_of t s)) s))
  fresh_goes inode page pages works is paid =
      let u = passed_page inode page pages works (task_of t s) in
      let k = context_of trace inode in
      let items = owed_to (pos 1) k (group_of trace k) (todo.Step (step.Mark inode)) in
      let w = with_task t u s in
      let counted : Cpu = record (cpu_of i s) { local = counted_local s.ratelimit_pages k (cpu_of i s).local (task_of t w) } in
      let e = logged (entry.Write t page true) counted in
      let c = do_next items e in
      let r = dirty_fresh trace i t inode page w in
      let behind : IsPaid c.todo = owed_paid k (group_of trace k) inode (cpu_of i s).todo (omega (arith, paid.0)) paid.1 in
      let v = counted_page s.ratelimit_pages k (cpu_of i s).local u in
      let cpus = ap (λ (l : List Cpu). set l i (do_next items (get_or l i no_cpu))) (twice (logged (entry.Write t page true)) s.cpus i counted no_cpu there) ∙ twice (do_next items) s.cpus i e no_cpu there in
      let tasks : r.tasks ≡ set s.tasks t v = twice (counted_page s.ratelimit_pages k (cpu_of i s).local) s.tasks t u no_task one in
      task_goes i 1 16 s r c refl (one_more s.steps _) cpus refl behind refl t v tasks one alone
      (let most = paid_most (is_last r.tasks c.turn.whose) c.todo behind in omega (arith, most, lighter v inode page pages works is refl refl refl))

  page_goes : (inode page pages : ℕ) (works : List ReplayWork) → (task_of t s).works ≡ work.Write inode page pages ∷ works → Pays step.Dirty (cpu_of i s).todo
      → Steps i s (dirty_page trace i t inode page (with_task t (passed_page inode page pages works (task_of t s)) s))
  page_goes inode page pages works is paid =
      either (Steps i s) (s.book page).dirty _ _
      (λ already. again_goes inode page pages works is paid)
      (λ fresh. fresh_goes inode page pages works is paid)

  pub dirty_goes : (works : List ReplayWork) → (task_of t s).works ≡ works → WritesNext works → Pays step.Dirty (cpu_of i s).todo → Steps i s (dirty_next trace i t works s)
  dirty_goes [] is h paid = absurd h
  dirty_goes (work.Rest ticks ∷ works) is h paid = absurd h
  dirty_goes (work.Write inode page pages ∷ works) is h paid = page_goes inode page pages works is paid

  -- ---- a decision

  rested : (decision : Decision) (context : ℕ) → task_cost s.now (told_task s.now context decision (task_of t s)) ≤ task_cost s.now (task_of t s) + 1
  rested decision context =
      let u = told_task s.now context decision (task_of t s) in
      let w = wait_most s.now u.rest in
      either (λ n. 4 * length (task_of t s).works + pause_cost (task_of t s) + n ≤ task_cost s.now (task_of t s) + 1) (task_of t s).ended 0 (8 + wait s.now u.rest)
      (λ is. omega arith)
      (λ no. let was = ap {A = Bool} {B = ℕ} (λ b. cond b 0 (8 + wait s.now (task_of t s).rest)) no in omega (arith, w, was))

  pub decide_goes : (context : ℕ) (decision : Decision) → IsPaid (todo.Silent silent.Decide ∷ (cpu_of i s).todo)
      → Goes i 0 (ahead_cost (is_last s.tasks (cpu_of i s).turn.whose) (todo.Silent silent.Decide ∷ (cpu_of i s).todo)) s (decide_so trace i t context decision s)
  decide_goes context decision paid =
      let c = checked (check_of trace t context (cpu_of i s).turn decision s) (cpu_of i s) in
      let u = told_task s.now context decision (task_of t s) in
      let r = decide_so trace i t context decision s in
      let behind : IsPaid c.todo = (omega (arith, paid.0), paid.1.1) in
      task_goes i 0 (ahead_cost (is_last s.tasks (cpu_of i s).turn.whose) (todo.Silent silent.Decide ∷ (cpu_of i s).todo)) s r c refl (omega arith) refl refl behind refl t u refl one alone
      (let most = ahead_most (is_last r.tasks c.turn.whose) c.todo in omega (arith, most, paid.1.0, rested decision context))

  -- ---- the end of a task

  pub end_goes : (cpu_of i s).turn.whose ≡ whose.Task t → (task_of t s).ended ≡ false → IsPaid (todo.Silent silent.End ∷ (cpu_of i s).todo)
      → Goes i 0 (ahead_cost (is_last s.tasks (cpu_of i s).turn.whose) (todo.Silent silent.End ∷ (cpu_of i s).todo)) s (end_by i (whose.Task t) s)
  end_goes at going paid =
      let c = cpu_of i s in
      let is : is_last s.tasks c.turn.whose ≡ has_nothing (task_of t s).works (writer_of (task_of t s)).due = ap (is_last s.tasks) at in
      let behind : IsPaid c.todo = (omega (arith, paid.0), paid.1.1) in
      either (Goes i 0 (ahead_cost (is_last s.tasks c.turn.whose) (todo.Silent silent.End ∷ c.todo)) s)
      (has_nothing (task_of t s).works (writer_of (task_of t s)).due) _ _
      (λ nothing.
      let d = record c { local = fold leaked c.local (task_of t s).writers } in
      let u = record (task_of t s) { ended = true } in
      let r = end_now i t s in
      task_goes i 0 (ahead_cost (is_last s.tasks c.turn.whose) (todo.Silent silent.End ∷ c.todo)) s r d refl (omega arith) refl refl behind refl t u refl one alone
      (let most = ahead_most (is_last r.tasks d.turn.whose) d.todo in
      let was = ap {A = Bool} {B = ℕ} (λ b. cond b 0 (8 + wait s.now (task_of t s).rest)) going in
      omega (arith, most, paid.0, was)))
      (λ some.
      cpu_goes i 0 (ahead_cost (is_last s.tasks c.turn.whose) (todo.Silent silent.End ∷ c.todo)) s s c
      (record { same = refl; steps = omega arith; cpus = sym (set-get_or s.cpus i no_cpu); paces = refl; todo = behind }) refl refl
      (let cost = ap (λ b. ahead_cost b (todo.Silent silent.End ∷ c.todo)) (is ∙ some) in
      let own = ap (λ b. ahead_cost b c.todo) (is ∙ some) in omega (arith, cost, own)))
