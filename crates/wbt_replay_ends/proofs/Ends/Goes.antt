-- What a move of a CPU's turn leaves as it was, and what it costs.
use Rattle.std.proofs.Common.{◌≡◌, ◌≢◌, ℕ, ◌+◌, ◌<◌, ◌≤◌, Bool, false, cond, ltb, List, [], ◌∷◌, ◌++◌, length, sym, ◌∙◌, ap, arith}
use Rattle.std.proofs.Math.ListN.{set}
use Rattle.std.specs.List.{sum_by}
use Rattle.std.proofs.lemmas.List.Sums.{sum_by-set}
use Rattle.std.proofs.lemmas.List.{length-append}
use Rattle.wbt_replay_order.proofs.Common.{State, no_cpu, no_flusher, cpu_of, flusher_of, Cpu, Flusher, ReplayPhase, Stretch, ReplayTask, Timer, Todo, is_finished, wait, phase_cost, ahead_cost, IsPaid, is_last, cpu_cost, task_cost, flusher_cost, parts_cost}
use Rattle.wbt_replay_moves.specs.declared.state.ReplayPhase.TheVariants as phase
use Rattle.wbt_replay_order.specs.Kept.Ending.{cpus_cost}
use Rattle.wbt_replay_order.proofs.Facts.Lists.{either}
use Rattle.wbt_replay_ends.proofs.Ends.Sums.{is_there, sum_but}
use Rattle.wbt_replay_ends.proofs.Ends.Turns.{ahead_most}

-- what no move of a CPU's turn changes
pub record Outside : Type 0 where
  pub now : ℕ
  pub orders : List Stretch
  pub spent : Bool
  pub timer : Timer
  pub most : ℕ

abbrev pub outside : (s : State) → Outside
outside s = record { now = s.now; orders = s.orders; spent = s.spent; timer = s.timer; most = s.most }

-- what no move of a CPU's turn changes of the CPU
pub record Pace : Type 0 where
  pub made : ℕ
  pub stopped : Bool

abbrev pub pace : (c : Cpu) → Pace
pace c = record { made = c.made; stopped = c.stopped }

-- A move of the CPU, which was taken out of what it has to do, makes so many steps, and it and what it leaves to be done up to the
-- next step cost less than so much.
pub record Goes (i made most : ℕ) (s r : State) : Type 0 where
  pub same : outside r ≡ outside s
  pub steps : length r.steps ≡ length s.steps + made
  pub cpu : Cpu
  pub cpus : r.cpus ≡ set s.cpus i cpu
  pub paces : pace cpu ≡ pace (cpu_of i s)
  pub todo : IsPaid cpu.todo
  pub apart : (j : ℕ) → j ≢ i → cpu_cost s.tasks (cpu_of j s) ≡ cpu_cost r.tasks (cpu_of j s)
  pub sums : ahead_cost (is_last r.tasks cpu.turn.whose) cpu.todo + parts_cost r + 1 ≤ most + parts_cost s

module _ (i made most : ℕ) (s r : State) (there : i < length s.cpus) (goes : Goes i made most s r) where
  -- what all CPUs cost after it
  goes_cpus : cpus_cost r + cpu_cost s.tasks (cpu_of i s) ≡ cpus_cost s + cpu_cost r.tasks goes.cpu
  goes_cpus =
      let changed = sum_but (cpu_cost s.tasks) (cpu_cost r.tasks) no_cpu s.cpus i goes.cpu there goes.apart in
      let is = ap (sum_by (cpu_cost r.tasks)) goes.cpus in
      omega (arith, changed, is)

  -- where the CPU's turn cost this much up to its next step
  pub goes_costs : cpus_cost r + parts_cost r + 1 + ahead_cost (is_last s.tasks (cpu_of i s).turn.whose) (cpu_of i s).todo ≤ cpus_cost s + parts_cost s + most
  goes_costs =
      let stop = ap {A = Pace} {B = ℕ} (λ p. cond p.stopped 0 1) goes.paces in
      omega (arith, goes_cpus, goes.sums, stop)

-- ---- moves that leave the tasks as they were

pub one_more : {A : Type 0} (xs : List A) (x : A) → length (xs ++ x ∷ []) ≡ length xs + 1
one_more xs x = length-append xs (x ∷ [])

phase_some : (now : ℕ) (p : ReplayPhase) → is_finished p ≡ false → 1 ≤ phase_cost now p
phase_some now (phase.Idle until kept) is = omega arith
phase_some now (phase.Taken inode) is = omega arith
phase_some now (phase.Scanning scan) is = omega arith
phase_some now (phase.Flying inode pages until) is = omega arith
phase_some now phase.Finished is = absurd (cc is)

pub wait_most : (now until : ℕ) → wait now until ≤ 1
wait_most now until = either (λ n. n ≤ 1) (ltb now until) 1 0 (λ is. omega arith) (λ is. omega arith)

pub phase_most : (now : ℕ) (p : ReplayPhase) → phase_cost now p ≤ 2
phase_most now (phase.Idle until kept) = let w = wait_most now until in omega (arith, w)
phase_most now (phase.Taken inode) = omega arith
phase_most now (phase.Scanning scan) = omega arith
phase_most now (phase.Flying inode pages until) = let w = wait_most now until in omega (arith, w)
phase_most now phase.Finished = omega arith

-- a flusher that isn't finished is one of the flushers
pub flusher_there : (f : ℕ) (s : State) → is_finished (flusher_of f s).phase ≡ false → f < length s.flushers
flusher_there f s is = is_there s.flushers f no_flusher (λ none. cc (sym (ap (λ (g : Flusher). is_finished g.phase) none) ∙ is))

-- what a move leaves as it was, and what it makes of its CPU
pub record Plain (i made : ℕ) (s r : State) (c : Cpu) : Type 0 where
  pub same : outside r ≡ outside s
  pub steps : length r.steps ≡ length s.steps + made
  pub cpus : r.cpus ≡ set s.cpus i c
  pub paces : pace c ≡ pace (cpu_of i s)
  pub todo : IsPaid c.todo

module _ (i made most : ℕ) (s r : State) (c : Cpu) (h : Plain i made s r c) (tasks : r.tasks ≡ s.tasks) where
  pub goes_so : ahead_cost (is_last s.tasks c.turn.whose) c.todo + sum_by (flusher_cost s.now) r.flushers + 1 ≤ most + sum_by (flusher_cost s.now) s.flushers → Goes i made most s r
  goes_so sum = record {
    same = h.same;
    steps = h.steps;
    cpu = c;
    cpus = h.cpus;
    paces = h.paces;
    todo = h.todo;
    apart = λ j n. ap (λ (l : List ReplayTask). cpu_cost l (cpu_of j s)) (sym tasks);
    sums =
        let now = ap (λ (o : Outside). sum_by (task_cost o.now) r.tasks + sum_by (flusher_cost o.now) r.flushers) h.same in
        let all = ap (λ (l : List ReplayTask). sum_by (task_cost s.now) l) tasks in
        let own = ap (λ (l : List ReplayTask). ahead_cost (is_last l c.turn.whose) c.todo) tasks in
        omega (arith, now, all, own, sum);
  }

  -- the flushers too
  pub cpu_goes : r.flushers ≡ s.flushers → ahead_cost (is_last s.tasks c.turn.whose) c.todo + 1 ≤ most → Goes i made most s r
  cpu_goes flushers less = goes_so (let all = ap (λ (l : List Flusher). sum_by (flusher_cost s.now) l) flushers in omega (arith, all, less))

  -- but for one flusher, which isn't finished before
  pub flusher_goes : (f : ℕ) (g : Flusher) → r.flushers ≡ set s.flushers f g → is_finished (flusher_of f s).phase ≡ false
      → ahead_cost (is_last s.tasks c.turn.whose) c.todo + 2 ≤ most → Goes i made most s r
  flusher_goes f g flushers before less =
      let changed = sum_by-set (flusher_cost s.now) s.flushers f g no_flusher (flusher_there f s before) in
      let is = ap (sum_by (flusher_cost s.now)) flushers in
      goes_so (omega (arith, changed, is, phase_some s.now (flusher_of f s).phase before, phase_most s.now g.phase, less))

-- what is paid is at most 8
pub paid_most : (b : Bool) (ts : List Todo) → IsPaid ts → ahead_cost b ts ≤ 8
paid_most b ts h = let most = ahead_most b ts in omega (arith, most, h.0)
