-- What a move needs of what is in range, so that it isn't asked again after an order line or the rotation was changed.
use Rattle.std.proofs.Common.{◌≡◌, ℕ, ◌<◌, ◌≤◌, not, List, length, All, Option, refl, ◌∙◌, ap, arith, IfSome}
use Rattle.std.specs.List.{sum_by, count_by}
use Rattle.wbt_replay_order.proofs.Common.{domains, StepEntry, IsPace, Trace, State, cpu_of, task_of, Actor, Stretch, first_cpu, is_made_by, may_step, is_halted, with_orders, Ending, IsWhose, IsCpu, working_on, Sound, Agrees}
use Rattle.wbt_replay_moves.specs.declared.state.Actor.TheVariants as who
use Rattle.wbt_replay_order.proofs.Facts.Actors.{ahead_still}

pub record Turning (trace : Trace) (s : State) : Type 0 where
  pub steps : length s.steps ≤ s.most
  pub domains : length s.domains ≡ domains trace
  pub tasks : length s.tasks ≡ length trace.tasks
  pub flushers : length s.flushers ≡ length trace.flushers
  pub cpus : length s.cpus ≡ trace.cpus
  -- flushers that aren't finished, of CPUs that aren't stopped
  pub working : s.working ≡ sum_by (working_on s.flushers) s.cpus
  pub whose : (j : ℕ) → j < length s.cpus → 1 ≤ length (cpu_of j s).todo → IsWhose trace j (cpu_of j s).turn.whose
  pub agrees : (j : ℕ) → j < length s.cpus → All (Agrees trace s.tasks s.flushers (cpu_of j s).turn.whose) (cpu_of j s).todo
  pub jobs : (j : ℕ) → j < length s.cpus → (cpu_of j s).jobs ≡ (first_cpu trace j).jobs
  pub tasks_are : (j : ℕ) → j < length s.cpus → (cpu_of j s).tasks ≡ (first_cpu trace j).tasks
  pub paces : (t : ℕ) → t < length s.tasks → IfSome (task_of t s).pace IsPace
  pub next : (j : ℕ) → j < length s.cpus → 1 ≤ length (cpu_of j s).jobs → (cpu_of j s).next < length (cpu_of j s).jobs
  pub next_task : (j : ℕ) → j < length s.cpus → 1 ≤ length (cpu_of j s).tasks → (cpu_of j s).next_task < length (cpu_of j s).tasks

pub turning : (trace : Trace) (s : State) → Sound trace s → Turning trace s
turning trace s h = record {
  steps = h.holds.few;
  domains = h.holds.domains.many;
  tasks = h.holds.tasks.many;
  flushers = h.holds.flushers.many;
  cpus = h.holds.cpus.many;
  working = h.holds.counted.flushers;
  whose = λ j less. (cpu j less).whose;
  agrees = λ j less. (h.holds.agreed j (omega (arith, less, h.holds.cpus.many))).items;
  jobs = λ j less. (cpu j less).jobs;
  tasks_are = λ j less. (cpu j less).tasks;
  paces = λ t less. (h.holds.tasks.each t (omega (arith, less, h.holds.tasks.many))).pace;
  next = λ j less. (cpu j less).next;
  next_task = λ j less. (cpu j less).next_task;
}
  where
    cpu : (j : ℕ) → j < length s.cpus → IsCpu trace (length s.steps) s.now j (cpu_of j s)
    cpu j less = h.holds.cpus.each j (omega (arith, less, h.holds.cpus.many))

-- ---- another's turn, and other order lines

pub placed_turning : (trace : Trace) (s : State) (turn : Option Actor) → Turning trace s → Turning trace (record s { rotation = turn })
placed_turning trace s turn h = record {
  steps = h.steps;
  domains = h.domains;
  tasks = h.tasks;
  flushers = h.flushers;
  cpus = h.cpus;
  working = h.working;
  whose = h.whose;
  agrees = h.agrees;
  jobs = h.jobs;
  tasks_are = h.tasks_are;
  paces = h.paces;
  next = h.next;
  next_task = h.next_task;
}

pub ordered_turning : (trace : Trace) (s : State) (orders : List Stretch) → Turning trace s → Turning trace (with_orders orders s)
ordered_turning trace s orders h = record {
  steps = h.steps;
  domains = h.domains;
  tasks = h.tasks;
  flushers = h.flushers;
  cpus = h.cpus;
  working = h.working;
  whose = h.whose;
  agrees = h.agrees;
  jobs = h.jobs;
  tasks_are = h.tasks_are;
  paces = h.paces;
  next = h.next;
  next_task = h.next_task;
}

-- While no step is made, nobody's halt line says otherwise.
pub free_still : (actor : Actor) (s r : State) (trace : Trace) → r.steps ≡ s.steps → may_step trace actor r ≡ may_step trace actor s
free_still (who.Cpu i) s r trace same = ap (λ (steps : List StepEntry). not (is_halted trace.halt (count_by (is_made_by i) steps))) same
free_still who.Timer s r trace same = refl

pub placed_kept : (trace : Trace) (s : State) (turn : Option Actor) → Ending trace s → Ending trace (record s { rotation = turn })
placed_kept trace s turn h = record {
  paid = h.paid;
  timer_paid = h.timer_paid;
  paced = h.paced;
  spent = λ is.
      let at = h.spent is in
      record { steps = at.steps; ongoing = at.ongoing; who = at.who; due = ahead_still at.who s (record s { rotation = turn }) refl refl refl ∙ at.due; free = free_still at.who s (record s { rotation = turn }) trace refl ∙ at.free };
}

pub ordered_kept : (trace : Trace) (s : State) (orders : List Stretch) → Ending trace s → Ending trace (with_orders orders s)
ordered_kept trace s orders h = record {
  paid = h.paid;
  timer_paid = h.timer_paid;
  paced = h.paced;
  spent = λ is.
      let at = h.spent is in
      record { steps = at.steps; ongoing = at.ongoing; who = at.who; due = ahead_still at.who s (with_orders orders s) refl refl refl ∙ at.due; free = free_still at.who s (with_orders orders s) trace refl ∙ at.free };
}
