-- What a sound state gives a search for a turn, and a turn that begins.
use Rattle.std.proofs.Common.{◌≡◌, ℕ, ◌^◌, ◌<◌, ◌≤◌, Bool, true, false, cond, not, List, [], ◌∷◌, length, get_or, All, refl, sym, ◌∙◌, ap, subst, arith, leb, Option, None, Some, IfSome}
use Rattle.std.proofs.Math.ListN.{set}
use Rattle.std.specs.List.{count_by}
use Rattle.std.proofs.lemmas.List.{get_or-set_same}
use Rattle.std.proofs.lemmas.List.Elements.{All-head, All-weaker}
use Rattle.wbt_replay_order.proofs.Common.{IsPace, Pace, Trace, pause_of, State, cpu_of, with_cpu, task_of, flusher_of, no_cpu, pause_in, Cpu, ReplayJob, ReplayPhase, ReplayTask, ReplayWork, after, is_finished, job_at, seek_job, cpu_turn, turn_at, Facts, IsJobOn, IsTaskOn, Sound, WorkFits, is_at_work, working_on}
use Rattle.wbt_replay_moves.specs.Kept.Fit.{CanBegin, TaskBegins, PauseFits, RestFits, PhaseBegins}
use Rattle.wbt_replay_moves.specs.declared.state.Actor.TheVariants as who
use Rattle.wbt_replay_moves.specs.declared.state.ReplayJob.TheVariants as job
use Rattle.wbt_replay_moves.specs.declared.state.ReplayPhase.TheVariants as phase
use Rattle.wbt_replay_moves.specs.declared.state.Whose.TheVariants as whose
use Rattle.wbt_replay_moves.specs.declared.state.ReplayWork.TheVariants as work
use Rattle.wbt_replay_order.specs.declared.chance.Chance.TheVariants as chance
use Rattle.wbt_replay_order.specs.Kept.Seeks.{CanSeek, CanSeekAll, HasJob, HasTask, JobBegins}
use Rattle.wbt_replay_order.proofs.Search.{IsFound, IsTurn, turn_found}
use Rattle.wbt_replay_order.proofs.Facts.Lists.{either}
use Rattle.wbt_replay_order.proofs.Facts.Things.{moment_fits, flusher_there, flusher_fits}
use Rattle.wbt_replay_order.proofs.Lists.Numbered.{one_if, sum_part}

module _ (trace : Trace) (facts : Facts trace) (s : State) (sound : Sound trace s) where
  many : length s.cpus ≡ trace.cpus
  many = sound.holds.cpus.many

  -- ---- the CPU's jobs and tasks are there

  module _ (i : ℕ) (less : i < trace.cpus) where
    jobs_on : All (IsJobOn trace i) (cpu_of i s).jobs
    jobs_on = subst (All (IsJobOn trace i)) (sym (sound.holds.cpus.each i less).jobs) (facts.jobs i)

    tasks_on : All (IsTaskOn trace i) (cpu_of i s).tasks
    tasks_on = subst (All (IsTaskOn trace i)) (sym (sound.holds.cpus.each i less).tasks) (facts.tasks i)

    few_tasks : length (cpu_of i s).tasks < 2 ^ 31
    few_tasks = let same = ap length (sound.holds.cpus.each i less).tasks in omega (arith, same, facts.few_tasks_on i)

    job_there : (j : ReplayJob) → IsJobOn trace i j → HasJob s j
    job_there job.Writer on = tt
    job_there (job.Flusher f) on = flusher_there trace facts s sound f on.there

    task_there : (t : ℕ) → IsTaskOn trace i t → HasTask s t
    task_there t on = omega (arith, on.there, sound.holds.tasks.many)

    can_seek : CanSeek s (cpu_of i s)
    can_seek = let its = sound.holds.cpus.each i less in record {
      few_jobs = let same = ap length its.jobs in omega (arith, same, facts.few_jobs i);
      few_tasks = few_tasks;
      next = its.next;
      next_task = its.next_task;
      jobs = All-weaker (IsJobOn trace i) (HasJob s) job_there (cpu_of i s).jobs jobs_on;
      tasks = All-weaker (IsTaskOn trace i) (HasTask s) task_there (cpu_of i s).tasks tasks_on;
    }

  pub seeks : CanSeekAll s
  seeks = record { each = λ i less. can_seek i (omega (arith, less, many)); few = omega (arith, many, facts.few_cpus) }

  -- ---- a task's turn, and a flusher's, where CPUs are these

  -- a rest right before a page
  pause_fits : (pace : Option Pace) (since : ℕ) → IfSome pace IsPace → PauseFits s.now (pause_of pace since)
  pause_fits None since its = tt
  pause_fits (Some pace) since its = either (PauseFits s.now) (leb pace.pages since) (Some pace.ticks) None
      (λ enough. omega (arith, its.ticks.1, moment_fits trace facts s sound)) (λ few. tt)

  rest_fits : (task : ℕ) (t : ReplayTask) → IfSome t.pace IsPace → (works : List ReplayWork) → All (WorkFits trace task) works → RestFits s.now (pause_in t) works
  rest_fits task t paced [] all = tt
  rest_fits task t paced (work.Write n page pages ∷ more) all = pause_fits t.pace t.since paced
  rest_fits task t paced (work.Rest ticks ∷ more) all =
      let h = All-head (WorkFits trace task) (work.Rest ticks) more all in omega (arith, h, moment_fits trace facts s sound)

  few_contexts : length s.contexts < 2 ^ 32
  few_contexts = omega (arith, sound.holds.contexts.many, facts.few_contexts)

  module _ (cs : List Cpu) where
    task_begins : (t : ℕ) → t < length trace.tasks → TaskBegins trace t (record s { cpus = cs })
    task_begins t there = let h = sound.holds.tasks.each t there in record {
      there = omega (arith, there, sound.holds.tasks.many);
      contexts = h.writers ∙ sym sound.holds.contexts.many;
      lines = sound.holds.contexts.many;
      few = few_contexts;
      rest = rest_fits t (task_of t s) h.pace (task_of t s).works h.works;
    }

    phase_begins : (f : ℕ) → f < length trace.flushers → (p : ReplayPhase) → (is_finished p ≡ false → 1 ≤ s.working) → PhaseBegins trace f (record s { cpus = cs }) p
    phase_begins f there (phase.Idle until noted) works = record {
      here = flusher_fits trace facts s sound f there;
      working = works refl;
      ages = λ k less. let e = (sound.holds.contexts.each k (omega (arith, less, sound.holds.contexts.many))).estimated in omega (arith, e, moment_fits trace facts s sound);
      measures = All-weaker (λ k. k < length trace.contexts) (λ k. k < length s.contexts) (λ k l. omega (arith, l, sound.holds.contexts.many)) (flusher_of f s).measures (sound.holds.flushers.each f).measures;
      few = omega (arith, sound.holds.domains.many, facts.few_cgroups);
    }
    phase_begins f there (phase.Taken n) works = tt
    phase_begins f there (phase.Scanning scan) works = tt
    phase_begins f there (phase.Flying n pages until) works = tt
    phase_begins f there phase.Finished works = tt

  -- ---- a turn that was found

  -- the state in which a CPU begins the turn of a job
  abbrev pub turned_to : (i which : ℕ) → State
  turned_to i which = with_cpu i (record (cpu_of i s) { next = after (length (cpu_of i s).jobs) which }) s

  pub record Begins (i which place : ℕ) : Type 0 where
    pub job : which < length (cpu_of i s).jobs
    pub fits : JobBegins trace i place (job_at which (cpu_of i s)) (turned_to i which)

  module _ (i : ℕ) (below : i < length s.cpus) (which place : ℕ) where
    less : i < trace.cpus
    less = omega (arith, below, many)

    abbrev turned : Cpu
    turned = record (cpu_of i s) { next = after (length (cpu_of i s).jobs) which }

    same : cpu_of i (turned_to i which) ≡ turned
    same = get_or-set_same s.cpus i turned no_cpu below

    -- A flusher that isn't finished is at work, where its CPU isn't stopped.
    at_work : (cpu_of i s).stopped ≡ false → (f : ℕ) → which < length (cpu_of i s).jobs → job_at which (cpu_of i s) ≡ job.Flusher f
        → is_finished (flusher_of f s).phase ≡ false → 1 ≤ s.working
    at_work live f here is works =
        let all = sum_part (working_on s.flushers) s.cpus i no_cpu below in
        let part = sum_part (λ (j : ReplayJob). one_if (is_at_work s.flushers j)) (cpu_of i s).jobs which job.Writer here in
        let one : one_if (is_at_work s.flushers (job_at which (cpu_of i s))) ≡ 1
        = ap (λ (j : ReplayJob). one_if (is_at_work s.flushers j)) is ∙ ap (λ (b : Bool). one_if (not b)) works in
        let runs : working_on s.flushers (cpu_of i s) ≡ count_by (is_at_work s.flushers) (cpu_of i s).jobs
        = ap (λ (b : Bool). cond b 0 (count_by (is_at_work s.flushers) (cpu_of i s).jobs)) live in
        omega (arith, sound.holds.counted.flushers, all, part, one, runs)

    job_fits : (cpu_of i s).stopped ≡ false → which < length (cpu_of i s).jobs → (j : ReplayJob) → job_at which (cpu_of i s) ≡ j → (j ≡ job.Writer → place < length (cpu_of i s).tasks)
        → JobBegins trace i place j (turned_to i which)
    job_fits live here job.Writer is inside =
        subst (λ (c : Cpu). (place < length c.tasks) × (length c.tasks < 2 ^ 31) × CanBegin trace (turned_to i which) (whose.Task (get_or c.tasks place 0))) (sym same)
        (inside refl, few_tasks i less, task_begins (set s.cpus i turned) (get_or (cpu_of i s).tasks place 0) (tasks_on i less place 0 (inside refl)).there)
    job_fits live here (job.Flusher f) is inside =
        let on = subst (IsJobOn trace i) is (jobs_on i less which job.Writer here) in
        (flusher_there trace facts s sound f on.there, phase_begins (set s.cpus i turned) f on.there (flusher_of f s).phase (at_work live f here is))

    -- the CPU whose turn was found isn't stopped
    live : cpu_turn (cpu_of i s) s ≡ chance.Begins which place → (cpu_of i s).stopped ≡ false
    live = by_stopped (cpu_of i s).stopped refl
      where
        by_stopped : (b : Bool) → (cpu_of i s).stopped ≡ b
            → cond b chance.Nothing (seek_job (cpu_of i s) s (length (cpu_of i s).jobs) (cpu_of i s).next) ≡ chance.Begins which place → (cpu_of i s).stopped ≡ false
        by_stopped true e found = absurd (cc found)
        by_stopped false e found = e

    pub begin_fits : turn_at (who.Cpu i) s ≡ chance.Begins which place → Begins i which place
    begin_fits found =
        let c : Cpu = cpu_of i s in
        let its = sound.holds.cpus.each i less in
        let turn : IsTurn c s which place = subst (IsFound c s) found (turn_found c s) in
        let here = turn.among its.next in
        record { job = here; fits = job_fits (live found) here (job_at which c) refl (λ writer. turn.task writer its.next_task) }
