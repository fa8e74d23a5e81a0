-- The search for what an actor can do finds something exactly where it can do something.
use Rattle.std.proofs.Common.{◌≡◌, ◌≢◌, ◌⊎◌, inl, inr, ℕ, zero, suc, ◌+◌, ◌<◌, ◌≤◌, Bool, true, false, not, ◌&&◌, cond, eqb, leb, List, [], ◌∷◌, ◌++◌, length, get_or, All, ⊎_elim, refl, sym, ◌∙◌, ap, subst, arith, eq-eqb, length-append}
use Rattle.std.proofs.lemmas.Bool.{cases_Bool, cases_lt, and_parts, and_from, or_cases, or_left, or_right, leb-true, le-leb, not-true, not_from_false, cond-true, cond-false}
use Rattle.std.proofs.lemmas.List.{get_or_append_left, get_or_push}
use Rattle.std.proofs.lemmas.List.Elements.{All-get_or}
use Rattle.wbt_replay_order.proofs.Common.{TaskLine, Trace, State, cpu_of, task_of, flusher_of, is_drained, Actor, Cpu, ReplayJob, ReplayPhase, TimerTodo, Todo, first_cpu, tasks_from, after, todo_ahead, timer_todo_ahead, cpu_ahead, timer_ahead, ahead_of, is_task_ready, is_phase_ready, task_turn, job_turn, job_at, is_nothing, seek_job, cpu_turn, timer_turn, chance_by, chance_of, Facts, IsTaskOn, IsJobOn, Sound, IsCpu}
use Rattle.wbt_replay_moves.specs.declared.state.Actor.TheVariants as who
use Rattle.wbt_replay_moves.specs.declared.state.ReplayJob.TheVariants as job
use Rattle.wbt_replay_moves.specs.declared.state.ReplayPhase.TheVariants as phase
use Rattle.wbt_replay_moves.specs.declared.todo.TimerTodo.TheVariants as timer_todo
use Rattle.wbt_replay_moves.specs.declared.todo.Todo.TheVariants as todo
use Rattle.wbt_replay_order.specs.declared.chance.Ahead.{Ahead}
use Rattle.wbt_replay_order.specs.declared.chance.Ahead.TheVariants as ahead
use Rattle.wbt_replay_order.specs.declared.chance.Chance.{Chance}
use Rattle.wbt_replay_order.specs.declared.chance.Chance.TheVariants as chance
use Rattle.wbt_replay_order.proofs.Facts.Actors.{past_ahead, past_turn}
use Rattle.wbt_replay_order.proofs.Facts.Jobs.{has_writer_job}
use Rattle.wbt_replay_order.proofs.Facts.Lists.{either}
use Rattle.wbt_replay_order.proofs.Facts.Tasks.{no_task, some_tasks}
use Rattle.wbt_replay_turns.specs.Able.{IsReadyTask, IsReadyIn, IsReadyFlusher, HasWork, CpuCan, TimerCan, InTurn, Can, turn, task, flusher}
use Rattle.wbt_replay_turns.proofs.Seeking.{after_below, all_passed, no_chance}

-- ---- ready, by a test and in words

task_ready : (s : State) (t : ℕ) → is_task_ready s.now (task_of t s) ≡ true → ((task_of t s).ended ≡ false) × ((task_of t s).rest ≤ s.now)
task_ready s t is =
    let both = and_parts (not (task_of t s).ended) (leb (task_of t s).rest s.now) is in
    (not-true (task_of t s).ended both.0, leb-true (task_of t s).rest s.now both.1)

ready_task : (s : State) (t : ℕ) → (task_of t s).ended ≡ false → (task_of t s).rest ≤ s.now → is_task_ready s.now (task_of t s) ≡ true
ready_task s t on rested =
    and_from (not (task_of t s).ended) (leb (task_of t s).rest s.now) (not_from_false (task_of t s).ended on) (le-leb (task_of t s).rest s.now rested)

phase_ready : (s : State) (p : ReplayPhase) → is_phase_ready p (is_drained s) s.now ≡ true → IsReadyIn s p
phase_ready s (phase.Idle until kept) is =
    ⊎_elim (λ past. inl (leb-true until s.now past))
    (λ drops. let both = and_parts (is_drained s) (not kept) drops in inr (both.0, not-true kept both.1))
    (or_cases (leb until s.now) (is_drained s && not kept) is)
phase_ready s (phase.Taken inode) is = tt
phase_ready s (phase.Scanning scan) is = tt
phase_ready s (phase.Flying inode pages until) is = leb-true until s.now is
phase_ready s phase.Finished is = absurd (cc is)

ready_phase : (s : State) (p : ReplayPhase) → IsReadyIn s p → is_phase_ready p (is_drained s) s.now ≡ true
ready_phase s (phase.Idle until kept) h =
    ⊎_elim (λ past. or_left (leb until s.now) (is_drained s && not kept) (le-leb until s.now past))
    (λ drops. or_right (leb until s.now) (is_drained s && not kept) (and_from (is_drained s) (not kept) drops.0 (not_from_false kept drops.1)))
    h
ready_phase s (phase.Taken inode) h = refl
ready_phase s (phase.Scanning scan) h = refl
ready_phase s (phase.Flying inode pages until) h = le-leb until s.now h
ready_phase s phase.Finished h = absurd h

-- ---- a search that finds something

module _ (c : Cpu) (s : State) where
  task_found : (n tries place : ℕ) → (1 ≤ tries → place < length c.tasks) → is_nothing (task_turn n c.tasks s tries place) ≡ false
      → (k : ℕ) × (k < length c.tasks) × (is_task_ready s.now (task_of (get_or c.tasks k 0) s) ≡ true)
  unfolding task_turn
  task_found n zero place below some = absurd (cc some)
  task_found n (suc tries) place below some =
      by_ready (is_task_ready s.now (task_of (get_or c.tasks place 0) s)) refl some
      (task_found n tries (after (length c.tasks) place) (λ more. after_below (length c.tasks) place (omega (arith, here))))
    where
      here : place < length c.tasks
      here = below (omega arith)

      by_ready : (b : Bool) → is_task_ready s.now (task_of (get_or c.tasks place 0) s) ≡ b
          → is_nothing (elim b as (λ _. Chance) [ true ↦ chance.Begins n place | false ↦ task_turn n c.tasks s tries (after (length c.tasks) place) ]) ≡ false
          → (is_nothing (task_turn n c.tasks s tries (after (length c.tasks) place)) ≡ false
          → (k : ℕ) × (k < length c.tasks) × (is_task_ready s.now (task_of (get_or c.tasks k 0) s) ≡ true))
          → (k : ℕ) × (k < length c.tasks) × (is_task_ready s.now (task_of (get_or c.tasks k 0) s) ≡ true)
      by_ready true is found behind = (place, here, is)
      by_ready false is found behind = behind found

  job_found : (tries place : ℕ) → (1 ≤ tries → place < length c.jobs) → is_nothing (seek_job c s tries place) ≡ false
      → (k : ℕ) × (k < length c.jobs) × (is_nothing (job_turn c s k (job_at k c)) ≡ false)
  unfolding seek_job
  job_found zero place below some = absurd (cc some)
  job_found (suc tries) place below some =
      by_first (is_nothing (job_turn c s place (job_at place c))) refl some
      (job_found tries (after (length c.jobs) place) (λ more. after_below (length c.jobs) place (omega (arith, here))))
    where
      here : place < length c.jobs
      here = below (omega arith)

      by_first : (b : Bool) → is_nothing (job_turn c s place (job_at place c)) ≡ b
          → is_nothing (elim b as (λ _. Chance) [ true ↦ seek_job c s tries (after (length c.jobs) place) | false ↦ job_turn c s place (job_at place c) ]) ≡ false
          → (is_nothing (seek_job c s tries (after (length c.jobs) place)) ≡ false → (k : ℕ) × (k < length c.jobs) × (is_nothing (job_turn c s k (job_at k c)) ≡ false))
          → (k : ℕ) × (k < length c.jobs) × (is_nothing (job_turn c s k (job_at k c)) ≡ false)
      by_first true is found behind = behind found
      by_first false is found behind = (place, here, is)

  -- ---- a search that finds nothing has passed all

  task_passed : (n tries place : ℕ) → is_nothing (task_turn n c.tasks s (suc tries) place) ≡ true
      → (is_task_ready s.now (task_of (get_or c.tasks place 0) s) ≡ false) × (is_nothing (task_turn n c.tasks s tries (after (length c.tasks) place)) ≡ true)
  unfolding task_turn
  task_passed n tries place none = by_ready (is_task_ready s.now (task_of (get_or c.tasks place 0) s)) none
    where
      by_ready : (b : Bool)
          → is_nothing (elim b as (λ _. Chance) [ true ↦ chance.Begins n place | false ↦ task_turn n c.tasks s tries (after (length c.tasks) place) ]) ≡ true
          → (b ≡ false) × (is_nothing (task_turn n c.tasks s tries (after (length c.tasks) place)) ≡ true)
      by_ready true found = absurd (cc found)
      by_ready false found = (refl, found)

  job_passed : (tries place : ℕ) → is_nothing (seek_job c s (suc tries) place) ≡ true
      → (is_nothing (job_turn c s place (job_at place c)) ≡ true) × (is_nothing (seek_job c s tries (after (length c.jobs) place)) ≡ true)
  unfolding seek_job
  job_passed tries place none = by_first (is_nothing (job_turn c s place (job_at place c))) refl none
    where
      by_first : (b : Bool) → is_nothing (job_turn c s place (job_at place c)) ≡ b
          → is_nothing (elim b as (λ _. Chance) [ true ↦ seek_job c s tries (after (length c.jobs) place) | false ↦ job_turn c s place (job_at place c) ]) ≡ true
          → (is_nothing (job_turn c s place (job_at place c)) ≡ true) × (is_nothing (seek_job c s tries (after (length c.jobs) place)) ≡ true)
      by_first true is found = (is, found)
      by_first false is found = absurd (cc (sym is ∙ found))

-- ---- a task has its place among its CPU's

-- the place of a number in a list
abbrev pub IsIn : (n : ℕ) (xs : List ℕ) → Type 0
IsIn n xs = (k : ℕ) × (k < length xs) × (get_or xs k 0 ≡ n)

in_pushed : (n m : ℕ) (xs : List ℕ) → IsIn n xs → IsIn n (xs ++ m ∷ [])
in_pushed n m xs h = (h.0, omega (arith, h.1, length-append xs (m ∷ [])), get_or_append_left xs (m ∷ []) 0 h.0 h.1 ∙ h.2)

in_last : (n : ℕ) (xs : List ℕ) → IsIn n (xs ++ n ∷ [])
in_last n xs = (length xs, omega (arith, length-append xs (n ∷ [])), get_or_push xs n 0 (length xs) refl)

in_from : (n cpu number : ℕ) (ts : List TaskLine) (known : List ℕ) → IsIn n known → IsIn n (tasks_from cpu number ts known)
in_from n cpu number [] known h = h
in_from n cpu number (t ∷ ts) known h =
    in_from n cpu (number + 1) ts (cond (eqb t.cpu cpu) (known ++ number ∷ []) known)
    (either (IsIn n) (eqb t.cpu cpu) (known ++ number ∷ []) known (λ is. in_pushed n number known h) (λ other. h))

has_task_from : (n cpu number : ℕ) (ts : List TaskLine) (known : List ℕ) (k : ℕ) → n ≡ number + k → k < length ts → (get_or ts k no_task).cpu ≡ cpu
    → IsIn n (tasks_from cpu number ts known)
has_task_from n cpu number [] known k is less on = absurd (omega (arith, less))
has_task_from n cpu number (t ∷ ts) known zero is less on =
    let same : number ≡ n = omega (arith, is) in
    in_from n cpu (number + 1) ts (cond (eqb t.cpu cpu) (known ++ number ∷ []) known)
    (subst (λ (b : Bool). IsIn n (cond b (known ++ number ∷ []) known)) (sym (eq-eqb t.cpu cpu on))
    (subst (λ (m : ℕ). IsIn n (known ++ m ∷ [])) (sym same) (in_last n known)))
has_task_from n cpu number (t ∷ ts) known (suc k) is less on =
    has_task_from n cpu (number + 1) ts (cond (eqb t.cpu cpu) (known ++ number ∷ []) known) k (omega (arith, is)) (omega (arith, less)) on

-- ---- a CPU

module _ (trace : Trace) (facts : Facts trace) (s : State) (sound : Sound trace s) where
  many : length s.cpus ≡ trace.cpus
  many = sound.holds.cpus.many

  module _ (i : ℕ) (there : i < trace.cpus) where
    abbrev c : Cpu
    c = cpu_of i s

    is_cpu : IsCpu trace (length s.steps) s.now i c
    is_cpu = sound.holds.cpus.each i there

    -- a turn that was found is of a task or a flusher that is ready
    job_ready : (k : ℕ) → k < length c.jobs → (j : ReplayJob) → job_at k c ≡ j → is_nothing (job_turn c s k j) ≡ false
        → ((t : ℕ) × IsReadyTask trace s i t) ⊎ ((f : ℕ) × IsReadyFlusher trace s i f)
    job_ready k below job.Writer is some =
        let found = task_found c s k (length c.tasks) c.next_task is_cpu.next_task some in
        let number : ℕ = get_or c.tasks found.0 0 in
        let on = All-get_or (IsTaskOn trace i) c.tasks found.0 0 found.1 (subst (All (IsTaskOn trace i)) (sym is_cpu.tasks) (facts.tasks i)) in
        let ready = task_ready s number found.2 in
        inl (number, record { on = on; ongoing = ready.0; rested = ready.1 })
    job_ready k below (job.Flusher f) is some =
        let on = All-get_or (IsJobOn trace i) c.jobs k job.Writer below (subst (All (IsJobOn trace i)) (sym is_cpu.jobs) (facts.jobs i)) in
        inr (
          f,
          record {
            on = subst (IsJobOn trace i) is on;
            phase = phase_ready s (flusher_of f s).phase (by_test (is_phase_ready (flusher_of f s).phase (is_drained s) s.now) refl some);
          },
        )
      where
        by_test : (b : Bool) → is_phase_ready (flusher_of f s).phase (is_drained s) s.now ≡ b → is_nothing (cond b (chance.Begins k 0) chance.Nothing) ≡ false
            → is_phase_ready (flusher_of f s).phase (is_drained s) s.now ≡ true
        by_test true e found = e
        by_test false e found = absurd (cc found)

    turn_ready : is_nothing (cpu_turn c s) ≡ false → CpuCan trace s i
    turn_ready some = by_stopped c.stopped refl some
      where
        by_stopped : (b : Bool) → c.stopped ≡ b → is_nothing (cond b chance.Nothing (seek_job c s (length c.jobs) c.next)) ≡ false → CpuCan trace s i
        by_stopped true is found = absurd (cc found)
        by_stopped false is found =
            let at = job_found c s (length c.jobs) c.next is_cpu.next found in
            ⊎_elim (λ t. record { there = there; ongoing = is; work = task t.0 t.1 }) (λ f. record { there = there; ongoing = is; work = flusher f.0 f.1 })
            (job_ready at.0 at.1 (job_at at.0 c) refl at.2)

    ahead_ready : (next : Ahead) → (next ≢ ahead.Nothing) → cpu_ahead c ≡ next → CpuCan trace s i
    ahead_ready next some is = by_stopped c.stopped refl is
      where
        by_todo : c.stopped ≡ false → (ts : List Todo) → c.todo ≡ ts → todo_ahead ts ≡ next → CpuCan trace s i
        by_todo on [] e same = absurd (some (sym same))
        by_todo on (todo.Step item ∷ rest) e same = record { there = there; ongoing = on; work = turn (omega (arith, ap (λ (l : List Todo). length l) e)) }
        by_todo on (todo.Silent item ∷ rest) e same = record { there = there; ongoing = on; work = turn (omega (arith, ap (λ (l : List Todo). length l) e)) }

        by_stopped : (b : Bool) → c.stopped ≡ b → cond b ahead.Nothing (todo_ahead c.todo) ≡ next → CpuCan trace s i
        by_stopped true on same = absurd (some (sym same))
        by_stopped false on same = by_todo on c.todo refl same

    cpu_ready : is_nothing (chance_of (who.Cpu i) s) ≡ false → CpuCan trace s i
    cpu_ready some = by_ahead (cpu_ahead c) refl some
      where
        by_ahead : (next : Ahead) → cpu_ahead c ≡ next → is_nothing (chance_by next (who.Cpu i) s) ≡ false → CpuCan trace s i
        by_ahead ahead.Step is found = ahead_ready ahead.Step (λ e. cc e) is
        by_ahead ahead.Silent is found = ahead_ready ahead.Silent (λ e. cc e) is
        by_ahead ahead.Nothing is found = turn_ready found

    -- ---- nothing was found, and so nothing is ready

    jobs_idle : is_nothing (seek_job c s (length c.jobs) c.next) ≡ true → (k : ℕ) → k < length c.jobs → is_nothing (job_turn c s k (job_at k c)) ≡ true
    jobs_idle none k below =
        all_passed (length c.jobs) c.next (is_cpu.next (omega (arith, below))) (λ p. is_nothing (job_turn c s p (job_at p c)) ≡ true)
        (λ tries p. is_nothing (seek_job c s tries p) ≡ true) (job_passed c s) none k below

    tasks_idle : (n : ℕ) → is_nothing (task_turn n c.tasks s (length c.tasks) c.next_task) ≡ true → (k : ℕ) → k < length c.tasks
        → is_task_ready s.now (task_of (get_or c.tasks k 0) s) ≡ false
    tasks_idle n none k below =
        all_passed (length c.tasks) c.next_task (is_cpu.next_task (omega (arith, below))) (λ p. is_task_ready s.now (task_of (get_or c.tasks p 0) s) ≡ false)
        (λ tries p. is_nothing (task_turn n c.tasks s tries p) ≡ true) (task_passed c s n) none k below

    -- a task of the CPU that is ready was found
    no_task_ready : is_nothing (seek_job c s (length c.jobs) c.next) ≡ true → (t : ℕ) → IsReadyTask trace s i t → ⊥
    no_task_ready none t ready =
        let some : 1 ≤ length (tasks_from i 0 trace.tasks []) = some_tasks trace i t ready.on in
        let side = has_writer_job trace i (tasks_from i 0 trace.tasks []) some in
        let below : side.place < length c.jobs = omega (arith, side.less, ap (λ (l : List ReplayJob). length l) is_cpu.jobs) in
        let is_side : job_at side.place c ≡ job.Writer = ap (λ (l : List ReplayJob). get_or l side.place job.Writer) is_cpu.jobs ∙ side.is in
        let idle : is_nothing (task_turn side.place c.tasks s (length c.tasks) c.next_task) ≡ true =
        ap (λ (j : ReplayJob). is_nothing (job_turn c s side.place j)) (sym is_side) ∙ jobs_idle none side.place below in
        let at = has_task_from t i 0 trace.tasks [] t (omega arith) ready.on.there ready.on.cpu_is in
        let inside : at.0 < length c.tasks = omega (arith, at.1, ap (λ (l : List ℕ). length l) is_cpu.tasks) in
        let number : get_or c.tasks at.0 0 ≡ t = ap (λ (l : List ℕ). get_or l at.0 0) is_cpu.tasks ∙ at.2 in
        let never = sym (ap (λ (n : ℕ). is_task_ready s.now (task_of n s)) number) ∙ tasks_idle side.place idle at.0 inside in
        cc (sym (ready_task s t ready.ongoing ready.rested) ∙ never)

    no_flusher_ready : is_nothing (seek_job c s (length c.jobs) c.next) ≡ true → (f : ℕ) → IsReadyFlusher trace s i f → ⊥
    no_flusher_ready none f ready =
        let place = subst (λ (k : ℕ). (p : ℕ) × (p < length (first_cpu trace k).jobs) × (job_at p (first_cpu trace k) ≡ job.Flusher f)) ready.on.cpu_is (facts.flusher_job f ready.on.there) in
        let below : place.0 < length c.jobs = omega (arith, place.1, ap (λ (l : List ReplayJob). length l) is_cpu.jobs) in
        let is_job : job_at place.0 c ≡ job.Flusher f = ap (λ (l : List ReplayJob). get_or l place.0 job.Writer) is_cpu.jobs ∙ place.2 in
        let idle : is_nothing (job_turn c s place.0 (job.Flusher f)) ≡ true = ap (λ (j : ReplayJob). is_nothing (job_turn c s place.0 j)) (sym is_job) ∙ jobs_idle none place.0 below in
        let test = cond-true (is_phase_ready (flusher_of f s).phase (is_drained s) s.now) (chance.Begins place.0 0) chance.Nothing (ready_phase s (flusher_of f s).phase ready.phase) in
        cc (sym (ap is_nothing test) ∙ idle)

    cpu_idle : chance_of (who.Cpu i) s ≡ chance.Nothing → CpuCan trace s i → ⊥
    cpu_idle none can = by_ahead (cpu_ahead c) refl none
      where
        sought : cpu_turn c s ≡ chance.Nothing → is_nothing (seek_job c s (length c.jobs) c.next) ≡ true
        sought is = ap is_nothing (sym (cond-false c.stopped chance.Nothing (seek_job c s (length c.jobs) c.next) can.ongoing) ∙ is)

        by_todo : (ts : List Todo) → c.todo ≡ ts → todo_ahead ts ≡ ahead.Nothing → 1 ≤ length c.todo → ⊥
        by_todo [] e none some = omega (arith, some, ap (λ (l : List Todo). length l) e)
        by_todo (todo.Step item ∷ rest) e none some = cc none
        by_todo (todo.Silent item ∷ rest) e none some = cc none

        by_work : HasWork trace s i → cpu_ahead c ≡ ahead.Nothing → cpu_turn c s ≡ chance.Nothing → ⊥
        by_work (turn some) next is = by_todo c.todo refl (sym (cond-false c.stopped ahead.Nothing (todo_ahead c.todo) can.ongoing) ∙ next) some
        by_work (task t ready) next is = no_task_ready (sought is) t ready
        by_work (flusher f ready) next is = no_flusher_ready (sought is) f ready

        by_ahead : (next : Ahead) → cpu_ahead c ≡ next → chance_by next (who.Cpu i) s ≡ chance.Nothing → ⊥
        by_ahead ahead.Step is found = cc found
        by_ahead ahead.Silent is found = cc found
        by_ahead ahead.Nothing is found = by_work can.work is found

  -- ---- the timer

  timer_todo_some : (next : Ahead) → (next ≢ ahead.Nothing) → (ts : List TimerTodo) → timer_todo_ahead ts ≡ next → 1 ≤ length ts
  timer_todo_some next some [] is = absurd (some (sym is))
  timer_todo_some next some (timer_todo.Step item ∷ rest) is = omega arith
  timer_todo_some next some (timer_todo.Silent item ∷ rest) is = omega arith

  timer_ahead_ready : (next : Ahead) → (next ≢ ahead.Nothing) → timer_ahead s ≡ next → TimerCan s
  timer_ahead_ready next some is = by_drained (is_drained s) refl is
    where
      by_drained : (b : Bool) → is_drained s ≡ b → cond b ahead.Nothing (timer_todo_ahead s.timer.todo) ≡ next → TimerCan s
      by_drained true drained same = absurd (some (sym same))
      by_drained false running same = record { running = running; work = inl (timer_todo_some next some s.timer.todo same) }

  timer_ready : is_nothing (chance_of who.Timer s) ≡ false → TimerCan s
  timer_ready some = by_ahead (timer_ahead s) refl some
    where
      by_test : (b : Bool) → (not (is_drained s) && leb s.timer.next s.now) ≡ b → is_nothing (cond b chance.TimerBegins chance.Nothing) ≡ false → TimerCan s
      by_test true is found =
          let both = and_parts (not (is_drained s)) (leb s.timer.next s.now) is in
          record { running = not-true (is_drained s) both.0; work = inr (leb-true s.timer.next s.now both.1) }
      by_test false is found = absurd (cc found)

      by_ahead : (next : Ahead) → timer_ahead s ≡ next → is_nothing (chance_by next who.Timer s) ≡ false → TimerCan s
      by_ahead ahead.Step is found = timer_ahead_ready ahead.Step (λ e. cc e) is
      by_ahead ahead.Silent is found = timer_ahead_ready ahead.Silent (λ e. cc e) is
      by_ahead ahead.Nothing is found = by_test (not (is_drained s) && leb s.timer.next s.now) refl found

  timer_idle : chance_of who.Timer s ≡ chance.Nothing → TimerCan s → ⊥
  timer_idle none can = by_ahead (timer_ahead s) refl none
    where
      by_todo : (ts : List TimerTodo) → timer_todo_ahead ts ≡ ahead.Nothing → 1 ≤ length ts → ⊥
      by_todo [] is some = omega (arith, some)
      by_todo (timer_todo.Step item ∷ rest) is some = cc is
      by_todo (timer_todo.Silent item ∷ rest) is some = cc is

      by_work : (1 ≤ length s.timer.todo) ⊎ (s.timer.next ≤ s.now) → timer_ahead s ≡ ahead.Nothing → timer_turn s ≡ chance.Nothing → ⊥
      by_work (inl some) next is = by_todo s.timer.todo (sym (cond-false (is_drained s) ahead.Nothing (timer_todo_ahead s.timer.todo) can.running) ∙ next) some
      by_work (inr past) next is =
          let test = and_from (not (is_drained s)) (leb s.timer.next s.now) (not_from_false (is_drained s) can.running) (le-leb s.timer.next s.now past) in
          cc (sym (cond-true (not (is_drained s) && leb s.timer.next s.now) chance.TimerBegins chance.Nothing test) ∙ is)

      by_ahead : (next : Ahead) → timer_ahead s ≡ next → chance_by next who.Timer s ≡ chance.Nothing → ⊥
      by_ahead ahead.Step is found = cc found
      by_ahead ahead.Silent is found = cc found
      by_ahead ahead.Nothing is found = by_work can.work is found

  -- ---- any actor

  -- who is found something to do can do something
  pub found_can : (a : Actor) → is_nothing (chance_of a s) ≡ false → Can trace s a
  found_can (who.Cpu i) some = ⊎_elim (λ less. cpu_ready i less some)
      (λ past.
      let beyond : length s.cpus ≤ i = omega (arith, past, many) in
      let none : chance_of (who.Cpu i) s ≡ chance.Nothing = ap (λ n. chance_by n (who.Cpu i) s) (past_ahead s i beyond) ∙ past_turn s i beyond in
      absurd (cc (sym some ∙ ap is_nothing none)))
      (cases_lt i trace.cpus)
  found_can who.Timer some = timer_ready some

  -- and who isn't can't
  pub idle_cannot : (a : Actor) → chance_of a s ≡ chance.Nothing → ¬ Can trace s a
  idle_cannot (who.Cpu i) none can = cpu_idle i can.there none can
  idle_cannot who.Timer none can = timer_idle none can

  pub cannot_idle : (a : Actor) → ¬ Can trace s a → chance_of a s ≡ chance.Nothing
  cannot_idle a none = ⊎_elim (λ idle. no_chance (chance_of a s) idle) (λ some. absurd (none (found_can a some))) (cases_Bool (is_nothing (chance_of a s)))

  -- a turn that isn't over has something next
  pub in_turn : (a : Actor) → InTurn s a → ahead_of a s ≢ ahead.Nothing
  in_turn (who.Cpu i) h none = by_todo (cpu_of i s).todo (sym (cond-false (cpu_of i s).stopped ahead.Nothing (todo_ahead (cpu_of i s).todo) h.0) ∙ none) h.1
    where
      by_todo : (ts : List Todo) → todo_ahead ts ≡ ahead.Nothing → 1 ≤ length ts → ⊥
      by_todo [] is some = omega (arith, some)
      by_todo (todo.Step item ∷ rest) is some = cc is
      by_todo (todo.Silent item ∷ rest) is some = cc is
  in_turn who.Timer h none = by_todo s.timer.todo (sym (cond-false (is_drained s) ahead.Nothing (timer_todo_ahead s.timer.todo) h.0) ∙ none) h.1
    where
      by_todo : (ts : List TimerTodo) → timer_todo_ahead ts ≡ ahead.Nothing → 1 ≤ length ts → ⊥
      by_todo [] is some = omega (arith, some)
      by_todo (timer_todo.Step item ∷ rest) is some = cc is
      by_todo (timer_todo.Silent item ∷ rest) is some = cc is

  pub turn_in : (a : Actor) → ahead_of a s ≢ ahead.Nothing → InTurn s a
  turn_in (who.Cpu i) some = by_stopped (cpu_of i s).stopped refl some
    where
      by_todo : (ts : List Todo) → todo_ahead ts ≢ ahead.Nothing → 1 ≤ length ts
      by_todo [] h = absurd (h refl)
      by_todo (todo.Step item ∷ rest) h = omega arith
      by_todo (todo.Silent item ∷ rest) h = omega arith

      by_stopped : (b : Bool) → (cpu_of i s).stopped ≡ b → cond b ahead.Nothing (todo_ahead (cpu_of i s).todo) ≢ ahead.Nothing
          → ((cpu_of i s).stopped ≡ false) × (1 ≤ length (cpu_of i s).todo)
      by_stopped true is h = absurd (h refl)
      by_stopped false is h = (is, by_todo (cpu_of i s).todo h)
  turn_in who.Timer some = by_drained (is_drained s) refl some
    where
      by_todo : (ts : List TimerTodo) → timer_todo_ahead ts ≢ ahead.Nothing → 1 ≤ length ts
      by_todo [] h = absurd (h refl)
      by_todo (timer_todo.Step item ∷ rest) h = omega arith
      by_todo (timer_todo.Silent item ∷ rest) h = omega arith

      by_drained : (b : Bool) → is_drained s ≡ b → cond b ahead.Nothing (timer_todo_ahead s.timer.todo) ≢ ahead.Nothing
          → (is_drained s ≡ false) × (1 ≤ length s.timer.todo)
      by_drained true is h = absurd (h refl)
      by_drained false is h = (is, by_todo s.timer.todo h)
