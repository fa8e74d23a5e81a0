-- An actor's move leaves less to be done: it goes on, or it begins a turn.
use Rattle.std.proofs.Common.{◌≡◌, ℕ, ◌+◌, ◌<◌, ◌≤◌, Bool, true, false, cond, List, [], ◌∷◌, length, get_or, All, refl, sym, ◌∙◌, ap, subst, arith}
use Rattle.std.proofs.Math.ListN.{set}
use Rattle.std.proofs.lemmas.Bool.Decides.{nat_tests}
use Rattle.std.proofs.lemmas.List.{length-set, get_or-set_same, set-set}
use Rattle.std.proofs.lemmas.List.Elements.{All-get_or}
use Rattle.std.proofs.lemmas.List.Sums.{sum_by-set}
use Rattle.wbt_replay_order.proofs.Common.{domains, StepEntry, Trace, writer_of, at_turn, begin_for, begin_turn, State, no_cpu, cpu_of, task_of, flusher_of, is_drained, with_cpu, Cpu, ReplayJob, ReplayPhase, Whose, Todo, is_over, after, todo_ahead, is_phase_ready, job_at, is_full, is_halted, is_finished, cpu_on, begin_job, begin, ahead_cost, IsPaid, is_last, cpu_cost, timer_cost, timer_silent_cost, work_left, ArePaced, Ending, IsTaskOn, IsFlusherOn, IsJobOn, Facts}
use Rattle.wbt_replay_moves.specs.declared.state.Actor.TheVariants as who
use Rattle.wbt_replay_moves.specs.declared.state.ReplayJob.TheVariants as job
use Rattle.wbt_replay_moves.specs.declared.state.ReplayPhase.TheVariants as phase
use Rattle.wbt_replay_moves.specs.declared.state.Whose.TheVariants as whose
use Rattle.wbt_replay_moves.specs.declared.todo.Todo.TheVariants as todo
use Rattle.wbt_replay_order.specs.declared.chance.Ahead.TheVariants as next
use Rattle.wbt_replay_order.proofs.Facts.Lists.{either, set_each, twice}
use Rattle.wbt_replay_order.proofs.Growth.Grown.{silent_for}
use Rattle.wbt_replay_ends.proofs.Ends.Begins.{Begins, task_begins, phase_begins}
use Rattle.wbt_replay_ends.proofs.Ends.Cores.{spend_ahead, cpu_due, free_cpu}
use Rattle.wbt_replay_ends.proofs.Ends.Goes.{Outside, Pace, pace, goes_costs}
use Rattle.wbt_replay_ends.proofs.Ends.Items.{Ahead, task_alone, step_ahead, silent_ahead}
use Rattle.wbt_replay_ends.proofs.Ends.Paces.{paced_quietly, unspent}
use Rattle.wbt_replay_order.proofs.Search.{IsTurn}
use Rattle.wbt_replay_ends.proofs.Ends.Stops.{stop_ahead}
use Rattle.wbt_replay_ends.proofs.Ends.Sums.{is_there}
use Rattle.wbt_replay_ends.proofs.Ends.Turning.{Turning}

-- ---- a turn that began leaves less

module _ (trace : Trace) (s : State) (at : Turning trace s) (h : Ending trace s) (live : s.spent ≡ false) (i : ℕ) (there : i < length s.cpus) (d : Cpu) (none : (cpu_of i s).todo ≡ [])
    (empty : d.todo ≡ []) (paces : pace d ≡ pace (cpu_of i s)) (running : (cpu_of i s).stopped ≡ false) where
  begun_here : cpu_of i (with_cpu i d s) ≡ d
  begun_here = get_or-set_same s.cpus i d no_cpu there

  module _ (r : State) (goes : Begins i (with_cpu i d s) r) (silent : r.steps ≡ s.steps) where
    cpus_are : r.cpus ≡ set s.cpus i goes.cpu
    cpus_are = goes.cpus ∙ set-set s.cpus i d goes.cpu

    begun_pace : pace goes.cpu ≡ pace (cpu_of i s)
    begun_pace = goes.paces ∙ (ap pace begun_here ∙ paces)

    begun_kept : Ending trace r
    begun_kept = record {
      paid = λ j. subst (λ (l : List Cpu). IsPaid (get_or l j no_cpu).todo) (sym cpus_are)
          (set_each (λ k (c : Cpu). IsPaid c.todo) s.cpus i goes.cpu no_cpu there goes.todo (λ k n. h.paid k) j);
      timer_paid = subst (λ (o : Outside). timer_silent_cost o.timer.todo ≤ 2 + domains trace) (sym goes.same) h.timer_paid;
      paced = subst (ArePaced trace.halt r.steps) (sym cpus_are)
          (subst (λ (l : List StepEntry). ArePaced trace.halt l (set s.cpus i goes.cpu)) (sym silent)
          (paced_quietly trace.halt s.steps s.cpus h.paced i there goes.cpu (ap (λ (p : Pace). p.made) begun_pace) (ap (λ (p : Pace). p.stopped) begun_pace ∙ running)));
      spent = unspent trace r (ap (λ (o : Outside). o.spent) goes.same ∙ live);
    }

    begun_work : work_left r + 1 ≤ work_left s
    unfolding work_left
    begun_work =
        let costs = goes_costs i 0 1 (with_cpu i d s) r (omega (arith, there, length-set s.cpus i d)) goes in
        let own = ap (λ (c : Cpu). ahead_cost (is_last s.tasks c.turn.whose) c.todo) begun_here in
        let free = ap (ahead_cost (is_last s.tasks d.turn.whose)) empty in
        let before = ap (ahead_cost (is_last s.tasks (cpu_of i s).turn.whose)) none in
        let set = sum_by-set (cpu_cost s.tasks) s.cpus i d no_cpu there in
        let stop = ap {A = Pace} {B = ℕ} (λ p. cond p.stopped 0 1) paces in
        let orders = ap (λ (o : Outside). length o.orders) goes.same in
        let spent = ap {A = Outside} {B = ℕ} (λ o. cond o.spent 0 1) goes.same in
        let timer = ap (λ (o : Outside). timer_cost o.now o.timer) goes.same in
        let limit = ap (λ (o : Outside). o.most) goes.same in
        omega (arith, costs, own, free, before, set, stop, orders, spent, timer, limit, goes.steps, at.steps)

    pub begun_ahead : Ahead trace s r
    begun_ahead = record { less = begun_work; kept = begun_kept }

-- ---- a CPU

finished_never : (p : ReplayPhase) (drained : Bool) (now : ℕ) → is_phase_ready p drained now ≡ true → is_finished p ≡ false
finished_never (phase.Idle until kept) drained now is = refl
finished_never (phase.Taken n) drained now is = refl
finished_never (phase.Scanning scan) drained now is = refl
finished_never (phase.Flying n pages until) drained now is = refl
finished_never phase.Finished drained now is = absurd (cc is)

module _ (trace : Trace) (facts : Facts trace) (s : State) (at : Turning trace s) (h : Ending trace s) (i : ℕ) (there : i < length s.cpus) where
  -- It makes the next move of its turn, or is stopped, or the run's steps are spent.
  pub cpu_goes_on : s.spent ≡ false → is_over s ≡ false → (cpu_of i s).stopped ≡ false → (todos : List Todo) → (cpu_of i s).todo ≡ todos → 1 ≤ length todos → Ahead trace s (cpu_on trace i todos s)
  cpu_goes_on going unfinished running [] is some = absurd (omega (arith, some))
  cpu_goes_on going unfinished running (todo.Step item ∷ rest) is some =
      let due : todo_ahead (cpu_of i s).todo ≡ next.Step = ap todo_ahead is in
      either (Ahead trace s) (is_halted trace.halt (cpu_of i s).made) _ _
      (λ halted. stop_ahead trace s at h i there running going halted due)
      (λ on. either (Ahead trace s) (is_full s) _ _
      (λ full. spend_ahead trace facts s at h going full unfinished (who.Cpu i) (cpu_due s i running due) (free_cpu trace s h i there on))
      (λ room.
      let less : length s.steps < s.most = grind (arith, nat_tests) in
      step_ahead trace i s there at h going (record (cpu_of i s) { todo = rest; made = (cpu_of i s).made + 1 }) refl refl running item is refl on (omega (arith, less))))
  cpu_goes_on going unfinished running (todo.Silent item ∷ rest) is some =
      silent_ahead trace i s there at h going (record (cpu_of i s) { todo = rest }) refl refl running item is refl

  -- ---- a turn that it begins

  module _ (going : s.spent ≡ false) (none : (cpu_of i s).todo ≡ []) (running : (cpu_of i s).stopped ≡ false) where
    module _ (w : Whose) (c : Cpu) (free : c.todo ≡ []) (paces : pace c ≡ pace (cpu_of i s)) where
      at_begin : Cpu
      at_begin = at_turn w s.now c

      -- the state in which the turn begins
      begins_at : begin_turn trace i w (with_cpu i c s) ≡ begin_for trace i w (with_cpu i at_begin s)
      unfolding at_begin
      begins_at = ap (λ (l : List Cpu). begin_for trace i w (record s { cpus = l })) (twice (at_turn w s.now) s.cpus i c no_cpu there)

      here : cpu_of i (with_cpu i at_begin s) ≡ at_begin
      here = get_or-set_same s.cpus i at_begin no_cpu there

      free_here : (cpu_of i (with_cpu i at_begin s)).todo ≡ []
      unfolding at_begin
      free_here = ap (λ (e : Cpu). e.todo) here ∙ free

      whose_here : (cpu_of i (with_cpu i at_begin s)).turn.whose ≡ w
      unfolding at_begin
      whose_here = ap (λ (e : Cpu). e.turn.whose) here

      turn_begun : Begins i (with_cpu i at_begin s) (begin_for trace i w (with_cpu i at_begin s)) → Ahead trace s (begin_turn trace i w (with_cpu i c s))
      unfolding at_begin
      turn_begun goes =
          let silent = silent_for trace i w (with_cpu i at_begin s) in
          subst (Ahead trace s) (sym begins_at) (begun_ahead trace s at h going i there at_begin none free paces running (begin_for trace i w (with_cpu i at_begin s)) goes silent)

    task_turn_ahead : (t : ℕ) (c : Cpu) → c.todo ≡ [] → pace c ≡ pace (cpu_of i s) → IsTaskOn trace i t → Ahead trace s (begin_turn trace i (whose.Task t) (with_cpu i c s))
    unfolding at_begin
    task_turn_ahead t c free paces on =
        let w = whose.Task t in
        let d = at_begin w c free paces in
        turn_begun w c free paces
        (task_begins trace i (with_cpu i d s) (omega (arith, there, length-set s.cpus i d)) (free_here w c free paces) t (omega (arith, on.there, at.tasks))
        (task_alone trace i s there at t on d) (whose_here w c free paces) (at.paces t (omega (arith, on.there, at.tasks))) (writer_of (task_of t s)).due refl)

    flusher_turn_ahead : (f : ℕ) (c : Cpu) → c.todo ≡ [] → pace c ≡ pace (cpu_of i s) → IsFlusherOn trace i f → is_finished (flusher_of f s).phase ≡ false
        → Ahead trace s (begin_turn trace i (whose.Flusher f) (with_cpu i c s))
    unfolding at_begin
    flusher_turn_ahead f c free paces on works =
        let w = whose.Flusher f in
        let d = at_begin w c free paces in
        turn_begun w c free paces
        (phase_begins trace i (with_cpu i d s) (omega (arith, there, length-set s.cpus i d)) (free_here w c free paces) f
        (omega (arith, at.domains)) (flusher_of f s).phase refl works)

    -- a task of the CPU
    task_on : (place : ℕ) → place < length (cpu_of i s).tasks → IsTaskOn trace i (get_or (cpu_of i s).tasks place 0)
    task_on place below = All-get_or (IsTaskOn trace i) (cpu_of i s).tasks place 0 below (subst (All (IsTaskOn trace i)) (sym (at.tasks_are i there)) (facts.tasks i))

    flusher_on : (f n : ℕ) → job_at n (cpu_of i s) ≡ job.Flusher f → IsFlusherOn trace i f
    flusher_on f n is =
        let below = is_there (cpu_of i s).jobs n job.Writer (λ e. let other : job.Flusher f ≡ job.Writer = sym is ∙ e in cc other) in
        let on = All-get_or (IsJobOn trace i) (cpu_of i s).jobs n job.Writer below (subst (All (IsJobOn trace i)) (sym (at.jobs i there)) (facts.jobs i)) in
        subst (IsJobOn trace i) is on

    job_ahead : (n place : ℕ) (j : ReplayJob) → job_at n (cpu_of i s) ≡ j → IsTurn (cpu_of i s) s n place → (c : Cpu) → c.todo ≡ [] → pace c ≡ pace (cpu_of i s)
        → c.tasks ≡ (cpu_of i s).tasks → Ahead trace s (begin_job trace i place j c s)
    job_ahead n place job.Writer is turn c free paces tasks =
        task_turn_ahead (get_or c.tasks place 0) (record c { next_task = after (length c.tasks) place }) free paces
        (subst (λ (l : List ℕ). IsTaskOn trace i (get_or l place 0)) (sym tasks) (task_on place (turn.task is (at.next_task i there))))
    job_ahead n place (job.Flusher f) is turn c free paces tasks =
        flusher_turn_ahead f c free paces (flusher_on f n is) (finished_never (flusher_of f s).phase (is_drained s) s.now (turn.flusher f is))

    pub cpu_begins : (n place : ℕ) → IsTurn (cpu_of i s) s n place → Ahead trace s (begin trace (who.Cpu i) n place s)
    cpu_begins n place turn =
        let c = record (cpu_of i s) { next = after (length (cpu_of i s).jobs) n } in
        job_ahead n place (job_at n (cpu_of i s)) refl turn c none refl refl
