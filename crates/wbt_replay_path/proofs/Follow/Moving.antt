-- Each move of the run follows the step relation: items by their kinds, turns that begin, order lines, the rotation and the clock.
use Rattle.std.proofs.Common.{◌≡◌, ℕ, ◌<◌, ◌≤◌, true, false, Option, List, [], ◌∷◌, length, get_or, All, refl, sym, ap, subst, arith, ⊎_elim}
use Rattle.std.proofs.lemmas.Bool.{cases_lt}
use Rattle.std.proofs.lemmas.Bool.Decides.{nat_tests}
use Rattle.std.proofs.lemmas.List.{get_or_past}
use Rattle.std.proofs.lemmas.List.Elements.{All-head}
use Rattle.wbt_replay_order.proofs.Common.{Trace, Setting, Rule, make_step, make_move, make_timer_step, make_timer_move, begin_turn, State, no_cpu, cpu_of, with_cpu, with_timer, Actor, Cpu, ReplayJob, Stretch, Whose, Silent, Step, TimerSilent, TimerStep, TimerTodo, Todo, first_cpu, after, job_at, is_full, is_halted, stop, step_or_stop, cpu_on, timer_on, go_on, begin_job, advance, Facts, IsJobOn, IsTaskOn, Suits, Follows, Moves, silently, Ranges, IsTurnOf, TimerItemFits, ItemFits}
use Rattle.wbt_grant.specs.State as throttle
use Rattle.wbt_replay_moves.specs.declared.state.Actor.TheVariants as who
use Rattle.wbt_replay_moves.specs.declared.state.ReplayJob.TheVariants as job
use Rattle.wbt_replay_moves.specs.declared.state.Whose.TheVariants as whose
use Rattle.wbt_replay_moves.specs.declared.todo.Silent.TheVariants as silent
use Rattle.wbt_replay_moves.specs.declared.todo.Step.TheVariants as item
use Rattle.wbt_replay_moves.specs.declared.todo.TimerSilent.TheVariants as timer_silent
use Rattle.wbt_replay_moves.specs.declared.todo.TimerStep.TheVariants as timer_step
use Rattle.wbt_replay_moves.specs.declared.todo.TimerTodo.TheVariants as timer_todo
use Rattle.wbt_replay_moves.specs.declared.todo.Todo.TheVariants as todo
use Rattle.wbt_replay_order.specs.Kept.Turns.{StepFits}
use Rattle.wbt_replay_order.proofs.Facts.Lists.{either}
use Rattle.wbt_replay_order.proofs.Walk.{turned, walked}
use Rattle.wbt_replay_path.proofs.Follow.Begins.{begin_moves as turn_begun}
use Rattle.wbt_replay_path.proofs.Follow.Stopping.{stop_follows}
use Rattle.wbt_replay_path.proofs.Follow.Counters.{add_moves, fold_moves, clear_moves}
use Rattle.wbt_replay_path.proofs.Follow.Decided.{decide_moves}
use Rattle.wbt_replay_path.proofs.Follow.Dirtying.{dirty_moves}
use Rattle.wbt_replay_path.proofs.Follow.Flights.{hand_over_moves, land_moves}
use Rattle.wbt_replay_order.proofs.Frames.Others.{popped, stepping}
use Rattle.wbt_replay_path.proofs.Follow.Loads.{first_moves, middle_moves, limits_moves, count_moves}
use Rattle.wbt_replay_path.proofs.Follow.Marks.{marks, unmarks}
use Rattle.wbt_replay_path.proofs.Follow.Completing.{completes}
use Rattle.wbt_replay_path.proofs.Follow.Pages.{looks, claims}
use Rattle.wbt_replay_path.proofs.Follow.Silents.{end_moves, estimate_moves, weigh_moves, test_moves, close_moves}
use Rattle.wbt_replay_path.proofs.Follow.Timers.{timer_load_moves, peak_moves, unseal_moves, thresh_moves, publish_moves, period_moves, rest_moves, begin_timer_moves}

-- ---- what a move needs of a state

-- The jobs and the tasks of a CPU are the trace's, the next ones are among them, and its items name what is there.
pub record IsPlaced (trace : Trace) (i : ℕ) (c : Cpu) : Type 0 where
  pub jobs : c.jobs ≡ (first_cpu trace i).jobs
  pub tasks : c.tasks ≡ (first_cpu trace i).tasks
  pub next : 1 ≤ length c.jobs → c.next < length c.jobs
  pub next_task : 1 ≤ length c.tasks → c.next_task < length c.tasks
  pub items : All (ItemFits trace) c.todo

pub record Fits (trace : Trace) (setting : Setting) (s : State) : Type 0 where
  pub ranges : Ranges trace setting s
  pub placed : (i : ℕ) → i < trace.cpus → IsPlaced trace i (cpu_of i s)
  pub timer : All (TimerItemFits trace) s.timer.todo

-- ---- items

module _ (trace : Trace) (setting : Setting) (suits : Suits trace setting) (facts : Facts trace) (s : State) (t : throttle.State) (fits : Fits trace setting s) (rule : Rule setting t)
    (h : Follows trace setting s t) where
  module _ (i : ℕ) (less : i < trace.cpus) (ts : List Todo) where
    step_moves : (x : Step) → (cpu_of i s).todo ≡ todo.Step x ∷ ts → length s.steps < s.most → StepFits trace x
        → Moves trace setting s.steps (make_step trace i x (stepping i ts s)) t
    unfolding make_step
    step_moves item.Dirty is room fit = dirty_moves trace setting suits i less s t facts fits.ranges h ts is room
    step_moves (item.Add x a) is room fit = add_moves trace setting suits i less s t fits.ranges h x ts fit.0 a is
    step_moves (item.Fold x) is room fit = fold_moves trace setting suits i less s t fits.ranges h x ts fit is
    step_moves (item.Clear x) is room fit = clear_moves trace setting suits i less s t fits.ranges h x ts fit is rule
    step_moves (item.Mark n) is room fit = marks trace setting suits i less s t facts fits.ranges h ts n is fit
    step_moves (item.First d) is room fit = first_moves trace setting suits i less s t fits.ranges h ts d is fit
    step_moves (item.Middle d) is room fit = middle_moves trace setting suits i less s t fits.ranges h ts d is fit
    step_moves (item.Limits d) is room fit = limits_moves trace setting suits i less s t fits.ranges h ts d is fit rule
    step_moves (item.Count x) is room fit = count_moves trace setting suits i less s t fits.ranges h ts x is rule
    step_moves item.Unmark is room fit = unmarks trace setting suits i less s t facts fits.ranges h ts is
    step_moves item.Look is room fit = looks trace setting suits i less s t fits.ranges h ts is
    step_moves (item.Claim word) is room fit = claims trace setting suits i less s t fits.ranges h ts word is
    step_moves item.Complete is room fit = completes trace setting suits i less s t fits.ranges h ts is room

    silent_moves : (x : Silent) → (cpu_of i s).todo ≡ todo.Silent x ∷ ts → Moves trace setting s.steps (make_move trace i x (popped i ts s)) t
    unfolding make_move
    silent_moves silent.Decide is = decide_moves trace setting suits i less s t facts fits.ranges h ts is
    silent_moves silent.End is = end_moves trace setting suits i less s t fits.ranges h ts is
    silent_moves (silent.Estimate k) is = estimate_moves trace setting suits i less s t fits.ranges h k ts is
    silent_moves (silent.Weigh k) is = weigh_moves trace setting suits i less s t fits.ranges h k ts is
    silent_moves silent.Test is = test_moves trace setting suits i less s t fits.ranges h ts is
    silent_moves silent.Close is = close_moves trace setting suits i less s t fits.ranges h ts is
    silent_moves silent.HandOver is = hand_over_moves trace setting suits i less s t fits.ranges h ts is
    silent_moves silent.Land is = land_moves trace setting suits i less s t fits.ranges h ts is

  module _ (ts : List TimerTodo) where
    timer_step_moves : (x : TimerStep) → s.timer.todo ≡ timer_todo.Step x ∷ ts → TimerItemFits trace (timer_todo.Step x)
        → Moves trace setting s.steps (make_timer_step trace x (with_timer (record s.timer { todo = ts }) s)) t
    unfolding make_timer_step
    timer_step_moves (timer_step.Count d) is fit = timer_load_moves trace setting suits s t fits.ranges h ts d fit is
    timer_step_moves (timer_step.Peak d) is fit = peak_moves trace setting suits s t fits.ranges h ts d fit is
    timer_step_moves (timer_step.Unseal d) is fit = unseal_moves trace setting suits s t fits.ranges h ts d fit is
    timer_step_moves (timer_step.Thresh d) is fit = thresh_moves trace setting suits s t fits.ranges h ts d fit is
    timer_step_moves (timer_step.Publish d) is fit = publish_moves trace setting suits s t fits.ranges h ts d fit is

    timer_silent_moves : (x : TimerSilent) → s.timer.todo ≡ timer_todo.Silent x ∷ ts
        → Moves trace setting s.steps (make_timer_move x (with_timer (record s.timer { todo = ts }) s)) t
    unfolding make_timer_move
    timer_silent_moves (timer_silent.Period d) is = period_moves trace setting suits s t fits.ranges h ts d is
    timer_silent_moves timer_silent.Rest is = rest_moves trace setting suits s t fits.ranges h ts is

  -- ---- a turn goes on

  not_full : is_full s ≡ false → length s.steps < s.most
  not_full room = grind (arith, nat_tests)

  module _ (i : ℕ) (less : i < trace.cpus) where
    stop_moves : Moves trace setting s.steps (stop i s) t
    stop_moves = silently refl (stop_follows trace setting suits i s t less fits.ranges h)

    step_or_stop_moves : (x : Step) (ts : List Todo) → (cpu_of i s).todo ≡ todo.Step x ∷ ts → StepFits trace x → Moves trace setting s.steps (step_or_stop trace i x ts s) t
    step_or_stop_moves x ts is fit =
        either (λ (u : State). Moves trace setting s.steps u t) (is_halted trace.halt (cpu_of i s).made) _ _ (λ yes. stop_moves)
        (λ also. either (λ (u : State). Moves trace setting s.steps u t) (is_full s) _ _ (λ yes. silently refl h)
        (λ no. step_moves i less ts x is (not_full no) fit))

    cpu_moves : (ts : List Todo) → (cpu_of i s).todo ≡ ts → Moves trace setting s.steps (cpu_on trace i ts s) t
    cpu_moves [] is = silently refl h
    cpu_moves (todo.Step x ∷ ts) is = step_or_stop_moves x ts is (All-head (ItemFits trace) (todo.Step x) ts (subst (All (ItemFits trace)) is (fits.placed i less).items))
    cpu_moves (todo.Silent x ∷ ts) is = silent_moves i less ts x is

  timer_moves : (ts : List TimerTodo) → s.timer.todo ≡ ts → Moves trace setting s.steps (timer_on trace ts s) t
  timer_moves [] is = silently refl h
  timer_moves (timer_todo.Step x ∷ ts) is =
      either (λ (u : State). Moves trace setting s.steps u t) (is_full s) _ _ (λ yes. silently refl h)
      (λ no. timer_step_moves ts x is (All-head (TimerItemFits trace) (timer_todo.Step x) ts (subst (All (TimerItemFits trace)) is fits.timer)))
  timer_moves (timer_todo.Silent x ∷ ts) is = timer_silent_moves ts x is

  go_on_moves : (actor : Actor) → Moves trace setting s.steps (go_on trace actor s) t
  go_on_moves (who.Cpu i) = ⊎_elim
      (λ below. cpu_moves i (omega (arith, below, fits.ranges.cpus)) (cpu_of i s).todo refl)
      (λ past. subst (λ (l : List Todo). Moves trace setting s.steps (cpu_on trace i l s) t) (ap (λ (c : Cpu). c.todo) (sym (get_or_past s.cpus i no_cpu past))) (silently refl h))
      (cases_lt i (length s.cpus))
  go_on_moves who.Timer = timer_moves s.timer.todo refl

  -- ---- a turn begins

  module _ (i : ℕ) (less : i < trace.cpus) (next : ℕ) (none : (cpu_of i s).todo ≡ []) where
    begins_after : (next_task : ℕ) (w : Whose) → IsTurnOf trace i w
        → Moves trace setting s.steps (begin_turn trace i w (with_cpu i (record (cpu_of i s) { next = next; next_task = next_task }) s)) t
    begins_after next_task w on = turn_begun trace setting suits i less s t fits.ranges h none next next_task w on

    job_moves : (which place : ℕ) (j : ReplayJob) → job_at which (cpu_of i s) ≡ j → which < length (cpu_of i s).jobs → (j ≡ job.Writer → place < length (cpu_of i s).tasks)
        → Moves trace setting s.steps (begin_job trace i place j (record (cpu_of i s) { next = next }) s) t
    job_moves which place job.Writer is known here =
        let all : All (IsTaskOn trace i) (cpu_of i s).tasks = subst (All (IsTaskOn trace i)) (sym (fits.placed i less).tasks) (facts.tasks i) in
        begins_after (after (length (cpu_of i s).tasks) place) (whose.Task (get_or (cpu_of i s).tasks place 0)) (all place 0 (here refl))
    job_moves which place (job.Flusher f) is known here =
        let all : All (IsJobOn trace i) (cpu_of i s).jobs = subst (All (IsJobOn trace i)) (sym (fits.placed i less).jobs) (facts.jobs i) in
        begins_after (cpu_of i s).next_task (whose.Flusher f) (subst (IsJobOn trace i) is (all which job.Writer known))

-- ---- orders and the rotation aren't followed

turned_fits : (trace : Trace) (setting : Setting) (orders : List Stretch) (turn : Option Actor) (s : State) → Fits trace setting s
    → Fits trace setting (turned orders turn s)
turned_fits trace setting orders turn s fits =
    let ranges = fits.ranges in
    record {
      ranges = record {
        domains_are = ranges.domains_are;
        contexts = ranges.contexts;
        marks = ranges.marks;
        tasks = ranges.tasks;
        flushers = ranges.flushers;
        cpus = ranges.cpus;
        turn_is = ranges.turn_is;
        made = ranges.made;
        own_domains = ranges.own_domains;
        own_contexts = ranges.own_contexts;
        held = ranges.held;
        turn = ranges.turn;
        writes = ranges.writes;
        task = ranges.task;
        flusher = ranges.flusher;
        places = ranges.places;
        limits = ranges.limits;
        sequences = ranges.sequences;
        timer_limits = ranges.timer_limits;
        page_steps = ranges.page_steps;
        last_sequence = ranges.last_sequence;
      };
      placed = fits.placed;
      timer = fits.timer;
    }

-- ---- the order

module _ (trace : Trace) (setting : Setting) (suits : Suits trace setting) (facts : Facts trace) (t : throttle.State) (rule : Rule setting t) (s : State) (fits : Fits trace setting s)
    (h : Follows trace setting s t) where
  -- each move of the run
  pub advance_moves : Moves trace setting s.steps (advance trace s) t
  advance_moves =
      walked trace s (λ (u : State). Moves trace setting s.steps u t) (λ orders rotation now. silently refl h)
      (λ orders rotation actor some. go_on_moves trace setting suits facts (turned orders rotation s) t (turned_fits trace setting orders rotation s fits) rule h actor)
      (λ orders rotation i which place free found.
      let placed = fits.placed i (omega (arith, free.there, fits.ranges.cpus)) in
      job_moves trace setting suits facts (turned orders rotation s) t (turned_fits trace setting orders rotation s fits) rule h i (omega (arith, free.there, fits.ranges.cpus))
      (after (length (cpu_of i s).jobs) which) free.idle which place (job_at which (cpu_of i s)) refl (found.among placed.next) (λ writer. found.task writer placed.next_task))
      (λ orders rotation none time. begin_timer_moves trace setting suits (turned orders rotation s) t (turned_fits trace setting orders rotation s fits).ranges h none)
