-- Each move of a run leaves less to be done. Where nobody can go and the run isn't over, a moment lies ahead.
use Rattle.std.proofs.Common.{◌≡◌, ◌⊎◌, inl, inr, ℕ, zero, suc, ◌+◌, ◌<◌, Bool, true, false, not, ◌||◌, ◌&&◌, cond, eqb, ltb, leb, List, [], ◌∷◌, length, Option, Some, None, refl, sym, ◌∙◌, ap, arith, ⊎_elim}
use Rattle.std.specs.List.{count_by}
use Rattle.std.proofs.lemmas.Bool.{cases_eq, or_parts}
use Rattle.std.proofs.lemmas.Bool.Decides.{nat_tests}
use Rattle.wbt_replay_order.proofs.Common.{one_if, Trace, State, no_cpu, cpu_of, flusher_of, is_drained, Actor, ReplayJob, ReplayPhase, Stretch, is_over, actor_at, after, ahead_of, is_phase_ready, job_turn, job_at, is_nothing, cpu_turn, timer_turn, turn_at, is_finished, go_on, begin, with_orders, begin_or_drop, follow, next_moment, at_moment, move_clock, place_after, chance_by, chance_of, take, take_turn, seek_turn, next_turn, finish_turn, rotate_from, tick, advance_by, advance, is_ended, work_left, Ending, Facts, is_at_work, working_on}
use Rattle.wbt_replay_moves.specs.declared.state.Actor.TheVariants as who
use Rattle.wbt_replay_moves.specs.declared.state.ReplayJob.TheVariants as job
use Rattle.wbt_replay_moves.specs.declared.state.ReplayPhase.TheVariants as phase
use Rattle.wbt_replay_moves.specs.declared.state.Stretch.TheVariants as stretch
use Rattle.wbt_replay_order.specs.declared.chance.Ahead.{Ahead as Next}
use Rattle.wbt_replay_order.specs.declared.chance.Ahead.TheVariants as next
use Rattle.wbt_replay_order.specs.declared.chance.Chance.{Chance}
use Rattle.wbt_replay_order.specs.declared.chance.Chance.TheVariants as chance
use Rattle.wbt_replay_order.proofs.Facts.Actors.{cpu_at, place_below, timer_at}
use Rattle.wbt_replay_order.proofs.Facts.Lists.{either}
use Rattle.wbt_replay_ends.proofs.Ends.Chances.{GoesOn, BeginsTurn, Can, Nexts, nexts, can_turn, can_chance}
use Rattle.wbt_replay_ends.proofs.Ends.Clock.{WaitsNot, clock_falls, clock_none, later_falls}
use Rattle.wbt_replay_ends.proofs.Ends.Cores.{core_ahead, drop_ahead, timer_goes, timer_begins}
use Rattle.wbt_replay_ends.proofs.Ends.Items.{Ahead}
use Rattle.wbt_replay_ends.proofs.Ends.Moves.{cpu_goes_on, cpu_begins}
use Rattle.wbt_replay_ends.proofs.Ends.Paces.{unspent}
use Rattle.wbt_replay_ends.proofs.Ends.Seeks.{Comes, comes_next, comes_not, comes_all, none_found}
use Rattle.wbt_replay_order.proofs.Search.{after_below}
use Rattle.wbt_replay_ends.proofs.Ends.Sums.{sum_none}
use Rattle.wbt_replay_ends.proofs.Ends.Turning.{Turning, placed_turning, ordered_turning, placed_kept, ordered_kept}

-- ---- an actor moves

module _ (trace : Trace) (facts : Facts trace) (s : State) (at : Turning trace s) (h : Ending trace s) (going : s.spent ≡ false) (unfinished : is_over s ≡ false) where
  pub go_ahead : (a : Actor) → GoesOn s a → Ahead trace s (go_on trace a s)
  go_ahead (who.Cpu i) can = cpu_goes_on trace facts s at h i can.0 going unfinished can.1 (cpu_of i s).todo refl can.2
  go_ahead who.Timer can = timer_goes trace facts s at h going unfinished can.0 s.timer.todo refl can.1

  pub begin_ahead : (a : Actor) (n place : ℕ) → BeginsTurn s a n place → Ahead trace s (begin trace a n place s)
  begin_ahead (who.Cpu i) n place can = cpu_begins trace facts s at h i can.0 going can.1 can.2 n place can.3
  begin_ahead who.Timer n place can = absurd can

  take_ahead : (a : Actor) (found : Chance) → is_nothing found ≡ false → Can s a found → Ahead trace s (take trace a found s)
  take_ahead a chance.Nothing some can = absurd (cc some)
  take_ahead a chance.GoesOn some can = go_ahead a can
  take_ahead a (chance.Begins n place) some can = begin_ahead a n place can
  take_ahead a chance.TimerBegins some can = timer_begins trace facts s at h going can

-- the same where it is another's turn in the rotation
placed_goes : (s : State) (turn : Option Actor) (a : Actor) → GoesOn s a → GoesOn (record s { rotation = turn }) a
placed_goes s turn (who.Cpu i) can = can
placed_goes s turn who.Timer can = can

placed_begins : (s : State) (turn : Option Actor) (a : Actor) (n place : ℕ) → BeginsTurn s a n place → BeginsTurn (record s { rotation = turn }) a n place
placed_begins s turn (who.Cpu i) n place can = (can.0, can.1, can.2, record { among = can.3.among; task = can.3.task; runs = can.3.runs; flusher = can.3.flusher })
placed_begins s turn who.Timer n place can = can

placed_can : (s : State) (turn : Option Actor) (a : Actor) (found : Chance) → Can s a found → Can (record s { rotation = turn }) a found
placed_can s turn a chance.Nothing can = tt
placed_can s turn a chance.GoesOn can = placed_goes s turn a can
placed_can s turn a (chance.Begins n place) can = placed_begins s turn a n place can
placed_can s turn a chance.TimerBegins can = can

placed_work : (s : State) (turn : Option Actor) → work_left (record s { rotation = turn }) ≡ work_left s
unfolding work_left
placed_work s turn = refl

-- and where other order lines are left
lined_goes : (s : State) (orders : List Stretch) (a : Actor) → GoesOn s a → GoesOn (with_orders orders s) a
lined_goes s orders (who.Cpu i) can = can
lined_goes s orders who.Timer can = can

-- as many order lines
line_work : (s : State) (o p : Stretch) (more : List Stretch) → s.orders ≡ o ∷ more → work_left (with_orders (p ∷ more) s) ≡ work_left s
unfolding work_left
line_work s o p more is = let lines = ap (λ (l : List Stretch). length l) is in omega (arith, lines)

-- ---- nobody can go

ready_not : (p : ReplayPhase) (now : ℕ) → is_phase_ready p true now ≡ false → WaitsNot now p → is_finished p ≡ true
ready_not (phase.Idle until kept) now stuck waits =
    let past : leb until now ≡ false = (or_parts (leb until now) (true && not kept) stuck).0 in
    let less : now < until = grind (arith, nat_tests) in
    let ahead : ltb now until ≡ true = grind (arith, nat_tests) in
    absurd (cc (sym ahead ∙ waits))
ready_not (phase.Taken n) now stuck waits = absurd (cc stuck)
ready_not (phase.Scanning scan) now stuck waits = absurd (cc stuck)
ready_not (phase.Flying n pages until) now stuck waits =
    let less : now < until = grind (arith, nat_tests) in
    let ahead : ltb now until ≡ true = grind (arith, nat_tests) in
    absurd (cc (sym ahead ∙ waits))
ready_not phase.Finished now stuck waits = refl

module _ (trace : Trace) (facts : Facts trace) (s : State) (at : Turning trace s) (h : Ending trace s) (live : s.spent ≡ false) (stuck : (i : ℕ) → i < length s.cpus + 1 → is_nothing (chance_of (actor_at i s) s) ≡ true) where
  -- an actor that can't go has nothing ahead, and no turn
  idle_next : (a : Actor) → is_nothing (chance_of a s) ≡ true → ahead_of a s ≡ next.Nothing
  idle_next a idle = by_next (ahead_of a s) refl idle
    where
      by_next : (n : Next) → ahead_of a s ≡ n → is_nothing (chance_by n a s) ≡ true → ahead_of a s ≡ next.Nothing
      by_next next.Step is none = absurd (cc none)
      by_next next.Silent is none = absurd (cc none)
      by_next next.Nothing is none = is

  idle_turn : (a : Actor) → is_nothing (chance_of a s) ≡ true → is_nothing (turn_at a s) ≡ true
  idle_turn a idle = sym (ap (λ n. is_nothing (chance_by n a s)) (idle_next a idle)) ∙ idle

  idle_cpu : (i : ℕ) → i < length s.cpus → is_nothing (cpu_turn (cpu_of i s) s) ≡ true
  idle_cpu i less = idle_turn (who.Cpu i) (sym (ap (λ (a : Actor). is_nothing (chance_of a s)) (cpu_at s i less)) ∙ stuck i (omega (arith, less)))

  idle_timer : is_nothing (timer_turn s) ≡ true
  idle_timer = idle_turn who.Timer (sym (ap (λ (a : Actor). is_nothing (chance_of a s)) (timer_at s)) ∙ stuck (length s.cpus) (omega arith))

  module _ (none : next_moment s ≡ None) where
    stuck_drained : is_drained s ≡ true
    stuck_drained = by_drain (is_drained s) refl
      where
        by_drain : (b : Bool) → is_drained s ≡ b → is_drained s ≡ true
        by_drain true is = is
        by_drain false running =
            let waits = (clock_none s none).0 running in
            let test : (not (is_drained s) && leb s.timer.next s.now) ≡ leb s.timer.next s.now = ap (λ b. not b && leb s.timer.next s.now) running in
            let this = sym (ap (λ b. is_nothing (cond b chance.TimerBegins chance.Nothing)) test) ∙ idle_timer in
            absurd (by_test (leb s.timer.next s.now) refl this waits)
          where
            by_test : (b : Bool) → leb s.timer.next s.now ≡ b → is_nothing (cond b chance.TimerBegins chance.Nothing) ≡ true → ltb s.now s.timer.next ≡ false → ⊥
            by_test true is turn waits = cc turn
            by_test false is turn waits =
                let less : s.now < s.timer.next = grind (arith, nat_tests) in
                let ahead : ltb s.now s.timer.next ≡ true = grind (arith, nat_tests) in
                cc (sym ahead ∙ waits)

    -- a flusher of a CPU that isn't stopped is finished
    stuck_flusher : (i : ℕ) → i < length s.cpus → (k : ℕ) → k < length (cpu_of i s).jobs → (f : ℕ) → job_at k (cpu_of i s) ≡ job.Flusher f → (cpu_of i s).stopped ≡ false
        → is_finished (flusher_of f s).phase ≡ true
    stuck_flusher i there k below f job going =
        let c = cpu_of i s in
        let nothing = none_found c s (at.next i there) going (idle_cpu i there) k below in
        let this = sym (ap (λ j. is_nothing (job_turn c s k j)) job) ∙ nothing in
        let drained = ap (λ b. is_nothing (cond (is_phase_ready (flusher_of f s).phase b s.now) (chance.Begins k 0) chance.Nothing)) stuck_drained in
        by_ready k (is_phase_ready (flusher_of f s).phase true s.now) refl (sym drained ∙ this) ((clock_none s none).1 f)
      where
        by_ready : (n : ℕ) (b : Bool) → is_phase_ready (flusher_of f s).phase true s.now ≡ b → is_nothing (cond b (chance.Begins n 0) chance.Nothing) ≡ true
            → WaitsNot s.now (flusher_of f s).phase → is_finished (flusher_of f s).phase ≡ true
        by_ready n true is turn waits = absurd (cc turn)
        by_ready n false is turn waits = ready_not (flusher_of f s).phase s.now is waits

    -- none of the CPU's flushers is at work
    stuck_cpu : (i : ℕ) → i < length s.cpus → working_on s.flushers (cpu_of i s) ≡ 0
    stuck_cpu i there =
        either (λ n. n ≡ 0) (cpu_of i s).stopped 0 (count_by (is_at_work s.flushers) (cpu_of i s).jobs)
        (λ halted. refl)
        (λ running. sum_none (λ j. one_if (is_at_work s.flushers j)) job.Writer (cpu_of i s).jobs (λ k below. by_job k below (job_at k (cpu_of i s)) refl running))
      where
        by_job : (k : ℕ) → k < length (cpu_of i s).jobs → (j : ReplayJob) → job_at k (cpu_of i s) ≡ j → (cpu_of i s).stopped ≡ false → one_if (is_at_work s.flushers j) ≡ 0
        by_job k below job.Writer is running = refl
        by_job k below (job.Flusher f) is running = ap (λ b. one_if (not b)) (stuck_flusher i there k below f is running)

    stuck_over : (eqb s.running 0 && eqb s.working 0) ≡ true
    stuck_over =
        let working : s.working ≡ 0 = at.working ∙ sum_none (working_on s.flushers) no_cpu s.cpus stuck_cpu in
        ap (λ b. b && eqb s.working 0) stuck_drained ∙ ap (λ n. eqb n 0) working

  -- The clock moves to a moment ahead, unless the run is over.
  pub clock_ahead : (eqb s.running 0 && eqb s.working 0) ≡ false → Ahead trace s (move_clock s)
  clock_ahead going = by_moment (next_moment s) refl
    where
      by_moment : (found : Option ℕ) → next_moment s ≡ found → Ahead trace s (at_moment found s)
      by_moment None none = absurd (cc (sym (stuck_over none) ∙ going))
      by_moment (Some m) is = core_ahead trace s (at_moment (Some m) s) refl h (λ i there. refl) (unspent trace (at_moment (Some m) s) live) h.timer_paid (clock_falls s m is)

-- ---- a move of the run

module _ (trace : Trace) (facts : Facts trace) (s : State) (at : Turning trace s) (h : Ending trace s) (ongoing : is_ended s ≡ false) where
  going : s.spent ≡ false
  going = (or_parts s.spent (eqb s.stopped (length s.cpus) || (eqb s.running 0 && eqb s.working 0)) ongoing).0

  unfinished : is_over s ≡ false
  unfinished = (or_parts s.spent (is_over s) ongoing).1

  at_work : (eqb s.running 0 && eqb s.working 0) ≡ false
  at_work = (or_parts (eqb s.stopped (length s.cpus)) (eqb s.running 0 && eqb s.working 0) unfinished).1

  placed_ahead : (a : Actor) (found : Chance) → is_nothing found ≡ false → Can s a found → Ahead trace s (take trace a found (record s { rotation = Some a }))
  placed_ahead a found some can =
      let t = record s { rotation = Some a } in
      let moved = take_ahead trace facts t (placed_turning trace s (Some a) at) (placed_kept trace s (Some a) h) going unfinished a found some (placed_can s (Some a) a found can) in
      record { less = (let same = placed_work s (Some a) in omega (arith, same, moved.less)); kept = moved.kept }

  -- those that the search still comes to, and those that can't go
  seek_ahead : (tries i : ℕ) → i < length s.cpus + 1 → ((k : ℕ) → k < length s.cpus + 1 → Comes (length s.cpus + 1) tries i k ⊎ (is_nothing (chance_of (actor_at k s) s) ≡ true))
      → Ahead trace s (seek_turn trace tries i s)
  unfolding seek_turn
  seek_ahead zero i less each =
      clock_ahead trace facts s at h going (λ k below. ⊎_elim (λ comes. absurd (comes_not (length s.cpus + 1) i k less comes)) (λ none. none) (each k below)) at_work
  seek_ahead (suc tries) i less each =
      by_chance (is_nothing (chance_of (actor_at i s) s)) refl
      (λ none. seek_ahead tries (after (length s.cpus + 1) i) (after_below (length s.cpus + 1) i (omega arith))
      (λ k below. ⊎_elim (λ e. inr (ap (λ m. is_nothing (chance_of (actor_at m s) s)) (sym e) ∙ none))
      (λ n. ⊎_elim (λ comes. inl (comes_next (length s.cpus + 1) tries i k less below n comes)) (λ nothing. inr nothing) (each k below)) (cases_eq i k)))
    where
      by_chance : (b : Bool) → is_nothing (chance_of (actor_at i s) s) ≡ b → (is_nothing (chance_of (actor_at i s) s) ≡ true → Ahead trace s (seek_turn trace tries (after (length s.cpus + 1) i) s))
          → Ahead trace s (elim b as (λ _. State) [ true ↦ seek_turn trace tries (after (length s.cpus + 1) i) s | false ↦ take_turn trace (actor_at i s) s ])
      by_chance true none more = more none
      by_chance false some more = placed_ahead (actor_at i s) (chance_of (actor_at i s) s) some (can_chance trace s at (actor_at i s))

  turn_ahead : Ahead trace s (next_turn trace s)
  turn_ahead =
      let n = length s.cpus + 1 in
      let from = place_after s.rotation s in
      let first = place_below s.rotation s in
      seek_ahead n from first (λ k below. inl (comes_all n from k first below))

  finish_ahead : (a : Actor) (n : Next) → Nexts s a n → Ahead trace s (finish_turn trace a n s)
  finish_ahead a next.Step can = go_ahead trace facts s at h going unfinished a can
  finish_ahead a next.Silent can = go_ahead trace facts s at h going unfinished a can
  finish_ahead a next.Nothing can = turn_ahead

  rotate_ahead : (turn : Option Actor) → Ahead trace s (rotate_from trace turn s)
  rotate_ahead None = turn_ahead
  rotate_ahead (Some a) = finish_ahead a (ahead_of a s) (nexts trace s at a)

  -- ---- order lines

  begun_or_dropped : (o : Stretch) (more : List Stretch) → s.orders ≡ o ∷ more → (i : Actor) (found : Chance) → Can s i found → Ahead trace s (begin_or_drop trace i found more s)
  begun_or_dropped o more is i chance.Nothing can = drop_ahead trace facts s at h going o more is
  begun_or_dropped o more is i chance.GoesOn can = go_ahead trace facts s at h going unfinished i can
  begun_or_dropped o more is i (chance.Begins n place) can = begin_ahead trace facts s at h going unfinished i n place can
  begun_or_dropped o more is i chance.TimerBegins can = timer_begins trace facts s at h going can

  -- a step of a line that asks for one step more
  line_ahead : (o p : Stretch) (more : List Stretch) → s.orders ≡ o ∷ more → (i : Actor) → GoesOn s i → Ahead trace s (go_on trace i (with_orders (p ∷ more) s))
  line_ahead o p more is i can =
      let t = with_orders (p ∷ more) s in
      let moved = go_ahead trace facts t (ordered_turning trace s (p ∷ more) at) (ordered_kept trace s (p ∷ more) h) going unfinished i (lined_goes s (p ∷ more) i can) in
      record { less = (let same = line_work s o p more is in omega (arith, same, moved.less)); kept = moved.kept }

  follow_ahead : (o : Stretch) (more : List Stretch) → s.orders ≡ o ∷ more → (i : Actor) (steps : ℕ) (n : Next) → ahead_of i s ≡ n → Nexts s i n → Ahead trace s (follow trace i steps n more s)
  follow_ahead o more is i steps next.Silent now can = go_ahead trace facts s at h going unfinished i can
  follow_ahead o more is i zero next.Step now can = drop_ahead trace facts s at h going o more is
  follow_ahead o more is i (suc steps) next.Step now can = line_ahead o (stretch.Steps i steps) more is i can
  follow_ahead o more is i zero next.Nothing now can = drop_ahead trace facts s at h going o more is
  follow_ahead o more is i (suc steps) next.Nothing now can = begun_or_dropped o more is i (turn_at i s) (can_turn trace s at i now)

  tick_ahead : (ticks : ℕ) (more : List Stretch) → s.orders ≡ stretch.Tick ticks ∷ more → Ahead trace s (tick ticks more s)
  tick_ahead ticks more is =
      let later = later_falls s (s.now + ticks) (omega arith) in
      let lines = ap (λ (l : List Stretch). length l) is in
      core_ahead trace s (tick ticks more s) refl h (λ i there. refl) (unspent trace (tick ticks more s) going) h.timer_paid (omega (arith, later, lines))

  -- Each move leaves less to be done.
  pub advance_ahead : Ahead trace s (advance trace s)
  advance_ahead = by_orders s.orders refl
    where
      by_orders : (l : List Stretch) → s.orders ≡ l → Ahead trace s (advance_by trace l s)
      by_orders [] none = rotate_ahead s.rotation
      by_orders (stretch.Tick ticks ∷ more) is = tick_ahead ticks more is
      by_orders (stretch.Steps i steps ∷ more) is = follow_ahead (stretch.Steps i steps) more is i steps (ahead_of i s) refl (nexts trace s at i)
