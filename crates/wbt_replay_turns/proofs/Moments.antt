-- The moment that the clock moves to is the least one ahead at which something ends.
use Rattle.std.proofs.Common.{◌≡◌, ℕ, zero, suc, ◌<◌, ◌≤◌, min, false, ltb, List, [], ◌∷◌, length, get_or, Option, Some, None, ⊎_elim, refl, sym, subst, arith}
use Rattle.std.proofs.lemmas.Bool.{cases_lt, cond-false}
use Rattle.std.proofs.lemmas.Bool.Decides.{nat_tests}
use Rattle.wbt_replay_order.proofs.Common.{State, no_task, no_flusher, is_drained, Flusher, ReplayPhase, ReplayTask, sooner, task_sooner, phase_sooner, tasks_sooner, flushers_sooner, next_moment}
use Rattle.wbt_replay_moves.specs.declared.state.ReplayPhase.TheVariants as phase
use Rattle.wbt_replay_order.specs.Definition.Order.{timer_sooner}
use Rattle.wbt_replay_order.proofs.Facts.Lists.{either}
use Rattle.wbt_replay_turns.specs.Clock.{EndsAt, IsNextMoment, rest, idle, flight, wait}

-- ---- what was found is ahead, and something ends at it

abbrev pub IsGood : (s : State) (found : Option ℕ) → Type 0
IsGood s None = Unit {0}
IsGood s (Some moment) = (s.now < moment) × EndsAt s moment

sooner_good : (s : State) (found : Option ℕ) (until : ℕ) → EndsAt s until → IsGood s found → IsGood s (sooner s.now found until)
sooner_good s None until ends h = either (IsGood s) (ltb s.now until) (Some until) None (λ is. (grind (arith, nat_tests), ends)) (λ no. tt)
sooner_good s (Some moment) until ends h =
    either (IsGood s) (ltb s.now until) (Some (min until moment)) (Some moment)
    (λ is.
    let ahead : s.now < until = grind (arith, nat_tests) in
    ⊎_elim
    (λ before. let same : min until moment ≡ until = omega (arith, before) in subst (λ (m : ℕ). IsGood s (Some m)) (sym same) (ahead, ends))
    (λ behind. let same : min until moment ≡ moment = omega (arith, behind) in subst (λ (m : ℕ). IsGood s (Some m)) (sym same) h)
    (cases_lt until moment))
    (λ no. h)

task_good : (s : State) (found : Option ℕ) (t : ReplayTask) → (t.ended ≡ false → EndsAt s t.rest) → IsGood s found → IsGood s (task_sooner s.now found t)
task_good s found t ends h = either (IsGood s) t.ended found (sooner s.now found t.rest) (λ over. h) (λ on. sooner_good s found t.rest (ends on) h)

tasks_good : (s : State) (ts : List ReplayTask) (found : Option ℕ)
    → ((k : ℕ) → k < length ts → (get_or ts k no_task).ended ≡ false → EndsAt s (get_or ts k no_task).rest)
    → IsGood s found → IsGood s (tasks_sooner s.now found ts)
unfolding tasks_sooner
tasks_good s [] found each h = h
tasks_good s (t ∷ ts) found each h =
    tasks_good s ts (task_sooner s.now found t) (λ k less. each (suc k) (omega (arith, less))) (task_good s found t (each zero (omega arith)) h)

-- what ends in a phase
abbrev PhaseEnds : (s : State) (p : ReplayPhase) → Type 0
PhaseEnds s (phase.Idle until kept) = EndsAt s until
PhaseEnds s (phase.Taken inode) = Unit {0}
PhaseEnds s (phase.Scanning scan) = Unit {0}
PhaseEnds s (phase.Flying inode pages until) = EndsAt s until
PhaseEnds s phase.Finished = Unit {0}

phase_good : (s : State) (found : Option ℕ) (p : ReplayPhase) → PhaseEnds s p → IsGood s found → IsGood s (phase_sooner s.now found p)
phase_good s found (phase.Idle until kept) ends h = sooner_good s found until ends h
phase_good s found (phase.Taken inode) ends h = h
phase_good s found (phase.Scanning scan) ends h = h
phase_good s found (phase.Flying inode pages until) ends h = sooner_good s found until ends h
phase_good s found phase.Finished ends h = h

flushers_good : (s : State) (fs : List Flusher) (found : Option ℕ) → ((k : ℕ) → k < length fs → PhaseEnds s (get_or fs k no_flusher).phase)
    → IsGood s found → IsGood s (flushers_sooner s.now found fs)
unfolding flushers_sooner
flushers_good s [] found each h = h
flushers_good s (f ∷ fs) found each h =
    flushers_good s fs (phase_sooner s.now found f.phase) (λ k less. each (suc k) (omega (arith, less))) (phase_good s found f.phase (each zero (omega arith)) h)

module _ (s : State) where
  flusher_ends : (k : ℕ) → k < length s.flushers → (p : ReplayPhase) → (get_or s.flushers k no_flusher).phase ≡ p → PhaseEnds s p
  flusher_ends k there (phase.Idle until kept) is = idle k (record { there = there; kept = kept; until = is })
  flusher_ends k there (phase.Taken inode) is = tt
  flusher_ends k there (phase.Scanning scan) is = tt
  flusher_ends k there (phase.Flying inode pages until) is = flight k (record { there = there; inode = inode; pages = pages; until = is })
  flusher_ends k there phase.Finished is = tt

  next_good : IsGood s (next_moment s)
  next_good =
      let tasks = tasks_good s s.tasks None (λ k there on. rest k (record { there = there; ongoing = on; until = refl })) tt in
      let flushers = flushers_good s s.flushers (tasks_sooner s.now None s.tasks) (λ k there. flusher_ends k there (get_or s.flushers k no_flusher).phase refl) tasks in
      either (IsGood s) (is_drained s) _ _ (λ drained. flushers) (λ running. sooner_good s _ s.timer.next (wait (record { running = running; until = refl })) flushers)

-- ---- it is the least

-- what was found is no later than a moment
abbrev pub AtMost : (found : Option ℕ) (moment : ℕ) → Type 0
AtMost None moment = ⊥
AtMost (Some least) moment = least ≤ moment

module _ (now moment : ℕ) where
  sooner_keeps : (found : Option ℕ) (until : ℕ) → AtMost found moment → AtMost (sooner now found until) moment
  sooner_keeps None until h = absurd h
  sooner_keeps (Some least) until h =
      either (λ (found : Option ℕ). AtMost found moment) (ltb now until) (Some (min until least)) (Some least)
      (λ is. let low : min until least ≤ least = omega arith in omega (arith, low, h)) (λ no. h)

  task_keeps : (found : Option ℕ) (t : ReplayTask) → AtMost found moment → AtMost (task_sooner now found t) moment
  task_keeps found t h =
      either (λ (f : Option ℕ). AtMost f moment) t.ended found (sooner now found t.rest) (λ over. h) (λ on. sooner_keeps found t.rest h)

  tasks_keep : (ts : List ReplayTask) (found : Option ℕ) → AtMost found moment → AtMost (tasks_sooner now found ts) moment
  unfolding tasks_sooner
  tasks_keep [] found h = h
  tasks_keep (t ∷ ts) found h = tasks_keep ts (task_sooner now found t) (task_keeps found t h)

  phase_keeps : (found : Option ℕ) (p : ReplayPhase) → AtMost found moment → AtMost (phase_sooner now found p) moment
  phase_keeps found (phase.Idle until kept) h = sooner_keeps found until h
  phase_keeps found (phase.Taken inode) h = h
  phase_keeps found (phase.Scanning scan) h = h
  phase_keeps found (phase.Flying inode pages until) h = sooner_keeps found until h
  phase_keeps found phase.Finished h = h

  flushers_keep : (fs : List Flusher) (found : Option ℕ) → AtMost found moment → AtMost (flushers_sooner now found fs) moment
  unfolding flushers_sooner
  flushers_keep [] found h = h
  flushers_keep (f ∷ fs) found h = flushers_keep fs (phase_sooner now found f.phase) (phase_keeps found f.phase h)

  module _ (later : now < moment) where
    sooner_here : (found : Option ℕ) (until : ℕ) → until ≡ moment → AtMost (sooner now found until) moment
    sooner_here None until is =
        either (λ (found : Option ℕ). AtMost found moment) (ltb now until) (Some until) None
        (λ less. omega (arith, is)) (λ no. let past : until ≤ now = grind (arith, nat_tests) in absurd (omega (arith, past, is, later)))
    sooner_here (Some least) until is =
        either (λ (found : Option ℕ). AtMost found moment) (ltb now until) (Some (min until least)) (Some least)
        (λ less. let low : min until least ≤ until = omega arith in omega (arith, low, is))
        (λ no. let past : until ≤ now = grind (arith, nat_tests) in absurd (omega (arith, past, is, later)))

    task_here : (found : Option ℕ) (t : ReplayTask) → t.ended ≡ false → t.rest ≡ moment → AtMost (task_sooner now found t) moment
    task_here found t on is =
        subst (λ (f : Option ℕ). AtMost f moment) (sym (cond-false t.ended found (sooner now found t.rest) on)) (sooner_here found t.rest is)

    tasks_here : (ts : List ReplayTask) (k : ℕ) (found : Option ℕ) → k < length ts → (get_or ts k no_task).ended ≡ false → (get_or ts k no_task).rest ≡ moment
        → AtMost (tasks_sooner now found ts) moment
    unfolding tasks_sooner
    tasks_here [] k found there on is = absurd (omega (arith, there))
    tasks_here (t ∷ ts) zero found there on is = tasks_keep ts (task_sooner now found t) (task_here found t on is)
    tasks_here (t ∷ ts) (suc k) found there on is = tasks_here ts k (task_sooner now found t) (omega (arith, there)) on is

    flushers_here : (fs : List Flusher) (k : ℕ) (found : Option ℕ) → k < length fs
        → ((f : Option ℕ) → AtMost (phase_sooner now f (get_or fs k no_flusher).phase) moment) → AtMost (flushers_sooner now found fs) moment
    unfolding flushers_sooner
    flushers_here [] k found there ends = absurd (omega (arith, there))
    flushers_here (f ∷ fs) zero found there ends = flushers_keep fs (phase_sooner now found f.phase) (ends found)
    flushers_here (f ∷ fs) (suc k) found there ends = flushers_here fs k (phase_sooner now found f.phase) (omega (arith, there)) ends

module _ (s : State) (moment : ℕ) (later : s.now < moment) where
  timer_keeps : (found : Option ℕ) → AtMost found moment → AtMost (timer_sooner s found) moment
  timer_keeps found h =
      either (λ (f : Option ℕ). AtMost f moment) (is_drained s) found (sooner s.now found s.timer.next) (λ drained. h) (λ running. sooner_keeps s.now moment found s.timer.next h)

  found_tasks : Option ℕ
  found_tasks = tasks_sooner s.now None s.tasks

  next_least : EndsAt s moment → AtMost (next_moment s) moment
  unfolding found_tasks
  next_least (rest task r) =
      timer_keeps (flushers_sooner s.now found_tasks s.flushers)
      (flushers_keep s.now moment s.flushers found_tasks (tasks_here s.now moment later s.tasks task None r.there r.ongoing r.until))
  next_least (idle flusher r) =
      timer_keeps (flushers_sooner s.now found_tasks s.flushers)
      (flushers_here s.now moment later s.flushers flusher found_tasks r.there
      (λ f. subst (λ (p : ReplayPhase). AtMost (phase_sooner s.now f p) moment) (sym r.until) (sooner_here s.now moment later f moment refl)))
  next_least (flight flusher r) =
      timer_keeps (flushers_sooner s.now found_tasks s.flushers)
      (flushers_here s.now moment later s.flushers flusher found_tasks r.there
      (λ f. subst (λ (p : ReplayPhase). AtMost (phase_sooner s.now f p) moment) (sym r.until) (sooner_here s.now moment later f moment refl)))
  next_least (wait r) =
      let found = flushers_sooner s.now found_tasks s.flushers in
      subst (λ (f : Option ℕ). AtMost f moment) (sym (cond-false (is_drained s) found (sooner s.now found s.timer.next) r.running))
      (sooner_here s.now moment later found s.timer.next r.until)

-- ---- the clock's next moment

pub next_is : (s : State) (m : ℕ) → next_moment s ≡ Some m → IsNextMoment s m
next_is s m is =
    let good = subst (IsGood s) is (next_good s) in
    record {
      ahead = good.0;
      ends = good.1;
      least = λ other later ends. subst (λ (f : Option ℕ). AtMost f other) is (next_least s other later ends);
    }
