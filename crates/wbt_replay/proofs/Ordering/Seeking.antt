-- A search in the round, one try after another.
use Rattle.std.proofs.Common.{◌≡◌, ℕ, zero, suc, ◌+◌, ◌<◌, ◌≤◌, Bool, true, false, cond, ltb, List, length, get_or, Option, Some, None, refl, sym, ◌∙◌, ap, subst, arith}
use Rattle.std.proofs.lemmas.Bool.Decides.{nat_tests}
use Rattle.wbt_replay_order.proofs.Common.{Trace, State, cpu_of, task_of, Actor, Cpu, ReplayJob, actor_at, after, ahead_of, chance_by, chance_of, is_nothing, is_task_ready, job_at, job_turn, move_clock, seek_job, seek_turn, take, take_turn, task_turn, turn_at, seek_actor}
use Rattle.wbt_replay_moves.specs.declared.state.Actor.TheVariants as who
use Rattle.wbt_replay_moves.specs.declared.state.ReplayJob.TheVariants as job
use Rattle.wbt_replay_order.specs.Kept.Seeks.{found_at}
use Rattle.wbt_replay_order.specs.declared.chance.Ahead.{Ahead}
use Rattle.wbt_replay_order.specs.declared.chance.Ahead.TheVariants as ahead
use Rattle.wbt_replay_order.specs.declared.chance.Found.{Found}
use Rattle.wbt_replay_order.specs.declared.chance.Chance.{Chance}
use Rattle.wbt_replay_order.specs.declared.chance.Chance.TheVariants as chance
use Rattle.wbt_replay_order.proofs.Facts.Actors.{ahead_still}

-- the number after one is one of those that go round
pub after_below : (count n : ℕ) → 1 ≤ count → after count n < count
after_below count n some = by_last (ltb (n + 1) count) refl
  where
    by_last : (b : Bool) → ltb (n + 1) count ≡ b → cond b (n + 1) 0 < count
    by_last true is = grind (arith, nat_tests)
    by_last false is = some

module _ (job : ℕ) (tasks : List ℕ) (s : State) where
  pub task_none : (tries n : ℕ) → tries ≡ 0 → task_turn job tasks s tries n ≡ chance.Nothing
  unfolding task_turn
  task_none zero n is = refl
  task_none (suc tries) n is = absurd (omega arith)

  pub task_hit : (tries n : ℕ) → 1 ≤ tries → is_task_ready s.now (task_of (get_or tasks n 0) s) ≡ true → task_turn job tasks s tries n ≡ chance.Begins job n
  unfolding task_turn
  task_hit zero n some hit = absurd (omega arith)
  task_hit (suc tries) n some hit =
      ap (λ b. elim b as (λ _. Chance) [ true ↦ chance.Begins job n | false ↦ task_turn job tasks s tries (after (length tasks) n) ]) hit

  pub task_miss : (tries less n : ℕ) → tries ≡ less + 1 → is_task_ready s.now (task_of (get_or tasks n 0) s) ≡ false
      → task_turn job tasks s tries n ≡ task_turn job tasks s less (after (length tasks) n)
  unfolding task_turn
  task_miss zero less n is miss = absurd (omega arith)
  task_miss (suc tries) less n is miss =
      let same : tries ≡ less = omega arith in
      ap (λ b. elim b as (λ _. Chance) [ true ↦ chance.Begins job n | false ↦ task_turn job tasks s tries (after (length tasks) n) ]) miss
      ∙ ap (λ k. task_turn job tasks s k (after (length tasks) n)) same

module _ (c : Cpu) (s : State) where
  pub job_none : (tries n : ℕ) → tries ≡ 0 → seek_job c s tries n ≡ chance.Nothing
  unfolding seek_job
  job_none zero n is = refl
  job_none (suc tries) n is = absurd (omega arith)

  pub job_hit : (tries n : ℕ) → 1 ≤ tries → is_nothing (job_turn c s n (job_at n c)) ≡ false → seek_job c s tries n ≡ job_turn c s n (job_at n c)
  unfolding seek_job
  job_hit zero n some hit = absurd (omega arith)
  job_hit (suc tries) n some hit =
      ap (λ b. elim b as (λ _. Chance) [ true ↦ seek_job c s tries (after (length c.jobs) n) | false ↦ job_turn c s n (job_at n c) ]) hit

  pub job_miss : (tries less n : ℕ) → tries ≡ less + 1 → is_nothing (job_turn c s n (job_at n c)) ≡ true
      → seek_job c s tries n ≡ seek_job c s less (after (length c.jobs) n)
  unfolding seek_job
  job_miss zero less n is miss = absurd (omega arith)
  job_miss (suc tries) less n is miss =
      let same : tries ≡ less = omega arith in
      ap (λ b. elim b as (λ _. Chance) [ true ↦ seek_job c s tries (after (length c.jobs) n) | false ↦ job_turn c s n (job_at n c) ]) miss
      ∙ ap (λ k. seek_job c s k (after (length c.jobs) n)) same

-- ---- actors

module _ (s : State) where
  pub actor_none : (tries n : ℕ) → tries ≡ 0 → seek_actor s tries n ≡ None
  unfolding seek_actor
  actor_none zero n is = refl
  actor_none (suc tries) n is = absurd (omega arith)

  pub actor_hit : (tries n : ℕ) → 1 ≤ tries → is_nothing (chance_of (actor_at n s) s) ≡ false → seek_actor s tries n ≡ Some (found_at (actor_at n s) s)
  unfolding seek_actor
  actor_hit zero n some hit = absurd (omega arith)
  actor_hit (suc tries) n some hit =
      ap (λ b. elim b as (λ _. Option Found) [ true ↦ seek_actor s tries (after (length s.cpus + 1) n) | false ↦ Some (found_at (actor_at n s) s) ]) hit

  pub actor_miss : (tries less n : ℕ) → tries ≡ less + 1 → is_nothing (chance_of (actor_at n s) s) ≡ true
      → seek_actor s tries n ≡ seek_actor s less (after (length s.cpus + 1) n)
  unfolding seek_actor
  actor_miss zero less n is miss = absurd (omega arith)
  actor_miss (suc tries) less n is miss =
      let same : tries ≡ less = omega arith in
      ap (λ b. elim b as (λ _. Option Found) [ true ↦ seek_actor s tries (after (length s.cpus + 1) n) | false ↦ Some (found_at (actor_at n s) s) ]) miss
      ∙ ap (λ k. seek_actor s k (after (length s.cpus + 1) n)) same

-- what the rotation does with the actor that was found
abbrev pub turn_with : (trace : Trace) (s : State) (found : Option Found) → State
turn_with trace s None = move_clock s
turn_with trace s (Some f) = take trace f.actor f.chance (record s { rotation = Some f.actor })

pub turn_is : (trace : Trace) (tries n : ℕ) (s : State) → seek_turn trace tries n s ≡ turn_with trace s (seek_actor s tries n)
unfolding seek_turn seek_actor
turn_is trace zero n s = refl
turn_is trace (suc tries) n s = by_nothing (is_nothing (chance_of (actor_at n s) s)) (turn_is trace tries (after (length s.cpus + 1) n) s)
  where
    by_nothing : (b : Bool) → seek_turn trace tries (after (length s.cpus + 1) n) s ≡ turn_with trace s (seek_actor s tries (after (length s.cpus + 1) n))
        → elim b as (λ _. State) [ true ↦ seek_turn trace tries (after (length s.cpus + 1) n) s | false ↦ take_turn trace (actor_at n s) s ]
        ≡ turn_with trace s (elim b as (λ _. Option Found) [ true ↦ seek_actor s tries (after (length s.cpus + 1) n) | false ↦ Some (found_at (actor_at n s) s) ])
    by_nothing true behind = behind
    by_nothing false behind = refl

-- What was found is what that actor can do.
pub found_is : (s : State) (tries n : ℕ) (f : Found) → seek_actor s tries n ≡ Some f → chance_of f.actor s ≡ f.chance
unfolding seek_actor
found_is s zero n f is = absurd (cc is)
found_is s (suc tries) n f is =
    by_nothing (is_nothing (chance_of (actor_at n s) s)) is (λ later. found_is s tries (after (length s.cpus + 1) n) f later)
  where
    by_nothing : (b : Bool) → elim b as (λ _. Option Found) [ true ↦ seek_actor s tries (after (length s.cpus + 1) n) | false ↦ Some (found_at (actor_at n s) s) ] ≡ Some f
        → (seek_actor s tries (after (length s.cpus + 1) n) ≡ Some f → chance_of f.actor s ≡ f.chance) → chance_of f.actor s ≡ f.chance
    by_nothing true is behind = behind is
    by_nothing false is behind =
        let same : found_at (actor_at n s) s ≡ f = cc is in
        subst (λ (g : Found). chance_of g.actor s ≡ g.chance) same refl

-- ---- an actor never goes on where it has nothing ahead

task_begins : (job : ℕ) (tasks : List ℕ) (s : State) (tries n : ℕ) → task_turn job tasks s tries n ≡ chance.GoesOn → ⊥
unfolding task_turn
task_begins job tasks s zero n is = cc is
task_begins job tasks s (suc tries) n is = by_ready (is_task_ready s.now (task_of (get_or tasks n 0) s)) is (task_begins job tasks s tries (after (length tasks) n))
  where
    by_ready : (b : Bool) → elim b as (λ _. Chance) [ true ↦ chance.Begins job n | false ↦ task_turn job tasks s tries (after (length tasks) n) ] ≡ chance.GoesOn
        → (task_turn job tasks s tries (after (length tasks) n) ≡ chance.GoesOn → ⊥) → ⊥
    by_ready true is behind = cc is
    by_ready false is behind = behind is

either_begins : (b : Bool) (job place : ℕ) → cond b (chance.Begins job place) chance.Nothing ≡ chance.GoesOn → ⊥
either_begins true job place is = cc is
either_begins false job place is = cc is

job_begins : (c : Cpu) (s : State) (place : ℕ) (j : ReplayJob) → job_turn c s place j ≡ chance.GoesOn → ⊥
job_begins c s place job.Writer is = task_begins place c.tasks s (length c.tasks) c.next_task is
job_begins c s place (job.Flusher flusher) is = either_begins _ place 0 is

cpu_begins : (c : Cpu) (s : State) (tries n : ℕ) → seek_job c s tries n ≡ chance.GoesOn → ⊥
unfolding seek_job
cpu_begins c s zero n is = cc is
cpu_begins c s (suc tries) n is = by_nothing (is_nothing (job_turn c s n (job_at n c))) is (cpu_begins c s tries (after (length c.jobs) n))
  where
    by_nothing : (b : Bool) → elim b as (λ _. Chance) [ true ↦ seek_job c s tries (after (length c.jobs) n) | false ↦ job_turn c s n (job_at n c) ] ≡ chance.GoesOn
        → (seek_job c s tries (after (length c.jobs) n) ≡ chance.GoesOn → ⊥) → ⊥
    by_nothing true is behind = behind is
    by_nothing false is behind = job_begins c s n (job_at n c) is

timer_begins : (b : Bool) → cond b chance.TimerBegins chance.Nothing ≡ chance.GoesOn → ⊥
timer_begins true is = cc is
timer_begins false is = cc is

stopped_begins : (c : Cpu) (s : State) (stopped : Bool) → cond stopped chance.Nothing (seek_job c s (length c.jobs) c.next) ≡ chance.GoesOn → ⊥
stopped_begins c s true is = cc is
stopped_begins c s false is = cpu_begins c s (length c.jobs) c.next is

pub turn_begins : (s : State) (actor : Actor) → turn_at actor s ≡ chance.GoesOn → ⊥
turn_begins s (who.Cpu cpu) is = stopped_begins (cpu_of cpu s) s (cpu_of cpu s).stopped is
turn_begins s who.Timer is = timer_begins _ is

pub goes_on : (s : State) (actor : Actor) → chance_of actor s ≡ chance.GoesOn → ahead_of actor s ≡ ahead.Nothing → ⊥
goes_on s actor is none = turn_begins s actor (sym (ap (λ (a : Ahead). chance_by a actor s) none) ∙ is)

pub begins_at : (s : State) (actor : Actor) (job place : ℕ) → chance_of actor s ≡ chance.Begins job place → turn_at actor s ≡ chance.Begins job place
begins_at s actor job place is = by_ahead (ahead_of actor s) is
  where
    by_ahead : (a : Ahead) → chance_by a actor s ≡ chance.Begins job place → turn_at actor s ≡ chance.Begins job place
    by_ahead ahead.Step is = absurd (cc is)
    by_ahead ahead.Silent is = absurd (cc is)
    by_ahead ahead.Nothing is = is

-- ---- whose turn it is changes nothing of what an actor can do

module _ (s : State) (turn : Option Actor) where
  abbrev pub moved_to : State
  moved_to = record s { rotation = turn }

  same_task : (job : ℕ) (tasks : List ℕ) (tries n : ℕ) → task_turn job tasks moved_to tries n ≡ task_turn job tasks s tries n
  unfolding task_turn
  same_task job tasks zero n = refl
  same_task job tasks (suc tries) n =
      ap (λ (x : Chance). elim (is_task_ready s.now (task_of (get_or tasks n 0) s)) as (λ _. Chance) [ true ↦ chance.Begins job n | false ↦ x ]) (same_task job tasks tries (after (length tasks) n))

  same_job : (c : Cpu) (place : ℕ) (j : ReplayJob) → job_turn c moved_to place j ≡ job_turn c s place j
  same_job c place job.Writer = same_task place c.tasks (length c.tasks) c.next_task
  same_job c place (job.Flusher flusher) = refl

  same_seek : (c : Cpu) (tries n : ℕ) → seek_job c moved_to tries n ≡ seek_job c s tries n
  unfolding seek_job
  same_seek c zero n = refl
  same_seek c (suc tries) n =
      ap (λ (x : Chance). elim (is_nothing x) as (λ _. Chance) [ true ↦ seek_job c moved_to tries (after (length c.jobs) n) | false ↦ x ]) (same_job c n (job_at n c))
      ∙ ap (λ (y : Chance). elim (is_nothing (job_turn c s n (job_at n c))) as (λ _. Chance) [ true ↦ y | false ↦ job_turn c s n (job_at n c) ]) (same_seek c tries (after (length c.jobs) n))

  same_turn : (actor : Actor) → turn_at actor moved_to ≡ turn_at actor s
  same_turn (who.Cpu cpu) =
      ap (λ (x : Chance). cond (cpu_of cpu s).stopped chance.Nothing x) (same_seek (cpu_of cpu s) (length (cpu_of cpu s).jobs) (cpu_of cpu s).next)
  same_turn who.Timer = refl

  pub same_chance : (actor : Actor) → chance_of actor moved_to ≡ chance_of actor s
  same_chance actor = ap (λ (a : Ahead). chance_by a actor moved_to) (ahead_still actor s moved_to refl refl refl) ∙ by_ahead (ahead_of actor s)
    where
      by_ahead : (a : Ahead) → chance_by a actor moved_to ≡ chance_by a actor s
      by_ahead ahead.Step = refl
      by_ahead ahead.Silent = refl
      by_ahead ahead.Nothing = same_turn actor
