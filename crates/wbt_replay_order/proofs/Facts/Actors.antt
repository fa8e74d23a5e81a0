-- Who is there: a CPU that isn't has nothing ahead, and no turn; and who has a place in the rotation.
use Rattle.std.proofs.Common.{◌≡◌, ℕ, ◌+◌, ◌<◌, ◌≤◌, cond, eqb, ltb, List, length, get_or, Option, Some, None, sym, ◌∙◌, ap, arith, ⊎_elim}
use Rattle.std.proofs.lemmas.Bool.{cases_lt, cond-true, cond-false}
use Rattle.std.proofs.lemmas.Bool.Decides.{nat_tests}
use Rattle.std.proofs.lemmas.List.{get_or_past}
use Rattle.wbt_replay_order.proofs.Common.{State, no_cpu, Actor, Cpu, Timer, actor_at, ahead_of, cpu_ahead, cpu_turn, place_after, seek_job, timer_todo_ahead, turn_at}
use Rattle.wbt_replay_moves.specs.declared.state.Actor.TheVariants as who
use Rattle.wbt_replay_order.specs.declared.chance.Ahead.TheVariants as ahead
use Rattle.wbt_replay_order.specs.declared.chance.Chance.TheVariants as chance
use Rattle.wbt_replay_order.proofs.Facts.Lists.{either}

-- ---- CPUs

module _ (s : State) (i : ℕ) where
  pub past_ahead : length s.cpus ≤ i → ahead_of (who.Cpu i) s ≡ ahead.Nothing
  past_ahead past = ap cpu_ahead (get_or_past s.cpus i no_cpu past)

  pub past_turn : length s.cpus ≤ i → turn_at (who.Cpu i) s ≡ chance.Nothing
  unfolding seek_job
  past_turn past = ap (λ (c : Cpu). cpu_turn c s) (get_or_past s.cpus i no_cpu past)

  pub there_by_ahead : (ahead_of (who.Cpu i) s ≡ ahead.Nothing → ⊥) → i < length s.cpus
  there_by_ahead some = ⊎_elim (λ less. less) (λ past. absurd (some (past_ahead past))) (cases_lt i (length s.cpus))

  pub there_by_turn : (job place : ℕ) → turn_at (who.Cpu i) s ≡ chance.Begins job place → i < length s.cpus
  there_by_turn job place is = ⊎_elim (λ less. less) (λ past. absurd (cc (sym (past_turn past) ∙ is))) (cases_lt i (length s.cpus))

-- ---- any actor

-- the same is ahead where the CPUs, the tasks that run and the timer are the same
pub ahead_still : (a : Actor) (s t : State) → t.cpus ≡ s.cpus → t.running ≡ s.running → t.timer ≡ s.timer → ahead_of a t ≡ ahead_of a s
ahead_still (who.Cpu i) s t cpus running timer = ap (λ (l : List Cpu). cpu_ahead (get_or l i no_cpu)) cpus
ahead_still who.Timer s t cpus running timer =
    ap (λ (n : ℕ). cond (eqb n 0) ahead.Nothing (timer_todo_ahead t.timer.todo)) running
    ∙ ap (λ (m : Timer). cond (eqb s.running 0) ahead.Nothing (timer_todo_ahead m.todo)) timer

-- ---- places in the rotation

pub cpu_at : (s : State) (i : ℕ) → i < length s.cpus → actor_at i s ≡ who.Cpu i
cpu_at s i less = cond-true (ltb i (length s.cpus)) (who.Cpu i) who.Timer (grind (arith, nat_tests))

pub timer_at : (s : State) → actor_at (length s.cpus) s ≡ who.Timer
timer_at s = cond-false (ltb (length s.cpus) (length s.cpus)) (who.Cpu (length s.cpus)) who.Timer (grind (arith, nat_tests))

-- the place after a turn is one of them
pub place_below : (turn : Option Actor) (s : State) → place_after turn s < length s.cpus + 1
place_below None s = omega arith
place_below (Some (who.Cpu cpu)) s =
    either (λ (k : ℕ). k < length s.cpus + 1) (ltb cpu (length s.cpus)) (cpu + 1) 0 (λ is. grind (arith, nat_tests)) (λ is. omega arith)
place_below (Some who.Timer) s = omega arith
