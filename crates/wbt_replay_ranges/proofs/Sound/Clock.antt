-- The clock moves to a moment that is waited for; a CPU is stopped; the run is spent.
use Rattle.std.proofs.Common.{◌≡◌, ℕ, zero, suc, ◌+◌, ◌<◌, ◌≤◌, min, true, ltb, Option, Some, None, List, [], ◌∷◌, get_or, All, ◌∙◌, ap, arith}
use Rattle.std.specs.List.{sum_by}
use Rattle.std.proofs.lemmas.Bool.Decides.{nat_tests}
use Rattle.std.proofs.lemmas.List.Sums.{sum_by-cons}
use Rattle.wbt_replay_order.proofs.Common.{Trace, State, no_task, no_flusher, is_drained, Actor, Flusher, ReplayPhase, Stretch, ReplayTask, sooner, task_sooner, phase_sooner, tasks_sooner, flushers_sooner, next_moment, at_moment, move_clock, tick, with_orders, spend, latest, reserve, until_of, ticks_of, Sound, HasRoom, IsStretch}
use Rattle.wbt_replay_moves.specs.declared.state.ReplayPhase.TheVariants as phase
use Rattle.wbt_replay_moves.specs.declared.state.Stretch.TheVariants as stretch
use Rattle.wbt_replay_order.proofs.Facts.Lists.{either}
use Rattle.wbt_replay_order.proofs.Lists.Numbered.{all_rest}
use Rattle.wbt_replay_ranges.proofs.Sound.Things.{clock_going}
use Rattle.wbt_replay_ranges.proofs.Sound.Timers.{nobody_going, nobody_sound}

-- ---- the next moment

-- a moment after this one from which the reserve leads to the latest at most
abbrev MomentFits : (now ticks : ℕ) (found : Option ℕ) → Type 0
MomentFits now ticks None = Unit {0}
MomentFits now ticks (Some m) = (now < m) × (m + ticks ≤ latest)

sooner_fits : (now ticks : ℕ) (found : Option ℕ) (until : ℕ) → MomentFits now ticks found → until + ticks ≤ latest → MomentFits now ticks (sooner now found until)
sooner_fits now ticks None until h u = either (MomentFits now ticks) (ltb now until) (Some until) None (λ later. (grind (arith, nat_tests), u)) (λ over. tt)
sooner_fits now ticks (Some m) until h u = either (MomentFits now ticks) (ltb now until) (Some (min until m)) (Some m)
    (λ later. let l : now < until = grind (arith, nat_tests) in (omega (arith, h.0, l), omega (arith, h.1, u)))
    (λ over. h)

task_fits : (now ticks : ℕ) (found : Option ℕ) (t : ReplayTask) → MomentFits now ticks found → t.rest + ticks ≤ latest → MomentFits now ticks (task_sooner now found t)
task_fits now ticks found t h u = either (MomentFits now ticks) t.ended found (sooner now found t.rest) (λ e. h) (λ e. sooner_fits now ticks found t.rest h u)

phase_fits : (now ticks : ℕ) (found : Option ℕ) (p : ReplayPhase) → MomentFits now ticks found → until_of p + ticks ≤ latest → MomentFits now ticks (phase_sooner now found p)
phase_fits now ticks found (phase.Idle until kept) h u = sooner_fits now ticks found until h u
phase_fits now ticks found (phase.Taken inode) h u = h
phase_fits now ticks found (phase.Scanning scan) h u = h
phase_fits now ticks found (phase.Flying inode pages until) h u = sooner_fits now ticks found until h u
phase_fits now ticks found phase.Finished h u = h

tasks_fit : (now ticks : ℕ) (ts : List ReplayTask) (found : Option ℕ) → MomentFits now ticks found → ((k : ℕ) → (get_or ts k no_task).rest + ticks ≤ latest) → MomentFits now ticks (tasks_sooner now found ts)
unfolding tasks_sooner
tasks_fit now ticks [] found h all = h
tasks_fit now ticks (t ∷ ts) found h all = tasks_fit now ticks ts (task_sooner now found t) (task_fits now ticks found t h (all zero)) (λ k. all (suc k))

flushers_fit : (now ticks : ℕ) (fs : List Flusher) (found : Option ℕ) → MomentFits now ticks found → ((k : ℕ) → until_of (get_or fs k no_flusher).phase + ticks ≤ latest) → MomentFits now ticks (flushers_sooner now found fs)
unfolding flushers_sooner
flushers_fit now ticks [] found h all = h
flushers_fit now ticks (f ∷ fs) found h all = flushers_fit now ticks fs (phase_sooner now found f.phase) (phase_fits now ticks found f.phase h (all zero)) (λ k. all (suc k))

pub next_fits : (trace : Trace) (s : State) → Sound trace s → MomentFits s.now (reserve s + 0) (next_moment s)
next_fits trace s sound =
    let h = sound.holds.horizon in
    let ticks : ℕ = reserve s + 0 in
    let a = tasks_fit s.now ticks s.tasks None tt h.rest in
    let b = flushers_fit s.now ticks s.flushers (tasks_sooner s.now None s.tasks) a h.until in
    let found : Option ℕ = flushers_sooner s.now (tasks_sooner s.now None s.tasks) s.flushers in
    either (MomentFits s.now ticks) (is_drained s) found (sooner s.now found s.timer.next) (λ e. b) (λ e. sooner_fits s.now ticks found s.timer.next b h.timer)

module _ (trace : Trace) (s : State) (sound : Sound trace s) (room : HasRoom trace s) where
  at_kept : (found : Option ℕ) → MomentFits s.now (reserve s + 0) found → Sound trace (at_moment found s) × HasRoom trace (at_moment found s)
  at_kept None h = (sound, room)
  at_kept (Some m) h = nobody_sound trace 0 0 (record s { now = m; rotation = None }) (clock_going trace trace.cpus 0 0 m None s.orders s.spent 0 s (nobody_going trace s sound room)
      (omega (arith, h.0)) sound.holds.orders (omega (arith, h.1)) (omega arith))

  pub clock_kept : Sound trace (move_clock s) × HasRoom trace (move_clock s)
  clock_kept = at_kept (next_moment s) (next_fits trace s sound)

  pub turn_kept : (turn : Option Actor) → Sound trace (record s { rotation = turn }) × HasRoom trace (record s { rotation = turn })
  turn_kept turn = nobody_sound trace 0 0 (record s { rotation = turn }) (clock_going trace trace.cpus 0 0 s.now turn s.orders s.spent 0 s (nobody_going trace s sound room)
      (omega arith) sound.holds.orders (let h = sound.holds.horizon.clock in omega (arith, h)) (omega arith))

  pub spend_kept : Sound trace (spend s) × HasRoom trace (spend s)
  spend_kept = nobody_sound trace 0 0 (spend s) (clock_going trace trace.cpus 0 0 s.now s.rotation s.orders true 0 s (nobody_going trace s sound room)
      (omega arith) sound.holds.orders (let h = sound.holds.horizon.clock in omega (arith, h)) (omega arith))

  pub orders_kept : (orders : List Stretch) → All (IsStretch trace) orders → sum_by ticks_of orders ≤ sum_by ticks_of s.orders → Sound trace (with_orders orders s) × HasRoom trace (with_orders orders s)
  orders_kept orders fits fewer = nobody_sound trace 0 0 (with_orders orders s) (clock_going trace trace.cpus 0 0 s.now s.rotation orders s.spent 0 s (nobody_going trace s sound room)
      (omega arith) fits (let h = sound.holds.horizon.clock in omega (arith, h, fewer)) (omega (arith, fewer)))

  pub tick_kept : (ticks : ℕ) (more : List Stretch) → s.orders ≡ stretch.Tick ticks ∷ more → Sound trace (tick ticks more s) × HasRoom trace (tick ticks more s)
  tick_kept ticks more first =
      let parts = all_rest (IsStretch trace) s.orders (stretch.Tick ticks) more first sound.holds.orders in
      let sums : sum_by ticks_of s.orders ≡ ticks + sum_by ticks_of more = ap (sum_by ticks_of) first ∙ sum_by-cons ticks_of (stretch.Tick ticks) more in
      nobody_sound trace 0 0 (tick ticks more s) (clock_going trace trace.cpus 0 0 (s.now + ticks) s.rotation more s.spent 0 s (nobody_going trace s sound room)
      (omega arith) parts.1 (let h = sound.holds.horizon.clock in omega (arith, h, sums)) (omega (arith, sums)))
