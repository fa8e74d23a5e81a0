-- What a sound state gives each move of the timer.
use Rattle.std.proofs.Common.{◌≡◌, ℕ, zero, suc, ◌^◌, ◌<◌, List, ◌∷◌, length, All, subst, arith}
use Rattle.std.proofs.lemmas.List.Elements.{All-head}
use Rattle.wbt_replay_order.proofs.Common.{domains, Trace, State, domain_of, with_timer, TimerSilent, TimerStep, TimerTodo, Facts, Sound, TimerItemFits}
use Rattle.wbt_replay_moves.specs.Kept.Fit.{CanTimerStep, CanTimerMove}
use Rattle.wbt_rules.specs.Thresholds.{DomainFits}
use Rattle.wbt_replay_moves.specs.declared.todo.TimerSilent.TheVariants as silent
use Rattle.wbt_replay_moves.specs.declared.todo.TimerStep.TheVariants as step
use Rattle.wbt_replay_moves.specs.declared.todo.TimerTodo.TheVariants as todo
use Rattle.wbt_replay_order.proofs.Facts.Things.{moment_fits}

module _ (trace : Trace) (facts : Facts trace) (s : State) (sound : Sound trace s) where
  -- ---- what its items name

  cpus_few : length s.cpus < 2 ^ 32
  cpus_few = omega (arith, sound.holds.cpus.many, facts.few_cpus)

  domains_few : length s.domains < 2 ^ 16
  domains_few = omega (arith, sound.holds.domains.many, facts.few_cgroups)

  hard_small : s.timer.limits.hard < 2 ^ 32
  hard_small = omega (arith, sound.holds.timer.limits.hard_in_range)

  domain_there : (d : ℕ) → d < domains trace → d < length s.domains
  domain_there d less = omega (arith, less, sound.holds.domains.many)

  domain_fits : (d : ℕ) → d < domains trace → DomainFits trace d
  domain_fits zero less = tt
  domain_fits (suc g) less = let there : g < length trace.cgroups = omega (arith, less) in (there, (facts.cgroups g there).0, (facts.cgroups g there).1)

  has_next : (d : ℕ) → (domain_of d s).sequence < 2 ^ 62
  has_next d = let was = (sound.holds.domains.each d).sequence in let few = sound.holds.few in let long = sound.holds.long in omega (arith, was, few, long)

  item_is : (t : TimerTodo) (ts : List TimerTodo) → s.timer.todo ≡ t ∷ ts → TimerItemFits trace t
  item_is t ts first = All-head (TimerItemFits trace) t ts (subst (All (TimerItemFits trace)) first sound.holds.timer.todo)

  -- ---- each move

  pub timer_step_fits : (item : TimerStep) (ts : List TimerTodo) → s.timer.todo ≡ todo.Step item ∷ ts → CanTimerStep trace item (with_timer (record s.timer { todo = ts }) s)
  unfolding CanTimerStep
  timer_step_fits (step.Count d) ts first = let fits = item_is (todo.Step (step.Count d)) ts first in (cpus_few, domain_there d fits, domain_fits d fits)
  timer_step_fits (step.Peak d) ts first = (cpus_few, domain_there d (item_is (todo.Step (step.Peak d)) ts first), domains_few, hard_small)
  timer_step_fits (step.Unseal d) ts first = (cpus_few, domain_there d (item_is (todo.Step (step.Unseal d)) ts first), has_next d)
  timer_step_fits (step.Thresh d) ts first = cpus_few
  timer_step_fits (step.Publish d) ts first = (cpus_few, domain_there d (item_is (todo.Step (step.Publish d)) ts first), has_next d)

  pub timer_move_fits : (item : TimerSilent) (ts : List TimerTodo) → s.timer.todo ≡ todo.Silent item ∷ ts → CanTimerMove item (with_timer (record s.timer { todo = ts }) s)
  unfolding CanTimerMove
  timer_move_fits (silent.Period d) ts first = domain_there d (item_is (todo.Silent (silent.Period d)) ts first)
  timer_move_fits silent.Rest ts first = record {
    began = omega (arith, sound.holds.timer.began, moment_fits trace facts s sound);
    period = omega (arith, sound.holds.timer.period, moment_fits trace facts s sound);
  }
