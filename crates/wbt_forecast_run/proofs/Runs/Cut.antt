-- The run is let on from a state whose lists are cut where it is from the whole one, and so each of its moves is the same.
use Rattle.std.proofs.Common.{◌≡◌, ℕ, ◌+◌, ◌-◌, ◌*◌, ◌≤◌, Bool, true, false, ◌&&◌, cond, nat_le, List, [], ◌∷◌, length, replicate, drop, refl, ◌∙◌, ap, ap₂, length-append, length-drop, arith}
use Rattle.std.specs.List.{sum_by, list_all}
use Rattle.std.proofs.lemmas.List.{length-replicate}
use Rattle.std.proofs.lemmas.List.Sums.{sum_by-cons}
use Rattle.wbt_replay_order.proofs.Common.{MOST_STEPS, StepEntry, Trace, extended, State, no_step, Cpu, Domain, Writeback, advance, is_ended, is_full, fits_further, latest_moment, credit_of, latest, most_ever, rests_of, step_ticks, ticks_of, timer_credit}
use Rattle.wbt_replay_order.specs.Kept.Further.{takes_folds}
use Rattle.wbt_replay_order.proofs.Facts.Lists.{either}
use Rattle.wbt_replay_cut.specs.Cut.{Told, of_others, cut_steps, cut_cpu, cut_cpus, cut, IsWithin}
use Rattle.wbt_replay_cut.specs.Laws.{GoesOn, AdvanceIsCut}
use Rattle.wbt_forecast_run.specs.Claims.{MovesAreCut}
use Rattle.wbt_forecast_run.specs.Run.{let_on, moved}

-- ---- what is counted of the lists

-- as many steps are counted
steps_stay : (told : Told) (xs : List StepEntry) → told.steps ≤ length xs → length (cut_steps told xs) ≡ length xs
steps_stay told xs within = omega (
  arith,
  length-append (replicate told.steps no_step) (drop told.steps xs),
  length-replicate told.steps no_step,
  length-drop told.steps xs,
  within,
)

-- and as much was paid for silent moves
credits_stay : (told : Told) (cs : List Cpu) → sum_by credit_of (cut_cpus told cs) ≡ sum_by credit_of cs
credits_stay told [] = refl
credits_stay told (c ∷ cs) =
    let rest = credits_stay (of_others told) cs in
    omega (arith, rest, sum_by-cons credit_of c cs, sum_by-cons credit_of (cut_cpu told 0 c) (cut_cpus (of_others told) cs))

-- ---- the test

-- whether the run is let on, by how many steps were made and what was paid for silent moves
abbrev may : (s : State) (steps credits : ℕ) → Bool
may s steps credits =
    nat_le s.most steps
    && (nat_le (s.most + MOST_STEPS) most_ever
    && (nat_le (latest_moment s + (step_ticks * (s.most - steps) + sum_by ticks_of s.orders + sum_by rests_of s.tasks + credits + timer_credit s.timer.todo) + step_ticks * MOST_STEPS) latest
    && (list_all (λ (d : Domain). takes_folds (s.most - steps + MOST_STEPS) d.count) s.domains
    && list_all (λ (w : Writeback). takes_folds (s.most - steps + MOST_STEPS) w.count) s.contexts)))

module _ (told : Told) (s : State) (w : IsWithin told s) where
  test_same : (is_full (cut told s) && fits_further (cut told s)) ≡ (is_full s && fits_further s)
  test_same = ap₂ (may s) (steps_stay told s.steps w.steps) (credits_stay told s.cpus)

  let_same : let_on (cut told s) ≡ cut told (let_on s)
  let_same = ap (λ (b : Bool). cond b (extended (cut told s)) (cut told s)) test_same ∙ by_test (is_full s && fits_further s)
    where
      by_test : (b : Bool) → cond b (extended (cut told s)) (cut told s) ≡ cut told (cond b (extended s) s)
      by_test true = refl
      by_test false = refl

  let_within : IsWithin told (let_on s)
  let_within = either (IsWithin told) (is_full s && fits_further s) (extended s) s
      (λ is. record { steps = w.steps; cpus = w.cpus; timer = w.timer }) (λ no. w)

  module _ (trace : Trace) (goes : AdvanceIsCut) where
    let_goes : GoesOn trace told (let_on s)
    let_goes = goes trace told (let_on s) let_within

    move_same : moved trace (cut told s) ≡ cut told (moved trace s)
    move_same =
        ap₂ (λ (b : Bool) (u : State). cond b (cut told s) (advance trace u)) (goes trace told s w).ends let_same
        ∙ (ap (λ (u : State). cond (is_ended s) (cut told s) u) let_goes.move ∙ by_end (is_ended s))
      where
        by_end : (b : Bool) → cond b (cut told s) (cut told (advance trace (let_on s))) ≡ cut told (cond b s (advance trace (let_on s)))
        by_end true = refl
        by_end false = refl

    move_within : IsWithin told (moved trace s)
    move_within = either (IsWithin told) (is_ended s) s (advance trace (let_on s)) (λ over. w) (λ going. let_goes.within)

pub moves_are_cut : AdvanceIsCut → MovesAreCut
moves_are_cut goes = λ trace told s w. record {
  ends = (goes trace told s w).ends;
  lets = let_same told s w;
  move = move_same told s w trace goes;
  within_let = let_within told s w;
  within = move_within told s w trace goes;
}
