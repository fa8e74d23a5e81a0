-- How much a run tells.
use Rattle.std.proofs.Common.{◌≡◌, ℕ, zero, suc, ◌^◌, ◌≤◌, refl, ◌∙◌, ap, arith}
use Rattle.std.specs.List.{sum_by}
use Rattle.std.proofs.lemmas.List.Sums.{sum_by_push}
use Rattle.wbt_replay_order.proofs.Common.{IsLawful, Trace, opening, first_cpu, first_cpus}
use Rattle.wbt_forecast.specs.Kept.{told_by, told_in}
use Rattle.wbt_forecast_run.specs.Run.{state_after}
use Rattle.wbt_forecast_run.proofs.Runs.Ends.{first_state}
use Rattle.wbt_forecast_run.proofs.Runs.Few as run

-- So many steps, entries and checks are told at most.
abbrev pub most_told : ℕ
most_told = 2 ^ 46

no_told : (trace : Trace) (n : ℕ) → sum_by told_by (first_cpus trace n) ≡ 0
no_told trace zero = refl
no_told trace (suc n) =
    let rest = no_told trace n in
    omega (arith, rest, sum_by_push told_by (first_cpus trace n) (first_cpu trace n))

opening_told : (trace : Trace) → told_in (opening trace) ≡ 0
unfolding opening
opening_told trace = omega (arith, no_told trace trace.cpus)

pub few_told : (trace : Trace) → IsLawful trace → (moves : ℕ) → told_in (state_after trace moves) ≤ most_told
few_told trace lawful moves = run.few_told trace lawful moves

-- nothing is told before the first move
pub first_told : (trace : Trace) → told_in (state_after trace 0) ≡ 0
first_told trace = ap told_in (first_state trace) ∙ opening_told trace
