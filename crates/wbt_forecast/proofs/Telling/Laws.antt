-- The laws of the run on which its telling stands.
use Rattle.std.specs.Prelude.{ℕ, ◌≤◌}
use Rattle.wbt_replay_order.proofs.Common.{IsLawful, Trace, State}
use Rattle.wbt_replay_cut.specs.Cut.{Told, IsWithin}
use Rattle.wbt_replay_cut.proofs.Order.{advance_is_cut}
use Rattle.wbt_forecast_run.specs.Claims.{MovesAsWhole, StaysSound, TellsCounts, TellsInOrder}
use Rattle.wbt_forecast.specs.Kept.{told_in}
use Rattle.wbt_forecast_run.specs.Run.{state_after}
use Rattle.wbt_forecast_run.proofs.Counts.Exact.{counts_are_told}
use Rattle.wbt_forecast_run.proofs.Runs.Cut.{moves_are_cut}
use Rattle.wbt_forecast_run.proofs.Runs.Growing.{runs_tell_in_order}
use Rattle.wbt_forecast_run.proofs.Runs.Letting.{runs_stay_sound}
use Rattle.wbt_forecast.proofs.Telling.Few.{few_told, most_told}

pub record Laws (trace : Trace) : Type 0 where
  pub lawful : IsLawful trace
  pub sound : StaysSound trace
  pub cuts : (told : Told) (s : State) → IsWithin told s → MovesAsWhole trace told s
  pub order : TellsInOrder trace
  pub counts : TellsCounts trace
  pub few : (moves : ℕ) → told_in (state_after trace moves) ≤ most_told

pub laws : (trace : Trace) → IsLawful trace → Laws trace
laws trace lawful = record {
  lawful = lawful;
  sound = runs_stay_sound trace lawful;
  cuts = moves_are_cut advance_is_cut trace;
  order = runs_tell_in_order trace;
  counts = counts_are_told trace lawful;
  few = few_told trace lawful;
}
