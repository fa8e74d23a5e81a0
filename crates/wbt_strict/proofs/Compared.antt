-- Strict decisions and others at the same numbers, worked out.
use Rattle.std.proofs.Common.{◌≡◌, inl, refl, arith}
use Rattle.wbt_counter.specs.Batch.{context_batch, stat_error}
use Rattle.wbt_num.specs.Arithmetic.{halvings, log2}
use Rattle.wbt_pause.proofs.Deciding.{waits_exactly}
use Rattle.wbt_pause.specs.Decision.{decided, decision_of}
use Rattle.wbt_position.specs.Polynom.{polynom_value}
use Rattle.wbt_position.specs.Position.{position_ratio}
use Rattle.wbt_strict.proofs.Strictly.{no_rate_of, over_its_threshold_waits}
use Rattle.wbt_strict.specs.Deciding.{StrictAndOthers, a_part}
use Rattle.wbt_strict.specs.Position.{strict_ratio}

error_of_four : stat_error 4 ≡ 96
unfolding context_batch halvings log2
error_of_four = refl

pub strict_and_others : StrictAndOthers
unfolding polynom_value position_ratio strict_ratio decided decision_of
strict_and_others = record {
  waits_in_free_domains = λ estimate task now. over_its_threshold_waits (a_part 14990 1001) estimate task now
      (record { bg_below_thresh = omega arith; thresh_below_hard = omega arith; hard_in_range = omega arith }, tt) (inl (omega arith)) (omega arith)
      (omega (arith, error_of_four));
  where_others_are_free = λ estimate task now. refl;
  is_free_in_full_domains = λ estimate task now. refl;
  where_others_wait = λ estimate task now. (waits_exactly (a_part 19995 749) estimate task now).1
      (record { above = inl (omega arith); no_rate = no_rate_of 0 estimate refl; more_than_error = omega (arith, error_of_four) });
  goes_fast = refl;
  where_others_go_slow = refl;
}
