-- What a context's weight is asked to be.
use Rattle.std.proofs.Common.{ℕ, ◌-◌, ◌*◌, ◌/◌, ◌≤◌, ◌⊎◌, min, max, inl, inr, arith}
use Rattle.std.proofs.lemmas.Bool.{cases_lt}
use Rattle.wbt_position.specs.Laws.{WeightIsBetween}

one_of_them : (part free : ℕ) → (max part (free / 8) ≤ part) ⊎ (8 * max part (free / 8) ≤ free)
one_of_them part free = elim (cases_lt part (free / 8)) [ inl more ↦ inr (omega arith) | inr less ↦ inl (omega arith) ]

pub weight_is_between : WeightIsBetween
weight_is_between read = record {
  part = omega arith;
  eighth = omega arith;
  no_more = one_of_them (min read.wb_thresh read.limits.thresh) (read.limits.hard - read.dirty);
}
