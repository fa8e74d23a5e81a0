-- What holds of the polynomial and of the position ratio at all numbers.
use Rattle.std.specs.Prelude.{ℕ, ◌+◌, ◌-◌, ◌*◌, ◌<◌, ◌≤◌, ◌⊎◌, min}
use Rattle.wbt_position.specs.declared.ratio.DomainRead.{DomainRead}
use Rattle.wbt_position.specs.Polynom.{polynom_value}
use Rattle.wbt_position.specs.Position.{position_ratio, weight_of}

-- the more dirty pages a domain has, the slower its writers
abbrev pub PolynomNeverRises : Type 0
PolynomNeverRises = (setpoint limit dirty more : ℕ) → dirty ≤ more
    → polynom_value setpoint more limit ≤ polynom_value setpoint dirty limit

-- the more pages a context has, the slower its writers, where nothing else changes
abbrev pub PositionNeverRises : Type 0
PositionNeverRises = (read : DomainRead) (avg wb_dirty more : ℕ) → wb_dirty ≤ more
    → position_ratio read more avg ≤ position_ratio read wb_dirty avg

-- what a context's weight is asked to be: at least its part of the domain's threshold, at least an eighth of the pages that are
-- free below the hard limit, and no more than one of the two
pub record WeighsAsAsked (read : DomainRead) (weight : ℕ) : Type 0 where
  pub part : min read.wb_thresh read.limits.thresh ≤ weight
  pub eighth : read.limits.hard - read.dirty < 8 * (weight + 1)
  pub no_more : (weight ≤ min read.wb_thresh read.limits.thresh) ⊎ (8 * weight ≤ read.limits.hard - read.dirty)

-- each context's weight is so
abbrev pub WeightIsBetween : Type 0
WeightIsBetween = (read : DomainRead) → WeighsAsAsked read (weight_of read)
