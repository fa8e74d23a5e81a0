-- What a turn reads of estimates and of fractions.
use Rattle.std.specs.Prelude.{◌≡◌, ℕ, ◌≤◌, List, set}
use Rattle.wbt_estimate.specs.Estimate.{IsSound}
use Rattle.wbt_estimate.specs.declared.estimate.Estimate.{Estimate}
use Rattle.wbt_flex.specs.declared.share.Fraction.{Fraction}
use Rattle.wbt_fraction.specs.Seat.{Seated, Between, Reads}
use Rattle.wbt_fraction.specs.declared.domain.words.Again.{Again}
use Rattle.wbt_published.specs.Known.{after_read, first_in, note_of}
use Rattle.wbt_published.specs.Passes as est
use Rattle.wbt_published.specs.Passes.{known_of}

-- an estimate of the context was read, and nothing else
pub record ReadsEstimate (firsts : List Estimate) (context : ℕ) (estimate : Estimate) (old new : est.Seats) : Type 0 where
  pub noted : new ≡ record old { known = set old.known context (after_read (note_of estimate) (known_of context old)) }
  pub first : estimate.version ≡ 0 → estimate ≡ first_in firsts context
  pub sound : IsSound estimate
  pub no_older : (known_of context old).seen ≤ estimate.version

-- the context's fraction was read in a domain, or another thread began a period between, and it is the one that was held
pub data IsReadOrHeld (context : ℕ) (fraction held : Fraction) (old new : Seated) : Type 0 where
  was_read : Reads context fraction old new → IsReadOrHeld context fraction held old new
  came_between : (again : Again) → Between context again old new → fraction ≡ held → IsReadOrHeld context fraction held old new
