-- Which of a list of samples make an estimate: those that don't come too early.
use Rattle.std.specs.Prelude.{ℕ, ◌-◌, ◌≤◌, true, false, nat_lt, List, [], ◌∷◌, ⊤}
use Rattle.wbt_estimate.specs.declared.estimate.Sample.{Sample}
use Rattle.wbt_estimate.specs.declared.estimate.TheConstants.{ESTIMATE_AGE}

-- each is `ESTIMATE_AGE` ticks or more after the last one that did, the first after a moment; the others are dropped
unfoldable pub taken : (since : ℕ) (samples : List Sample) → List Sample
taken since [] = []
taken since (sample ∷ samples) =
    elim (nat_lt (sample.now - since) ESTIMATE_AGE) [ true ↦ taken since samples | false ↦ sample ∷ taken sample.now samples ]

-- a list of samples of which each is `ESTIMATE_AGE` ticks or more after the one before, the first after a moment
unfoldable pub AreApart : (since : ℕ) (samples : List Sample) → Type 0
AreApart since [] = ⊤
AreApart since (sample ∷ samples) = (ESTIMATE_AGE ≤ sample.now - since) × AreApart sample.now samples
