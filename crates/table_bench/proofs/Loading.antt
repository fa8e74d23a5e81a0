-- The seat after a load of limits, whatever it found.
use Rattle.std.proofs.Common.{◌≡◌, ℕ, Bool}
use Rattle.wbt_grant.specs.declared.who.Who.TheVariants.{Writer}
use Rattle.wbt_table.specs.Calls.{LoadsLimits}
use Rattle.wbt_table.specs.Callers.{StepsFor}
use Rattle.wbt_table.specs.Layout.{setting}
use Rattle.wbt_table.specs.Seat.{Shape, Seated}
use Rattle.wbt_table.specs.declared.answer.Loaded.{Loaded}
use Rattle.wbt_table.specs.declared.answer.Loaded.TheVariants as loaded
use Rattle.wbt_table.proofs.Trying.{after_its_changes}

-- it steps for its CPU still
pub after_a_load : (t : Shape) (c w d : ℕ) (said : ℕ → Bool → Type 0) (answer : Loaded) (old new : Seated) → (setting t.layout).seat w ≡ c → StepsFor t c old
    → LoadsLimits (setting t.layout) (Writer w) d said answer old new → StepsFor t c new
after_a_load t c w d said (loaded.Fresh triple) old new is steps loads = after_its_changes t ((setting t.layout).seat w) c _ old new is steps loads.6.0
after_a_load t c w d said (loaded.Again held n k) old new is steps loads = after_its_changes t ((setting t.layout).seat w) c _ old new is steps loads.4.0
after_a_load t c w d said loaded.Stopped old new is steps loads = after_its_changes t ((setting t.layout).seat w) c _ old new is steps loads.3.0
