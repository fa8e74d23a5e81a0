-- What is added for each context in each domain, by the place of the pair.
use Rattle.std.specs.Prelude.{◌≡◌, ℕ, ◌+◌, ◌<◌, Option, Some, None, List, ◌++◌, length, get_or, set}
use Rattle.wbt_journal.specs.Effects.{Share}
use Rattle.wbt_journal.specs.Reads.{added_to}
use Rattle.wbt_journal.specs.Told.{Told}
use Rattle.wbt_audit_walk.specs.Acts.{told_by}
use Rattle.wbt_audit_walk.specs.Places.{pair_place}
use Rattle.wbt_audit_walk.specs.Walks.{rest, told_in}
use Rattle.wbt_audit_walk.specs.declared.act.Act.{Act}
use Rattle.wbt_audit_walk.specs.declared.places.Places.{Places}
use Rattle.wbt_audit_walk.specs.declared.walk.Walk.{Walk}

-- the place of a domain and a context in a row of all such pairs
abbrev pub pair_by : (places : Places) (domain context : ℕ) → Option ℕ
pair_by places domain context = pair_place places.domains places.contexts domain context

-- there is a sum for each pair
pub record AreAdded (places : Places) (entries : List Told) (sums : List ℕ) : Type 0 where
  pub room : (domain context p : ℕ) → pair_by places domain context ≡ Some p → p < length sums
  pub each : (domain context p : ℕ) → pair_by places domain context ≡ Some p → get_or sums p 0 ≡ added_to domain context entries

-- the sums with n more at a place
abbrev pub one_added : (place n : ℕ) (sums : List ℕ) → List ℕ
one_added place n sums = set sums place (get_or sums place 0 + n)

-- the sums with n more at a place, if there is one
abbrev pub added_at : (place : Option ℕ) (n : ℕ) (sums : List ℕ) → List ℕ
added_at None n sums = sums
added_at (Some place) n sums = one_added place n sums

-- the sums with a share more, where there is one
abbrev pub with_share : (places : Places) (share : Option Share) (sums : List ℕ) → List ℕ
with_share places None sums = sums
with_share places (Some share) sums = added_at (pair_by places share.domain share.context) share.n sums

-- the code adds what an act tells to the sums of the entries before it
abbrev pub AddsAct : (places : Places) (act : Option Act) (old new : List ℕ) → Type 0
AddsAct places act old new = (entries : List Told) → AreAdded places entries old → AreAdded places (entries ++ told_by act) new

-- of these entries, of which the rest are still to come
pub record AddsSomeActs (places : Places) (all : List Told) (sums : List ℕ) (walk : Walk) : Type 0 where
  pub done : List Told
  pub are : AreAdded places done sums
  pub to_come : done ++ told_in (rest walk) ≡ all
