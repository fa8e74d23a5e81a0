-- What each kind of step tells its seat.
use Rattle.std.specs.Prelude.{◌≡◌, ℕ, ◌+◌, ◌-◌, ◌^◌, ◌==◌, cond}
use Rattle.atomic_table.specs.Table.{Me, Step}
use Rattle.wbt_fraction.specs.declared.domain.note.Note.TheVariants.{Found, Added, Period}
use Rattle.wbt_fraction.specs.declared.domain.note.Trail.{Trail}
use Rattle.wbt_fraction.specs.declared.domain.rule.View.{View}
use Rattle.wbt_fraction.specs.Words.{period_of}
use Rattle.wbt_fraction.specs.Notes.{NoneAfter, IsComplete}
use Rattle.wbt_fraction.specs.History.{notes_of, Makes, IsWhole}

-- a seat at a domain's words
abbrev pub Sat : Type 0
Sat = Me (Unit {0}) View

-- a seat with all stakes has all notes, and all steps in their places
abbrev pub KnowsAll : (me : Sat) → Type 0
KnowsAll me = me.0.stakes ≡ 2 ^ 32 → IsComplete (notes_of me.0.trail.own) × IsWhole me.0.trail

-- the same seat with other steps, and nothing else
abbrev pub with_trail : (trail : Trail) (me : Sat) → Sat
with_trail trail me = (record { trail = trail; stakes = me.0.stakes; domain_room = me.0.domain_room; part_room = me.0.part_room }, me.1)

-- a load notes what it found, and leaves it; in the domain's word no later period was ever seen
abbrev pub Loaded : (step : Step (Unit {0})) (old : Sat) (found : ℕ) (new : Sat) → Type 0
Loaded step old found new = Makes (Found step.word found) found old.0.trail new.0.trail × (new ≡ with_trail new.0.trail old)
    × (step.word ≡ 0 → NoneAfter (period_of found) (notes_of old.0.trail.own)) × KnowsAll new

-- the ageing exchange notes what it found; where that is the word that was loaded, it leaves the same number at a later period
abbrev pub Aged : (step : Step (Unit {0})) (old : Sat) (found : ℕ) (new : Sat) → Type 0
Aged step old found new = Makes (Found step.word found) (cond (found == step.first) step.second found) old.0.trail new.0.trail × (new ≡ with_trail new.0.trail old) × KnowsAll new

-- an addition to a part takes from the room for parts
abbrev pub PartAdded : (step : Step (Unit {0})) (old : Sat) (found : ℕ) (new : Sat) → Type 0
PartAdded step old found new = Makes (Added step.word found step.first) (found + step.first) old.0.trail new.0.trail
    × (new ≡ (record { trail = new.0.trail; stakes = old.0.stakes; domain_room = old.0.domain_room; part_room = old.0.part_room - step.first }, old.1)) × KnowsAll new

-- an addition to the domain takes from the room for the domain
abbrev pub DomainAdded : (step : Step (Unit {0})) (old : Sat) (found : ℕ) (new : Sat) → Type 0
DomainAdded step old found new = Makes (Added 0 found step.first) (found + step.first) old.0.trail new.0.trail
    × (new ≡ (record { trail = new.0.trail; stakes = old.0.stakes; domain_room = old.0.domain_room - step.first; part_room = old.0.part_room }, old.1)) × KnowsAll new

-- the exchange began periods where it found the loaded word, and else notes what it found
abbrev pub Begun : (step : Step (Unit {0})) (old : Sat) (found : ℕ) (new : Sat) → Type 0
Begun step old found new = Makes (cond (found == step.first) (Period found (period_of step.second - period_of step.first)) (Found 0 found)) (cond (found == step.first) step.second found) old.0.trail new.0.trail
    × (new ≡ with_trail new.0.trail old) × KnowsAll new

-- a look that notes nothing tells a seat with all stakes that it has all notes
abbrev pub Told : (step : Step (Unit {0})) (old : Sat) (found : ℕ) (new : Sat) → Type 0
Told step old found new = (new ≡ old) × KnowsAll old
