-- A history replayed by the machine that halves all numbers at once in each new period.
use Rattle.std.specs.Prelude.{◌≡◌, ℕ, zero, suc, ◌-◌, ◌≤◌, nat_le, if◌then◌else◌, List, [], ◌∷◌}
use Rattle.wbt_flex.specs.Eager.{Eager, Step, add_domain, add_part, new_period, eager_opening, eager_step, halved}
use Rattle.wbt_fraction.specs.declared.domain.note.Note.{Note}
use Rattle.wbt_fraction.specs.declared.domain.note.Note.TheVariants.{Found, Added, Period}
use Rattle.wbt_fraction.specs.Words.{period_of, events_of}
use Rattle.wbt_fraction.specs.Notes.{Shows, IsHistory}

-- the machine after these steps, the newest first
unfoldable pub machine : (steps : List Step) → Eager
machine [] = eager_opening
machine (step ∷ older) = eager_step (machine older) step

-- the step put in where the machine had this period last
unfoldable pub placed : (period : ℕ) (step : Step) (steps : List Step) → List Step
placed period step [] = step ∷ []
placed period step (last ∷ older) =
    if nat_le (machine (last ∷ older)).period period then step ∷ last ∷ older
    else last ∷ placed period step older

-- the steps of a history. An addition to a part that was behind is put in at the period of the word that it found
unfoldable pub steps_of : (notes : List Note) → List Step
steps_of [] = []
steps_of (Found at word ∷ older) = steps_of older
steps_of (Added zero word n ∷ older) = add_domain n ∷ steps_of older
steps_of (Added (suc part) word n ∷ older) = placed (period_of word) (add_part part n) (steps_of older)
steps_of (Period word k ∷ older) = new_period k ∷ steps_of older

-- the machine ends with the domain's events and period
abbrev pub DomainIsEager : Type 0
DomainIsEager = (history : List Note) (word : ℕ) → IsHistory history → Shows history 0 word
    → (events_of word ≡ (machine (steps_of history)).domain) × (period_of word ≡ (machine (steps_of history)).period)

-- and each part's word, brought to that period, has the machine's events of the part
abbrev pub PartIsEager : Type 0
PartIsEager = (history : List Note) (part word : ℕ) → IsHistory history → Shows history (suc part) word
    → (period_of word ≤ (machine (steps_of history)).period)
    × (halved ((machine (steps_of history)).period - period_of word) (events_of word) ≡ (machine (steps_of history)).parts part)
