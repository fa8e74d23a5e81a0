-- The lines of a law text in their places, and how they are spelled.
use Rattle.std.specs.Prelude.{◌≡◌, ℕ, Bool, true, false, List, ◌∷◌, ◌++◌, codes}
use Rattle.wbt_text.specs.Numbers.{AreNumbers}
use Rattle.wbt_law.specs.declared.place.Place.{Place}
use Rattle.wbt_law.specs.declared.place.Place.TheVariants.{Cpus, Cap, Now, Task, Estimate, Context, Global, Cgroup, Over}

-- the place of the line after
abbrev pub next : (place : Place) → Place
next Cpus = Cap
next Cap = Now
next Now = Task
next Task = Estimate
next Estimate = Context
next Context = Global
next Global = Cgroup
next Cgroup = Over
next Over = Over

-- a text ends after one domain or two
abbrev pub may_end : (place : Place) → Bool
may_end Cgroup = true
may_end Over = true
may_end other = false

-- what the line at a place begins with; the lines of domains look alike, and a third one is refused
abbrev pub word_at : (place : Place) → List ℕ
word_at Cpus = codes "cpus"
word_at Cap = codes "cap"
word_at Now = codes "now"
word_at Task = codes "task"
word_at Estimate = codes "estimate"
word_at Context = codes "context"
word_at Global = codes "domain"
word_at Cgroup = codes "domain"
word_at Over = codes "domain"

-- The text is that of the line with these numbers at its place: the word, a space, and the numbers.
abbrev pub IsRow : (place : Place) (text ns : List ℕ) → Type 0
IsRow place text ns = (rest : List ℕ) × (text ≡ word_at place ++ 32 ∷ rest) × AreNumbers rest ns
