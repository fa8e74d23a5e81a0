-- What a pass knows of one device's queue, and how it changes.
use Rattle.std.specs.Prelude.{ℕ, zero, suc, ◌+◌, ◌-◌, ◌^◌, true, false, List, [], ◌∷◌, ◌++◌}
use Rattle.wbt_queue.specs.declared.known.Part.{Part}
use Rattle.wbt_queue.specs.declared.known.Known.{Known}

-- nothing was put and nothing taken
abbrev pub nothing : Part
nothing = record { puts = []; takes = [] }

-- the first pass of an empty queue, with all stakes
abbrev pub opening : Known
opening = record { alone = true; gone = false; stakes = 2 ^ 32; own = nothing; joined = [] }

-- a new pass gets a stake of a pass that has two or more, and none of a poorer one
abbrev pub handed : (stakes : ℕ) → ℕ
handed zero = 0
handed (suc zero) = 0
handed (suc (suc more)) = 1

-- a pass that was split from another
abbrev pub newcomer : (known : Known) → Known
newcomer known = record { alone = false; gone = known.gone; stakes = handed known.stakes; own = nothing; joined = [] }

-- the pass that another was split from. Where it had one stake alone that stake is lost, and no pass ever has all again.
abbrev pub accompanied : (known : Known) → Known
accompanied known = record known { alone = false; stakes = known.stakes - 1 }

-- all parts that a pass knows, its own first
abbrev pub parts_of : (known : Known) → List Part
parts_of known = known.own ∷ known.joined

-- one pass after it took in another
abbrev pub knows_both : (one other : Known) → Known
knows_both one other = record { alone = false; gone = one.gone; stakes = one.stakes + other.stakes; own = one.own; joined = one.joined ++ parts_of other }

-- the pass that was taken in
abbrev pub taken_in : Known
taken_in = record { alone = false; gone = true; stakes = 0; own = nothing; joined = [] }

-- the pass itself put this number
abbrev pub after_put : (inode : ℕ) (known : Known) → Known
after_put inode known = record known { own = record known.own { puts = known.own.puts ++ inode ∷ [] } }

-- the pass itself took this number
abbrev pub after_take : (inode : ℕ) (known : Known) → Known
after_take inode known = record known { own = record known.own { takes = known.own.takes ++ inode ∷ [] } }

-- what was put, part for part
abbrev pub puts_of : (parts : List Part) → List ℕ
puts_of [] = []
puts_of (part ∷ more) = part.puts ++ puts_of more

-- what was taken, part for part
abbrev pub takes_of : (parts : List Part) → List ℕ
takes_of [] = []
takes_of (part ∷ more) = part.takes ++ takes_of more

-- all that the pass knows to be put
abbrev pub puts_by : (known : Known) → List ℕ
puts_by known = puts_of (parts_of known)

-- all that the pass knows to be taken
abbrev pub takes_by : (known : Known) → List ℕ
takes_by known = takes_of (parts_of known)
