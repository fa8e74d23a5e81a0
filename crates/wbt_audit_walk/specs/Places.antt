-- Where things of a trace stand in a row, by their numbers.
use Rattle.std.specs.Prelude.{ℕ, ◌+◌, ◌*◌, Bool, ◌&&◌, ◌==◌, nat_lt, if◌then◌else◌, Option, Some, None}
use Rattle.wbt_counter.specs.declared.counter.Counter.{Counter}
use Rattle.wbt_counter.specs.declared.counter.Counter.TheVariants as counter

-- the number of a thing of which there are so many; none where there isn't it
abbrev pub below : (count number : ℕ) → Option ℕ
below count number = if nat_lt number count then Some number else None

-- after those of another sort
abbrev pub behind : (count : ℕ) (place : Option ℕ) → Option ℕ
behind count None = None
behind count (Some place) = Some (count + place)

-- domains stand before contexts
abbrev pub counter_place : (domains contexts : ℕ) (x : Counter) → Option ℕ
counter_place domains contexts (counter.Domain domain) = below domains domain
counter_place domains contexts (counter.Context context) = behind domains (below contexts context)

-- the pairs of a domain stand together, by contexts
abbrev pub pair_at : (contexts : ℕ) (row place : Option ℕ) → Option ℕ
pair_at contexts None place = None
pair_at contexts (Some row) place = behind (row * contexts) place

-- the place of a domain and a context in a row of all such pairs
abbrev pub pair_place : (domains contexts domain context : ℕ) → Option ℕ
pair_place domains contexts domain context = pair_at contexts (below domains domain) (below contexts context)

-- whether two pairs of a domain and a context are one
abbrev pub same_pairs : (x y : ℕ × ℕ) → Bool
same_pairs x y = y.0 == x.0 && y.1 == x.1

-- the place of such a pair as one value
abbrev pub place_of_pair : (domains contexts : ℕ) (x : ℕ × ℕ) → Option ℕ
place_of_pair domains contexts x = pair_place domains contexts x.0 x.1
