-- The newest version that was seen of each thing.
use Rattle.std.specs.Prelude.{◌≡◌, ℕ, ◌<◌, Bool, false, ◌==◌, not, ◌||◌, nat_le, max, Option, Some, None, List, length, get_or, set}
use Rattle.std.specs.List.{list_all}

-- what was seen is of another thing, or no newer
abbrev pub is_older : {A K : Type 0} (same : K → K → Bool) (key : A → K) (version : A → ℕ) (x : K) (v : ℕ) (seen : A) → Bool
is_older same key version x v seen = not (same x (key seen)) || nat_le (version seen) v

-- By the place of a thing stands a version that is at most another exactly where all that were seen of it are.
pub record AreNewest {A K : Type 0} (same : K → K → Bool) (place : K → Option ℕ) (key : A → K) (version : A → ℕ) (things : ℕ)
    (seen : List A) (newest : List ℕ) : Type 0 where
  pub room : length newest ≡ things
  pub each : (x : K) (p : ℕ) → place x ≡ Some p → (v : ℕ) → list_all (is_older same key version x v) seen ≡ nat_le (get_or newest p 0) v

-- the newest versions with one that is seen
abbrev pub with_seen : (place : ℕ) (version : ℕ) (newest : List ℕ) → List ℕ
with_seen place version newest = set newest place (max (get_or newest place 0) version)

-- the newest versions with one that is seen at a place, if it has one
abbrev pub seen_at : (place : Option ℕ) (version : ℕ) (newest : List ℕ) → List ℕ
seen_at None version newest = newest
seen_at (Some place) version newest = with_seen place version newest

-- different things of those that there are stand in different places
pub record AreApart {K : Type 0} (same : K → K → Bool) (place : K → Option ℕ) (things : ℕ) : Type 0 where
  pub within : (x : K) (p : ℕ) → place x ≡ Some p → p < things
  pub apart : (x y : K) (p q : ℕ) → place x ≡ Some p → place y ≡ Some q → same x y ≡ (p == q)
  pub other : (x y : K) (p : ℕ) → place x ≡ Some p → place y ≡ None → same x y ≡ false
