-- A number among the words.
use Rattle.std.specs.Prelude.{◌≡◌, ℕ, ◌≤◌, List}
use Rattle.std.specs.Fmt.{decimal}

-- the word spells this number as a trace does, and it is within these bounds
pub record IsNumber (least most n : ℕ) (word : List ℕ) : Type 0 where
  pub spelled : word ≡ decimal n
  pub enough : least ≤ n
  pub few : n ≤ most
