-- The words of a forecast.
use Rattle.std.specs.Prelude.{◌≡◌, ℕ, ◌≤◌, [], ◌∷◌, map, codes, string_bytes}
use Rattle.std.specs.Fmt.{decimal}
use Rattle.wbt_top_plain.specs.declared.status.Words.{Words}
use Rattle.wbt_top_plain.specs.declared.words.TheConstants.{MOST_EVERY}

-- ticks that an interval may have
pub record IsEvery (every : ℕ) : Type 0 where
  pub some : 1 ≤ every
  pub few : every ≤ MOST_EVERY

-- the words are `forecast`, and such a number as a trace spells it
pub record IsForecast (every : ℕ) (words : Words) : Type 0 where
  pub spelled : map string_bytes words.list ≡ codes "forecast" ∷ decimal every ∷ []
  pub ticks : IsEvery every

-- the words ask for a forecast
abbrev pub Foretells : (words : Words) → Type 0
Foretells words = (every : ℕ) × IsForecast every words
