-- What a reader makes of the bytes that come as a line.
use Rattle.std.specs.Prelude.{◌≡◌, ℕ, List, Ok, Err}
use Rattle.wbt_text.specs.Reading.{Format}
use Rattle.wbt_text.specs.declared.lines.Verdict.{Verdict}
use Rattle.wbt_text.specs.declared.lines.Verdict.TheVariants.{Taken, NoLine, Refused}

-- This became of the bytes, which have no line feed, after one state and with another after it: they are a line that the
-- format takes, no line, or a line that it refuses.
abbrev pub IsVerdict : {State Line Refusal Answer : Type 0} (format : Format State Line Refusal Answer) (old : State) (text : List ℕ) (verdict : Verdict Refusal) (new : State) → Type 0
IsVerdict {State} {Line} format old text Taken new = (l : Line) × format.spells old text l × (format.accept l old ≡ Ok new)
IsVerdict {State} {Line} format old text NoLine new = (l : Line) → format.spells old text l → ⊥
IsVerdict {State} {Line} format old text (Refused why) new = (l : Line) × format.spells old text l × (format.accept l old ≡ Err why)
