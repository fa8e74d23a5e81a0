-- The first line at which a text is no plain journal's.
use Rattle.std.specs.Prelude.{◌≡◌, ℕ, zero, suc, ◌<◌, List, [], ◌∷◌, ◌++◌}
use Rattle.wbt_text.specs.Cut.{Without}
use Rattle.wbt_journal.specs.declared.journal.Journal.{Journal}
use Rattle.wbt_journal.specs.PlainJournal.{IsPlainJournal}
use Rattle.wbt_journal.specs.Text.{journal_text}

-- the text is so many lines, each with its line feed
abbrev pub AreLines : (n : ℕ) (text : List ℕ) → Type 0
AreLines zero text = text ≡ []
AreLines (suc n) text = (first more : List ℕ) × (text ≡ first ++ 10 ∷ more) × Without 10 first × AreLines n more

-- the text begins with so many lines, and they begin a plain journal's text
abbrev pub BeginsPlain : (n : ℕ) (text : List ℕ) → Type 0
BeginsPlain n text =
    (front rest more : List ℕ) × (j : Journal) × AreLines n front × (text ≡ front ++ rest) × IsPlainJournal j × (journal_text j ≡ front ++ more)

-- No plain journal has this text. This line, counted from 1, is the first with which no such text begins; where a text ends too early it
-- is the one after the last.
pub record IsFirstBad (line : ℕ) (text : List ℕ) : Type 0 where
  pub other : (j : Journal) → IsPlainJournal j → journal_text j ≡ text → ⊥
  pub before : (n : ℕ) → n < line → BeginsPlain n text
  pub here : BeginsPlain line text → ⊥
