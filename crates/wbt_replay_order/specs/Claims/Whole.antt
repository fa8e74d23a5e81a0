-- What a journal's parts, steps and pages name is there.
use Rattle.std.specs.Prelude.{◌≡◌, ℕ, ◌<◌, ◌⊎◌, pos, length}
use Rattle.wbt_journal.specs.Each.{Each}
use Rattle.wbt_journal.specs.Leaves.{LeftFrom}
use Rattle.wbt_journal.specs.Told.{NamesInOrder}
use Rattle.wbt_journal.specs.declared.journal.Journal.{Journal}
use Rattle.wbt_journal.specs.declared.step.StepEntry.{StepEntry}

-- A step changes the count of a context that has a home, or none, and its domain has a bound.
abbrev pub IsAtHome : (homes bases : ℕ) (step : StepEntry) → Type 0
IsAtHome homes bases step = ((step.change ≡ pos 0) ⊎ (step.context < homes)) × (step.domain < bases)

-- a journal whose parts, steps, homes and left pages name only what is there
pub record IsWhole (journal : Journal) : Type 0 where
  -- the pages that are left stand in order, each once, and are dirty or under writeback
  pub left : LeftFrom 0 journal.left
  -- the entries of each part name all its checks and estimates, each once, in order
  pub named : Each NamesInOrder journal.cpus
  -- each home and each step's domain has a bound, and each context whose count a step changes has a home
  pub homes : Each (λ home. home < length journal.bases) journal.homes
  pub steps : Each (IsAtHome (length journal.homes) (length journal.bases)) journal.steps
