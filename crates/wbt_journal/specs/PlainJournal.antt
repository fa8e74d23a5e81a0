-- Plain journals, which their text tells whole.
use Rattle.std.specs.Prelude.{◌≡◌, false, []}
use Rattle.wbt_journal.specs.declared.journal.Journal.{Journal}
use Rattle.wbt_journal.specs.Each.{Each}
use Rattle.wbt_journal.specs.Forms.{HasForm}
use Rattle.wbt_journal.specs.Leaves.{LeftFrom}
use Rattle.wbt_journal.specs.Plain.{IsPlainPart}
use Rattle.wbt_journal.specs.Text.{journal_lines}

-- A journal without steps and lines of strict devices. No decision is marked, each part's entries name its checks and estimates in
-- order, the pages that are left stand in order, each once and with bits, and each number is in the range of its field.
pub record IsPlainJournal (j : Journal) : Type 0 where
  pub steps : j.steps ≡ []
  pub bases : j.bases ≡ []
  pub homes : j.homes ≡ []
  pub strict : j.strict ≡ []
  pub parts : Each (IsPlainPart (λ check. false)) j.cpus
  pub left : LeftFrom 0 j.left
  pub forms : Each HasForm (journal_lines j)
