-- What an audit's answers mean: its yes that the journal, with each mark that its lines call for, is lawful, its no that it isn't.
use Rattle.std.specs.Prelude.{◌≡◌, ℕ}
use Rattle.wbt_trace.specs.declared.trace.Trace.{Trace}
use Rattle.wbt_journal.specs.declared.journal.Journal.{Journal}
use Rattle.wbt_journal.specs.Checks.{with_marks}
use Rattle.wbt_journal.specs.Lawful.{IsLawful, NamesAreInOrder}
use Rattle.wbt_audit.specs.declared.verdict.Verdict.TheVariants.{Lawful, Broken}
use Rattle.wbt_audit.specs.Audited.{audit_of}

-- where an audit says lawful, a journal whose entries name its checks in order is lawful, with each mark that its lines call for
abbrev pub LawfulVerdictsAreRight : Type 0
LawfulVerdictsAreRight = (trace : Trace) (j : Journal) → NamesAreInOrder j → audit_of trace j ≡ Lawful → IsLawful trace (with_marks trace j)

-- where an audit says broken the journal isn't lawful
abbrev pub BrokenVerdictsAreRight : Type 0
BrokenVerdictsAreRight = (trace : Trace) (j : Journal) (point line : ℕ) → audit_of trace j ≡ Broken point line → IsLawful trace (with_marks trace j) → ⊥
