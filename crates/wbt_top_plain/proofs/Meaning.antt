-- What a verdict means.
use Rattle.std.proofs.Common.{◌≡◌, ℕ, List, [], ◌∷◌, Option, Some, None, false, ap, refl}
use Rattle.wbt_trace.specs.declared.trace.Trace.{Trace}
use Rattle.wbt_journal.specs.declared.entry.CpuJournal.{CpuJournal}
use Rattle.wbt_journal.specs.declared.journal.Journal.{Journal}
use Rattle.wbt_journal.specs.Checks.{with_marks}
use Rattle.wbt_journal.specs.Each.{Each}
use Rattle.wbt_journal.specs.Plain.{IsPlainPart}
use Rattle.wbt_journal.specs.PlainJournal.{IsPlainJournal}
use Rattle.wbt_journal.specs.Told.{NamesInOrder}
use Rattle.wbt_journal.specs.Verdict as journal
use Rattle.wbt_journal.specs.Verdict.{verdict_of}
use Rattle.wbt_audit.specs.Audited.{audit_of, settled, told_verdict, unsettled_task}
use Rattle.wbt_audit.specs.Righted.{LawfulVerdictsAreRight, BrokenVerdictsAreRight}
use Rattle.wbt_audit.specs.declared.verdict.Verdict.{Verdict}
use Rattle.wbt_audit.specs.declared.verdict.Verdict.TheVariants.{Lawful, Broken, Unsettled}
use Rattle.wbt_top_plain.specs.Audit.{Means}

names_of : (parts : List CpuJournal) → Each (IsPlainPart (λ check. false)) parts → Each NamesInOrder parts
names_of [] all = tt
names_of (part ∷ parts) all = (all.0.names, names_of parts all.1)

unsettled_by : (which : Option ℕ) (v : journal.Verdict) (task : ℕ) → settled which (told_verdict v) ≡ Unsettled task → which ≡ Some task
unsettled_by None journal.lawful task is = absurd (cc is)
unsettled_by None (journal.broken point line) task is = absurd (cc is)
unsettled_by (Some other) v task is = let same : other ≡ task = cc is in ap Some same

is_unsettled : (trace : Trace) (j : Journal) (task : ℕ) → audit_of trace j ≡ Unsettled task → unsettled_task trace ≡ Some task
unfolding audit_of
is_unsettled trace j task is = unsettled_by (unsettled_task trace) (verdict_of trace (with_marks trace j)) task is

means_by : LawfulVerdictsAreRight → BrokenVerdictsAreRight → (trace : Trace) (j : Journal) → IsPlainJournal j → (v : Verdict) → audit_of trace j ≡ v → Means v trace j
means_by right wrong trace j plain Lawful is = right trace j (names_of j.cpus plain.parts) is
means_by right wrong trace j plain (Broken clause line) is = wrong trace j clause line is
means_by right wrong trace j plain (Unsettled task) is = is_unsettled trace j task is

pub means : LawfulVerdictsAreRight → BrokenVerdictsAreRight → (trace : Trace) (j : Journal) → IsPlainJournal j → Means (audit_of trace j) trace j
means right wrong trace j plain = means_by right wrong trace j plain (audit_of trace j) refl
