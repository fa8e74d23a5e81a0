-- How a run ended whose journal was printed.
use Rattle.std.proofs.Common.{inl, inr, ◌≡◌, ◌⊎◌, ◌↔◌, ℕ, List, Option, Result, Ok, Err, IsOk, OnOk, refl}
use Rattle.wbt_trace.specs.Lawful.{IsLawful}
use Rattle.wbt_trace.specs.declared.trace.Trace.{Trace}
use Rattle.wbt_journal.specs.declared.journal.Journal.{Journal}
use Rattle.wbt_journal.specs.declared.text.PrintEnd.{PrintEnd}
use Rattle.wbt_journal.specs.declared.text.PrintEnd.TheVariants.{WriteFault}
use Rattle.wbt_run.specs.Running.{IsRunOf}
use Rattle.wbt_top.specs.Threads.{Ran}
use Rattle.wbt_top.specs.declared.ran.RanEnd.{RanEnd}
use Rattle.wbt_top_sums.proofs.Sums.{adds_up}

-- ---- what was printed

pub on_ok : {A B : Type 0} (printed : Result A PrintEnd) (ran : Result B RanEnd) (P Q : Type 0) → (IsOk ran ↔ IsOk printed) → OnOk printed P → (P → Q) → OnOk ran Q
on_ok (Ok x) (Ok y) P Q good p q = q p
on_ok (Err e) (Ok y) P Q good p q = absurd (cc (good.0 refl))
on_ok printed (Err e) P Q good p q = tt

-- whole, or a part of it where the sink failed
pub unless : {A : Type 0} (printed : Result A PrintEnd) (Whole Failed Part : Type 0) → OnOk printed Whole → (printed ≡ Err WriteFault → Failed) → (printed ≡ Err WriteFault → Part)
    → (IsOk printed ⊎ (printed ≡ Err WriteFault)) → Whole ⊎ (Failed × Part)
unless (Ok x) Whole Failed Part whole failed part (inl ok) = inl whole
unless (Err e) Whole Failed Part whole failed part (inl ok) = absurd (cc ok)
unless printed Whole Failed Part whole failed part (inr is) = inr (failed is, part is)

-- ---- the run

pub ran : (told : ℕ → Type 0) (trace : Trace) → IsLawful trace → (pages pages' : Option ℕ) (faults faults' : ℕ) (text : Journal → List ℕ) (j : Journal) → IsRunOf told trace pages pages' faults faults' j
    → (Cause : Journal → Type 0) (Wrote : List ℕ → Type 0) → Cause j → Wrote (text j) → Ran told trace pages pages' faults faults' Cause text Wrote
ran told trace lawful pages pages' faults faults' text j run Cause Wrote cause wrote = record { journal = j; run = run; sums = adds_up trace lawful j run.lawful; cause = cause; wrote = wrote }
