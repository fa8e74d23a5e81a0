-- What was read is what the input tells.
use Rattle.std.proofs.Common.{inl, inr, ◌≡◌, ◌≢◌, ℕ, ◌≤◌, List, length, Option, Some, None, Ok, Err, ◌∙◌, ap, subst, arith}
use Rattle.std.specs.Option.{IfSome}
use Rattle.wbt_num.specs.declared.most.TheConstants.{MOST_INPUT}
use Rattle.wbt_trace.specs.Lawful.{IsLawful}
use Rattle.wbt_trace_text.specs.Reading.{IsAnswer, Tells}
use Rattle.wbt_trace_text.specs.declared.fault.TraceFault.{TraceFault}
use Rattle.wbt_trace_text.specs.declared.fault.TraceFault.TheVariants.{NoMemory}
use Rattle.wbt_trace.specs.declared.trace.Trace.{Trace}
use Rattle.wbt_law.specs.Law.{IsDecidable}
use Rattle.wbt_law.specs.Reading.{IsAnswer as IsLawAnswer, Tells as LawTells}
use Rattle.wbt_law.specs.declared.input.LawInput.{LawInput}
use Rattle.wbt_top_plain.specs.Top.{IsInput, IsRead, IsRefused, IsLawRead, IsLawRefused}

-- a text was read whole, and seen as a slice
pub record IsWhole (left : Option (List ℕ)) (text seen : List ℕ) : Type 0 where
  pub all : IfSome left (λ input. text ≡ input)
  pub short : length text ≤ MOST_INPUT
  pub same : seen ≡ text

input : (left : Option (List ℕ)) (text seen : List ℕ) (trace : Trace) → IsWhole left text seen → IsAnswer seen (Ok trace) → IsInput left trace
input None text seen trace whole told = tt
input (Some bytes) text seen trace whole told = (omega (arith, ap length whole.all, whole.short), subst (λ t. IsAnswer t (Ok trace)) (whole.same ∙ whole.all) told)

pub read : (left : Option (List ℕ)) (text seen : List ℕ) (trace : Trace) → IsWhole left text seen → Tells seen (Ok trace) → IsLawful trace → IsRead trace left
read left text seen trace whole (inl none) lawful = absurd (cc none)
read left text seen trace whole (inr told) lawful = record { lawful = lawful; told = input left text seen trace whole told }

pub answer : (seen : List ℕ) (fault : TraceFault) → fault ≢ NoMemory → Tells seen (Err fault) → IsAnswer seen (Err fault)
answer seen fault other (inl none) = let same : fault ≡ NoMemory = cc none in absurd (other same)
answer seen fault other (inr told) = told

pub refused : (left : Option (List ℕ)) (text seen : List ℕ) (fault : TraceFault) → IsWhole left text seen → fault ≢ NoMemory → Tells seen (Err fault) → IsRefused left fault
refused None text seen fault whole other told = tt
refused (Some bytes) text seen fault whole other told =
    (omega (arith, ap length whole.all, whole.short), subst (λ t. IsAnswer t (Err fault)) (whole.same ∙ whole.all) (answer seen fault other told))

law_input : (left : Option (List ℕ)) (text seen : List ℕ) (law : LawInput) → IsWhole left text seen → IsLawAnswer seen (Ok law) → IfSome left (λ bytes. (length bytes ≤ MOST_INPUT) × IsLawAnswer bytes (Ok law))
law_input None text seen law whole told = tt
law_input (Some bytes) text seen law whole told = (omega (arith, ap length whole.all, whole.short), subst (λ t. IsLawAnswer t (Ok law)) (whole.same ∙ whole.all) told)

pub law_read : (left : Option (List ℕ)) (text seen : List ℕ) (law : LawInput) → IsWhole left text seen → LawTells seen (Ok law) → IsDecidable law → IsLawRead law left
law_read left text seen law whole (inl none) decidable = absurd (cc none)
law_read left text seen law whole (inr told) decidable = record { decidable = decidable; told = law_input left text seen law whole told }

law_answer : (seen : List ℕ) (fault : TraceFault) → fault ≢ NoMemory → LawTells seen (Err fault) → IsLawAnswer seen (Err fault)
law_answer seen fault other (inl none) = let same : fault ≡ NoMemory = cc none in absurd (other same)
law_answer seen fault other (inr told) = told

pub law_refused : (left : Option (List ℕ)) (text seen : List ℕ) (fault : TraceFault) → IsWhole left text seen → fault ≢ NoMemory → LawTells seen (Err fault) → IsLawRefused left fault
law_refused None text seen fault whole other told = tt
law_refused (Some bytes) text seen fault whole other told =
    (omega (arith, ap length whole.all, whole.short), subst (λ t. IsLawAnswer t (Err fault)) (whole.same ∙ whole.all) (law_answer seen fault other told))
