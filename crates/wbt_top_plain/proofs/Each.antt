-- Each text has the status that it must have: what a text tells is one thing, and each other cause is shut out.
use Rattle.std.proofs.Common.{inl, inr, ◌≡◌, ◌≢◌, ◌⊎◌, ◌↔◌, ℕ, ◌≤◌, List, length, Option, Some, None, Result, Ok, Err, IsOk, OnOk, is_ok, refl, ◌∙◌, ap, subst, arith, ⊎_elim}
use Rattle.std.specs.Option.{IfSome}
use Rattle.wbt_num.specs.declared.most.TheConstants.{MOST_INPUT}
use Rattle.wbt_io.specs.declared.source.ReadEnd.TheVariants as read_end
use Rattle.wbt_trace_text.specs.declared.fault.TraceFault.{TraceFault}
use Rattle.wbt_trace_text.specs.declared.fault.TraceFault.TheVariants.{BadLine, UnknownName, Twice, OutOfRange, Limit, Missing, NoMemory}
use Rattle.wbt_top_plain.specs.Top.{IsLong}
use Rattle.wbt_top_plain.specs.declared.causes.InputEnd.{InputEnd}
use Rattle.wbt_top_plain.specs.declared.causes.InputEnd.TheVariants.{Unread, Refused}
use Rattle.wbt_top_plain.specs.declared.causes.OutputEnd.{OutputEnd}
use Rattle.wbt_top_plain.specs.declared.causes.OutputEnd.TheVariants as output
use Rattle.wbt_top_plain.specs.declared.status.Status.{Status}
use Rattle.wbt_top_plain.specs.declared.status.Status.TheVariants as status

pub memory_or : (fault : TraceFault) → (fault ≡ NoMemory) ⊎ (fault ≢ NoMemory)
memory_or (BadLine line) = inr (λ e. cc e)
memory_or (UnknownName line) = inr (λ e. cc e)
memory_or (Twice line) = inr (λ e. cc e)
memory_or (OutOfRange line) = inr (λ e. cc e)
memory_or (Limit line) = inr (λ e. cc e)
memory_or (Missing what) = inr (λ e. cc e)
memory_or NoMemory = inl refl

-- what a text tells, which is one thing
module _ {V : Type 0} (Answer : (text : List ℕ) (answer : Result V TraceFault) → Type 0)
    (one : (text : List ℕ) (a b : Result V TraceFault) → Answer text a → Answer text b → a ≡ b) (left : Option (List ℕ)) where
  abbrev pub IfTells : (holds : V → Type 0) → Type 0
  IfTells holds = IfSome left (λ input. length input ≤ MOST_INPUT → (value : V) → Answer input (Ok value) → holds value)

  abbrev pub IfFails : (holds : TraceFault → Type 0) → Type 0
  IfFails holds = IfSome left (λ input. length input ≤ MOST_INPUT → (fault : TraceFault) → Answer input (Err fault) → holds fault)

  abbrev pub Told : (answer : Result V TraceFault) → Type 0
  Told answer = IfSome left (λ input. (length input ≤ MOST_INPUT) × Answer input answer)

  -- what was read is what the text tells
  pub is_told : (value : V) (P : V → Type 0) → Told (Ok value) → P value → IfTells P
  is_told value P told holds = by_left left told
    where
      by_left : (l : Option (List ℕ)) → IfSome l (λ input. (length input ≤ MOST_INPUT) × Answer input (Ok value))
          → IfSome l (λ input. length input ≤ MOST_INPUT → (other : V) → Answer input (Ok other) → P other)
      by_left None told = tt
      by_left (Some input) told = λ short other tells.
          let same : value ≡ other = cc (one input (Ok value) (Ok other) told.1 tells) in
          subst P same holds

  -- and it has no fault
  pub no_fault : (value : V) (P : TraceFault → Type 0) → Told (Ok value) → IfFails P
  no_fault value P told = by_left left told
    where
      by_left : (l : Option (List ℕ)) → IfSome l (λ input. (length input ≤ MOST_INPUT) × Answer input (Ok value))
          → IfSome l (λ input. length input ≤ MOST_INPUT → (fault : TraceFault) → Answer input (Err fault) → P fault)
      by_left None told = tt
      by_left (Some input) told = λ short fault fails. absurd (cc (one input (Ok value) (Err fault) told.1 fails))

  -- a text that isn't worked on, for such an end
  module _ (end : InputEnd) (result : Status) (Risen : Type 0)
      (read_fault : end ≡ Unread read_end.ReadFault → Risen) (too_long : end ≡ Unread read_end.TooLong → IsLong left)
      (refused : (fault : TraceFault) → end ≡ Refused fault → fault ≢ NoMemory → Told (Err fault))
      (memory : (result ≡ status.NoMemory) ↔ ((end ≡ Unread read_end.NoMemory) ⊎ (end ≡ Refused NoMemory)))
      (bad : (fault : TraceFault) → (result ≡ status.BadTrace fault) ↔ ((fault ≢ NoMemory) × (end ≡ Refused fault)))
      (calm : Risen → ⊥) where
    -- memory was refused, or the text has a fault, which is told
    abbrev Ended : (l : Option (List ℕ)) → Type 0
    Ended l = (result ≡ status.NoMemory) ⊎ ((fault : TraceFault) × (result ≡ status.BadTrace fault) × IfSome l (λ input. (length input ≤ MOST_INPUT) × Answer input (Err fault)))

    ended : Ended left ⊎ IsLong left
    ended = by_end end refl
      where
        by_end : (x : InputEnd) → end ≡ x → Ended left ⊎ IsLong left
        by_end (Unread read_end.ReadFault) is = absurd (calm (read_fault is))
        by_end (Unread read_end.TooLong) is = inr (too_long is)
        by_end (Unread read_end.NoMemory) is = inl (inl (memory.1 (inl is)))
        by_end (Refused fault) is = ⊎_elim
            (λ none. inl (inl (memory.1 (inr (is ∙ ap Refused none)))))
            (λ other. inl (inr (fault, (bad fault).1 (other, is), refused fault is other)))
            (memory_or fault)

    pub end_told : (P : V → Type 0) → ((value : V) → result ≡ status.NoMemory → P value) → IfTells P
    end_told P holds = by_left left ended
      where
        by_left : (l : Option (List ℕ)) → Ended l ⊎ IsLong l → IfSome l (λ input. length input ≤ MOST_INPUT → (value : V) → Answer input (Ok value) → P value)
        by_left None why = tt
        by_left (Some input) (inl (inl none)) = λ short value tells. holds value none
        by_left (Some input) (inl (inr fault)) = λ short value tells. absurd (cc (one input (Err fault.0) (Ok value) fault.2.1 tells))
        by_left (Some input) (inr long) = λ short value tells. absurd (omega (arith, short, long))

    pub end_failed : IfFails (λ fault. (result ≡ status.BadTrace fault) ⊎ (result ≡ status.NoMemory))
    end_failed = by_left left ended
      where
        by_left : (l : Option (List ℕ)) → Ended l ⊎ IsLong l
            → IfSome l (λ input. length input ≤ MOST_INPUT → (fault : TraceFault) → Answer input (Err fault) → (result ≡ status.BadTrace fault) ⊎ (result ≡ status.NoMemory))
        by_left None why = tt
        by_left (Some input) (inl (inl none)) = λ short fault fails. inr none
        by_left (Some input) (inl (inr first)) = λ short fault fails.
            let same : first.0 ≡ fault = cc (one input (Err first.0) (Err fault) first.2.1 fails) in
            inl (first.1 ∙ ap status.BadTrace same)
        by_left (Some input) (inr long) = λ short fault fails. absurd (omega (arith, short, long))

-- ---- how an output ends

module _ {A : Type 0} (written : Result A OutputEnd) (result : Status) (memory : (result ≡ status.NoMemory) ↔ (written ≡ Err output.NoMemory)) where
  -- where neither the sink failed nor the run is spent all is good, or memory ran out
  pub done : ((result ≡ status.Good) ↔ IsOk written) → (written ≡ Err output.WriteFault → ⊥) → (written ≡ Err output.Spent → ⊥) → (result ≡ status.Good) ⊎ (result ≡ status.NoMemory)
  done good fault spent = by_end written refl
    where
      by_end : (w : Result A OutputEnd) → written ≡ w → (result ≡ status.Good) ⊎ (result ≡ status.NoMemory)
      by_end (Ok x) is = inl (good.1 (ap is_ok is))
      by_end (Err output.WriteFault) is = absurd (fault is)
      by_end (Err output.Spent) is = absurd (spent is)
      by_end (Err output.NoMemory) is = inr (memory.1 is)

  -- where it is spent that is told, or memory ran out
  pub told_spent : ((result ≡ status.Spent) ↔ (written ≡ Err output.Spent)) → (X : Type 0) → OnOk written X → (X → ⊥) → (written ≡ Err output.WriteFault → ⊥) → (result ≡ status.Spent) ⊎ (result ≡ status.NoMemory)
  told_spent spent X good never fault = by_end written refl
    where
      by_end : (w : Result A OutputEnd) → written ≡ w → (result ≡ status.Spent) ⊎ (result ≡ status.NoMemory)
      by_end (Ok x) is = absurd (never (subst (λ (w : Result A OutputEnd). OnOk w X) is good))
      by_end (Err output.WriteFault) is = absurd (fault is)
      by_end (Err output.Spent) is = inl (spent.1 is)
      by_end (Err output.NoMemory) is = inr (memory.1 is)
