-- What an input of `audit` tells is one thing, and so it has the status that it must have.
use Rattle.std.proofs.Common.{arith, inl, inr, ◌≡◌, ◌≢◌, ◌⊎◌, ℕ, ◌<◌, ◌≤◌, List, Option, Some, None, Result, Ok, Err, refl, sym, ◌∙◌, ap, subst}
use Rattle.std.proofs.lemmas.Bool.{cases_lt}
use Rattle.std.specs.Option.{IfSome, IfNone}
use Rattle.wbt_io.specs.declared.source.ReadEnd.TheVariants as read_end
use Rattle.wbt_trace_text.specs.Reading.{IsAnswer, Tells as TraceTells}
use Rattle.wbt_trace_text.specs.declared.fault.TraceFault.{TraceFault}
use Rattle.wbt_trace_text.specs.declared.fault.TraceFault.TheVariants.{NoMemory}
use Rattle.wbt_trace.specs.declared.trace.Trace.{Trace}
use Rattle.wbt_journal.specs.declared.journal.Journal.{Journal}
use Rattle.wbt_journal_reader.specs.declared.read.JournalFault.TheVariants as journal_fault
use Rattle.wbt_journal.specs.Plain.{TextFixesJournal}
use Rattle.wbt_journal_reader.specs.FirstBad.{IsFirstBad}
use Rattle.wbt_audit.specs.declared.verdict.Verdict.{Verdict}
use Rattle.wbt_audit.specs.declared.verdict.Verdict.TheVariants as verdict
use Rattle.wbt_top_plain.specs.Audit.{Told, bad_trace, bad_journal, both, Tells, PartsTell, HasParts, IsCut, IsUncut, IsBadAt, IsJournalOf, IfAuditTold, IsAuditInput, Answers, AnswersVerdict, Shows}
use Rattle.wbt_top_plain.specs.Top.{IsLong}
use Rattle.wbt_top_plain.specs.declared.causes.CaseEnd.{CaseEnd}
use Rattle.wbt_top_plain.specs.declared.causes.CaseEnd.TheVariants.{Unread, BadTrace, BadJournal}
use Rattle.wbt_top_plain.specs.declared.status.Status.{Status}
use Rattle.wbt_top_plain.specs.declared.status.Status.TheVariants as status
use Rattle.wbt_top_plain.proofs.Cutting.{parts_once}
use Rattle.wbt_top_plain.proofs.Each.{memory_or}
use Rattle.wbt_top_plain.proofs.Plain.{plain_once}

-- ---- what was read is what the input tells

-- the parts that were found, where the rest may be seen in another way
abbrev pub seen : {X : Type 0} (now : X → List ℕ) (rest : Option X) → Option (List ℕ)
seen now None = None
seen now (Some x) = Some (now x)

pub has_parts : {X : Type 0} (now : X → List ℕ) (input front : List ℕ) (rest : Option X) → IfNone rest (IsUncut input × (front ≡ input)) → IfSome rest (λ x. IsCut input front (now x))
    → HasParts input front (seen now rest)
has_parts now input front None without with_one = without
has_parts now input front (Some x) without with_one = with_one

pub none_parts : {X : Type 0} (input front : List ℕ) (rest : Option X) → rest ≡ None → IfNone rest (IsUncut input × (front ≡ input)) → HasParts input front None
none_parts input front None is without = without
none_parts input front (Some x) is without = absurd (cc is)

pub some_parts : {X : Type 0} (now : X → List ℕ) (input front : List ℕ) (rest : Option X) (x : X) → rest ≡ Some x → IfSome rest (λ y. IsCut input front (now y)) → HasParts input front (Some (now x))
some_parts now input front None x is with_one = absurd (cc is)
some_parts {X} now input front (Some y) x is with_one = let same : y ≡ x = cc is in subst (λ (z : X). IsCut input front (now z)) same with_one

pub trace_of : (front : List ℕ) (trace : Trace) → TraceTells front (Ok trace) → IsAnswer front (Ok trace)
trace_of front trace (inl none) = absurd (cc none)
trace_of front trace (inr told) = told

-- ---- one thing

first_once : (text : List ℕ) (l m : ℕ) → IsFirstBad l text → IsFirstBad m text → l ≡ m
first_once text l m a b = by_order (cases_lt l m) (cases_lt m l)
  where
    by_order : (l < m) ⊎ (m ≤ l) → (m < l) ⊎ (l ≤ m) → l ≡ m
    by_order (inl less) other = absurd (a.here (b.before l less))
    by_order (inr most) (inl more) = absurd (b.here (a.before m more))
    by_order (inr most) (inr least) = omega (arith, most, least)

bad_once : (rest : Option (List ℕ)) (l m : ℕ) → IsBadAt rest l → IsBadAt rest m → l ≡ m
bad_once None l m a b = a ∙ sym b
bad_once (Some rest) l m a b = first_once rest l m a b

bad_is_none : (rest : Option (List ℕ)) (l : ℕ) (j : Journal) → IsBadAt rest l → IsJournalOf rest j → ⊥
bad_is_none None l j bad is = is
bad_is_none (Some rest) l j bad is = bad.other j is.0 is.1

journal_once : TextFixesJournal → (rest : Option (List ℕ)) (j k : Journal) → IsJournalOf rest j → IsJournalOf rest k → j ≡ k
journal_once fixes None j k a b = absurd a
journal_once fixes (Some rest) j k a b = plain_once fixes j k a.0 b.0 (a.1 ∙ sym b.1)

module _ (one : (text : List ℕ) (a b : Result Trace TraceFault) → IsAnswer text a → IsAnswer text b → a ≡ b) (fixes : TextFixesJournal) where
  parts_tell_once : (front : List ℕ) (rest : Option (List ℕ)) (a b : Told) → PartsTell front rest a → PartsTell front rest b → a ≡ b
  parts_tell_once front rest (bad_trace f) (bad_trace g) p q = let same : f ≡ g = cc (one front (Err f) (Err g) p q) in ap bad_trace same
  parts_tell_once front rest (bad_trace f) (bad_journal l) p q = absurd (cc (one front (Err f) (Ok q.0.0) p q.0.1))
  parts_tell_once front rest (bad_trace f) (both t j) p q = absurd (cc (one front (Err f) (Ok t) p q.0))
  parts_tell_once front rest (bad_journal l) (bad_trace f) p q = absurd (cc (one front (Ok p.0.0) (Err f) p.0.1 q))
  parts_tell_once front rest (bad_journal l) (bad_journal m) p q = ap bad_journal (bad_once rest l m p.1 q.1)
  parts_tell_once front rest (bad_journal l) (both t j) p q = absurd (bad_is_none rest l j p.1 q.1)
  parts_tell_once front rest (both t j) (bad_trace f) p q = absurd (cc (one front (Ok t) (Err f) p.0 q))
  parts_tell_once front rest (both t j) (bad_journal l) p q = absurd (bad_is_none rest l j q.1 p.1)
  parts_tell_once front rest (both t j) (both u k) p q =
      let traces : t ≡ u = cc (one front (Ok t) (Ok u) p.0 q.0) in
      let journals : j ≡ k = journal_once fixes rest j k p.1 q.1 in
      λ i. both (traces i) (journals i)

  pub tells_once : (input : List ℕ) (a b : Told) → Tells input a → Tells input b → a ≡ b
  tells_once input a b p q =
      let parts = parts_once input p.front q.front p.rest q.rest p.parts q.parts in
      parts_tell_once q.front q.rest a b (subst (λ (r : Option (List ℕ)). PartsTell q.front r a) parts.1 (subst (λ (f : List ℕ). PartsTell f p.rest a) parts.0 p.tell)) q.tell

  -- of what was read all is said that the input tells
  pub is_told : (left : Option (List ℕ)) (what : Told) (P : Told → Type 0) → IsAuditInput left what → P what → IfAuditTold left P
  is_told None what P told holds = tt
  is_told (Some input) what P told holds = λ short other tells. subst P (tells_once input what other told.1 tells) holds

  -- an input that isn't worked on, for such an end
  module _ (left : Option (List ℕ)) (end : CaseEnd) (result : Status) (Risen Failed : Type 0)
      (read_fault : end ≡ Unread read_end.ReadFault → Risen) (too_long : end ≡ Unread read_end.TooLong → IsLong left)
      (bad : (fault : TraceFault) → end ≡ BadTrace fault → fault ≢ NoMemory → IsAuditInput left (bad_trace fault))
      (none : (line : ℕ) → end ≡ BadJournal (journal_fault.BadLine line) → IsAuditInput left (bad_journal line))
      (memory : (end ≡ Unread read_end.NoMemory) ⊎ ((end ≡ BadTrace NoMemory) ⊎ (end ≡ BadJournal journal_fault.NoMemory)) → result ≡ status.NoMemory)
      (of_trace : (fault : TraceFault) → (fault ≢ NoMemory) × (end ≡ BadTrace fault) → result ≡ status.BadTrace fault)
      (of_journal : (line : ℕ) → end ≡ BadJournal (journal_fault.BadLine line) → result ≡ status.BadJournal line)
      (calm : Risen → ⊥) where
    no_memory : result ≡ status.NoMemory → IfAuditTold left (λ what. Answers result Failed what ⊎ (result ≡ status.NoMemory))
    no_memory is = by_left left
      where
        by_left : (l : Option (List ℕ)) → IfAuditTold l (λ what. Answers result Failed what ⊎ (result ≡ status.NoMemory))
        by_left None = tt
        by_left (Some input) = λ short what tells. inr is

    long : IsLong left → IfAuditTold left (λ what. Answers result Failed what ⊎ (result ≡ status.NoMemory))
    long = by_left left
      where
        by_left : (l : Option (List ℕ)) → IsLong l → IfAuditTold l (λ what. Answers result Failed what ⊎ (result ≡ status.NoMemory))
        by_left None is = tt
        by_left (Some input) is = λ short what tells. absurd (omega (arith, short, is))

    pub end_answers : IfAuditTold left (λ what. Answers result Failed what ⊎ (result ≡ status.NoMemory))
    end_answers = by_end end refl
      where
        by_end : (x : CaseEnd) → end ≡ x → IfAuditTold left (λ what. Answers result Failed what ⊎ (result ≡ status.NoMemory))
        by_end (Unread read_end.ReadFault) is = absurd (calm (read_fault is))
        by_end (Unread read_end.TooLong) is = long (too_long is)
        by_end (Unread read_end.NoMemory) is = no_memory (memory (inl is))
        by_end (BadTrace fault) is = by_memory (memory_or fault)
          where
            by_memory : (fault ≡ NoMemory) ⊎ (fault ≢ NoMemory) → IfAuditTold left (λ what. Answers result Failed what ⊎ (result ≡ status.NoMemory))
            by_memory (inl none) = no_memory (memory (inr (inl (is ∙ ap BadTrace none))))
            by_memory (inr other) =
                is_told left (bad_trace fault) (λ what. Answers result Failed what ⊎ (result ≡ status.NoMemory)) (bad fault is other) (inl (of_trace fault (other, is)))
        by_end (BadJournal (journal_fault.BadLine line)) is =
            is_told left (bad_journal line) (λ what. Answers result Failed what ⊎ (result ≡ status.NoMemory)) (none line is) (inl (of_journal line is))
        by_end (BadJournal journal_fault.NoMemory) is = no_memory (memory (inr (inr is)))

-- ---- what a verdict's status shows

shown_of : (s : Status) (Failed : Type 0) (v : Verdict) → AnswersVerdict s Failed v → Shows s v
shown_of s Failed verdict.Lawful (inl is) = subst (λ (x : Status). Shows x verdict.Lawful) (sym is) refl
shown_of s Failed verdict.Lawful (inr fault) = subst (λ (x : Status). Shows x verdict.Lawful) (sym fault.1) refl
shown_of s Failed (verdict.Broken clause line) is = subst (λ (x : Status). Shows x (verdict.Broken clause line)) (sym is) (clause, line, refl)
shown_of s Failed (verdict.Unsettled task) is = subst (λ (x : Status). Shows x (verdict.Unsettled task)) (sym is) (task, refl)

pub shows : (s : Status) (Failed : Type 0) (v : Verdict) → (s ≡ status.NoMemory) ⊎ AnswersVerdict s Failed v → s ≢ status.NoMemory → Shows s v
shows s Failed v (inl none) other = absurd (other none)
shows s Failed v (inr answers) other = shown_of s Failed v answers

-- a verdict's status is no refusal, and tells of no input that wasn't read
pub no_refusal : (s : Status) (Failed : Type 0) (v : Verdict) (fault : TraceFault) → (s ≡ status.NoMemory) ⊎ AnswersVerdict s Failed v → s ≡ status.BadTrace fault → ⊥
no_refusal s Failed v fault (inl none) is = cc (none, is)
no_refusal s Failed v fault (inr answers) is = subst (λ (x : Status). Shows x v) is (shown_of s Failed v answers)

pub no_read_fault : (s : Status) (Failed : Type 0) (v : Verdict) → (s ≡ status.NoMemory) ⊎ AnswersVerdict s Failed v → s ≡ status.ReadFault → ⊥
no_read_fault s Failed v (inl none) is = cc (none, is)
no_read_fault s Failed v (inr answers) is = subst (λ (x : Status). Shows x v) is (shown_of s Failed v answers)

pub not_too_long : (s : Status) (Failed : Type 0) (v : Verdict) → (s ≡ status.NoMemory) ⊎ AnswersVerdict s Failed v → s ≡ status.TooLong → ⊥
not_too_long s Failed v (inl none) is = cc (none, is)
not_too_long s Failed v (inr answers) is = subst (λ (x : Status). Shows x v) is (shown_of s Failed v answers)

pub other_way : (s : Status) (Failed : Type 0) (v : Verdict) → (s ≡ status.NoMemory) ⊎ AnswersVerdict s Failed v → AnswersVerdict s Failed v ⊎ (s ≡ status.NoMemory)
other_way s Failed v (inl none) = inr none
other_way s Failed v (inr answers) = inl answers
