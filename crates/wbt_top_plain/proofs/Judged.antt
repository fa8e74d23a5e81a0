-- What a run writes of its journal isn't called broken.
use Rattle.std.proofs.Common.{rules, inl, inr, ◌≡◌, ◌⊎◌, ℕ, List, [], ◌∷◌, ◌++◌, length, Option, Some, None, true, Result, Ok, codes, refl, sym, ◌∙◌, ap, subst}
use Rattle.wbt_text.specs.Cut.{Without}
use Rattle.wbt_text.specs.Reading.{Lead, Ends}
use Rattle.wbt_text.proofs.Cuts.{no_cut, lacks, from_lacks, without_append}
use Rattle.wbt_text.proofs.Spaces.{are_no_feed}
use Rattle.wbt_trace_text.specs.Lines.{kind_text, kind_of, numbers_of, IsLine}
use Rattle.wbt_trace_text.specs.Reading.{IsAnswer, traces}
use Rattle.wbt_trace.specs.Sofar.{Sofar, start}
use Rattle.wbt_trace_text.specs.declared.kind.Kind.{Kind}
use Rattle.wbt_trace_text.specs.declared.kind.Kind.TheVariants as kind
use Rattle.wbt_trace_text.specs.declared.fault.TraceFault.{TraceFault}
use Rattle.wbt_trace_text.specs.declared.line.Line.{Line}
use Rattle.wbt_trace.specs.declared.trace.Trace.{Trace}
use Rattle.wbt_journal.specs.declared.journal.Journal.{Journal}
use Rattle.wbt_journal.specs.Checks.{with_marks}
use Rattle.wbt_journal.specs.Each.{Each}
use Rattle.wbt_journal.specs.Lawful as journal
use Rattle.wbt_journal.specs.Marks.{unmarked_journal, LawfulIsTold}
use Rattle.wbt_journal.specs.Plain.{TextFixesJournal}
use Rattle.wbt_journal.specs.Text.{journal_text}
use Rattle.wbt_audit.specs.Audited.{audit_of}
use Rattle.wbt_audit.specs.declared.verdict.Verdict.{Verdict}
use Rattle.wbt_audit.specs.declared.verdict.Verdict.TheVariants as verdict
use Rattle.wbt_top_plain.specs.Audit.{IsOtherLine, text_of_lines, both, Tells, IsAuditInput, IfAuditTold, IfRunToJudge, IsRunToJudge, Answers, AnswersVerdict, Audited, Means}
use Rattle.wbt_top_plain.specs.declared.status.Status.{Status}
use Rattle.wbt_top_plain.specs.declared.status.Status.TheVariants as status
use Rattle.wbt_top_plain.proofs.Told.{tells_once}

-- ---- a line of a trace has no line feed, and none is `journal`

kind_lacks_feed : (k : Kind) → lacks 10 (kind_text k) ≡ true
kind_lacks_feed kind.Cpus = refl
kind_lacks_feed kind.Cap = refl
kind_lacks_feed kind.DirtyRatio = refl
kind_lacks_feed kind.BackgroundRatio = refl
kind_lacks_feed kind.DirtyBytes = refl
kind_lacks_feed kind.BackgroundBytes = refl
kind_lacks_feed kind.Avail = refl
kind_lacks_feed kind.Device = refl
kind_lacks_feed kind.Strict = refl
kind_lacks_feed kind.Chunk = refl
kind_lacks_feed kind.Cyclic = refl
kind_lacks_feed kind.Cgroup = refl
kind_lacks_feed kind.Context = refl
kind_lacks_feed kind.Expire = refl
kind_lacks_feed kind.Estimate = refl
kind_lacks_feed kind.Inode = refl
kind_lacks_feed kind.Task = refl
kind_lacks_feed kind.Pace = refl
kind_lacks_feed kind.Flusher = refl
kind_lacks_feed kind.Write = refl
kind_lacks_feed kind.Rest = refl
kind_lacks_feed kind.Order = refl
kind_lacks_feed kind.OrderTimer = refl
kind_lacks_feed kind.Tick = refl
kind_lacks_feed kind.Halt = refl

no_feed : (text : List ℕ) (l : Line) → IsLine text l → Without 10 text
no_feed text l spelled =
    subst (Without 10) (sym spelled.1)
    (without_append 10 (kind_text (kind_of l)) (32 ∷ spelled.0) (from_lacks 10 (kind_text (kind_of l)) (kind_lacks_feed (kind_of l))) ((λ e. cc e), are_no_feed spelled.0 (numbers_of l) spelled.2))

no_space : Without 32 (codes "journal")
no_space = search rules

is_other : (first : List ℕ) (l : Line) → Without 10 first → IsLine first l → IsOtherLine first
is_other first l whole spelled = record {
  whole = whole;
  other = λ is. no_cut 32 (codes "journal") (kind_text (kind_of l)) spelled.0 no_space (sym is ∙ spelled.1);
}

-- a text of lines of which none is `journal`
record HasLines (text : List ℕ) : Type 0 where
  lines : List (List ℕ)
  others : Each IsOtherLine lines
  are : text ≡ text_of_lines lines

lines_of : (ls : List Line) (s : Sofar) (text : List ℕ) (t : Sofar) (rest : List ℕ) → Lead traces ls s text t rest → rest ≡ [] → HasLines text
lines_of [] s text t rest lead none = record { lines = []; others = tt; are = lead.1 ∙ none }
lines_of (l ∷ ls) s text t rest lead none =
    let more = lines_of ls lead.2 lead.1 t rest lead.6 none in
    record {
      lines = lead.0 ∷ more.lines;
      others = (is_other lead.0 l (no_feed lead.0 l lead.4) lead.4, more.others);
      are = lead.3 ∙ ap (λ (m : List ℕ). lead.0 ++ 10 ∷ m) more.are;
    }

trace_lines : (front : List ℕ) (trace : Trace) → IsAnswer front (Ok trace) → HasLines front
trace_lines front trace answer = by_end answer.4
  where
    by_end : Ends traces (length answer.0) answer.1 answer.2 (Ok trace) → HasLines front
    by_end (inl whole) = lines_of answer.0 start front answer.1 answer.2 answer.3 whole.0
    by_end (inr (inl unread)) = absurd (cc unread.2)
    by_end (inr (inr refused)) = absurd (cc refused.6)

-- ---- what the input tells

run_tells : LawfulIsTold → (input : List ℕ) (run : IsRunToJudge input) → Tells input (both run.trace (unmarked_journal run.journal))
run_tells told input run =
    let lines = trace_lines run.front run.trace run.tells in
    let is = told run.trace run.journal run.run.lawful run.run.no_steps.0 run.run.no_steps.1 run.run.no_steps.2 run.run.no_steps.3 run.run.forms in
    record {
      front = run.front;
      rest = Some (journal_text run.journal);
      parts = record { lines = lines.lines; others = lines.others; front = lines.are; whole = run.whole };
      tell = (run.tells, (is.plain, is.text));
    }

-- ---- the verdict on it

module _ (one : (text : List ℕ) (a b : Result Trace TraceFault) → IsAnswer text a → IsAnswer text b → a ≡ b) (fixes : TextFixesJournal) (told : LawfulIsTold) where
  never_broken : (input : List ℕ) (run : IsRunToJudge input) (W : List ℕ → Type 0) → Audited (λ what. Tells input what) status.Unlawful W → ⊥
  never_broken input run W audited =
      let is = told run.trace run.journal run.run.lawful run.run.no_steps.0 run.run.no_steps.1 run.run.no_steps.2 run.run.no_steps.3 run.run.forms in
      let same : both audited.trace audited.journal ≡ both run.trace (unmarked_journal run.journal) =
      tells_once one fixes input (both audited.trace audited.journal) (both run.trace (unmarked_journal run.journal)) audited.told (run_tells told input run) in
      let traces : audited.trace ≡ run.trace = cc same in
      let journals : audited.journal ≡ unmarked_journal run.journal = cc same in
      let marked : with_marks audited.trace audited.journal ≡ run.journal = (λ i. with_marks (traces i) (journals i)) ∙ is.marks in
      let lawful : journal.IsLawful audited.trace (with_marks audited.trace audited.journal) =
      subst (λ (t : Trace). journal.IsLawful t (with_marks audited.trace audited.journal)) (sym traces) (subst (λ (j : Journal). journal.IsLawful run.trace j) (sym marked) run.run.lawful) in
      subst (λ (v : Verdict). Means v audited.trace audited.journal) audited.shown.2 audited.means lawful

  pub run_judged : (left : Option (List ℕ)) (result : Status) (Failed : Type 0) (W : List ℕ → Type 0)
      → IfAuditTold left (λ what. Answers result Failed what ⊎ (result ≡ status.NoMemory)) → (result ≡ status.Unlawful → Audited (IsAuditInput left) status.Unlawful W) → (Failed → ⊥)
      → IfRunToJudge left ((result ≡ status.Good) ⊎ ((result ≡ status.Unsettled) ⊎ (result ≡ status.NoMemory)))
  run_judged None result Failed W answers unlawful calm = tt
  run_judged (Some input) result Failed W answers unlawful calm = λ short run. by_answer run (answers short (both run.trace (unmarked_journal run.journal)) (run_tells told input run))
    where
      by_verdict : (run : IsRunToJudge input) (v : Verdict) → AnswersVerdict result Failed v → (result ≡ status.Good) ⊎ ((result ≡ status.Unsettled) ⊎ (result ≡ status.NoMemory))
      by_verdict run verdict.Lawful (inl good) = inl good
      by_verdict run verdict.Lawful (inr fault) = absurd (calm fault.0)
      by_verdict run (verdict.Broken clause line) is =
          let audited = unlawful is in
          absurd (never_broken input run W (record {
            trace = audited.trace;
            journal = audited.journal;
            told = audited.told.1;
            lawful = audited.lawful;
            means = audited.means;
            shown = audited.shown;
            wrote = audited.wrote;
          }))
      by_verdict run (verdict.Unsettled task) is = inr (inl is)

      by_answer : (run : IsRunToJudge input) → Answers result Failed (both run.trace (unmarked_journal run.journal)) ⊎ (result ≡ status.NoMemory)
          → (result ≡ status.Good) ⊎ ((result ≡ status.Unsettled) ⊎ (result ≡ status.NoMemory))
      by_answer run (inl answers) = by_verdict run (audit_of run.trace (unmarked_journal run.journal)) answers
      by_answer run (inr none) = inr (inr none)
