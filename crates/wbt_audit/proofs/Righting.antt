-- An audit's answers are right.
use Rattle.std.proofs.Common.{◌≡◌, ℕ, zero, suc, ◌+◌, ◌<◌, ◌≤◌, Bool, true, false, ◌&&◌, ◌==◌, cond, nat_le, Option, Some, None, List, [], ◌∷◌, count_by, get_or, length, map, slice_get, refl, sym, ap, ◌∙◌, subst, arith, ◌⊎◌, inl, inr}
use Rattle.std.proofs.lemmas.Bool.{cases_eq}
use Rattle.std.proofs.lemmas.Grind.{common_steps}
use Rattle.std.proofs.lemmas.List.{length-map}
use Rattle.std.proofs.lemmas.List.Sums.{sum_by-cons}
use Rattle.wbt_audit_walk.proofs.Common.{TaskLine, Trace, CpuJournal, Journal, with_mark, with_marks, Each, rests_last, is_on}
use Rattle.wbt_journal.specs.Checks.{part_with_marks}
use Rattle.wbt_journal.specs.Laws.{FaultlessIsLawful, LawfulIsFaultless, RestersAreAlone}
use Rattle.wbt_journal.specs.Machine.{cpu_of_task}
use Rattle.wbt_journal.specs.Told.{InOrder, NamesInOrder}
use Rattle.wbt_journal.specs.Verdict as journal
use Rattle.wbt_journal.specs.Verdict.{verdict_of}
use Rattle.wbt_audit.specs.declared.verdict.Verdict.TheVariants.{Lawful, Broken}
use Rattle.wbt_audit.specs.Audited.{audit_of, is_unsettled, settled, tasks_on, told_verdict, unsettled_from, unsettled_task}
use Rattle.wbt_audit.specs.Righted.{LawfulVerdictsAreRight, BrokenVerdictsAreRight}

-- ---- the yes

settled_lawful : (which : Option ℕ) (verdict : journal.Verdict) → settled which (told_verdict verdict) ≡ Lawful → verdict ≡ journal.lawful
settled_lawful None journal.lawful is = refl
settled_lawful None (journal.broken point line) is = cc
settled_lawful (Some task) verdict is = cc

lawful_found : (trace : Trace) (j : Journal) → audit_of trace j ≡ Lawful → verdict_of trace (with_marks trace j) ≡ journal.lawful
unfolding audit_of
lawful_found trace j is = settled_lawful (unsettled_task trace) (verdict_of trace (with_marks trace j)) is

part_names : (trace : Trace) (part : CpuJournal) → NamesInOrder part → NamesInOrder (part_with_marks trace part)
part_names trace part names = subst (λ (n : ℕ). InOrder n (length part.estimates) 0 0 part.entries) (sym (length-map part.checks (with_mark trace))) names

marked_names : (trace : Trace) (parts : List CpuJournal) → Each NamesInOrder parts → Each NamesInOrder (map (part_with_marks trace) parts)
marked_names trace [] names = tt
marked_names trace (part ∷ parts) names = (part_names trace part names.0, marked_names trace parts names.1)

pub lawful_right : FaultlessIsLawful → LawfulVerdictsAreRight
lawful_right faultless trace j names is = faultless trace (with_marks trace j) (marked_names trace j.cpus names) (lawful_found trace j is)

-- ---- the no

settled_broken : (which : Option ℕ) (verdict : journal.Verdict) (point line : ℕ) → settled which (told_verdict verdict) ≡ Broken point line
    → (which ≡ None) × (verdict ≡ journal.broken point line)
settled_broken None journal.lawful point line is = cc
settled_broken None (journal.broken p l) point line is = (refl, cc)
settled_broken (Some task) verdict point line is = cc

broken_found : (trace : Trace) (j : Journal) (point line : ℕ) → audit_of trace j ≡ Broken point line
    → (unsettled_task trace ≡ None) × (verdict_of trace (with_marks trace j) ≡ journal.broken point line)
unfolding audit_of
broken_found trace j point line is = settled_broken (unsettled_task trace) (verdict_of trace (with_marks trace j)) point line is

abbrev no_line : TaskLine
no_line = record { cpu = 0; pace = None }

-- no task is unsettled
not_here : (test : Bool) (task : ℕ) (more : Option ℕ) → ◌≡◌ {A = Option ℕ} (elim test [ true ↦ Some task | false ↦ more ]) None → (test ≡ false) × (more ≡ None)
not_here true task more is = cc
not_here false task more is = (refl, is)

none_unsettled : (trace : Trace) (lines : List TaskLine) (task k : ℕ) → unsettled_from trace task lines ≡ None → k < length lines
    → is_unsettled trace (task + k) (get_or lines k no_line).cpu ≡ false
none_unsettled trace [] task k none low = absurd (omega arith)
none_unsettled trace (line ∷ lines) task zero none low =
    let e : task ≡ task + 0 = omega arith in
    ap (λ (t : ℕ). is_unsettled trace t line.cpu) (sym e) ∙ (not_here (is_unsettled trace task line.cpu) task (unsettled_from trace (task + 1) lines) none).0
none_unsettled trace (line ∷ lines) task (suc k) none low =
    let e : task + suc k ≡ task + 1 + k = omega arith in
    ap (λ (t : ℕ). is_unsettled trace t (get_or lines k no_line).cpu) e
    ∙ none_unsettled trace lines (task + 1) k (not_here (is_unsettled trace task line.cpu) task (unsettled_from trace (task + 1) lines) none).1 (omega arith)

same_of : (a b : ℕ) → (a == b) ≡ true → a ≡ b
same_of a b e = grind (arith, common_steps)

own_is : (lines : List TaskLine) (task cpu : ℕ) → is_on cpu (cpu_of_task (slice_get lines task)) ≡ true → (task < length lines) × ((get_or lines task no_line).cpu ≡ cpu)
own_is [] task cpu own = cc
own_is (line ∷ lines) zero cpu own = (omega arith, same_of line.cpu cpu own)
own_is (line ∷ lines) (suc task) cpu own = let more = own_is lines task cpu own in (omega arith, more.1)

-- two tasks of one CPU

abbrev is_of : (cpu : ℕ) (task : TaskLine) → Bool
is_of cpu task = task.cpu == cpu

same_is : (a b : ℕ) → a ≡ b → (a == b) ≡ true
same_is a b e = grind (arith, common_steps)

counted : (cpu : ℕ) (line : TaskLine) (lines : List TaskLine) → line.cpu ≡ cpu → count_by (is_of cpu) (line ∷ lines) ≡ 1 + count_by (is_of cpu) lines
counted cpu line lines is = sum_by-cons (λ (x : TaskLine). cond (is_of cpu x) 1 0) line lines ∙ ap (λ (b : Bool). cond b 1 0 + count_by (is_of cpu) lines) (same_is line.cpu cpu is)

some_more : (cpu : ℕ) (line : TaskLine) (lines : List TaskLine) → count_by (is_of cpu) lines ≤ count_by (is_of cpu) (line ∷ lines)
some_more cpu line lines = omega (arith, sum_by-cons (λ (x : TaskLine). cond (is_of cpu x) 1 0) line lines)

one : (cpu : ℕ) (lines : List TaskLine) (a : ℕ) → a < length lines → (get_or lines a no_line).cpu ≡ cpu → 1 ≤ count_by (is_of cpu) lines
one cpu [] a low is = absurd (omega arith)
one cpu (line ∷ lines) zero low is = omega (arith, counted cpu line lines is)
one cpu (line ∷ lines) (suc a) low is = omega (arith, one cpu lines a (omega arith) is, some_more cpu line lines)

two : (cpu : ℕ) (lines : List TaskLine) (a b : ℕ) → a < length lines → b < length lines → (get_or lines a no_line).cpu ≡ cpu → (get_or lines b no_line).cpu ≡ cpu
    → (a ≡ b → ⊥) → 2 ≤ count_by (is_of cpu) lines
two cpu [] a b low less x y apart = absurd (omega arith)
two cpu (line ∷ lines) zero zero low less x y apart = absurd (apart refl)
two cpu (line ∷ lines) zero (suc b) low less x y apart = omega (arith, counted cpu line lines x, one cpu lines b (omega arith) y)
two cpu (line ∷ lines) (suc a) zero low less x y apart = omega (arith, counted cpu line lines y, one cpu lines a (omega arith) x)
two cpu (line ∷ lines) (suc a) (suc b) low less x y apart =
    omega (arith, two cpu lines a b (omega arith) (omega arith) x y (λ e. apart (ap (λ (n : ℕ). suc n) e)), some_more cpu line lines)

few : (rests : Bool) (n : ℕ) → rests ≡ true → (rests && nat_le 2 n) ≡ false → n < 2
few rests n is test = let below : nat_le 2 n ≡ false = sym (ap (λ (b : Bool). b && nat_le 2 n) is) ∙ test in grind (arith, common_steps, below)

alone : (trace : Trace) → unsettled_task trace ≡ None → RestersAreAlone trace
alone trace none task rests cpu other own also =
    let mine = own_is trace.tasks task cpu own in
    let its = own_is trace.tasks other cpu also in
    let e : 0 + task ≡ task = omega arith in
    let at = ap (λ (t : ℕ). is_unsettled trace t (get_or trace.tasks task no_line).cpu) (sym e) ∙ none_unsettled trace trace.tasks 0 task none mine.0 in
    let less = few (rests_last trace task) (tasks_on trace (get_or trace.tasks task no_line).cpu) rests at in
    let here : tasks_on trace cpu < 2 = subst (λ (c : ℕ). tasks_on trace c < 2) mine.1 less in
    by_case (cases_eq other task) (λ apart. let both = two cpu trace.tasks other task its.0 mine.0 its.1 mine.1 apart in absurd (omega arith))
  where
    by_case : (other ≡ task) ⊎ (other ≡ task → ⊥) → ((other ≡ task → ⊥) → other ≡ task) → other ≡ task
    by_case (inl e) unless_apart = e
    by_case (inr apart) unless_apart = unless_apart apart

pub broken_right : LawfulIsFaultless → BrokenVerdictsAreRight
broken_right faultless trace j point line is lawful =
    let found = broken_found trace j point line is in
    let right = faultless trace (with_marks trace j) (alone trace found.0) lawful in cc
