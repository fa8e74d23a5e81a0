-- What the code of the point on the timer's lines keeps, line by line.
use Rattle.std.proofs.Common.{◌≡◌, ℕ, zero, suc, ◌+◌, ◌<◌, ◌≤◌, Bool, true, false, not, nat_lt, if◌then◌else◌, Option, Some, None, option_map, Result, Ok, Err, IfOk, List, [], ◌∷◌, ◌++◌, length, set, drop, get_or, refl, ap, sym, subst, ◌∙◌, arith, tests, add_assoc, add-zero, add-one, drop-cons}
use Rattle.std.specs.List.{slice_get}
use Rattle.std.proofs.lemmas.List.{drop_all}
use Rattle.std.proofs.lemmas.Option.{slice_get-map, slice_get_within}
use Rattle.wbt_audit_walk.proofs.Common.{Limits, Trace, domains, first_fault, first_of, unless, opened_at, Journal, TimerEntry}
use Rattle.wbt_journal.specs.Timer.{LastLine, is_opening, limits_by, line_follows, lines_after, one_line, timer_fault}
use Rattle.wbt_journal.specs.Walk.{after}
use Rattle.wbt_journal.specs.Verdict.{timers_fault}
use Rattle.wbt_journal.specs.declared.timer.TimerEntry.TheVariants as timer
use Rattle.wbt_audit_reads.specs.Timing.{Keeps, Answers, Judges, JudgesLimits, Goes, line_of, lines_of, put}
use Rattle.wbt_audit_reads.specs.declared.timer.Line.{Line as KeptLine}
use Rattle.wbt_audit_reads.specs.declared.timer.Lines.{Lines}

-- ---- one line

lines_of-set : (last : List KeptLine) (domain : ℕ) (line : KeptLine) → lines_of (set last domain line) ≡ set (lines_of last) domain (line_of line)
lines_of-set [] domain line = refl
lines_of-set (l ∷ last) zero line = refl
lines_of-set (l ∷ last) (suc domain) line = ap (λ ls. line_of l ∷ ls) (lines_of-set last domain line)

lt_is : (v n : ℕ) → v < n → nat_lt v n ≡ true
lt_is v n lt = grind (arith, tests, lt)

put_at : (domain now : ℕ) (limits : Limits) (lines : List LastLine) → domain < length lines
    → put domain now limits lines ≡ set lines domain (record { now = now; hard = limits.hard })
put_at domain now limits lines lt =
    ap (λ b. if b then set lines domain (record { now = now; hard = limits.hard }) else lines ++ record { now = now; hard = limits.hard } ∷ []) (lt_is domain (length lines) lt)

length-lines : (last : List KeptLine) → length (lines_of last) ≡ length last
length-lines [] = refl
length-lines (l ∷ last) = ap suc (length-lines last)

pub opening_is : (trace : Trace) (opened : ℕ) (kept : Lines) (lines : List LastLine) → Keeps trace opened kept lines
    → nat_lt (length kept.last.items) kept.domains ≡ is_opening trace lines
opening_is trace opened kept lines keeps =
    ap (nat_lt (length kept.last.items)) keeps.count
    ∙ ap (λ n. nat_lt n (domains trace)) (sym (length-lines kept.last.items) ∙ ap length keeps.last)

module _ (trace : Trace) (opened : ℕ) (old new : Lines) (lines : List LastLine) (domain now : ℕ) (limits : Limits) (keeps : Keeps trace opened old lines) where
  found : (before : KeptLine) → slice_get old.last.items domain ≡ Some before → slice_get lines domain ≡ Some (line_of before)
  found before is = ap (λ ls. slice_get ls domain) (sym keeps.last) ∙ slice_get-map line_of old.last.items domain ∙ ap (option_map line_of) is

  pub followed : (before : KeptLine) (answer : Bool) → slice_get old.last.items domain ≡ Some before
      → answer ≡ line_follows trace (Some (line_of before)) domain now limits → new.domains ≡ old.domains → new.opened ≡ old.opened
      → (answer ≡ true → new.last.items ≡ set old.last.items domain (record { now = now; hard = limits.hard }))
      → Answers trace opened new (put domain now limits lines) (line_follows trace (slice_get lines domain) domain now limits) answer
  followed before answer is answers count moment items = record {
    answers = answers ∙ ap (λ l. line_follows trace l domain now limits) (sym (found before is));
    keeps = λ sure. record {
      count = count ∙ keeps.count;
      moment = moment ∙ keeps.moment;
      last =
          ap lines_of (items sure)
          ∙ lines_of-set old.last.items domain (record { now = now; hard = limits.hard })
          ∙ ap (λ ls. set ls domain (record { now = now; hard = limits.hard })) keeps.last
          ∙ sym (put_at domain now limits lines (slice_get_within lines domain (line_of before) (found before is)));
    };
  }

  pub by_opening : (answer b : Bool) → is_opening trace lines ≡ b → Answers trace opened new (put domain now limits lines) (limits_by b trace opened lines domain now limits) answer
      → Answers trace opened new (put domain now limits lines) (limits_by (is_opening trace lines) trace opened lines domain now limits) answer
  by_opening answer b is answers =
      subst (λ t. Answers trace opened new (put domain now limits lines) (limits_by t trace opened lines domain now limits) answer) (sym is) answers

-- ---- one entry

pub limits_judged : (trace : Trace) (old new : Lines) (domain now : ℕ) (limits : Limits) (answer : Bool) → JudgesLimits trace old new domain now limits answer
    → Judges trace old new (timer.Limits domain now limits) answer
limits_judged trace old new domain now limits answer judges opened lines keeps =
    let answers = judges opened lines keeps in record { fault = ap (λ b. unless b 0) (sym answers.answers); keeps = answers.keeps }

pub if_ok : {A E : Type 0} {P Q : A → Type 0} (r : Result A E) → ((a : A) → P a → Q a) → IfOk r P → IfOk r Q
if_ok (Ok a) f p = f a p
if_ok (Err e) f p = p

-- ---- the walk

drop_at : {A : Type 0} (xs : List A) (i : ℕ) (d : A) → i < length xs → drop i xs ≡ get_or xs i d ∷ drop (i + 1) xs
drop_at xs i d lt = drop-cons xs i d lt ∙ ap (λ n. get_or xs i d ∷ drop n xs) (sym (add-one i))

module _ (trace : Trace) (opened : ℕ) where
  pub begin_entries : (entries : List TimerEntry) (kept : Lines) → Keeps trace opened kept [] → Goes trace opened entries 0 kept
  begin_entries entries kept keeps = record { lines = []; keeps = keeps; to_come = refl; at_end = refl }

  split : (line : ℕ) (lines : List LastLine) (entry : TimerEntry) (more : List TimerEntry) (found : Option ℕ) → timer_fault trace opened lines entry ≡ found
      → first_fault (timer_fault trace opened) lines_after one_line line lines (entry ∷ more)
      ≡ elim found [ None ↦ first_fault (timer_fault trace opened) lines_after one_line (line + 1) (lines_after lines entry) more | Some at ↦ Some (line + at) ]
  split line lines entry more found is =
      ap (λ (f : Option ℕ). elim f [ None ↦ first_fault (timer_fault trace opened) lines_after one_line (line + 1) (lines_after lines entry) more | Some at ↦ Some (line + at) ]) is

  module _ (entries : List TimerEntry) (place : ℕ) (old new : Lines) (d : TimerEntry) (lt : place < length entries) (goes : Goes trace opened entries place old) where
    pub entry_on : (answer : Bool) → answer ≡ true → Judges trace old new (get_or entries place d) answer → Goes trace opened entries (place + 1) new
    entry_on answer sure judges =
        let entry : TimerEntry = get_or entries place d in
        let judged = judges opened goes.lines goes.keeps in record {
          lines = lines_after goes.lines entry;
          keeps = judged.keeps sure;
          to_come =
              ap (λ n. first_fault (timer_fault trace opened) lines_after one_line n (lines_after goes.lines entry) (drop (place + 1) entries)) (sym (add_assoc 2 place 1))
              ∙ sym (split (2 + place) goes.lines entry (drop (place + 1) entries) None (judged.fault ∙ ap (λ b. unless b 0) sure))
              ∙ ap (first_fault (timer_fault trace opened) lines_after one_line (2 + place) goes.lines) (sym (drop_at entries place d lt))
              ∙ goes.to_come;
          at_end = ap (after lines_after goes.lines) (sym (drop_at entries place d lt)) ∙ goes.at_end;
        }

    pub entry_stops : (answer : Bool) → answer ≡ false → Judges trace old new (get_or entries place d) answer
        → Some (2 + place) ≡ first_fault (timer_fault trace opened) lines_after one_line 2 [] entries
    entry_stops answer isnt judges =
        let entry : TimerEntry = get_or entries place d in
        let judged = judges opened goes.lines goes.keeps in
        ap Some (sym (add-zero (2 + place)))
        ∙ sym (split (2 + place) goes.lines entry (drop (place + 1) entries) (Some 0) (judged.fault ∙ ap (λ b. unless b 0) isnt))
        ∙ ap (first_fault (timer_fault trace opened) lines_after one_line (2 + place) goes.lines) (sym (drop_at entries place d lt))
        ∙ goes.to_come

-- ---- the whole

-- the fault of these entries
abbrev pub fault_of : (trace : Trace) (entries : List TimerEntry) → Option ℕ
fault_of trace entries =
    first_of (first_fault (timer_fault trace (opened_at entries)) lines_after one_line 2 [] entries)
    (unless (not (is_opening trace (after lines_after [] entries))) (2 + length entries))

pub stopped : (trace : Trace) (j : Journal) (entries : List TimerEntry) (place line : ℕ) → entries ≡ j.timer → line ≡ 2 + place
    → Some (2 + place) ≡ first_fault (timer_fault trace (opened_at entries)) lines_after one_line 2 [] entries → Some line ≡ timers_fault trace j
stopped trace j entries place line all is stops =
    ap Some is
    ∙ ap (λ f. first_of f (unless (not (is_opening trace (after lines_after [] entries))) (2 + length entries))) stops
    ∙ ap (fault_of trace) all

pub ended : (trace : Trace) (j : Journal) (entries : List TimerEntry) (place : ℕ) (kept : Lines) (b : Bool) → entries ≡ j.timer
    → Goes trace (opened_at entries) entries place kept → length entries ≤ place → nat_lt (length kept.last.items) kept.domains ≡ b
    → unless (not b) (2 + length entries) ≡ timers_fault trace j
ended trace j entries place kept b all goes le is =
    let opened : ℕ = opened_at entries in
    let none : drop place entries ≡ [] = drop_all place entries le in
    ap (λ t. unless (not t) (2 + length entries)) (sym is ∙ opening_is trace opened kept goes.lines goes.keeps)
    ∙ ap (λ ls. unless (not (is_opening trace ls)) (2 + length entries)) (ap (after lines_after goes.lines) (sym none) ∙ goes.at_end)
    ∙ ap (λ f. first_of f (unless (not (is_opening trace (after lines_after [] entries))) (2 + length entries)))
    (ap (first_fault (timer_fault trace opened) lines_after one_line (2 + place) goes.lines) (sym none) ∙ goes.to_come)
    ∙ ap (fault_of trace) all
