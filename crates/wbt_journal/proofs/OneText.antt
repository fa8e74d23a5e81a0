-- A journal is fixed by its text.
use Rattle.std.proofs.Common.{◌≡◌, ℕ, ◌+◌, ◌<◌, Bool, List, [], ◌∷◌, ◌++◌, length, flat_map, map, refl, sym, ◌∙◌, ap, arith, append_assoc, inl, inr, ◌⊎◌}
use Rattle.std.proofs.lemmas.List.Concat.{flat_map_single}
use Rattle.wbt_journal.specs.declared.entry.CheckEntry.{CheckEntry}
use Rattle.wbt_journal.specs.declared.entry.CpuJournal.{CpuJournal}
use Rattle.wbt_journal.specs.declared.field.Field.{Field}
use Rattle.wbt_journal.specs.declared.journal.Left.{Left}
use Rattle.wbt_journal.specs.declared.journal.StrictLine.{StrictLine}
use Rattle.wbt_journal.specs.declared.journal.Journal.{Journal}
use Rattle.wbt_journal.specs.declared.timer.TimerEntry.{TimerEntry}
use Rattle.wbt_journal.specs.declared.timer.TimerEntry.TheVariants as timer
use Rattle.wbt_journal.specs.declared.word.Word.{Word}
use Rattle.wbt_journal.specs.declared.word.Word.TheVariants as word
use Rattle.wbt_journal.specs.Each.{Each}
use Rattle.wbt_journal.specs.Line.{Line, line, num}
use Rattle.wbt_journal.specs.Lines.{bits_field, told_lines, timer_line, cpu_lines, left_line, strict_line, ending_line}
use Rattle.wbt_journal.specs.Steps.{first_columns, steps_part}
use Rattle.wbt_journal.specs.Told.{told}
use Rattle.wbt_journal.specs.Text.{census_line, totals_line, end_lines, journal_lines}
use Rattle.wbt_journal.specs.Plain.{MarkedBy, IsPlainPart, HasBits, IsPlain, TextFixesJournal}
use Rattle.wbt_journal.proofs.OneItem.{first_place, Stands, items_once}
use Rattle.wbt_journal.proofs.OneLine.{lines_once}
use Rattle.wbt_journal.proofs.OnePart.{part_once}
use Rattle.wbt_journal.proofs.OneTold.{number, at, word_of, bits_of, bits_again, ending_of, ending_again, first_line, behind, told_stands}

-- ---- lines as items have them

abbrev timer_lines : TimerEntry → List Line
timer_lines entry = timer_line entry ∷ []

abbrev left_lines : Left → List Line
left_lines left = left_line left ∷ []

abbrev strict_lines : StrictLine → List Line
strict_lines strict = strict_line strict ∷ []

abbrev plain_lines : Journal → List Line
plain_lines j = line word.Timer [] ∷ (flat_map timer_lines j.timer ++ (cpu_lines 0 j.cpus ++ (flat_map left_lines j.left ++ end_lines j)))

-- of a journal without steps
lines_are : (j : Journal) → j.steps ≡ [] → journal_lines j ≡ plain_lines j
unfolding journal_lines
lines_are j none =
    let timers : map timer_line j.timer ≡ flat_map timer_lines j.timer = sym (flat_map_single timer_line j.timer) in
    let lefts : map left_line j.left ≡ flat_map left_lines j.left = sym (flat_map_single left_line j.left) in
    (λ i. line word.Timer [] ∷ (timers i ++ (cpu_lines 0 j.cpus
    ++ (steps_part (length j.cpus) j.homes (first_columns 0 j.timer j.bases) (none i) ++ (lefts i ++ end_lines j)))))

-- ---- the other lines back

abbrev timer_by : Word → List Field → TimerEntry
timer_by word.Limits fs = timer.Limits (number 0 fs) (number 1 fs) (record { thresh = number 2 fs; bg = number 3 fs; hard = number 4 fs })
timer_by a fs = timer.Period (number 0 fs) (number 1 fs)

timer_again : (a : TimerEntry) (r : List Line) → timer_by (first_line (timer_lines a ++ r)).word (first_line (timer_lines a ++ r)).fields ≡ a
timer_again (timer.Limits d now l) r = refl
timer_again (timer.Period d k) r = refl

timer_begins : (a : TimerEntry) (r : List Line) → first_place (timer_lines a ++ r) ≡ 1
timer_begins (timer.Limits d now l) r = refl
timer_begins (timer.Period d k) r = refl

abbrev Any : {A : Type 0} → A → Type 0
Any a = Unit {0}

all_any : {A : Type 0} (xs : List A) → Each Any xs
all_any [] = tt
all_any (x ∷ xs) = (tt, all_any xs)

timer_once : (a b : TimerEntry) (r s : List Line) → Any a → Any b → timer_lines a ++ r ≡ timer_lines b ++ s → (a ≡ b) × (r ≡ s)
timer_once a b r s p q is = (sym (timer_again a r) ∙ ap (λ ls. timer_by (first_line ls).word (first_line ls).fields) is ∙ timer_again b s, ap behind is)

timer_stands : Stands 1 timer_lines Any
timer_stands = record { begins = timer_begins; once = timer_once }

left_again : (a : Left) → HasBits a → (let x : Left = record { page = a.page; word = bits_of (word_of (bits_field a.word)) } in x) ≡ a
left_again a bits = λ i. record { page = a.page; word = bits_again a.word bits.0 bits.1 i }

left_once : (a b : Left) (r s : List Line) → HasBits a → HasBits b → left_lines a ++ r ≡ left_lines b ++ s → (a ≡ b) × (r ≡ s)
left_once a b r s p q is =
    let same : (let x : Left = record { page = a.page; word = bits_of (word_of (bits_field a.word)) } in x) ≡ record { page = b.page; word = bits_of (word_of (bits_field b.word)) } =
    ap (λ ls. let x : Left = record { page = number 0 (first_line ls).fields; word = bits_of (word_of (at 1 (first_line ls).fields)) } in x) is in
    (sym (left_again a p) ∙ same ∙ left_again b q, ap behind is)

left_begins : (a : Left) (r : List Line) → first_place (left_lines a ++ r) ≡ 4
left_begins a r = refl

left_stands : Stands 4 left_lines HasBits
left_stands = record { begins = left_begins; once = left_once }

strict_again : (a : StrictLine) (r : List Line)
    → (let fs = (first_line (strict_lines a ++ r)).fields in let x : StrictLine = record { context = number 0 fs; most = number 1 fs; bound = number 2 fs } in x) ≡ a
strict_again a r = refl

strict_once : (a b : StrictLine) (r s : List Line) → Any a → Any b → strict_lines a ++ r ≡ strict_lines b ++ s → (a ≡ b) × (r ≡ s)
strict_once a b r s p q is =
    let fixed = ap (λ ls. let fs = (first_line ls).fields in let x : StrictLine = record { context = number 0 fs; most = number 1 fs; bound = number 2 fs } in x) is in
    (sym (strict_again a r) ∙ fixed ∙ strict_again b s, ap behind is)

strict_begins : (a : StrictLine) (r : List Line) → first_place (strict_lines a ++ r) ≡ 6
strict_begins a r = refl

strict_stands : Stands 6 strict_lines Any
strict_stands = record { begins = strict_begins; once = strict_once }

-- ---- the parts of the CPUs

not_part : (x y : ℕ) → (x < y) ⊎ (y < x) → x ≡ y → ⊥
not_part x y out is = elim out [
  | inl low ↦ omega (arith, low, is)
  | inr high ↦ omega (arith, high, is)
]

part_is : (rule : CheckEntry → Bool) (p q : CpuJournal) → IsPlainPart rule p → IsPlainPart rule q → told p ≡ told q → p ≡ q
part_is rule p q a b is = part_once p q a.names b.names is

-- what stands after the parts is none of them
pub record Behind (r : List Line) : Type 0 where
  pub entry : first_place r ≡ 3 → ⊥
  pub cpu : first_place r ≡ 2 → ⊥

behind_cpus : (n : ℕ) (ps : List CpuJournal) (r : List Line) → Behind r → first_place (cpu_lines n ps ++ r) ≡ 3 → ⊥
behind_cpus n [] r b is = b.entry is
behind_cpus n (p ∷ ps) r b is = not_part 2 3 (inl (omega arith)) is

cpu_head : (n : ℕ) (p : CpuJournal) (ps : List CpuJournal) (r : List Line) → cpu_lines n (p ∷ ps) ++ r ≡ line word.Cpu (num n ∷ []) ∷ (flat_map told_lines (told p) ++ (cpu_lines (n + 1) ps ++ r))
cpu_head n p ps r = ap (λ (ls : List Line). line word.Cpu (num n ∷ []) ∷ ls) (append_assoc (flat_map told_lines (told p)) (cpu_lines (n + 1) ps) r)

cpus_once : (rule : CheckEntry → Bool) (n : ℕ) (ps qs : List CpuJournal) (r s : List Line) → Each (IsPlainPart rule) ps → Each (IsPlainPart rule) qs → Behind r → Behind s
    → cpu_lines n ps ++ r ≡ cpu_lines n qs ++ s → (ps ≡ qs) × (r ≡ s)
cpus_once rule n [] [] r s p q x y is = (refl, is)
cpus_once rule n [] (b ∷ bs) r s p q x y is = absurd (x.cpu (ap first_place is))
cpus_once rule n (a ∷ as_) [] r s p q x y is = absurd (y.cpu (ap first_place (sym is)))
cpus_once rule n (a ∷ as_) (b ∷ bs) r s p q x y is =
    let tails : flat_map told_lines (told a) ++ (cpu_lines (n + 1) as_ ++ r) ≡ flat_map told_lines (told b) ++ (cpu_lines (n + 1) bs ++ s) = ap behind (sym (cpu_head n a as_ r) ∙ is ∙ cpu_head n b bs s) in
    let here = items_once 3 told_lines (MarkedBy rule) (told_stands rule) (told a) (told b) (cpu_lines (n + 1) as_ ++ r) (cpu_lines (n + 1) bs ++ s) p.0.marks q.0.marks (behind_cpus (n + 1) as_ r x) (behind_cpus (n + 1) bs s y) tails in
    let same = part_is rule a b p.0 q.0 here.0 in
    let rest = cpus_once rule (n + 1) as_ bs r s p.1 q.1 x y here.1 in
    ((λ i. same i ∷ rest.0 i), rest.1)

-- ---- the whole

left_part : (ls : List Left) (j : Journal) → (first_place (flat_map left_lines ls ++ end_lines j) ≡ 4) ⊎ (first_place (flat_map left_lines ls ++ end_lines j) ≡ 5)
left_part [] j = inr refl
left_part (l ∷ ls) j = inl refl

behind_left : (j : Journal) → Behind (flat_map left_lines j.left ++ end_lines j)
behind_left j = elim (left_part j.left j) [
  | inl four ↦ record { entry = λ is. omega (arith, four, is); cpu = λ is. omega (arith, four, is) }
  | inr five ↦ record { entry = λ is. omega (arith, five, is); cpu = λ is. omega (arith, five, is) }
]

not_timer : (ps : List CpuJournal) (j : Journal) → first_place (cpu_lines 0 ps ++ (flat_map left_lines j.left ++ end_lines j)) ≡ 1 → ⊥
not_timer [] j is = elim (left_part j.left j) [
  | inl four ↦ omega (arith, four, is)
  | inr five ↦ omega (arith, five, is)
]
not_timer (p ∷ ps) j is = not_part 2 1 (inr (omega arith)) is

not_left : (j : Journal) → first_place (end_lines j) ≡ 4 → ⊥
not_left j is = not_part 5 4 (inr (omega arith)) is

ends_are : (j : Journal) → end_lines j ≡ census_line j.left ∷ totals_line j.cpus ∷ (flat_map strict_lines j.strict ++ ending_line j.ending ∷ [])
ends_are j = ap (λ ls. census_line j.left ∷ totals_line j.cpus ∷ (ls ++ ending_line j.ending ∷ [])) (sym (flat_map_single strict_line j.strict))

not_strict : (j : Journal) → first_place (ending_line j.ending ∷ []) ≡ 6 → ⊥
not_strict j is = not_part 5 6 (inl (omega arith)) is

end_once : (j k : Journal) → end_lines j ≡ end_lines k → (j.strict ≡ k.strict) × (j.ending ≡ k.ending)
end_once j k is =
    let stricts = items_once 6 strict_lines Any strict_stands j.strict k.strict (ending_line j.ending ∷ []) (ending_line k.ending ∷ []) (all_any j.strict) (all_any k.strict) (not_strict j) (not_strict k)
    (ap (λ ls. behind (behind ls)) (sym (ends_are j) ∙ is ∙ ends_are k)) in
    (stricts.0, sym (ending_again j.ending) ∙ ap (λ ls. ending_of (word_of (at 0 (first_line ls).fields))) stricts.1 ∙ ending_again k.ending)

from_lines : (rule : CheckEntry → Bool) (j k : Journal) → IsPlain rule j → IsPlain rule k → plain_lines j ≡ plain_lines k → j ≡ k
from_lines rule j k p q is =
    let left = flat_map left_lines j.left ++ end_lines j in
    let left_too = flat_map left_lines k.left ++ end_lines k in
    let timers = items_once 1 timer_lines Any timer_stands j.timer k.timer (cpu_lines 0 j.cpus ++ left) (cpu_lines 0 k.cpus ++ left_too) (all_any j.timer) (all_any k.timer) (not_timer j.cpus j) (not_timer k.cpus k) (ap behind is) in
    let cpus = cpus_once rule 0 j.cpus k.cpus left left_too p.parts q.parts (behind_left j) (behind_left k) timers.1 in
    let lefts = items_once 4 left_lines HasBits left_stands j.left k.left (end_lines j) (end_lines k) p.left q.left (not_left j) (not_left k) cpus.1 in
    let ends = end_once j k lefts.1 in
    let steps : j.steps ≡ k.steps = p.steps ∙ sym q.steps in
    let bases : j.bases ≡ k.bases = p.bases ∙ sym q.bases in
    let homes : j.homes ≡ k.homes = p.homes ∙ sym q.homes in
    (λ i. record { timer = timers.0 i; cpus = cpus.0 i; steps = steps i; bases = bases i; homes = homes i; left = lefts.0 i; strict = ends.0 i; ending = ends.1 i })

pub text_once : TextFixesJournal
text_once rule j k p q is =
    from_lines rule j k p q (sym (lines_are j p.steps) ∙ lines_once (journal_lines j) (journal_lines k) p.fits q.fits is ∙ lines_are k q.steps)
