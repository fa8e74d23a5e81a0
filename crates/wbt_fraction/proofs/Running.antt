-- A history is a run of the machine that halves everything at once.
use Rattle.std.proofs.Common.{◌≡◌, ◌≢◌, ℕ, zero, suc, ◌+◌, ◌-◌, ◌<◌, ◌≤◌, ◌^◌, ◌⊎◌, inl, inr, ⊎_elim, Bool, true, false, cond, eqb, nat_le, List, [], ◌∷◌, sym, refl, ap, ap₂, ◌∙◌, subst, arith, eq-eqb, ne_eqb}
use mathlib.Core.Logic.{dite}
use native.Mathlib.Decide.{dec_le, ℕ_discrete}
use Rattle.std.proofs.lemmas.Bool.Decides.{nat_tests}
use Rattle.wbt_flex.specs.Eager.{Eager, Step, add_domain, add_part, new_period, eager_opening, eager_step, halved}
use Rattle.wbt_flex.specs.Proportions.{may_age}
use Rattle.wbt_fraction.specs.declared.domain.note.Note.{Note}
use Rattle.wbt_fraction.specs.declared.domain.note.Note.TheVariants.{Found, Added, Period}
use Rattle.wbt_fraction.specs.Words.{period_of, events_of}
use Rattle.wbt_fraction.specs.Numbers.{Stamped, number, latest, start_of}
use Rattle.wbt_fraction.specs.Notes.{additions, periods, IsPast, InTime, Shows, MayStand, IsHistory}
use Rattle.wbt_fraction.specs.Machine.{machine, placed, steps_of, DomainIsEager, PartIsEager}
use Rattle.wbt_fraction.proofs.Numbers.{number_later, number_added}
use Rattle.wbt_fraction.proofs.Histories.{past_le}

unfoldable stamped : (at : ℕ) → List Step → List Stamped
stamped at [] = []
stamped zero (add_domain n ∷ older) = ((machine older).period, n) ∷ stamped zero older
stamped (suc i) (add_domain n ∷ older) = stamped (suc i) older
stamped zero (add_part part n ∷ older) = stamped zero older
stamped (suc i) (add_part part n ∷ older) = cond (eqb i part) (((machine older).period, n) ∷ stamped (suc i) older) (stamped (suc i) older)
stamped at (new_period k ∷ older) = stamped at older

unfoldable AllGo : List Step → Type 0
AllGo [] = Unit {0}
AllGo (add_domain n ∷ older) = AllGo older
AllGo (add_part part n ∷ older) = AllGo older
AllGo (new_period k ∷ older) = (may_age (machine older).domain (machine older).period k ≡ true) × AllGo older

goes : (eager : Eager) (k : ℕ) → may_age eager.domain eager.period k ≡ true
    → eager_step eager (new_period k) ≡ record { parts = λ i. halved k (eager.parts i); domain = halved k eager.domain; period = eager.period + k }
goes eager k may = ap (λ b. cond b record { parts = λ i. halved k (eager.parts i); domain = halved k eager.domain; period = eager.period + k } eager) may

number_of : (at : ℕ) → Eager → ℕ
number_of zero eager = eager.domain
number_of (suc i) eager = eager.parts i

halved_all : (at k : ℕ) (eager : Eager) → number_of at record { parts = λ i. halved k (eager.parts i); domain = halved k eager.domain; period = eager.period + k } ≡ halved k (number_of at eager)
unfolding number_of
halved_all zero k eager = refl
halved_all (suc i) k eager = refl

added_if : (b : Bool) (p n old : ℕ) (adds : List Stamped) → old ≡ number 0 adds p → cond b (old + n) old ≡ number 0 (cond b ((p, n) ∷ adds) adds) p
added_if true p n old adds is = ap (λ m. m + n) is ∙ sym (number_added 0 adds p n)
added_if false p n old adds is = is

latest_if : (b : Bool) (p n : ℕ) (adds : List Stamped) → latest adds ≤ p → latest (cond b ((p, n) ∷ adds) adds) ≤ p
unfolding latest
latest_if true p n adds h = omega arith
latest_if false p n adds h = h

first_number : (at : ℕ) → number_of at eager_opening ≡ number (start_of at) [] 0
unfolding number_of number start_of halved
first_number zero = refl
first_number (suc i) = refl

stamps : (at : ℕ) (run : List Step) → AllGo run → (number_of at (machine run) ≡ number (start_of at) (stamped at run) (machine run).period) × (latest (stamped at run) ≤ (machine run).period)
unfolding stamped AllGo machine latest number_of start_of
stamps at [] go = (first_number at, omega arith)
stamps at (new_period k ∷ older) go =
    let rest = stamps at older go.1 in
    let e = goes (machine older) k go.0 in
    let p : ℕ = (machine older).period in
    let later : p ≤ p + k = omega arith in
    let gap : (p + k) - p ≡ k = omega arith in
    subst (λ (m : Eager). (number_of at m ≡ number (start_of at) (stamped at older) m.period) × (latest (stamped at older) ≤ m.period)) (sym e) (
      halved_all at k (machine older) ∙ ap (halved k) rest.0 ∙ sym (number_later (start_of at) (stamped at older) p (p + k) rest.1 later ∙ ap (λ d. halved d (number (start_of at) (stamped at older) p)) gap),
      (let h = rest.1 in omega arith),
    )
stamps zero (add_domain n ∷ older) go =
    let rest = stamps zero older go in
    (ap (λ m. m + n) rest.0 ∙ sym (number_added (start_of zero) (stamped zero older) (machine older).period n), omega arith)
stamps (suc i) (add_domain n ∷ older) go = stamps (suc i) older go
stamps zero (add_part part n ∷ older) go = stamps zero older go
stamps (suc i) (add_part part n ∷ older) go =
    let rest = stamps (suc i) older go in
    let p : ℕ = (machine older).period in (
      added_if (eqb i part) p n ((machine older).parts i) (stamped (suc i) older) rest.0,
      latest_if (eqb i part) p n (stamped (suc i) older) rest.1,
    )

unfoldable Passed : (period : ℕ) → List Step → Type 0
Passed period [] = period ≡ 0
Passed period (step ∷ older) = (period ≡ (machine (step ∷ older)).period) ⊎ Passed period older

period_grows : (step : Step) (older : List Step) → AllGo (step ∷ older) → (machine older).period ≤ (machine (step ∷ older)).period
unfolding machine AllGo
period_grows (add_part part n) older go = omega arith
period_grows (add_domain n) older go = omega arith
period_grows (new_period k) older go =
    let e = ap (λ (m : Eager). m.period) (goes (machine older) k go.0) in
    omega arith

go_older : (step : Step) (older : List Step) → AllGo (step ∷ older) → AllGo older
unfolding AllGo
go_older (add_part part n) older go = go
go_older (add_domain n) older go = go
go_older (new_period k) older go = go.1

passed_le : (run : List Step) (period : ℕ) → AllGo run → Passed period run → period ≤ (machine run).period
unfolding Passed machine
passed_le [] period go h = omega arith
passed_le (step ∷ older) period go (inl e) = omega arith
passed_le (step ∷ older) period go (inr h) =
    let grow = period_grows step older go in
    let rest = passed_le older period (go_older step older go) h in
    omega arith

now_passed : (run : List Step) → Passed (machine run).period run
unfolding Passed machine
now_passed [] = refl
now_passed (step ∷ older) = inl refl

abbrev Alike : List Step → List Step → Type 0
Alike new old = ((machine new).period ≡ (machine old).period) × ((machine new).domain ≡ (machine old).domain) × AllGo new

alike_more : (step : Step) (new old : List Step) → Alike new old → AllGo (step ∷ old) → Alike (step ∷ new) (step ∷ old)
unfolding machine AllGo
alike_more (add_part part n) new old a go = (a.0, a.1, a.2)
alike_more (add_domain n) new old a go = (a.0, ap (λ d. d + n) a.1, a.2)
alike_more (new_period k) new old a go =
    let may : may_age (machine new).domain (machine new).period k ≡ true = ap₂ (λ d q. may_age d q k) a.1 a.0 ∙ go.0 in
    let e = goes (machine new) k may in
    let f = goes (machine old) k go.0 in (
      ap (λ (m : Eager). m.period) e ∙ ap (λ q. q + k) a.0 ∙ sym (ap (λ (m : Eager). m.period) f),
      ap (λ (m : Eager). m.domain) e ∙ ap (halved k) a.1 ∙ sym (ap (λ (m : Eager). m.domain) f),
      (may, a.2),
    )

stamps_more : (at : ℕ) (step : Step) (new old : List Step) → (machine new).period ≡ (machine old).period → stamped at new ≡ stamped at old → stamped at (step ∷ new) ≡ stamped at (step ∷ old)
unfolding stamped
stamps_more zero (add_domain n) new old p h = ap₂ (λ (q : ℕ) (l : List Stamped). (q, n) ∷ l) p h
stamps_more (suc i) (add_domain n) new old p h = h
stamps_more zero (add_part part n) new old p h = h
stamps_more (suc i) (add_part part n) new old p h = ap₂ (λ (q : ℕ) (l : List Stamped). cond (eqb i part) ((q, n) ∷ l) l) p h
stamps_more at (new_period k) new old p h = h

le_true : (a b : ℕ) → a ≤ b → nat_le a b ≡ true
le_true a b h = grind (arith, nat_tests)

le_false : (a b : ℕ) → b < a → nat_le a b ≡ false
le_false a b h = grind (arith, nat_tests)

first_period : {period : ℕ} → period ≡ 0 → (machine []).period ≡ period
unfolding machine
first_period e = sym e

module _ (part n p : ℕ) where
  abbrev mine : Step
  mine = add_part part n

  placed_alike : (run : List Step) → AllGo run → Alike (placed p mine run) run
  unfolding placed machine AllGo
  placed_alike [] go = (refl, refl, tt)
  placed_alike (step ∷ older) go = elim (nat_le (machine (step ∷ older)).period p) as (λ b. Alike (cond b (mine ∷ step ∷ older) (step ∷ placed p mine older)) (step ∷ older)) [
    | true ↦ (refl, refl, go)
    | false ↦ alike_more step (placed p mine older) older (placed_alike older (go_older step older go)) go
  ]

  placed_passed : (run : List Step) (q : ℕ) → AllGo run → Passed q run → Passed q (placed p mine run)
  unfolding placed Passed machine
  placed_passed [] q go h = inr h
  placed_passed (step ∷ older) q go h = elim (nat_le (machine (step ∷ older)).period p) as (λ b. Passed q (cond b (mine ∷ step ∷ older) (step ∷ placed p mine older))) [
    | true ↦ inr h
    | false ↦
        let a = alike_more step (placed p mine older) older (placed_alike older (go_older step older go)) go in
        ⊎_elim (λ e. inl (e ∙ sym a.0)) (λ r. inr (placed_passed older q (go_older step older go) r)) h
  ]

  first_other : (at : ℕ) (run : List Step) → at ≢ suc part → stamped at (mine ∷ run) ≡ stamped at run
  unfolding stamped
  first_other zero run ne = refl
  first_other (suc i) run ne = ap (λ b. cond b (((machine run).period, n) ∷ stamped (suc i) run) (stamped (suc i) run)) (ne_eqb i part (λ e. ne (ap suc e)))

  placed_other : (at : ℕ) (run : List Step) → at ≢ suc part → AllGo run → stamped at (placed p mine run) ≡ stamped at run
  unfolding placed
  placed_other at [] ne go = first_other at [] ne
  placed_other at (step ∷ older) ne go = elim (nat_le (machine (step ∷ older)).period p) as (λ b. stamped at (cond b (mine ∷ step ∷ older) (step ∷ placed p mine older)) ≡ stamped at (step ∷ older)) [
    | true ↦ first_other at (step ∷ older) ne
    | false ↦
        let go' = go_older step older go in
        stamps_more at step (placed p mine older) older (placed_alike older go').0 (placed_other at older ne go')
  ]

  first_mine : (run : List Step) → (machine run).period ≡ p → stamped (suc part) (mine ∷ run) ≡ (p, n) ∷ stamped (suc part) run
  unfolding stamped
  first_mine run e =
      ap (λ b. cond b (((machine run).period, n) ∷ stamped (suc part) run) (stamped (suc part) run)) (eq-eqb part part refl)
      ∙ ap (λ (q : ℕ). (q, n) ∷ stamped (suc part) run) e

  behind_later : (step : Step) (new older : List Step) → p < (machine (step ∷ older)).period → latest (stamped (suc part) (step ∷ older)) ≤ p
      → (latest (stamped (suc part) older) ≤ p → stamped (suc part) new ≡ (p, n) ∷ stamped (suc part) older)
      → stamped (suc part) (step ∷ new) ≡ (p, n) ∷ stamped (suc part) (step ∷ older)
  unfolding stamped machine latest
  behind_later (add_domain m) new older later low rest = rest low
  behind_later (new_period k) new older later low rest = rest low
  behind_later (add_part q m) new older later low rest = dite (ℕ_discrete part q)
      (λ e.
      let head : latest (cond (eqb part q) (((machine older).period, m) ∷ stamped (suc part) older) (stamped (suc part) older)) ≡ (machine older).period =
      ap (λ b. latest (cond b (((machine older).period, m) ∷ stamped (suc part) older) (stamped (suc part) older))) (eq-eqb part q e) in
      absurd (omega arith))
      (λ ne.
      let off = ne_eqb part q ne in
      let is : (l : List Stamped) (r : ℕ) → cond (eqb part q) ((r, m) ∷ l) l ≡ l = λ l r. ap (λ b. cond b ((r, m) ∷ l) l) off in
      is (stamped (suc part) new) (machine new).period
      ∙ rest (subst (λ (l : List Stamped). latest l ≤ p) (is (stamped (suc part) older) (machine older).period) low)
      ∙ ap (λ (l : List Stamped). (p, n) ∷ l) (sym (is (stamped (suc part) older) (machine older).period)))

  placed_mine : (run : List Step) → AllGo run → Passed p run → latest (stamped (suc part) run) ≤ p → stamped (suc part) (placed p mine run) ≡ (p, n) ∷ stamped (suc part) run
  unfolding placed Passed
  placed_mine [] go passed low = first_mine [] (first_period passed)
  placed_mine (step ∷ older) go passed low = dite (dec_le (machine (step ∷ older)).period p)
      (λ h.
      let reach = passed_le (step ∷ older) p go passed in
      subst (λ b. stamped (suc part) (cond b (mine ∷ step ∷ older) (step ∷ placed p mine older)) ≡ (p, n) ∷ stamped (suc part) (step ∷ older))
      (sym (le_true (machine (step ∷ older)).period p h)) (first_mine (step ∷ older) (omega arith)))
      (λ nh.
      let later : p < (machine (step ∷ older)).period = omega (arith, nh) in
      let go' = go_older step older go in
      let there : Passed p older = ⊎_elim (λ e. absurd (omega arith)) (λ r. r) passed in
      subst (λ b. stamped (suc part) (cond b (mine ∷ step ∷ older) (step ∷ placed p mine older)) ≡ (p, n) ∷ stamped (suc part) (step ∷ older))
      (sym (le_false (machine (step ∷ older)).period p later))
      (behind_later step (placed p mine older) older later low (λ l. placed_mine older go' there l)))

record Follows (history : List Note) (run : List Step) : Type 0 where
  go : AllGo run
  period : (machine run).period ≡ periods history
  same : (at : ℕ) → stamped at run ≡ additions at history
  past : (p : ℕ) → IsPast p history → Passed p run

past_stays : (note : Note) (history : List Note) (run : List Step) → periods (note ∷ history) ≡ periods history → Follows history run → (p : ℕ) → IsPast p (note ∷ history) → Passed p run
unfolding IsPast
past_stays note history run stays f p (inl e) = subst (λ q. Passed q run) (f.period ∙ sym stays ∙ sym e) (now_passed run)
past_stays note history run stays f p (inr h) = f.past p h

may_go : (events period k : ℕ) → 1 < events → period + k < 2 ^ 24 → may_age events period k ≡ true
may_go events period k some small = grind (arith, nat_tests)

with_note : (at word n : ℕ) (l : List Stamped) → (period_of word, n) ∷ l ≡ cond (eqb at at) ((period_of word, n) ∷ l) l
with_note at word n l = sym (ap (λ b. cond b ((period_of word, n) ∷ l) l) (eq-eqb at at refl))

without_note : (a at word n : ℕ) (l : List Stamped) → a ≢ at → l ≡ cond (eqb a at) ((period_of word, n) ∷ l) l
without_note a at word n l ne = sym (ap (λ b. cond b ((period_of word, n) ∷ l) l) (ne_eqb a at ne))

domain_added : (word n : ℕ) (older : List Note) (run : List Step) → Follows older run → Shows older 0 word → (at : ℕ) → stamped at (add_domain n ∷ run) ≡ additions at (Added 0 word n ∷ older)
unfolding stamped additions InTime
domain_added word n older run f shows zero =
    let now : period_of word ≡ periods older = shows.in_time in
    ap₂ (λ (q : ℕ) (l : List Stamped). (q, n) ∷ l) (f.period ∙ sym now) (f.same 0) ∙ with_note 0 word n (additions 0 older)
domain_added word n older run f shows (suc i) = f.same (suc i) ∙ without_note 0 (suc i) word n (additions (suc i) older) (λ e. omega arith)

part_added : (part word n : ℕ) (older : List Note) (run : List Step) → Follows older run → Shows older (suc part) word
    → (at : ℕ) → stamped at (placed (period_of word) (add_part part n) run) ≡ additions at (Added (suc part) word n ∷ older)
unfolding additions InTime
part_added part word n older run f shows at = dite (ℕ_discrete at (suc part))
    (λ e.
    let low : latest (stamped (suc part) run) ≤ period_of word = subst (λ (l : List Stamped). latest l ≤ period_of word) (sym (f.same (suc part))) shows.stamped in
    let is = placed_mine part n (period_of word) run f.go (f.past (period_of word) shows.in_time) low in
    subst (λ a. stamped a (placed (period_of word) (add_part part n) run) ≡ additions a (Added (suc part) word n ∷ older)) (sym e)
    (is ∙ ap (λ (l : List Stamped). (period_of word, n) ∷ l) (f.same (suc part)) ∙ with_note (suc part) word n (additions (suc part) older)))
    (λ ne. placed_other part n (period_of word) at run ne f.go ∙ f.same at ∙ without_note (suc part) at word n (additions at older) (λ e. ne (sym e)))

period_begun : (word k : ℕ) (older : List Note) (run : List Step) → Follows older run → Shows older 0 word → 1 < events_of word → period_of word + k < 2 ^ 24
    → may_age (machine run).domain (machine run).period k ≡ true
unfolding InTime number_of
period_begun word k older run f shows some small =
    let now : period_of word ≡ periods older = shows.in_time in
    let domain : (machine run).domain ≡ events_of word =
    (stamps 0 run f.go).0 ∙ ap₂ (number (start_of 0)) (f.same 0) (f.period ∙ sym now) ∙ sym shows.number_is in
    let period : (machine run).period ≡ period_of word = f.period ∙ sym now in
    may_go (machine run).domain (machine run).period k (omega arith) (omega arith)

follows : (history : List Note) → IsHistory history → Follows history (steps_of history)
unfolding IsHistory steps_of AllGo machine periods additions stamped IsPast Passed MayStand
follows [] lawful = record { go = tt; period = refl; same = λ at. refl; past = λ p h. h }
follows (Found a word ∷ older) lawful =
    let f = follows older lawful.2 in
    record { go = f.go; period = f.period; same = f.same; past = past_stays (Found a word) older (steps_of older) refl f }
follows (Added zero word n ∷ older) lawful =
    let f = follows older lawful.2 in record {
      go = f.go;
      period = f.period;
      same = domain_added word n older (steps_of older) f lawful.0;
      past = λ p h. inr (past_stays (Added zero word n) older (steps_of older) refl f p h);
    }
follows (Added (suc part) word n ∷ older) lawful =
    let f = follows older lawful.2 in
    let a = placed_alike part n (period_of word) (steps_of older) f.go in record {
      go = a.2;
      period = a.0 ∙ f.period;
      same = part_added part word n older (steps_of older) f lawful.0;
      past = λ p h. placed_passed part n (period_of word) (steps_of older) p f.go (past_stays (Added (suc part) word n) older (steps_of older) refl f p h);
    }
follows (Period word k ∷ older) lawful =
    let f = follows older lawful.2 in
    let may = period_begun word k older (steps_of older) f lawful.0 lawful.1.1 lawful.1.2 in
    let e : (machine (new_period k ∷ steps_of older)).period ≡ periods older + k = ap (λ (m : Eager). m.period) (goes (machine (steps_of older)) k may) ∙ ap (λ q. q + k) f.period in record {
      go = (may, f.go);
      period = e;
      same = f.same;
      past = λ p h. ⊎_elim (λ is. inl (is ∙ sym e)) (λ was. inr (f.past p was)) h;
    }

pub domain_is_eager : DomainIsEager
unfolding InTime number_of
domain_is_eager history word lawful shows =
    let f = follows history lawful in
    let now : period_of word ≡ periods history = shows.in_time in (
      shows.number_is ∙ sym ((stamps 0 (steps_of history) f.go).0 ∙ ap₂ (number (start_of 0)) (f.same 0) (f.period ∙ sym now)),
      now ∙ sym f.period,
    )

pub part_is_eager : PartIsEager
unfolding InTime number_of
part_is_eager history part word lawful shows =
    let f = follows history lawful in
    let run : List Step = steps_of history in
    let q : ℕ = (machine run).period in
    let past = past_le history (period_of word) shows.in_time in
    let is = f.period in
    let later : period_of word ≤ q = omega arith in (
      later,
      ap (halved (q - period_of word)) shows.number_is
          ∙ sym (number_later (start_of (suc part)) (additions (suc part) history) (period_of word) q shows.stamped later)
          ∙ sym ((stamps (suc part) run f.go).0 ∙ ap (λ (l : List Stamped). number (start_of (suc part)) l q) (f.same (suc part))),
    )
