-- What holds of all notes of a history, carried over to a seat that has them all.
use Rattle.std.proofs.Common.{◌≡◌, ◌≢◌, ℕ, ◌+◌, ◌-◌, ◌≤◌, Bool, true, cond, eqb, List, [], ◌∷◌, sym, refl, ap, ap₂, ◌∙◌, arith, eq-eqb, ne_eqb}
use native.Mathlib.Decide.{dec_le}
use Rattle.wbt_fraction.specs.declared.domain.note.Note.{Note}
use Rattle.wbt_fraction.specs.declared.domain.note.Note.TheVariants.{Found, Added, Period}
use Rattle.wbt_fraction.specs.Sums.{total}
use Rattle.wbt_fraction.specs.Words.{period_of, events_of}
use Rattle.wbt_fraction.specs.Numbers.{start_of}
use Rattle.wbt_fraction.specs.Notes.{at_of, found_of, added_at, periods, InTime, MayStand, IsHistory, IsPast}
use Rattle.wbt_fraction.specs.Laws.{Each, PeriodsArePast, EventsWereAdded, begun, AllBelow, Falls, OrderIsOwn}
use Rattle.wbt_fraction.proofs.Histories.{fails, past, past_is, all_past, test_of, events_at_most}

each_passes : (good : ℕ → Bool) (P : ℕ → Type 0) → ((period : ℕ) → good period ≡ true → P period) → (notes : List Note) → total (fails good) notes ≡ 0
    → Each (λ note. P (period_of (found_of note))) notes
unfolding total Each
each_passes good P is [] none = tt
each_passes good P is (note ∷ older) none =
    (is (period_of (found_of note)) (test_of (good (period_of (found_of note))) (omega arith)), each_passes good P is older (omega arith))

pub all_past_periods : PeriodsArePast
all_past_periods notes complete =
    let h : List Note = complete.history in
    each_passes (past h) (λ p. IsPast p h) (past_is h) notes (complete.same (fails (past h)) ∙ all_past h complete.lawful)

abbrev over : (whole : List Note) → Note → ℕ
over whole note = events_of (found_of note) - (start_of (at_of note) + total (added_at (at_of note)) whole)

none_over : (whole history : List Note) → IsHistory history → ((at : ℕ) → total (added_at at) history ≤ total (added_at at) whole) → total (over whole) history ≡ 0
unfolding total IsHistory
none_over whole [] lawful less = refl
none_over whole (note ∷ older) lawful less =
    let most = events_at_most older (at_of note) (found_of note) lawful.0 in
    let more = less (at_of note) in
    let rest = none_over whole older lawful.2 (λ at. let m = less at in omega arith) in
    omega arith

each_under : (whole : List Note) (more : List Note) → ((at : ℕ) → total (added_at at) more ≡ total (added_at at) whole) → (notes : List Note) → total (over whole) notes ≡ 0
    → Each (λ note. events_of (found_of note) ≤ start_of (at_of note) + total (added_at (at_of note)) more) notes
unfolding total Each
each_under whole more same [] none = tt
each_under whole more same (note ∷ older) none =
    let is = same (at_of note) in
    (omega arith, each_under whole more same older (omega arith))

pub all_were_added : EventsWereAdded
all_were_added notes complete =
    let h : List Note = complete.history in
    each_under h notes (λ at. complete.same (added_at at)) notes (complete.same (over h) ∙ none_over h h complete.lawful (λ at. omega arith))

of_begun : (ℕ × ℕ → ℕ) → Note → ℕ
of_begun f (Found at word) = 0
of_begun f (Added at word n) = 0
of_begun f (Period word k) = f (word, k)

begun_total : (f : ℕ × ℕ → ℕ) (notes : List Note) → total (of_begun f) notes ≡ total f (begun notes)
unfolding total begun of_begun
begun_total f [] = refl
begun_total f (Found at word ∷ older) = let rest = begun_total f older in omega arith
begun_total f (Added at word n ∷ older) = let rest = begun_total f older in omega arith
begun_total f (Period word k ∷ older) = let rest = begun_total f older in omega arith

at_period : (p : ℕ) → (ℕ × ℕ → ℕ) → ℕ × ℕ → ℕ
at_period p f b = cond (eqb (period_of b.0) p) (f b) 0

is_at : (p : ℕ) (f : ℕ × ℕ → ℕ) (b : ℕ × ℕ) → period_of b.0 ≡ p → at_period p f b ≡ f b
unfolding at_period
is_at p f b e = ap (λ t. cond t (f b) 0) (eq-eqb (period_of b.0) p e)

not_at : (p : ℕ) (f : ℕ × ℕ → ℕ) (b : ℕ × ℕ) → period_of b.0 ≢ p → at_period p f b ≡ 0
unfolding at_period
not_at p f b ne = ap (λ t. cond t (f b) 0) (ne_eqb (period_of b.0) p ne)

none_there : (p q : ℕ) (f : ℕ × ℕ → ℕ) (l : List (ℕ × ℕ)) → AllBelow q l → q ≤ p → total (at_period p f) l ≡ 0
unfolding AllBelow total
none_there p q f [] below h = refl
none_there p q f (b ∷ older) below h =
    let low = below.0 in
    let here = not_at p f b (λ z. omega arith) in
    let rest = none_there p q f older below.1 h in
    omega arith

head_alone : (f : ℕ × ℕ → ℕ) (b : ℕ × ℕ) (older : List (ℕ × ℕ)) → AllBelow (period_of b.0) older → total (at_period (period_of b.0) f) (b ∷ older) ≡ f b
unfolding total
head_alone f b older below =
    let here = is_at (period_of b.0) f b refl in
    let rest = none_there (period_of b.0) (period_of b.0) f older below (omega arith) in
    omega arith

not_lower : (b c : ℕ × ℕ) (l m : List (ℕ × ℕ)) → AllBelow (period_of b.0) l → AllBelow (period_of c.0) m → ((f : ℕ × ℕ → ℕ) → total f (b ∷ l) ≡ total f (c ∷ m)) → period_of b.0 ≤ period_of c.0
unfolding total
not_lower b c l m below low same = elim (dec_le (period_of b.0) (period_of c.0)) [
  | yes h ↦ h
  | no n ↦
      let p : ℕ = period_of b.0 in
      let one : ℕ × ℕ → ℕ = λ x. 1 in
      let mine = head_alone one b l below in
      let here = not_at p one c (λ z. n (omega arith)) in
      let rest = none_there p (period_of c.0) one m low (omega (arith, n)) in
      let is = same (at_period p one) in
      absurd (omega arith)
]

one_list : (l m : List (ℕ × ℕ)) → Falls l → Falls m → ((f : ℕ × ℕ → ℕ) → total f l ≡ total f m) → l ≡ m
unfolding Falls total
one_list [] [] a b same = refl
one_list [] (c ∷ m) a b same = absurd (let e = same (λ x. 1) in omega arith)
one_list (b ∷ l) [] x y same = absurd (let e = same (λ x. 1) in omega arith)
one_list (b ∷ l) (c ∷ m) x y same =
    let up = not_lower b c l m x.0 y.0 same in
    let down = not_lower c b m l y.0 x.0 (λ f. sym (same f)) in
    let at : period_of b.0 ≡ period_of c.0 = omega arith in
    let equal : (f : ℕ × ℕ → ℕ) → f b ≡ f c = λ f.
    sym (head_alone f b l x.0) ∙ same (at_period (period_of b.0) f) ∙ ap (λ p. total (at_period p f) (c ∷ m)) at ∙ head_alone f c m y.0 in
    let first : b ≡ c = λ i. (equal (λ z. z.0) i, equal (λ z. z.1) i) in
    ap₂ (λ (h : ℕ × ℕ) (t : List (ℕ × ℕ)). h ∷ t) first (one_list l m x.1 y.1 (λ f. let s = same f in let e = equal f in omega arith))

below_periods : (history : List Note) → IsHistory history → (p : ℕ) → periods history ≤ p → AllBelow p (begun history)
unfolding IsHistory begun AllBelow periods InTime MayStand
below_periods [] lawful p h = tt
below_periods (Found at word ∷ older) lawful p h = below_periods older lawful.2 p h
below_periods (Added at word n ∷ older) lawful p h = below_periods older lawful.2 p h
below_periods (Period word k ∷ older) lawful p h =
    let now : period_of word ≡ periods older = lawful.0.in_time in
    let some = lawful.1.0 in
    (omega arith, below_periods older lawful.2 p (omega arith))

history_falls : (history : List Note) → IsHistory history → Falls (begun history)
unfolding IsHistory begun Falls periods InTime
history_falls [] lawful = tt
history_falls (Found at word ∷ older) lawful = history_falls older lawful.2
history_falls (Added at word n ∷ older) lawful = history_falls older lawful.2
history_falls (Period word k ∷ older) lawful =
    let now : period_of word ≡ periods older = lawful.0.in_time in
    (below_periods older lawful.2 (period_of word) (omega arith), history_falls older lawful.2)

pub own_order : OrderIsOwn
own_order notes complete falls = one_list (begun notes) (begun complete.history) falls (history_falls complete.history complete.lawful)
    (λ f. sym (begun_total f notes) ∙ complete.same (of_begun f) ∙ begun_total f complete.history)
