-- What one note more makes of each word.
use Rattle.std.proofs.Common.{◌≡◌, ◌≢◌, ℕ, zero, suc, ◌+◌, ◌-◌, ◌^◌, ◌<◌, ◌≤◌, Bool, true, false, cond, eqb, ◌⊎◌, inl, inr, List, [], ◌∷◌, sym, refl, ap, ◌∙◌, subst, arith, eq-eqb, ne_eqb}
use Rattle.std.proofs.lemmas.Bool.Decides.{nat_tests}
use Rattle.wbt_flex.specs.Eager.{halved}
use Rattle.wbt_fraction.specs.declared.domain.note.Note.{Note}
use Rattle.wbt_fraction.specs.declared.domain.note.Note.TheVariants.{Found, Added, Period}
use Rattle.wbt_fraction.specs.Sums.{total}
use Rattle.wbt_fraction.specs.Words.{period_of, events_of, word_of}
use Rattle.wbt_fraction.specs.Numbers.{Stamped, number, latest, start_of}
use Rattle.wbt_fraction.specs.Notes.{at_of, found_of, reach_of, additions, periods, added_at, IsPast, InTime, IsReached, Shows, IsHistory, NoneAfter}
use Rattle.wbt_fraction.proofs.Numbers.{halved_le, number_later, number_added, number_at_most, plus_period, plus_events, made_period, made_events}

periods_grow : (note : Note) (history : List Note) → periods history ≤ periods (note ∷ history)
unfolding periods
periods_grow (Found a word) history = omega arith
periods_grow (Added a word n) history = omega arith
periods_grow (Period word k) history = omega arith

pub now_is_past : (history : List Note) → IsPast (periods history) history
unfolding IsPast periods
now_is_past [] = refl
now_is_past (note ∷ older) = inl refl

pub past_le : (history : List Note) (period : ℕ) → IsPast period history → period ≤ periods history
unfolding IsPast periods
past_le [] period h = omega arith
past_le (note ∷ older) period (inl e) = omega arith
past_le (note ∷ older) period (inr h) =
    let grow = periods_grow note older in
    let rest = past_le older period h in
    omega arith

pub time_le : (at period : ℕ) (history : List Note) → InTime at period history → period ≤ periods history
unfolding InTime
time_le zero period history h = omega arith
time_le (suc part) period history h = past_le history period h

pub time_past : (at period : ℕ) (history : List Note) → InTime at period history → IsPast period history
unfolding InTime
time_past zero period history h = subst (λ p. IsPast p history) (sym h) (now_is_past history)
time_past (suc part) period history h = h

same_time : (at period : ℕ) (note : Note) (history : List Note) → periods (note ∷ history) ≡ periods history → InTime at period history → InTime at period (note ∷ history)
unfolding InTime IsPast
same_time zero period note history same h = h ∙ sym same
same_time (suc part) period note history same h = inr h

later_part : (part period : ℕ) (note : Note) (history : List Note) → InTime (suc part) period history → InTime (suc part) period (note ∷ history)
unfolding InTime IsPast
later_part part period note history h = inr h

pub shows_found : (history : List Note) (at word a x : ℕ) → Shows history at word → Shows (Found a x ∷ history) at word
unfolding additions periods
shows_found history at word a x shows = record { number_is = shows.number_is; stamped = shows.stamped; in_time = same_time at (period_of word) (Found a x) history refl shows.in_time }

pub shows_other : (history : List Note) (at word a x n : ℕ) → a ≢ at → Shows history at word → Shows (Added a x n ∷ history) at word
unfolding additions periods
shows_other history at word a x n ne shows =
    let same : additions at history ≡ cond (eqb a at) ((period_of x, n) ∷ additions at history) (additions at history) =
    sym (ap (λ b. cond b ((period_of x, n) ∷ additions at history) (additions at history)) (ne_eqb a at ne)) in
    record {
      number_is = subst (λ adds. events_of word ≡ number (start_of at) adds (period_of word)) same shows.number_is;
      stamped = subst (λ adds. latest adds ≤ period_of word) same shows.stamped;
      in_time = same_time at (period_of word) (Added a x n) history refl shows.in_time;
    }

pub shows_part_later : (history : List Note) (part word x k : ℕ) → Shows history (suc part) word → Shows (Period x k ∷ history) (suc part) word
unfolding additions periods
shows_part_later history part word x k shows = record {
  number_is = shows.number_is;
  stamped = shows.stamped;
  in_time = later_part part (period_of word) (Period x k) history shows.in_time;
}

pub shows_added : (history : List Note) (at word n : ℕ) → events_of word + n < 2 ^ 40 → Shows history at word → Shows (Added at word n ∷ history) at (word + n)
unfolding additions periods latest
shows_added history at word n room shows =
    let adds : List Stamped = additions at history in
    let p : ℕ = period_of word in
    let same : (p, n) ∷ adds ≡ cond (eqb at at) ((p, n) ∷ adds) adds = sym (ap (λ b. cond b ((p, n) ∷ adds) adds) (eq-eqb at at refl)) in
    let stays : p ≡ period_of (word + n) = sym (plus_period word n room) in
    let grows : events_of (word + n) ≡ number (start_of at) ((p, n) ∷ adds) p =
    plus_events word n room ∙ ap (λ e. e + n) shows.number_is ∙ sym (number_added (start_of at) adds p n) in
    record {
      number_is = subst (λ (l : List Stamped). events_of (word + n) ≡ number (start_of at) l (period_of (word + n))) same
          (subst (λ q. events_of (word + n) ≡ number (start_of at) ((p, n) ∷ adds) q) stays grows);
      stamped = subst (λ (l : List Stamped). latest l ≤ period_of (word + n)) same (omega arith);
      in_time = subst (λ q. InTime at q (Added at word n ∷ history)) stays (same_time at p (Added at word n) history refl shows.in_time);
    }

module _ (history : List Note) (at word period : ℕ) (shows : Shows history at word) (h : period_of word ≤ period) where
  abbrev aged_events : ℕ
  aged_events = halved (period - period_of word) (events_of word)

  aged_small : aged_events < 2 ^ 40
  aged_small =
      let less = halved_le (period - period_of word) (events_of word) in
      omega arith

  aged_number : events_of (word_of period aged_events) ≡ number (start_of at) (additions at history) (period_of (word_of period aged_events))
  aged_number =
      let is = made_period period aged_events aged_small in
      subst (λ q. events_of (word_of period aged_events) ≡ number (start_of at) (additions at history) q) (sym is)
      (made_events period aged_events aged_small ∙ ap (halved (period - period_of word)) shows.number_is
      ∙ sym (number_later (start_of at) (additions at history) (period_of word) period shows.stamped h))

  aged_stamped : latest (additions at history) ≤ period_of (word_of period aged_events)
  aged_stamped =
      let is = made_period period aged_events aged_small in
      let stamped = shows.stamped in
      omega arith

pub shows_aged : (history : List Note) (part word period : ℕ) → Shows history (suc part) word → period_of word ≤ period → IsPast period history
    → Shows history (suc part) (word_of period (halved (period - period_of word) (events_of word)))
unfolding InTime
shows_aged history part word period shows h now =
    let is = made_period period (aged_events history (suc part) word period shows h) (aged_small history (suc part) word period shows h) in
    record {
      number_is = aged_number history (suc part) word period shows h;
      stamped = aged_stamped history (suc part) word period shows h;
      in_time = subst (λ p. IsPast p history) (sym is) now;
    }

pub shows_begun : (history : List Note) (word k : ℕ) → Shows history 0 word
    → Shows (Period word k ∷ history) 0 (word_of (period_of word + k) (halved k (events_of word)))
unfolding additions periods InTime
shows_begun history word k shows =
    let later : period_of word ≤ period_of word + k = omega arith in
    let distance : (period_of word + k) - period_of word ≡ k = omega arith in
    let period : ℕ = period_of word + k in
    let is = made_period period (aged_events history 0 word period shows later) (aged_small history 0 word period shows later) in
    let now : period_of word ≡ periods history = shows.in_time in
    let whole : Shows (Period word k ∷ history) 0 (word_of period (halved (period - period_of word) (events_of word))) = record {
      number_is = aged_number history 0 word period shows later;
      stamped = aged_stamped history 0 word period shows later;
      in_time = is ∙ ap (λ p. p + k) now;
    } in
    subst (λ d. Shows (Period word k ∷ history) 0 (word_of period (halved d (events_of word)))) distance whole

pub events_at_most : (history : List Note) (at word : ℕ) → Shows history at word → events_of word ≤ start_of at + total (added_at at) history
events_at_most history at word shows =
    let most = number_at_most at history (period_of word) in
    let is = shows.number_is in
    omega arith

abbrev pub late : (period : ℕ) → Note → ℕ
late period note = reach_of note - period

reach_le : (note : Note) (older : List Note) → period_of (found_of note) ≤ periods older → reach_of note ≤ periods (note ∷ older)
unfolding periods
reach_le (Found a word) older h = h
reach_le (Added a word n) older h = h
reach_le (Period word k) older h = omega arith

pub none_late : (history : List Note) (period : ℕ) → IsHistory history → periods history ≤ period → total (late period) history ≡ 0
unfolding total IsHistory
none_late [] period lawful h = refl
none_late (note ∷ older) period lawful h =
    let grow = periods_grow note older in
    let time = reach_le note older (time_le (at_of note) (period_of (found_of note)) older lawful.0.in_time) in
    let rest = none_late older period lawful.2 (omega arith) in
    omega arith

pub none_after : (notes : List Note) (period : ℕ) → total (late period) notes ≡ 0 → NoneAfter period notes
unfolding total NoneAfter
none_after [] period h = tt
none_after (note ∷ older) period h = (omega arith, none_after older period (omega arith))

abbrev pub fails : (good : ℕ → Bool) → Note → ℕ
fails good note = cond (good (period_of (found_of note))) 0 1

unfoldable pub past : (history : List Note) → (period : ℕ) → Bool
past [] period = eqb period 0
past (note ∷ older) period = cond (eqb period (periods (note ∷ older))) true (past older period)

eqb_is : (a b : ℕ) → eqb a b ≡ true → a ≡ b
eqb_is a b h = grind (arith, nat_tests)

past_if : (b : Bool) (a : ℕ) (c : ℕ) (P : Type 0) (rest : Bool) → (b ≡ true → a ≡ c) → (rest ≡ true → P) → cond b true rest ≡ true → (a ≡ c) ⊎ P
past_if true a c P rest here there h = inl (here refl)
past_if false a c P rest here there h = inr (there h)

pub past_is : (history : List Note) (period : ℕ) → past history period ≡ true → IsPast period history
unfolding past IsPast periods
past_is [] period h = eqb_is period 0 h
past_is (note ∷ older) period h =
    past_if (eqb period (periods (note ∷ older))) period (periods (note ∷ older)) (IsPast period older) (past older period)
    (eqb_is period (periods (note ∷ older))) (past_is older period) h

or_true : (b c : Bool) → c ≡ true → cond b true c ≡ true
or_true true c h = refl
or_true false c h = h

pub is_past : (history : List Note) (period : ℕ) → IsPast period history → past history period ≡ true
unfolding past IsPast periods
is_past [] period h = eq-eqb period 0 h
is_past (note ∷ older) period (inl e) = ap (λ b. cond b true (past older period)) (eq-eqb period (periods (note ∷ older)) e)
is_past (note ∷ older) period (inr h) = or_true (eqb period (periods (note ∷ older))) (past older period) (is_past older period h)

none_fails : (good : ℕ → Bool) (history : List Note) → IsHistory history → ((period : ℕ) → IsPast period history → good period ≡ true) → total (fails good) history ≡ 0
unfolding total IsHistory IsPast
none_fails good [] lawful all = refl
none_fails good (note ∷ older) lawful all =
    let was = time_past (at_of note) (period_of (found_of note)) older lawful.0.in_time in
    let here : fails good note ≡ 0 = ap (λ b. cond b 0 1) (all (period_of (found_of note)) (inr was)) in
    let rest = none_fails good older lawful.2 (λ p h. all p (inr h)) in
    omega arith

pub all_past : (history : List Note) → IsHistory history → total (fails (past history)) history ≡ 0
all_past history lawful = none_fails (past history) history lawful (λ p h. is_past history p h)

pub test_of : (b : Bool) → cond b 0 1 ≡ zero → b ≡ true
test_of true h = refl
test_of false h = absurd (omega arith)

pub reached_good : (good : ℕ → Bool) (notes : List Note) (period : ℕ) → total (fails good) notes ≡ 0 → IsReached period notes → good period ≡ true
unfolding total IsReached
reached_good good [] period none h = absurd h
reached_good good (note ∷ older) period none (inl e) = subst (λ p. good p ≡ true) e (test_of (good (period_of (found_of note))) (omega arith))
reached_good good (note ∷ older) period none (inr h) = reached_good good older period (omega arith) h
