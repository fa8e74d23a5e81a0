-- The words of the steps on counters.
use Rattle.std.proofs.Common.{◌≡◌, ℕ, ◌+◌, ◌-◌, ◌%◌, ◌^◌, ◌∷◌, length, get_or, set, Option, Some, None, ℤ, sym, refl, ap, ◌∙◌, subst}
use Rattle.std.proofs.lemmas.Bool.{cond-true}
use Rattle.wbt_table.proofs.Common.{Counter, amount, to_clear, addend_of, is_same, debt_to, put, packed, own_word, put_same, is_same-itself, Who, Writer, Cpu, Timer, CpuRecord, Setting, State, add, fold, clear, count, after, own_told, setting, HasCounter, shared_at, own_at, Cpus, Has, Holds, given}
use Rattle.wbt_counter.specs.Addends.{fold_addend, word_plus, word_minus}
use Rattle.wbt_counter.specs.Counters.{put_counter}
use Rattle.wbt_counter.specs.History.{History, sum_of}
use Rattle.wbt_grant.specs.Kinds.{local_after, local_left, own_now, shared_now}
use Rattle.wbt_grant.proofs.StepWords.{add_is_addition, fold_is_addition, clear_is_subtraction}
use Rattle.wbt_table.specs.declared.layout.Layout.{Layout}
use Rattle.wbt_table.specs.declared.rule.Granted.{Granted}
use Rattle.wbt_table.proofs.Showing.{own_shown, shared_shown, shows_parts, load_shown}
use Rattle.wbt_table.proofs.Turning.{Moves, one_record}

own_here : (own : Counter → ℕ → ℤ) (x : Counter) (i : ℕ) (z : ℤ) → put_counter own x (put (own x) i z) x i ≡ z
own_here own x i z = ap (λ (c : ℕ → ℤ). c i) (cond-true (is_same x x) (put (own x) i z) (own x) (is_same-itself x)) ∙ put_same (own x) i z

shared_here : (folds : Counter → History) (x : Counter) (h : History) → put_counter folds x h x ≡ h
shared_here folds x h = cond-true (is_same x x) h (folds x) (is_same-itself x)

-- a grant changes no debt
pub debts_given : (grants : Option Granted) (r : CpuRecord) (x : Counter) (a : ℤ) → amount (debt_to x r.debts) ≡ a
    → amount (debt_to x (given grants r).debts) ≡ a
debts_given None r x a is = is
debts_given (Some g) r x a is = is

pub clears_given : (grants : Option Granted) (r : CpuRecord) (x : Counter) (a : ℤ) → to_clear (debt_to x r.debts) ≡ a
    → to_clear (debt_to x (given grants r).debts) ≡ a
clears_given None r x a is = is
clears_given (Some g) r x a is = is

pub own_given : (set' : Setting) (grants : Option Granted) (r : CpuRecord) (x : Counter) (a : ℤ) → own_told set' x r ≡ a → own_told set' x (given grants r) ≡ a
own_given set' None r x a is = is
own_given set' (Some g) r x a is = is

-- what holds of the record of a CPU holds of this one
pub of_record : (l : Cpus) (c : ℕ) (r : CpuRecord) (P : CpuRecord → Type 0) → Has l c r → Holds l c P → P r
of_record l c r P has h = subst P (one_record l c h.0 r h.1 has) h.2

module _ (key : Layout) where
  pub add_moves : (i : ℕ) (x : Counter) (a : ℤ) (r : CpuRecord) → HasCounter key x → amount (debt_to x r.debts) ≡ a
      → Moves key (add i x) r (own_at key x i) (λ n. (n + addend_of a) % 2 ^ 64)
  add_moves i x a r there is words s ok fit rule shows long may at =
      let set' : Setting = setting key in
      let n : ℕ = get_or words (own_at key x i) 0 in
      let z : ℤ = local_after i x s in
      let shown : n ≡ own_now x i s = shows.own.each x i there may.cpu_is in
      let now : amount (debt_to x (s.cpu i).debts) ≡ a = ap (λ (y : CpuRecord). amount (debt_to x y.debts)) at ∙ is in
      let law = add_is_addition set' i x s ok rule may in
      let word : word_plus n (addend_of a) ≡ own_word z =
      (λ j. word_plus (shown j) (addend_of (sym now j))) ∙ sym law.here ∙ ap own_word (own_here s.own x i z) in
      let mid : State = record s { own = put_counter s.own x (put (s.own x) i z) } in (
        sym shown,
        shows_parts key (set words (own_at key x i) (word_plus n (addend_of a))) mid (after set' (add i x) s)
            (own_shown key words s ok shows long x i z (word_plus n (addend_of a)) there may.cpu_is word)
            refl refl refl refl refl refl,
      )

  pub clear_moves : (i : ℕ) (x : Counter) (d : ℤ) (r : CpuRecord) → HasCounter key x → to_clear (debt_to x r.debts) ≡ d
      → Moves key (clear i x) r (own_at key x i) (λ n. (n + (2 ^ 64 - addend_of d)) % 2 ^ 64)
  clear_moves i x d r there is words s ok fit rule shows long may at =
      let set' : Setting = setting key in
      let n : ℕ = get_or words (own_at key x i) 0 in
      let z : ℤ = local_left i x s in
      let shown : n ≡ own_now x i s = shows.own.each x i there may.cpu_is in
      let now : to_clear (debt_to x (s.cpu i).debts) ≡ d = ap (λ (y : CpuRecord). to_clear (debt_to x y.debts)) at ∙ is in
      let law = clear_is_subtraction set' i x s ok rule may in
      let word : word_minus n (addend_of d) ≡ own_word z =
      (λ j. word_minus (shown j) (addend_of (sym now j))) ∙ sym law.here ∙ ap own_word (own_here s.own x i z) in
      let mid : State = record s { own = put_counter s.own x (put (s.own x) i z) } in (
        sym shown,
        shows_parts key (set words (own_at key x i) (word_minus n (addend_of d))) mid (after set' (clear i x) s)
            (own_shown key words s ok shows long x i z (word_minus n (addend_of d)) there may.cpu_is word)
            refl refl refl refl refl refl,
      )

  pub fold_moves : (i : ℕ) (x : Counter) (delta : ℤ) (r : CpuRecord) → HasCounter key x → own_told (setting key) x r ≡ delta
      → Moves key (fold i x) r (shared_at key x) (λ n. (n + fold_addend delta) % 2 ^ 64)
  fold_moves i x delta r there is words s ok fit rule shows long may at =
      let set' : Setting = setting key in
      let n : ℕ = get_or words (shared_at key x) 0 in
      let h : History = (i, s.own x i) ∷ s.folds x in
      let shown : n ≡ shared_now x s = shows.shared.each x there in
      let now : own_told set' x (s.cpu i) ≡ delta = ap (own_told set' x) at ∙ is in
      let law = fold_is_addition set' i x s ok fit rule may in
      let word : word_plus n (fold_addend delta) ≡ packed (length h) (sum_of h) =
      (λ j. word_plus (shown j) (fold_addend (sym now j))) ∙ sym law.here ∙ ap (λ (g : History). packed (length g) (sum_of g)) (shared_here s.folds x h) in
      let mid : State = record s { folds = put_counter s.folds x h } in (
        sym shown,
        shows_parts key (set words (shared_at key x) (word_plus n (fold_addend delta))) mid (after set' (fold i x) s)
            (shared_shown key words s ok shows long x h (word_plus n (fold_addend delta)) there word)
            refl refl refl refl refl refl,
      )

  -- a load, by a writer, a CPU or the timer
  pub count_moves : (who : Who) (x : Counter) (r : CpuRecord) → HasCounter key x → Moves key (count who x) r (shared_at key x) (λ n. n)
  count_moves (Writer w) x r there words s ok fit rule shows long may at = (
    sym (shows.shared.each x there),
    load_shown key words s (after (setting key) (count (Writer w) x) s) (shared_at key x) shows refl refl refl refl refl refl,
  )
  count_moves (Cpu i) x r there words s ok fit rule shows long may at = (
    sym (shows.shared.each x there),
    load_shown key words s (after (setting key) (count (Cpu i) x) s) (shared_at key x) shows refl refl refl refl refl refl,
  )
  count_moves Timer x r there words s ok fit rule shows long may at = (
    sym (shows.shared.each x there),
    load_shown key words s (after (setting key) (count Timer x) s) (shared_at key x) shows refl refl refl refl refl refl,
  )
