-- What is counted between states adds up over intervals.
use Rattle.std.proofs.Common.{◌≡◌, ℕ, zero, suc, ◌+◌, ◌<◌, max, Bool, true, false, ◌==◌, cond, List, [], ◌∷◌, refl, sym, ap, subst, ◌∙◌, arith}
use Rattle.std.specs.List.{sum_by, count_by}
use Rattle.std.proofs.lemmas.Bool.Decides.{nat_tests}
use Rattle.std.proofs.lemmas.List.Sums.{sum_by-append, sum_by-cons}
use Rattle.wbt_replay_order.proofs.Common.{Trace, CheckEntry, Entry, State}
use Rattle.wbt_forecast_rows.specs.Between.{IsAfter, entries_of, checks_of, entries_between, checks_between, all_gained}
use Rattle.wbt_forecast_rows.specs.Counts.{is_dirtied_in, is_written_in, is_write_by, is_check_of, is_pause_of, pause_after, longest_pause}
use Rattle.wbt_forecast_rows.specs.Forecast.{Span, span, spans, spans_from}
use Rattle.wbt_forecast_rows.specs.Laws.{AddUp, SumUp, IsStill, IsToldInOrder}
use Rattle.wbt_forecast_rows.specs.Rows.{interval_of}
use Rattle.wbt_forecast_rows.proofs.Counting.{count_by-append, longest-append}
use Rattle.wbt_forecast_rows.proofs.Gaining.{IsCounted, all_counted, all_gained_none, grown_more, grown_none, have_grown_more, have_grown_none}

-- ---- sums and greatest numbers

pub counted_sum : {A : Type 0} (f : A → ℕ) → IsCounted (sum_by f) (λ a b. a + b)
counted_sum f = record { joined = sum_by-append f; swapped = λ a b c d. omega arith }

pub counted_count : {A : Type 0} (p : A → Bool) → IsCounted (count_by p) (λ a b. a + b)
counted_count p = record { joined = count_by-append p; swapped = λ a b c d. omega arith }

pub counted_longest : (task : ℕ) → IsCounted (longest_pause task) (λ a b. max a b)
counted_longest task = record { joined = longest-append task; swapped = λ a b c d. omega arith }

-- ---- states

pub after_more : (first mid last : State) → IsAfter first mid → IsAfter mid last → IsAfter first last
after_more first mid last one two = record {
  steps = grown_more first.steps mid.steps last.steps one.steps two.steps;
  entries = have_grown_more (entries_of first.cpus) (entries_of mid.cpus) (entries_of last.cpus) one.entries two.entries;
  checks = have_grown_more (checks_of first.cpus) (checks_of mid.cpus) (checks_of last.cpus) one.checks two.checks;
}

pub after_same : (s : State) → IsAfter s s
after_same s = record {
  steps = grown_none s.steps;
  entries = have_grown_none (entries_of s.cpus);
  checks = have_grown_none (checks_of s.cpus);
}

-- what is counted of entries, or of checks, of consecutive intervals
pub of_entries : (m : List Entry → ℕ) (op : ℕ → ℕ → ℕ) → IsCounted m op → (first mid last : State) → IsAfter first mid → IsAfter mid last
    → m (entries_between first last) ≡ op (m (entries_between first mid)) (m (entries_between mid last))
of_entries m op is first mid last one two =
    all_counted m op is (entries_of first.cpus) (entries_of mid.cpus) (entries_of last.cpus) one.entries two.entries

pub of_checks : (m : List CheckEntry → ℕ) (op : ℕ → ℕ → ℕ) → IsCounted m op → (first mid last : State) → IsAfter first mid → IsAfter mid last
    → m (checks_between first last) ≡ op (m (checks_between first mid)) (m (checks_between mid last))
of_checks m op is first mid last one two =
    all_counted m op is (checks_of first.cpus) (checks_of mid.cpus) (checks_of last.cpus) one.checks two.checks

pub add_up : (trace : Trace) (first mid last : State) → IsAfter first mid → IsAfter mid last → AddUp trace first mid last
add_up trace first mid last one two = record {
  dirtied = λ context. of_entries (count_by (is_dirtied_in trace context)) _ (counted_count (is_dirtied_in trace context)) first mid last one two;
  written = λ context. of_entries (count_by (is_written_in trace context)) _ (counted_count (is_written_in trace context)) first mid last one two;
  pages = λ task. of_entries (count_by (is_write_by task)) _ (counted_count (is_write_by task)) first mid last one two;
  checks = λ task. of_checks (count_by (is_check_of task)) _ (counted_count (is_check_of task)) first mid last one two;
  pauses = λ task. of_checks (count_by (is_pause_of task)) _ (counted_count (is_pause_of task)) first mid last one two;
  ticks = λ task. of_checks (sum_by (pause_after task)) _ (counted_sum (pause_after task)) first mid last one two;
  longest = λ task. of_checks (longest_pause task) _ (counted_longest task) first mid last one two;
}

-- ---- all intervals of a run

-- a number that adds up over consecutive intervals, and is 0 where nothing is told
pub record Adds (m : State → State → ℕ) : Type 0 where
  pub adds : (first mid last : State) → IsAfter first mid → IsAfter mid last → m first last ≡ m first mid + m mid last
  pub still : (first last : State) → IsStill first last → m first last ≡ 0

no_entries : (first last : State) → IsStill first last → entries_between first last ≡ []
no_entries first last is = ap (λ told. all_gained (entries_of first.cpus) told) (sym is.entries) ∙ all_gained_none (entries_of first.cpus)

no_checks : (first last : State) → IsStill first last → checks_between first last ≡ []
no_checks first last is = ap (λ told. all_gained (checks_of first.cpus) told) (sym is.checks) ∙ all_gained_none (checks_of first.cpus)

entries_add : (p : Entry → Bool) → Adds (λ first last. count_by p (entries_between first last))
entries_add p = record {
  adds = of_entries (count_by p) (λ a b. a + b) (counted_count p);
  still = λ first last is. ap (count_by p) (no_entries first last is);
}

checks_add : (f : CheckEntry → ℕ) → Adds (λ first last. sum_by f (checks_between first last))
checks_add f = record {
  adds = of_checks (sum_by f) (λ a b. a + b) (counted_sum f);
  still = λ first last is. ap (sum_by f) (no_checks first last is);
}

-- the sum over some intervals
abbrev sum_of : (m : State → State → ℕ) (intervals : List Span) → ℕ
sum_of m intervals = sum_by (λ (i : Span). m i.first i.last) intervals

-- the moves from one on
pub record IsToldFrom (every : ℕ) (state : ℕ → State) (moves ahead : ℕ) : Type 0 where
  pub grows : (n : ℕ) → n < ahead → IsAfter (state (moves + n)) (state (moves + n + 1))
  pub still : (n : ℕ) → n < ahead → (interval_of every (state (moves + n + 1)) ≡ interval_of every (state (moves + n)) → ⊥)
      → IsStill (state (moves + n)) (state (moves + n + 1))

one_more : (every : ℕ) (state : ℕ → State) (moves ahead : ℕ) → IsToldFrom every state moves (suc ahead) → IsToldFrom every state (moves + 1) ahead
one_more every state moves ahead is = record {
  grows = λ n less.
      let at : moves + suc n ≡ moves + 1 + n = omega arith in
      subst (λ (k : ℕ). IsAfter (state k) (state (k + 1))) at (is.grows (suc n) (omega (arith, less)));
  still = λ n less.
      let at : moves + suc n ≡ moves + 1 + n = omega arith in
      subst (λ (k : ℕ). (interval_of every (state (k + 1)) ≡ interval_of every (state k) → ⊥) → IsStill (state k) (state (k + 1))) at
      (is.still (suc n) (omega (arith, less)));
}

unlike : (a b : ℕ) → (a == b) ≡ false → a ≡ b → ⊥
unlike a b is same = grind (arith, nat_tests)

-- the interval goes on, or the next one begins
join : (m : State → State → ℕ) → Adds m → (every : ℕ) (state : ℕ → State) (first : State) (moves ahead : ℕ)
    → IsToldFrom every state moves (suc ahead) → IsAfter first (state moves)
    → ((from : State) → IsAfter from (state (moves + 1)) → sum_of m (spans_from every state from (moves + 1) ahead) ≡ m from (state (moves + 1 + ahead)))
    → IsAfter (state (moves + 1)) (state (moves + 1 + ahead))
    → (b : Bool) → (interval_of every (state (moves + 1)) == interval_of every (state moves)) ≡ b
    → sum_of m (elim b [
      | true ↦ spans_from every state first (moves + 1) ahead
      | false ↦ span first (state moves) ∷ spans_from every state (state (moves + 1)) (moves + 1) ahead
    ]) ≡ m first (state (moves + 1 + ahead))
join m is every state first moves ahead told from later rest true same =
    let at : moves + 0 ≡ moves = omega arith in
    let one : IsAfter (state moves) (state (moves + 1)) = subst (λ (k : ℕ). IsAfter (state k) (state (k + 1))) at (told.grows 0 (omega arith)) in
    later first (after_more first (state moves) (state (moves + 1)) from one)
join m is every state first moves ahead told from later rest false other =
    let at : moves + 0 ≡ moves = omega arith in
    let one : IsAfter (state moves) (state (moves + 1)) = subst (λ (k : ℕ). IsAfter (state k) (state (k + 1))) at (told.grows 0 (omega arith)) in
    let still : IsStill (state moves) (state (moves + 1)) =
    subst (λ (k : ℕ). (interval_of every (state (k + 1)) ≡ interval_of every (state k) → ⊥) → IsStill (state k) (state (k + 1))) at (told.still 0 (omega arith))
    (unlike (interval_of every (state (moves + 1))) (interval_of every (state moves)) other) in
    let last = state (moves + 1 + ahead) in
    let here = sum_by-cons (λ (i : Span). m i.first i.last) (span first (state moves)) (spans_from every state (state (moves + 1)) (moves + 1) ahead) in
    let next = later (state (moves + 1)) (after_same (state (moves + 1))) in
    let whole = is.adds first (state moves) last from (after_more (state moves) (state (moves + 1)) last one rest) in
    let parts = is.adds (state moves) (state (moves + 1)) last one rest in
    let none = is.still (state moves) (state (moves + 1)) still in
    omega (arith, here, next, whole, parts, none)

-- states of a run come after those before them
reaches : (every : ℕ) (state : ℕ → State) (moves ahead : ℕ) → IsToldFrom every state moves ahead → IsAfter (state moves) (state (moves + ahead))
reaches every state moves zero told =
    let at : moves ≡ moves + 0 = omega arith in subst (λ (k : ℕ). IsAfter (state moves) (state k)) at (after_same (state moves))
reaches every state moves (suc ahead) told =
    let none : moves + 0 ≡ moves = omega arith in
    let one : IsAfter (state moves) (state (moves + 1)) = subst (λ (k : ℕ). IsAfter (state k) (state (k + 1))) none (told.grows 0 (omega arith)) in
    let at : moves + 1 + ahead ≡ moves + suc ahead = omega arith in
    let rest : IsAfter (state (moves + 1)) (state (moves + 1 + ahead)) = reaches every state (moves + 1) ahead (one_more every state moves ahead told) in
    subst (λ (k : ℕ). IsAfter (state moves) (state k)) at (after_more (state moves) (state (moves + 1)) (state (moves + 1 + ahead)) one rest)

sum_from : (m : State → State → ℕ) → Adds m → (every : ℕ) (state : ℕ → State) (first : State) (moves ahead : ℕ)
    → IsToldFrom every state moves ahead → IsAfter first (state moves)
    → sum_of m (spans_from every state first moves ahead) ≡ m first (state (moves + ahead))
unfolding spans_from
sum_from m is every state first moves zero told from =
    let at : moves ≡ moves + 0 = omega arith in
    let none : sum_of m [] ≡ 0 = refl in
    let one = sum_by-cons (λ (i : Span). m i.first i.last) (span first (state moves)) [] in
    let here : sum_of m (span first (state moves) ∷ []) ≡ m first (state moves) = omega (arith, one, none) in
    here ∙ ap (λ (k : ℕ). m first (state k)) at
sum_from m is every state first moves (suc ahead) told from =
    let at : moves + 1 + ahead ≡ moves + suc ahead = omega arith in
    let more = one_more every state moves ahead told in
    join m is every state first moves ahead told from
    (λ start begun. sum_from m is every state start (moves + 1) ahead more begun)
    (reaches every state (moves + 1) ahead more)
    (interval_of every (state (moves + 1)) == interval_of every (state moves)) refl
    ∙ ap (λ (k : ℕ). m first (state k)) at

from_first : (every : ℕ) (state : ℕ → State) (moves : ℕ) → IsToldInOrder every state moves → IsToldFrom every state 0 moves
from_first every state moves is = record {
  grows = λ n less.
      let at : n ≡ 0 + n = omega arith in subst (λ (k : ℕ). IsAfter (state k) (state (k + 1))) at (is.grows n less);
  still = λ n less.
      let at : n ≡ 0 + n = omega arith in
      subst (λ (k : ℕ). (interval_of every (state (k + 1)) ≡ interval_of every (state k) → ⊥) → IsStill (state k) (state (k + 1))) at (is.still n less);
}

whole_sum : (m : State → State → ℕ) → Adds m → (every : ℕ) (state : ℕ → State) (moves : ℕ) → IsToldInOrder every state moves
    → sum_of m (spans every state moves) ≡ m (state 0) (state moves)
whole_sum m adds every state moves is =
    let at : 0 + moves ≡ moves = omega arith in
    sum_from m adds every state (state 0) 0 moves (from_first every state moves is) (after_same (state 0)) ∙ ap (λ (k : ℕ). m (state 0) (state k)) at

pub sum_up : (trace : Trace) (every : ℕ) (state : ℕ → State) (moves : ℕ) → IsToldInOrder every state moves
    → SumUp trace (spans every state moves) (state 0) (state moves)
sum_up trace every state moves is = record {
  dirtied = λ context. whole_sum _ (entries_add (is_dirtied_in trace context)) every state moves is;
  written = λ context. whole_sum _ (entries_add (is_written_in trace context)) every state moves is;
  pages = λ task. whole_sum _ (entries_add (is_write_by task)) every state moves is;
  checks = λ task. whole_sum _ (checks_add (λ check. cond (is_check_of task check) 1 0)) every state moves is;
  pauses = λ task. whole_sum _ (checks_add (λ check. cond (is_pause_of task check) 1 0)) every state moves is;
  ticks = λ task. whole_sum _ (checks_add (pause_after task)) every state moves is;
}
