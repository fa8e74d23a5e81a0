-- The moments of a run, one move after another.
use Rattle.std.proofs.Common.{◌≡◌, ℕ, zero, suc, ◌+◌, Bool, true, false, refl, sym, ◌∙◌, ap, arith, ⊎_elim}
use Rattle.std.proofs.lemmas.Bool.{cases_Bool}
use Rattle.wbt_replay_order.proofs.Common.{Trace, advance, is_ended, run, opening, state_at, State}

pub run_none : (trace : Trace) (n : ℕ) (s : State) → n ≡ 0 → run trace n s ≡ s
unfolding run
run_none trace zero s is = refl
run_none trace (suc n) s is = absurd (omega arith)

pub run_ended : (trace : Trace) (m : ℕ) (s : State) → is_ended s ≡ true → run trace m s ≡ s
unfolding run
run_ended trace zero s is = refl
run_ended trace (suc m) s is = ap (λ b. elim b as (λ _. State) [ true ↦ s | false ↦ run trace m (advance trace s) ]) is

pub run_more : (trace : Trace) (n m : ℕ) (s : State) → n ≡ m + 1 → is_ended s ≡ false → run trace n s ≡ run trace m (advance trace s)
unfolding run
run_more trace zero m s is more = absurd (omega arith)
run_more trace (suc n) m s is more =
    let same : n ≡ m = omega arith in
    ap (λ b. elim b as (λ _. State) [ true ↦ s | false ↦ run trace n (advance trace s) ]) more ∙ ap (λ k. run trace k (advance trace s)) same

-- one move more, at the end
pub run_last : (trace : Trace) (m n : ℕ) (s : State) → n ≡ m + 1 → is_ended (run trace m s) ≡ false → run trace n s ≡ advance trace (run trace m s)
run_last trace zero n s is more =
    let start = run_none trace 0 s refl in
    run_more trace n 0 s is (ap is_ended (sym start) ∙ more) ∙ run_none trace 0 (advance trace s) refl ∙ ap (advance trace) (sym start)
run_last trace (suc m) n s is more = by_end (is_ended s) refl (λ going. run_last trace m (m + 1) (advance trace s) refl (ap is_ended (sym (run_more trace (suc m) m s (omega arith) going)) ∙ more))
  where
    by_end : (b : Bool) → is_ended s ≡ b → (is_ended s ≡ false → run trace (m + 1) (advance trace s) ≡ advance trace (run trace m (advance trace s))) → run trace n s ≡ advance trace (run trace (suc m) s)
    by_end true over behind = absurd (cc (sym over ∙ ap is_ended (sym (run_ended trace (suc m) s over)) ∙ more))
    by_end false going behind = run_more trace n (m + 1) s (omega (arith, is)) going ∙ behind going ∙ ap (advance trace) (sym (run_more trace (suc m) m s (omega arith) going))

-- no move more, where it is over
pub run_stays : (trace : Trace) (m n : ℕ) (s : State) → n ≡ m + 1 → is_ended (run trace m s) ≡ true → run trace n s ≡ run trace m s
run_stays trace zero n s more over =
    let now : is_ended s ≡ true = ap is_ended (sym (run_none trace 0 s refl)) ∙ over in
    run_ended trace n s now ∙ sym (run_ended trace 0 s now)
run_stays trace (suc m) n s more over = ⊎_elim
    (λ now. run_ended trace n s now ∙ sym (run_ended trace (suc m) s now))
    (λ going.
    let here = run_more trace (suc m) m s (omega arith) going in
    run_more trace n (m + 1) s (omega (arith, more)) going ∙ (run_stays trace m (m + 1) (advance trace s) refl (ap is_ended (sym here) ∙ over) ∙ sym here))
    (cases_Bool (is_ended s))

-- What holds at a state, and after each move from where it holds, holds after so many moves.
pub run_along : (P : State → Type 0) (trace : Trace) → ((s : State) → is_ended s ≡ false → P s → P (advance trace s)) → (n : ℕ) (s : State) → P s → P (run trace n s)
unfolding run
run_along P trace on zero s h = h
run_along P trace on (suc n) s h = by_end (is_ended s) refl (λ is. run_along P trace on n (advance trace s) (on s is h))
  where
    by_end : (b : Bool) → is_ended s ≡ b → (is_ended s ≡ false → P (run trace n (advance trace s))) → P (elim b as (λ _. State) [ true ↦ s | false ↦ run trace n (advance trace s) ])
    by_end true is behind = h
    by_end false is behind = behind is

-- What holds at the opening, and after each move from where it holds, holds at each moment.
pub along : (P : State → Type 0) (trace : Trace) → P (opening trace) → ((s : State) → is_ended s ≡ false → P s → P (advance trace s)) → (moves : ℕ) → P (state_at trace moves)
along P trace first on moves = run_along P trace on moves (opening trace) first
