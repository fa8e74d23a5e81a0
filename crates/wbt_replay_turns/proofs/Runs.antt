-- A run that ends makes no move that changes nothing.
use Rattle.std.proofs.Common.{◌≡◌, ℕ, zero, suc, ◌+◌, ◌-◌, true, false, refl, sym, ◌∙◌, ap, arith, ⊎_elim}
use Rattle.std.proofs.lemmas.Bool.{cases_Bool, cases_lt}
use Rattle.wbt_replay_order.proofs.Common.{Trace, State, opening, advance, is_ended, run, most_moves, state_at}
use Rattle.wbt_replay_order.proofs.Growth.Runs.{run_none, run_ended, run_more}

-- so many moves, and then so many more
pub run_further : (trace : Trace) (m n k : ℕ) (s : State) → n ≡ m + k → run trace n s ≡ run trace k (run trace m s)
run_further trace zero n k s is = let same : n ≡ k = omega (arith, is) in ap (λ (j : ℕ). run trace j s) same ∙ ap (run trace k) (sym (run_none trace 0 s refl))
run_further trace (suc m) n k s is = ⊎_elim
    (λ over.
    run_ended trace n s over ∙ sym (ap (run trace k) (run_ended trace (suc m) s over) ∙ run_ended trace k s over))
    (λ going.
    run_more trace n (m + k) s (omega (arith, is)) going ∙ (run_further trace m (m + k) k (advance trace s) refl
    ∙ ap (run trace k) (sym (run_more trace (suc m) m s (omega arith) going))))
    (cases_Bool (is_ended s))

-- a state that a move leaves as it is stays
stays_stuck : (trace : Trace) (n : ℕ) (s : State) → is_ended s ≡ false → advance trace s ≡ s → run trace n s ≡ s
stays_stuck trace zero s going stuck = run_none trace 0 s refl
stays_stuck trace (suc n) s going stuck = run_more trace (suc n) n s (omega arith) going ∙ (ap (run trace n) stuck ∙ stays_stuck trace n s going stuck)

stuck_never : (trace : Trace) (most : ℕ) → is_ended (state_at trace most) ≡ true → (moves : ℕ) → is_ended (state_at trace moves) ≡ false
    → advance trace (state_at trace moves) ≡ state_at trace moves → ⊥
stuck_never trace most over moves going stuck = ⊎_elim
    (λ past.
    let later = run_further trace most moves (moves - most) (opening trace) (omega (arith, past)) in
    cc (sym going ∙ (ap is_ended (later ∙ run_ended trace (moves - most) (state_at trace most) over) ∙ over)))
    (λ before.
    let later = run_further trace moves most (most - moves) (opening trace) (omega (arith, before)) in
    cc (sym going ∙ (ap is_ended (sym (later ∙ stays_stuck trace (most - moves) (state_at trace moves) going stuck)) ∙ over)))
    (cases_lt most moves)

pub never_stuck : (trace : Trace) → is_ended (state_at trace most_moves) ≡ true → (moves : ℕ) → is_ended (state_at trace moves) ≡ false
    → advance trace (state_at trace moves) ≡ state_at trace moves → ⊥
never_stuck trace over = stuck_never trace most_moves over
