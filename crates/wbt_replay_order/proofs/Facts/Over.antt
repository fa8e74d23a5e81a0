-- What a run that has ended and is told as done has after it.
use Rattle.std.proofs.Common.{◌≡◌, Bool, true, false, ◌||◌, ◌&&◌, cond, eqb, ltb, length, refl, sym, ◌∙◌, ap, arith, eqb-true}
use Rattle.std.proofs.lemmas.Bool.{and_parts}
use Rattle.std.proofs.lemmas.Bool.Decides.{nat_tests}
use Rattle.wbt_journal.specs.declared.journal.Ending.TheVariants as ending
use Rattle.wbt_replay_order.proofs.Common.{State, is_ended, ending_of}

-- a run that is told as done isn't cut off
pub not_cut : (s : State) → ending_of s ≡ ending.Done → (s.spent ≡ false) × (s.stopped ≡ 0)
not_cut s = by_spent s.spent (ltb 0 s.stopped) refl
  where
    by_spent : (b c : Bool) → ltb 0 s.stopped ≡ c → cond b ending.Spent (cond c ending.Halted ending.Done) ≡ ending.Done → (b ≡ false) × (s.stopped ≡ 0)
    by_spent true c is done = absurd (not_done done)
      where
        not_done : ending.Spent ≡ ending.Done → ⊥
        not_done e = cc e
    by_spent false true is done = absurd (not_done done)
      where
        not_done : ending.Halted ≡ ending.Done → ⊥
        not_done e = cc e
    by_spent false false is done = (refl, grind (arith, nat_tests, is))

-- and no task runs, and no flusher works
pub all_over : (s : State) → is_ended s ≡ true → s.spent ≡ false → (s.stopped ≡ length s.cpus → ⊥) → (s.running ≡ 0) × (s.working ≡ 0)
all_over s over going some =
    let first : (eqb s.stopped (length s.cpus) || (eqb s.running 0 && eqb s.working 0)) ≡ true =
    ap (λ (b : Bool). b || (eqb s.stopped (length s.cpus) || (eqb s.running 0 && eqb s.working 0))) (sym going) ∙ over in
    by_stopped (eqb s.stopped (length s.cpus)) refl first
  where
    by_stopped : (b : Bool) → eqb s.stopped (length s.cpus) ≡ b → (b || (eqb s.running 0 && eqb s.working 0)) ≡ true → (s.running ≡ 0) × (s.working ≡ 0)
    by_stopped true is found = absurd (some (eqb-true s.stopped (length s.cpus) is))
    by_stopped false is found =
        let parts = and_parts (eqb s.running 0) (eqb s.working 0) found in
        (eqb-true s.running 0 parts.0, eqb-true s.working 0 parts.1)
