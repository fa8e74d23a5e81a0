-- How many steps each CPU has made, and which are stopped, after a move.
use Rattle.std.proofs.Common.{◌≡◌, ◌≢◌, ℕ, ◌+◌, ◌<◌, Bool, true, false, cond, eqb, List, [], ◌∷◌, ◌++◌, length, get_or, Option, Some, None, sym, ◌∙◌, ap, subst, arith, eq-eqb, ne_eqb}
use Rattle.std.proofs.Math.ListN.{set}
use Rattle.std.specs.List.{count_by}
use Rattle.std.proofs.lemmas.Bool.Decides.{nat_tests}
use Rattle.std.proofs.lemmas.List.{length-set}
use Rattle.std.proofs.lemmas.List.Sums.{sum_by_push}
use Rattle.wbt_replay_order.proofs.Common.{one_if, StepEntry, Trace, State, no_cpu, Cpu, is_made_by, todo_ahead, is_halted, IsWithinHalt, ArePaced}
use Rattle.wbt_replay_order.specs.Kept.Ending.{IsPaced, IsSpentAfter}
use Rattle.wbt_replay_order.specs.declared.chance.Ahead.TheVariants as next
use Rattle.wbt_replay_order.proofs.Facts.Lists.{set_each}

-- ---- steps that are counted

count_push : (test : StepEntry → Bool) (xs : List StepEntry) (x : StepEntry) → count_by test (xs ++ x ∷ []) ≡ count_by test xs + one_if (test x)
count_push test xs x = sum_by_push (λ e. cond (test e) 1 0) xs x

-- a step of this actor, and of another
pub counts_own : (i : ℕ) (steps more : List StepEntry) (e : StepEntry) → more ≡ steps ++ e ∷ [] → e.who ≡ i → count_by (is_made_by i) more ≡ count_by (is_made_by i) steps + 1
counts_own i steps more e is who =
    ap (count_by (is_made_by i)) is ∙ (count_push (is_made_by i) steps e ∙ ap (λ (b : Bool). count_by (is_made_by i) steps + one_if b) (eq-eqb e.who i who))

pub counts_other : (i j : ℕ) (steps more : List StepEntry) (e : StepEntry) → more ≡ steps ++ e ∷ [] → e.who ≡ i → j ≢ i → count_by (is_made_by j) more ≡ count_by (is_made_by j) steps
counts_other i j steps more e is who other =
    let apart : eqb e.who j ≡ false = ne_eqb e.who j (λ same. other (sym same ∙ who)) in
    let none : count_by (is_made_by j) steps + 0 ≡ count_by (is_made_by j) steps = omega arith in
    ap (count_by (is_made_by j)) is ∙ (count_push (is_made_by j) steps e ∙ (ap (λ (b : Bool). count_by (is_made_by j) steps + one_if b) apart ∙ none))

-- ---- a CPU that makes one step more, or none

-- where the number isn't that of the halt line
pub within_more : (halt : Option ℕ) (made : ℕ) → is_halted halt made ≡ false → IsWithinHalt halt (made + 1)
within_more None made on = tt
within_more (Some most) made on = let less : made < most = grind (arith, nat_tests) in omega (arith, less)

-- a CPU that isn't stopped needs no reason
going : (c : Cpu) (X : Type 0) → c.stopped ≡ false → c.stopped ≡ true → X
going c X on is = absurd (cc (sym on ∙ is))

module _ (halt : Option ℕ) (steps : List StepEntry) (cpus : List Cpu) (paced : ArePaced halt steps cpus) where
  -- the same CPUs, and as many steps of each
  pub paced_still : (more : List StepEntry) → ((i : ℕ) → i < length cpus → count_by (is_made_by i) more ≡ count_by (is_made_by i) steps) → ArePaced halt more cpus
  paced_still more same i less = let h = paced i less in record { made = same i less ∙ h.made; within = h.within; stopped = h.stopped }

  module _ (i : ℕ) (there : i < length cpus) (c : Cpu) where
    -- one CPU is another
    pub paced_at : IsPaced halt steps i c → ArePaced halt steps (set cpus i c)
    paced_at here j less =
        set_each (λ k d. k < length cpus → IsPaced halt steps k d) cpus i c no_cpu there (λ l. here) (λ k n l. paced k l) j
        (omega (arith, less, length-set cpus i c))

    pub paced_quietly : c.made ≡ (get_or cpus i no_cpu).made → c.stopped ≡ false → ArePaced halt steps (set cpus i c)
    paced_quietly made on = let h = paced i there in
        paced_at (record { made = h.made ∙ sym made; within = subst (IsWithinHalt halt) (sym made) h.within; stopped = going c _ on })

    pub paced_step : (more : List StepEntry) (e : StepEntry) → more ≡ steps ++ e ∷ [] → e.who ≡ i → c.made ≡ (get_or cpus i no_cpu).made + 1 → c.stopped ≡ false
        → is_halted halt (get_or cpus i no_cpu).made ≡ false → ArePaced halt more (set cpus i c)
    paced_step more e is who made on free j less =
        set_each (λ k d. k < length cpus → IsPaced halt more k d) cpus i c no_cpu there
        (λ l. record {
          made = counts_own i steps more e is who ∙ (ap (λ n. n + 1) (paced i there).made ∙ sym made);
          within = subst (IsWithinHalt halt) (sym made) (within_more halt (get_or cpus i no_cpu).made free);
          stopped = going c _ on;
        })
        (λ k n l. let h = paced k l in record { made = counts_other i k steps more e is who n ∙ h.made; within = h.within; stopped = h.stopped })
        j (omega (arith, less, length-set cpus i c))

    -- it is stopped
    pub paced_stop : c.made ≡ (get_or cpus i no_cpu).made → is_halted halt c.made ≡ true → todo_ahead c.todo ≡ next.Step → ArePaced halt steps (set cpus i c)
    paced_stop made halted due = let h = paced i there in
        paced_at (record { made = h.made ∙ sym made; within = subst (IsWithinHalt halt) (sym made) h.within; stopped = λ is. (halted, due) })

-- a run that goes on isn't spent
pub unspent : (trace : Trace) (s : State) → s.spent ≡ false → s.spent ≡ true → IsSpentAfter trace s.most s
unspent trace s on is = absurd (cc (sym on ∙ is))
