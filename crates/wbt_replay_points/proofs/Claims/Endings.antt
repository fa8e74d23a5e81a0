-- Why a run ended.
use Rattle.std.proofs.Common.{◌≡◌, ◌≢◌, ◌⊎◌, inl, inr, ℕ, suc, ◌<◌, ◌≤◌, Bool, true, false, cond, ◌||◌, ltb, List, [], ◌∷◌, length, get_or, Option, Some, None, refl, sym, ◌∙◌, ap, arith}
use Rattle.std.specs.List.{count_by}
use Rattle.std.proofs.lemmas.Bool.Decides.{nat_tests}
use Rattle.std.proofs.lemmas.List.Sums.{sum_by-cons, get_or-le-sum_by}
use Rattle.wbt_replay_order.proofs.Common.{Trace, State, no_cpu, cpu_of, HasEnded, is_over, is_halted, most_moves, last_state, ending_of, journal_of, IsWithinHalt, Ending, is_stopped, Sound}
use Rattle.wbt_journal.specs.declared.journal.Ending.TheVariants as ending
use Rattle.wbt_replay_order.specs.Claims.Ending.{IsSpentAt, IsStoppedAt, EndsSo}
use Rattle.wbt_replay_order.proofs.Growth.Most.{most_at}

-- ---- counts

-- an item that is counted, where some are
counted : {A : Type 0} (test : A → Bool) (d : A) (xs : List A) → 1 ≤ count_by test xs → (i : ℕ) × (i < length xs) × (test (get_or xs i d) ≡ true)
counted test d [] some = absurd (omega (arith, some))
counted test d (x ∷ xs) some = by_test (test x) refl (λ few. counted test d xs few)
  where
    by_test : (b : Bool) → test x ≡ b → (1 ≤ count_by test xs → (i : ℕ) × (i < length xs) × (test (get_or xs i d) ≡ true))
        → (i : ℕ) × (i < length (x ∷ xs)) × (test (get_or (x ∷ xs) i d) ≡ true)
    by_test true is behind = (0, omega arith, is)
    by_test false is behind =
        let rest = behind (omega (arith, some, sum_by-cons (λ y. cond (test y) 1 0) x xs, ap {A = Bool} {B = ℕ} (λ b. cond b 1 0) is)) in
        (suc rest.0, omega (arith, rest.1), rest.2)

-- where one is counted some are
counts : {A : Type 0} (test : A → Bool) (d : A) (xs : List A) (i : ℕ) → i < length xs → test (get_or xs i d) ≡ true → 1 ≤ count_by test xs
counts test d xs i less is = omega (arith, get_or-le-sum_by (λ y. cond (test y) 1 0) xs i d less, ap {A = Bool} {B = ℕ} (λ b. cond b 1 0) is)

-- ---- a halt line

-- the number that a halted CPU has made
halted_at : (halt : Option ℕ) (made : ℕ) → is_halted halt made ≡ true → IsWithinHalt halt made → (most : ℕ) × (halt ≡ Some most) × (made ≡ most)
halted_at None made is within = absurd (cc is)
halted_at (Some most) made is within = let least : most ≤ made = grind (arith, nat_tests) in (most, refl, omega (arith, least, within))

-- ---- the three endings

record Spent (s : State) : Type 0 where
  is : s.spent ≡ true
  told : ending_of s ≡ ending.Spent

record Halted (s : State) : Type 0 where
  going : s.spent ≡ false
  some : 1 ≤ s.stopped
  told : ending_of s ≡ ending.Halted

record Done (s : State) : Type 0 where
  going : s.spent ≡ false
  none : s.stopped ≡ 0
  told : ending_of s ≡ ending.Done

which : (s : State) → Spent s ⊎ (Halted s ⊎ Done s)
which s = by_spent s.spent (ltb 0 s.stopped) refl refl
  where
    by_spent : (b c : Bool) → s.spent ≡ b → ltb 0 s.stopped ≡ c → Spent s ⊎ (Halted s ⊎ Done s)
    by_spent true c spent some = inl (record { is = spent; told = ap (λ x. cond x ending.Spent (cond (ltb 0 s.stopped) ending.Halted ending.Done)) spent })
    by_spent false true spent some = inr (inl (record {
      going = spent;
      some = grind (arith, nat_tests);
      told = ap (λ x. cond x ending.Spent (cond (ltb 0 s.stopped) ending.Halted ending.Done)) spent ∙ ap (λ x. cond x ending.Halted ending.Done) some;
    }))
    by_spent false false spent some = inr (inr (record {
      going = spent;
      none = grind (arith, nat_tests);
      told = ap (λ x. cond x ending.Spent (cond (ltb 0 s.stopped) ending.Halted ending.Done)) spent ∙ ap (λ x. cond x ending.Halted ending.Done) some;
    }))

module _ (trace : Trace) (sound : Sound trace (last_state trace)) (ended : HasEnded trace) (kept : Ending trace (last_state trace)) where
  some_stopped : 1 ≤ (last_state trace).stopped → (cpu : ℕ) × IsStoppedAt trace (last_state trace) cpu
  some_stopped some =
      let s : State = last_state trace in
      let one = counted is_stopped no_cpu s.cpus (omega (arith, some, sound.holds.counted.cpus)) in
      let paced = kept.paced one.0 one.1 in
      let why = paced.stopped one.2 in
      let most = halted_at trace.halt (cpu_of one.0 s).made why.0 paced.within in (
        one.0,
        record {
          there = omega (arith, one.1, sound.holds.cpus.many);
          stopped = one.2;
          most = most.0;
          halt = most.1;
          made = paced.made ∙ most.2;
          due = why.1;
        },
      )

  none_stopped : (last_state trace).stopped ≡ 0 → (cpu : ℕ) → IsStoppedAt trace (last_state trace) cpu → ⊥
  none_stopped none cpu at =
      let some = counts is_stopped no_cpu (last_state trace).cpus cpu (omega (arith, at.there, sound.holds.cpus.many)) at.stopped in
      omega (arith, some, none, sound.holds.counted.cpus)

  told : (journal_of trace).ending ≡ ending_of (last_state trace)
  unfolding journal_of
  told = refl

  -- a run that isn't spent is over
  over : (last_state trace).spent ≡ false → is_over (last_state trace) ≡ true
  over going = ap (λ (b : Bool). b || is_over (last_state trace)) (sym going) ∙ ended.0

  -- a run that is spent has made as many steps as a replay may have
  spent_at : (last_state trace).spent ≡ true → IsSpentAt trace (last_state trace)
  spent_at is =
      let after = kept.spent is in
      record { steps = after.steps ∙ most_at trace most_moves; ongoing = after.ongoing; who = after.who; due = after.due; free = after.free }

  pub ends_so : EndsSo trace
  ends_so = by_case (which (last_state trace))
    where
      by_case : Spent (last_state trace) ⊎ (Halted (last_state trace) ⊎ Done (last_state trace)) → EndsSo trace
      by_case (inl spent) =
          let is = told ∙ spent.told in
          record {
            spent = ((λ e. spent_at spent.is), (λ at. is));
            halted = ((λ e. absurd (cc (sym is ∙ e))), (λ h. absurd (h.0 is)));
            done = ((λ e. absurd (cc (sym is ∙ e))), (λ h. absurd (h.0 is)));
            unhalted = λ none other. absurd (other is);
          }
      by_case (inr (inl halted)) =
          let is = told ∙ halted.told in
          let other : (journal_of trace).ending ≢ ending.Spent = λ e. cc (sym is ∙ e) in
          let stopped = some_stopped halted.some in
          record {
            spent = ((λ e. absurd (other e)), (λ at. absurd (cc (sym at.ongoing ∙ over halted.going))));
            halted = ((λ e. (other, stopped)), (λ h. is));
            done = ((λ e. absurd (cc (sym is ∙ e))), (λ h. absurd (h.1 stopped.0 stopped.1)));
            unhalted = λ none e. absurd (cc (sym stopped.1.halt ∙ none));
          }
      by_case (inr (inr done)) =
          let is = told ∙ done.told in
          let other : (journal_of trace).ending ≢ ending.Spent = λ e. cc (sym is ∙ e) in
          record {
            spent = ((λ e. absurd (other e)), (λ at. absurd (cc (sym at.ongoing ∙ over done.going))));
            halted = ((λ e. absurd (cc (sym is ∙ e))), (λ h. absurd (none_stopped done.none h.1.0 h.1.1)));
            done = ((λ e. (other, none_stopped done.none)), (λ h. is));
            unhalted = λ none e. is;
          }
