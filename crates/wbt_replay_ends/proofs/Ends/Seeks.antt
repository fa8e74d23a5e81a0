-- What a search in the round finds, and what it says where it finds nothing.
use Rattle.std.proofs.Common.{◌≡◌, ◌⊎◌, inl, inr, ℕ, zero, suc, ◌+◌, ◌<◌, ◌≤◌, Bool, true, false, cond, ltb, length, ⊎_elim, refl, sym, ◌∙◌, ap, arith}
use Rattle.std.proofs.lemmas.Bool.{cases_lt, cases_eq}
use Rattle.std.proofs.lemmas.Bool.Decides.{nat_tests}
use Rattle.wbt_replay_order.proofs.Common.{State, Cpu, after, job_turn, job_at, is_nothing, seek_job, cpu_turn}
use Rattle.wbt_replay_order.specs.declared.chance.Chance.{Chance}
use Rattle.wbt_replay_order.specs.declared.chance.Chance.TheVariants as chance
use Rattle.wbt_replay_order.proofs.Search.{after_below}

-- ---- numbers that go round

-- how a search of so many tries comes from a number to another, which goes round
abbrev pub Comes : (count tries n k : ℕ) → Type 0
Comes count tries n k = ((n ≤ k) × (k < n + tries)) ⊎ (k + count < n + tries)

pub comes_next : (count tries n k : ℕ) → n < count → k < count → (n ≡ k → ⊥) → Comes count (suc tries) n k → Comes count tries (after count n) k
comes_next count tries n k less below other comes = by_last (ltb (n + 1) count) refl
  where
    by_last : (b : Bool) → ltb (n + 1) count ≡ b → Comes count tries (cond b (n + 1) 0) k
    by_last true is = ⊎_elim (λ c. inl (omega (arith, c.0, other), omega (arith, c.1))) (λ c. inr (omega (arith, c))) comes
    by_last false is =
        let last : count ≤ n + 1 = grind (arith, nat_tests) in
        ⊎_elim (λ c. absurd (other (omega (arith, c.0, below, last)))) (λ c. inl (omega arith, omega (arith, c, last))) comes

-- it comes to all of them
pub comes_all : (count n k : ℕ) → n < count → k < count → Comes count count n k
comes_all count n k less below = by_side (cases_lt k n)
  where
    by_side : (k < n) ⊎ (n ≤ k) → Comes count count n k
    by_side (inl before) = inr (omega arith)
    by_side (inr past) = inl (past, omega arith)

pub comes_not : (count n k : ℕ) → n < count → Comes count 0 n k → ⊥
comes_not count n k less comes = ⊎_elim (λ c. omega (arith, c.0, c.1)) (λ c. omega (arith, c, less)) comes

-- ---- where a CPU can begin none

module _ (c : Cpu) (s : State) where
  none_past : (tries n k : ℕ) → n < length c.jobs → k < length c.jobs → Comes (length c.jobs) tries n k → is_nothing (seek_job c s tries n) ≡ true
      → is_nothing (job_turn c s k (job_at k c)) ≡ true
  unfolding seek_job
  none_past zero n k less below comes none = absurd (comes_not (length c.jobs) n k less comes)
  none_past (suc tries) n k less below comes none =
      by_test (is_nothing (job_turn c s n (job_at n c))) refl none
      (λ on other. none_past tries (after (length c.jobs) n) k (after_below (length c.jobs) n (omega (arith, less))) below (comes_next (length c.jobs) tries n k less below other comes) on)
    where
      by_place : is_nothing (job_turn c s n (job_at n c)) ≡ true → ((n ≡ k → ⊥) → is_nothing (job_turn c s k (job_at k c)) ≡ true) → (n ≡ k) ⊎ (n ≡ k → ⊥)
          → is_nothing (job_turn c s k (job_at k c)) ≡ true
      by_place is behind (inl same) = ap (λ m. is_nothing (job_turn c s m (job_at m c))) (sym same) ∙ is
      by_place is behind (inr other) = behind other

      by_test : (b : Bool) → is_nothing (job_turn c s n (job_at n c)) ≡ b
          → is_nothing (elim b as (λ _. Chance) [ true ↦ seek_job c s tries (after (length c.jobs) n) | false ↦ job_turn c s n (job_at n c) ]) ≡ true
          → (is_nothing (seek_job c s tries (after (length c.jobs) n)) ≡ true → (n ≡ k → ⊥) → is_nothing (job_turn c s k (job_at k c)) ≡ true)
          → is_nothing (job_turn c s k (job_at k c)) ≡ true
      by_test true is here behind = by_place is (behind here) (cases_eq n k)
      by_test false is here behind = absurd (cc (sym is ∙ here))

  -- none of its jobs can begin a turn
  pub none_found : (1 ≤ length c.jobs → c.next < length c.jobs) → c.stopped ≡ false → is_nothing (cpu_turn c s) ≡ true → (k : ℕ) → k < length c.jobs
      → is_nothing (job_turn c s k (job_at k c)) ≡ true
  none_found next going none k below =
      let less : c.next < length c.jobs = next (omega (arith, below)) in
      let sought = ap (λ b. is_nothing (cond b chance.Nothing (seek_job c s (length c.jobs) c.next))) going in
      none_past (length c.jobs) c.next k less below (comes_all (length c.jobs) c.next k less below) (sym sought ∙ none)
