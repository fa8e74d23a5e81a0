-- The list from the opening, and the bound that its count comes to.
use Rattle.std.proofs.Common.{◌≡◌, ℕ, zero, suc, ◌*◌, ◌<◌, [], min, sym, refl, ap, ◌∙◌, arith}
use Rattle.wbt_num.specs.Arithmetic.{log2, halvings}
use Rattle.wbt_counter.specs.Batch.{domain_batch, context_batch}
use Rattle.wbt_counter.specs.Sums.{total}
use Rattle.wbt_counter.proofs.Sums.{total_nothing}
use Rattle.wbt_grant.specs.declared.record.TimerRecord.{TimerRecord}
use Rattle.wbt_grant.specs.Setting.{Setting}
use Rattle.wbt_grant.specs.State.{State, domain_count, opening}
use Rattle.wbt_grant.specs.Bound.{greatest_hard}
use Rattle.wbt_grant.specs.Closer.{closer_bound}
use Rattle.wbt_grant.proofs.Whole.{opening_keeps}
use Rattle.wbt_attained.specs.Alone.{alone, all_pages, IsAlone}
use Rattle.wbt_attained.specs.Laws.{Attained, Reaches, AttainedOnFewCpus}
use Rattle.wbt_attained.proofs.Setting.{is_setting}
use Rattle.wbt_attained.proofs.At.{Goes, stays, At}
use Rattle.wbt_attained.proofs.Loops.{all_of_it}

opening_at : (cpus batches cap : ℕ) → IsAlone cpus batches cap
    → At (alone cpus batches cap) 0 0 (λ i. 0) (λ w. min 32 cap) (λ i. []) (opening (alone cpus batches cap))
opening_at cpus batches cap is = record {
  rule = opening_keeps (alone cpus batches cap) (is_setting cpus batches cap is);
  fresh = λ p more. refl;
  counted = let none = total_nothing (all_pages cpus batches cap) (λ p. 0) (λ p. refl) in omega arith;
  own = λ i less. refl;
  folded = refl;
  left = λ w less. refl;
  owed = λ i less. refl;
  steps = λ i. omega arith;
  timer = refl;
}

some_batch : (cpus : ℕ) → 0 < domain_batch cpus
unfolding domain_batch
some_batch cpus = omega arith

-- a list that comes to all pages
reached : (cpus batches cap : ℕ) → IsAlone cpus batches cap
    → Goes (alone cpus batches cap) (λ s. (domain_count (alone cpus batches cap) s.book 0 ≡ all_pages cpus batches cap)
    × (s.timer ≡ (opening (alone cpus batches cap)).timer)) (opening (alone cpus batches cap))
reached cpus batches cap is =
    let set : Setting = alone cpus batches cap in
    let P : State → Type 0 = λ s. (domain_count set s.book 0 ≡ all_pages cpus batches cap) × (s.timer ≡ (opening set).timer) in
    all_of_it cpus batches cap is P (some_batch cpus) (λ w. min 32 cap) (opening set) (opening_at cpus batches cap is)
    (λ g b m q t at. stays set P t (at.counted, at.timer))

each_one : (n : ℕ) → total n (λ w. 1) ≡ n
each_one zero = refl
each_one (suc n) = let rest = each_one n in omega arith

-- all pages are the closer bound, where nothing was published
is_bound : (cpus batches cap : ℕ) → IsAlone cpus batches cap
    → all_pages cpus batches cap ≡ closer_bound (alone cpus batches cap) (greatest_hard (alone cpus batches cap) []) 0
is_bound cpus batches cap is =
    let no_less = is.no_less in
    let writers = ap (λ (k : ℕ). k * cap) (each_one cpus) in
    omega arith

pub attained : Attained
attained cpus batches cap is =
    let set : Setting = alone cpus batches cap in
    let r = reached cpus batches cap is in (
      r.0,
      r.1,
      r.2.0 ∙ is_bound cpus batches cap is
          ∙ ap (λ (t : TimerRecord). closer_bound set (greatest_hard set t.published) 0) (sym r.2.1),
    )

reaches : (pages cpus batches cap : ℕ) → IsAlone cpus batches cap → all_pages cpus batches cap ≡ pages → Reaches pages cpus batches cap
reaches pages cpus batches cap is same = let r = reached cpus batches cap is in (r.0, r.1, r.2.0 ∙ same)

pub attained_on_few_cpus : AttainedOnFewCpus
unfolding domain_batch context_batch log2 halvings
attained_on_few_cpus = record {
  one = reaches 1696 1 20 1024 (record { some_cpu = omega arith; few_cpus = omega arith; some_cap = omega arith; few_pages = omega arith; no_less = omega arith }) refl;
  two = reaches 2752 2 20 1024 (record { some_cpu = omega arith; few_cpus = omega arith; some_cap = omega arith; few_pages = omega arith; no_less = omega arith }) refl;
  four = reaches 4864 4 20 1024 (record { some_cpu = omega arith; few_cpus = omega arith; some_cap = omega arith; few_pages = omega arith; no_less = omega arith }) refl;
  eight = reaches 9088 8 20 1024 (record { some_cpu = omega arith; few_cpus = omega arith; some_cap = omega arith; few_pages = omega arith; no_less = omega arith }) refl;
}
