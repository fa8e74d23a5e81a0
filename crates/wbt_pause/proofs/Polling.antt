-- How often a free writer checks: within the root of what is free.
use Rattle.std.proofs.Common.{◌≡◌, ℕ, suc, ◌+◌, ◌-◌, ◌*◌, ◌/◌, ◌^◌, ◌%◌, ◌<◌, ◌≤◌, true, false, cond, ltb, Option, Some, None, IfSome, min, refl, sym, ap, subst, ◌∙◌, inl, inr, arith}
use Rattle.std.specs.Option.{option_map_or}
use Rattle.std.proofs.lemmas.Bool.Decides.{nat_tests}
use Rattle.std.proofs.lemmas.Nat.{mul-le, pow-add, pow_below, pow_pos}
use Rattle.std.proofs.Math.Nat.{mod-eq_of_lt, pow-le-pow_right, two-pow-succ}
use Rattle.wbt_num.specs.Arithmetic.{log2}
use Rattle.wbt_num.proofs.Powers.{log2_bracket}
use Rattle.wbt_position.specs.declared.ratio.DomainRead.{DomainRead}
use Rattle.wbt_pause.specs.declared.reads.Reads.{Reads}
use Rattle.wbt_pause.specs.declared.reads.Task.{Task}
use Rattle.wbt_pause.specs.Claims.{IsWithinRoot}
use Rattle.wbt_pause.specs.Decision.{decision_of, domain_rule}
use Rattle.wbt_pause.specs.Laws.{FreeChecksWithinRoot}
use Rattle.wbt_pause.specs.Pauses.{poll_pages}
use Rattle.wbt_pause.specs.Reads.{EachDomain, least_of}
use Rattle.wbt_pause.proofs.Finishing as by_rule

-- ---- the root, as a power of two

abbrev root_of : ℕ → ℕ
root_of n = 2 ^ (log2 n / 2)

root_squared : (n : ℕ) → root_of n * root_of n ≡ 2 ^ (log2 n / 2 + log2 n / 2)
root_squared n = sym (pow-add 2 (log2 n / 2) (log2 n / 2))

pub root_fits : (n : ℕ) → 1 ≤ n → root_of n * root_of n ≤ n
root_fits n some =
    let bracket = log2_bracket n some in
    let two : 0 < 2 = omega arith in
    let less : log2 n / 2 + log2 n / 2 ≤ log2 n = omega arith in
    let power : 2 ^ (log2 n / 2 + log2 n / 2) ≤ 2 ^ log2 n = pow-le-pow_right {n = 2} two less in
    omega (arith, bracket.0, power, root_squared n)

pub root_is_near : (n : ℕ) → 1 ≤ n → n < 4 * (root_of n * root_of n)
root_is_near n some =
    let bracket = log2_bracket n some in
    let two : 0 < 2 = omega arith in
    let most : log2 n + 1 ≤ suc (suc (log2 n / 2 + log2 n / 2)) = omega arith in
    let power : 2 ^ (log2 n + 1) ≤ 2 ^ suc (suc (log2 n / 2 + log2 n / 2)) = pow-le-pow_right {n = 2} two most in
    omega (
      arith,
      bracket.1,
      power,
      two-pow-succ (suc (log2 n / 2 + log2 n / 2)),
      two-pow-succ (log2 n / 2 + log2 n / 2),
      root_squared n,
    )

-- a word's shift by half of a logarithm is that power
pub shifted : (free log : ℕ) → log ≡ log2 free → log < 64 → 1 * 2 ^ (log / 2) % 2 ^ 64 ≡ root_of free
shifted free log is few =
    let below : 2 ^ (log / 2) < 2 ^ 64 = pow_below (log / 2) 64 (omega arith) in
    let same : 1 * 2 ^ (log / 2) ≡ 2 ^ (log / 2) = omega arith in
    rw same (mod-eq_of_lt below) ∙ ap (λ (n : ℕ). 2 ^ (n / 2)) is

pub poll_within_root : (thresh dirty : ℕ) → IsWithinRoot (poll_pages thresh dirty) (thresh - dirty)
poll_within_root thresh dirty =
    elim (ltb dirty thresh) as (λ b. (b ≡ true → dirty < thresh) → IsWithinRoot (cond b (root_of (thresh - dirty)) 1) (thresh - dirty))
    [ true ↦ λ is. inr (root_fits (thresh - dirty) (omega (arith, is refl))) | false ↦ λ is. inl refl ] (λ t. grind (arith, nat_tests))

pub poll_is_near : (thresh dirty : ℕ) → thresh - dirty < 4 * (poll_pages thresh dirty * poll_pages thresh dirty)
poll_is_near thresh dirty =
    elim (ltb dirty thresh) as (λ b. (b ≡ true → dirty < thresh) → (b ≡ false → thresh ≤ dirty)
    → thresh - dirty < 4 * (cond b (root_of (thresh - dirty)) 1 * cond b (root_of (thresh - dirty)) 1)) [
      | true ↦ λ is not. root_is_near (thresh - dirty) (omega (arith, is refl))
      | false ↦ λ is not. omega (arith, not refl)
    ] (λ t. grind (arith, nat_tests)) (λ t. grind (arith, nat_tests))

poll_some : (thresh dirty : ℕ) → 1 ≤ poll_pages thresh dirty
poll_some thresh dirty =
    elim (ltb dirty thresh) as (λ b. 1 ≤ cond b (root_of (thresh - dirty)) 1)
    [ true ↦ pow_pos (log2 (thresh - dirty) / 2) | false ↦ omega arith ]

-- ---- the least of each domain

-- fewer pages than such are such
fewer_within : (pages more free : ℕ) → 1 ≤ pages → pages ≤ more → IsWithinRoot more free → IsWithinRoot pages free
fewer_within pages more free some less (inl one) = inl (omega arith)
fewer_within pages more free some less (inr square) = inr (omega (arith, mul-le pages pages more more less less))

module _ (limit pages : DomainRead → ℕ) where
  abbrev pub poll : DomainRead → ℕ
  poll domain = poll_pages (limit domain) (pages domain)

  abbrev pub free : DomainRead → ℕ
  free domain = limit domain - pages domain

  abbrev pub least : (global : DomainRead) (cgroup : Option DomainRead) → ℕ
  least global cgroup = option_map_or (λ c. min (poll global) (poll c)) cgroup (poll global)

  root : (domain : DomainRead) → (1 ≤ poll domain) × IsWithinRoot (poll domain) (free domain)
  root domain = (poll_some (limit domain) (pages domain), poll_within_root (limit domain) (pages domain))

  -- the least interval of all is within the root of what is free in each
  pub least_poll_within : (global : DomainRead) (cgroup : Option DomainRead)
      → IsWithinRoot (least global cgroup) (free global) × IfSome cgroup (λ domain. IsWithinRoot (least global cgroup) (free domain))
  least_poll_within global None = ((root global).1, tt)
  least_poll_within global (Some c) =
      let some : 1 ≤ min (poll global) (poll c) = omega (arith, (root global).0, (root c).0) in (
        fewer_within (min (poll global) (poll c)) (poll global) (free global) some (omega arith) (root global).1,
        fewer_within (min (poll global) (poll c)) (poll c) (free c) some (omega arith) (root c).1,
      )

least_within : (reads : Reads)
    → EachDomain (λ domain. IsWithinRoot (least_of (λ d. poll_pages d.limits.thresh d.dirty) reads) (domain.limits.thresh - domain.dirty)) reads
least_within reads = least_poll_within (λ domain. domain.limits.thresh) (λ domain. domain.dirty) reads.global reads.cgroup

-- ---- of a decision

pub free_checks_within_root : FreeChecksWithinRoot
unfolding decision_of
free_checks_within_root reads estimate task now free =
    let after = by_rule.free_polls (domain_rule reads estimate) reads.wb_dirty reads.cpus reads.cap estimate task now free in
    let IsWithin : Task → Type 0 = λ writer. EachDomain (λ domain. IsWithinRoot writer.nr_dirtied_pause (domain.limits.thresh - domain.dirty)) reads in
    record { anew = ap (λ (writer : Task). writer.nr_dirtied) after; root = subst IsWithin (sym after) (least_within reads) }
