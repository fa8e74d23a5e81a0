-- Where a scan stands that goes round the pages of its inode.
use Rattle.std.proofs.Common.{◌≡◌, ℕ, ◌+◌, ◌-◌, ◌%◌, ◌<◌, ◌≤◌, ◌⊎◌, inl, inr, ⊎_elim, ap, ◌∙◌, arith}
use Rattle.std.proofs.Math.Nat.{mod-eq_of_lt, mod-eq-sub-mod, mod-lt}
use Rattle.std.proofs.lemmas.Bool.{cases_lt}
use Rattle.wbt_rules.specs.Places.{place_after, page_at, page_of, IsAhead, PassesEachOnce}
use Rattle.wbt_rules.specs.declared.scan.Scan.{Scan}

pub place_below : (pages start passed : ℕ) → start < pages → place_after pages start passed < pages
place_below pages start passed less = mod-lt (start + passed) (omega arith)

-- it is past the inode's end at most once
pub place_is : (pages start passed : ℕ) → start < pages → passed < pages
    → ((start + passed < pages) × (place_after pages start passed ≡ start + passed))
    ⊎ ((pages ≤ start + passed) × (place_after pages start passed + pages ≡ start + passed))
place_is pages start passed low less = ⊎_elim
    (λ (short : start + passed < pages). inl (short, mod-eq_of_lt short))
    (λ (long : pages ≤ start + passed).
    let rest : start + passed - pages < pages = omega arith in
    let is : place_after pages start passed ≡ start + passed - pages = mod-eq-sub-mod long ∙ mod-eq_of_lt rest in
    inr (long, omega arith))
    (cases_lt (start + passed) pages)

-- each place is come to
comes_to : (pages start place : ℕ) → start < pages → place < pages
    → (passed : ℕ) × (passed < pages) × (place_after pages start passed ≡ place)
comes_to pages start place low less = ⊎_elim
    (λ (before : place < start).
    let passed : ℕ = place + pages - start in
    let sum : start + passed ≡ place + pages = omega arith in
    let is : place_after pages start passed ≡ place =
    ap (λ (n : ℕ). n % pages) sum ∙ mod-eq-sub-mod (omega arith) ∙ ap (λ (n : ℕ). n % pages) (omega arith) ∙ mod-eq_of_lt less in
    (passed, omega arith, is))
    (λ (behind : start ≤ place).
    let passed : ℕ = place - start in
    let sum : start + passed ≡ place = omega arith in
    (passed, omega arith, ap (λ (n : ℕ). n % pages) sum ∙ mod-eq_of_lt less))
    (cases_lt place start)

-- no two come to one place
one_place : (pages start a b : ℕ) → start < pages → a < pages → b < pages → place_after pages start a ≡ place_after pages start b → a ≡ b
one_place pages start a b low less_a less_b same = ⊎_elim
    (λ (short_a : (start + a < pages) × (place_after pages start a ≡ start + a)). ⊎_elim
    (λ (short_b : (start + b < pages) × (place_after pages start b ≡ start + b)). let p = short_a.1 in let q = short_b.1 in omega (arith, p, q, same))
    (λ (long_b : (pages ≤ start + b) × (place_after pages start b + pages ≡ start + b)). let p = short_a.1 in let q = long_b.1 in omega (arith, p, q, same))
    (place_is pages start b low less_b))
    (λ (long_a : (pages ≤ start + a) × (place_after pages start a + pages ≡ start + a)). ⊎_elim
    (λ (short_b : (start + b < pages) × (place_after pages start b ≡ start + b)). let p = long_a.1 in let q = short_b.1 in omega (arith, p, q, same))
    (λ (long_b : (pages ≤ start + b) × (place_after pages start b + pages ≡ start + b)). let p = long_a.1 in let q = long_b.1 in omega (arith, p, q, same))
    (place_is pages start b low less_b))
    (place_is pages start a low less_a)

pub once : (first pages start a b : ℕ) → start < pages → a < pages → b < pages → page_at first pages start b ≡ page_at first pages start a → b ≡ a
unfolding page_at
once first pages start a b low less_a less_b same =
    one_place pages start b a low less_b less_a (let s : first + place_after pages start b ≡ first + place_after pages start a = same in omega (arith, s))

pub passes_each_once : PassesEachOnce
unfolding page_at
passes_each_once first pages start page low after before =
    let place : ℕ = page - first in
    let less : place < pages = omega arith in
    let found = comes_to pages start place low less in
    let is : first + place_after pages start found.0 ≡ page = ap (λ (n : ℕ). first + n) found.2 ∙ (omega arith) in (
      found.0,
      found.1,
      is,
      λ other fits same. one_place pages start other found.0 low fits found.1
          (let s : first + place_after pages start other ≡ page = same in omega (arith, s, is)),
    )

-- ---- pages ahead

pub page_inside : (first pages start passed : ℕ) → start < pages → (first ≤ page_at first pages start passed) × (page_at first pages start passed < first + pages)
unfolding page_at
page_inside first pages start passed less =
    let below : place_after pages start passed < pages = place_below pages start passed less in
    let after : first ≤ first + place_after pages start passed = omega arith in
    let before : first + place_after pages start passed < first + pages = omega (arith, below) in
    (after, before)

-- before a scan has passed a page, each of its inode is ahead
pub all_ahead : (scan : Scan) (page : ℕ) → scan.start < scan.pages → scan.passed ≡ 0 → scan.first ≤ page → page < scan.first + scan.pages → IsAhead scan page
all_ahead scan page start none after before =
    let found = passes_each_once scan.first scan.pages scan.start page start after before in
    (found.0, omega (arith, none), found.1, found.2)

-- a page that is ahead is the next one, or still ahead after it
pub next_or_ahead : (scan : Scan) (page : ℕ) → IsAhead scan page → (page_of scan ≡ page) ⊎ IsAhead (record scan { passed = scan.passed + 1 }) page
next_or_ahead scan page ahead =
    let k : ℕ = ahead.0 in
    let from : scan.passed ≤ k = ahead.1 in
    ⊎_elim
    (λ (later : scan.passed < k). inr (k, omega (arith, later), ahead.2, ahead.3))
    (λ (now : k ≤ scan.passed).
    let at : scan.passed ≡ k = omega (arith, from, now) in
    inl (ap (λ (n : ℕ). page_at scan.first scan.pages scan.start n) at ∙ ahead.3))
    (cases_lt scan.passed k)

-- where a scan has passed as many pages as its inode has, none is ahead
pub none_ahead : (scan : Scan) (page : ℕ) → scan.pages ≤ scan.passed → IsAhead scan page → ⊥
none_ahead scan page all ahead = let p = ahead.1 in let q = ahead.2 in omega (arith, all, p, q)
