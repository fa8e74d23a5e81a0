-- The heavy contexts of a domain: what they leave of the others, and what one page, or one writer, changes in their weight.
use Rattle.std.proofs.Common.{◌≡◌, ℕ, zero, suc, ◌+◌, ◌-◌, ◌*◌, ◌<◌, ◌≤◌, max, Bool, true, false, cond, eqb, leb, ◌⊎◌, inl, inr, sym, ap, subst, ⊎_elim, arith, leb-true, leb-false, mul-add, mul-one}
use mathlib.Core.Logic.{dite}
use native.Mathlib.Decide.{ℕ_discrete}
use Rattle.std.proofs.lemmas.Bool.{cases_Bool, cond-true, cond-false, false_from_ne_true}
use Rattle.wbt_counter.specs.Batch.{stat_error}
use Rattle.wbt_counter.specs.Sums.{total, one_if, put}
use Rattle.wbt_counter.proofs.Sums.{total_le, total_sum}
use Rattle.wbt_book.specs.Book.{Bits, Book}
use Rattle.wbt_book.specs.Counts.{places}
use Rattle.wbt_grant.specs.declared.record.WriterRecord.{WriterRecord}
use Rattle.wbt_grant.specs.Setting.{Setting, is_inside, contexts_of, writers_of}
use Rattle.wbt_grant.specs.State.{context_count, domain_count, writer_at}
use Rattle.wbt_grant.specs.Bound.{pot, slack, excess_limit, greatest_hard}
use Rattle.wbt_grant.specs.Closer.{twice_error, uncovered, above, weight}
use Rattle.wbt_grant.specs.Laws.{RuleBoundsCloser, CloserIsNearer}
use Rattle.wbt_grant.proofs.Frames.{if_le, count_shift, slack_same, page_covered}
use Rattle.wbt_grant.proofs.Bounding.{all_slack}

-- a number that doesn't grow, or isn't above the least one, counts no more
pub above_le : (least n m : ℕ) → (n ≤ m) ⊎ (n ≤ least) → above least n ≤ above least m
above_le least n m h = ⊎_elim
    (λ t. let none = cond-true (leb n least) 0 n t in omega arith)
    (λ t. let more = leb-false n least t in
    let low : n ≤ m = ⊎_elim (λ l. l) (λ l. absurd (omega arith)) h in
    let over = false_from_ne_true (leb m least) (λ u. let v = leb-true m least u in omega arith) in
    let a = cond-false (leb n least) 0 n t in
    let b = cond-false (leb m least) 0 m over in omega arith)
    (cases_Bool (leb n least))

pub above_at_most : (least n : ℕ) → above least n ≤ n
above_at_most least n = ⊎_elim
    (λ t. let none = cond-true (leb n least) 0 n t in omega arith)
    (λ t. let all = cond-false (leb n least) 0 n t in omega arith)
    (cases_Bool (leb n least))

-- some numbers, at the places that count
module _ (least : ℕ) (counts : ℕ → Bool) (n : ℕ → ℕ) where
  Within : (sum heavy places : ℕ) → Type 0
  Within sum heavy places = (sum ≤ least * places) ⊎ ((1 ≤ places) × (sum ≤ heavy + least * (places - 1)))

  -- one place more, which doesn't count, has at most the least number, or more
  with_none : (sum heavy places : ℕ) → Within sum heavy places → Within (sum + 0) (heavy + 0) (places + 0)
  unfolding Within
  with_none sum heavy places (inl h) = inl (let e : places + 0 ≡ places = omega arith in let f = ap (λ (p : ℕ). least * p) e in omega arith)
  with_none sum heavy places (inr h) = inr (
    omega (arith, h.0),
    let some = h.0 in let low = h.1 in
        let e : places + 0 - 1 ≡ places - 1 = omega arith in let f = ap (λ (p : ℕ). least * p) e in omega arith,
  )

  with_light : (sum heavy places k : ℕ) → k ≤ least → Within sum heavy places → Within (sum + k) (heavy + 0) (places + 1)
  unfolding Within
  with_light sum heavy places k light (inl h) = inl (let e = mul-add least places 1 in let f = mul-one least in omega arith)
  with_light sum heavy places k light (inr h) = inr (
    omega (arith, h.0),
    let some = h.0 in let low = h.1 in
        let e = mul-add least (places - 1) 1 in
        let f = mul-one least in
        let g : (places - 1) + 1 ≡ places + 1 - 1 = omega arith in
        let l = ap (λ (p : ℕ). least * p) g in omega arith,
  )

  with_heavy : (sum heavy places k : ℕ) → Within sum heavy places → Within (sum + k) (heavy + k) (places + 1)
  unfolding Within
  with_heavy sum heavy places k (inl h) = inr (
    omega arith,
    let e : places + 1 - 1 ≡ places = omega arith in
        let f = ap (λ (p : ℕ). least * p) e in omega arith,
  )
  with_heavy sum heavy places k (inr h) = inr (
    omega arith,
    let some = h.0 in let low = h.1 in
        let e = mul-add least (places - 1) 1 in
        let f = mul-one least in
        let g : (places - 1) + 1 ≡ places + 1 - 1 = omega arith in
        let l = ap (λ (p : ℕ). least * p) g in omega arith,
  )

  with_one : (b : Bool) (sum heavy places k : ℕ) → Within sum heavy places
      → Within (sum + cond b k 0) (heavy + cond b (above least k) 0) (places + one_if b)
  with_one false sum heavy places k h = with_none sum heavy places h
  with_one true sum heavy places k h = ⊎_elim
      (λ t. let light = leb-true k least t in
      subst (λ (v : ℕ). Within (sum + k) (heavy + v) (places + 1)) (sym (cond-true (leb k least) 0 k t)) (with_light sum heavy places k light h))
      (λ t. subst (λ (v : ℕ). Within (sum + k) (heavy + v) (places + 1)) (sym (cond-false (leb k least) 0 k t)) (with_heavy sum heavy places k h))
      (cases_Bool (leb k least))

  sum_within : (m : ℕ) → Within (total m (λ k. cond (counts k) (n k) 0)) (total m (λ k. cond (counts k) (above least (n k)) 0))
      (total m (λ k. one_if (counts k)))
  unfolding Within
  sum_within zero = inl (omega arith)
  sum_within (suc m) = with_one (counts m) (total m (λ k. cond (counts k) (n k) 0)) (total m (λ k. cond (counts k) (above least (n k)) 0))
      (total m (λ k. one_if (counts k))) (n m) (sum_within m)

  -- all of them together
  pub sum_at_most : (m most : ℕ) → total m (λ k. cond (counts k) (above least (n k)) 0) ≤ most
      → (total m (λ k. cond (counts k) (n k) 0) ≤ least * total m (λ k. one_if (counts k)))
      ⊎ (total m (λ k. cond (counts k) (n k) 0) ≤ most + least * (total m (λ k. one_if (counts k)) - 1))
  unfolding Within
  sum_at_most m most light = ⊎_elim (λ h. inl h) (λ h. inr (let low = h.1 in omega arith)) (sum_within m)

times_less : (t n : ℕ) → t * n ≤ t + t * (n - 1)
times_less t zero = omega arith
times_less t (suc n) =
    let e = mul-add t n 1 in
    let f = mul-one t in
    let g : n + 1 ≡ suc n = omega arith in
    let h = ap (λ (m : ℕ). t * m) g in
    let k : suc n - 1 ≡ n = omega arith in
    let l = ap (λ (m : ℕ). t * m) k in omega arith

-- a count is covered, or isn't
covered : (b : Bool) (count slack : ℕ) → cond b count 0 ≤ cond b (count - slack) 0 + cond b slack 0
covered true count slack = omega arith
covered false count slack = omega arith

module _ (set : Setting) (d : ℕ) where
  pub weight_le : (book book' : Book) (writers writers' : ℕ → WriterRecord)
      → ((k : ℕ) → is_inside set d k ≡ true
      → (uncovered set d book' writers' k ≤ uncovered set d book writers k) ⊎ (uncovered set d book' writers' k ≤ twice_error set))
      → weight set d book' writers' ≤ weight set d book writers
  weight_le book book' writers writers' h = total_le set.contexts
      (λ k. cond (is_inside set d k) (above (twice_error set) (uncovered set d book' writers' k)) 0)
      (λ k. cond (is_inside set d k) (above (twice_error set) (uncovered set d book writers k)) 0)
      (λ k l. if_le (is_inside set d k) (above (twice_error set) (uncovered set d book' writers' k))
      (above (twice_error set) (uncovered set d book writers k))
      (λ t. above_le (twice_error set) (uncovered set d book' writers' k) (uncovered set d book writers k) (h k t)))

  pub weight_at_most : (book : Book) (writers : ℕ → WriterRecord) → weight set d book writers ≤ domain_count set book d
  weight_at_most book writers = total_le set.contexts
      (λ k. cond (is_inside set d k) (above (twice_error set) (uncovered set d book writers k)) 0)
      (λ k. cond (is_inside set d k) (context_count set book k) 0)
      (λ k l. if_le (is_inside set d k) (above (twice_error set) (uncovered set d book writers k)) (context_count set book k)
      (λ t. let a = above_at_most (twice_error set) (uncovered set d book writers k) in omega arith))

-- the record of the writer w becomes x
module _ (set : Setting) (d : ℕ) (book : Book) (writers : ℕ → WriterRecord) (w : ℕ) (x : WriterRecord) where
  -- its pot falls
  pub lighter_writer : (is_inside set d (set.works_in w) ≡ true → pot set d x ≤ pot set d (writers w))
      → weight set d book (put writers w x) ≤ weight set d book writers
  lighter_writer h = weight_le set d book book writers (put writers w x)
      (λ k i. inl (let q = slack_same set d book writers w x k (λ e. h (subst (λ (n : ℕ). is_inside set d n ≡ true) (sym e) i)) in omega arith))

  -- its pot rises, and its context has few pages
  pub light_context : context_count set book (set.works_in w) ≤ 2 * stat_error set.cpus
      → weight set d book (put writers w x) ≤ weight set d book writers
  light_context few = weight_le set d book book writers (put writers w x)
      (λ k i. dite (ℕ_discrete (set.works_in w) k)
      (λ e. inr (let f : context_count set book k ≤ 2 * stat_error set.cpus = subst
      (λ (n : ℕ). context_count set book n ≤ 2 * stat_error set.cpus) e few in omega arith))
      (λ n. inl (let q = slack_same set d book writers w x k (λ e. absurd (n e)) in omega arith)))

  -- one page more in its context, and one less in its pot
  pub same_weight : (p : ℕ) (b : Bits) → p < set.pages → w < set.writers → set.home p ≡ set.works_in w
      → places b ≡ places (book p) + 1 → pot set d x + 1 ≤ pot set d (writers w) → pot set d (writers w) ≤ set.cap
      → weight set d (put book p b) (put writers w x) ≤ weight set d book writers
  same_weight p b less here its more fewer within = weight_le set d book (put book p b) writers (put writers w x)
      (λ k i. inl (let c = page_covered set d book writers w x p b less here its more fewer within k in omega arith))

-- a page's bits become no more
pub no_heavier : (set : Setting) (book : Book) (p : ℕ) (b : Bits) → p < set.pages → (writers : ℕ → WriterRecord) (d : ℕ)
    → places b ≤ places (book p) → weight set d (put book p b) writers ≤ weight set d book writers
no_heavier set book p b less writers d h = weight_le set d book (put book p b) writers writers
    (λ k i. inl (let t = count_shift set book p b less k in
    let q = if_le (eqb (set.home p) k) (places b) (places (book p)) (λ e. h) in omega arith))

-- the weight bounds the count
closer_count : (set : Setting) (d most : ℕ) (book : Book) (writers : ℕ → WriterRecord) → weight set d book writers ≤ most
    → domain_count set book d ≤ max most (twice_error set) + twice_error set * (contexts_of set d - 1) + writers_of set d * set.cap
closer_count set d most book writers light =
    let a = λ (k : ℕ). cond (is_inside set d k) (uncovered set d book writers k) 0 in
    let b = λ (k : ℕ). cond (is_inside set d k) (slack set d writers k) 0 in
    let each = total_le set.contexts (λ k. cond (is_inside set d k) (context_count set book k) 0) (λ k. a k + b k)
    (λ k l. covered (is_inside set d k) (context_count set book k) (slack set d writers k)) in
    let both = total_sum set.contexts a b in
    let slacks = all_slack set d writers set.writers in
    let less = times_less (twice_error set) (contexts_of set d) in
    ⊎_elim (λ h. omega arith) (λ h. omega arith)
    (sum_at_most (twice_error set) (is_inside set d) (uncovered set d book writers) set.contexts most light)

pub rule_bounds_closer : RuleBoundsCloser
rule_bounds_closer set s rule d = closer_count set d (excess_limit set (greatest_hard set s.timer.published) d) s.book (writer_at set s.cpu)
    (rule.within.weight_fits d)

pub closer_is_nearer : CloserIsNearer
closer_is_nearer set hard d some =
    let t : ℕ = twice_error set in
    let n : ℕ = contexts_of set d in
    let e = mul-add t (n - 1) 1 in
    let f = mul-one t in
    let g : (n - 1) + 1 ≡ n = omega arith in
    let h = ap (λ (m : ℕ). t * m) g in
    (omega arith, λ low. omega arith)
