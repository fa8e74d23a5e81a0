-- Where words stand: each part has its range, and no two words one place.
use Rattle.std.proofs.Common.{◌≡◌, ◌≢◌, ℕ, ◌+◌, ◌*◌, ◌<◌, true, false, sym, ◌∙◌, arith, true≢false, eq-eqb, ⊎_elim}
use Rattle.std.proofs.lemmas.Bool.{cases_lt}
use Rattle.wbt_table.proofs.Common.{Counter, Domain, Context, is_same, IsSetting, setting, pages_in, counters, stride, HasCounter, limits_from, page_at, shared_at, own_at}
use Rattle.wbt_book.proofs.PageWords.{spots_fit}
use Rattle.wbt_table.specs.declared.layout.Layout.{Layout}
use Rattle.wbt_table.specs.Layout.{number, inodes_from, own_from}

-- a row of a grid and a place in it
pub row_less : (i m c n : ℕ) → i < m → n < c → i * c + n < m * c
row_less i m c n h k = grind arith

rows : (c n m i j : ℕ) → i < c → j < c → n < m → n * c + i < m * c + j
rows c n m i j h k l = grind arith

module _ (key : Layout) where
  pub page_inside : (p : ℕ) → IsSetting (setting key) → p < pages_in key.inodes → page_at p < inodes_from key
  page_inside p ok l = let few = ok.few_pages in let fit = (spots_fit (pages_in key.inodes) p l few).word_is in omega arith

  pub number_less : (x : Counter) → HasCounter key x → number key x < counters key
  number_less (Domain d) h = omega arith
  number_less (Context k) h = omega arith

  pub shared_inside : (x : Counter) → HasCounter key x → shared_at key x < own_from key
  shared_inside x h = let l = number_less x h in omega arith

  pub own_inside : (x : Counter) (i : ℕ) → HasCounter key x → i < key.cpus → own_at key x i < limits_from key
  own_inside x i h l = let n = number_less x h in let row = row_less i key.cpus (stride key) (number key x) l (omega arith) in omega arith

  same_number : (x y : Counter) → HasCounter key x → HasCounter key y → number key x ≡ number key y → is_same x y ≡ true
  same_number (Domain d) (Domain e) h k same = eq-eqb d e same
  same_number (Domain d) (Context k) h l same = absurd (omega arith)
  same_number (Context c) (Domain d) h l same = absurd (omega arith)
  same_number (Context c) (Context k) h l same = eq-eqb c k (omega arith)

  pub shared_apart : (x y : Counter) → HasCounter key x → HasCounter key y → is_same y x ≡ false → shared_at key y ≢ shared_at key x
  shared_apart x y h k differ e = let both : number key y ≡ number key x = omega arith in
      true≢false (sym (same_number y x k h both) ∙ differ)

  -- words of two CPUs, or of two counters
  own_rows : (x y : Counter) (i j : ℕ) → HasCounter key x → HasCounter key y → i < j → own_at key y j ≢ own_at key x i
  own_rows x y i j h k less e = let n = number_less x h in let m = number_less y k in
      let row = rows (stride key) i j (number key x) (number key y) (omega arith) (omega arith) less in omega arith

  pub own_apart : (x y : Counter) (i j : ℕ) → HasCounter key x → HasCounter key y → is_same y x ≡ false → own_at key y j ≢ own_at key x i
  own_apart x y i j h k differ = ⊎_elim
      (λ less. own_rows x y i j h k less)
      (λ more e. ⊎_elim
      (λ less. own_rows y x j i k h less (sym e))
      (λ rest. let same : i ≡ j = omega arith in let both : number key y ≡ number key x = grind arith in true≢false (sym (same_number y x k h both) ∙ differ))
      (cases_lt j i))
      (cases_lt i j)

  pub own_other : (x : Counter) (i j : ℕ) → HasCounter key x → j ≢ i → own_at key x j ≢ own_at key x i
  own_other x i j h ne = ⊎_elim
      (λ less. own_rows x x i j h h less)
      (λ more e. ⊎_elim (λ less. own_rows x x j i h h less (sym e)) (λ rest. ne (omega arith)) (cases_lt j i))
      (cases_lt i j)
