-- The pages that are left, one after another.
use Rattle.std.proofs.Common.{◌≡◌, ℕ, zero, suc, ◌+◌, ◌-◌, ◌<◌, true, false, cond, eqb, List, [], ◌∷◌, ◌++◌, sym, ◌∙◌, ap, arith, append_assoc}
use Rattle.wbt_replay_order.proofs.Common.{Book, page_word, Left, left_from}

left_more : (n m page : ℕ) (book : Book) → n ≡ m + 1
    → left_from n page book ≡ cond (eqb (page_word (book page)) 0) (left_from m (page + 1) book) ((record { page = page; word = page_word (book page) }) ∷ left_from m (page + 1) book)
left_more zero m page book is = absurd (omega (arith, is))
left_more (suc n) m page book is =
    let same : n ≡ m = omega (arith, is) in
    ap (λ k. cond (eqb (page_word (book page)) 0) (left_from k (page + 1) book) ((record { page = page; word = page_word (book page) }) ∷ left_from k (page + 1) book)) same

-- a walk over so many pages, which has come to one of them and has found its word
module _ (pages page word : ℕ) (book : Book) (before whole : List Left) (less : page < pages) (is : word ≡ page_word (book page)) where
  left_here : left_from (pages - page) page book
      ≡ cond (eqb word 0) (left_from (pages - (page + 1)) (page + 1) book) ((record { page = page; word = word }) ∷ left_from (pages - (page + 1)) (page + 1) book)
  left_here =
      let rest = left_from (pages - (page + 1)) (page + 1) book in
      left_more (pages - page) (pages - (page + 1)) page book (omega (arith, less)) ∙ ap (λ (k : ℕ). cond (eqb k 0) rest ((record { page = page; word = k }) ∷ rest)) (sym is)

  -- a page whose word is 0 isn't left
  pub passed : eqb word 0 ≡ true → before ++ left_from (pages - page) page book ≡ whole → before ++ left_from (pages - (page + 1)) (page + 1) book ≡ whole
  passed none so_far =
      let rest = left_from (pages - (page + 1)) (page + 1) book in
      ap (λ (l : List Left). before ++ l) (sym (left_here ∙ ap (λ b. cond b rest ((record { page = page; word = word }) ∷ rest)) none)) ∙ so_far

  -- and any other is
  pub pushed : eqb word 0 ≡ false → before ++ left_from (pages - page) page book ≡ whole
      → (before ++ (record { page = page; word = word }) ∷ []) ++ left_from (pages - (page + 1)) (page + 1) book ≡ whole
  pushed some so_far =
      let rest = left_from (pages - (page + 1)) (page + 1) book in
      append_assoc before ((record { page = page; word = word }) ∷ []) rest
      ∙ ap (λ (l : List Left). before ++ l) (sym (left_here ∙ ap (λ b. cond b rest ((record { page = page; word = word }) ∷ rest)) some)) ∙ so_far
