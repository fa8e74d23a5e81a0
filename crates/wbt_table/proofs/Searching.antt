-- The inode of a page, between two numbers of inodes.
use Rattle.std.proofs.Common.{◌≡◌, ℕ, zero, suc, ◌+◌, ◌<◌, ◌≤◌, nat_lt, List, [], ◌∷◌, length, get_or, arith, ⊎_elim}
use Rattle.std.proofs.lemmas.Bool.{cond-true, cond-false, cases_lt}
use borrow.Author.Tests.{lt-ltb, le-ltb}
use Rattle.wbt_table.specs.declared.layout.Place.{Place}
use Rattle.wbt_table.proofs.Common.{pages_in, inode_at}
use Rattle.wbt_table.specs.Layout.{AreInOrder}

-- where an inode ends
abbrev pub end_of : (inodes : List Place) (m : ℕ) (d : Place) → ℕ
end_of inodes m d = (get_or inodes m d).first + (get_or inodes m d).pages

end_after : (inodes : List Place) (from m : ℕ) (d : Place) → AreInOrder from inodes → m < length inodes → from ≤ end_of inodes m d
end_after [] from m d order l = absurd (omega arith)
end_after (x ∷ xs) from zero d order l = let is = order.0 in omega arith
end_after (x ∷ xs) from (suc m) d order l = let rest = end_after xs (from + x.pages) m d order.1 (omega arith) in omega arith

pub end_before : (inodes : List Place) (from m : ℕ) (d : Place) → AreInOrder from inodes → m < length inodes → end_of inodes m d ≤ from + pages_in inodes
end_before [] from m d order l = absurd (omega arith)
end_before (x ∷ xs) from zero d order l = let is = order.0 in omega arith
end_before (x ∷ xs) from (suc m) d order l = let rest = end_before xs (from + x.pages) m d order.1 (omega arith) in omega arith

here : (x : Place) (xs : List Place) (p : ℕ) → p < x.first + x.pages → inode_at p (x ∷ xs) ≡ 0
here x xs p l = cond-true (nat_lt p (x.first + x.pages)) 0 (suc (inode_at p xs)) (lt-ltb p (x.first + x.pages) l)

later : (x : Place) (xs : List Place) (p : ℕ) → x.first + x.pages ≤ p → inode_at p (x ∷ xs) ≡ suc (inode_at p xs)
later x xs p l = cond-false (nat_lt p (x.first + x.pages)) 0 (suc (inode_at p xs)) (le-ltb p (x.first + x.pages) l)

pub not_after : (inodes : List Place) (from p m : ℕ) (d : Place) → AreInOrder from inodes → m < length inodes → p < end_of inodes m d → inode_at p inodes ≤ m
not_after [] from p m d order l less = absurd (omega arith)
not_after (x ∷ xs) from p zero d order l less = let e = here x xs p less in omega arith
not_after (x ∷ xs) from p (suc m) d order l less = ⊎_elim
    (λ t. let e = here x xs p t in omega arith)
    (λ t. let e = later x xs p t in let rest = not_after xs (from + x.pages) p m d order.1 (omega arith) less in omega arith)
    (cases_lt p (x.first + x.pages))

pub after_it : (inodes : List Place) (from p m : ℕ) (d : Place) → AreInOrder from inodes → m < length inodes → end_of inodes m d ≤ p → suc m ≤ inode_at p inodes
after_it [] from p m d order l more = absurd (omega arith)
after_it (x ∷ xs) from p zero d order l more = let e = later x xs p more in omega arith
after_it (x ∷ xs) from p (suc m) d order l more = let is = order.0 in
    let far = end_after xs (from + x.pages) m d order.1 (omega arith) in
    let e = later x xs p (omega arith) in
    let rest = after_it xs (from + x.pages) p m d order.1 (omega arith) more in omega arith

pub is_inside : (inodes : List Place) (from p : ℕ) → AreInOrder from inodes → from ≤ p → p < from + pages_in inodes → inode_at p inodes < length inodes
is_inside [] from p order low high = absurd (omega arith)
is_inside (x ∷ xs) from p order low high = let is = order.0 in ⊎_elim
    (λ t. let e = here x xs p t in omega arith)
    (λ t. let e = later x xs p t in let rest = is_inside xs (from + x.pages) p order.1 (omega arith) (omega arith) in omega arith)
    (cases_lt p (x.first + x.pages))

-- the inode is between these, which come nearer each time
pub record Between (inodes : List Place) (p low high i : ℕ) : Type 0 where
  pub not_below : low ≤ inode_at p inodes
  pub not_above : inode_at p inodes ≤ high
  pub inside : high < length inodes
  pub near : high + i < low + length inodes
