-- Where the pages of the inodes are.
use Rattle.std.proofs.Common.{◌≡◌, ℕ, zero, suc, ◌+◌, ◌<◌, ◌≤◌, ltb, List, [], ◌∷◌, length, get_or, arith}
use Rattle.std.proofs.lemmas.Bool.Decides.{nat_tests}
use Rattle.std.proofs.lemmas.List.Sums.{sum_by-cons}
use Rattle.wbt_replay_order.proofs.Common.{AreFirsts, pages_in, Inode}
use Rattle.wbt_replay_order.specs.Claims.Setting.{inode_from}
use Rattle.wbt_replay_order.proofs.Facts.Lists.{either}

abbrev pub no_inode : Inode
no_inode = record { context = 0; first = 0; pages = 0 }

-- each inode's pages are among those of all, from a first page on
after_firsts : (n : ℕ) (is : List Inode) → AreFirsts n is → (k : ℕ) → k < length is → n ≤ (get_or is k no_inode).first
after_firsts n [] firsts k less = absurd (omega arith)
after_firsts n (i ∷ is) firsts zero less = omega (arith, firsts.0)
after_firsts n (i ∷ is) firsts (suc k) less = omega (arith, after_firsts (n + i.pages) is firsts.1 k (omega arith))

pub before_ends : (n : ℕ) (is : List Inode) → AreFirsts n is → (k : ℕ) → k < length is → (get_or is k no_inode).first + (get_or is k no_inode).pages ≤ n + pages_in is
before_ends n [] firsts k less = absurd (omega arith)
before_ends n (i ∷ is) firsts zero less = omega (arith, firsts.0, sum_by-cons (λ (x : Inode). x.pages) i is)
before_ends n (i ∷ is) firsts (suc k) less =
    omega (arith, before_ends (n + i.pages) is firsts.1 k (omega arith), sum_by-cons (λ (x : Inode). x.pages) i is)

-- a page is found in the inode whose page it is
pub found_in : (n number page : ℕ) (is : List Inode) → AreFirsts n is → (k : ℕ) → k < length is → (get_or is k no_inode).first ≤ page
    → page < (get_or is k no_inode).first + (get_or is k no_inode).pages → inode_from page number is ≡ number + k
found_in n number page [] firsts k less low high = absurd (omega arith)
found_in n number page (i ∷ is) firsts zero less low high =
    either (λ x. x ≡ number + 0) (ltb page (i.first + i.pages)) number (inode_from page (number + 1) is) (λ yes. omega arith)
    (λ no. absurd (let above : i.first + i.pages ≤ page = grind (arith, nat_tests) in omega (arith, above, high)))
found_in n number page (i ∷ is) firsts (suc k) less low high =
    let above = after_firsts (n + i.pages) is firsts.1 k (omega arith) in
    let rest = found_in (n + i.pages) (number + 1) page is firsts.1 k (omega arith) low high in
    either (λ x. x ≡ number + suc k) (ltb page (i.first + i.pages)) number (inode_from page (number + 1) is)
    (λ yes. absurd (let below : page < i.first + i.pages = grind (arith, nat_tests) in omega (arith, below, above, low, firsts.0))) (λ no. omega (arith, rest))

-- a page is found in one of the inodes
pub found_there : (n number page : ℕ) (is : List Inode) → AreFirsts n is → n ≤ page → page < n + pages_in is → inode_from page number is < number + length is
found_there n number page [] firsts low high = absurd (omega arith)
found_there n number page (i ∷ is) firsts low high =
    either (λ x. x < number + length (i ∷ is)) (ltb page (i.first + i.pages)) number (inode_from page (number + 1) is) (λ yes. omega arith)
    (λ no.
    let above : i.first + i.pages ≤ page = grind (arith, nat_tests) in
    let rest = found_there (n + i.pages) (number + 1) page is firsts.1 (omega (arith, above, firsts.0)) (omega (arith, high, sum_by-cons (λ (x : Inode). x.pages) i is)) in
    omega (arith, rest))
