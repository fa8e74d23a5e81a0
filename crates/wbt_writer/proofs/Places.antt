-- The pages of an inode: there are such, and they are in its context.
use Rattle.std.proofs.Common.{◌≡◌, ℕ, zero, suc, ◌+◌, ◌<◌, ◌≤◌, Bool, true, false, ◌&&◌, List, [], ◌∷◌, length, map, get_or, Some, refl, ap, ◌∙◌, arith, nat_lt, nat_le, le-leb}
use Rattle.std.proofs.lemmas.Bool.{cond-true, cond-false, lt-ltb, le-ltb}
use Rattle.std.proofs.lemmas.List.Sums.{sum_by-cons}
use Rattle.wbt_writer.proofs.Common.{IsLawful, inode_at, Inode, Trace, MOST_PAGES, HasPage, first_page}
use Rattle.wbt_kit.proofs.Common.{place_of, Place, page_context, pages, AreFirsts}
use Rattle.wbt_table.specs.Layout.{inode_at as place_at}
use Rattle.wbt_journal.specs.Machine.{context_among}
use Rattle.wbt_trace.specs.Sofar.{pages_in}

abbrev none : Inode
none = record { context = 0; first = 0; pages = 0 }

firsts_from : (n k : ℕ) (inodes : List Inode) → AreFirsts n inodes → k < length inodes → n ≤ (get_or inodes k none).first
firsts_from n k [] firsts low = absurd (omega arith)
firsts_from n zero (i ∷ inodes) firsts low = omega (arith, firsts.0)
firsts_from n (suc k) (i ∷ inodes) firsts low = let rest = firsts_from (n + i.pages) k inodes firsts.1 (omega arith) in omega arith

ends_by : (n k : ℕ) (inodes : List Inode) → AreFirsts n inodes → k < length inodes → (get_or inodes k none).first + (get_or inodes k none).pages ≤ n + pages_in inodes
ends_by n k [] firsts low = absurd (omega arith)
ends_by n zero (i ∷ inodes) firsts low =
    let sum : pages_in (i ∷ inodes) ≡ i.pages + pages_in inodes = sum_by-cons (λ (x : Inode). x.pages) i inodes in
    let first = firsts.0 in
    let at : i.first + i.pages ≤ n + pages_in (i ∷ inodes) = omega arith in at
ends_by n (suc k) (i ∷ inodes) firsts low =
    let sum : pages_in (i ∷ inodes) ≡ i.pages + pages_in inodes = sum_by-cons (λ (x : Inode). x.pages) i inodes in
    let rest = ends_by (n + i.pages) k inodes firsts.1 (omega arith) in omega arith

found : (n k page : ℕ) (inodes : List Inode) → AreFirsts n inodes → k < length inodes → (get_or inodes k none).first ≤ page → page < (get_or inodes k none).first + (get_or inodes k none).pages
    → context_among page inodes ≡ Some (get_or inodes k none).context
found n k page [] firsts low from to = absurd (omega arith)
found n zero page (i ∷ inodes) firsts low from to =
    cond-true (nat_le i.first page && nat_lt page (i.first + i.pages)) (Some i.context) (context_among page inodes) (both (nat_le i.first page) (nat_lt page (i.first + i.pages)) (le-leb i.first page from) (lt-ltb page (i.first + i.pages) to))
  where
    both : (a b : Bool) → a ≡ true → b ≡ true → (a && b) ≡ true
    both a b p q = ap (λ (x : Bool). x && b) p ∙ q
found n (suc k) page (i ∷ inodes) firsts low from to =
    let later = firsts_from (n + i.pages) k inodes firsts.1 (omega arith) in
    let first = firsts.0 in
    cond-false (nat_le i.first page && nat_lt page (i.first + i.pages)) (Some i.context) (context_among page inodes) (neither (nat_le i.first page) (nat_lt page (i.first + i.pages)) (le-ltb page (i.first + i.pages) (omega arith)))
    ∙ found (n + i.pages) k page inodes firsts.1 (omega arith) from to
  where
    neither : (a b : Bool) → b ≡ false → (a && b) ≡ false
    neither true b q = q
    neither false b q = refl

found_place : (n k page : ℕ) (inodes : List Inode) → AreFirsts n inodes → k < length inodes → (get_or inodes k none).first ≤ page → page < (get_or inodes k none).first + (get_or inodes k none).pages
    → place_at page (map place_of inodes) ≡ k
found_place n k page [] firsts low from to = absurd (omega arith)
found_place n zero page (i ∷ inodes) firsts low from to =
    cond-true (nat_lt page (i.first + i.pages)) 0 (suc (place_at page (map place_of inodes))) (lt-ltb page (i.first + i.pages) to)
found_place n (suc k) page (i ∷ inodes) firsts low from to =
    let later = firsts_from (n + i.pages) k inodes firsts.1 (omega arith) in
    let first = firsts.0 in
    cond-false (nat_lt page (i.first + i.pages)) 0 (suc (place_at page (map place_of inodes))) (le-ltb page (i.first + i.pages) (omega arith))
    ∙ ap (λ (m : ℕ). suc m) (found_place (n + i.pages) k page inodes firsts.1 (omega arith) from to)

module _ (trace : Trace) (lawful : IsLawful trace) (inode page : ℕ) (has : HasPage trace inode page) where
  pub page_there : first_page trace inode + page < pages trace
  page_there = let ends = ends_by 0 inode trace.inodes lawful.within.inodes.firsts has.inode_is in let low = has.page_is in omega arith

  pub page_few : first_page trace inode + page < MOST_PAGES
  page_few = let low = page_there in let all = lawful.within.inodes.total in omega arith

  pub page_context_is : page_context trace (first_page trace inode + page) ≡ Some (inode_at inode trace.inodes).context
  page_context_is = let low = has.page_is in found 0 inode (first_page trace inode + page) trace.inodes lawful.within.inodes.firsts has.inode_is (omega arith) (omega arith)

  pub page_inode_is : (places : List Place) → places ≡ map place_of trace.inodes → place_at (first_page trace inode + page) places ≡ inode
  page_inode_is places are = let low = has.page_is in
      ap (place_at (first_page trace inode + page)) are ∙ found_place 0 inode (first_page trace inode + page) trace.inodes lawful.within.inodes.firsts has.inode_is (omega arith) (omega arith)
