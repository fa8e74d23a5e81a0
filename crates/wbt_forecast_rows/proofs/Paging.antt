-- The context of a page, by a search of the inodes.
use Rattle.std.proofs.Common.{◌≡◌, ℕ, zero, suc, ◌+◌, ◌<◌, ◌≤◌, Bool, true, false, ◌&&◌, nat_lt, nat_le, cond, Some, None, List, [], ◌∷◌, length, get_or, slice_get, refl, sym, ap, ◌∙◌, arith, le-leb}
use Rattle.std.specs.Option.{option_map}
use Rattle.std.specs.List.Sorted.{IsPartitionedBy, IsPartitionPoint}
use Rattle.std.proofs.lemmas.Bool.Decides.{nat_tests}
use Rattle.std.proofs.lemmas.Grind.{common_steps}
use Rattle.std.proofs.lemmas.Option.{slice_get_past, slice_get_read}
use Rattle.wbt_replay_order.proofs.Common.{AreFirsts, Inode, context_among}

-- all pages of the inode are before this one
abbrev pub ends_by : (page : ℕ) (inode : Inode) → Bool
ends_by page inode = nat_le (inode.first + inode.pages) page

-- ---- inodes end one after another

end_above : (n : ℕ) (inodes : List Inode) (k : ℕ) (d : Inode) → AreFirsts n inodes → k < length inodes
    → n ≤ (get_or inodes k d).first + (get_or inodes k d).pages
end_above n [] k d firsts less = absurd (omega arith)
end_above n (i ∷ inodes) zero d firsts less = omega (arith, firsts.0)
end_above n (i ∷ inodes) (suc k) d firsts less =
    let rest = end_above (n + i.pages) inodes k d firsts.1 (omega arith) in omega (arith, rest)

ends_rise : (n : ℕ) (inodes : List Inode) (k j : ℕ) (d : Inode) → AreFirsts n inodes → k ≤ j → j < length inodes
    → (get_or inodes k d).first + (get_or inodes k d).pages ≤ (get_or inodes j d).first + (get_or inodes j d).pages
ends_rise n [] k j d firsts low less = absurd (omega arith)
ends_rise n (i ∷ inodes) zero zero d firsts low less = omega arith
ends_rise n (i ∷ inodes) zero (suc j) d firsts low less =
    let rest = end_above (n + i.pages) inodes j d firsts.1 (omega arith) in omega (arith, rest, firsts.0)
ends_rise n (i ∷ inodes) (suc k) zero d firsts low less = absurd (omega arith)
ends_rise n (i ∷ inodes) (suc k) (suc j) d firsts low less = ends_rise (n + i.pages) inodes k j d firsts.1 (omega arith) (omega arith)

both_by : (a b page : ℕ) → a ≤ b → nat_le b page ≡ true → nat_le a page ≡ true
both_by a b page low is = grind (arith, nat_tests)

pub are_parted : (page : ℕ) (inodes : List Inode) → AreFirsts 0 inodes → IsPartitionedBy (ends_by page) inodes
are_parted page inodes firsts = λ i j d low less is.
    both_by ((get_or inodes i d).first + (get_or inodes i d).pages) ((get_or inodes j d).first + (get_or inodes j d).pages) page
    (ends_rise 0 inodes i j d firsts low less) is

-- ---- the first inode that doesn't end by a page has it

in_first : (page : ℕ) (i : Inode) (inodes : List Inode) → i.first ≤ page → ends_by page i ≡ false → context_among page (i ∷ inodes) ≡ Some i.context
in_first page i inodes low is =
    let above : nat_lt page (i.first + i.pages) ≡ true = grind (arith, nat_tests) in
    ap (λ (b : Bool). cond (b && nat_lt page (i.first + i.pages)) (Some i.context) (context_among page inodes)) (le-leb i.first page low)
    ∙ ap (λ (b : Bool). cond b (Some i.context) (context_among page inodes)) above

not_among : (page : ℕ) (i : Inode) (inodes : List Inode) → i.first ≤ page → ends_by page i ≡ true → context_among page (i ∷ inodes) ≡ context_among page inodes
not_among page i inodes low is =
    let past : nat_lt page (i.first + i.pages) ≡ false = grind (arith, nat_tests) in
    ap (λ (b : Bool). cond (b && nat_lt page (i.first + i.pages)) (Some i.context) (context_among page inodes)) (le-leb i.first page low)
    ∙ ap (λ (b : Bool). cond b (Some i.context) (context_among page inodes)) past

end_of : (page : ℕ) (i : Inode) → ends_by page i ≡ true → i.first + i.pages ≤ page
end_of page i is = grind (arith, nat_tests)

pub context_at : (page n : ℕ) (inodes : List Inode) (k : ℕ) (d : Inode) → AreFirsts n inodes → n ≤ page
    → ((j : ℕ) → j < k → ends_by page (get_or inodes j d) ≡ true) → (k < length inodes → ends_by page (get_or inodes k d) ≡ false)
    → context_among page inodes ≡ option_map (λ (i : Inode). i.context) (slice_get inodes k)
context_at page n [] k d firsts low before at = refl
context_at page n (i ∷ inodes) zero d firsts low before at = in_first page i inodes (omega (arith, firsts.0, low)) (at (omega arith))
context_at page n (i ∷ inodes) (suc k) d firsts low before at =
    let past : i.first + i.pages ≤ page = end_of page i (before 0 (omega arith)) in
    not_among page i inodes (omega (arith, firsts.0, low)) (before 0 (omega arith))
    ∙ context_at page (n + i.pages) inodes k d firsts.1 (omega (arith, firsts.0, past))
    (λ j less. before (suc j) (omega (arith, less))) (λ less. at (omega (arith, less)))

pub context_by : (page : ℕ) (inodes : List Inode) (k : ℕ) → AreFirsts 0 inodes
    → IsPartitionPoint (λ i. ends_by page i ≡ true) (λ i. ends_by page i ≡ false) inodes k
    → context_among page inodes ≡ option_map (λ (i : Inode). i.context) (slice_get inodes k)
context_by page inodes k firsts point =
    let none : Inode = record { context = 0; first = 0; pages = 0 } in
    context_at page 0 inodes k none firsts (omega arith) (λ j less. point.0 j none (omega arith) less) (λ less. point.1 k none (omega arith) less)

-- the inode that the search has found, or that it has found none
pub found_some : (page : ℕ) (inodes : List Inode) (k : ℕ) (item : Inode) → AreFirsts 0 inodes
    → IsPartitionPoint (λ i. ends_by page i ≡ true) (λ i. ends_by page i ≡ false) inodes k → true ≡ nat_lt k (length inodes) → item ≡ get_or inodes k item
    → Some item.context ≡ context_among page inodes
found_some page inodes k item firsts point test is =
    let less : k < length inodes = grind (arith, common_steps, test) in
    sym (context_by page inodes k firsts point
    ∙ ap (option_map (λ (i : Inode). i.context)) (slice_get_read inodes (length inodes) k item refl less is))

pub found_none : (page : ℕ) (inodes : List Inode) (k : ℕ) → AreFirsts 0 inodes
    → IsPartitionPoint (λ i. ends_by page i ≡ true) (λ i. ends_by page i ≡ false) inodes k → false ≡ nat_lt k (length inodes)
    → None ≡ context_among page inodes
found_none page inodes k firsts point test =
    let past : length inodes ≤ k = grind (arith, common_steps, test) in
    sym (context_by page inodes k firsts point ∙ ap (option_map (λ (i : Inode). i.context)) (slice_get_past inodes k past))
