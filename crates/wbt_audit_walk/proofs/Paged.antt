-- The pages of a trace, and their contexts.
use Rattle.std.proofs.Common.{◌≡◌, ℕ, zero, suc, ◌+◌, ◌-◌, ◌<◌, ◌≤◌, Bool, true, false, ◌&&◌, nat_lt, nat_le, cond, Some, List, [], ◌∷◌, ◌++◌, length, get_or, drop, replicate, refl, sym, ap, ◌∙◌, subst, arith, slice_get, le-leb}
use Rattle.std.proofs.lemmas.Bool.{lt-ltb, le-ltb}
use Rattle.std.proofs.lemmas.Grind.{common_steps}
use Rattle.std.proofs.lemmas.List.{append-nil, drop_all}
use Rattle.std.proofs.lemmas.List.Sums.{sum_by-cons}
use Rattle.std.proofs.lemmas.Option.{get_or_from_slice_get, slice_get_within}
use Rattle.wbt_trace.specs.Lawful.{AreFirsts}
use Rattle.wbt_trace.specs.Sofar.{pages_in}
use Rattle.wbt_audit_walk.proofs.Common.{Inode}
use Rattle.wbt_journal.specs.Checks.{has_page}
use Rattle.wbt_journal.specs.Machine.{context_among}

abbrev pub none : Inode
none = record { context = 0; first = 0; pages = 0 }

-- the pages up to an inode's last one
pub end_below : (n k : ℕ) (inodes : List Inode) → AreFirsts n inodes → k < length inodes
    → (get_or inodes k none).first + (get_or inodes k none).pages ≤ n + pages_in inodes
end_below n k [] firsts low = absurd (omega arith)
end_below n zero (i ∷ inodes) firsts low =
    let sum : pages_in (i ∷ inodes) ≡ i.pages + pages_in inodes = sum_by-cons (λ (x : Inode). x.pages) i inodes in
    let first = firsts.0 in
    let at : i.first + i.pages ≤ n + pages_in (i ∷ inodes) = omega arith in at
end_below n (suc k) (i ∷ inodes) firsts low =
    let sum : pages_in (i ∷ inodes) ≡ i.pages + pages_in inodes = sum_by-cons (λ (x : Inode). x.pages) i inodes in
    let more = end_below (n + i.pages) k inodes firsts.1 (omega arith) in omega arith

-- the last inode ends with the last page
pub last_end : (n k : ℕ) (inodes : List Inode) → AreFirsts n inodes → k + 1 ≡ length inodes
    → (get_or inodes k none).first + (get_or inodes k none).pages ≡ n + pages_in inodes
last_end n k [] firsts last = absurd (omega arith)
last_end n zero (i ∷ []) firsts last =
    let sum : pages_in (i ∷ []) ≡ i.pages + pages_in [] = sum_by-cons (λ (x : Inode). x.pages) i [] in
    let none_left : pages_in [] ≡ 0 = refl in
    let first = firsts.0 in
    let at : i.first + i.pages ≡ n + pages_in (i ∷ []) = omega arith in at
last_end n zero (i ∷ j ∷ inodes) firsts last = absurd (omega arith)
last_end n (suc k) (i ∷ inodes) firsts last =
    let sum : pages_in (i ∷ inodes) ≡ i.pages + pages_in inodes = sum_by-cons (λ (x : Inode). x.pages) i inodes in
    let more = last_end (n + i.pages) k inodes firsts.1 (omega arith) in omega arith

-- ---- which pages are there

-- whether a page is in an inode or behind it, by a test
both : (a b : Bool) → a ≡ true → (a && b) ≡ b
both a b is = rw is

in_inode : (i : Inode) (inodes : List Inode) (page : ℕ) (b : Bool) → i.first ≤ page → nat_lt page (i.first + i.pages) ≡ b
    → context_among page (i ∷ inodes) ≡ cond b (Some i.context) (context_among page inodes)
in_inode i inodes page b low is =
    ap (λ (t : Bool). cond t (Some i.context) (context_among page inodes)) (both (nat_le i.first page) (nat_lt page (i.first + i.pages)) (le-leb i.first page low) ∙ is)

has_step : (n page : ℕ) (i : Inode) (inodes : List Inode) → i.first ≡ n → n ≤ page
    → (n + i.pages ≤ page → has_page (context_among page inodes) ≡ nat_lt page (n + i.pages + pages_in inodes))
    → (b : Bool) → nat_lt page (i.first + i.pages) ≡ b → has_page (context_among page (i ∷ inodes)) ≡ nat_lt page (n + pages_in (i ∷ inodes))
has_step n page i inodes first low later true is =
    let sum : pages_in (i ∷ inodes) ≡ i.pages + pages_in inodes = sum_by-cons (λ (x : Inode). x.pages) i inodes in
    let inside : page < i.first + i.pages = grind (arith, common_steps, is) in
    ap has_page (in_inode i inodes page true (omega (arith, first)) is) ∙ sym (lt-ltb page (n + pages_in (i ∷ inodes)) (omega (arith, first, sum)))
has_step n page i inodes first low later false is =
    let sum : pages_in (i ∷ inodes) ≡ i.pages + pages_in inodes = sum_by-cons (λ (x : Inode). x.pages) i inodes in
    let past : i.first + i.pages ≤ page = grind (arith, common_steps, is) in
    let same : n + i.pages + pages_in inodes ≡ n + pages_in (i ∷ inodes) = omega (arith, sum) in
    ap has_page (in_inode i inodes page false (omega (arith, first)) is)
    ∙ later (omega (arith, first, past)) ∙ ap (λ (k : ℕ). nat_lt page k) same

pub has_below : (n page : ℕ) (inodes : List Inode) → AreFirsts n inodes → n ≤ page → has_page (context_among page inodes) ≡ nat_lt page (n + pages_in inodes)
has_below n page [] firsts low = sym (le-ltb page (n + 0) (omega arith))
has_below n page (i ∷ inodes) firsts low =
    has_step n page i inodes firsts.0 low (λ past. has_below (n + i.pages) page inodes firsts.1 past) (nat_lt page (i.first + i.pages)) refl

-- ---- the context of each page

abbrev pub contexts_of : (inodes : List Inode) → List ℕ
contexts_of [] = []
contexts_of (i ∷ inodes) = replicate i.pages i.context ++ contexts_of inodes

get_in : (count x : ℕ) (more : List ℕ) (k : ℕ) → k < count → slice_get (replicate count x ++ more) k ≡ Some x
get_in zero x more k low = absurd (omega arith)
get_in (suc count) x more zero low = refl
get_in (suc count) x more (suc k) low = get_in count x more k (omega arith)

get_past : (count x : ℕ) (more : List ℕ) (k : ℕ) → slice_get (replicate count x ++ more) (count + k) ≡ slice_get more k
get_past zero x more k = let e : 0 + k ≡ k = omega arith in ap (slice_get more) e
get_past (suc count) x more k =
    let e : suc count + k ≡ suc (count + k) = omega arith in
    ap (slice_get (replicate (suc count) x ++ more)) e ∙ get_past count x more k

context_step : (n k : ℕ) (i : Inode) (inodes : List Inode) → i.first ≡ n
    → slice_get (contexts_of inodes) (k - i.pages) ≡ context_among (n + i.pages + (k - i.pages)) inodes
    → (b : Bool) → nat_lt (n + k) (i.first + i.pages) ≡ b → slice_get (contexts_of (i ∷ inodes)) k ≡ context_among (n + k) (i ∷ inodes)
context_step n k i inodes first later true is =
    let inside : n + k < i.first + i.pages = grind (arith, common_steps, is) in
    get_in i.pages i.context (contexts_of inodes) k (omega (arith, first)) ∙ sym (in_inode i inodes (n + k) true (omega (arith, first)) is)
context_step n k i inodes first later false is =
    let past : i.first + i.pages ≤ n + k = grind (arith, common_steps, is) in
    let cut : k ≡ i.pages + (k - i.pages) = omega (arith, first) in
    let same : n + i.pages + (k - i.pages) ≡ n + k = omega (arith, first) in
    ap (slice_get (contexts_of (i ∷ inodes))) cut ∙ get_past i.pages i.context (contexts_of inodes) (k - i.pages)
    ∙ later ∙ ap (λ (p : ℕ). context_among p inodes) same
    ∙ sym (in_inode i inodes (n + k) false (omega (arith, first)) is)

pub context_at_page : (n k : ℕ) (inodes : List Inode) → AreFirsts n inodes → slice_get (contexts_of inodes) k ≡ context_among (n + k) inodes
context_at_page n k [] firsts = refl
context_at_page n k (i ∷ inodes) firsts =
    context_step n k i inodes firsts.0 (context_at_page (n + i.pages) (k - i.pages) inodes firsts.1) (nat_lt (n + k) (i.first + i.pages)) refl

-- ---- the last inode

pub last_pages : (inodes now : List Inode) (i : Inode) → now ≡ inodes → Some i ≡ slice_get now (length now - 1) → AreFirsts 0 inodes
    → i.first + i.pages ≡ pages_in inodes
last_pages inodes now i same is firsts =
    let found : slice_get inodes (length inodes - 1) ≡ Some i = ap (λ (l : List Inode). slice_get l (length l - 1)) (sym same) ∙ sym is in
    let low = slice_get_within inodes (length inodes - 1) i found in
    let at : get_or inodes (length inodes - 1) none ≡ i = get_or_from_slice_get inodes (length inodes - 1) i none found in
    let end = last_end 0 (length inodes - 1) inodes firsts (omega arith) in
    let sum : (get_or inodes (length inodes - 1) none).first + (get_or inodes (length inodes - 1) none).pages ≡ pages_in inodes = omega arith in
    subst (λ (x : Inode). x.first + x.pages ≡ pages_in inodes) at sum

pub has_pages : (inodes : List Inode) (page count : ℕ) → AreFirsts 0 inodes → count ≡ pages_in inodes → nat_lt page count ≡ has_page (context_among page inodes)
has_pages inodes page count firsts is =
    let e : count ≡ 0 + pages_in inodes = omega arith in
    ap (λ (k : ℕ). nat_lt page k) e ∙ sym (has_below 0 page inodes firsts (omega arith))

-- ---- the context of each page is told

pub all_contexts : (inodes now : List Inode) (by_page : List ℕ) (i : ℕ) → now ≡ inodes → length now ≤ i → by_page ++ contexts_of (drop i inodes) ≡ contexts_of inodes
    → AreFirsts 0 inodes → (page : ℕ) → slice_get by_page page ≡ context_among page inodes
all_contexts inodes now by_page i same past are firsts page =
    let end : length inodes ≤ i = omega (arith, ap length same) in
    let whole : by_page ≡ contexts_of inodes
    = sym (append-nil by_page) ∙ ap (λ (l : List Inode). by_page ++ contexts_of l) (sym (drop_all i inodes end)) ∙ are in
    let zero_plus : 0 + page ≡ page = omega arith in
    ap (λ (l : List ℕ). slice_get l page) whole ∙ context_at_page 0 page inodes firsts ∙ ap (λ (p : ℕ). context_among p inodes) zero_plus
