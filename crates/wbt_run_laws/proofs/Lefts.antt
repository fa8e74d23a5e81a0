-- The pages that are left, by the book of the closed table.
use Rattle.std.proofs.Common.{◌≡◌, ◌≢◌, ℕ, zero, suc, ◌+◌, ◌<◌, ◌≤◌, Bool, true, false, ◌&&◌, cond, eqb, List, [], ◌∷◌, sum_by, count_by, sym, refl, ap, ◌∙◌, subst, arith, eq-eqb, ne_eqb, ⊎_elim}
use Rattle.std.proofs.lemmas.Bool.{cond_both, cond-true, cond-false, cases_Bool, eqb-true, eqb-false}
use Rattle.std.proofs.lemmas.List.Sums.{sum_by-cons}
use Rattle.wbt_book.specs.Book.{Bits, Book, clean, page_word, bits_in}
use Rattle.wbt_book.proofs.Ledgers.{at_most_one}
use Rattle.wbt_run_laws.proofs.Common.{words_follow, total, one_if, total_same, Each, pages, left_from}
use Rattle.wbt_counter.proofs.Sums.{total_change, total_nothing}
use Rattle.wbt_journal.specs.Checks.{has_page}
use Rattle.wbt_journal.specs.Leaves.{LeftFrom, is_page, left_dirty, left_writeback}
use Rattle.wbt_journal.specs.declared.journal.Left.{Left}
use Rattle.wbt_run_laws.specs.Laws.{WorkedLeftIsInOrder, WorkedLeftPagesAreThere}
use Rattle.wbt_run_laws.proofs.Parts.{total_front}

pub eqb_turned : (a b : ℕ) → eqb a b ≡ eqb b a
eqb_turned a b = ⊎_elim
    (λ t. t ∙ sym (eq-eqb b a (sym (eqb-true a b t))))
    (λ f. f ∙ sym (ne_eqb b a (λ e. eqb-false a b f (sym e))))
    (cases_Bool (eqb a b))

-- ---- in order

lower : (p q : ℕ) (lefts : List Left) → q ≤ p → LeftFrom p lefts → LeftFrom q lefts
lower p q [] less from = tt
lower p q (left ∷ more) less from = let low = from.0 in (omega arith, from.1, from.2, from.3)

small_word : (bits : Bits) → page_word bits ≤ 3
small_word bits = let a = at_most_one bits.dirty in let b = at_most_one bits.writeback in omega arith

left_in_order : (book : Book) (p n : ℕ) → LeftFrom p (left_from book p n)
left_in_order book p zero = tt
left_in_order book p (suc n) =
    let rest = left_in_order book (suc p) n in
    let word = page_word (book p) in
    let left : Left = record { page = p; word = word } in
    cond_both (eqb word 0) (left_from book (suc p) n) (left ∷ left_from book (suc p) n) (λ (l : List Left). LeftFrom p l)
    (λ t. lower (suc p) p (left_from book (suc p) n) (omega arith) rest)
    (λ f. (omega arith, (let other = eqb-false word 0 f in let some : word ≢ 0 = other in omega arith), small_word (book p), lower (suc p) (p + 1) (left_from book (suc p) n) (omega arith) rest))

pub left_is_in_order : WorkedLeftIsInOrder
left_is_in_order trace j r w = subst (LeftFrom 0) (sym w.closed.left_is) (left_in_order r.closed.book 0 (pages trace))

-- ---- pages that there are

each_left : (P : Left → Type 0) (book : Book) (p n : ℕ) → ((q word : ℕ) → p ≤ q → q < p + n → P (record { page = q; word = word })) → Each P (left_from book p n)
each_left P book p zero all = tt
each_left P book p (suc n) all =
    let word = page_word (book p) in
    let rest = each_left P book (suc p) n (λ q v low high. all q v (omega arith) (omega arith)) in
    cond_both (eqb word 0) (left_from book (suc p) n) (record { page = p; word = word } ∷ left_from book (suc p) n) (λ (l : List Left). Each P l)
    (λ t. rest) (λ f. (all p word (omega arith) (omega arith), rest))

pub left_pages_there : WorkedLeftPagesAreThere
left_pages_there trace j r w = subst (Each (λ (left : Left). is_page trace left ≡ true)) (sym w.closed.left_is)
    (each_left (λ (left : Left). is_page trace left ≡ true) r.closed.book 0 (pages trace) (λ q word low high. ap has_page (w.throttle.homes q (omega arith))))

-- ---- sums over what is left

-- what the pages that are left weigh, page by page, where a word of 0 weighs nothing
pub left_sum : (w : Left → ℕ) (book : Book) (p n : ℕ) → ((q : ℕ) → w (record { page = q; word = 0 }) ≡ 0)
    → sum_by w (left_from book p n) ≡ total n (λ i. w (record { page = p + i; word = page_word (book (p + i)) }))
left_sum w book p zero none = refl
left_sum w book p (suc n) none =
    let word = page_word (book p) in
    let left : Left = record { page = p; word = word } in
    let at = λ (k : ℕ). w (record { page = k; word = page_word (book k) }) in
    let rest = left_sum w book (suc p) n none in
    let front = total_front n (λ i. at (p + i)) in
    let first : at (p + 0) ≡ w left = ap at (omega arith) in
    let later = total_same n (λ i. at (suc p + i)) (λ i. at (p + suc i)) (λ i less. ap at (omega arith)) in
    let here : sum_by w (left_from book p (suc n)) ≡ w left + sum_by w (left_from book (suc p) n) =
    cond_both (eqb word 0) (left_from book (suc p) n) (left ∷ left_from book (suc p) n) (λ (l : List Left). sum_by w l ≡ w left + sum_by w (left_from book (suc p) n))
    (λ t. let nothing : w left ≡ 0 = ap (λ (v : ℕ). w (record { page = p; word = v })) (eqb-true word 0 t) ∙ none p in omega arith)
    (λ f. sum_by-cons w left (left_from book (suc p) n)) in
    omega arith

total_one : (n q : ℕ) (f : ℕ → ℕ) → q < n → total n (λ i. cond (eqb i q) (f i) 0) ≡ f q
total_one n q f less =
    let change = total_change n (λ i. cond (eqb i q) (f i) 0) (λ i. 0) q less (λ k other. cond-false (eqb k q) (f k) 0 (ne_eqb k q other)) in
    let none = total_nothing n (λ i. 0) (λ k. refl) in
    let here : cond (eqb q q) (f q) 0 ≡ f q = cond-true (eqb q q) (f q) 0 (eq-eqb q q refl) in omega arith

and_none : (a b : Bool) → b ≡ false → one_if (a && b) ≡ 0
and_none true b is = ap one_if is
and_none false b is = refl

and_if : (a b : Bool) → one_if (a && b) ≡ cond a (one_if b) 0
and_if true b = refl
and_if false b = refl

-- how often a page is left with a bit
left_with : (bit : Bits → Bool) → bit clean ≡ false → (book : Book) (n q : ℕ) → q < n → count_by (λ (l : Left). eqb l.page q && bit (bits_in l.word)) (left_from book 0 n) ≡ one_if (bit (book q))
left_with bit off book n q less =
    let w : Left → ℕ = λ l. cond (eqb l.page q && bit (bits_in l.word)) 1 0 in
    left_sum w book 0 n (λ p. and_none (eqb p q) (bit (bits_in 0)) off)
    ∙ total_same n (λ i. w (record { page = 0 + i; word = page_word (book (0 + i)) })) (λ i. cond (eqb i q) (one_if (bit (book i))) 0)
    (λ i l. ap (λ (k : ℕ). w (record { page = k; word = page_word (book k) })) (let e : 0 + i ≡ i = omega arith in e)
    ∙ ap (λ (b : Bits). one_if (eqb i q && bit b)) (words_follow (book i)).holds ∙ and_if (eqb i q) (bit (book i)))
    ∙ total_one n q (λ i. one_if (bit (book i))) less

pub left_dirty_is : (book : Book) (n q : ℕ) → q < n → left_dirty q (left_from book 0 n) ≡ one_if (book q).dirty
left_dirty_is book n q less = left_with (λ bits. bits.dirty) refl book n q less

pub left_writeback_is : (book : Book) (n q : ℕ) → q < n → left_writeback q (left_from book 0 n) ≡ one_if (book q).writeback
left_writeback_is book n q less = left_with (λ bits. bits.writeback) refl book n q less
