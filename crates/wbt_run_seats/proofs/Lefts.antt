-- What is left, by the words of a closed throttle.
use Rattle.std.proofs.Common.{◌≡◌, ℕ, zero, suc, ◌+◌, ◌-◌, ◌<◌, ◌≤◌, Bool, true, false, cond, eqb, List, [], ◌∷◌, ◌++◌, refl, sym, ap, ◌∙◌, arith, append_assoc}
use Rattle.wbt_book.specs.Book.{Book, page_word}
use Rattle.wbt_kit.proofs.Common.{Left, pages}
use Rattle.wbt_run_laws.specs.Throttle.{left_from, with_left}
use Rattle.wbt_run_seats.specs.Left.{book_of, ClosesRun}

-- books that are the same page by page leave the same
pub left_same : (book other : Book) (page count : ℕ) → ((p : ℕ) → page ≤ p → p < page + count → book p ≡ other p) → left_from book page count ≡ left_from other page count
left_same book other page zero same = refl
left_same book other page (suc count) same =
    ap (λ (b : _). with_left page (page_word b) (left_from book (suc page) count)) (same page (omega arith) (omega arith))
    ∙ ap (λ (l : List Left). with_left page (page_word (other page)) l) (left_same book other (suc page) count (λ p low high. same p (omega arith) (omega arith)))

pub closes_run : ClosesRun
closes_run trace seats census records held left closes of has timer is = record {
  cpus_are = λ cpu less. closes.records.cpus cpu (records cpu) (has cpu less);
  timer_is = closes.records.timer held timer;
  holds = closes.holds;
  left_is = is ∙ left_same (book_of census) closes.state.book 0 (pages trace) (λ p low high. closes.pages p (omega (arith, of.pages_are)));
}

-- ---- page by page

-- a page that is left
pub found_one : (book : Book) (left : List Left) (page count word : ℕ) → page < count → word ≡ page_word (book page) → eqb word 0 ≡ false
    → (left ++ record { page = page; word = word } ∷ []) ++ left_from book (page + 1) (count - (page + 1)) ≡ left ++ left_from book page (count - page)
found_one book left page count word less is some =
    let next : page + 1 ≡ suc page = omega arith in
    let rest : count - page ≡ suc (count - suc page) = omega arith in
    ap (λ (k : ℕ). (left ++ record { page = page; word = word } ∷ []) ++ left_from book k (count - k)) next
    ∙ append_assoc left (record { page = page; word = word } ∷ []) (left_from book (suc page) (count - suc page))
    ∙ ap (λ (l : List Left). left ++ l) (ap (λ (b : Bool). cond b (left_from book (suc page) (count - suc page)) (record { page = page; word = word } ∷ left_from book (suc page) (count - suc page))) (sym some)
    ∙ ap (λ (w : ℕ). with_left page w (left_from book (suc page) (count - suc page))) is
    ∙ ap (λ (k : ℕ). left_from book page k) (sym rest))

-- one that isn't
pub found_none : (book : Book) (left : List Left) (page count word : ℕ) → page < count → word ≡ page_word (book page) → eqb word 0 ≡ true
    → left ++ left_from book (page + 1) (count - (page + 1)) ≡ left ++ left_from book page (count - page)
found_none book left page count word less is none =
    let next : page + 1 ≡ suc page = omega arith in
    let rest : count - page ≡ suc (count - suc page) = omega arith in
    ap (λ (k : ℕ). left ++ left_from book k (count - k)) next
    ∙ ap (λ (l : List Left). left ++ l) (ap (λ (b : Bool). cond b (left_from book (suc page) (count - suc page)) (record { page = page; word = word } ∷ left_from book (suc page) (count - suc page))) (sym none)
    ∙ ap (λ (w : ℕ). with_left page w (left_from book (suc page) (count - suc page))) is
    ∙ ap (λ (k : ℕ). left_from book page k) (sym rest))
