-- Numbers with spaces between them.
use Rattle.std.proofs.Common.{◌≡◌, ℕ, List, [], ◌∷◌, ◌++◌, refl, sym, ◌∙◌, ap, subst, arith, decimal}
use Rattle.std.proofs.lemmas.Fmt.{decimal_injective}
use Rattle.wbt_text.specs.Cut.{Without, IsDigit}
use Rattle.wbt_text.specs.Numbers.{IsShort, AllShort, AreNumbers, spaced}
use Rattle.wbt_text.proofs.Cuts.{cut_once, no_cut, without_append}
use Rattle.wbt_text.proofs.Decimals.{without_decimal, decimal_begins}

pub one_more : (n : ℕ) (rest first more ms : List ℕ) → IsShort n → first ≡ decimal n → rest ≡ first ++ 32 ∷ more → AreNumbers more ms → AreNumbers rest (n ∷ ms)
one_more n rest first more [] small is split are = absurd are
one_more n rest first more (m ∷ ms) small is split are = ((small, are.0), split ∙ (λ i. is i ++ 32 ∷ are.1 i))

-- the first number of a text that is cut, and the others
pub record Parts (first more ns : List ℕ) : Type 0 where
  pub n : ℕ
  pub ms : List ℕ
  pub small : IsShort n
  pub is : first ≡ decimal n
  pub others : AreNumbers more ms
  pub all : ns ≡ n ∷ ms

pub only_more : (rest first more ns : List ℕ) → rest ≡ first ++ 32 ∷ more → Without 32 first → AreNumbers rest ns → Parts first more ns
only_more rest first more [] split no_space are = absurd are
only_more rest first more (n ∷ []) split no_space are = absurd (no_cut 32 (decimal n) first more (without_decimal 32 n (omega arith) are.0.0) (sym are.1 ∙ split))
only_more rest first more (n ∷ m ∷ ms) split no_space are =
    let once = cut_once 32 first (decimal n) more (spaced m ms) no_space (without_decimal 32 n (omega arith) are.0.0) (sym split ∙ are.1) in
    record { n = n; ms = m ∷ ms; small = are.0.0; is = once.0; others = (are.0.1, once.1); all = refl }

pub record Last (rest ns : List ℕ) : Type 0 where
  pub n : ℕ
  pub small : IsShort n
  pub is : rest ≡ decimal n
  pub all : ns ≡ n ∷ []

pub only_last : (rest ns : List ℕ) → Without 32 rest → AreNumbers rest ns → Last rest ns
only_last rest [] no_space are = absurd are
only_last rest (n ∷ []) no_space are = record { n = n; small = are.0.0; is = are.1; all = refl }
only_last rest (n ∷ m ∷ ms) no_space are = absurd (no_cut 32 rest (decimal n) (spaced m ms) no_space are.1)

-- numbers are read in one way
pub numbers_once : (text ms ns : List ℕ) → AreNumbers text ms → AreNumbers text ns → ms ≡ ns
numbers_once text [] ns a b = absurd a
numbers_once text (m ∷ ms) [] a b = absurd b
numbers_once text (m ∷ []) (n ∷ []) a b =
    let same : m ≡ n = decimal_injective m n (omega (arith, a.0.0)) (omega (arith, b.0.0)) (sym a.1 ∙ b.1) in (λ i. same i ∷ [])
numbers_once text (m ∷ []) (n ∷ n2 ∷ ns) a b = absurd (no_cut 32 (decimal m) (decimal n) (spaced n2 ns) (without_decimal 32 m (omega arith) a.0.0) (sym a.1 ∙ b.1))
numbers_once text (m ∷ m2 ∷ ms) (n ∷ []) a b = absurd (no_cut 32 (decimal n) (decimal m) (spaced m2 ms) (without_decimal 32 n (omega arith) b.0.0) (sym b.1 ∙ a.1))
numbers_once text (m ∷ m2 ∷ ms) (n ∷ n2 ∷ ns) a b =
    let once = cut_once 32 (decimal m) (decimal n) (spaced m2 ms) (spaced n2 ns) (without_decimal 32 m (omega arith) a.0.0) (without_decimal 32 n (omega arith) b.0.0) (sym a.1 ∙ b.1) in
    let same : m ≡ n = decimal_injective m n (omega (arith, a.0.0)) (omega (arith, b.0.0)) once.0 in
    let rest : m2 ∷ ms ≡ n2 ∷ ns = numbers_once (spaced m2 ms) (m2 ∷ ms) (n2 ∷ ns) (a.0.1, refl) (b.0.1, once.1) in
    (λ i. same i ∷ rest i)

numbers_no_feed : (n : ℕ) (ns : List ℕ) → AllShort (n ∷ ns) → Without 10 (spaced n ns)
numbers_no_feed n [] small = without_decimal 10 n (omega arith) small.0
numbers_no_feed n (m ∷ ms) small = without_append 10 (decimal n) (32 ∷ spaced m ms) (without_decimal 10 n (omega arith) small.0) ((λ same. absurd (omega (arith, same))), numbers_no_feed m ms small.1)

-- numbers stand in one line
pub are_no_feed : (text ns : List ℕ) → AreNumbers text ns → Without 10 text
are_no_feed text [] are = absurd are
are_no_feed text (n ∷ ns) are = subst (Without 10) (sym are.1) (numbers_no_feed n ns are.0)

-- numbers begin with a digit
spaced_begins : (n : ℕ) (ns : List ℕ) → IsShort n → (c : ℕ) × (more : List ℕ) × (spaced n ns ≡ c ∷ more) × IsDigit c
spaced_begins n [] small = decimal_begins n small
spaced_begins n (m ∷ ms) small =
    let d = decimal_begins n small in
    (d.0, d.1 ++ 32 ∷ spaced m ms, ap (λ (l : List ℕ). l ++ 32 ∷ spaced m ms) d.2, d.3)

pub numbers_begin : (text ns : List ℕ) → AreNumbers text ns → (c : ℕ) × (more : List ℕ) × (text ≡ c ∷ more) × IsDigit c
numbers_begin text [] are = absurd are
numbers_begin text (n ∷ ns) are = let d = spaced_begins n ns are.0.0 in (d.0, d.1, are.1 ∙ d.2, d.3)
