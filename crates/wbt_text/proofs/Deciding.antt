-- Each text has an answer: whether a line stands at its front can be told.
use Rattle.std.proofs.Common.{◌≡◌, ◌⊎◌, inl, inr, ℕ, zero, suc, ◌+◌, ◌<◌, ◌≤◌, List, [], ◌∷◌, ◌++◌, length, get_or, Result, Ok, Err, refl, sym, ◌∙◌, ap, subst, arith, length-append, zero-add}
use Rattle.std.specs.Str.Parse.{AllDigits, digits_value}
use Rattle.std.proofs.lemmas.Bool.{cases_eq, cases_lt}
use Rattle.std.proofs.lemmas.Str.Parse.{digit_from_value}
use Rattle.wbt_text.specs.Cut.{Without, IsDigit, HasNoDigit, BeginsWithDigit}
use Rattle.wbt_text.specs.Numbers.{IsNumber, AreNumbers}
use Rattle.wbt_text.specs.Reading.{Format, Lead, HasNoLine, Ends, EachHasAnswer, IsClear}
use Rattle.wbt_text.specs.declared.digits.TheConstants.{MOST_DIGITS}
use Rattle.wbt_text.proofs.Cuts.{cut_once, no_cut}
use Rattle.wbt_text.proofs.Decimals.{digit_is, found, all_digits, some_digits, few_digits, no_leading}
use Rattle.wbt_text.proofs.Spaces.{one_more, only_more, only_last}

pub same_text : (xs ys : List ℕ) → (xs ≡ ys) ⊎ (xs ≡ ys → ⊥)
same_text [] [] = inl refl
same_text [] (y ∷ ys) = inr (λ same. cc)
same_text (x ∷ xs) [] = inr (λ same. cc)
same_text (x ∷ xs) (y ∷ ys) = by_parts (cases_eq x y) (same_text xs ys)
  where
    by_parts : (x ≡ y) ⊎ (x ≡ y → ⊥) → (xs ≡ ys) ⊎ (xs ≡ ys → ⊥) → (x ∷ xs ≡ y ∷ ys) ⊎ (x ∷ xs ≡ y ∷ ys → ⊥)
    by_parts (inl head) (inl tail) = inl (λ i. head i ∷ tail i)
    by_parts (inl head) (inr other) = inr (λ same. let tails : xs ≡ ys = cc in other tails)
    by_parts (inr other) tail = inr (λ same. let heads : x ≡ y = cc in other heads)

-- ---- a number

digit_or_not : (c : ℕ) → IsDigit c ⊎ (IsDigit c → ⊥)
digit_or_not c = by_bounds (cases_lt c 48) (cases_lt 57 c)
  where
    by_bounds : (c < 48) ⊎ (48 ≤ c) → (57 < c) ⊎ (c ≤ 57) → IsDigit c ⊎ (IsDigit c → ⊥)
    by_bounds (inl low) high = inr (λ digit. omega (arith, digit.0, low))
    by_bounds (inr low) (inl high) = inr (λ digit. omega (arith, digit.1, high))
    by_bounds (inr low) (inr high) = inl (low, high)

digits_or_not : (ds : List ℕ) → AllDigits 10 ds ⊎ (AllDigits 10 ds → ⊥)
digits_or_not [] = inl tt
digits_or_not (c ∷ cs) = by_parts (digit_or_not c) (digits_or_not cs)
  where
    by_parts : IsDigit c ⊎ (IsDigit c → ⊥) → AllDigits 10 cs ⊎ (AllDigits 10 cs → ⊥) → AllDigits 10 (c ∷ cs) ⊎ (AllDigits 10 (c ∷ cs) → ⊥)
    by_parts (inl digit) (inl all) = inl (omega (arith, digit_is c digit.0 digit.1, digit.0, digit.1), all)
    by_parts (inl digit) (inr other) = inr (λ all. other all.1)
    by_parts (inr other) more = inr (λ all. let d = digit_from_value c all.0 in other (omega (arith, d), omega (arith, d)))

record SomeNumber (ds : List ℕ) : Type 0 where
  pub n : ℕ
  pub is : IsNumber ds n

number_or_not : (ds : List ℕ) → SomeNumber ds ⊎ ((n : ℕ) → IsNumber ds n → ⊥)
number_or_not [] = inr (λ n is. omega (arith, some_digits n is.0, ap length is.1))
number_or_not (c ∷ cs) = by_digits (digits_or_not (c ∷ cs)) (cases_lt MOST_DIGITS (length (c ∷ cs))) (cases_eq c 48) (cases_eq (length cs) 0)
  where
    by_digits : AllDigits 10 (c ∷ cs) ⊎ (AllDigits 10 (c ∷ cs) → ⊥) → (MOST_DIGITS < length (c ∷ cs)) ⊎ (length (c ∷ cs) ≤ MOST_DIGITS) → (c ≡ 48) ⊎ (c ≡ 48 → ⊥) → (length cs ≡ 0) ⊎ (length cs ≡ 0 → ⊥)
        → SomeNumber (c ∷ cs) ⊎ ((n : ℕ) → IsNumber (c ∷ cs) n → ⊥)
    by_digits (inr other) few lead alone = inr (λ n is. other (subst (AllDigits 10) (sym is.1) (all_digits n is.0)))
    by_digits (inl all) (inl many) lead alone = inr (λ n is. omega (arith, few_digits n is.0, ap length is.1, many))
    by_digits (inl all) (inr few) (inl zeros) (inr more) = inr (λ n is.
        let one = no_leading n is.0 (ap (λ (l : List ℕ). get_or l 0 0) (sym is.1) ∙ zeros) in
        more (omega (arith, one, ap length is.1)))
    by_digits (inl all) (inr few) (inl zeros) (inl alone) =
        let f = found (c ∷ cs) all (omega arith) few (λ lead. omega (arith, alone)) in
        inl (record { n = digits_value 10 (c ∷ cs); is = f })
    by_digits (inl all) (inr few) (inr other) alone =
        let f = found (c ∷ cs) all (omega arith) few (λ lead. absurd (other lead)) in
        inl (record { n = digits_value 10 (c ∷ cs); is = f })

-- ---- cuts

pub record IsCut (byte : ℕ) (text : List ℕ) : Type 0 where
  pub front : List ℕ
  pub rest : List ℕ
  pub is : text ≡ front ++ byte ∷ rest
  pub without : Without byte front

pub cut_or_not : (byte : ℕ) (text : List ℕ) → IsCut byte text ⊎ Without byte text
cut_or_not byte [] = inr tt
cut_or_not byte (x ∷ xs) = by_head (cases_eq x byte) (cut_or_not byte xs)
  where
    by_head : (x ≡ byte) ⊎ (x ≡ byte → ⊥) → IsCut byte xs ⊎ Without byte xs → IsCut byte (x ∷ xs) ⊎ Without byte (x ∷ xs)
    by_head (inl same) more = inl (record { front = []; rest = xs; is = ap (λ (y : ℕ). y ∷ xs) same; without = tt })
    by_head (inr other) (inl cut) = inl (record { front = x ∷ cut.front; rest = cut.rest; is = ap (λ (l : List ℕ). x ∷ l) cut.is; without = (other, cut.without) })
    by_head (inr other) (inr none) = inr (other, none)

pub record IsFront (text : List ℕ) : Type 0 where
  pub front : List ℕ
  pub rest : List ℕ
  pub is : text ≡ front ++ rest
  pub none : HasNoDigit front
  pub begins : BeginsWithDigit rest

pub front_at : (text : List ℕ) → IsFront text
front_at [] = record { front = []; rest = []; is = refl; none = tt; begins = tt }
front_at (x ∷ xs) = by_head (digit_or_not x) (front_at xs)
  where
    by_head : IsDigit x ⊎ (IsDigit x → ⊥) → IsFront xs → IsFront (x ∷ xs)
    by_head (inl digit) more = record { front = []; rest = x ∷ xs; is = refl; none = tt; begins = digit }
    by_head (inr other) more = record { front = x ∷ more.front; rest = more.rest; is = ap (λ (l : List ℕ). x ∷ l) more.is; none = (other, more.none); begins = more.begins }

-- ---- numbers

pub record SomeNumbers (text : List ℕ) : Type 0 where
  pub ns : List ℕ
  pub are : AreNumbers text ns

pub numbers_or_not : (n : ℕ) (text : List ℕ) → length text ≤ n → SomeNumbers text ⊎ ((ns : List ℕ) → AreNumbers text ns → ⊥)
numbers_or_not zero [] few = inr (λ ns are. let last = only_last [] ns tt are in omega (arith, some_digits last.n last.small, ap length last.is))
numbers_or_not zero (x ∷ xs) few = absurd (omega arith)
numbers_or_not (suc n) text few = by_cut (λ rest less. numbers_or_not n rest less) (cut_or_not 32 text)
  where
    at_first : (cut : IsCut 32 text) → SomeNumber cut.front ⊎ ((k : ℕ) → IsNumber cut.front k → ⊥) → SomeNumbers cut.rest ⊎ ((ns : List ℕ) → AreNumbers cut.rest ns → ⊥) → SomeNumbers text ⊎ ((ns : List ℕ) → AreNumbers text ns → ⊥)
    at_first cut (inr none) more = inr (λ ns are. let parts = only_more text cut.front cut.rest ns cut.is cut.without are in none parts.n (parts.small, parts.is))
    at_first cut (inl first) (inr none) = inr (λ ns are. let parts = only_more text cut.front cut.rest ns cut.is cut.without are in none parts.ms parts.others)
    at_first cut (inl first) (inl more) = inl (record { ns = first.n ∷ more.ns; are = one_more first.n text cut.front cut.rest more.ns first.is.0 first.is.1 cut.is more.are })

    at_last : Without 32 text → SomeNumber text ⊎ ((k : ℕ) → IsNumber text k → ⊥) → SomeNumbers text ⊎ ((ns : List ℕ) → AreNumbers text ns → ⊥)
    at_last none (inl number) = inl (record { ns = number.n ∷ []; are = ((number.is.0, tt), number.is.1) })
    at_last none (inr other) = inr (λ ns are. let last = only_last text ns none are in other last.n (last.small, last.is))

    by_cut : ((rest : List ℕ) → length rest ≤ n → SomeNumbers rest ⊎ ((ns : List ℕ) → AreNumbers rest ns → ⊥)) → IsCut 32 text ⊎ Without 32 text → SomeNumbers text ⊎ ((ns : List ℕ) → AreNumbers text ns → ⊥)
    by_cut again (inl cut) = at_first cut (number_or_not cut.front) (again cut.rest (omega (arith, few, ap length cut.is, length-append cut.front (32 ∷ cut.rest))))
    by_cut again (inr none) = at_last none (number_or_not text)

-- ---- an answer

-- Whether a text spells a line can be told.
pub record SomeLine {S L R A : Type 0} (format : Format S L R A) (s : S) (text : List ℕ) : Type 0 where
  pub l : L
  pub is : format.spells s text l

record Goes {S L R A : Type 0} (format : Format S L R A) (count : ℕ) (s : S) (text : List ℕ) : Type 0 where
  pub answer : A
  pub ls : List L
  pub t : S
  pub rest : List ℕ
  pub lead : Lead format ls s text t rest
  pub ends : Ends format (count + length ls) t rest answer

here : {S L R A : Type 0} (format : Format S L R A) (count : ℕ) (s : S) (text : List ℕ) (answer : A) → Ends format count s text answer → Goes format count s text
here format count s text answer ends = record { answer = answer; ls = []; t = s; rest = text; lead = (refl, refl); ends = subst (λ (n : ℕ). Ends format n s text answer) (same count) ends }
  where
    same : (n : ℕ) → n ≡ n + 0
    same n = omega arith

-- every line of the format can be told from a text that is none
abbrev pub Tellable : {S L R A : Type 0} (format : Format S L R A) → Type 0
Tellable {S} {L} format = (s : S) (text : List ℕ) → SomeLine format s text ⊎ ((l : L) → format.spells s text l → ⊥)

goes : {S L R A : Type 0} (format : Format S L R A) → IsClear format → Tellable format → (n count : ℕ) (s : S) (text : List ℕ) → length text ≤ n → Goes format count s text
goes format clear tell n count s [] few = here format count s [] (format.ended count s) (inl (refl, refl))
goes format clear tell zero count s (x ∷ xs) few = absurd (omega arith)
goes {S} {L} {R} format clear tell (suc n) count s (x ∷ xs) few = by_cut (λ u rest less. goes format clear tell n (count + 1) u rest less) (cut_or_not 10 (x ∷ xs))
  where
    no_line_here : HasNoLine format s (x ∷ xs) → Goes format count s (x ∷ xs)
    no_line_here none = here format count s (x ∷ xs) (format.unread (count + 1)) (inr (inl ((λ empty. cc), none, refl)))

    by_accept : ((u : S) (rest : List ℕ) → length rest ≤ n → Goes format (count + 1) u rest) → (cut : IsCut 10 (x ∷ xs)) (line : SomeLine format s cut.front) (r : Result S R) → format.accept line.l s ≡ r → Goes format count s (x ∷ xs)
    by_accept again cut line (Err why) is = here format count s (x ∷ xs) (format.refused (count + 1) why) (inr (inr (cut.front, cut.rest, line.l, why, cut.is, line.is, is, refl)))
    by_accept again cut line (Ok u) is =
        let more = again u cut.rest (omega (arith, few, ap length cut.is, length-append cut.front (10 ∷ cut.rest))) in
        record {
          answer = more.answer;
          ls = line.l ∷ more.ls;
          t = more.t;
          rest = more.rest;
          lead = (cut.front, cut.rest, u, cut.is, line.is, is, more.lead);
          ends = subst (λ (k : ℕ). Ends format k more.t more.rest more.answer) (one_later count (length more.ls)) more.ends;
        }
      where
        one_later : (c k : ℕ) → (c + 1) + k ≡ c + suc k
        one_later c k = omega arith

    by_line : ((u : S) (rest : List ℕ) → length rest ≤ n → Goes format (count + 1) u rest) → (cut : IsCut 10 (x ∷ xs)) → SomeLine format s cut.front ⊎ ((l : L) → format.spells s cut.front l → ⊥) → Goes format count s (x ∷ xs)
    by_line again cut (inl line) = by_accept again cut line (format.accept line.l s) refl
    by_line again cut (inr none) = no_line_here (λ first more l split is.
        let once = cut_once 10 cut.front first cut.rest more cut.without (clear.no_feed s first l is) (sym cut.is ∙ split) in
        none l (subst (λ (f : List ℕ). format.spells s f l) (sym once.0) is))

    by_cut : ((u : S) (rest : List ℕ) → length rest ≤ n → Goes format (count + 1) u rest) → IsCut 10 (x ∷ xs) ⊎ Without 10 (x ∷ xs) → Goes format count s (x ∷ xs)
    by_cut again (inl cut) = by_line again cut (tell s cut.front)
    by_cut again (inr none) = no_line_here (λ first more l split is. no_cut 10 (x ∷ xs) first more none split)

pub some_answer : {S L R A : Type 0} (format : Format S L R A) (start : S) → IsClear format → Tellable format → EachHasAnswer format start
some_answer format start clear tell = λ text.
    let g = goes format clear tell (length text) 0 start text (omega arith) in
    (g.answer, (g.ls, g.t, g.rest, g.lead, subst (λ (n : ℕ). Ends format n g.t g.rest g.answer) (zero-add (length g.ls)) g.ends))
