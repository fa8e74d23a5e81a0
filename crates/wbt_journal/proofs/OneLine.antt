-- Lines are fixed by their text.
use Rattle.std.proofs.Common.{◌≡◌, ℕ, ◌≤◌, List, [], ◌∷◌, ◌++◌, refl, sym, ◌∙◌, ap, arith, append_assoc}
use Rattle.wbt_journal.specs.declared.field.Field.{Field}
use Rattle.wbt_journal.specs.Word.{word_text}
use Rattle.wbt_journal.specs.Line.{field_text, fields_text, Line, line_text, lines_text}
use Rattle.wbt_journal.specs.Each.{Each}
use Rattle.wbt_journal.specs.Plain.{Fits, LineFits}
use Rattle.wbt_journal.proofs.OneWord.{From, word_solid, word_once}
use Rattle.wbt_journal.proofs.OneField.{field_solid, field_once}

-- fields, and the end of the line
abbrev rest_text : List Field → List ℕ
rest_text [] = 10 ∷ []
rest_text (f ∷ fs) = 32 ∷ field_text f ++ rest_text fs

-- the text begins with a space or a line feed
abbrev Opens : List ℕ → Type 0
Opens [] = ⊥
Opens (x ∷ xs) = x ≤ 32

cut_once : (f g a b : List ℕ) → From 33 f → From 33 g → Opens a → Opens b → f ++ a ≡ g ++ b → (f ≡ g) × (a ≡ b)
cut_once [] [] a b p q r s is = (refl, is)
cut_once [] (y ∷ ys) [] b p q r s is = absurd r
cut_once [] (y ∷ ys) (x ∷ xs) b p q r s is = let same : x ≡ y = cc in absurd (omega (arith, same, r, q.0))
cut_once (x ∷ xs) [] a [] p q r s is = absurd s
cut_once (x ∷ xs) [] a (y ∷ ys) p q r s is = let same : x ≡ y = cc in absurd (omega (arith, same, s, p.0))
cut_once (x ∷ xs) (y ∷ ys) a b p q r s is =
    let heads : x ≡ y = cc in
    let tails : xs ++ a ≡ ys ++ b = cc in
    let rest = cut_once xs ys a b p.1 q.1 r s tails in
    ((λ i. heads i ∷ rest.0 i), rest.1)

not_nil : (xs ys : List ℕ) → Opens ys → [] ≡ xs ++ ys → ⊥
not_nil [] [] opens is = opens
not_nil [] (y ∷ ys) opens is = cc
not_nil (x ∷ xs) ys opens is = cc

opens_rest : (fs : List Field) (r : List ℕ) → Opens (rest_text fs ++ r)
opens_rest [] r = omega arith
opens_rest (f ∷ fs) r = omega arith

heads : (x y : ℕ) (xs ys : List ℕ) → x ∷ xs ≡ y ∷ ys → x ≡ y
heads x y xs ys is = cc

feed_space : (r s : List ℕ) → 10 ∷ r ≡ 32 ∷ s → ⊥
feed_space r s is = let same = heads 10 32 r s is in omega (arith, same)

same_tail : (x y : ℕ) (xs ys : List ℕ) → x ∷ xs ≡ y ∷ ys → xs ≡ ys
same_tail x y xs ys is = cc

rest_once : (fs gs : List Field) (r s : List ℕ) → Each Fits fs → Each Fits gs → rest_text fs ++ r ≡ rest_text gs ++ s → (fs ≡ gs) × (r ≡ s)
rest_once [] [] r s p q is = (refl, same_tail 10 10 r s is)
rest_once [] (g ∷ gs) r s p q is = absurd (feed_space r ((field_text g ++ rest_text gs) ++ s) is)
rest_once (f ∷ fs) [] r s p q is = absurd (feed_space s ((field_text f ++ rest_text fs) ++ r) (sym is))
rest_once (f ∷ fs) (g ∷ gs) r s p q is =
    let tails = same_tail 32 32 ((field_text f ++ rest_text fs) ++ r) ((field_text g ++ rest_text gs) ++ s) is in
    let cut = cut_once (field_text f) (field_text g) (rest_text fs ++ r) (rest_text gs ++ s) (field_solid f p.0) (field_solid g q.0) (opens_rest fs r) (opens_rest gs s)
    (sym (append_assoc (field_text f) (rest_text fs) r) ∙ tails ∙ append_assoc (field_text g) (rest_text gs) s) in
    let here = field_once f g p.0 q.0 cut.0 in
    let more = rest_once fs gs r s p.1 q.1 cut.1 in
    ((λ i. here i ∷ more.0 i), more.1)

-- the fields of a line, and its end
rest_is : (fs : List Field) → fields_text fs ++ 10 ∷ [] ≡ rest_text fs
rest_is [] = refl
rest_is (f ∷ fs) = ap (λ t. 32 ∷ t) (append_assoc (field_text f) (fields_text fs) (10 ∷ []) ∙ ap (λ t. field_text f ++ t) (rest_is fs))

line_is : (l : Line) (r : List ℕ) → line_text l ++ r ≡ word_text l.word ++ (rest_text l.fields ++ r)
line_is l r = append_assoc (word_text l.word) (fields_text l.fields ++ 10 ∷ []) r ∙ ap (λ t. word_text l.word ++ (t ++ r)) (rest_is l.fields)

line_once : (l m : Line) (r s : List ℕ) → LineFits l → LineFits m → line_text l ++ r ≡ line_text m ++ s → (l ≡ m) × (r ≡ s)
line_once l m r s p q is =
    let cut = cut_once (word_text l.word) (word_text m.word) (rest_text l.fields ++ r) (rest_text m.fields ++ s) (word_solid l.word) (word_solid m.word) (opens_rest l.fields r) (opens_rest m.fields s)
    (sym (line_is l r) ∙ is ∙ line_is m s) in
    let here = word_once l.word m.word cut.0 in
    let more = rest_once l.fields m.fields r s p q cut.1 in
    ((λ i. record { word = here i; fields = more.0 i }), more.1)

no_line : (l : Line) (r : List ℕ) → [] ≡ line_text l ++ r → ⊥
no_line l r is = not_nil (word_text l.word) (rest_text l.fields ++ r) (opens_rest l.fields r) (is ∙ line_is l r)

pub lines_once : (ls ms : List Line) → Each LineFits ls → Each LineFits ms → lines_text ls ≡ lines_text ms → ls ≡ ms
lines_once [] [] p q is = refl
lines_once [] (m ∷ ms) p q is = absurd (no_line m (lines_text ms) is)
lines_once (l ∷ ls) [] p q is = absurd (no_line l (lines_text ls) (sym is))
lines_once (l ∷ ls) (m ∷ ms) p q is =
    let here = line_once l m (lines_text ls) (lines_text ms) p.0 q.0 is in
    let more = lines_once ls ms p.1 q.1 here.1 in
    (λ i. here.0 i ∷ more i)
