-- Where an input of `audit` is cut: there is one place at most.
use Rattle.std.proofs.Common.{arith, rules, ◌≡◌, ℕ, ◌+◌, List, [], ◌∷◌, ◌++◌, length, ◌-◌, take, drop, Option, Some, None, codes, refl, sym, ◌∙◌, ap}
use Rattle.std.proofs.lemmas.List.{append_assoc, length-append, length-drop, take_all}
use Rattle.std.proofs.Math.Seq.{drop-append_seam, take-append_seam}
use Rattle.wbt_text.specs.Cut.{Without}
use Rattle.wbt_text.proofs.Cuts.{cut_once, no_cut}
use Rattle.wbt_journal.specs.Each.{Each}
use Rattle.wbt_top_plain.specs.Audit.{IsOtherLine, text_of_lines, IsCut, IsUncut, HasParts}

-- up to this place the text has lines of which none is `journal`
pub record HasPassed (text : List ℕ) (start : ℕ) : Type 0 where
  pub lines : List (List ℕ)
  pub others : Each IsOtherLine lines
  pub place : start ≡ length (text_of_lines lines)
  pub whole : text ≡ text_of_lines lines ++ drop start text

pub begins : (text : List ℕ) → HasPassed text 0
begins text = record { lines = []; others = tt; place = refl; whole = refl }

-- a slice from a place to the end
pub tail_is : (text : List ℕ) (start : ℕ) → take (length text - start) (drop start text) ≡ drop start text
tail_is text start = take_all (length text - start) (drop start text) (omega (arith, length-drop start text))

-- a line more
text_of_more : (lines : List (List ℕ)) (line : List ℕ) → text_of_lines (lines ++ line ∷ []) ≡ text_of_lines lines ++ (line ++ 10 ∷ [])
text_of_more [] line = refl
text_of_more (x ∷ xs) line = ap (λ t. x ++ 10 ∷ t) (text_of_more xs line) ∙ sym (append_assoc x (10 ∷ text_of_lines xs) (line ++ 10 ∷ []))

others_more : (lines : List (List ℕ)) (line : List ℕ) → Each IsOtherLine lines → IsOtherLine line → Each IsOtherLine (lines ++ line ∷ [])
others_more [] line all other = (other, tt)
others_more (x ∷ xs) line all other = (all.0, others_more xs line all.1 other)

pub goes_on : (text : List ℕ) (start : ℕ) (line more : List ℕ) → HasPassed text start → drop start text ≡ line ++ 10 ∷ more → IsOtherLine line
    → HasPassed text (start + (length line + 1))
goes_on text start line more passed comes other = record {
  lines = passed.lines ++ line ∷ [];
  others = others_more passed.lines line passed.others other;
  place = place;
  whole = whole ∙ ap (λ l. front ++ l) (sym rest);
}
  where
    front : List ℕ
    front = text_of_lines (passed.lines ++ line ∷ [])

    place : start + (length line + 1) ≡ length front
    place =
        let long = ap length (text_of_more passed.lines line) ∙ length-append (text_of_lines passed.lines) (line ++ 10 ∷ []) in
        let last = length-append line (10 ∷ []) in
        omega (arith, passed.place, long, last)

    whole : text ≡ front ++ more
    whole =
        passed.whole ∙ ap (λ l. text_of_lines passed.lines ++ l) (comes ∙ sym (append_assoc line (10 ∷ []) more))
        ∙ sym (append_assoc (text_of_lines passed.lines) (line ++ 10 ∷ []) more) ∙ ap (λ l. l ++ more) (sym (text_of_more passed.lines line))

    rest : drop (start + (length line + 1)) text ≡ more
    rest = (λ i. drop (place i) (whole i)) ∙ drop-append_seam front more

pub finds : (text : List ℕ) (start : ℕ) (line more : List ℕ) → HasPassed text start → drop start text ≡ line ++ 10 ∷ more → line ≡ codes "journal"
    → IsCut text (take start text) more
finds text start line more passed comes is = record {
  lines = passed.lines;
  others = passed.others;
  front = front;
  whole = passed.whole ∙ (λ i. sym front i ++ comes i) ∙ ap (λ l. take start text ++ (l ++ 10 ∷ more)) is;
}
  where
    front : take start text ≡ text_of_lines passed.lines
    front = (λ i. take (passed.place i) (passed.whole i)) ∙ take-append_seam (text_of_lines passed.lines) (drop start text)

journal_is_whole : Without 10 (codes "journal")
journal_is_whole = search rules

-- ---- one place at most

-- what lines are first in a text that has others before its line `journal`
none_below : (ls ms : List (List ℕ)) (rest after : List ℕ) → Each IsOtherLine ls → Each IsOtherLine ms → Without 10 rest
    → text_of_lines ls ++ rest ≡ text_of_lines ms ++ (codes "journal" ++ 10 ∷ after) → ⊥
none_below [] [] rest after a b none is = no_cut 10 rest (codes "journal") after none is
none_below [] (m ∷ ms) rest after a b none is =
    no_cut 10 rest m (text_of_lines ms ++ (codes "journal" ++ 10 ∷ after)) none (is ∙ append_assoc m (10 ∷ text_of_lines ms) (codes "journal" ++ 10 ∷ after))
none_below (l ∷ ls) [] rest after a b none is =
    a.0.other (cut_once 10 l (codes "journal") (text_of_lines ls ++ rest) after a.0.whole journal_is_whole (sym (append_assoc l (10 ∷ text_of_lines ls) rest) ∙ is)).0
none_below (l ∷ ls) (m ∷ ms) rest after a b none is =
    let both = cut_once 10 l m (text_of_lines ls ++ rest) (text_of_lines ms ++ (codes "journal" ++ 10 ∷ after)) a.0.whole b.0.whole
    (sym (append_assoc l (10 ∷ text_of_lines ls) rest) ∙ is ∙ append_assoc m (10 ∷ text_of_lines ms) (codes "journal" ++ 10 ∷ after)) in
    none_below ls ms rest after a.1 b.1 none both.1

pub ends : (text : List ℕ) (start : ℕ) → HasPassed text start → Without 10 (drop start text) → IsUncut text
ends text start passed none before after cut =
    none_below passed.lines cut.lines (drop start text) after passed.others cut.others none
    (sym passed.whole ∙ cut.whole ∙ ap (λ l. l ++ (codes "journal" ++ 10 ∷ after)) cut.front)

one_place : (ls ms : List (List ℕ)) (after behind : List ℕ) → Each IsOtherLine ls → Each IsOtherLine ms
    → text_of_lines ls ++ (codes "journal" ++ 10 ∷ after) ≡ text_of_lines ms ++ (codes "journal" ++ 10 ∷ behind) → (text_of_lines ls ≡ text_of_lines ms) × (after ≡ behind)
one_place [] [] after behind a b is = (refl, (cut_once 10 (codes "journal") (codes "journal") after behind journal_is_whole journal_is_whole is).1)
one_place [] (m ∷ ms) after behind a b is =
    absurd (b.0.other (sym (cut_once 10 (codes "journal") m after (text_of_lines ms ++ (codes "journal" ++ 10 ∷ behind)) journal_is_whole b.0.whole
    (is ∙ append_assoc m (10 ∷ text_of_lines ms) (codes "journal" ++ 10 ∷ behind))).0))
one_place (l ∷ ls) [] after behind a b is =
    absurd (a.0.other (cut_once 10 l (codes "journal") (text_of_lines ls ++ (codes "journal" ++ 10 ∷ after)) behind a.0.whole journal_is_whole
    (sym (append_assoc l (10 ∷ text_of_lines ls) (codes "journal" ++ 10 ∷ after)) ∙ is)).0)
one_place (l ∷ ls) (m ∷ ms) after behind a b is =
    let both = cut_once 10 l m (text_of_lines ls ++ (codes "journal" ++ 10 ∷ after)) (text_of_lines ms ++ (codes "journal" ++ 10 ∷ behind)) a.0.whole b.0.whole
    (sym (append_assoc l (10 ∷ text_of_lines ls) (codes "journal" ++ 10 ∷ after)) ∙ is ∙ append_assoc m (10 ∷ text_of_lines ms) (codes "journal" ++ 10 ∷ behind)) in
    let rest = one_place ls ms after behind a.1 b.1 both.1 in
    ((λ i. both.0 i ++ 10 ∷ rest.0 i), rest.1)

-- the parts of an input are one
pub parts_once : (input front other : List ℕ) (rest behind : Option (List ℕ)) → HasParts input front rest → HasParts input other behind → (front ≡ other) × (rest ≡ behind)
parts_once input front other None None a b = (a.1 ∙ sym b.1, refl)
parts_once input front other None (Some y) a b = absurd (a.0 other y b)
parts_once input front other (Some x) None a b = absurd (b.0 front x a)
parts_once input front other (Some x) (Some y) a b =
    let both = one_place a.lines b.lines x y a.others b.others
    (ap (λ l. l ++ (codes "journal" ++ 10 ∷ x)) (sym a.front) ∙ sym a.whole ∙ b.whole ∙ ap (λ l. l ++ (codes "journal" ++ 10 ∷ y)) b.front) in
    (a.front ∙ both.0 ∙ sym b.front, ap Some both.1)
