-- Text that is put after other text.
use Rattle.std.proofs.Common.{◌≡◌, ℕ, ◌+◌, ◌<◌, ◌≤◌, Bool, true, false, List, [], ◌∷◌, ◌++◌, length, take, get_or, flat_map, Option, Some, None, refl, sym, ◌∙◌, ap, subst, arith, append_assoc, append-nil}
use Rattle.std.proofs.lemmas.List.{length-append, take-append-le, take_more}
use Rattle.std.proofs.lemmas.Grind.{flat_map-append}
use Rattle.std.proofs.Math.Seq.{take-append-add}
use Rattle.std.specs.Io.KnownBytes.{append_known}
use Rattle.wbt_io.specs.Faults.{HasRisen}
use Rattle.wbt_io.specs.Told.{GainsPart}
use Rattle.wbt_journal.specs.declared.word.Word.{Word}
use Rattle.wbt_journal.specs.declared.field.Field.{Field}
use Rattle.wbt_journal.specs.Line.{line, line_text}
use Rattle.wbt_journal.specs.Way.{Collected, Way, PutsBy, Puts}

known_none : (held : Option (List ℕ)) → held ≡ append_known held []
known_none None = refl
known_none (Some bytes) = ap Some (sym (append-nil bytes))

known_more : (held : Option (List ℕ)) (xs ys : List ℕ) → append_known (append_known held xs) ys ≡ append_known held (xs ++ ys)
known_more None xs ys = refl
known_more (Some bytes) xs ys = ap Some (append_assoc bytes xs ys)

rises_more : (a b c : ℕ) → HasRisen a b → b ≤ c → HasRisen a c
rises_more a b c rises later = omega (arith, rises, later)

rises_before : (a b c : ℕ) → a ≤ b → HasRisen b c → HasRisen a c
rises_before a b c later rises = omega (arith, rises, later)

-- ---- nothing

none_by : (failed : Bool) (w : Way) → PutsBy failed failed [] w w
none_by true w = refl
none_by false w = ([], known_none w.held, sym (append-nil w.out.piece))

pub puts_none : (w : Way) → Puts [] w w
puts_none w = record { put = none_by w.out.failed w; later = omega arith }

-- ---- one after another

-- a part of what was put first is a part of all
part_first : (held new : Option (List ℕ)) (piece xs ys : List ℕ) → GainsPart held new (piece ++ xs) → GainsPart held new (piece ++ (xs ++ ys))
part_first held new piece xs ys gains =
    let less : gains.0 < length (piece ++ xs) = gains.1 in (
      gains.0,
      omega (arith, less, length-append piece xs, length-append piece (xs ++ ys), length-append xs ys),
      gains.2 ∙ ap (append_known held) (sym (ap (take gains.0) (sym (append_assoc piece xs ys)) ∙ take-append-le gains.0 (piece ++ xs) ys (omega (arith, less)))),
    )

-- what has gone, and a part of the rest
part_second : (held mid new : Option (List ℕ)) (piece between gone xs ys : List ℕ) → mid ≡ append_known held gone → gone ++ between ≡ piece ++ xs
    → GainsPart mid new (between ++ ys) → GainsPart held new (piece ++ (xs ++ ys))
part_second held mid new piece between gone xs ys went is gains =
    let all : gone ++ (between ++ ys) ≡ piece ++ (xs ++ ys) = sym (append_assoc gone between ys) ∙ ap (λ t. t ++ ys) is ∙ append_assoc piece xs ys in
    let less : gains.0 < length (between ++ ys) = gains.1 in
    let count : ℕ = length gone + gains.0 in
    let long : length gone + length (between ++ ys) ≡ length (piece ++ (xs ++ ys)) = sym (length-append gone (between ++ ys)) ∙ ap length all in (
      count,
      omega (arith, less, long),
      gains.2 ∙ ap (λ h. append_known h (take gains.0 (between ++ ys))) went ∙ known_more held gone (take gains.0 (between ++ ys))
          ∙ ap (append_known held) (sym (ap (take count) (sym all) ∙ take-append-add gone (between ++ ys) gains.0)),
    )

then_by : (first between last : Bool) (xs ys : List ℕ) (a b c : Way) → PutsBy first between xs a b → PutsBy between last ys b c
    → a.faults ≤ b.faults → b.faults ≤ c.faults → PutsBy first last (xs ++ ys) a c
then_by false false false xs ys a b c p q early late = (
  p.0 ++ q.0,
  q.1 ∙ ap (λ h. append_known h q.0) p.1 ∙ known_more a.held p.0 q.0,
  append_assoc p.0 q.0 c.out.piece ∙ ap (λ t. p.0 ++ t) q.2 ∙ sym (append_assoc p.0 b.out.piece ys) ∙ ap (λ t. t ++ ys) p.2 ∙ append_assoc a.out.piece xs ys,
)
then_by false false true xs ys a b c p q early late = (
  part_second a.held b.held c.held a.out.piece b.out.piece p.0 xs ys p.1 p.2 q.0,
  rises_before a.faults b.faults c.faults early q.1,
)
then_by false true false xs ys a b c p q early late = absurd q
then_by false true true xs ys a b c p q early late = (
  subst (λ h. GainsPart a.held h (a.out.piece ++ (xs ++ ys))) (sym q) (part_first a.held b.held a.out.piece xs ys p.0),
  rises_more a.faults b.faults c.faults p.1 late,
)
then_by true false last xs ys a b c p q early late = absurd p
then_by true true false xs ys a b c p q early late = absurd q
then_by true true true xs ys a b c p q early late = q ∙ p

pub puts_then : (xs ys : List ℕ) (a b c : Way) → Puts xs a b → Puts ys b c → Puts (xs ++ ys) a c
puts_then xs ys a b c first second = record {
  put = then_by a.out.failed b.out.failed c.out.failed xs ys a b c first.put second.put first.later second.later;
  later = omega (arith, first.later, second.later);
}

pub puts_same : (xs ys : List ℕ) (a b : Way) → xs ≡ ys → Puts xs a b → Puts ys a b
puts_same xs ys a b same put = subst (λ bytes. Puts bytes a b) same put

-- ---- the texts of a list, one after another

one_more : {A : Type 0} (text : A → List ℕ) (xs : List A) (i : ℕ) (d : A) → i < length xs
    → flat_map text (take i xs) ++ text (get_or xs i d) ≡ flat_map text (take (i + 1) xs)
one_more text xs i d less =
    sym (ap (flat_map text) (take_more xs i d less) ∙ flat_map-append text (take i xs) (get_or xs i d ∷ [])
    ∙ ap (λ t. flat_map text (take i xs) ++ t) (append-nil (text (get_or xs i d))))

pub puts_more : {A : Type 0} (text : A → List ℕ) (xs : List A) (i : ℕ) (d : A) (a b c : Way) → i < length xs
    → Puts (flat_map text (take i xs)) a b → Puts (text (get_or xs i d)) b c → Puts (flat_map text (take (i + 1) xs)) a c
puts_more text xs i d a b c less before here = puts_same _ _ a c (one_more text xs i d less) (puts_then _ _ a b c before here)

-- a line, and then other text
pub puts_line : (word : Word) (fields : List Field) (ys : List ℕ) (a b c : Way) → Puts (line_text (line word fields)) a b → Puts ys b c → Puts (line_text (line word fields) ++ ys) a c
puts_line word fields ys a b c first second = puts_then (line_text (line word fields)) ys a b c first second

-- ---- from nothing to the end

part_by : (first between last : Bool) (text : List ℕ) (a b c : Way) → a.out.piece ≡ [] → first ≡ false → last ≡ true → PutsBy first between text a b → PutsBy between last [] b c
    → a.faults ≤ b.faults → b.faults ≤ c.faults → GainsPart a.held c.held text
part_by first between last text a b c empty fine failed p q early late =
    let all : PutsBy first last (text ++ []) a c = then_by first between last text [] a b c p q early late in
    let gains : PutsBy false true (text ++ []) a c = subst (λ x. PutsBy false x (text ++ []) a c) failed (subst (λ x. PutsBy x last (text ++ []) a c) fine all) in
    subst (GainsPart a.held c.held) (ap (λ piece. piece ++ (text ++ [])) empty ∙ append-nil text) gains.0

-- where the sink has failed in the end it holds a part of the text
pub part_of : (text : List ℕ) (a b c : Way) → a.out ≡ record { piece = []; failed = false } → Puts text a b → Puts [] b c → c.out.failed ≡ true → GainsPart a.held c.held text
part_of text a b c fresh p q failed =
    part_by a.out.failed b.out.failed c.out.failed text a b c (ap (λ (out : Collected). out.piece) fresh) (ap (λ (out : Collected). out.failed) fresh) failed p.put q.put p.later q.later

-- eight texts, one after another
pub puts_parts : (o p q r s t u v : List ℕ) (a b c d e f g h k : Way) → Puts o a b → Puts p b c → Puts q c d → Puts r d e → Puts s e f → Puts t f g → Puts u g h → Puts v h k
    → Puts (o ++ (p ++ (q ++ (r ++ (s ++ (t ++ (u ++ v))))))) a k
puts_parts o p q r s t u v a b c d e f g h k one two three four five six seven eight =
    puts_then o (p ++ (q ++ (r ++ (s ++ (t ++ (u ++ v)))))) a b k one (puts_then p (q ++ (r ++ (s ++ (t ++ (u ++ v))))) b c k two (puts_then q (r ++ (s ++ (t ++ (u ++ v)))) c d k three
    (puts_then r (s ++ (t ++ (u ++ v))) d e k four (puts_then s (t ++ (u ++ v)) e f k five (puts_then t (u ++ v) f g k six (puts_then u v g h k seven eight))))))
