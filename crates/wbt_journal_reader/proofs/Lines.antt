-- A line's text is that of a word and fields, and so of one row at most.
use Rattle.std.proofs.Common.{◌≡◌, ℕ, pos, negsuc, List, [], ◌∷◌, ◌++◌, Option, Some, None, IfSome, IfNone, refl, sym, ◌∙◌, ap, subst, arith, append_assoc}
use Rattle.std.proofs.lemmas.List.{append-nil}
use Rattle.wbt_text.specs.Cut.{Without}
use Rattle.wbt_text.specs.Reading.{IsClear}
use Rattle.wbt_text.proofs.Cuts.{cut_once, no_cut, without_append}
use Rattle.wbt_journal.specs.declared.entry.Entry.TheVariants as entry
use Rattle.wbt_journal.specs.declared.field.Field.{Field}
use Rattle.wbt_journal.specs.declared.field.Field.TheVariants.{Name, Int, Domain, Context}
use Rattle.wbt_journal_reader.specs.declared.row.Row.{Row}
use Rattle.wbt_journal_reader.specs.declared.row.Row.TheVariants as row
use Rattle.wbt_journal.specs.declared.timer.TimerEntry.TheVariants as timer
use Rattle.wbt_journal.specs.declared.word.Word.{Word}
use Rattle.wbt_journal.specs.Each.{Each}
use Rattle.wbt_journal_reader.specs.Fields.{InRange, spaced, AreFields}
use Rattle.wbt_journal.specs.Forms.{Form, small, big, signed, counter, name, IsOf, AreOf, HasForm}
use Rattle.wbt_journal.specs.Line.{Line, line, field_text, fields_text, line_text, lines_text}
use Rattle.wbt_journal_reader.specs.Reading.{journals}
use Rattle.wbt_journal_reader.specs.RowOf.{row_of, row_from}
use Rattle.wbt_journal_reader.specs.Rows.{row_lines, IsRow}
use Rattle.wbt_journal.specs.Word.{word_text}
use Rattle.wbt_journal_reader.proofs.Fields.{field_without, once}
use Rattle.wbt_journal_reader.proofs.Rows.{Again, row_again, row_sound}

-- ---- the text of fields

pub spaced_is : (f : Field) (fs : List Field) → spaced f fs ≡ field_text f ++ fields_text fs
spaced_is f [] = sym (append-nil (field_text f))
spaced_is f (g ∷ gs) = ap (λ (t : List ℕ). field_text f ++ 32 ∷ t) (spaced_is g gs)

-- a line is its fields, the first a word, and a line feed
pub line_is : (l : Line) → line_text l ≡ spaced (Name l.word) l.fields ++ 10 ∷ []
line_is l = sym (ap (λ (t : List ℕ). t ++ 10 ∷ []) (spaced_is (Name l.word) l.fields) ∙ append_assoc (word_text l.word) (fields_text l.fields) (10 ∷ []))

spaced_without : (f : Field) (fs : List Field) → Each InRange (f ∷ fs) → Without 10 (spaced f fs)
spaced_without f [] range = field_without 10 f (omega arith) range.0
spaced_without f (g ∷ gs) range =
    without_append 10 (field_text f) (32 ∷ spaced g gs) (field_without 10 f (omega arith) range.0) ((λ same. absurd (omega (arith, same))), spaced_without g gs range.1)

pub are_without : (text : List ℕ) (fs : List Field) → AreFields text fs → Without 10 text
are_without text [] are = absurd are
are_without text (f ∷ fs) are = subst (Without 10) (sym are.1) (spaced_without f fs are.0)

no_space : (f : Field) → InRange f → Without 32 (field_text f)
no_space f range = field_without 32 f (omega arith) range

spaced_once : (f : Field) (fs : List Field) (g : Field) (gs : List Field) → Each InRange (f ∷ fs) → Each InRange (g ∷ gs) → spaced f fs ≡ spaced g gs → f ∷ fs ≡ g ∷ gs
spaced_once f [] g [] p q is = let same = once (field_text f) f g (p.0, refl) (q.0, is) in (λ i. same i ∷ [])
spaced_once f [] g (h ∷ hs) p q is = absurd (no_cut 32 (field_text f) (field_text g) (spaced h hs) (no_space f p.0) is)
spaced_once f (e ∷ es) g [] p q is = absurd (no_cut 32 (field_text g) (field_text f) (spaced e es) (no_space g q.0) (sym is))
spaced_once f (e ∷ es) g (h ∷ hs) p q is =
    let cut = cut_once 32 (field_text f) (field_text g) (spaced e es) (spaced h hs) (no_space f p.0) (no_space g q.0) is in
    let same = once (field_text f) f g (p.0, refl) (q.0, cut.0) in
    let more = spaced_once e es h hs p.1 q.1 cut.1 in
    (λ i. same i ∷ more i)

pub are_once : (text : List ℕ) (fs gs : List Field) → AreFields text fs → AreFields text gs → fs ≡ gs
are_once text [] gs p q = absurd p
are_once text (f ∷ fs) [] p q = absurd q
are_once text (f ∷ fs) (g ∷ gs) p q = spaced_once f fs g gs p.0 q.0 (sym p.1 ∙ q.1)

-- ---- the fields of a row

of_range : (form : Form) (f : Field) → IsOf form f → InRange f
of_range small (Int (pos n)) of = omega (arith, of)
of_range big (Int (pos n)) of = of
of_range signed (Int (pos n)) of = omega (arith, of)
of_range signed (Int (negsuc n)) of = of
of_range counter (Domain d) of = of
of_range counter (Context c) of = of
of_range name (Name w) of = tt
of_range form f of = absurd of

of_ranges : (forms : List Form) (fs : List Field) → AreOf forms fs → Each InRange fs
of_ranges [] [] of = tt
of_ranges (form ∷ forms) (f ∷ fs) of = (of_range form f of.0, of_ranges forms fs of.1)
of_ranges forms fs of = absurd of

-- a row that has a text has one line
pub record OneLine (text : List ℕ) (r : Row) : Type 0 where
  pub l : Line
  pub is : row_lines r ≡ l ∷ []
  pub fields : AreFields text (Name l.word ∷ l.fields)
  pub tells : row_of l.word l.fields ≡ Some r

-- texts that end alike are alike before the end
ends_once : (xs ys : List ℕ) → Without 10 ys → xs ++ 10 ∷ [] ≡ ys ++ 10 ∷ [] → xs ≡ ys
ends_once [] [] none is = refl
ends_once [] (y ∷ ys) none is = let same : y ≡ 10 = cc in absurd (none.0 same)
ends_once (x ∷ []) [] none is = cc
ends_once (x ∷ z ∷ xs) [] none is = cc
ends_once (x ∷ xs) (y ∷ ys) none is =
    let heads : x ≡ y = cc in
    let tails : xs ++ 10 ∷ [] ≡ ys ++ 10 ∷ [] = cc in
    let rest = ends_once xs ys none.1 tails in
    (λ i. heads i ∷ rest i)

of_line : (text : List ℕ) (r : Row) (l : Line) → text ++ 10 ∷ [] ≡ lines_text (l ∷ []) → row_lines r ≡ l ∷ [] → HasForm l → Again r (l ∷ []) → OneLine text r
of_line text r l split is form again =
    let range = of_ranges _ l.fields form in
    let same : text ++ 10 ∷ [] ≡ spaced (Name l.word) l.fields ++ 10 ∷ [] = split ∙ append-nil (line_text l) ∙ line_is l in
    let all : Each InRange (Name l.word ∷ l.fields) = (tt, range) in
    record {
      l = l;
      is = is;
      fields = (all, ends_once text (spaced (Name l.word) l.fields) (spaced_without (Name l.word) l.fields all) same);
      tells = again;
    }

no_lines : (text : List ℕ) → text ++ 10 ∷ [] ≡ [] → ⊥
no_lines [] is = cc
no_lines (x ∷ xs) is = cc

abbrev OfLines : (text : List ℕ) (r : Row) (ls : List Line) → Type 0
OfLines text r ls = text ++ 10 ∷ [] ≡ lines_text ls → row_lines r ≡ ls → Each HasForm ls → Again r ls → OneLine text r

of_lines : (text : List ℕ) (r : Row) → OfLines text r (row_lines r)
of_lines text row.Timer = λ split is form again. of_line text _ _ split is form.0 again
of_lines text (row.Timed (timer.Limits d now l)) = λ split is form again. of_line text _ _ split is form.0 again
of_lines text (row.Timed (timer.Period d k)) = λ split is form again. of_line text _ _ split is form.0 again
of_lines text (row.Entry (entry.Write t p b)) = λ split is form again. of_line text _ _ split is form.0 again
of_lines text (row.Entry (entry.Folded f)) = λ split is form again. of_line text _ _ split is form.0 again
of_lines text (row.Entry (entry.Check place)) = λ split is form again. absurd (no_lines text split)
of_lines text (row.Entry (entry.Est place)) = λ split is form again. absurd (no_lines text split)
of_lines text (row.Entry other) = λ split is form again. of_line text _ _ split is form.0 again
of_lines text other = λ split is form again. of_line text _ _ split is form.0 again

pub one_line : (text : List ℕ) (r : Row) → IsRow text r → OneLine text r
one_line text r is = of_lines text r is.is refl is.form (row_again r is.plain is.form)

-- ---- what is read of a line

some_none : (r : Row) → Some r ≡ None → ⊥
some_none r is = cc

pub says_row : (text : List ℕ) (w : Word) (fs : List Field) (r : Row) → AreFields text (Name w ∷ fs) → row_of w fs ≡ Some r → IsRow text r
says_row text w fs r are is =
    let says = row_sound w fs r are.0.1 is in
    let l = line w fs in
    let whole : text ++ 10 ∷ [] ≡ lines_text (l ∷ []) = ap (λ (t : List ℕ). t ++ 10 ∷ []) are.1 ∙ sym (line_is l) ∙ sym (append-nil (line_text l)) in
    record {
      is = whole ∙ ap lines_text (sym says.lines);
      plain = says.plain;
      form = subst (λ (ls : List Line). Each HasForm ls) (sym says.lines) (says.form, tt);
    }

pub some_row : (text : List ℕ) (fs : List Field) (read : Option Row) → AreFields text fs → read ≡ row_from fs → IfSome read (λ r. IsRow text r)
some_row text (Name w ∷ fs) (Some r) are is = says_row text w fs r are (sym is)
some_row text (Name w ∷ fs) None are is = tt
some_row text other None are is = tt
some_row text other (Some r) are is = absurd (some_none r is)

heads : (f g : Field) (fs gs : List Field) → f ∷ fs ≡ g ∷ gs → f ≡ g
heads f g fs gs is = cc

tails : (f g : Field) (fs gs : List Field) → f ∷ fs ≡ g ∷ gs → fs ≡ gs
tails f g fs gs is = cc

words : (v w : Word) → Name v ≡ Name w → v ≡ w
words v w is = cc

none_some : (r : Row) (o : Option Row) → None ≡ o → o ≡ Some r → ⊥
none_some r o a b = cc (a, b)

pub no_row : (text : List ℕ) (fs : List Field) (read : Option Row) → AreFields text fs → read ≡ row_from fs → IfNone read ((r : Row) → IsRow text r → ⊥)
no_row text fs (Some r) are is = tt
no_row text fs None are is = λ r row.
    let one = one_line text r row in
    let same = are_once text fs (Name one.l.word ∷ one.l.fields) are one.fields in
    none_some r (row_from fs) is (ap row_from same ∙ one.tells)

pub no_fields : (text : List ℕ) → ((fs : List Field) → AreFields text fs → ⊥) → (r : Row) → IsRow text r → ⊥
no_fields text none r row = let one = one_line text r row in none (Name one.l.word ∷ one.l.fields) one.fields

-- ---- a row is spelled in one way

some_once : (q r : Row) → Some q ≡ Some r → q ≡ r
some_once q r is = cc

rows_once : (text : List ℕ) (q r : Row) → IsRow text q → IsRow text r → q ≡ r
rows_once text q r a b =
    let one = one_line text q a in
    let two = one_line text r b in
    let same = are_once text (Name one.l.word ∷ one.l.fields) (Name two.l.word ∷ two.l.fields) one.fields two.fields in
    let v = words one.l.word two.l.word (heads (Name one.l.word) (Name two.l.word) one.l.fields two.l.fields same) in
    let more = tails (Name one.l.word) (Name two.l.word) one.l.fields two.l.fields same in
    some_once q r (sym one.tells ∙ (λ i. row_of (v i) (more i)) ∙ two.tells)

pub row_without : (text : List ℕ) (r : Row) → IsRow text r → Without 10 text
row_without text r is = let one = one_line text r is in are_without text (Name one.l.word ∷ one.l.fields) one.fields

pub clear : IsClear journals
clear = record { once = λ s text q r a b. rows_once text q r a b; no_feed = λ s text r is. row_without text r is }
