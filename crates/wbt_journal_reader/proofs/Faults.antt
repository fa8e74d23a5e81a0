-- The line at which reading ends is the first with which no plain journal's text begins.
use Rattle.std.proofs.Common.{◌≡◌, ℕ, zero, suc, ◌+◌, ◌^◌, ◌<◌, ◌≤◌, List, [], ◌∷◌, ◌++◌, length, Result, Ok, Err, IfOk, refl, sym, ◌∙◌, ap, subst, arith, append_assoc, length-append, inl, inr, ◌⊎◌}
use Rattle.wbt_text.specs.Cut.{Without}
use Rattle.wbt_text.specs.Reading.{Lead, Ends, HasAnswer, HasNoLine}
use Rattle.wbt_text.proofs.Cuts.{cut_once}
use Rattle.wbt_text.proofs.Leading.{one_answer}
use Rattle.wbt_journal.specs.declared.journal.Journal.{Journal}
use Rattle.wbt_journal_reader.specs.declared.builder.Builder.{Builder}
use Rattle.wbt_journal_reader.specs.declared.builder.Place.{Place}
use Rattle.wbt_journal_reader.specs.declared.builder.Place.TheVariants as place
use Rattle.wbt_journal_reader.specs.declared.read.JournalFault.{JournalFault}
use Rattle.wbt_journal_reader.specs.declared.read.JournalFault.TheVariants.{BadLine, NoMemory}
use Rattle.wbt_journal_reader.specs.declared.row.Row.{Row}
use Rattle.wbt_journal.specs.PlainJournal.{IsPlainJournal}
use Rattle.wbt_journal_reader.specs.FirstBad.{AreLines, BeginsPlain, IsFirstBad}
use Rattle.wbt_journal_reader.specs.Reading.{journals, end_at}
use Rattle.wbt_journal_reader.specs.Rebuilding.{start}
use Rattle.wbt_journal_reader.specs.Rows.{IsPlainRow, IsRow}
use Rattle.wbt_journal.specs.Text.{journal_text}
use Rattle.wbt_journal_reader.proofs.GoesOn.{goes_on}
use Rattle.wbt_journal_reader.proofs.Lines.{row_without, clear}
use Rattle.wbt_journal_reader.proofs.Plain.{IsFormed, each_append}
use Rattle.wbt_journal_reader.proofs.Runs.{Runs, runs_on}
use Rattle.wbt_journal_reader.proofs.Stages.{begun, at_end, state_of, rows_of}
use Rattle.wbt_journal_reader.proofs.Texts.{rows_text, rows_both, told_by, reached, told_whole, sound}
use Rattle.wbt_journal_reader.proofs.Whole.{complete}

-- ---- the text goes on otherwise after the line at which reading ends

pub record Cut (rs : List Row) (old new : Builder) (rest front after : List ℕ) : Type 0 where
  pub first : List ℕ
  pub without : Without 10 first
  pub is : rest ≡ first ++ 10 ∷ after
  pub on : (more : List ℕ) → Lead journals rs old (front ++ more) new (first ++ 10 ∷ more)

cut_lead : (rs : List Row) (old new : Builder) (text rest front after : List ℕ) → Lead journals rs old text new rest → AreLines (suc (length rs)) front → text ≡ front ++ after → Cut rs old new rest front after
cut_lead [] old new text rest front after lead lines split =
    let front_is : front ≡ lines.0 ++ 10 ∷ [] = lines.2 ∙ ap (λ (l : List ℕ). lines.0 ++ 10 ∷ l) lines.4 in
    let goes : (more : List ℕ) → front ++ more ≡ lines.0 ++ 10 ∷ more = λ more. ap (λ (l : List ℕ). l ++ more) front_is ∙ append_assoc lines.0 (10 ∷ []) more in
    record { first = lines.0; without = lines.3; is = sym lead.1 ∙ split ∙ goes after; on = λ more. (lead.0, goes more) }
cut_lead (r ∷ rs) old new text rest front after lead lines split =
    let goes : (more : List ℕ) → front ++ more ≡ lines.0 ++ 10 ∷ (lines.1 ++ more) = λ more. ap (λ (l : List ℕ). l ++ more) lines.2 ∙ append_assoc lines.0 (10 ∷ lines.1) more in
    let once = cut_once 10 lead.0 lines.0 lead.1 (lines.1 ++ after) (row_without lead.0 r lead.4) lines.3 (sym lead.3 ∙ split ∙ goes after) in
    let inner = cut_lead rs lead.2 new lead.1 rest lines.1 after lead.6 lines.4 once.1 in
    record {
      first = inner.first;
      without = inner.without;
      is = inner.is;
      on = λ more. (lead.0, lines.1 ++ more, lead.2, goes more ∙ ap (λ (l : List ℕ). l ++ 10 ∷ (lines.1 ++ more)) (sym once.0), lead.4, lead.5, inner.on more);
    }

ok_err : (j : Journal) (e : JournalFault) → Ok j ≡ Err e → ⊥
ok_err j e is = cc

not_both : (text : List ℕ) (j : Journal) (e : JournalFault) → HasAnswer journals start text (Ok j) → HasAnswer journals start text (Err e) → ⊥
not_both text j e a b = ok_err j e (one_answer journals start clear text (Ok j) (Err e) a b)

some_bytes : (first more : List ℕ) → first ++ 10 ∷ more ≡ [] → ⊥
some_bytes [] more is = cc
some_bytes (x ∷ xs) more is = cc

-- reading ends with the same answer where the text goes on otherwise
ends_too : (rs : List Row) (new : Builder) (rest front after more : List ℕ) (e : JournalFault) → Ends journals (length rs) new rest (Err e) → Cut rs start new rest front after → HasAnswer journals start (front ++ more) (Err e)
ends_too rs new rest front after more e (inl whole) cut = absurd (some_bytes cut.first after (sym cut.is ∙ whole.0))
ends_too rs new rest front after more e (inr (inl none)) cut =
    let no_line : HasNoLine journals new (cut.first ++ 10 ∷ more) = λ first others r split is.
    let once = cut_once 10 cut.first first more others cut.without (row_without first r is) split in
    none.1 cut.first after r cut.is (subst (λ (t : List ℕ). IsRow t r) (sym once.0) is) in
    (rs, new, cut.first ++ 10 ∷ more, cut.on more, inr (inl ((λ empty. some_bytes cut.first more empty), no_line, none.2)))
ends_too rs new rest front after more e (inr (inr off)) cut =
    let once = cut_once 10 cut.first off.0 after off.1 cut.without (row_without off.0 off.2 off.5) (sym cut.is ∙ off.4) in
    (rs, new, cut.first ++ 10 ∷ more, cut.on more, inr (inr (cut.first, more, off.2, off.3, refl, subst (λ (t : List ℕ). IsRow t off.2) (sym once.0) off.5, off.6, off.7)))

none_begins : (rs : List Row) (new : Builder) (text rest : List ℕ) (e : JournalFault) → Lead journals rs start text new rest → Ends journals (length rs) new rest (Err e) → BeginsPlain (suc (length rs)) text → ⊥
none_begins rs new text rest e lead ends b =
    let cut = cut_lead rs start new text rest b.0 b.1 lead b.4 b.5 in
    let tells = subst (λ (t : List ℕ). HasAnswer journals start t (Ok b.3)) b.7 (complete b.3 b.6) in
    not_both (b.0 ++ b.2) b.3 e tells (ends_too rs new rest b.0 b.1 b.2 e ends cut)

-- ---- up to there a plain journal's text begins so

record Front (n : ℕ) (old : Builder) (text : List ℕ) : Type 0 where
  rows : List Row
  to : Builder
  rest : List ℕ
  many : length rows ≡ n
  lead : Lead journals rows old text to rest

front_of : (n : ℕ) (rs : List Row) (old new : Builder) (text rest : List ℕ) → n ≤ length rs → Lead journals rs old text new rest → Front n old text
front_of zero rs old new text rest few lead = record { rows = []; to = old; rest = text; many = refl; lead = (refl, refl) }
front_of (suc n) [] old new text rest few lead = absurd (omega (arith, few))
front_of (suc n) (r ∷ rs) old new text rest few lead =
    let f = front_of n rs lead.2 new lead.1 rest (omega (arith, few)) lead.6 in
    record { rows = r ∷ f.rows; to = f.to; rest = f.rest; many = ap suc f.many; lead = (lead.0, lead.1, lead.2, lead.3, lead.4, lead.5, f.lead) }

lines_many : (n : ℕ) (front : List ℕ) → AreLines n front → n ≤ length front
lines_many zero front lines = omega arith
lines_many (suc n) front lines =
    let rest = lines_many n lines.1 lines.4 in omega (arith, rest, ap length lines.2, length-append lines.0 (10 ∷ lines.1))

begins : (n : ℕ) (text : List ℕ) → length text < 2 ^ 63 → Front n start text → BeginsPlain n text
begins n text short f =
    let told = told_by f.rows start text f.to f.rest f.lead in
    let at = reached begun f.rows f.to tt told.runs told.plain told.formed in
    let lines = told.lines n f.many in
    let few : length (rows_of at.to) + 8 < 2 ^ 64 =
    omega (arith, short, lines_many n (rows_text f.rows) lines, f.many, ap length at.rows, ap length told.is, length-append (rows_text f.rows) f.rest) in
    let on = goes_on at.to at.good few in
    let end = state_of (at_end on.timer on.parts on.left on.ended) in
    let runs = runs_on f.rows on.rows start f.to end told.runs (subst (λ (b : Builder). Runs on.rows b end) at.is on.runs) in
    let whole = told_whole (f.rows ++ on.rows) end runs (each_append IsPlainRow f.rows on.rows told.plain on.plain) (each_append IsFormed f.rows on.rows told.formed on.formed) (refl {a = place.End}) in
    (rows_text f.rows, f.rest, rows_text on.rows, end.journal, lines, told.is, whole.0, whole.1 ∙ rows_both f.rows on.rows)

-- ---- the first bad line

line_once : (m n : ℕ) (a : Result Journal JournalFault) → Err (BadLine m) ≡ a → a ≡ Err (BadLine n) → m ≡ n
line_once m n a p q = cc (p, q)

ended_line : (where_now : Place) (count : ℕ) (b : Builder) (line : ℕ) → Err (BadLine line) ≡ end_at where_now count b → line ≡ count + 1
ended_line place.End count b line is = absurd (ok_err b.journal (BadLine line) (sym is))
ended_line other count b line is = line_once line (count + 1) (Err (BadLine (count + 1))) is refl

-- reading ends after the lines that were taken
line_is : (rs : List Row) (new : Builder) (rest : List ℕ) (line : ℕ) → Ends journals (length rs) new rest (Err (BadLine line)) → line ≡ length rs + 1
line_is rs new rest line (inl whole) = ended_line new.place (length rs) new line whole.1
line_is rs new rest line (inr (inl none)) = line_once line (length rs + 1) (Err (BadLine (length rs + 1))) none.2 refl
line_is rs new rest line (inr (inr off)) = line_once line (length rs + 1) (Err (BadLine (length rs + 1))) off.7 refl

pub first_bad : (text : List ℕ) (line : ℕ) → length text < 2 ^ 63 → HasAnswer journals start text (Err (BadLine line)) → IsFirstBad line text
first_bad text line short (rs, new, rest, lead, ends) =
    let is = line_is rs new rest line ends in
    let after : line ≡ suc (length rs) = omega (arith, is) in
    record {
      other = λ j plain same. not_both text j (BadLine line) (subst (λ (t : List ℕ). HasAnswer journals start t (Ok j)) same (complete j plain)) (rs, new, rest, lead, ends);
      before = λ n less. begins n text short (front_of n rs start new text rest (omega (arith, less, is)) lead);
      here = λ b. none_begins rs new text rest (BadLine line) lead ends (subst (λ (n : ℕ). BeginsPlain n text) after b);
    }

-- ---- what a text tells

pub plain_of : (text : List ℕ) (r : Result Journal JournalFault) → HasAnswer journals start text r → IfOk r IsPlainJournal
plain_of text (Ok j) has = (sound text j has).0
plain_of text (Err e) has = tt

pub text_of : (text : List ℕ) (r : Result Journal JournalFault) → HasAnswer journals start text r → IfOk r (λ j. journal_text j ≡ text)
text_of text (Ok j) has = (sound text j has).1
text_of text (Err e) has = tt

pub exact_of : (text : List ℕ) (r : Result Journal JournalFault) → ((answer : Result Journal JournalFault) → HasAnswer journals start text answer → r ≡ answer)
    → (j : Journal) → IsPlainJournal j → journal_text j ≡ text → (r ≡ Ok j) ⊎ (r ≡ Err NoMemory)
exact_of text r exact j plain same = inl (exact (Ok j) (subst (λ (t : List ℕ). HasAnswer journals start t (Ok j)) same (complete j plain)))

pub first_of : (text : List ℕ) (r : Result Journal JournalFault) → length text < 2 ^ 63 → HasAnswer journals start text r → (line : ℕ) → r ≡ Err (BadLine line) → IsFirstBad line text
first_of text r short has line is = first_bad text line short (subst (λ (a : Result Journal JournalFault). HasAnswer journals start text a) is has)
