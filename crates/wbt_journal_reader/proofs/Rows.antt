-- A row is fixed by the word and the fields of its line.
use Rattle.std.proofs.Common.{◌≡◌, ℕ, ◌^◌, ◌<◌, ◌≤◌, zero, suc, pos, negsuc, Bool, true, false, nat_lt, if◌then◌else◌, List, [], ◌∷◌, Option, Some, None, IfSome, refl, sym, ◌∙◌, ap, subst, arith}
use Rattle.std.proofs.lemmas.Bool.Decides.{nat_tests}
use Rattle.wbt_counter.specs.declared.counter.Counter.TheVariants as counter
use Rattle.wbt_pause.specs.declared.decision.Kind.TheVariants as kind
use Rattle.wbt_journal.specs.declared.entry.Entry.TheVariants as entry
use Rattle.wbt_journal.specs.declared.field.Field.{Field}
use Rattle.wbt_journal.specs.declared.field.Field.TheVariants.{Name, Int, Domain, Context}
use Rattle.wbt_journal.specs.declared.journal.Ending.TheVariants as ending
use Rattle.wbt_journal_reader.specs.declared.row.Row.{Row}
use Rattle.wbt_journal_reader.specs.declared.row.Row.TheVariants as row
use Rattle.wbt_journal.specs.declared.timer.TimerEntry.TheVariants as timed
use Rattle.wbt_journal.specs.declared.word.Word.{Word}
use Rattle.wbt_journal.specs.declared.word.Word.TheVariants as word
use Rattle.wbt_journal.specs.Each.{Each}
use Rattle.wbt_journal_reader.specs.Fields.{InRange}
use Rattle.wbt_journal.specs.Forms.{Form, small, big, signed, counter, name, IsOf, AreOf, forms_of, HasForm}
use Rattle.wbt_journal.specs.Line.{Line, line, num}
use Rattle.wbt_journal.specs.Lines.{counter_field, fresh_field, back_field, kind_field, bits_field, ending_field}
use Rattle.wbt_journal_reader.specs.RowOf as of
use Rattle.wbt_journal_reader.specs.RowOf.{FieldKind, Shape}
use Rattle.wbt_journal_reader.specs.Rows.{row_lines, IsPlainRow}

-- ---- the values of a line

-- a value for each kind
abbrev Values : (kinds : List FieldKind) → Type 0
Values [] = Unit {0}
Values (k ∷ ks) = of.Value k × Values ks

-- the field that tells a value
abbrev field_for : (k : FieldKind) (v : of.Value k) → Field
field_for of.small n = num n
field_for of.big n = num n
field_for of.signed z = Int z
field_for of.counted c = counter_field c
field_for of.fresh b = fresh_field b
field_for of.decided k = kind_field k
field_for of.absorbed b = back_field b
field_for of.bits n = bits_field n
field_for of.ended e = ending_field e

-- the fields that tell values
abbrev fields_for : (ks : List FieldKind) (vs : Values ks) → List Field
fields_for [] vs = []
fields_for (k ∷ ks) vs = field_for k vs.0 ∷ fields_for ks vs.1

-- the row of values
abbrev row_for : (ks : List FieldKind) (row_with : of.RowWith ks) (vs : Values ks) → Row
row_for [] r vs = r
row_for (k ∷ ks) row_with vs = row_for ks (row_with vs.0) vs.1

-- the form of a kind's fields
abbrev form_of : (k : FieldKind) → Form
form_of of.small = small
form_of of.big = big
form_of of.signed = signed
form_of of.counted = counter
form_of other = name

-- the forms of fields of these kinds
abbrev forms_for : (ks : List FieldKind) → List Form
forms_for [] = []
forms_for (k ∷ ks) = form_of k ∷ forms_for ks

-- the bits of a page that is left are some of two; each other value is good
abbrev IsGood : (k : FieldKind) (v : of.Value k) → Type 0
IsGood of.bits n = (1 ≤ n) × (n ≤ 3)
IsGood other v = Unit {0}

-- each of the values is good
abbrev AreGood : (ks : List FieldKind) (vs : Values ks) → Type 0
AreGood [] vs = Unit {0}
AreGood (of.bits ∷ ks) vs = IsGood of.bits vs.0 × AreGood ks vs.1
AreGood (other ∷ ks) vs = AreGood ks vs.1

-- ---- a value is told by its field

value_again : (k : FieldKind) (v : of.Value k) → IsOf (form_of k) (field_for k v) → IsGood k v → of.value_of k (field_for k v) ≡ Some v
value_again of.small n less good = let is : nat_lt n (2 ^ 32) ≡ true = grind (arith, nat_tests) in rw is refl
value_again of.big n less good = let is : nat_lt n (2 ^ 64) ≡ true = grind (arith, nat_tests) in rw is refl
value_again of.signed (pos n) less good = let is : nat_lt n (2 ^ 63) ≡ true = grind (arith, nat_tests) in rw is refl
value_again of.signed (negsuc n) less good = let is : nat_lt n (2 ^ 63) ≡ true = grind (arith, nat_tests) in rw is refl
value_again of.counted (counter.Domain d) form good = refl
value_again of.counted (counter.Context c) form good = refl
value_again of.fresh true form good = refl
value_again of.fresh false form good = refl
value_again of.decided kind.Free form good = refl
value_again of.decided kind.Go form good = refl
value_again of.decided kind.Exempt form good = refl
value_again of.decided kind.Wait form good = refl
value_again of.absorbed true form good = refl
value_again of.absorbed false form good = refl
value_again of.bits zero form good = absurd (omega (arith, good.0))
value_again of.bits (suc zero) form good = refl
value_again of.bits (suc (suc zero)) form good = refl
value_again of.bits (suc (suc (suc zero))) form good = refl
value_again of.bits (suc (suc (suc (suc n)))) form good = absurd (omega (arith, good.1))
value_again of.ended ending.Done form good = refl
value_again of.ended ending.Halted form good = refl
value_again of.ended ending.Spent form good = refl
value_again of.ended ending.Faulted form good = refl

values_again : (ks : List FieldKind) (row_with : of.RowWith ks) (vs : Values ks) → AreOf (forms_for ks) (fields_for ks vs) → AreGood ks vs
    → of.told_by ks row_with (fields_for ks vs) ≡ Some (row_for ks row_with vs)
values_again [] r vs form good = refl
values_again (of.bits ∷ ks) row_with vs form good =
    ap (λ (told : Option (of.Value of.bits)). of.with_value told (λ v. of.told_by ks (row_with v) (fields_for ks vs.1))) (value_again of.bits vs.0 form.0 good.0)
    ∙ values_again ks (row_with vs.0) vs.1 form.1 good.1
values_again (k ∷ ks) row_with vs form good =
    ap (λ (told : Option (of.Value k)). of.with_value told (λ v. of.told_by ks (row_with v) (fields_for ks vs.1))) (value_again k vs.0 form.0 tt)
    ∙ values_again ks (row_with vs.0) vs.1 form.1 good

one_each : (ks : List FieldKind) (vs : Values ks) → of.as_many ks (fields_for ks vs) ≡ true
one_each [] vs = refl
one_each (k ∷ ks) vs = one_each ks vs.1

-- what is printed of a shape's values is read as their row
told_again : (s : Shape) (vs : Values s.kinds) → AreOf (forms_for s.kinds) (fields_for s.kinds vs) → AreGood s.kinds vs
    → of.row_by (Some s) (fields_for s.kinds vs) ≡ Some (row_for s.kinds s.row_with vs)
told_again s vs form good =
    ap (λ (b : Bool). if b then of.told_by s.kinds s.row_with (fields_for s.kinds vs) else None) (one_each s.kinds vs)
    ∙ values_again s.kinds s.row_with vs form good

-- the shape, where there is one
abbrev shape_in : (which : Option Shape) → Shape
shape_in None = record { kinds = []; row_with = row.Timer }
shape_in (Some s) = s

-- ---- a row is told by its line

-- the one line of a row tells the row
abbrev pub Again : (r : Row) (lines : List Line) → Type 0
Again r [] = Unit {0}
Again r (l ∷ more) = of.row_of l.word l.fields ≡ Some r

pub row_again : (r : Row) → IsPlainRow r → Each HasForm (row_lines r) → Again r (row_lines r)
row_again row.Timer plain form = told_again (shape_in (of.shape_of word.Timer)) tt form.0 tt
row_again (row.Timed (timed.Limits d now l)) plain form = told_again (shape_in (of.shape_of word.Limits)) (d, (now, (l.thresh, (l.bg, (l.hard, tt))))) form.0 tt
row_again (row.Timed (timed.Period d k)) plain form = told_again (shape_in (of.shape_of word.Period)) (d, (k, tt)) form.0 tt
row_again (row.Cpu c) plain form = told_again (shape_in (of.shape_of word.Cpu)) (c, tt) form.0 tt
row_again (row.Entry (entry.Write t p b)) plain form = told_again (shape_in (of.shape_of word.Write)) (t, (p, (b, tt))) form.0 tt
row_again (row.Entry (entry.Folded f)) plain form = told_again (shape_in (of.shape_of word.Fold)) (f.counter, (f.version, (f.delta, tt))) form.0 tt
row_again (row.Read x) plain form = told_again (shape_in (of.shape_of word.Read)) (x.domain, (x.triple, (x.limits.thresh, (x.limits.bg, (x.limits.hard, (x.count.version, (x.count.value, (x.share.period, (x.share.num, (x.share.den, tt)))))))))) form.0 tt
row_again (row.Count w x) plain form = told_again (shape_in (of.shape_of word.Count)) (w, (x.version, (x.value, tt))) form.0 tt
row_again (row.Check x) plain form =
    told_again (shape_in (of.shape_of word.Check)) (x.task, (x.context, (x.now, (x.estimate, (x.decision.kind, (x.decision.pause, (x.decision.left, (x.decision.task.nr_dirtied, (x.decision.task.nr_dirtied_pause, (x.decision.task.paused_when, tt)))))))))) form.0 tt
    ∙ ap (λ (b : Bool). Some (row.Check (record x { decision = record x.decision { exceeded = b } }))) (sym plain)
row_again (row.Entry (entry.Claimed f p)) plain form = told_again (shape_in (of.shape_of word.Claim)) (f, (p, tt)) form.0 tt
row_again (row.Entry (entry.Batch f n now until)) plain form = told_again (shape_in (of.shape_of word.Batch)) (f, (n, (now, (until, tt)))) form.0 tt
row_again (row.Entry (entry.Done f p)) plain form = told_again (shape_in (of.shape_of word.Done)) (f, (p, tt)) form.0 tt
row_again (row.Entry (entry.Share d w n)) plain form = told_again (shape_in (of.shape_of word.Share)) (d, (w, (n, tt))) form.0 tt
row_again (row.Estimate x) plain form = told_again (shape_in (of.shape_of word.Est)) (x.context, (x.estimate.version, (x.estimate.bw, (x.estimate.avg, (x.estimate.ratelimit, (x.estimate.balanced, (x.estimate.written_stamp, (x.estimate.dirtied_stamp, (x.estimate.at, tt))))))))) form.0 tt
row_again (row.Entry (entry.Fault f n)) plain form = told_again (shape_in (of.shape_of word.Fault)) (f, (n, tt)) form.0 tt
row_again (row.Entry (entry.Back f p b)) plain form = told_again (shape_in (of.shape_of word.Back)) (f, (p, (b, tt))) form.0 tt
row_again (row.Entry (entry.Noticed f i since)) plain form = told_again (shape_in (of.shape_of word.Notice)) (f, (i, (since, tt))) form.0 tt
row_again (row.Entry (entry.Aged f i due now)) plain form = told_again (shape_in (of.shape_of word.Age)) (f, (i, (due, (now, tt)))) form.0 tt
row_again (row.Entry (entry.Taken f i)) plain form = told_again (shape_in (of.shape_of word.Take)) (f, (i, tt)) form.0 tt
row_again (row.Left x) plain form = told_again (shape_in (of.shape_of word.Left)) (x.page, (x.word, tt)) form.0 (plain, tt)
row_again (row.Census a b) plain form = told_again (shape_in (of.shape_of word.Census)) (a, (b, tt)) form.0 tt
row_again (row.Totals a b) plain form = told_again (shape_in (of.shape_of word.Totals)) (a, (b, tt)) form.0 tt
row_again (row.End e) plain form = told_again (shape_in (of.shape_of word.End)) (e, tt) form.0 tt
row_again (row.Entry (entry.Check place)) plain form = tt
row_again (row.Entry (entry.Est place)) plain form = tt

-- ---- a field is fixed by its value

-- the field is the value's, and the value is good
record Back (k : FieldKind) (f : Field) (v : of.Value k) : Type 0 where
  pub is : f ≡ field_for k v
  pub of : IsOf (form_of k) f
  pub good : IsGood k v

none_some : {A : Type 0} (a : A) → None ≡ Some a → ⊥
none_some a is = cc

some_once : {A : Type 0} (a b : A) → Some a ≡ Some b → a ≡ b
some_once a b is = cc

tested : {A : Type 0} (b : Bool) (a : Option A) (c : A) → (if b then a else None) ≡ Some c → (b ≡ true) × (a ≡ Some c)
tested true a c is = (refl, is)
tested false a c is = absurd (none_some c is)

limited : (n most : ℕ) {A : Type 0} (a c : A) → (if nat_lt n most then Some a else None) ≡ Some c → (n < most) × (a ≡ c)
limited n most a c is = let t = tested (nat_lt n most) (Some a) c is in (grind (arith, nat_tests, t.0), some_once a c t.1)

value_back : (k : FieldKind) (f : Field) (v : of.Value k) → InRange f → of.value_of k f ≡ Some v → Back k f v
value_back of.small (Int (pos m)) v range is = let t = limited m (2 ^ 32) m v is in record { is = ap num t.1; of = t.0; good = tt }
value_back of.big (Int (pos m)) v range is = let t = limited m (2 ^ 64) m v is in record { is = ap num t.1; of = t.0; good = tt }
value_back of.signed (Int (pos m)) v range is = let t = limited m (2 ^ 63) (pos m) v is in record { is = ap Int t.1; of = t.0; good = tt }
value_back of.signed (Int (negsuc m)) v range is = let t = limited m (2 ^ 63) (negsuc m) v is in record { is = ap Int t.1; of = t.0; good = tt }
value_back of.counted (Domain d) v range is = record { is = ap counter_field (some_once (counter.Domain d) v is); of = range; good = tt }
value_back of.counted (Context d) v range is = record { is = ap counter_field (some_once (counter.Context d) v is); of = range; good = tt }
value_back of.fresh (Name word.Fresh) v range is = record { is = ap fresh_field (some_once true v is); of = tt; good = tt }
value_back of.fresh (Name word.Already) v range is = record { is = ap fresh_field (some_once false v is); of = tt; good = tt }
value_back of.decided (Name word.Free) v range is = record { is = ap kind_field (some_once kind.Free v is); of = tt; good = tt }
value_back of.decided (Name word.Go) v range is = record { is = ap kind_field (some_once kind.Go v is); of = tt; good = tt }
value_back of.decided (Name word.Exempt) v range is = record { is = ap kind_field (some_once kind.Exempt v is); of = tt; good = tt }
value_back of.decided (Name word.Wait) v range is = record { is = ap kind_field (some_once kind.Wait v is); of = tt; good = tt }
value_back of.absorbed (Name word.Absorbed) v range is = record { is = ap back_field (some_once true v is); of = tt; good = tt }
value_back of.absorbed (Name word.Dirty) v range is = record { is = ap back_field (some_once false v is); of = tt; good = tt }
value_back of.bits (Name word.Dirty) v range is = let same = some_once 1 v is in record { is = ap bits_field same; of = tt; good = (omega (arith, same), omega (arith, same)) }
value_back of.bits (Name word.Writeback) v range is = let same = some_once 2 v is in record { is = ap bits_field same; of = tt; good = (omega (arith, same), omega (arith, same)) }
value_back of.bits (Name word.Both) v range is = let same = some_once 3 v is in record { is = ap bits_field same; of = tt; good = (omega (arith, same), omega (arith, same)) }
value_back of.ended (Name word.Done) v range is = record { is = ap ending_field (some_once ending.Done v is); of = tt; good = tt }
value_back of.ended (Name word.Halted) v range is = record { is = ap ending_field (some_once ending.Halted v is); of = tt; good = tt }
value_back of.ended (Name word.Spent) v range is = record { is = ap ending_field (some_once ending.Spent v is); of = tt; good = tt }
value_back of.ended (Name word.Faulted) v range is = record { is = ap ending_field (some_once ending.Faulted v is); of = tt; good = tt }
value_back of.small other v range is = absurd (none_some v is)
value_back of.big other v range is = absurd (none_some v is)
value_back of.signed other v range is = absurd (none_some v is)
value_back of.counted other v range is = absurd (none_some v is)
value_back of.fresh other v range is = absurd (none_some v is)
value_back of.decided other v range is = absurd (none_some v is)
value_back of.absorbed other v range is = absurd (none_some v is)
value_back of.bits other v range is = absurd (none_some v is)
value_back of.ended other v range is = absurd (none_some v is)

record Value {A : Type 0} (told : Option A) (row_with : A → Option Row) (r : Row) : Type 0 where
  pub a : A
  pub is : told ≡ Some a
  pub on : row_with a ≡ Some r

value : {A : Type 0} (told : Option A) (row_with : A → Option Row) (r : Row) → of.with_value told row_with ≡ Some r → Value told row_with r
value (Some a) row_with r is = record { a = a; is = refl; on = is }
value None row_with r is = absurd (none_some r is)

-- the fields tell good values, which the row is of
record Told (ks : List FieldKind) (row_with : of.RowWith ks) (fields : List Field) (r : Row) : Type 0 where
  pub vs : Values ks
  pub fields_are : fields ≡ fields_for ks vs
  pub row_is : row_for ks row_with vs ≡ r
  pub form : AreOf (forms_for ks) fields
  pub good : AreGood ks vs

good_more : (k : FieldKind) (ks : List FieldKind) (v : of.Value k) (vs : Values ks) → IsGood k v → AreGood ks vs → AreGood (k ∷ ks) (v, vs)
good_more of.bits ks v vs good more = (good, more)
good_more k ks v vs good more = more

values_back : (ks : List FieldKind) (row_with : of.RowWith ks) (fields : List Field) (r : Row) → Each InRange fields → of.as_many ks fields ≡ true
    → of.told_by ks row_with fields ≡ Some r → Told ks row_with fields r
values_back [] row_with [] r range many is = record { vs = tt; fields_are = refl; row_is = some_once row_with r is; form = tt; good = tt }
values_back [] row_with (f ∷ fs) r range many is = cc
values_back (k ∷ ks) row_with [] r range many is = cc
values_back (k ∷ ks) row_with (f ∷ fs) r range many is =
    let v = value (of.value_of k f) (λ a. of.told_by ks (row_with a) fs) r is in
    let back = value_back k f v.a range.0 v.is in
    let more = values_back ks (row_with v.a) fs r range.1 many v.on in
    record {
      vs = (v.a, more.vs);
      fields_are = λ i. back.is i ∷ more.fields_are i;
      row_is = more.row_is;
      form = (back.of, more.form);
      good = good_more k ks v.a more.vs back.good more.good;
    }

-- ---- a line is told by its row

-- the row says what the line does
pub record Says (w : Word) (fields : List Field) (r : Row) : Type 0 where
  pub lines : row_lines r ≡ line w fields ∷ []
  pub plain : IsPlainRow r
  pub form : HasForm (line w fields)

-- the rows of a shape are plain, and their lines have its word, fields and forms
record Prints (w : Word) (s : Shape) : Type 0 where
  pub lines : (vs : Values s.kinds) → row_lines (row_for s.kinds s.row_with vs) ≡ line w (fields_for s.kinds vs) ∷ []
  pub forms : forms_for s.kinds ≡ forms_of w
  pub plain : (vs : Values s.kinds) → AreGood s.kinds vs → IsPlainRow (row_for s.kinds s.row_with vs)

shaped : (w : Word) → IfSome (of.shape_of w) (Prints w)
shaped word.Timer = record { lines = λ vs. refl; forms = refl; plain = λ vs good. tt }
shaped word.Limits = record { lines = λ vs. refl; forms = refl; plain = λ vs good. tt }
shaped word.Period = record { lines = λ vs. refl; forms = refl; plain = λ vs good. tt }
shaped word.Cpu = record { lines = λ vs. refl; forms = refl; plain = λ vs good. tt }
shaped word.Write = record { lines = λ vs. refl; forms = refl; plain = λ vs good. tt }
shaped word.Fold = record { lines = λ vs. refl; forms = refl; plain = λ vs good. tt }
shaped word.Read = record { lines = λ vs. refl; forms = refl; plain = λ vs good. tt }
shaped word.Count = record { lines = λ vs. refl; forms = refl; plain = λ vs good. tt }
shaped word.Check = record { lines = λ vs. refl; forms = refl; plain = λ vs good. refl }
shaped word.Claim = record { lines = λ vs. refl; forms = refl; plain = λ vs good. tt }
shaped word.Batch = record { lines = λ vs. refl; forms = refl; plain = λ vs good. tt }
shaped word.Done = record { lines = λ vs. refl; forms = refl; plain = λ vs good. tt }
shaped word.Share = record { lines = λ vs. refl; forms = refl; plain = λ vs good. tt }
shaped word.Est = record { lines = λ vs. refl; forms = refl; plain = λ vs good. tt }
shaped word.Fault = record { lines = λ vs. refl; forms = refl; plain = λ vs good. tt }
shaped word.Back = record { lines = λ vs. refl; forms = refl; plain = λ vs good. tt }
shaped word.Notice = record { lines = λ vs. refl; forms = refl; plain = λ vs good. tt }
shaped word.Age = record { lines = λ vs. refl; forms = refl; plain = λ vs good. tt }
shaped word.Take = record { lines = λ vs. refl; forms = refl; plain = λ vs good. tt }
shaped word.Left = record { lines = λ vs. refl; forms = refl; plain = λ vs good. good.0 }
shaped word.Census = record { lines = λ vs. refl; forms = refl; plain = λ vs good. tt }
shaped word.Totals = record { lines = λ vs. refl; forms = refl; plain = λ vs good. tt }
shaped word.End = record { lines = λ vs. refl; forms = refl; plain = λ vs good. tt }
shaped other = tt

sound : (w : Word) (which : Option Shape) (fields : List Field) (r : Row) → IfSome which (Prints w) → Each InRange fields → of.row_by which fields ≡ Some r → Says w fields r
sound w None fields r prints range is = absurd (none_some r is)
sound w (Some s) fields r prints range is =
    let t = tested (of.as_many s.kinds fields) (of.told_by s.kinds s.row_with fields) r is in
    let told = values_back s.kinds s.row_with fields r range t.0 t.1 in
    record {
      lines = ap row_lines (sym told.row_is) ∙ prints.lines told.vs ∙ ap (λ (fs : List Field). line w fs ∷ []) (sym told.fields_are);
      plain = subst IsPlainRow told.row_is (prints.plain told.vs told.good);
      form = subst (λ (forms : List Form). AreOf forms fields) prints.forms told.form;
    }

pub row_sound : (w : Word) (fields : List Field) (r : Row) → Each InRange fields → of.row_of w fields ≡ Some r → Says w fields r
row_sound w fields r range is = sound w (of.shape_of w) fields r (shaped w) range is
