-- What the reader of a journal has read, stage by stage: each row that it takes leads to a stage that tells that row besides.
use Rattle.std.proofs.Common.{◌≡◌, ℕ, ◌+◌, ◌^◌, ◌<◌, ◌≤◌, suc, Bool, true, false, ◌&&◌, ◌==◌, nat_le, if◌then◌else◌, List, [], ◌∷◌, ◌++◌, length, map, flat_map, count_by, Option, Some, None, Result, Ok, refl, sym, ◌∙◌, ap, arith, append_assoc, length-append, zero-add}
use Rattle.std.proofs.lemmas.Bool.Decides.{nat_tests}
use Rattle.std.proofs.lemmas.Grind.{flat_map-append}
use Rattle.std.proofs.lemmas.List.{append-nil, map-append}
use Rattle.wbt_counter.specs.declared.counter.Count.{Count}
use Rattle.wbt_journal.specs.declared.entry.CheckEntry.{CheckEntry}
use Rattle.wbt_journal.specs.declared.entry.CpuJournal.{CpuJournal}
use Rattle.wbt_journal.specs.declared.entry.DomainLine.{DomainLine}
use Rattle.wbt_journal.specs.declared.entry.Entry.{Entry}
use Rattle.wbt_journal.specs.declared.entry.Entry.TheVariants as entry
use Rattle.wbt_journal.specs.declared.journal.Ending.{Ending}
use Rattle.wbt_journal.specs.declared.journal.Ending.TheVariants as ending
use Rattle.wbt_journal.specs.declared.journal.Left.{Left}
use Rattle.wbt_journal_reader.specs.declared.builder.Builder.{Builder}
use Rattle.wbt_journal_reader.specs.declared.builder.Place.{Place}
use Rattle.wbt_journal_reader.specs.declared.builder.Place.TheVariants as place
use Rattle.wbt_journal_reader.specs.declared.row.Decided.{Decided}
use Rattle.wbt_journal_reader.specs.declared.row.Row.{Row}
use Rattle.wbt_journal_reader.specs.declared.row.Row.TheVariants as row
use Rattle.wbt_journal.specs.declared.timer.TimerEntry.{TimerEntry}
use Rattle.wbt_journal.specs.Each.{Each}
use Rattle.wbt_journal.specs.Forms.{HasForm}
use Rattle.wbt_journal.specs.Leaves.{LeftFrom}
use Rattle.wbt_journal.specs.Plain.{MarkedBy, HasBits}
use Rattle.wbt_journal_reader.specs.Rebuilding.{accept, start, refused, empty_part, is_census, are_totals}
use Rattle.wbt_journal_reader.specs.Rows.{row_lines, IsPlainRow, check_of}
use Rattle.wbt_journal.specs.Text.{fresh_of, done_of, is_left_dirty, is_left_writeback}
use Rattle.wbt_journal.specs.Told.{Told, wrote, folded, checked, claimed, batch, done, share, estimated, fault, gave_back, noticed, aged, took}
use Rattle.wbt_journal_reader.proofs.Parts.{part_of, told_of, part_entry, part_check, part_estimate}

-- ---- rows

abbrev pub decided_of : (c : CheckEntry) → Decided
decided_of c = record { task = c.task; context = c.context; now = c.now; estimate = c.estimate; decision = c.decision }

abbrev pub cgroup_rows : (cgroup : Option DomainLine) → List Row
cgroup_rows None = []
cgroup_rows (Some read) = row.Read read ∷ []

abbrev pub read_rows : (global : DomainLine) (cgroup : Option DomainLine) → List Row
read_rows global cgroup = row.Read global ∷ cgroup_rows cgroup

abbrev pub told_rows : (t : Told) → List Row
told_rows (wrote t p b) = row.Entry (entry.Write t p b) ∷ []
told_rows (folded f) = row.Entry (entry.Folded f) ∷ []
told_rows (checked c) = read_rows c.global c.cgroup ++ row.Count c.context c.count ∷ row.Check (decided_of c) ∷ []
told_rows (claimed f p) = row.Entry (entry.Claimed f p) ∷ []
told_rows (batch f n now until) = row.Entry (entry.Batch f n now until) ∷ []
told_rows (done f p) = row.Entry (entry.Done f p) ∷ []
told_rows (share d w n) = row.Entry (entry.Share d w n) ∷ []
told_rows (estimated x) = row.Estimate x ∷ []
told_rows (fault f n) = row.Entry (entry.Fault f n) ∷ []
told_rows (gave_back f p b) = row.Entry (entry.Back f p b) ∷ []
told_rows (noticed f i since) = row.Entry (entry.Noticed f i since) ∷ []
told_rows (aged f i due now) = row.Entry (entry.Aged f i due now) ∷ []
told_rows (took f i) = row.Entry (entry.Taken f i) ∷ []

abbrev pub part_rows : (cpu : ℕ) (ts : List Told) → List Row
part_rows cpu ts = row.Cpu cpu ∷ flat_map told_rows ts

abbrev pub parts_rows : (cpu : ℕ) (parts : List (List Told)) → List Row
parts_rows cpu [] = []
parts_rows cpu (ts ∷ parts) = part_rows cpu ts ++ parts_rows (cpu + 1) parts

abbrev pub timer_rows : (timer : List TimerEntry) → List Row
timer_rows timer = row.Timer ∷ map row.Timed timer

abbrev pub cpus_rows : (timer : List TimerEntry) (parts : List (List Told)) → List Row
cpus_rows timer parts = timer_rows timer ++ parts_rows 0 parts

abbrev pub left_rows : (timer : List TimerEntry) (parts : List (List Told)) (left : List Left) → List Row
left_rows timer parts left = cpus_rows timer parts ++ map row.Left left

abbrev pub census_row : (left : List Left) → Row
census_row left = row.Census (count_by is_left_dirty left) (count_by is_left_writeback left)

abbrev pub totals_row : (parts : List (List Told)) → Row
totals_row parts = row.Totals (fresh_of (map part_of parts)) (done_of (map part_of parts))

-- ---- stages

pub data Stage : Type 0 where
  begun : Stage
  in_timer : (timer : List TimerEntry) → Stage
  in_part : (timer : List TimerEntry) (parts : List (List Told)) (here : List Told) → Stage
  in_read : (timer : List TimerEntry) (parts : List (List Told)) (here : List Told) (global : DomainLine) (cgroup : Option DomainLine) → Stage
  in_count : (timer : List TimerEntry) (parts : List (List Told)) (here : List Told) (global : DomainLine) (cgroup : Option DomainLine) (context : ℕ) (count : Count) → Stage
  in_left : (timer : List TimerEntry) (parts : List (List Told)) (left : List Left) (next : ℕ) → Stage
  at_census : (timer : List TimerEntry) (parts : List (List Told)) (left : List Left) → Stage
  at_totals : (timer : List TimerEntry) (parts : List (List Told)) (left : List Left) → Stage
  at_end : (timer : List TimerEntry) (parts : List (List Told)) (left : List Left) (ended : Ending) → Stage

abbrev pub built : (timer : List TimerEntry) (cpus : List CpuJournal) (part : CpuJournal) (left : List Left) (ended : Ending) (where_now : Place) → Builder
built timer cpus part left ended where_now = record {
  journal = record { timer = timer; cpus = cpus; steps = []; bases = []; homes = []; left = left; strict = []; ending = ended };
  part = part;
  place = where_now;
}

abbrev pub state_of : (s : Stage) → Builder
state_of begun = start
state_of (in_timer timer) = built timer [] empty_part [] ending.Done place.Timer
state_of (in_part timer parts here) = built timer (map part_of parts) (part_of here) [] ending.Done place.Part
state_of (in_read timer parts here global cgroup) = built timer (map part_of parts) (part_of here) [] ending.Done (place.Read global cgroup)
state_of (in_count timer parts here global cgroup context count) = built timer (map part_of parts) (part_of here) [] ending.Done (place.Counted global cgroup context count)
state_of (in_left timer parts left next) = built timer (map part_of parts) empty_part left ending.Done (place.Left next)
state_of (at_census timer parts left) = built timer (map part_of parts) empty_part left ending.Done place.Census
state_of (at_totals timer parts left) = built timer (map part_of parts) empty_part left ending.Done place.Totals
state_of (at_end timer parts left ended) = built timer (map part_of parts) empty_part left ended place.End

abbrev pub rows_of : (s : Stage) → List Row
rows_of begun = []
rows_of (in_timer timer) = timer_rows timer
rows_of (in_part timer parts here) = cpus_rows timer parts ++ part_rows (length parts) here
rows_of (in_read timer parts here global cgroup) = (cpus_rows timer parts ++ part_rows (length parts) here) ++ read_rows global cgroup
rows_of (in_count timer parts here global cgroup context count) =
    ((cpus_rows timer parts ++ part_rows (length parts) here) ++ read_rows global cgroup) ++ row.Count context count ∷ []
rows_of (in_left timer parts left next) = left_rows timer parts left
rows_of (at_census timer parts left) = left_rows timer parts left ++ census_row left ∷ []
rows_of (at_totals timer parts left) = (left_rows timer parts left ++ census_row left ∷ []) ++ totals_row parts ∷ []
rows_of (at_end timer parts left ended) = ((left_rows timer parts left ++ census_row left ∷ []) ++ totals_row parts ∷ []) ++ row.End ended ∷ []

abbrev pub IsUnmarked : (t : Told) → Type 0
IsUnmarked t = MarkedBy (λ check. false) t

-- the least number that a page after these may have
abbrev pub next_after : (page : ℕ) (lefts : List Left) → ℕ
next_after page [] = page
next_after page (left ∷ more) = next_after (left.page + 1) more

abbrev pub AreLeft : (lefts : List Left) (next : ℕ) → Type 0
AreLeft lefts next = LeftFrom 0 lefts × (next_after 0 lefts ≡ next)

abbrev pub AreUnmarked : (parts : List (List Told)) → Type 0
AreUnmarked parts = Each (Each IsUnmarked) parts

-- no decision is marked, and the pages that are left are in order
abbrev pub Good : (s : Stage) → Type 0
Good begun = Unit {0}
Good (in_timer timer) = Unit {0}
Good (in_part timer parts here) = AreUnmarked parts × Each IsUnmarked here
Good (in_read timer parts here global cgroup) = AreUnmarked parts × Each IsUnmarked here
Good (in_count timer parts here global cgroup context count) = AreUnmarked parts × (Each IsUnmarked here × (context < 2 ^ 32))
Good (in_left timer parts left next) = AreUnmarked parts × AreLeft left next
Good (at_census timer parts left) = AreUnmarked parts × LeftFrom 0 left
Good (at_totals timer parts left) = AreUnmarked parts × LeftFrom 0 left
Good (at_end timer parts left ended) = AreUnmarked parts × LeftFrom 0 left

-- ---- small laws

each_snoc : {A : Type 0} (P : A → Type 0) (xs : List A) (x : A) → Each P xs → P x → Each P (xs ++ x ∷ [])
each_snoc P [] x all one = (one, tt)
each_snoc P (y ∷ ys) x all one = (all.0, each_snoc P ys x all.1 one)

left_snoc : (page : ℕ) (lefts : List Left) (left : Left) → LeftFrom page lefts → next_after page lefts ≤ left.page → HasBits left → LeftFrom page (lefts ++ left ∷ [])
left_snoc page [] left all from bits = (from, bits.0, bits.1, tt)
left_snoc page (l ∷ more) left all from bits = (all.0, all.1, all.2, left_snoc (l.page + 1) more left all.3 from bits)

next_snoc : (page : ℕ) (lefts : List Left) (left : Left) → next_after page (lefts ++ left ∷ []) ≡ left.page + 1
next_snoc page [] left = refl
next_snoc page (l ∷ more) left = next_snoc (l.page + 1) more left

parts_snoc : (cpu : ℕ) (parts : List (List Told)) (ts : List Told) → parts_rows cpu (parts ++ ts ∷ []) ≡ parts_rows cpu parts ++ part_rows (cpu + length parts) ts
parts_snoc cpu [] ts = append-nil (part_rows cpu ts) ∙ ap (λ (k : ℕ). part_rows k ts) (none_yet cpu)
  where
    none_yet : (c : ℕ) → c ≡ c + 0
    none_yet c = omega arith
parts_snoc cpu (p ∷ parts) ts =
    ap (λ (l : List Row). part_rows cpu p ++ l) (parts_snoc (cpu + 1) parts ts ∙ ap (λ (k : ℕ). parts_rows (cpu + 1) parts ++ part_rows k ts) (later cpu (length parts)))
    ∙ sym (append_assoc (part_rows cpu p) (parts_rows (cpu + 1) parts) (part_rows (cpu + suc (length parts)) ts))
  where
    later : (c k : ℕ) → (c + 1) + k ≡ c + suc k
    later c k = omega arith

-- a part is over
over : (timer : List TimerEntry) (parts : List (List Told)) (here : List Told) → cpus_rows timer (parts ++ here ∷ []) ≡ cpus_rows timer parts ++ part_rows (length parts) here
over timer parts here =
    ap (λ (l : List Row). timer_rows timer ++ l) (parts_snoc 0 parts here ∙ ap (λ (k : ℕ). parts_rows 0 parts ++ part_rows k here) (zero-add (length parts)))
    ∙ sym (append_assoc (timer_rows timer) (parts_rows 0 parts) (part_rows (length parts) here))

-- one entry more
more_told : (rs : List Row) (cpu : ℕ) (ts : List Told) (t : Told) → rs ++ part_rows cpu (ts ++ t ∷ []) ≡ (rs ++ part_rows cpu ts) ++ told_rows t
more_told rs cpu ts t =
    ap (λ (l : List Row). rs ++ row.Cpu cpu ∷ l) (flat_map-append told_rows ts (t ∷ []) ∙ ap (λ (l : List Row). flat_map told_rows ts ++ l) (append-nil (told_rows t)))
    ∙ sym (append_assoc rs (part_rows cpu ts) (told_rows t))

abbrev pub taken : (b : Builder) → Result Builder (Unit {0})
taken b = Ok b

ok_once : (b c : Builder) → taken b ≡ taken c → b ≡ c
ok_once b c is = cc

not_taken : (b : Builder) → refused ≡ Ok b → ⊥
not_taken b is = cc

if_taken : (test : Bool) (b c : Builder) → (if test then Ok b else refused) ≡ Ok c → (test ≡ true) × (b ≡ c)
if_taken true b c is = (refl, ok_once b c is)
if_taken false b c is = absurd (not_taken c is)

both : (a b : Bool) → (a && b) ≡ true → (a ≡ true) × (b ≡ true)
both true b is = (refl, is)
both false b is = cc

equal : (m n : ℕ) → (m == n) ≡ true → m ≡ n
equal m n is = grind (arith, nat_tests)

at_most : (m n : ℕ) → nat_le m n ≡ true → m ≤ n
at_most m n is = grind (arith, nat_tests)

-- ---- a row leads to a stage

pub record Next (s : Stage) (r : Row) (b : Builder) : Type 0 where
  pub to : Stage
  pub is : state_of to ≡ b
  pub rows : rows_of to ≡ rows_of s ++ r ∷ []
  pub good : Good to

abbrev Steps : (s : Stage) (r : Row) → Type 0
Steps s r = (b : Builder) → Good s → accept r (state_of s) ≡ Ok b → IsPlainRow r → Each HasForm (row_lines r) → Next s r b

from_begun : (r : Row) → Steps begun r
from_begun row.Timer = λ b good is plain form. record { to = in_timer []; is = ok_once (state_of (in_timer [])) b is; rows = refl; good = tt }
from_begun other = λ b good is plain form. absurd (not_taken b is)

end_of_timer : (timer : List TimerEntry) (l : List Row) → (timer_rows timer ++ []) ++ l ≡ timer_rows timer ++ l
end_of_timer timer l = ap (λ (k : List Row). k ++ l) (append-nil (timer_rows timer))

from_timer : (timer : List TimerEntry) (r : Row) → Steps (in_timer timer) r
from_timer timer (row.Timed e) = λ b good is plain form. record {
  to = in_timer (timer ++ e ∷ []);
  is = ok_once (state_of (in_timer (timer ++ e ∷ []))) b is;
  rows = ap (λ (l : List Row). row.Timer ∷ l) (map-append row.Timed timer (e ∷ []));
  good = tt;
}
from_timer timer (row.Cpu cpu) = λ b good is plain form.
    let t = if_taken (cpu == 0) (state_of (in_part timer [] [])) b is in
    record { to = in_part timer [] []; is = t.1; rows = end_of_timer timer (row.Cpu 0 ∷ []) ∙ ap (λ (k : ℕ). timer_rows timer ++ row.Cpu k ∷ []) (sym (equal cpu 0 t.0)); good = (tt, tt) }
from_timer timer (row.Left left) = λ b good is plain form.
    let t = if_taken (nat_le 0 left.page) (state_of (in_left timer [] (left ∷ []) (left.page + 1))) b is in record {
      to = in_left timer [] (left ∷ []) (left.page + 1);
      is = t.1;
      rows = end_of_timer timer (row.Left left ∷ []);
      good = (tt, ((omega arith, plain.0, plain.1, tt), refl));
    }
from_timer timer (row.Census dirty writeback) = λ b good is plain form.
    let t = if_taken (is_census dirty writeback []) (state_of (at_census timer [] [])) b is in
    let c = both (dirty == 0) (writeback == 0) t.0 in record {
      to = at_census timer [] [];
      is = t.1;
      rows = ap (λ (l : List Row). l ++ census_row [] ∷ []) (append-nil (timer_rows timer ++ []) ∙ append-nil (timer_rows timer))
          ∙ (λ i. timer_rows timer ++ row.Census (sym (equal dirty 0 c.0) i) (sym (equal writeback 0 c.1) i) ∷ []);
      good = (tt, tt);
    }
from_timer timer other = λ b good is plain form. absurd (not_taken b is)

-- the part's state after what its row tells
in_part_now : (timer : List TimerEntry) (parts : List (List Told)) (p q : CpuJournal) → p ≡ q
    → built timer (map part_of parts) p [] ending.Done place.Part ≡ built timer (map part_of parts) q [] ending.Done place.Part
in_part_now timer parts p q is = ap (λ (part : CpuJournal). built timer (map part_of parts) part [] ending.Done place.Part) is

-- the parts after one that is over
parts_now : (timer : List TimerEntry) (parts : List (List Told)) (here : List Told) (part : CpuJournal) (left : List Left) (where_now : Place)
    → built timer (map part_of (parts ++ here ∷ [])) part left ending.Done where_now ≡ built timer (map part_of parts ++ part_of here ∷ []) part left ending.Done where_now
parts_now timer parts here part left where_now = ap (λ (cpus : List CpuJournal). built timer cpus part left ending.Done where_now) (map-append part_of parts (here ∷ []))

unmarked : (e : Entry) → IsPlainRow (row.Entry e) → IsUnmarked (told_of e)
unmarked (entry.Check place) plain = absurd plain
unmarked (entry.Est place) plain = absurd plain
unmarked other plain = tt

entry_rows : (e : Entry) → IsPlainRow (row.Entry e) → told_rows (told_of e) ≡ row.Entry e ∷ []
entry_rows (entry.Check place) plain = absurd plain
entry_rows (entry.Est place) plain = absurd plain
entry_rows other plain = refl

next_cpu : (parts : List CpuJournal) (part : CpuJournal) → length (parts ++ part ∷ []) ≡ length parts + 1
next_cpu parts part = omega (arith, length-append parts (part ∷ []))

length_map : {A B : Type 0} (f : A → B) (xs : List A) → length (map f xs) ≡ length xs
length_map f [] = refl
length_map f (x ∷ xs) = ap suc (length_map f xs)

from_part : (timer : List TimerEntry) (parts : List (List Told)) (here : List Told) (r : Row) → Steps (in_part timer parts here) r
from_part timer parts here (row.Cpu cpu) = λ b good is plain form.
    let t = if_taken (cpu == length (map part_of parts ++ part_of here ∷ [])) (built timer (map part_of parts ++ part_of here ∷ []) empty_part [] ending.Done place.Part) b is in
    let many : length (parts ++ here ∷ []) ≡ cpu =
    omega (arith, equal cpu (length (map part_of parts ++ part_of here ∷ [])) t.0, next_cpu (map part_of parts) (part_of here), length_map part_of parts, length-append parts (here ∷ [])) in
    record {
      to = in_part timer (parts ++ here ∷ []) [];
      is = parts_now timer parts here empty_part [] place.Part ∙ t.1;
      rows = (λ i. over timer parts here i ++ row.Cpu (many i) ∷ []);
      good = (each_snoc (Each IsUnmarked) parts here good.0 good.1, tt);
    }
from_part timer parts here (row.Entry e) = λ b good is plain form. record {
  to = in_part timer parts (here ++ told_of e ∷ []);
  is = in_part_now timer parts (part_of (here ++ told_of e ∷ [])) _ (part_entry here e plain) ∙ ok_once _ b is;
  rows = more_told (cpus_rows timer parts) (length parts) here (told_of e)
      ∙ ap (λ (l : List Row). (cpus_rows timer parts ++ part_rows (length parts) here) ++ l) (entry_rows e plain);
  good = (good.0, each_snoc IsUnmarked here (told_of e) good.1 (unmarked e plain));
}
from_part timer parts here (row.Estimate x) = λ b good is plain form. record {
  to = in_part timer parts (here ++ estimated x ∷ []);
  is = in_part_now timer parts (part_of (here ++ estimated x ∷ [])) _ (part_estimate here x) ∙ ok_once _ b is;
  rows = more_told (cpus_rows timer parts) (length parts) here (estimated x);
  good = (good.0, each_snoc IsUnmarked here (estimated x) good.1 tt);
}
from_part timer parts here (row.Read read) = λ b good is plain form. record {
  to = in_read timer parts here read None;
  is = ok_once (state_of (in_read timer parts here read None)) b is;
  rows = refl;
  good = good;
}
from_part timer parts here (row.Left left) = λ b good is plain form.
    let t = if_taken (nat_le 0 left.page) (built timer (map part_of parts ++ part_of here ∷ []) empty_part (left ∷ []) ending.Done (place.Left (left.page + 1))) b is in record {
      to = in_left timer (parts ++ here ∷ []) (left ∷ []) (left.page + 1);
      is = parts_now timer parts here empty_part (left ∷ []) (place.Left (left.page + 1)) ∙ t.1;
      rows = ap (λ (l : List Row). l ++ row.Left left ∷ []) (over timer parts here);
      good = (each_snoc (Each IsUnmarked) parts here good.0 good.1, ((omega arith, plain.0, plain.1, tt), refl));
    }
from_part timer parts here (row.Census dirty writeback) = λ b good is plain form.
    let t = if_taken (is_census dirty writeback []) (built timer (map part_of parts ++ part_of here ∷ []) empty_part [] ending.Done place.Census) b is in
    let c = both (dirty == 0) (writeback == 0) t.0 in record {
      to = at_census timer (parts ++ here ∷ []) [];
      is = parts_now timer parts here empty_part [] place.Census ∙ t.1;
      rows = ap (λ (l : List Row). l ++ census_row [] ∷ []) (append-nil (cpus_rows timer (parts ++ here ∷ [])) ∙ over timer parts here)
          ∙ (λ i. (cpus_rows timer parts ++ part_rows (length parts) here) ++ row.Census (sym (equal dirty 0 c.0) i) (sym (equal writeback 0 c.1) i) ∷ []);
      good = (each_snoc (Each IsUnmarked) parts here good.0 good.1, tt);
    }
from_part timer parts here other = λ b good is plain form. absurd (not_taken b is)

from_read : (timer : List TimerEntry) (parts : List (List Told)) (here : List Told) (global : DomainLine) (cgroup : Option DomainLine) (r : Row) → Steps (in_read timer parts here global cgroup) r
from_read timer parts here global None (row.Read read) = λ b good is plain form. record {
  to = in_read timer parts here global (Some read);
  is = ok_once (state_of (in_read timer parts here global (Some read))) b is;
  rows = sym (append_assoc (cpus_rows timer parts ++ part_rows (length parts) here) (row.Read global ∷ []) (row.Read read ∷ []));
  good = good;
}
from_read timer parts here global cgroup (row.Count context count) = λ b good is plain form. record {
  to = in_count timer parts here global cgroup context count;
  is = ok_once (state_of (in_count timer parts here global cgroup context count)) b is;
  rows = refl;
  good = (good.0, (good.1, form.0.0));
}
from_read timer parts here global cgroup other = λ b good is plain form. absurd (not_taken b is)

from_count : (timer : List TimerEntry) (parts : List (List Told)) (here : List Told) (global : DomainLine) (cgroup : Option DomainLine) (context : ℕ) (count : Count) (r : Row)
    → Steps (in_count timer parts here global cgroup context count) r
from_count timer parts here global cgroup context count (row.Check decided) = λ b good is plain form.
    let check = check_of global cgroup count decided in
    let t = if_taken (decided.context == context) _ b is in
    let before = cpus_rows timer parts ++ part_rows (length parts) here in
    record {
      to = in_part timer parts (here ++ checked check ∷ []);
      is = in_part_now timer parts (part_of (here ++ checked check ∷ [])) _ (part_check here check) ∙ t.1;
      rows = more_told (cpus_rows timer parts) (length parts) here (checked check)
          ∙ sym (append_assoc before (read_rows global cgroup) (row.Count decided.context count ∷ row.Check decided ∷ []))
          ∙ (λ i. (before ++ read_rows global cgroup) ++ row.Count (equal decided.context context t.0 i) count ∷ row.Check decided ∷ [])
          ∙ sym (append_assoc (before ++ read_rows global cgroup) (row.Count context count ∷ []) (row.Check decided ∷ []));
      good = (good.0, each_snoc IsUnmarked here (checked check) good.1.0 plain);
    }
from_count timer parts here global cgroup context count other = λ b good is plain form. absurd (not_taken b is)

from_left : (timer : List TimerEntry) (parts : List (List Told)) (left : List Left) (next : ℕ) (r : Row) → Steps (in_left timer parts left next) r
from_left timer parts lefts next (row.Left left) = λ b good is plain form.
    let t = if_taken (nat_le next left.page) (state_of (in_left timer parts (lefts ++ left ∷ []) (left.page + 1))) b is in record {
      to = in_left timer parts (lefts ++ left ∷ []) (left.page + 1);
      is = t.1;
      rows = ap (λ (l : List Row). cpus_rows timer parts ++ l) (map-append row.Left lefts (left ∷ [])) ∙ sym (append_assoc (cpus_rows timer parts) (map row.Left lefts) (row.Left left ∷ []));
      good = (good.0, (left_snoc 0 lefts left good.1.0 (omega (arith, good.1.1, at_most next left.page t.0)) plain, next_snoc 0 lefts left));
    }
from_left timer parts lefts next (row.Census dirty writeback) = λ b good is plain form.
    let t = if_taken (is_census dirty writeback lefts) (state_of (at_census timer parts lefts)) b is in
    let c = both (dirty == count_by is_left_dirty lefts) (writeback == count_by is_left_writeback lefts) t.0 in record {
      to = at_census timer parts lefts;
      is = t.1;
      rows = (λ i. left_rows timer parts lefts ++ row.Census (sym (equal dirty (count_by is_left_dirty lefts) c.0) i) (sym (equal writeback (count_by is_left_writeback lefts) c.1) i) ∷ []);
      good = (good.0, good.1.0);
    }
from_left timer parts lefts next other = λ b good is plain form. absurd (not_taken b is)

from_census : (timer : List TimerEntry) (parts : List (List Told)) (left : List Left) (r : Row) → Steps (at_census timer parts left) r
from_census timer parts lefts (row.Totals fresh completed) = λ b good is plain form.
    let t = if_taken (are_totals fresh completed (map part_of parts)) (state_of (at_totals timer parts lefts)) b is in
    let c = both (fresh == fresh_of (map part_of parts)) (completed == done_of (map part_of parts)) t.0 in record {
      to = at_totals timer parts lefts;
      is = t.1;
      rows = (λ i. (left_rows timer parts lefts ++ census_row lefts ∷ [])
          ++ row.Totals (sym (equal fresh (fresh_of (map part_of parts)) c.0) i) (sym (equal completed (done_of (map part_of parts)) c.1) i) ∷ []);
      good = good;
    }
from_census timer parts lefts other = λ b good is plain form. absurd (not_taken b is)

from_totals : (timer : List TimerEntry) (parts : List (List Told)) (left : List Left) (r : Row) → Steps (at_totals timer parts left) r
from_totals timer parts lefts (row.End ended) = λ b good is plain form. record {
  to = at_end timer parts lefts ended;
  is = ok_once (state_of (at_end timer parts lefts ended)) b is;
  rows = refl;
  good = good;
}
from_totals timer parts lefts other = λ b good is plain form. absurd (not_taken b is)

from_end : (timer : List TimerEntry) (parts : List (List Told)) (left : List Left) (ended : Ending) (r : Row) → Steps (at_end timer parts left ended) r
from_end timer parts lefts ended r = λ b good is plain form. absurd (over_already r b is)
  where
    over_already : (r : Row) (b : Builder) → accept r (state_of (at_end timer parts lefts ended)) ≡ Ok b → ⊥
    over_already row.Timer b is = not_taken b is
    over_already other b is = not_taken b is

pub step : (s : Stage) (r : Row) → Steps s r
step begun r = from_begun r
step (in_timer timer) r = from_timer timer r
step (in_part timer parts here) r = from_part timer parts here r
step (in_read timer parts here global cgroup) r = from_read timer parts here global cgroup r
step (in_count timer parts here global cgroup context count) r = from_count timer parts here global cgroup context count r
step (in_left timer parts left next) r = from_left timer parts left next r
step (at_census timer parts left) r = from_census timer parts left r
step (at_totals timer parts left) r = from_totals timer parts left r
step (at_end timer parts left ended) r = from_end timer parts left ended r
