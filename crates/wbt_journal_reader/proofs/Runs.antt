-- The reader takes each row of a plain journal.
use Rattle.std.proofs.Common.{◌≡◌, ℕ, suc, ◌+◌, ◌≤◌, Bool, true, ◌&&◌, ◌==◌, nat_le, if◌then◌else◌, List, [], ◌∷◌, ◌++◌, length, map, flat_map, count_by, Option, Some, None, Ok, refl, sym, ◌∙◌, ap, subst, arith, append_assoc, length-append}
use Rattle.std.proofs.lemmas.Bool.Decides.{nat_tests}
use Rattle.std.proofs.lemmas.List.{append-nil, map-append}
use Rattle.wbt_counter.specs.declared.counter.Count.{Count}
use Rattle.wbt_journal.specs.declared.entry.CpuJournal.{CpuJournal}
use Rattle.wbt_journal.specs.declared.entry.DomainLine.{DomainLine}
use Rattle.wbt_journal.specs.declared.entry.Entry.{Entry}
use Rattle.wbt_journal.specs.declared.entry.Entry.TheVariants as entry
use Rattle.wbt_journal.specs.declared.journal.Ending.{Ending}
use Rattle.wbt_journal.specs.declared.journal.Ending.TheVariants as ending
use Rattle.wbt_journal.specs.declared.journal.Left.{Left}
use Rattle.wbt_journal_reader.specs.declared.builder.Builder.{Builder}
use Rattle.wbt_journal_reader.specs.declared.builder.Place.TheVariants as place
use Rattle.wbt_journal_reader.specs.declared.row.Decided.{Decided}
use Rattle.wbt_journal_reader.specs.declared.row.Row.{Row}
use Rattle.wbt_journal_reader.specs.declared.row.Row.TheVariants as row
use Rattle.wbt_journal.specs.declared.timer.TimerEntry.{TimerEntry}
use Rattle.wbt_journal.specs.Leaves.{LeftFrom}
use Rattle.wbt_journal_reader.specs.Rebuilding.{accept, refused, empty_part, is_census, are_totals}
use Rattle.wbt_journal_reader.specs.Rows.{IsPlainRow, check_of}
use Rattle.wbt_journal.specs.Text.{fresh_of, done_of, is_left_dirty, is_left_writeback}
use Rattle.wbt_journal.specs.Told.{Told, wrote, folded, checked, claimed, batch, done, share, estimated, fault, gave_back, noticed, aged, took}
use Rattle.wbt_journal_reader.proofs.Parts.{part_of, told_of, part_entry, part_check, part_estimate}
use Rattle.wbt_journal_reader.proofs.Stages.{decided_of, told_rows, part_rows, parts_rows, timer_rows, census_row, totals_row, in_timer, in_part, in_read, in_count, in_left, at_census, at_totals, at_end, built, state_of, next_after, taken}

-- these rows are taken one by one, from one state to another
abbrev pub Runs : (rs : List Row) (b c : Builder) → Type 0
Runs [] b c = b ≡ c
Runs (r ∷ rs) b c = (u : Builder) × (accept r b ≡ Ok u) × Runs rs u c

pub runs_on : (qs rs : List Row) (b c d : Builder) → Runs qs b c → Runs rs c d → Runs (qs ++ rs) b d
runs_on [] rs b c d first more = subst (λ (s : Builder). Runs rs s d) (sym first) more
runs_on (q ∷ qs) rs b c d first more = (first.0, first.1, runs_on qs rs first.0 c d first.2 more)

runs_to : (rs : List Row) (b c d : Builder) → c ≡ d → Runs rs b c → Runs rs b d
runs_to rs b c d is runs = subst (λ (s : Builder). Runs rs b s) is runs

pub one : (r : Row) (b c : Builder) → accept r b ≡ Ok c → Runs (r ∷ []) b c
one r b c is = (c, is, refl)

-- ---- tests that hold

same : (n : ℕ) → (n == n) ≡ true
same n = grind (arith, nat_tests)

within : (m n : ℕ) → m ≤ n → nat_le m n ≡ true
within m n less = grind (arith, nat_tests)

if_so : (test : Bool) (b : Builder) → test ≡ true → (if test then taken b else refused) ≡ taken b
if_so test b is = ap (λ (t : Bool). if t then taken b else refused) is

both_so : (a b : Bool) → a ≡ true → b ≡ true → (a && b) ≡ true
both_so a b p q = (λ i. p i && q i)

-- ---- the timer

pub timer_runs : (timer more : List TimerEntry) → Runs (map row.Timed more) (state_of (in_timer timer)) (state_of (in_timer (timer ++ more)))
timer_runs timer [] = ap (λ (l : List TimerEntry). state_of (in_timer l)) (sym (append-nil timer))
timer_runs timer (e ∷ more) = (
  state_of (in_timer (timer ++ e ∷ [])),
  refl,
  subst (λ (l : List TimerEntry). Runs (map row.Timed more) (state_of (in_timer (timer ++ e ∷ []))) (state_of (in_timer l))) (append_assoc timer (e ∷ []) more) (timer_runs (timer ++ e ∷ []) more),
)

-- ---- one entry of a part

abbrev TellsMore : (t : Told) → Type 0
TellsMore t = (timer : List TimerEntry) (parts : List (List Told)) (here : List Told) → Runs (told_rows t) (state_of (in_part timer parts here)) (state_of (in_part timer parts (here ++ t ∷ [])))

with_part : (timer : List TimerEntry) (parts : List (List Told)) (p q : CpuJournal) → p ≡ q
    → built timer (map part_of parts) p [] ending.Done place.Part ≡ built timer (map part_of parts) q [] ending.Done place.Part
with_part timer parts p q is = ap (λ (part : CpuJournal). built timer (map part_of parts) part [] ending.Done place.Part) is

entry_runs : (e : Entry) → IsPlainRow (row.Entry e) → (timer : List TimerEntry) (parts : List (List Told)) (here : List Told)
    → Runs (row.Entry e ∷ []) (state_of (in_part timer parts here)) (state_of (in_part timer parts (here ++ told_of e ∷ [])))
entry_runs e plain timer parts here = one (row.Entry e) (state_of (in_part timer parts here)) (state_of (in_part timer parts (here ++ told_of e ∷ [])))
    (ap taken (with_part timer parts (record (part_of here) { entries = (part_of here).entries ++ e ∷ [] }) (part_of (here ++ told_of e ∷ [])) (sym (part_entry here e plain))))

pub check_taken : (timer : List TimerEntry) (parts : List (List Told)) (here : List Told) (global : DomainLine) (cgroup : Option DomainLine) (count : Count) (decided : Decided)
    → accept (row.Check decided) (state_of (in_count timer parts here global cgroup decided.context count)) ≡ Ok (state_of (in_part timer parts (here ++ checked (check_of global cgroup count decided) ∷ [])))
check_taken timer parts here global cgroup count decided =
    let check = check_of global cgroup count decided in
    let part : CpuJournal = record (part_of here) { entries = (part_of here).entries ++ entry.Check (length (part_of here).checks) ∷ []; checks = (part_of here).checks ++ check ∷ [] } in
    if_so (decided.context == decided.context) (built timer (map part_of parts) part [] ending.Done place.Part) (same decided.context)
    ∙ ap taken (with_part timer parts part (part_of (here ++ checked check ∷ [])) (sym (part_check here check)))

check_runs : (global : DomainLine) (cgroup : Option DomainLine) (count : Count) (decided : Decided) → TellsMore (checked (check_of global cgroup count decided))
check_runs global None count decided = λ timer parts here. (
  state_of (in_read timer parts here global None),
  refl,
  (state_of (in_count timer parts here global None decided.context count), refl, one (row.Check decided) (state_of (in_count timer parts here global None decided.context count)) (state_of (in_part timer parts (here ++ checked (check_of global None count decided) ∷ []))) (check_taken timer parts here global None count decided)),
)
check_runs global (Some read) count decided = λ timer parts here. (
  state_of (in_read timer parts here global None),
  refl,
  (
    state_of (in_read timer parts here global (Some read)),
    refl,
    (state_of (in_count timer parts here global (Some read) decided.context count), refl, one (row.Check decided) (state_of (in_count timer parts here global (Some read) decided.context count)) (state_of (in_part timer parts (here ++ checked (check_of global (Some read) count decided) ∷ []))) (check_taken timer parts here global (Some read) count decided)),
  ),
)

told_runs : (t : Told) → TellsMore t
told_runs (wrote t p b) = entry_runs (entry.Write t p b) tt
told_runs (folded f) = entry_runs (entry.Folded f) tt
told_runs (checked c) = check_runs c.global c.cgroup c.count (decided_of c)
told_runs (claimed f p) = entry_runs (entry.Claimed f p) tt
told_runs (batch f n now until) = entry_runs (entry.Batch f n now until) tt
told_runs (done f p) = entry_runs (entry.Done f p) tt
told_runs (share d w n) = entry_runs (entry.Share d w n) tt
told_runs (estimated x) = λ timer parts here. one (row.Estimate x) (state_of (in_part timer parts here)) (state_of (in_part timer parts (here ++ estimated x ∷ [])))
    (ap taken (with_part timer parts (record (part_of here) { entries = (part_of here).entries ++ entry.Est (length (part_of here).estimates) ∷ []; estimates = (part_of here).estimates ++ x ∷ [] })
    (part_of (here ++ estimated x ∷ [])) (sym (part_estimate here x))))
told_runs (fault f n) = entry_runs (entry.Fault f n) tt
told_runs (gave_back f p b) = entry_runs (entry.Back f p b) tt
told_runs (noticed f i since) = entry_runs (entry.Noticed f i since) tt
told_runs (aged f i due now) = entry_runs (entry.Aged f i due now) tt
told_runs (took f i) = entry_runs (entry.Taken f i) tt

part_runs : (timer : List TimerEntry) (parts : List (List Told)) (here more : List Told) → Runs (flat_map told_rows more) (state_of (in_part timer parts here)) (state_of (in_part timer parts (here ++ more)))
part_runs timer parts here [] = ap (λ (l : List Told). state_of (in_part timer parts l)) (sym (append-nil here))
part_runs timer parts here (t ∷ more) =
    runs_on (told_rows t) (flat_map told_rows more) (state_of (in_part timer parts here)) (state_of (in_part timer parts (here ++ t ∷ []))) (state_of (in_part timer parts (here ++ t ∷ more))) (told_runs t timer parts here)
    (subst (λ (l : List Told). Runs (flat_map told_rows more) (state_of (in_part timer parts (here ++ t ∷ []))) (state_of (in_part timer parts l))) (append_assoc here (t ∷ []) more) (part_runs timer parts (here ++ t ∷ []) more))

-- ---- all parts

-- the parts so far are over, or can be
pub record Between (timer : List TimerEntry) (parts : List (List Told)) (b : Builder) : Type 0 where
  pub cpu : accept (row.Cpu (length parts)) b ≡ Ok (state_of (in_part timer parts []))
  pub left : (l : Left) → accept (row.Left l) b ≡ Ok (state_of (in_left timer parts (l ∷ []) (l.page + 1)))
  pub census : accept (census_row []) b ≡ Ok (state_of (at_census timer parts []))

pub after_timer : (timer : List TimerEntry) → Between timer [] (state_of (in_timer timer))
after_timer timer = record { cpu = refl; left = λ l. if_so (nat_le 0 l.page) (state_of (in_left timer [] (l ∷ []) (l.page + 1))) (within 0 l.page (omega arith)); census = refl }

over_now : (timer : List TimerEntry) (parts : List (List Told)) (here : List Told) → map part_of parts ++ part_of here ∷ [] ≡ map part_of (parts ++ here ∷ [])
over_now timer parts here = sym (map-append part_of parts (here ∷ []))

length_map : {A B : Type 0} (f : A → B) (xs : List A) → length (map f xs) ≡ length xs
length_map f [] = refl
length_map f (x ∷ xs) = ap suc (length_map f xs)

pub after_part : (timer : List TimerEntry) (parts : List (List Told)) (here : List Told) → Between timer (parts ++ here ∷ []) (state_of (in_part timer parts here))
after_part timer parts here =
    let now = over_now timer parts here in
    let cpus = map part_of parts ++ part_of here ∷ [] in
    let number : length (parts ++ here ∷ []) ≡ length cpus = sym (length_map part_of (parts ++ here ∷ [])) ∙ ap length (sym now) in
    let is_next : (length (parts ++ here ∷ []) == length cpus) ≡ true = ap (λ (k : ℕ). k == length cpus) number ∙ same (length cpus) in
    record {
      cpu = if_so (length (parts ++ here ∷ []) == length cpus) (built timer cpus empty_part [] ending.Done place.Part) is_next ∙ (λ i. taken (built timer (now i) empty_part [] ending.Done place.Part));
      left = λ l. if_so (nat_le 0 l.page) (built timer cpus empty_part (l ∷ []) ending.Done (place.Left (l.page + 1))) (within 0 l.page (omega arith)) ∙ (λ i. taken (built timer (now i) empty_part (l ∷ []) ending.Done (place.Left (l.page + 1))));
      census = (λ i. taken (built timer (now i) empty_part [] ending.Done place.Census));
    }

pub record PartsRun (timer : List TimerEntry) (rs : List Row) (parts : List (List Told)) (b : Builder) : Type 0 where
  pub to : Builder
  pub runs : Runs rs b to
  pub after : Between timer parts to

pub parts_run : (timer : List TimerEntry) (parts more : List (List Told)) (b : Builder) → Between timer parts b → PartsRun timer (parts_rows (length parts) more) (parts ++ more) b
parts_run timer parts [] b between = record { to = b; runs = refl; after = subst (λ (ps : List (List Told)). Between timer ps b) (sym (append-nil parts)) between }
parts_run timer parts (ts ∷ more) b between =
    let here : Runs (part_rows (length parts) ts) b (state_of (in_part timer parts ts)) = (state_of (in_part timer parts []), between.cpu, part_runs timer parts [] ts) in
    let rest = parts_run timer (parts ++ ts ∷ []) more (state_of (in_part timer parts ts)) (after_part timer parts ts) in
    let many : length (parts ++ ts ∷ []) ≡ length parts + 1 = omega (arith, length-append parts (ts ∷ [])) in
    record {
      to = rest.to;
      runs = runs_on (part_rows (length parts) ts) (parts_rows (length parts + 1) more) b (state_of (in_part timer parts ts)) rest.to here
          (subst (λ (k : ℕ). Runs (parts_rows k more) (state_of (in_part timer parts ts)) rest.to) many rest.runs);
      after = subst (λ (ps : List (List Told)). Between timer ps rest.to) (append_assoc parts (ts ∷ []) more) rest.after;
    }

-- ---- what is left, and the end

left_runs : (timer : List TimerEntry) (parts : List (List Told)) (lefts more : List Left) (next : ℕ) → LeftFrom next more
    → Runs (map row.Left more) (state_of (in_left timer parts lefts next)) (state_of (in_left timer parts (lefts ++ more) (next_after next more)))
left_runs timer parts lefts [] next from = ap (λ (l : List Left). state_of (in_left timer parts l next)) (sym (append-nil lefts))
left_runs timer parts lefts (l ∷ more) next from = (
  state_of (in_left timer parts (lefts ++ l ∷ []) (l.page + 1)),
  if_so (nat_le next l.page) (state_of (in_left timer parts (lefts ++ l ∷ []) (l.page + 1))) (within next l.page from.0),
  subst (λ (ls : List Left). Runs (map row.Left more) (state_of (in_left timer parts (lefts ++ l ∷ []) (l.page + 1))) (state_of (in_left timer parts ls (next_after (l.page + 1) more))))
      (append_assoc lefts (l ∷ []) more) (left_runs timer parts (lefts ++ l ∷ []) more (l.page + 1) from.3),
)

pub census_taken : (timer : List TimerEntry) (parts : List (List Told)) (left : List Left) (next : ℕ) → accept (census_row left) (state_of (in_left timer parts left next)) ≡ Ok (state_of (at_census timer parts left))
census_taken timer parts left next = if_so (is_census (count_by is_left_dirty left) (count_by is_left_writeback left) left) (state_of (at_census timer parts left))
    (both_so (count_by is_left_dirty left == count_by is_left_dirty left) (count_by is_left_writeback left == count_by is_left_writeback left) (same (count_by is_left_dirty left)) (same (count_by is_left_writeback left)))

pub totals_taken : (timer : List TimerEntry) (parts : List (List Told)) (left : List Left) → accept (totals_row parts) (state_of (at_census timer parts left)) ≡ Ok (state_of (at_totals timer parts left))
totals_taken timer parts left =
    let cpus = map part_of parts in
    if_so (are_totals (fresh_of cpus) (done_of cpus) cpus) (state_of (at_totals timer parts left))
    (both_so (fresh_of cpus == fresh_of cpus) (done_of cpus == done_of cpus) (same (fresh_of cpus)) (same (done_of cpus)))

-- after the census
pub ends_run : (timer : List TimerEntry) (parts : List (List Told)) (left : List Left) (ended : Ending)
    → Runs (totals_row parts ∷ row.End ended ∷ []) (state_of (at_census timer parts left)) (state_of (at_end timer parts left ended))
ends_run timer parts left ended = (state_of (at_totals timer parts left), totals_taken timer parts left, one (row.End ended) (state_of (at_totals timer parts left)) (state_of (at_end timer parts left ended)) refl)

-- from the first page that is left on, or the census
pub left_end_runs : (timer : List TimerEntry) (parts : List (List Told)) (left : List Left) (ended : Ending) (b : Builder) → Between timer parts b → LeftFrom 0 left
    → Runs (map row.Left left ++ census_row left ∷ totals_row parts ∷ row.End ended ∷ []) b (state_of (at_end timer parts left ended))
left_end_runs timer parts [] ended b between from = (state_of (at_census timer parts []), between.census, ends_run timer parts [] ended)
left_end_runs timer parts (l ∷ more) ended b between from =
    let next = next_after (l.page + 1) more in (
      state_of (in_left timer parts (l ∷ []) (l.page + 1)),
      between.left l,
      runs_on (map row.Left more) (census_row (l ∷ more) ∷ totals_row parts ∷ row.End ended ∷ []) (state_of (in_left timer parts (l ∷ []) (l.page + 1))) (state_of (in_left timer parts (l ∷ more) next)) (state_of (at_end timer parts (l ∷ more) ended))
          (left_runs timer parts (l ∷ []) more (l.page + 1) from.3)
          (state_of (at_census timer parts (l ∷ more)), census_taken timer parts (l ∷ more) next, ends_run timer parts (l ∷ more) ended),
    )

-- the rows of a whole journal, part after part
abbrev pub whole_rows : (timer : List TimerEntry) (parts : List (List Told)) (left : List Left) (ended : Ending) → List Row
whole_rows timer parts left ended = timer_rows timer ++ (parts_rows 0 parts ++ (map row.Left left ++ census_row left ∷ totals_row parts ∷ row.End ended ∷ []))

pub whole_runs : (timer : List TimerEntry) (parts : List (List Told)) (left : List Left) (ended : Ending) (start : Builder) → accept row.Timer start ≡ Ok (state_of (in_timer [])) → LeftFrom 0 left
    → Runs (whole_rows timer parts left ended) start (state_of (at_end timer parts left ended))
whole_runs timer parts left ended start begins from =
    let ps = parts_run timer [] parts (state_of (in_timer timer)) (after_timer timer) in
    let first : Runs (timer_rows timer) start (state_of (in_timer timer)) = (state_of (in_timer []), begins, timer_runs [] timer) in
    let ends = left_end_runs timer parts left ended ps.to ps.after from in
    runs_on (timer_rows timer) (parts_rows 0 parts ++ (map row.Left left ++ census_row left ∷ totals_row parts ∷ row.End ended ∷ [])) start (state_of (in_timer timer)) (state_of (at_end timer parts left ended)) first
    (runs_on (parts_rows 0 parts) (map row.Left left ++ census_row left ∷ totals_row parts ∷ row.End ended ∷ []) (state_of (in_timer timer)) ps.to (state_of (at_end timer parts left ended)) ps.runs ends)
