-- From each stage some rows lead to the end.
use Rattle.std.proofs.Common.{◌≡◌, ℕ, suc, ◌+◌, ◌^◌, ◌<◌, ◌≤◌, true, false, List, [], ◌∷◌, ◌++◌, length, map, flat_map, cond, count_by, Option, Some, None, refl, ap, arith, length-append}
use Rattle.std.proofs.lemmas.List.Sums.{count_by-le-length, sum_by-cons}
use Rattle.wbt_counter.specs.declared.counter.Count.{Count}
use Rattle.wbt_journal.specs.declared.entry.CpuJournal.{CpuJournal}
use Rattle.wbt_journal.specs.declared.entry.DomainLine.{DomainLine}
use Rattle.wbt_journal.specs.declared.entry.Entry.{Entry}
use Rattle.wbt_journal.specs.declared.entry.Entry.TheVariants as entry
use Rattle.wbt_journal.specs.declared.journal.Ending.{Ending}
use Rattle.wbt_journal.specs.declared.journal.Ending.TheVariants as ending
use Rattle.wbt_journal.specs.declared.journal.Left.{Left}
use Rattle.wbt_journal_reader.specs.declared.row.Row.{Row}
use Rattle.wbt_journal_reader.specs.declared.row.Row.TheVariants as row
use Rattle.wbt_journal.specs.declared.timer.TimerEntry.{TimerEntry}
use Rattle.wbt_journal.specs.Each.{Each}
use Rattle.wbt_journal_reader.specs.Rows.{IsPlainRow, check_of, no_read, no_decision}
use Rattle.wbt_journal.specs.Text.{fresh_of, done_of, is_fresh, is_done, is_left_dirty, is_left_writeback}
use Rattle.wbt_journal.specs.Told.{Told, wrote, checked, done, estimated}
use Rattle.wbt_journal.proofs.OnePart.{entries_from}
use Rattle.wbt_journal_reader.proofs.Parts.{part_of}
use Rattle.wbt_journal_reader.proofs.Plain.{IsFormed}
use Rattle.wbt_journal_reader.proofs.Runs.{Runs, runs_on, Between, after_timer, after_part, left_end_runs, census_taken, ends_run, check_taken, one}
use Rattle.wbt_journal_reader.proofs.Stages.{read_rows, told_rows, part_rows, parts_rows, timer_rows, cpus_rows, left_rows, census_row, totals_row, Stage, begun, in_timer, in_part, in_read, in_count, in_left, at_census, at_totals, at_end, state_of, rows_of, Good}

-- ---- sums are no more than the rows

fresh_few : (c e : ℕ) (ts : List Told) → count_by is_fresh (entries_from c e ts) ≤ length (flat_map told_rows ts)
fresh_few c e [] = omega arith
fresh_few c e (wrote t p true ∷ more) =
    let rest = fresh_few c e more in
    let one_more : count_by is_fresh (entries_from c e (wrote t p true ∷ more)) ≡ 1 + count_by is_fresh (entries_from c e more) =
    sum_by-cons (λ (x : Entry). cond (is_fresh x) 1 0) (entry.Write t p true) (entries_from c e more) in
    omega (arith, rest, one_more)
fresh_few c e (wrote t p false ∷ more) = let rest = fresh_few c e more in omega (arith, rest)
fresh_few c e (checked x ∷ more) = let rest = fresh_few (c + 1) e more in omega (arith, rest, length-append (told_rows (checked x)) (flat_map told_rows more))
fresh_few c e (estimated x ∷ more) = let rest = fresh_few c (e + 1) more in omega (arith, rest)
fresh_few c e (other ∷ more) = let rest = fresh_few c e more in omega (arith, rest)

done_few : (c e : ℕ) (ts : List Told) → count_by is_done (entries_from c e ts) ≤ length (flat_map told_rows ts)
done_few c e [] = omega arith
done_few c e (checked x ∷ more) = let rest = done_few (c + 1) e more in omega (arith, rest, length-append (told_rows (checked x)) (flat_map told_rows more))
done_few c e (estimated x ∷ more) = let rest = done_few c (e + 1) more in omega (arith, rest)
done_few c e (done f p ∷ more) =
    let rest = done_few c e more in
    let one_more : count_by is_done (entries_from c e (done f p ∷ more)) ≡ 1 + count_by is_done (entries_from c e more) =
    sum_by-cons (λ (x : Entry). cond (is_done x) 1 0) (entry.Done f p) (entries_from c e more) in
    omega (arith, rest, one_more)
done_few c e (other ∷ more) = let rest = done_few c e more in omega (arith, rest)

all_fresh_few : (cpu : ℕ) (parts : List (List Told)) → fresh_of (map part_of parts) ≤ length (parts_rows cpu parts)
all_fresh_few cpu [] = omega arith
all_fresh_few cpu (ts ∷ parts) =
    let rest = all_fresh_few (cpu + 1) parts in
    let here = fresh_few 0 0 ts in
    let sum : fresh_of (map part_of (ts ∷ parts)) ≡ count_by is_fresh (entries_from 0 0 ts) + fresh_of (map part_of parts) =
    sum_by-cons (λ (part : CpuJournal). count_by is_fresh part.entries) (part_of ts) (map part_of parts) in
    omega (arith, rest, here, sum, length-append (flat_map told_rows ts) (parts_rows (cpu + 1) parts))

all_done_few : (cpu : ℕ) (parts : List (List Told)) → done_of (map part_of parts) ≤ length (parts_rows cpu parts)
all_done_few cpu [] = omega arith
all_done_few cpu (ts ∷ parts) =
    let rest = all_done_few (cpu + 1) parts in
    let here = done_few 0 0 ts in
    let sum : done_of (map part_of (ts ∷ parts)) ≡ count_by is_done (entries_from 0 0 ts) + done_of (map part_of parts) =
    sum_by-cons (λ (part : CpuJournal). count_by is_done part.entries) (part_of ts) (map part_of parts) in
    omega (arith, rest, here, sum, length-append (flat_map told_rows ts) (parts_rows (cpu + 1) parts))

length_map : {A B : Type 0} (f : A → B) (xs : List A) → length (map f xs) ≡ length xs
length_map f [] = refl
length_map f (x ∷ xs) = ap suc (length_map f xs)

-- the sums of a whole journal have 64 bits
pub record Few (parts : List (List Told)) (left : List Left) : Type 0 where
  pub dirty : count_by is_left_dirty left < 2 ^ 64
  pub writeback : count_by is_left_writeback left < 2 ^ 64
  pub fresh : fresh_of (map part_of parts) < 2 ^ 64
  pub done : done_of (map part_of parts) < 2 ^ 64

few_of : (n : ℕ) (parts : List (List Told)) (left : List Left) → n < 2 ^ 64 → length left ≤ n → length (parts_rows 0 parts) ≤ n → Few parts left
few_of n parts left small lefts rows = record {
  dirty = omega (arith, small, lefts, count_by-le-length is_left_dirty left);
  writeback = omega (arith, small, lefts, count_by-le-length is_left_writeback left);
  fresh = omega (arith, small, rows, all_fresh_few 0 parts);
  done = omega (arith, small, rows, all_done_few 0 parts);
}

-- ---- the rows that end a journal

pub record GoesOn (s : Stage) : Type 0 where
  pub rows : List Row
  pub timer : List TimerEntry
  pub parts : List (List Told)
  pub left : List Left
  pub ended : Ending
  pub runs : Runs rows (state_of s) (state_of (at_end timer parts left ended))
  pub plain : Each IsPlainRow rows
  pub formed : Each IsFormed rows

abbrev ends : (parts : List (List Told)) (left : List Left) → List Row
ends parts left = totals_row parts ∷ row.End ending.Done ∷ []

ends_formed : (parts : List (List Told)) (left : List Left) → Few parts left → Each IsFormed (ends parts left)
ends_formed parts left few = (((few.fresh, (few.done, tt)), tt), (((tt, tt), tt), tt))

census_formed : (parts : List (List Told)) (left : List Left) → Few parts left → Each IsFormed (census_row left ∷ ends parts left)
census_formed parts left few = (((few.dirty, (few.writeback, tt)), tt), ends_formed parts left few)

from_between : (s : Stage) (timer : List TimerEntry) (parts : List (List Told)) → Between timer parts (state_of s) → Few parts [] → GoesOn s
from_between s timer parts between few = record {
  rows = census_row [] ∷ ends parts [];
  timer = timer;
  parts = parts;
  left = [];
  ended = ending.Done;
  runs = left_end_runs timer parts [] ending.Done (state_of s) between tt;
  plain = (tt, (tt, (tt, tt)));
  formed = census_formed parts [] few;
}

-- one row before
before : (r : Row) (s t : Stage) → Runs (r ∷ []) (state_of s) (state_of t) → IsPlainRow r → IsFormed r → GoesOn t → GoesOn s
before r s t first plain form on = record {
  rows = r ∷ on.rows;
  timer = on.timer;
  parts = on.parts;
  left = on.left;
  ended = on.ended;
  runs = runs_on (r ∷ []) on.rows (state_of s) (state_of t) (state_of (at_end on.timer on.parts on.left on.ended)) first on.runs;
  plain = (plain, on.plain);
  formed = (form, on.formed);
}

timer_goes_on : (timer : List TimerEntry) → GoesOn (in_timer timer)
timer_goes_on timer = from_between (in_timer timer) timer [] (after_timer timer) (few_of 0 [] [] (omega arith) (omega arith) (omega arith))

parts_end : (parts : List (List Told)) (here : List Told) → length (parts_rows 0 (parts ++ here ∷ [])) ≤ length (parts_rows 0 parts) + (length (flat_map told_rows here) + 1)
parts_end parts here = from_cpu 0 parts
  where
    from_cpu : (cpu : ℕ) (ps : List (List Told)) → length (parts_rows cpu (ps ++ here ∷ [])) ≤ length (parts_rows cpu ps) + (length (flat_map told_rows here) + 1)
    from_cpu cpu [] = omega (arith, length-append (part_rows cpu here) [])
    from_cpu cpu (ts ∷ ps) =
        let rest = from_cpu (cpu + 1) ps in
        omega (arith, rest, length-append (part_rows cpu ts) (parts_rows (cpu + 1) (ps ++ here ∷ [])), length-append (part_rows cpu ts) (parts_rows (cpu + 1) ps))

part_goes_on : (timer : List TimerEntry) (parts : List (List Told)) (here : List Told) → length (parts_rows 0 parts) + length (flat_map told_rows here) + 1 < 2 ^ 64 → GoesOn (in_part timer parts here)
part_goes_on timer parts here small =
    from_between (in_part timer parts here) timer (parts ++ here ∷ []) (after_part timer parts here)
    (few_of (length (parts_rows 0 parts) + length (flat_map told_rows here) + 1) (parts ++ here ∷ []) [] small (omega arith) (omega (arith, parts_end parts here)))

told_more : (here : List Told) (t : Told) → length (flat_map told_rows (here ++ t ∷ [])) ≡ length (flat_map told_rows here) + length (told_rows t)
told_more [] t = omega (arith, length-append (told_rows t) [])
told_more (x ∷ more) t =
    let rest = told_more more t in
    omega (arith, rest, length-append (told_rows x) (flat_map told_rows (more ++ t ∷ [])), length-append (told_rows x) (flat_map told_rows more))

check_few : (global : DomainLine) (cgroup : Option DomainLine) (count : Count) (context : ℕ) → length (told_rows (checked (check_of global cgroup count (no_decision context)))) ≤ 4
check_few global None count context = omega arith
check_few global (Some read) count context = omega arith

count_goes_on : (timer : List TimerEntry) (parts : List (List Told)) (here : List Told) (global : DomainLine) (cgroup : Option DomainLine) (context : ℕ) (count : Count) → context < 2 ^ 32
    → length (parts_rows 0 parts) + length (flat_map told_rows here) + 5 < 2 ^ 64 → GoesOn (in_count timer parts here global cgroup context count)
count_goes_on timer parts here global cgroup context count is_context small =
    let check = check_of global cgroup count (no_decision context) in
    let t = in_part timer parts (here ++ checked check ∷ []) in
    before (row.Check (no_decision context)) (in_count timer parts here global cgroup context count) t
    (one (row.Check (no_decision context)) (state_of (in_count timer parts here global cgroup context count)) (state_of t) (check_taken timer parts here global cgroup count (no_decision context)))
    refl ((omega arith, (is_context, (omega arith, (omega arith, (tt, (omega arith, (omega arith, (omega arith, (omega arith, (omega arith, tt)))))))))), tt)
    (part_goes_on timer parts (here ++ checked check ∷ []) (omega (arith, small, told_more here (checked check), check_few global cgroup count context)))

read_goes_on : (timer : List TimerEntry) (parts : List (List Told)) (here : List Told) (global : DomainLine) (cgroup : Option DomainLine)
    → length (parts_rows 0 parts) + length (flat_map told_rows here) + 5 < 2 ^ 64 → GoesOn (in_read timer parts here global cgroup)
read_goes_on timer parts here global cgroup small =
    let t = in_count timer parts here global cgroup 0 no_read.count in
    before (row.Count 0 no_read.count) (in_read timer parts here global cgroup) t
    (one (row.Count 0 no_read.count) (state_of (in_read timer parts here global cgroup)) (state_of t) refl)
    tt ((omega arith, (omega arith, (omega arith, tt))), tt)
    (count_goes_on timer parts here global cgroup 0 no_read.count (omega arith) small)

-- ---- each stage

-- the rows of a stage are few enough to be counted
abbrev IsShort : (s : Stage) → Type 0
IsShort s = length (rows_of s) + 8 < 2 ^ 64

cpus_many : (timer : List TimerEntry) (parts : List (List Told)) → length (parts_rows 0 parts) ≤ length (cpus_rows timer parts)
cpus_many timer parts = omega (arith, length-append (timer_rows timer) (parts_rows 0 parts))

part_many : (timer : List TimerEntry) (parts : List (List Told)) (here : List Told)
    → length (parts_rows 0 parts) + length (flat_map told_rows here) ≤ length (cpus_rows timer parts ++ part_rows (length parts) here)
part_many timer parts here = omega (arith, cpus_many timer parts, length-append (cpus_rows timer parts) (part_rows (length parts) here))

left_few : (n : ℕ) (timer : List TimerEntry) (parts : List (List Told)) (left : List Left) → length (left_rows timer parts left) ≤ n → n < 2 ^ 64 → Few parts left
left_few n timer parts left rows small =
    few_of n parts left small (omega (arith, rows, length-append (cpus_rows timer parts) (map row.Left left), length_map row.Left left))
    (omega (arith, rows, cpus_many timer parts, length-append (cpus_rows timer parts) (map row.Left left)))

end_goes_on : (timer : List TimerEntry) (parts : List (List Told)) (left : List Left) (ended : Ending) → GoesOn (at_end timer parts left ended)
end_goes_on timer parts left ended = record { rows = []; timer = timer; parts = parts; left = left; ended = ended; runs = refl; plain = tt; formed = tt }

census_goes_on : (timer : List TimerEntry) (parts : List (List Told)) (left : List Left) → Few parts left → GoesOn (at_census timer parts left)
census_goes_on timer parts left few = record {
  rows = ends parts left;
  timer = timer;
  parts = parts;
  left = left;
  ended = ending.Done;
  runs = ends_run timer parts left ending.Done;
  plain = (tt, (tt, tt));
  formed = ends_formed parts left few;
}

pub goes_on : (s : Stage) → Good s → IsShort s → GoesOn s
goes_on begun good short = before row.Timer begun (in_timer []) (one row.Timer (state_of begun) (state_of (in_timer [])) refl) tt (tt, tt) (timer_goes_on [])
goes_on (in_timer timer) good short = timer_goes_on timer
goes_on (in_part timer parts here) good short = part_goes_on timer parts here (omega (arith, short, part_many timer parts here))
goes_on (in_read timer parts here global cgroup) good short =
    let before_it = cpus_rows timer parts ++ part_rows (length parts) here in
    read_goes_on timer parts here global cgroup (omega (arith, short, part_many timer parts here, length-append before_it (read_rows global cgroup)))
goes_on (in_count timer parts here global cgroup context count) good short =
    let before_it = cpus_rows timer parts ++ part_rows (length parts) here in
    count_goes_on timer parts here global cgroup context count good.1.1
    (omega (arith, short, part_many timer parts here, length-append before_it (read_rows global cgroup), length-append (before_it ++ read_rows global cgroup) (row.Count context count ∷ [])))
goes_on (in_left timer parts left next) good short =
    let few = left_few (length (left_rows timer parts left)) timer parts left (omega arith) (omega (arith, short)) in
    before (census_row left) (in_left timer parts left next) (at_census timer parts left)
    (one (census_row left) (state_of (in_left timer parts left next)) (state_of (at_census timer parts left)) (census_taken timer parts left next))
    tt ((few.dirty, (few.writeback, tt)), tt) (census_goes_on timer parts left few)
goes_on (at_census timer parts left) good short =
    census_goes_on timer parts left (left_few (length (left_rows timer parts left)) timer parts left (omega arith) (omega (arith, short, length-append (left_rows timer parts left) (census_row left ∷ []))))
goes_on (at_totals timer parts left) good short =
    before (row.End ending.Done) (at_totals timer parts left) (at_end timer parts left ending.Done)
    (one (row.End ending.Done) (state_of (at_totals timer parts left)) (state_of (at_end timer parts left ending.Done)) refl) tt ((tt, tt), tt) (end_goes_on timer parts left ending.Done)
goes_on (at_end timer parts left ended) good short = end_goes_on timer parts left ended
