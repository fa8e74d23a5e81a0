-- What holds of each item so far of a list; and the lines of a journal by those of its parts.
use Rattle.std.proofs.Common.{◌≡◌, ℕ, zero, suc, ◌+◌, ◌<◌, ◌^◌, List, [], ◌∷◌, ◌++◌, length, take, flat_map, map, slice_get, Option, Some, None, IfSome, subst, arith}
use Rattle.std.proofs.Math.ListN.{get_or}
use Rattle.std.proofs.lemmas.Grind.{flat_map-append}
use Rattle.wbt_journal.specs.declared.entry.CheckEntry.{CheckEntry}
use Rattle.wbt_journal.specs.declared.entry.CpuJournal.{CpuJournal}
use Rattle.wbt_journal.specs.declared.entry.Entry.{Entry}
use Rattle.wbt_journal.specs.declared.entry.Entry.TheVariants as entry
use Rattle.wbt_journal.specs.declared.entry.EstEntry.{EstEntry}
use Rattle.wbt_journal.specs.declared.journal.Ending.{Ending}
use Rattle.wbt_journal.specs.declared.journal.Ending.TheVariants as ending
use Rattle.wbt_journal.specs.declared.journal.Journal.{Journal}
use Rattle.wbt_journal.specs.declared.journal.Left.{Left}
use Rattle.wbt_journal.specs.declared.timer.TimerEntry.{TimerEntry}
use Rattle.std.proofs.Math.Seq.{take-suc, take-length}
use Rattle.wbt_journal.specs.Each.{Each}
use Rattle.wbt_journal.specs.Forms.{HasForm}
use Rattle.wbt_journal.specs.Lines.{timer_line, cpu_lines, told_lines, check_lines, read_line, cgroup_lines, count_line, decision_line, left_line, ending_line}
use Rattle.wbt_journal.specs.Ranges.{HaveForms, TimedHasForm, EntryHasForm, CheckHasForm, EstimateHasForm, LeftHasForm, PartHasForm}
use Rattle.wbt_journal.specs.Text.{census_line, end_lines, journal_lines, fresh_of, done_of}
use Rattle.wbt_journal.specs.Told.{told, told_entry, one_checked, one_estimated}

pub each_and : {A : Type 0} (P : A → Type 0) (xs ys : List A) → Each P xs → Each P ys → Each P (xs ++ ys)
each_and P [] ys these those = those
each_and P (x ∷ xs) ys these those = (these.0, each_and P xs ys these.1 those)

-- of each item so far
abbrev pub SoFar : {A : Type 0} (P : A → Type 0) (xs : List A) (i : ℕ) → Type 0
SoFar P xs i = Each P (take i xs)

plus_one : (i : ℕ) → i + 1 ≡ suc i
plus_one i = omega arith

pub so_far_next : {A : Type 0} (P : A → Type 0) (xs : List A) (i : ℕ) (d : A) → i < length xs → P (get_or xs i d) → SoFar P xs i → SoFar P xs (i + 1)
so_far_next P xs i d less it sofar =
    rw (plus_one i, take-suc xs i d less) (each_and P (take i xs) (get_or xs i d ∷ []) sofar (it, tt))

pub so_far_all : {A : Type 0} (P : A → Type 0) (xs : List A) → SoFar P xs (length xs) → Each P xs
so_far_all P xs all = subst (Each P) (take-length xs) all

-- ---- a part

pub check_in_form : (check : CheckEntry) → HasForm (read_line check.global) → HaveForms (cgroup_lines check.cgroup) → HasForm (count_line check)
    → HasForm (decision_line check) → CheckHasForm check
check_in_form check global cgroup count decision =
    (global, each_and HasForm (cgroup_lines check.cgroup) (count_line check ∷ decision_line check ∷ []) cgroup (count, (decision, tt)))

found : {A : Type 0} (P : A → Type 0) (xs : List A) (place : ℕ) → Each P xs → IfSome (slice_get xs place) P
found P [] place all = tt
found P (x ∷ xs) zero all = all.0
found P (x ∷ xs) (suc place) all = found P xs place all.1

check_found : (which : Option CheckEntry) → IfSome which CheckHasForm → HaveForms (flat_map told_lines (one_checked which))
check_found None has = tt
check_found (Some check) has = each_and HasForm (check_lines check) [] has tt

estimate_found : (which : Option EstEntry) → IfSome which EstimateHasForm → HaveForms (flat_map told_lines (one_estimated which))
estimate_found None has = tt
estimate_found (Some est) has = (has, tt)

entry_in_form : (checks : List CheckEntry) (estimates : List EstEntry) (e : Entry) → Each CheckHasForm checks → Each EstimateHasForm estimates → EntryHasForm e
    → HaveForms (flat_map told_lines (told_entry checks estimates e))
entry_in_form checks estimates (entry.Check place) cs es own = check_found (slice_get checks place) (found CheckHasForm checks place cs)
entry_in_form checks estimates (entry.Est place) cs es own = estimate_found (slice_get estimates place) (found EstimateHasForm estimates place es)
entry_in_form checks estimates (entry.Write task page fresh) cs es own = own
entry_in_form checks estimates (entry.Folded fold) cs es own = own
entry_in_form checks estimates (entry.Claimed flusher page) cs es own = own
entry_in_form checks estimates (entry.Batch flusher pages now until) cs es own = own
entry_in_form checks estimates (entry.Done flusher page) cs es own = own
entry_in_form checks estimates (entry.Share domain context n) cs es own = own
entry_in_form checks estimates (entry.Fault flusher pages) cs es own = own
entry_in_form checks estimates (entry.Back flusher page absorbed) cs es own = own
entry_in_form checks estimates (entry.Noticed flusher inode since) cs es own = own
entry_in_form checks estimates (entry.Aged flusher inode due now) cs es own = own
entry_in_form checks estimates (entry.Taken flusher inode) cs es own = own

entries_in_form : (checks : List CheckEntry) (estimates : List EstEntry) (entries : List Entry) → Each CheckHasForm checks → Each EstimateHasForm estimates
    → Each EntryHasForm entries → HaveForms (flat_map told_lines (flat_map (told_entry checks estimates) entries))
entries_in_form checks estimates [] cs es own = tt
entries_in_form checks estimates (e ∷ more) cs es own =
    rw (flat_map-append told_lines (told_entry checks estimates e) (flat_map (told_entry checks estimates) more))
    (each_and HasForm (flat_map told_lines (told_entry checks estimates e)) (flat_map told_lines (flat_map (told_entry checks estimates) more))
    (entry_in_form checks estimates e cs es own.0) (entries_in_form checks estimates more cs es own.1))

pub part_in_form : (part : CpuJournal) → Each EntryHasForm part.entries → Each CheckHasForm part.checks → Each EstimateHasForm part.estimates → PartHasForm part
part_in_form part own cs es = entries_in_form part.checks part.estimates part.entries cs es own

-- ---- a journal

timer_in_form : (timer : List TimerEntry) → Each TimedHasForm timer → HaveForms (map timer_line timer)
timer_in_form [] all = tt
timer_in_form (entry ∷ more) all = (all.0, timer_in_form more all.1)

left_in_form : (left : List Left) → Each LeftHasForm left → HaveForms (map left_line left)
left_in_form [] all = tt
left_in_form (l ∷ more) all = (all.0, left_in_form more all.1)

parts_in_form : (cpu : ℕ) (parts : List CpuJournal) → cpu + length parts < 2 ^ 64 → Each PartHasForm parts → HaveForms (cpu_lines cpu parts)
parts_in_form cpu [] less all = tt
parts_in_form cpu (part ∷ parts) less all =
    let own : cpu < 2 ^ 64 = omega (arith, less) in
    let others : cpu + 1 + length parts < 2 ^ 64 = omega (arith, less) in
    ((own, tt), each_and HasForm (flat_map told_lines (told part)) (cpu_lines (cpu + 1) parts) all.0 (parts_in_form (cpu + 1) parts others all.1))

ending_in_form : (e : Ending) → HasForm (ending_line e)
ending_in_form ending.Done = (tt, tt)
ending_in_form ending.Halted = (tt, tt)
ending_in_form ending.Spent = (tt, tt)
ending_in_form ending.Faulted = (tt, tt)

ends_in_form : (j : Journal) → HasForm (census_line j.left) → fresh_of j.cpus < 2 ^ 64 → done_of j.cpus < 2 ^ 64 → j.strict ≡ [] → HaveForms (end_lines j)
ends_in_form j census fresh done strict = rw strict (census, ((fresh, (done, tt)), (ending_in_form j.ending, tt)))

pub journal_in_form : (j : Journal) → Each TimedHasForm j.timer → Each PartHasForm j.cpus → Each LeftHasForm j.left → HasForm (census_line j.left)
    → length j.cpus < 2 ^ 64 → fresh_of j.cpus < 2 ^ 64 → done_of j.cpus < 2 ^ 64 → j.steps ≡ [] → j.strict ≡ [] → Each HasForm (journal_lines j)
unfolding journal_lines
journal_in_form j timer parts left census few fresh done steps strict =
    let few_parts : 0 + length j.cpus < 2 ^ 64 = omega (arith, few) in
    rw steps (
      tt,
      each_and HasForm (map timer_line j.timer) (cpu_lines 0 j.cpus ++ (map left_line j.left ++ end_lines j)) (timer_in_form j.timer timer)
          (each_and HasForm (cpu_lines 0 j.cpus) (map left_line j.left ++ end_lines j) (parts_in_form 0 j.cpus few_parts parts)
          (each_and HasForm (map left_line j.left) (end_lines j) (left_in_form j.left left) (ends_in_form j census fresh done strict))),
    )
