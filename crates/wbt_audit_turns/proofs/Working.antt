-- What is left to be written, and how often a disk may still fail, as the entries of a walk go by.
use Rattle.std.proofs.Common.{◌≡◌, ℕ, zero, suc, ◌+◌, ◌-◌, ◌<◌, ◌≤◌, Bool, true, false, not, ◌&&◌, ◌||◌, ◌==◌, cond, nat_le, Option, Some, None, List, [], ◌∷◌, length, get_or, map, take, drop, flat_map, count_by, replicate, slice_get, refl, sym, ap, ◌∙◌, arith}
use Rattle.std.specs.List.{list_any, list_all}
use Rattle.std.proofs.lemmas.Bool.Decides.{nat_tests}
use Rattle.std.proofs.lemmas.List.{drop_all, drop_more, get_or-replicate, length-append, take_all}
use Rattle.std.proofs.lemmas.List.Folds.{list_any_more}
use Rattle.std.proofs.lemmas.List.Sums.{sum_by-append, sum_by-cons}
use Rattle.wbt_audit_walk.proofs.Common.{MOST_FAULTS, Action, Inode, TaskLine, Trace, inode_at, CheckEntry, EstEntry, Entry, CpuJournal, Ending, Left, is_nothing, has_all_steps, numbers, pages_of_action, pages_of_task, Told, told, told_entry}
use Rattle.wbt_trace.specs.declared.trace.Action.TheVariants.{Write, Rest}
use Rattle.wbt_journal.specs.declared.entry.Entry.TheVariants as entry
use Rattle.wbt_journal.specs.declared.journal.Ending.TheVariants as ending
use Rattle.wbt_journal.specs.Leaves.{a_flusher_failed, ends_by, is_fault_of, writes_of, has_failed, some_failed, wrote_all, is_page_step}
use Rattle.wbt_journal.specs.Told.{one_checked, one_estimated}
use Rattle.wbt_audit_turns.specs.Worked.{one_if_so, pages_planned, AreLeft, HaveChances, is_faulted_by, is_step_entry}

-- ---- pages of a task

numbers-length : (from count : ℕ) → length (numbers from count) ≡ count
numbers-length from zero = refl
numbers-length from (suc count) = ap (λ (n : ℕ). suc n) (numbers-length (from + 1) count)

by_task : (b : Bool) (from pages : ℕ) → length (cond b (numbers from pages) []) ≡ cond b pages 0
by_task true from pages = numbers-length from pages
by_task false from pages = refl

action_length : (inodes : List Inode) (task : ℕ) (action : Action) → length (pages_of_action inodes task action) ≡ pages_planned task action
action_length inodes task (Write by inode from pages) = by_task (by == task) ((inode_at inode inodes).first + from) pages
action_length inodes task (Rest by ticks) = refl

pub actions_length : (inodes : List Inode) (task : ℕ) (action : Action) (actions : List Action)
    → length (flat_map (pages_of_action inodes task) (action ∷ actions)) ≡ pages_planned task action + length (flat_map (pages_of_action inodes task) actions)
actions_length inodes task action actions =
    length-append (pages_of_action inodes task action) (flat_map (pages_of_action inodes task) actions)
    ∙ ap (λ (n : ℕ). n + length (flat_map (pages_of_action inodes task) actions)) (action_length inodes task action)

-- ---- along the entries

cond_is : (b : Bool) → cond b 1 0 ≡ one_if_so b
cond_is true = refl
cond_is false = refl

counted : (f : Told → Bool) (entry : Told) (rest : List Told) → count_by f (entry ∷ rest) ≡ one_if_so (f entry) + count_by f rest
counted f entry rest = sum_by-cons (λ (e : Told). cond (f e) 1 0) entry rest ∙ ap (λ (n : ℕ). n + count_by f rest) (cond_is (f entry))

one_step : (old new a r c all n : ℕ) → new ≡ old - a → c ≡ a + r → old - c ≡ n - all → new - r ≡ n - all
one_step old new a r c all n is sum before = omega arith

pub page_written : (trace : Trace) (old new : List ℕ) (entry : Told) (rest all : List Told) → length new ≡ length old → AreLeft trace old (entry ∷ rest) all
    → ((task : ℕ) → task < length old → get_or new task 0 ≡ get_or old task 0 - one_if_so (writes_of task entry)) → AreLeft trace new rest all
page_written trace old new entry rest all same are is = record {
  tasks = same ∙ are.tasks;
  left = λ task low. let below : task < length old = omega arith in
      one_step (get_or old task 0) (get_or new task 0) (one_if_so (writes_of task entry)) (count_by (writes_of task) rest) (count_by (writes_of task) (entry ∷ rest))
      (count_by (writes_of task) all) (length (pages_of_task trace task)) (is task below) (counted (writes_of task) entry rest) (are.left task below);
}

pub disk_failed : (trace : Trace) (old new : List ℕ) (entry : Told) (rest all : List Told) → length new ≡ length old → HaveChances trace old (entry ∷ rest) all
    → ((flusher : ℕ) → flusher < length old → get_or new flusher 0 ≡ get_or old flusher 0 - one_if_so (is_fault_of flusher entry)) → HaveChances trace new rest all
disk_failed trace old new entry rest all same are is = record {
  flushers = same ∙ are.flushers;
  left = λ flusher low. let below : flusher < length old = omega arith in
      one_step (get_or old flusher 0) (get_or new flusher 0) (one_if_so (is_fault_of flusher entry)) (count_by (is_fault_of flusher) rest) (count_by (is_fault_of flusher) (entry ∷ rest))
      (count_by (is_fault_of flusher) all) MOST_FAULTS (is flusher below) (counted (is_fault_of flusher) entry rest) (are.left flusher below);
}

-- ---- at the end

zero_is : (x n c : ℕ) → x - 0 ≡ n - c → (x == 0) ≡ nat_le n c
zero_is x n c is = grind (arith, nat_tests)

swap_or : (a b : Bool) → (a || b) ≡ (b || a)
swap_or true true = refl
swap_or true false = refl
swap_or false true = refl
swap_or false false = refl

abbrev is_zero : (n : ℕ) → Bool
is_zero n = n == 0

module _ (trace : Trace) (chances : List ℕ) (all : List Told) (have : HaveChances trace chances [] all) where
  failed_to : (n : ℕ) → n ≤ length chances → list_any is_zero (take n chances) ≡ some_failed all n
  failed_to zero low = refl
  failed_to (suc n) low =
      let next : suc n ≡ n + 1 = omega arith in
      ap (λ (k : ℕ). list_any is_zero (take k chances)) next
      ∙ list_any_more is_zero chances n 0 (omega arith)
      ∙ swap_or (list_any is_zero (take n chances)) (is_zero (get_or chances n 0))
      ∙ ap (λ (b : Bool). b || list_any is_zero (take n chances)) (zero_is (get_or chances n 0) MOST_FAULTS (count_by (is_fault_of n) all) (have.left n (omega arith)))
      ∙ ap (λ (b : Bool). has_failed all n || b) (failed_to n (omega arith))

  pub some_zero : list_any is_zero chances ≡ some_failed all (length trace.flushers)
  some_zero =
      ap (λ (l : List ℕ). list_any is_zero l) (sym (take_all (length chances) chances (omega arith)))
      ∙ failed_to (length chances) (omega arith) ∙ ap (some_failed all) have.flushers

all_zero_from : (trace : Trace) (pages : List ℕ) (all : List Told) (task : ℕ) (lines : List TaskLine) → length pages ≡ length lines
    → ((k : ℕ) → k < length pages → get_or pages k 0 - 0 ≡ length (pages_of_task trace (task + k)) - count_by (writes_of (task + k)) all)
    → list_all is_zero pages ≡ wrote_all trace all task lines
all_zero_from trace [] all task [] same is = refl
all_zero_from trace [] all task (line ∷ lines) same is = absurd (omega arith)
all_zero_from trace (n ∷ pages) all task [] same is = absurd (omega arith)
all_zero_from trace (n ∷ pages) all task (line ∷ lines) same is =
    let here : task + 0 ≡ task = omega arith in
    let first : n - 0 ≡ length (pages_of_task trace task) - count_by (writes_of task) all
    = is 0 (omega arith) ∙ ap (λ (t : ℕ). length (pages_of_task trace t) - count_by (writes_of t) all) here in
    ap (λ (b : Bool). b && list_all is_zero pages) (zero_is n (length (pages_of_task trace task)) (count_by (writes_of task) all) first)
    ∙ ap (λ (b : Bool). nat_le (length (pages_of_task trace task)) (count_by (writes_of task) all) && b)
    (all_zero_from trace pages all (task + 1) lines (omega arith)
    (λ k low. let next : task + suc k ≡ task + 1 + k = omega arith in
    is (suc k) (omega arith) ∙ ap (λ (t : ℕ). length (pages_of_task trace t) - count_by (writes_of t) all) next))

pub all_zero : (trace : Trace) (pages : List ℕ) (all : List Told) → AreLeft trace pages [] all → list_all is_zero pages ≡ wrote_all trace all 0 trace.tasks
all_zero trace pages all are =
    all_zero_from trace pages all 0 trace.tasks are.tasks
    (λ k low. let e : k ≡ 0 + k = omega arith in
    are.left k low ∙ ap (λ (t : ℕ). length (pages_of_task trace t) - count_by (writes_of t) all) e)

-- ---- page steps of a part

steps_of_one : (checks : List CheckEntry) (estimates : List EstEntry) (e : Entry) → count_by is_page_step (told_entry checks estimates e) ≡ cond (is_step_entry e) 1 0
steps_of_one checks estimates (entry.Write task page fresh) = refl
steps_of_one checks estimates (entry.Folded fold) = refl
steps_of_one checks estimates (entry.Check place) = none_checked (slice_get checks place)
  where
    none_checked : (which : Option CheckEntry) → count_by is_page_step (one_checked which) ≡ 0
    none_checked None = refl
    none_checked (Some check) = refl
steps_of_one checks estimates (entry.Claimed flusher page) = refl
steps_of_one checks estimates (entry.Batch flusher pages now until) = refl
steps_of_one checks estimates (entry.Done flusher page) = refl
steps_of_one checks estimates (entry.Share domain context n) = refl
steps_of_one checks estimates (entry.Est place) = none_estimated (slice_get estimates place)
  where
    none_estimated : (which : Option EstEntry) → count_by is_page_step (one_estimated which) ≡ 0
    none_estimated None = refl
    none_estimated (Some est) = refl
steps_of_one checks estimates (entry.Fault flusher pages) = refl
steps_of_one checks estimates (entry.Back flusher page true) = refl
steps_of_one checks estimates (entry.Back flusher page false) = refl
steps_of_one checks estimates (entry.Noticed flusher inode since) = refl
steps_of_one checks estimates (entry.Aged flusher inode due now) = refl
steps_of_one checks estimates (entry.Taken flusher inode) = refl

pub steps_of : (checks : List CheckEntry) (estimates : List EstEntry) (entries : List Entry)
    → count_by is_page_step (flat_map (told_entry checks estimates) entries) ≡ count_by is_step_entry entries
steps_of checks estimates [] = refl
steps_of checks estimates (e ∷ entries) =
    sum_by-append (λ (t : Told). cond (is_page_step t) 1 0) (told_entry checks estimates e) (flat_map (told_entry checks estimates) entries)
    ∙ ap (λ (n : ℕ). n + count_by is_page_step (flat_map (told_entry checks estimates) entries)) (steps_of_one checks estimates e)
    ∙ ap (λ (n : ℕ). cond (is_step_entry e) 1 0 + n) (steps_of checks estimates entries)
    ∙ sym (sum_by-cons (λ (x : Entry). cond (is_step_entry x) 1 0) e entries)

-- ---- pages by task, along the actions

zero_plus : (n : ℕ) → 0 + n ≡ n
zero_plus n = omega arith

pub none_planned : (trace : Trace) (pages : List ℕ) → pages ≡ replicate (length pages) 0 → (task : ℕ) → task < length pages
    → get_or pages task 0 + length (flat_map (pages_of_action trace.inodes task) trace.actions) ≡ length (pages_of_task trace task)
none_planned trace pages are task low =
    let at : get_or pages task 0 ≡ 0 = ap (λ (l : List ℕ). get_or l task 0) are ∙ get_or-replicate {A = ℕ} (length pages) task 0 0 low in
    ap (λ (n : ℕ). n + length (flat_map (pages_of_action trace.inodes task) trace.actions)) at ∙ zero_plus (length (flat_map (pages_of_action trace.inodes task) trace.actions))

three : (new old planned rest before whole : ℕ) → new ≡ old + planned → before ≡ planned + rest → old + before ≡ whole → new + rest ≡ whole
three new old planned rest before whole p q r = omega arith

pub one_planned : (trace : Trace) (now : List Action) (i : ℕ) (d : Action) (old new : List ℕ) → now ≡ trace.actions → i < length now → length new ≡ length old
    → ((task : ℕ) → task < length old → get_or new task 0 ≡ get_or old task 0 + pages_planned task (get_or now i d))
    → ((task : ℕ) → task < length old → get_or old task 0 + length (flat_map (pages_of_action trace.inodes task) (drop i trace.actions)) ≡ length (pages_of_task trace task))
    → (task : ℕ) → task < length new → get_or new task 0 + length (flat_map (pages_of_action trace.inodes task) (drop (i + 1) trace.actions)) ≡ length (pages_of_task trace task)
one_planned trace now i d old new same less count is before task low =
    let below : task < length old = omega arith in
    let there : i < length trace.actions = omega (arith, ap length same) in
    let a = get_or now i d in
    let here : get_or trace.actions i d ≡ a = ap (λ (l : List Action). get_or l i d) (sym same) in
    let cut : drop i trace.actions ≡ a ∷ drop (i + 1) trace.actions = drop_more trace.actions i d there ∙ ap (λ (x : Action). x ∷ drop (i + 1) trace.actions) here in
    three (get_or new task 0) (get_or old task 0) (pages_planned task a) (length (flat_map (pages_of_action trace.inodes task) (drop (i + 1) trace.actions)))
    (length (flat_map (pages_of_action trace.inodes task) (drop i trace.actions))) (length (pages_of_task trace task)) (is task below)
    (ap (λ (l : List Action). length (flat_map (pages_of_action trace.inodes task) l)) cut ∙ actions_length trace.inodes task a (drop (i + 1) trace.actions)) (before task below)

plus_zero : (n m whole : ℕ) → m ≡ 0 → n + m ≡ whole → n ≡ whole
plus_zero n m whole none is = omega arith

pub all_planned : (trace : Trace) (now : List Action) (i : ℕ) (pages first : List ℕ) → now ≡ trace.actions → length now ≤ i → length pages ≡ length first
    → ((task : ℕ) → task < length pages → get_or pages task 0 + length (flat_map (pages_of_action trace.inodes task) (drop i trace.actions)) ≡ length (pages_of_task trace task))
    → (task : ℕ) → task < length first → get_or pages task 0 ≡ length (pages_of_task trace task)
all_planned trace now i pages first same past count is task low =
    let below : task < length pages = omega arith in
    let end : length trace.actions ≤ i = omega (arith, ap length same) in
    let none : length (flat_map (pages_of_action trace.inodes task) (drop i trace.actions)) ≡ 0
    = ap (λ (l : List Action). length (flat_map (pages_of_action trace.inodes task) l)) (drop_all i trace.actions end) in
    plus_zero (get_or pages task 0) (length (flat_map (pages_of_action trace.inodes task) (drop i trace.actions))) (length (pages_of_task trace task)) none (is task below)

-- ---- the ending

pub and_first : (a b : Bool) → a ≡ true → b ≡ (a && b)
and_first a b is = rw is

pub and_none : (a b : Bool) → a ≡ false → a ≡ (a && b)
and_none a b is = rw is

not_and : (f x : Bool) → f ≡ true → false ≡ (not f && x)
not_and f x is = rw is

so_and : (f x : Bool) → f ≡ false → x ≡ (not f && x)
so_and f x is = rw is

not_so : (f : Bool) → f ≡ true → false ≡ not f
not_so f is = rw is

pub ends_failed : (trace : Trace) (parts : List (List Told)) (all : List Told) (left : List Left) (end : Ending) → a_flusher_failed trace all ≡ true
    → is_faulted_by end ≡ ends_by trace parts all left end
ends_failed trace parts all left ending.Done failed = not_and (a_flusher_failed trace all) (wrote_all trace all 0 trace.tasks && is_nothing left) failed
ends_failed trace parts all left ending.Halted failed = not_so (a_flusher_failed trace all) failed
ends_failed trace parts all left ending.Spent failed = not_and (a_flusher_failed trace all) (list_any has_all_steps parts) failed
ends_failed trace parts all left ending.Faulted failed = sym failed

pub ends_done : (trace : Trace) (parts : List (List Told)) (all : List Told) (left : List Left) (end : Ending) (wrote nothing : Bool) → a_flusher_failed trace all ≡ false
    → wrote ≡ wrote_all trace all 0 trace.tasks → nothing ≡ is_nothing left → end ≡ ending.Done → (wrote && nothing) ≡ ends_by trace parts all left end
ends_done trace parts all left end wrote nothing failed one two is =
    rw is (ap (λ (b : Bool). b && nothing) one ∙ ap (λ (b : Bool). wrote_all trace all 0 trace.tasks && b) two
    ∙ so_and (a_flusher_failed trace all) (wrote_all trace all 0 trace.tasks && is_nothing left) failed)

so_not : (f : Bool) → f ≡ false → true ≡ not f
so_not f is = rw is

pub ends_halted : (trace : Trace) (parts : List (List Told)) (all : List Told) (left : List Left) (end : Ending) → a_flusher_failed trace all ≡ false
    → end ≡ ending.Halted → true ≡ ends_by trace parts all left end
ends_halted trace parts all left end failed is = rw is (so_not (a_flusher_failed trace all) failed)

any_told : (parts : List CpuJournal) → list_any (λ (part : CpuJournal). has_all_steps (told part)) parts ≡ list_any has_all_steps (map told parts)
any_told [] = refl
any_told (part ∷ parts) = ap (λ (b : Bool). has_all_steps (told part) || b) (any_told parts)

pub ends_spent : (trace : Trace) (parts : List CpuJournal) (all : List Told) (left : List Left) (end : Ending) → a_flusher_failed trace all ≡ false
    → end ≡ ending.Spent → list_any (λ (part : CpuJournal). has_all_steps (told part)) parts ≡ ends_by trace (map told parts) all left end
ends_spent trace parts all left end failed is = rw is (any_told parts ∙ so_and (a_flusher_failed trace all) (list_any has_all_steps (map told parts)) failed)

pub ends_faulted : (trace : Trace) (parts : List (List Told)) (all : List Told) (left : List Left) (end : Ending) → a_flusher_failed trace all ≡ false
    → end ≡ ending.Faulted → false ≡ ends_by trace parts all left end
ends_faulted trace parts all left end failed is = rw is (sym failed)
