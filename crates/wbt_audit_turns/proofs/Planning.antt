-- The pages that tasks still have to write.
use Rattle.std.proofs.Common.{◌≡◌, ℕ, zero, suc, ◌+◌, ◌-◌, ◌<◌, ◌≤◌, Bool, true, false, ◌&&◌, ◌==◌, nat_lt, Option, Some, None, cond, List, [], ◌∷◌, ◌++◌, length, take, drop, get_or, set, map, replicate, flat_map, count_by, refl, sym, ap, ◌∙◌, subst, arith, append_assoc, ◌⊎◌, inl, inr, slice_get}
use Rattle.std.proofs.lemmas.Bool.{cases_eq}
use Rattle.std.proofs.lemmas.Grind.{common_steps, get_or-set_at}
use Rattle.std.proofs.lemmas.List.{append-nil, drop-drop, drop_more, drop_all, get_or-map, get_or-replicate, get_or-set_other, length-map, length-replicate, length-set}
use Rattle.std.proofs.lemmas.List.Edits.{map_over_more}
use Rattle.std.proofs.lemmas.List.Sums.{sum_by-cons}
use Rattle.wbt_audit_walk.proofs.Common.{inode_at, Action, TaskLine, Trace, CheckEntry, DomainLine, cgroup_reads, effect, of_part, decision_at, tells, numbers, pages_of_action, pages_of_task, page_fault, writes_after, is_on, Told, wrote, checked, first_of, unless, told_of, IsJudged}
use Rattle.wbt_trace.specs.declared.trace.Action.TheVariants as action
use Rattle.wbt_journal.specs.Effects.{Write}
use Rattle.wbt_journal.specs.Lines.{check_lines, read_line, cgroup_lines, count_line, decision_line}
use Rattle.wbt_journal.specs.Machine.{cpu_of_task}
use Rattle.wbt_journal.specs.Pages.{is_at, next_page, write_fault, task_fault, move_fault}
use Rattle.wbt_journal.specs.Side.{is_own_task}
use Rattle.std.specs.Borrow.{Bor}
use Rattle.wbt_audit_walk.specs.declared.act.Act.{Act}
use Rattle.wbt_audit_walk.specs.declared.act.Act.TheVariants as act
use Rattle.wbt_audit_turns.specs.declared.plan.Span.{Span}
use Rattle.wbt_audit_turns.specs.Planned.{IsPlan, TaskPages, pages_of_spans, is_next, no_span}
use Rattle.wbt_audit_turns.specs.Written.{ArePlanned, ShowsWritten, all_left, no_pages}

-- ---- one task

-- the numbers after the first ones
numbers-drop : (from count n : ℕ) (more : List ℕ) → n ≤ count
    → drop n (numbers from count ++ more) ≡ numbers (from + n) (count - n) ++ more
numbers-drop from count zero more low =
    let a : from + 0 ≡ from = omega arith in let b : count - 0 ≡ count = omega arith in rw (a, b)
numbers-drop from zero (suc n) more low = absurd (omega arith)
numbers-drop from (suc count) (suc n) more low =
    let a : from + 1 + n ≡ from + suc n = omega arith in
    let b : count - n ≡ suc count - suc n = omega arith in
    numbers-drop (from + 1) count n more (omega arith) ∙ ap (λ (k : ℕ). numbers k (count - n) ++ more) a ∙ ap (λ (k : ℕ). numbers (from + suc n) k ++ more) b

module _ (spans : List Span) (span written : ℕ) (within : span < length spans) (some : written < (get_or spans span no_span).pages) where
  -- what is left begins with the page after those that were written
  pub at_span : drop written (pages_of_spans (drop span spans)) ≡ ((get_or spans span no_span).first + written) ∷ drop (written + 1) (pages_of_spans (drop span spans))
  at_span =
      let s = get_or spans span no_span in
      let later = pages_of_spans (drop (span + 1) spans) in
      let one : s.pages - written ≡ suc (s.pages - (written + 1)) = omega arith in
      let next : s.first + written + 1 ≡ s.first + (written + 1) = omega arith in
      let cut : pages_of_spans (drop span spans) ≡ numbers s.first s.pages ++ later = ap pages_of_spans (drop_more spans span no_span within) in
      rw (cut, numbers-drop s.first s.pages written later (omega arith), numbers-drop s.first s.pages (written + 1) later (omega arith), one, next)

  -- the last page of a span is written
  pub next_span : written + 1 ≡ (get_or spans span no_span).pages → drop (written + 1) (pages_of_spans (drop span spans)) ≡ pages_of_spans (drop (span + 1) spans)
  next_span last =
      let s = get_or spans span no_span in
      let later = pages_of_spans (drop (span + 1) spans) in
      let cut : pages_of_spans (drop span spans) ≡ numbers s.first s.pages ++ later = ap pages_of_spans (drop_more spans span no_span within) in
      let none : s.pages - (written + 1) ≡ 0 = omega arith in
      rw (cut, numbers-drop s.first s.pages (written + 1) later (omega arith), none)

-- a span more
pub spans-push : (spans : List Span) (span : Span) → pages_of_spans (spans ++ span ∷ []) ≡ pages_of_spans spans ++ numbers span.first span.pages
spans-push [] span = append-nil (numbers span.first span.pages)
spans-push (s ∷ spans) span = ap (λ (more : List ℕ). numbers s.first s.pages ++ more) (spans-push spans span) ∙ sym (append_assoc (numbers s.first s.pages) (pages_of_spans spans) (numbers span.first span.pages))

-- and what is left then
left-push : (spans : List Span) (n written : ℕ) (span : Span) → n ≤ length spans → (n < length spans → written < (get_or spans n no_span).pages) → (length spans ≤ n → written ≡ 0)
    → drop written (pages_of_spans (drop n (spans ++ span ∷ []))) ≡ drop written (pages_of_spans (drop n spans)) ++ numbers span.first span.pages
left-push [] zero written span at within none =
    rw (none (omega arith)) (append-nil (numbers span.first span.pages))
left-push [] (suc n) written span at within none = absurd (omega (arith, at))
left-push (s ∷ spans) zero written span at within none =
    let few = within (omega arith) in
    let a = numbers-drop s.first s.pages written (pages_of_spans (spans ++ span ∷ [])) (omega (arith, few)) in
    let b = numbers-drop s.first s.pages written (pages_of_spans spans) (omega (arith, few)) in
    let head = numbers (s.first + written) (s.pages - written) in
    a ∙ ap (λ (more : List ℕ). head ++ more) (spans-push spans span) ∙ sym (append_assoc head (pages_of_spans spans) (numbers span.first span.pages))
    ∙ ap (λ (l : List ℕ). l ++ numbers span.first span.pages) (sym b)
left-push (s ∷ spans) (suc n) written span at within none =
    left-push spans n written span (omega (arith, at)) (λ less. within (omega (arith, less))) (λ past. none (omega (arith, past)))

pub plan-push : (spans : List Span) (n written : ℕ) (span : Span) → IsPlan spans n written
    → drop written (pages_of_spans (drop n (spans ++ span ∷ []))) ≡ drop written (pages_of_spans (drop n spans)) ++ numbers span.first span.pages
plan-push spans n written span is = left-push spans n written span is.at_most is.within is.none

-- ---- all tasks

-- the next page is the first of those that are left
next_is : (page n : ℕ) (all : List ℕ) → is_next page (drop n all) ≡ is_at page (slice_get all n)
next_is page zero [] = refl
next_is page zero (next ∷ all) = refl
next_is page (suc n) [] = refl
next_is page (suc n) (next ∷ all) = next_is page n all

pub next_left : (trace : Trace) (plans : List TaskPages) (tasks : List ℕ) (task page : ℕ) → ShowsWritten trace plans tasks → task < length plans
    → is_next page (get_or plans task no_pages).left ≡ is_at page (slice_get (pages_of_task trace task) (count_by (λ by. by == task) tasks))
next_left trace plans tasks task page shows low =
    ap (is_next page) (shows.left task low) ∙ next_is page (count_by (λ by. by == task) tasks) (pages_of_task trace task)

-- nothing is written at the begin of a part
pub all_written_anew : (trace : Trace) (plans : List TaskPages) (tasks : List ℕ) → ShowsWritten trace plans tasks → ShowsWritten trace (map all_left plans) []
all_written_anew trace plans tasks shows = record {
  planned = length-map plans all_left ∙ shows.planned;
  all = λ task low. let below : task < length plans = omega (arith, length-map plans all_left) in
      rw (get_or-map all_left plans task no_pages no_pages below) (shows.all task below);
  left = λ task low. let below : task < length plans = omega (arith, length-map plans all_left) in
      rw (get_or-map all_left plans task no_pages no_pages below) (shows.all task below);
}

-- a plan that is made is that of a task which has written nothing
pub planned_all : (trace : Trace) (plans : List TaskPages) → ArePlanned trace plans [] → ShowsWritten trace (map all_left plans) []
planned_all trace plans are = record {
  planned = length-map plans all_left ∙ are.tasks;
  all = λ task low. let below : task < length plans = omega (arith, length-map plans all_left) in
      rw (get_or-map all_left plans task no_pages no_pages below) (sym (append-nil (get_or plans task no_pages).all) ∙ are.all task below);
  left = λ task low. let below : task < length plans = omega (arith, length-map plans all_left) in
      rw (get_or-map all_left plans task no_pages no_pages below) (sym (append-nil (get_or plans task no_pages).all) ∙ are.all task below);
}

pub none_planned : (trace : Trace) → ArePlanned trace (replicate (length trace.tasks) no_pages) trace.actions
none_planned trace = record {
  tasks = length-replicate {A = TaskPages} (length trace.tasks) no_pages;
  all = λ task low. let below : task < length trace.tasks = omega (arith, length-replicate {A = TaskPages} (length trace.tasks) no_pages) in
      rw (get_or-replicate {A = TaskPages} (length trace.tasks) task no_pages no_pages below);
}

count_one : (task by : ℕ) (tasks : List ℕ) (b : Bool) → (by == task) ≡ b → count_by (λ at. at == task) (by ∷ tasks) ≡ cond b 1 0 + count_by (λ at. at == task) tasks
count_one task by tasks b is = sum_by-cons (λ (at : ℕ). cond (at == task) 1 0) by tasks ∙ ap (λ (t : Bool). cond t 1 0 + count_by (λ at. at == task) tasks) is

same_is : (a b : ℕ) → a ≡ b → (a == b) ≡ true
same_is a b e = grind (arith, common_steps)

other_is : (a b : ℕ) → (b ≡ a → ⊥) → (a == b) ≡ false
other_is a b e = grind (arith, common_steps)

-- a task writes its next page
module _ (trace : Trace) (plans : List TaskPages) (tasks : List ℕ) (by : ℕ) (shows : ShowsWritten trace plans tasks) (low : by < length plans) where
  abbrev plan : TaskPages
  plan = record { all = (get_or plans by no_pages).all; left = drop 1 (get_or plans by no_pages).left }

  one_all : (task : ℕ) → task < length plans → (task ≡ by) ⊎ (task ≡ by → ⊥) → (get_or (set plans by plan) task no_pages).all ≡ pages_of_task trace task
  one_all task below (inl e) = rw (get_or-set_at {X = TaskPages} plans by task plan no_pages e low, e) (shows.all by low)
  one_all task below (inr e) = rw (get_or-set_other {A = TaskPages} plans by task plan no_pages e) (shows.all task below)

  one_left : (task : ℕ) → task < length plans → (task ≡ by) ⊎ (task ≡ by → ⊥)
      → (get_or (set plans by plan) task no_pages).left ≡ drop (count_by (λ at. at == task) (by ∷ tasks)) (pages_of_task trace task)
  one_left task below (inl e) =
      let n = count_by (λ at. at == by) tasks in
      let more : 1 + n ≡ n + 1 = omega arith in
      ap (λ (p : TaskPages). p.left) (get_or-set_at {X = TaskPages} plans by task plan no_pages e low)
      ∙ ap (λ (l : List ℕ). drop 1 l) (shows.left by low) ∙ drop-drop 1 n (pages_of_task trace by)
      ∙ ap (λ (k : ℕ). drop k (pages_of_task trace by)) (sym (count_one by by tasks true (same_is by by refl) ∙ more))
      ∙ ap (λ (t : ℕ). drop (count_by (λ at. at == t) (by ∷ tasks)) (pages_of_task trace t)) (sym e)
  one_left task below (inr e) =
      let n = count_by (λ at. at == task) tasks in
      let same : 0 + n ≡ n = omega arith in
      ap (λ (p : TaskPages). p.left) (get_or-set_other {A = TaskPages} plans by task plan no_pages e)
      ∙ shows.left task below
      ∙ ap (λ (k : ℕ). drop k (pages_of_task trace task)) (sym (count_one task by tasks false (other_is by task e) ∙ same))

  pub one_written : ShowsWritten trace (set plans by plan) (by ∷ tasks)
  one_written = record {
    planned = length-set plans by plan ∙ shows.planned;
    all = λ task below. one_all task (omega (arith, length-set plans by plan)) (cases_eq task by);
    left = λ task below. one_left task (omega (arith, length-set plans by plan)) (cases_eq task by);
  }

-- an action more is planned
module _ (trace : Trace) (plans : List TaskPages) (actions : List Action) (by inode from pages : ℕ) (plan : TaskPages)
    (are : ArePlanned trace plans (action.Write by inode from pages ∷ actions)) (low : by < length plans)
    (is : plan.all ≡ (get_or plans by no_pages).all ++ numbers ((inode_at inode trace.inodes).first + from) pages) where
  step_all : (task : ℕ) → task < length plans → (task ≡ by) ⊎ (task ≡ by → ⊥)
      → (get_or (set plans by plan) task no_pages).all ++ flat_map (pages_of_action trace.inodes task) actions ≡ pages_of_task trace task
  step_all task below (inl e) =
      rw (get_or-set_at {X = TaskPages} plans by task plan no_pages e low, e, is)
      (append_assoc (get_or plans by no_pages).all (numbers ((inode_at inode trace.inodes).first + from) pages) (flat_map (pages_of_action trace.inodes by) actions)
      ∙ ap (λ (b : Bool). (get_or plans by no_pages).all ++ (cond b (numbers ((inode_at inode trace.inodes).first + from) pages) [] ++ flat_map (pages_of_action trace.inodes by) actions)) (sym (same_is by by refl))
      ∙ are.all by low)
  step_all task below (inr e) =
      rw (get_or-set_other {A = TaskPages} plans by task plan no_pages e)
      (ap (λ (b : Bool). (get_or plans task no_pages).all ++ (cond b (numbers ((inode_at inode trace.inodes).first + from) pages) [] ++ flat_map (pages_of_action trace.inodes task) actions)) (sym (other_is by task e))
      ∙ are.all task below)

  pub write_planned : ArePlanned trace (set plans by plan) actions
  write_planned = record {
    tasks = length-set plans by plan ∙ are.tasks;
    all = λ task below. step_all task (omega (arith, length-set plans by plan)) (cases_eq task by);
  }

-- ---- one step

default_is : {A : Type 0} (xs : List A) (i : ℕ) (d e : A) → i < length xs → get_or xs i d ≡ get_or xs i e
default_is [] i d e low = absurd (omega arith)
default_is (x ∷ xs) zero d e low = refl
default_is (x ∷ xs) (suc i) d e low = default_is xs i d e (omega arith)

-- a task is at a span, of which it wrote so many pages
pub record IsAt (spans : List Span) (span written : ℕ) (item : Span) : Type 0 where
  pub within : span < length spans
  pub here : get_or spans span no_span ≡ item
  pub some : written < (get_or spans span no_span).pages

pub sees : (spans now : List Span) (span written : ℕ) (item : Span) → now ≡ spans → true ≡ nat_lt span (length now) → item ≡ get_or now span item
    → (span < length spans → written < (get_or spans span no_span).pages) → IsAt spans span written item
sees spans now span written item same test is some =
    let count : length now ≡ length spans = ap length same in
    let below : span < length now = grind (arith, common_steps, test) in
    let within : span < length spans = omega arith in record {
      within = within;
      here = default_is spans span no_span item within ∙ sym (ap (λ (l : List Span). get_or l span item) same) ∙ sym is;
      some = some within;
    }

pub left_is : (spans : List Span) (span written : ℕ) (item : Span) → IsAt spans span written item
    → drop written (pages_of_spans (drop span spans)) ≡ (item.first + written) ∷ drop (written + 1) (pages_of_spans (drop span spans))
left_is spans span written item at =
    at_span spans span written at.within at.some
    ∙ ap (λ (s : Span). (s.first + written) ∷ drop (written + 1) (pages_of_spans (drop span spans))) at.here

pub last_is : (spans : List Span) (span written : ℕ) (item : Span) → IsAt spans span written item → written + 1 ≡ item.pages
    → drop (written + 1) (pages_of_spans (drop span spans)) ≡ pages_of_spans (drop (span + 1) spans)
last_is spans span written item at last =
    let pages : item.pages ≡ (get_or spans span no_span).pages = ap (λ (s : Span). s.pages) (sym at.here) in
    next_span spans span written at.within at.some (last ∙ pages)

differ : (a b : ℕ) → (a ≡ b → ⊥) → (a == b) ≡ false
differ a b e = grind (arith, common_steps)

pub next_no : (page n : ℕ) (left more : List ℕ) → left ≡ n ∷ more → (n ≡ page → ⊥) → false ≡ is_next page left
next_no page n left more is other = rw is (sym (differ n page other))

pub next_yes : (page n : ℕ) (left more : List ℕ) → left ≡ n ∷ more → n ≡ page → true ≡ is_next page left
next_yes page n left more is same = rw is (sym (same_is n page same))

pub pages_are : (all all' left left' : List ℕ) → all ≡ all' → left ≡ left' → ◌≡◌ {A = TaskPages} (record { all = all; left = left }) (record { all = all'; left = left' })
pages_are all all' left left' p q = cc

-- a write in the part of its task's CPU

first_only : (found : Option ℕ) → first_of found None ≡ found
first_only None = refl
first_only (Some at) = refl

write_told : (trace : Trace) (tasks : List ℕ) (cpu task page : ℕ) (fresh own next : Bool) → is_own_task trace cpu task ≡ own
    → is_at page (next_page trace tasks task) ≡ next → page_fault trace tasks (tells cpu (wrote task page fresh)) ≡ unless (own && next) 0
write_told trace tasks cpu task page fresh own next one two =
    first_only (unless (is_own_task trace cpu task && is_at page (next_page trace tasks task)) 0)
    ∙ ap (λ (b : Bool). unless (b && is_at page (next_page trace tasks task)) 0) one ∙ ap (λ (b : Bool). unless (own && b) 0) two

pub own_low : (lines : List TaskLine) (task cpu : ℕ) → is_on cpu (cpu_of_task (slice_get lines task)) ≡ true → task < length lines
own_low [] task cpu own = cc
own_low (line ∷ lines) zero cpu own = omega arith
own_low (line ∷ lines) (suc task) cpu own = let low = own_low lines task cpu own in omega arith

some_none : (n : ℕ) → Some n ≡ None → ⊥
some_none n e = cc

pub write_strange : (trace : Trace) (plans : List TaskPages) (tasks : List ℕ) (after : List ℕ → Type 0) (cpu task page : ℕ) (fresh : Bool)
    → is_own_task trace cpu task ≡ false → IsJudged (page_fault trace) writes_after after tasks (tells cpu (wrote task page fresh)) (Some 0)
write_strange trace plans tasks after cpu task page fresh own = record {
  answer = write_told trace tasks cpu task page fresh false (is_at page (next_page trace tasks task)) own refl;
  goes_on = λ e. absurd (some_none 0 e);
}

pub write_refused : (trace : Trace) (plans : List TaskPages) (tasks : List ℕ) (after : List ℕ → Type 0) (cpu task page : ℕ) (fresh : Bool) (plan : TaskPages)
    → ShowsWritten trace plans tasks → task < length plans → is_own_task trace cpu task ≡ true → false ≡ is_next page (get_or plans task plan).left
    → IsJudged (page_fault trace) writes_after after tasks (tells cpu (wrote task page fresh)) (Some 0)
write_refused trace plans tasks after cpu task page fresh plan shows low own next = record {
  answer = write_told trace tasks cpu task page fresh true false own
      (sym (next_left trace plans tasks task page shows low) ∙ ap (λ (p : TaskPages). is_next page p.left) (default_is plans task no_pages plan low) ∙ sym next);
  goes_on = λ e. absurd (some_none 0 e);
}

abbrev pages_step : (p : TaskPages) → TaskPages
pages_step p = record { all = p.all; left = drop 1 p.left }

pub write_done : (trace : Trace) (plans : List TaskPages) (tasks : List ℕ) (cpu task page : ℕ) (fresh : Bool) (plan new : TaskPages)
    → ShowsWritten trace plans tasks → task < length plans → is_own_task trace cpu task ≡ true → true ≡ is_next page (get_or plans task plan).left
    → new ≡ record { all = (get_or plans task plan).all; left = drop 1 (get_or plans task plan).left }
    → IsJudged (page_fault trace) writes_after (ShowsWritten trace (set plans task new)) tasks (tells cpu (wrote task page fresh)) None
write_done trace plans tasks cpu task page fresh plan new shows low own next is =
    let same = default_is plans task no_pages plan low in record {
      answer = write_told trace tasks cpu task page fresh true true own
          (sym (next_left trace plans tasks task page shows low) ∙ ap (λ (p : TaskPages). is_next page p.left) same ∙ sym next);
      goes_on = λ e. subst (λ (p : TaskPages). ShowsWritten trace (set plans task p) (task ∷ tasks))
          (ap (λ (p : TaskPages). pages_step p) same ∙ sym is) (one_written trace plans tasks task shows low);
    }

-- a check of a task

check_lines_are : (check : CheckEntry) → length (check_lines check) - 1 ≡ decision_at check
check_lines_are check = by_cgroup check.cgroup
  where
    by_cgroup : (which : Option DomainLine) → length (read_line check.global ∷ cgroup_lines which ++ count_line check ∷ decision_line check ∷ []) - 1
        ≡ length (check.global ∷ cgroup_reads which) + 1
    by_cgroup None = refl
    by_cgroup (Some read) = refl

check_told : (trace : Trace) (tasks : List ℕ) (cpu : ℕ) (check : CheckEntry) (own : Bool) → is_own_task trace cpu check.task ≡ own
    → page_fault trace tasks (tells cpu (checked check)) ≡ unless own (decision_at check)
check_told trace tasks cpu check own is =
    first_only (unless (is_own_task trace cpu check.task) (decision_at check)) ∙ ap (λ (b : Bool). unless b (decision_at check)) is

pub check_passes : (trace : Trace) (tasks : List ℕ) (keeps : List ℕ → Type 0) (cpu : ℕ) (check : CheckEntry) → keeps tasks → is_own_task trace cpu check.task ≡ true
    → IsJudged (page_fault trace) writes_after keeps tasks (tells cpu (checked check)) None
check_passes trace tasks keeps cpu check kept own = record { answer = check_told trace tasks cpu check true own; goes_on = λ e. kept }

pub check_strange : (trace : Trace) (tasks : List ℕ) (keeps : List ℕ → Type 0) (cpu : ℕ) (check : CheckEntry) (lines : ℕ) → lines ≡ length (check_lines check)
    → is_own_task trace cpu check.task ≡ false → IsJudged (page_fault trace) writes_after keeps tasks (tells cpu (checked check)) (Some (lines - 1))
check_strange trace tasks keeps cpu check lines is own = record {
  answer = check_told trace tasks cpu check false own ∙ ap (λ (n : ℕ). Some n) (sym (check_lines_are check)) ∙ ap (λ (n : ℕ). Some (n - 1)) (sym is);
  goes_on = λ e. absurd (some_none (lines - 1) e);
}

-- another entry

pub other_judged : (trace : Trace) (tasks : List ℕ) (keeps : List ℕ → Type 0) (cpu : ℕ) (entry : Told) (found : Option ℕ) → keeps tasks
    → (effect entry).write ≡ None → (effect entry).check ≡ None → found ≡ of_part None (move_fault trace) (effect entry).flight
    → IsJudged (page_fault trace) writes_after keeps tasks (tells cpu entry) found
other_judged trace tasks keeps cpu entry found kept no_write no_check is = record {
  answer =
      ap (λ (w : Option Write). first_of (of_part None (write_fault trace tasks cpu) w) (first_of (of_part None (task_fault trace cpu) (effect entry).check) (of_part None (move_fault trace) (effect entry).flight))) no_write
      ∙ ap (λ (w : Option CheckEntry). first_of (of_part None (task_fault trace cpu) w) (of_part None (move_fault trace) (effect entry).flight)) no_check
      ∙ sym is;
  goes_on = λ e. subst keeps (sym (ap (λ (w : Option Write). of_part tasks (λ (write : Write). write.task ∷ tasks) w) no_write)) kept;
}

-- ---- all tasks begin anew, one after another

pub placed : (xs ys : List TaskPages) (i : ℕ) (item new : TaskPages) → i < length xs → ys ≡ map all_left (take i xs) ++ drop i xs → length ys ≡ length xs
    → item ≡ get_or ys i item → new ≡ all_left (get_or ys i item) → set ys i new ≡ map all_left (take (i + 1) xs) ++ drop (i + 1) xs
placed xs ys i item new low are same is made =
    ap (set ys i) (made ∙ ap all_left (sym is)) ∙ map_over_more all_left xs ys i item low are is

pub write_planned_by : (trace : Trace) (plans : List TaskPages) (actions : List Action) (by inode from pages : ℕ) (old plan : TaskPages)
    → ArePlanned trace plans (action.Write by inode from pages ∷ actions) → by < length plans → (first : ℕ) → first ≡ (inode_at inode trace.inodes).first
    → plan.all ≡ (get_or plans by old).all ++ numbers (first + from) pages → ArePlanned trace (set plans by plan) actions
write_planned_by trace plans actions by inode from pages old plan are low first is made =
    write_planned trace plans actions by inode from pages plan are low
    (made ∙ ap (λ (p : TaskPages). p.all ++ numbers (first + from) pages) (default_is plans by old no_pages low)
    ∙ ap (λ (k : ℕ). (get_or plans by no_pages).all ++ numbers (k + from) pages) is)

pub planned_at : (trace : Trace) (plans : List TaskPages) (now : List Action) (i : ℕ) (d : Action) → now ≡ trace.actions → i < length now
    → ArePlanned trace plans (drop i trace.actions) → ArePlanned trace plans (get_or now i d ∷ drop (i + 1) trace.actions)
planned_at trace plans now i d same low are =
    let below : i < length trace.actions = omega (arith, ap length same) in
    let here : get_or trace.actions i d ≡ get_or now i d = ap (λ (l : List Action). get_or l i d) (sym same) in
    subst (λ (l : List Action). ArePlanned trace plans l)
    (drop_more trace.actions i d below ∙ ap (λ (x : Action). x ∷ drop (i + 1) trace.actions) here) are

pub planned_end : (trace : Trace) (plans new : List TaskPages) (now : List Action) (i : ℕ) → now ≡ trace.actions → length now ≤ i
    → ArePlanned trace plans (drop i trace.actions) → new ≡ map all_left plans → ShowsWritten trace new []
planned_end trace plans new now i same past are is =
    let below : length trace.actions ≤ i = omega (arith, ap length same) in
    subst (λ (l : List TaskPages). ShowsWritten trace l []) (sym is)
    (planned_all trace plans (subst (λ (l : List Action). ArePlanned trace plans l) (drop_all i trace.actions below) are))

-- what an act that is no write and no check does
pub none_else : (a : Act) → ((task page : ℕ) (fresh : Bool) → a ≡ act.Write task page fresh → ⊥) → ((check : Bor CheckEntry) → a ≡ act.Check check → ⊥)
    → ((effect (told_of a)).write ≡ None) × ((effect (told_of a)).check ≡ None)
none_else (act.Write task page fresh) no_write no_check = absurd (no_write task page fresh refl)
none_else (act.Check check) no_write no_check = absurd (no_check check refl)
none_else (act.Fold fold) no_write no_check = (refl, refl)
none_else (act.Claim flusher page) no_write no_check = (refl, refl)
none_else (act.Batch flusher pages now until) no_write no_check = (refl, refl)
none_else (act.Done flusher page) no_write no_check = (refl, refl)
none_else (act.Share domain context n) no_write no_check = (refl, refl)
none_else (act.Est est) no_write no_check = (refl, refl)
none_else (act.Fault flusher pages) no_write no_check = (refl, refl)
none_else (act.Back flusher page absorbed) no_write no_check = (refl, refl)
none_else (act.Notice flusher inode since) no_write no_check = (refl, refl)
none_else (act.Age flusher inode due now) no_write no_check = (refl, refl)
none_else (act.Take flusher inode) no_write no_check = (refl, refl)
