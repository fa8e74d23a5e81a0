-- Where each task that rests last has its CPU alone, the ends of such tasks among a part's entries change nothing that is judged.
use Rattle.std.proofs.Common.{◌≡◌, ◌≢◌, ℕ, zero, suc, ◌+◌, ◌-◌, ◌<◌, ◌≤◌, ◌⊎◌, inl, inr, Bool, true, false, not, ◌&&◌, ◌==◌, cond, eqb, if◌then◌else◌, Option, Some, None, IfSome, List, [], ◌∷◌, length, map, get_or, set, replicate, refl, sym, ◌∙◌, ap, subst, arith, eq-eqb, ne_eqb, true≢false, count_by}
use Rattle.std.specs.Prelude.{slice_get}
use Rattle.std.specs.List.{list_all}
use Rattle.std.proofs.lemmas.Bool.{cond-true, cond-false, cases_eq, cases_lt, eqb-true}
use Rattle.std.proofs.lemmas.List.{get_or-set_same, get_or-set_other, length-set, map-set, set-get_or}
use Rattle.std.proofs.lemmas.Option.{slice_get_past}
use Rattle.std.proofs.lemmas.List.Sums.{sum_by-cons}
use Rattle.wbt_pause.specs.declared.decision.Decision.{Decision}
use Rattle.wbt_task.specs.Allowance.{ended, first}
use Rattle.wbt_task.specs.History.{Cpu, new_cpu, new_writer, writer_of, cpu_step, cpu_after, writer_in}
use Rattle.wbt_task.specs.declared.allowance.CpuLocal.{CpuLocal}
use Rattle.wbt_task.specs.declared.allowance.Due.TheVariants as due
use Rattle.wbt_task.specs.declared.history.Event.{Event as CpuEvent}
use Rattle.wbt_task.specs.declared.history.Event.TheVariants as history
use Rattle.wbt_task.specs.declared.history.Writer.{Writer}
use Rattle.wbt_task.proofs.Keeping.{others_stay, same_writers}
use Rattle.wbt_trace.specs.declared.trace.TaskLine.{TaskLine}
use Rattle.wbt_trace.specs.declared.trace.Trace.{Trace}
use Rattle.wbt_trace.specs.declared.writers.Writer.{Writer as Name}
use Rattle.wbt_journal.specs.declared.entry.CheckEntry.{CheckEntry}
use Rattle.wbt_journal.specs.declared.journal.Ending.{Ending}
use Rattle.wbt_journal.specs.declared.journal.Ending.TheVariants as ending
use Rattle.wbt_journal.specs.Checks.{Decides, DecidesBy, named_estimate, Stands, StandsItem, StandsTold, IsQuiet, MayEnd, NoneDue, MayCheck, is_judged}
use Rattle.wbt_journal.specs.Each.{Each}
use Rattle.wbt_journal.specs.Effects.{Effect, Write, effect, of_part}
use Rattle.wbt_journal.specs.Items.{Item, begins, tells}
use Rattle.wbt_journal.specs.Lawful.{DecidesEvent, items_among}
use Rattle.wbt_journal.specs.Laws.{RestersAreAlone}
use Rattle.wbt_journal.specs.Machine.{pages_of_task, page_context, ratelimit_pages, rests_last, cpu_of_task, task_cpu}
use Rattle.wbt_journal.specs.Pages.{PagesAreNext, NamesPages, Writes, next_page, writes_after}
use Rattle.wbt_journal.specs.Side.{Event, item, ends, Side, TaskState, all_writers, number_from, number_of, numbers_from, numbers_of, no_task, task_of, is_on, is_own_task, is_none_due, end_task, settle, with_page, write_fresh, check_by, write_page, side_after_write, side_after_check, side_after_told, side_after_item, side_after, first_states, first_side, is_quiet}
use Rattle.wbt_journal.specs.Told.{Told}
use Rattle.wbt_journal.specs.Walk.{Along, after}

-- ---- the writers by name

abbrev no_name : Name
no_name = record { task = 0; context = 0 }

-- a number that a search gives is that of a writer of the task
at_least : (task context m : ℕ) (ws : List Name) → m ≤ number_from task context m ws
at_least task context m [] = omega arith
at_least task context m (w ∷ ws) =
    let rest = at_least task context (m + 1) ws in
    elim (w.task == task && w.context == context) as (λ b. m ≤ cond b m (number_from task context (m + 1) ws)) [ true ↦ omega arith | false ↦ omega arith ]

and_left : (a b : Bool) → (a && b) ≡ true → a ≡ true
and_left true b is = refl
and_left false b is = absurd (true≢false (sym is))

named : (task context m : ℕ) (ws : List Name) (n : ℕ) → number_from task context m ws ≡ m + n → n < length ws → (get_or ws n no_name).task ≡ task
named task context m [] n is less = absurd (omega arith)
named task context m (w ∷ ws) n is less = by (λ k found inside. named task context (m + 1) ws k found inside) (w.task == task && w.context == context) refl is
  where
    later : ((k : ℕ) → number_from task context (m + 1) ws ≡ m + 1 + k → k < length ws → (get_or ws k no_name).task ≡ task) → (k : ℕ) → number_from task context (m + 1) ws ≡ m + k → k < length (w ∷ ws) → (get_or (w ∷ ws) k no_name).task ≡ task
    later more zero found inside = let low = at_least task context (m + 1) ws in absurd (omega arith)
    later more (suc k) found inside = more k (omega arith) (omega arith)

    here : (k : ℕ) → m ≡ m + k → w.task ≡ task → (get_or (w ∷ ws) k no_name).task ≡ task
    here zero found is_own = is_own
    here (suc k) found is_own = absurd (omega arith)

    by : ((k : ℕ) → number_from task context (m + 1) ws ≡ m + 1 + k → k < length ws → (get_or ws k no_name).task ≡ task) → (b : Bool) → (w.task == task && w.context == context) ≡ b → cond b m (number_from task context (m + 1) ws) ≡ m + n → (get_or (w ∷ ws) n no_name).task ≡ task
    by more true at found = here n found (eqb-true w.task task (and_left (w.task == task) (w.context == context) at))
    by more false at found = later more n found less

-- what holds of each number of a task's writers
each_number : (P : ℕ → Type 0) (task m : ℕ) (ws : List Name) → ((n : ℕ) → n < length ws → (get_or ws n no_name).task ≡ task → P (m + n)) → Each P (numbers_from task m ws)
each_number P task m [] gives = tt
each_number P task m (w ∷ ws) gives =
    let rest = each_number P task (m + 1) ws (λ n less own. subst P (let e : m + suc n ≡ m + 1 + n = omega arith in e) (gives (suc n) (omega arith) own)) in
    elim (cases_eq w.task task) [
      | inl own ↦ subst (Each P) (sym (cond-true (eqb w.task task) (m ∷ numbers_from task (m + 1) ws) (numbers_from task (m + 1) ws) (eq-eqb w.task task own)))
          (subst P (let e : m + 0 ≡ m = omega arith in e) (gives 0 (omega arith) own), rest)
      | inr other ↦ subst (Each P) (sym (cond-false (eqb w.task task) (m ∷ numbers_from task (m + 1) ws) (numbers_from task (m + 1) ws) (ne_eqb w.task task other))) rest
    ]

of_number : (P : ℕ → Type 0) (task m : ℕ) (ws : List Name) → Each P (numbers_from task m ws) → (n : ℕ) → n < length ws → (get_or ws n no_name).task ≡ task → P (m + n)
of_number P task m [] all n less own = absurd (omega arith)
of_number P task m (w ∷ ws) all n less own = by (λ rest k inside is_own. of_number P task (m + 1) ws rest k inside is_own) (cases_eq w.task task)
  where
    first_or : (Each P (numbers_from task (m + 1) ws) → (k : ℕ) → k < length ws → (get_or ws k no_name).task ≡ task → P (m + 1 + k)) → P m → Each P (numbers_from task (m + 1) ws) → (k : ℕ) → k < length (w ∷ ws) → (get_or (w ∷ ws) k no_name).task ≡ task → P (m + k)
    first_or later head rest zero inside is_own = subst P (let e : m ≡ m + 0 = omega arith in e) head
    first_or later head rest (suc k) inside is_own = subst P (let e : m + 1 + k ≡ m + suc k = omega arith in e) (later rest k (omega arith) is_own)

    not_first : (Each P (numbers_from task (m + 1) ws) → (k : ℕ) → k < length ws → (get_or ws k no_name).task ≡ task → P (m + 1 + k)) → w.task ≢ task → Each P (numbers_from task (m + 1) ws) → (k : ℕ) → k < length (w ∷ ws) → (get_or (w ∷ ws) k no_name).task ≡ task → P (m + k)
    not_first later other rest zero inside is_own = absurd (other is_own)
    not_first later other rest (suc k) inside is_own = subst P (let e : m + 1 + k ≡ m + suc k = omega arith in e) (later rest k (omega arith) is_own)

    by : (Each P (numbers_from task (m + 1) ws) → (k : ℕ) → k < length ws → (get_or ws k no_name).task ≡ task → P (m + 1 + k)) → (w.task ≡ task) ⊎ (w.task ≢ task) → P (m + n)
    by later (inl same) =
        let both : Each P (m ∷ numbers_from task (m + 1) ws) =
        subst (Each P) (cond-true (eqb w.task task) (m ∷ numbers_from task (m + 1) ws) (numbers_from task (m + 1) ws) (eq-eqb w.task task same)) all in
        first_or later both.0 both.1 n less own
    by later (inr other) =
        not_first later other (subst (Each P) (cond-false (eqb w.task task) (m ∷ numbers_from task (m + 1) ws) (numbers_from task (m + 1) ws) (ne_eqb w.task task other)) all) n less own

each_by_place : (P : Writer → Type 0) (d : Writer) (ws : List Writer) → ((n : ℕ) → n < length ws → P (get_or ws n d)) → Each P ws
each_by_place P d [] gives = tt
each_by_place P d (w ∷ ws) gives = (gives 0 (omega arith), each_by_place P d ws (λ n less. gives (suc n) (omega arith)))

new_ones : (w d : Writer) (count n : ℕ) → n < count → get_or (replicate count w) n d ≡ w
new_ones w d zero n less = absurd (omega arith)
new_ones w d (suc count) zero less = refl
new_ones w d (suc count) (suc n) less = new_ones w d count n (omega arith)

long_ones : (w : Writer) (count : ℕ) → length (replicate count w) ≡ count
long_ones w zero = refl
long_ones w (suc count) = ap suc (long_ones w count)

new_is_quiet : (cap : ℕ) → (new_writer cap).due ≡ due.No
unfolding new_writer
new_is_quiet cap = refl

-- ---- the two sides: with the ends of tasks, and without

todos : (s : Side) → List ℕ
todos s = map (λ (t : TaskState). t.todo) s.tasks

module _ (trace : Trace) (opened cpu : ℕ) where
  -- the writer of a number is of a task of this CPU; of another
  abbrev IsOwn : (n : ℕ) → Type 0
  IsOwn n = n < length (all_writers trace) → is_own_task trace cpu (get_or (all_writers trace) n no_name).task ≡ true

  abbrev IsForeign : (n : ℕ) → Type 0
  IsForeign n = is_own_task trace cpu (get_or (all_writers trace) n no_name).task ≡ false

  -- the writers of other CPUs' tasks are new
  record Untouched (c : Cpu) : Type 0 where
    long : length c.writers ≡ length (all_writers trace)
    new : (n : ℕ) → n < length (all_writers trace) → IsForeign n → writer_of c n ≡ new_writer trace.cap

  abbrev limit : ℕ
  limit = ratelimit_pages trace opened

  differs : (n m : ℕ) → n < length (all_writers trace) → IsForeign n → IsOwn m → n ≢ m
  differs n m less foreign own = λ is. true≢false (sym (own (subst (λ k. k < length (all_writers trace)) is less)) ∙ subst IsForeign is foreign)

  step_untouched : (c : Cpu) (event : CpuEvent) → Untouched c → IsOwn (writer_in event) → Untouched (cpu_step limit trace.cap c event)
  step_untouched c event un own = record {
    long = same_writers limit trace.cap c event ∙ un.long;
    new = λ n less foreign. others_stay limit trace.cap c event n (differs n (writer_in event) less foreign own) ∙ un.new n less foreign;
  }

  ends_untouched : (c : Cpu) (ns : List ℕ) → Untouched c → Each IsOwn ns → Untouched (cpu_after limit trace.cap c (map history.Ended ns))
  unfolding cpu_after
  ends_untouched c [] un all = un
  ends_untouched c (n ∷ ns) un all = ends_untouched (cpu_step limit trace.cap c (history.Ended n)) ns (step_untouched c (history.Ended n) un all.0) all.1

  own_number : (task context : ℕ) → is_own_task trace cpu task ≡ true → IsOwn (number_of trace task context)
  own_number task context own less =
      subst (λ t. is_own_task trace cpu t ≡ true) (sym (named task context 0 (all_writers trace) (number_of trace task context) (omega arith) less)) own

  own_numbers : (task : ℕ) → is_own_task trace cpu task ≡ true → Each IsOwn (numbers_of trace task)
  own_numbers task own = each_number IsOwn task 0 (all_writers trace) (λ n less is. λ inside. subst (λ t. is_own_task trace cpu t ≡ true) (sym (ap (λ k. (get_or (all_writers trace) k no_name).task) (let e : 0 + n ≡ n = omega arith in e) ∙ is)) own)

  -- a foreign task's end changes nothing that the CPU counts
  abbrev IsNew : (c : Cpu) (n : ℕ) → Type 0
  IsNew c n = writer_of c n ≡ new_writer trace.cap

  end_changes_nothing : (c : Cpu) (n : ℕ) → n < length c.writers → IsNew c n → cpu_step limit trace.cap c (history.Ended n) ≡ c
  unfolding cpu_step ended new_writer first
  end_changes_nothing c n less new =
      let leaks : c.local.leaks + (writer_of c n).task.nr_dirtied ≡ c.local.leaks = let zero_is : (writer_of c n).task.nr_dirtied ≡ 0 = ap (λ (w : Writer). w.task.nr_dirtied) new in omega arith in
      let writers : set c.writers n (new_writer trace.cap) ≡ c.writers = ap (λ (w : Writer). set c.writers n w) (sym new) ∙ set-get_or c.writers n (new_writer 0) in
      (λ i. record { local = record { since_check = c.local.since_check; leaks = leaks i }; writers = writers i })

  ends_change_nothing : (c : Cpu) (ns : List ℕ) → Each (λ n. (n < length c.writers) × IsNew c n) ns → cpu_after limit trace.cap c (map history.Ended ns) ≡ c
  unfolding cpu_after
  ends_change_nothing c [] all = refl
  ends_change_nothing c (n ∷ ns) all =
      ap (λ (d : Cpu). cpu_after limit trace.cap d (map history.Ended ns)) (end_changes_nothing c n all.0.0 all.0.1) ∙ ends_change_nothing c ns all.1

  foreign_ends : (c : Cpu) (task : ℕ) → Untouched c → is_own_task trace cpu task ≡ false → cpu_after limit trace.cap c (map history.Ended (numbers_of trace task)) ≡ c
  foreign_ends c task un foreign = ends_change_nothing c (numbers_of trace task)
      (each_number (λ n. (n < length c.writers) × IsNew c n) task 0 (all_writers trace) (λ n less is.
      let e : n ≡ 0 + n = omega arith in
      subst (λ k. (k < length c.writers) × IsNew c k) e (omega (arith, un.long), un.new n less (subst (λ t. is_own_task trace cpu t ≡ false) (sym is) foreign))))

  -- ---- the two sides along an item

  record Alike (s t : Side) : Type 0 where
    cpus : s.cpu ≡ t.cpu
    todo : todos s ≡ todos t

  todo_at : (s : Side) (task : ℕ) → (task_of s task).todo ≡ get_or (todos s) task 0
  unfolding todos
  todo_at s task = at s.tasks task
    where
      at : (ts : List TaskState) (k : ℕ) → (get_or ts k no_task).todo ≡ get_or (map (λ (t : TaskState). t.todo) ts) k 0
      at [] k = refl
      at (t ∷ ts) zero = refl
      at (t ∷ ts) (suc k) = at ts k

  alike_at : (s t : Side) (task : ℕ) → Alike s t → (task_of s task).todo ≡ (task_of t task).todo
  alike_at s t task alike = todo_at s task ∙ ap (λ (ns : List ℕ). get_or ns task 0) alike.todo ∙ sym (todo_at t task)

  todos_end : (s : Side) (task : ℕ) → todos (end_task trace opened task s) ≡ todos s
  unfolding todos
  todos_end s task = map-set (λ (t : TaskState). t.todo) s.tasks task (record { todo = (task_of s task).todo; has_ended = true })
      ∙ ap (λ n. set (todos s) task n) (todo_at s task) ∙ set-get_or (todos s) task 0

  abbrev over : (s : Side) (task : ℕ) → Bool
  over s task = not (rests_last trace task) && ((task_of s task).todo == 0 && is_none_due trace s task)

  abbrev by_test : (task : ℕ) (s : Side) (b : Bool) → Side
  by_test task s b = if b then end_task trace opened task s else s

  todos_settle : (s : Side) (task : ℕ) → todos (settle trace opened task s) ≡ todos s
  todos_settle s task = by (over s task)
    where
      by : (b : Bool) → todos (by_test task s b) ≡ todos s
      by true = todos_end s task
      by false = refl

  todos_page : (s : Side) (task : ℕ) → todos (with_page task s) ≡ set (todos s) task (get_or (todos s) task 0 - 1)
  unfolding todos
  todos_page s task = map-set (λ (t : TaskState). t.todo) s.tasks task (record { todo = (task_of s task).todo - 1; has_ended = (task_of s task).has_ended })
      ∙ ap (λ n. set (todos s) task (n - 1)) (todo_at s task)

  alike_end : (s t : Side) (task : ℕ) → Alike s t → Alike (end_task trace opened task s) (end_task trace opened task t)
  alike_end s t task alike = record {
    cpus = ap (λ (c : Cpu). cpu_after limit trace.cap c (map history.Ended (numbers_of trace task))) alike.cpus;
    todo = todos_end s task ∙ alike.todo ∙ sym (todos_end t task);
  }

  none_due_alike : (s t : Side) (task : ℕ) → s.cpu ≡ t.cpu → is_none_due trace s task ≡ is_none_due trace t task
  none_due_alike s t task is = ap (λ (c : Cpu). is_none_due trace (record { cpu = c; tasks = [] }) task) is

  alike_settle : (s t : Side) (task : ℕ) → Alike s t → Alike (settle trace opened task s) (settle trace opened task t)
  alike_settle s t task alike = subst (λ b. Alike (settle trace opened task s) (by_test task t b)) same (by (over s task))
    where
      same : over s task ≡ over t task
      same = ap (λ n. not (rests_last trace task) && (n == 0 && is_none_due trace s task)) (alike_at s t task alike)
          ∙ ap (λ b. not (rests_last trace task) && ((task_of t task).todo == 0 && b)) (none_due_alike s t task alike.cpus)

      by : (b : Bool) → Alike (by_test task s b) (by_test task t b)
      by true = alike_end s t task alike
      by false = alike

  alike_page : (s t : Side) (task : ℕ) → Alike s t → Alike (with_page task s) (with_page task t)
  alike_page s t task alike = record {
    cpus = alike.cpus;
    todo = todos_page s task ∙ ap (λ (ns : List ℕ). set ns task (get_or ns task 0 - 1)) alike.todo ∙ sym (todos_page t task);
  }

  alike_fresh : (s t : Side) (task context : ℕ) → Alike s t → Alike (write_fresh trace opened task context s) (write_fresh trace opened task context t)
  unfolding todos
  alike_fresh s t task context alike = record {
    cpus = ap (λ (c : Cpu). cpu_step limit trace.cap c (history.Wrote (number_of trace task context))) alike.cpus;
    todo = alike.todo;
  }

  alike_check : (s t : Side) (task context : ℕ) (decision : Decision) → Alike s t → Alike (check_by trace opened task context decision s) (check_by trace opened task context decision t)
  unfolding todos
  alike_check s t task context decision alike = record {
    cpus = ap (λ (c : Cpu). cpu_step limit trace.cap c (history.Checked (number_of trace task context) decision)) alike.cpus;
    todo = alike.todo;
  }

  alike_write : (s t : Side) (task : ℕ) (context : Option ℕ) (fresh : Bool) → Alike s t → Alike (write_page trace opened task context fresh s) (write_page trace opened task context fresh t)
  alike_write s t task None fresh alike = alike
  alike_write s t task (Some context) true alike =
      alike_settle _ _ task (alike_page _ _ task (alike_fresh s t task context alike))
  alike_write s t task (Some context) false alike = alike_settle _ _ task (alike_page s t task alike)

  alike_if : (b : Bool) (s t s2 t2 : Side) → Alike s t → Alike s2 t2 → Alike (if b then s2 else s) (if b then t2 else t)
  alike_if true s t s2 t2 alike alike2 = alike2
  alike_if false s t s2 t2 alike alike2 = alike

  alike_parts : (s t : Side) (write : Option Write) (check : Option CheckEntry) → Alike s t
      → Alike (of_part (of_part s (side_after_check trace opened cpu s) check) (side_after_write trace opened cpu s) write)
      (of_part (of_part t (side_after_check trace opened cpu t) check) (side_after_write trace opened cpu t) write)
  alike_parts s t (Some write) check alike = alike_if (is_own_task trace cpu write.task) s t _ _ alike
      (alike_write s t write.task (page_context trace write.page) write.fresh alike)
  alike_parts s t None (Some check) alike = alike_if (is_own_task trace cpu check.task) s t _ _ alike
      (alike_settle _ _ check.task (alike_check s t check.task check.context check.decision alike))
  alike_parts s t None None alike = alike

  -- ---- writers of other CPUs' tasks stay new

  settle_untouched : (s : Side) (task : ℕ) → is_own_task trace cpu task ≡ true → Untouched s.cpu → Untouched (settle trace opened task s).cpu
  settle_untouched s task own un = by (over s task)
    where
      by : (b : Bool) → Untouched (by_test task s b).cpu
      by true = ends_untouched s.cpu (numbers_of trace task) un (own_numbers task own)
      by false = un

  write_untouched : (s : Side) (task : ℕ) (context : Option ℕ) (fresh : Bool) → is_own_task trace cpu task ≡ true → Untouched s.cpu
      → Untouched (write_page trace opened task context fresh s).cpu
  write_untouched s task None fresh own un = un
  write_untouched s task (Some context) true own un =
      settle_untouched (with_page task (write_fresh trace opened task context s)) task own
      (step_untouched s.cpu (history.Wrote (number_of trace task context)) un (own_number task context own))
  write_untouched s task (Some context) false own un = settle_untouched (with_page task s) task own un

  own_or_not : (P : Side → Type 0) (b : Bool) (s s2 : Side) → P s → (b ≡ true → P s2) → P (if b then s2 else s)
  own_or_not P true s s2 p gives = gives refl
  own_or_not P false s s2 p gives = p

  parts_untouched : (s : Side) (write : Option Write) (check : Option CheckEntry) → Untouched s.cpu
      → Untouched (of_part (of_part s (side_after_check trace opened cpu s) check) (side_after_write trace opened cpu s) write).cpu
  parts_untouched s (Some write) check un = own_or_not (λ (t : Side). Untouched t.cpu) (is_own_task trace cpu write.task) s _ un
      (λ own. write_untouched s write.task (page_context trace write.page) write.fresh own un)
  parts_untouched s None (Some check) un = own_or_not (λ (t : Side). Untouched t.cpu) (is_own_task trace cpu check.task) s _ un
      (λ own. settle_untouched (check_by trace opened check.task check.context check.decision s) check.task own
      (step_untouched s.cpu (history.Checked (number_of trace check.task check.context) check.decision) un (own_number check.task check.context own)))
  parts_untouched s None None un = un

  -- ---- a task's writes so far, and what it still writes, are all its pages

  abbrev writes_by : (task : ℕ) (tasks : List ℕ) → ℕ
  writes_by task tasks = count_by (λ by. by == task) tasks

  abbrev Enough : (s : Side) (tasks : List ℕ) → Type 0
  Enough s tasks = (task : ℕ) → is_own_task trace cpu task ≡ true → length (pages_of_task trace task) ≤ get_or (todos s) task 0 + writes_by task tasks

  one_more : (task by : ℕ) (tasks : List ℕ) (n k : ℕ) → n ≤ k + writes_by task tasks → n ≤ k + writes_by task (by ∷ tasks)
  one_more task by tasks n k few = let more = sum_by-cons (λ of. cond (of == task) 1 0) by tasks in omega (arith, more)

  its_own : (task : ℕ) (tasks : List ℕ) → writes_by task (task ∷ tasks) ≡ 1 + writes_by task tasks
  its_own task tasks = sum_by-cons (λ of. cond (of == task) 1 0) task tasks ∙ ap (λ b. cond b 1 0 + writes_by task tasks) (eq-eqb task task refl)

  abbrev fewer : (ns : List ℕ) (task : ℕ) → List ℕ
  fewer ns task = set ns task (get_or ns task 0 - 1)

  fewer_by_one : (ns : List ℕ) (task : ℕ) → get_or ns task 0 ≤ get_or (fewer ns task) task 0 + 1
  fewer_by_one [] task = omega arith
  fewer_by_one (n ∷ ns) zero = omega arith
  fewer_by_one (n ∷ ns) (suc task) = fewer_by_one ns task

  page_enough : (s t : Side) (by : ℕ) (tasks : List ℕ) → Enough s tasks → todos t ≡ fewer (todos s) by → Enough t (by ∷ tasks)
  page_enough s t by tasks enough is task own = subst (λ (ns : List ℕ). length (pages_of_task trace task) ≤ get_or ns task 0 + writes_by task (by ∷ tasks)) (sym is) (of (cases_eq task by))
    where
      of : (task ≡ by) ⊎ (task ≢ by) → length (pages_of_task trace task) ≤ get_or (fewer (todos s) by) task 0 + writes_by task (by ∷ tasks)
      of (inl same) = subst (λ k. length (pages_of_task trace task) ≤ get_or (fewer (todos s) k) task 0 + writes_by task (k ∷ tasks)) same
          (let less = fewer_by_one (todos s) task in let was = enough task own in omega (arith, its_own task tasks))
      of (inr other) = subst (λ n. length (pages_of_task trace task) ≤ n + writes_by task (by ∷ tasks)) (sym (get_or-set_other (todos s) by task (get_or (todos s) by 0 - 1) 0 other))
          (one_more task by tasks (length (pages_of_task trace task)) (get_or (todos s) task 0) (enough task own))

  same_enough : (s t : Side) (by : ℕ) (tasks : List ℕ) → Enough s tasks → todos t ≡ todos s → Enough t (by ∷ tasks)
  same_enough s t by tasks enough is task own = subst (λ (ns : List ℕ). length (pages_of_task trace task) ≤ get_or ns task 0 + writes_by task (by ∷ tasks)) (sym is)
      (one_more task by tasks (length (pages_of_task trace task)) (get_or (todos s) task 0) (enough task own))

  write_enough : (s : Side) (task : ℕ) (context : Option ℕ) (fresh : Bool) (tasks : List ℕ) → Enough s tasks → Enough (write_page trace opened task context fresh s) (task ∷ tasks)
  unfolding todos
  write_enough s task None fresh tasks enough = same_enough s s task tasks enough refl
  write_enough s task (Some context) true tasks enough =
      page_enough s (settle trace opened task (with_page task (write_fresh trace opened task context s))) task tasks enough
      (todos_settle (with_page task (write_fresh trace opened task context s)) task ∙ todos_page (write_fresh trace opened task context s) task)
  write_enough s task (Some context) false tasks enough =
      page_enough s (settle trace opened task (with_page task s)) task tasks enough (todos_settle (with_page task s) task ∙ todos_page s task)

  check_enough : (s : Side) (task context : ℕ) (decision : Decision) (tasks : List ℕ) → Enough s tasks → Enough (settle trace opened task (check_by trace opened task context decision s)) tasks
  unfolding todos
  check_enough s task context decision tasks enough of own =
      subst (λ (ns : List ℕ). length (pages_of_task trace of) ≤ get_or ns of 0 + writes_by of tasks) (sym (todos_settle (check_by trace opened task context decision s) task)) (enough of own)

  parts_enough : (s : Side) (write : Option Write) (check : Option CheckEntry) (tasks : List ℕ) → Enough s tasks
      → Enough (of_part (of_part s (side_after_check trace opened cpu s) check) (side_after_write trace opened cpu s) write) (of_part tasks (λ (w : Write). w.task ∷ tasks) write)
  parts_enough s (Some write) check tasks enough = own_or_not (λ (t : Side). Enough t (write.task ∷ tasks)) (is_own_task trace cpu write.task) s _ (same_enough s s write.task tasks enough refl)
      (λ own. write_enough s write.task (page_context trace write.page) write.fresh tasks enough)
  parts_enough s None (Some check) tasks enough = own_or_not (λ (t : Side). Enough t tasks) (is_own_task trace cpu check.task) s _ enough
      (λ own. check_enough s check.task check.context check.decision tasks enough)
  parts_enough s None None tasks enough = enough

  -- ---- what is judged of the items

  pub record Judged (all : List Told) (end : Ending) (t : Side) (xs : List Item) : Type 0 where
    pub decide : Along (Decides trace opened all) (side_after_item trace opened) t xs
    pub stand : Along (StandsItem trace) (side_after_item trace opened) t xs
    pub none : NoneDue end (after (side_after_item trace opened) t xs)

  -- the item is an entry of this CPU's part
  abbrev IsHere : (x : Item) → Type 0
  IsHere (begins of) = ⊥
  IsHere (tells of entry) = of ≡ cpu

  -- ---- after the end of a task that has the CPU alone

  abbrev IsAllQuiet : (c : Cpu) → Type 0
  IsAllQuiet c = (n : ℕ) → (writer_of c n).due ≡ due.No

  quiet_step : (c : Cpu) (n : ℕ) → IsAllQuiet c → IsAllQuiet (cpu_step limit trace.cap c (history.Ended n))
  unfolding cpu_step
  quiet_step c n quiet k = by (cases_eq k n)
    where
      within : (ws : List Writer) (m : ℕ) → ((j : ℕ) → (get_or ws j (new_writer 0)).due ≡ due.No) → (get_or (set ws m (new_writer trace.cap)) m (new_writer 0)).due ≡ due.No
      within [] m all = all m
      within (w ∷ ws) zero all = new_is_quiet trace.cap
      within (w ∷ ws) (suc m) all = within ws m (λ j. all (suc j))

      by : (k ≡ n) ⊎ (k ≢ n) → (get_or (set c.writers n (new_writer trace.cap)) k (new_writer 0)).due ≡ due.No
      by (inl same) = subst (λ m. (get_or (set c.writers n (new_writer trace.cap)) m (new_writer 0)).due ≡ due.No) (sym same) (within c.writers n quiet)
      by (inr other) = ap (λ (w : Writer). w.due) (get_or-set_other c.writers n k (new_writer trace.cap) (new_writer 0) other) ∙ quiet k

  quiet_ends : (c : Cpu) (ns : List ℕ) → IsAllQuiet c → IsAllQuiet (cpu_after limit trace.cap c (map history.Ended ns))
  unfolding cpu_after
  quiet_ends c [] quiet = quiet
  quiet_ends c (n ∷ ns) quiet = quiet_ends (cpu_step limit trace.cap c (history.Ended n)) ns (quiet_step c n quiet)

  none_due : (end : Ending) (s : Side) → IsAllQuiet s.cpu → NoneDue end s
  none_due ending.Done s quiet = each_by_place (λ (w : Writer). w.due ≡ due.No) (new_writer 0) s.cpu.writers (λ n less. quiet n)
  none_due ending.Halted s quiet = tt
  none_due ending.Spent s quiet = tt
  none_due ending.Faulted s quiet = tt

  module _ (task : ℕ) (own : is_own_task trace cpu task ≡ true) (alone : (other : ℕ) → is_own_task trace cpu other ≡ true → other ≡ task) where
    -- it wrote all its pages
    abbrev IsDone : (tasks : List ℕ) → Type 0
    IsDone tasks = length (pages_of_task trace task) ≤ writes_by task tasks

    no_write : (tasks : List ℕ) (write : Write) → IsDone tasks → Writes trace tasks cpu write.task write.page → ⊥
    no_write tasks write all writes = none_some (sym (slice_get_past (pages_of_task trace task) (writes_by task tasks) all)
        ∙ subst (λ of. next_page trace tasks of ≡ Some write.page) (alone write.task writes.own) writes.next)
      where
        none_some : None ≡ Some write.page → ⊥
        none_some is = cc

    no_check : (s : Side) (check : CheckEntry) → IsAllQuiet s.cpu → MayCheck trace s check → ⊥
    no_check s check quiet may = differ (sym (quiet (number_of trace check.task check.context)) ∙ may.is_due)
      where
        differ : due.No ≡ due.Check → ⊥
        differ is = cc

    -- nothing that is judged stands there
    record IsSilent (write : Option Write) (check : Option CheckEntry) : Type 0 where
      writes : write ≡ None
      checks : check ≡ None

    silent : (s : Side) (tasks : List ℕ) (write : Option Write) (check : Option CheckEntry) → IsAllQuiet s.cpu → IsDone tasks
        → IfSome write (λ (w : Write). Writes trace tasks cpu w.task w.page) → IfSome check (λ (k : CheckEntry). is_own_task trace cpu k.task ≡ true)
        → IfSome check (λ (k : CheckEntry). is_own_task trace cpu k.task ≡ true → MayCheck trace s k) → IsSilent write check
    silent s tasks None None quiet all writes owns may = record { writes = refl; checks = refl }
    silent s tasks (Some write) check quiet all writes owns may = absurd (no_write tasks write all writes)
    silent s tasks None (Some check) quiet all writes owns may = absurd (no_check s check quiet (may owns))

    stays : (s : Side) (write : Option Write) (check : Option CheckEntry) → IsSilent write check
        → of_part (of_part s (side_after_check trace opened cpu s) check) (side_after_write trace opened cpu s) write ≡ s
    stays s write check is = ap (λ (w : Option Write). of_part (of_part s (side_after_check trace opened cpu s) check) (side_after_write trace opened cpu s) w) is.writes
        ∙ ap (λ (k : Option CheckEntry). of_part s (side_after_check trace opened cpu s) k) is.checks

    afterwards : (all : List Told) (end : Ending) (s t : Side) (tasks : List ℕ) (events : List Event) → IsAllQuiet s.cpu → IsAllQuiet t.cpu → IsDone tasks
        → Along (Stands trace) (side_after trace opened) s events → Along (PagesAreNext trace) writes_after tasks (items_among events) → Each IsHere (items_among events)
        → Judged all end t (items_among events)
    afterwards all end s t tasks [] quiet still done stand pages here = record { decide = tt; stand = tt; none = none_due end t still }
    afterwards all end s t tasks (ends of ∷ events) quiet still done stand pages here =
        afterwards all end (end_task trace opened of s) t tasks events (quiet_ends s.cpu (numbers_of trace of) quiet) still done stand.1 pages here
    afterwards all end s t tasks (item (begins of) ∷ events) quiet still done stand pages here = absurd here.0
    afterwards all end s t tasks (item (tells of entry) ∷ events) quiet still done stand pages here =
        let go = λ (stands : Along (Stands trace) (side_after trace opened) s events) (names : Along (PagesAreNext trace) writes_after tasks (items_among events)). afterwards all end s t tasks events quiet still done stands names here.1 in
        subst (λ (x : Item). Along (Stands trace) (side_after trace opened) s (item x ∷ events) → Along (PagesAreNext trace) writes_after tasks (x ∷ items_among events)
        → Judged all end t (x ∷ items_among events)) (ap (λ n. tells n entry) (sym here.0)) (more go) stand pages
      where
        more : (Along (Stands trace) (side_after trace opened) s events → Along (PagesAreNext trace) writes_after tasks (items_among events) → Judged all end t (items_among events))
            → Along (Stands trace) (side_after trace opened) s (item (tells cpu entry) ∷ events) → Along (PagesAreNext trace) writes_after tasks (tells cpu entry ∷ items_among events)
            → Judged all end t (tells cpu entry ∷ items_among events)
        more go stands names =
            let is = silent s tasks (effect entry).write (effect entry).check quiet done names.0.write names.0.check stands.0.check in
            let same_s : side_after_told trace opened cpu s entry ≡ s = stays s (effect entry).write (effect entry).check is in
            let same_t : side_after_told trace opened cpu t entry ≡ t = stays t (effect entry).write (effect entry).check is in
            let same_tasks : writes_after tasks (tells cpu entry) ≡ tasks = ap (λ (w : Option Write). of_part tasks (λ (w : Write). w.task ∷ tasks) w) is.writes in
            let rest = go
            (subst (λ (u : Side). Along (Stands trace) (side_after trace opened) u events) same_s stands.1)
            (subst (λ (ts : List ℕ). Along (PagesAreNext trace) writes_after ts (items_among events)) same_tasks names.1) in
            record {
              decide = (subst (λ (k : Option CheckEntry). IfSome k (λ (check : CheckEntry). is_own_task trace cpu check.task ≡ true → DecidesBy trace t check (named_estimate trace opened all check))) (sym is.checks) tt, subst (λ (u : Side). Along (Decides trace opened all) (side_after_item trace opened) u (items_among events)) (sym same_t) rest.decide);
              stand = (
                record {
                  write = subst (λ (w : Option Write). IfSome w (λ (write : Write). is_judged trace cpu write.task write.page ≡ true → IsQuiet trace t write.task)) (sym is.writes) tt;
                  check = subst (λ (k : Option CheckEntry). IfSome k (λ (check : CheckEntry). is_own_task trace cpu check.task ≡ true → MayCheck trace t check)) (sym is.checks) tt;
                },
                subst (λ (u : Side). Along (StandsItem trace) (side_after_item trace opened) u (items_among events)) (sym same_t) rest.stand,
              );
              none = subst (λ (u : Side). NoneDue end (after (side_after_item trace opened) u (items_among events))) (sym same_t) rest.none;
            }

  -- ---- up to there

  -- each writer is quiet where those of the one task of the CPU are
  all_quiet : (s : Side) (task : ℕ) → ((other : ℕ) → is_own_task trace cpu other ≡ true → other ≡ task) → Untouched s.cpu → IsQuiet trace s task → IsAllQuiet s.cpu
  all_quiet s task alone un quiet n = by (cases_lt n (length (all_writers trace)))
    where
      past : (ws : List Writer) (k : ℕ) → length ws ≤ k → (get_or ws k (new_writer 0)).due ≡ due.No
      past [] k beyond = new_is_quiet 0
      past (w ∷ ws) zero beyond = absurd (omega arith)
      past (w ∷ ws) (suc k) beyond = past ws k (omega arith)

      of_own : n < length (all_writers trace) → (b : Bool) → is_own_task trace cpu (get_or (all_writers trace) n no_name).task ≡ b → (writer_of s.cpu n).due ≡ due.No
      of_own less true is = subst (λ k. (writer_of s.cpu k).due ≡ due.No) (let e : 0 + n ≡ n = omega arith in e) (of_number (λ k. (writer_of s.cpu k).due ≡ due.No) task 0 (all_writers trace) quiet n less (alone _ is))
      of_own less false is = ap (λ (w : Writer). w.due) (un.new n less is) ∙ new_is_quiet trace.cap

      by : (n < length (all_writers trace)) ⊎ (length (all_writers trace) ≤ n) → (writer_of s.cpu n).due ≡ due.No
      by (inl less) = of_own less (is_own_task trace cpu (get_or (all_writers trace) n no_name).task) refl
      by (inr beyond) = past s.cpu.writers n (omega (arith, un.long))

  decides_alike : (all : List Told) (s t : Side) (entry : Told) → s.cpu ≡ t.cpu → Decides trace opened all s (tells cpu entry) → Decides trace opened all t (tells cpu entry)
  decides_alike all s t entry is = subst (λ (c : Cpu). Decides trace opened all (record { cpu = c; tasks = t.tasks }) (tells cpu entry)) is

  may_alike : (s t : Side) (check : CheckEntry) → s.cpu ≡ t.cpu → MayCheck trace s check → MayCheck trace t check
  may_alike s t check is may = record {
    is_due = ap (λ (c : Cpu). (writer_of c (number_of trace check.task check.context)).due) (sym is) ∙ may.is_due;
    global = may.global;
    cgroup = may.cgroup;
  }

  some_alike : (P Q : CheckEntry → Type 0) (which : Option CheckEntry) → ((check : CheckEntry) → P check → Q check) → IfSome which P → IfSome which Q
  some_alike P Q None gives is = tt
  some_alike P Q (Some check) gives is = gives check is

  stands_alike : (s t : Side) (entry : Told) → s.cpu ≡ t.cpu → StandsItem trace s (tells cpu entry) → StandsItem trace t (tells cpu entry)
  stands_alike s t entry is stands = record {
    write = subst (λ (c : Cpu). IfSome (effect entry).write (λ (write : Write). is_judged trace cpu write.task write.page ≡ true → IsQuiet trace (record { cpu = c; tasks = t.tasks }) write.task)) is stands.write;
    check = some_alike (λ (check : CheckEntry). is_own_task trace cpu check.task ≡ true → MayCheck trace s check) (λ (check : CheckEntry). is_own_task trace cpu check.task ≡ true → MayCheck trace t check)
        (effect entry).check (λ check gives own. may_alike s t check is (gives own)) stands.check;
  }

  none_alike : (end : Ending) (s t : Side) → s.cpu ≡ t.cpu → NoneDue end s → NoneDue end t
  none_alike end s t is none = subst (λ (c : Cpu). NoneDue end (record { cpu = c; tasks = t.tasks })) is (again end none)
    where
      again : (e : Ending) → NoneDue e s → NoneDue e (record { cpu = s.cpu; tasks = t.tasks })
      again ending.Done quiet = quiet
      again ending.Halted quiet = tt
      again ending.Spent quiet = tt
      again ending.Faulted quiet = tt

  judged : RestersAreAlone trace → (all : List Told) (end : Ending) (s t : Side) (tasks : List ℕ) (events : List Event) → Alike s t → Untouched s.cpu → Enough t tasks
      → Along (DecidesEvent trace opened all) (side_after trace opened) s events → Along (Stands trace) (side_after trace opened) s events → NoneDue end (after (side_after trace opened) s events)
      → Along (PagesAreNext trace) writes_after tasks (items_among events) → Each IsHere (items_among events) → Judged all end t (items_among events)
  judged resters all end s t tasks [] alike un enough decide stand none pages here = record { decide = tt; stand = tt; none = none_alike end s t alike.cpus none }
  judged resters all end s t tasks (item (begins of) ∷ events) alike un enough decide stand none pages here = absurd here.0
  judged resters all end s t tasks (item (tells of entry) ∷ events) alike un enough decide stand none pages here =
      let go = λ (s2 t2 : Side) (tasks2 : List ℕ) (a : Alike s2 t2) (u : Untouched s2.cpu) (e : Enough t2 tasks2) (d : Along (DecidesEvent trace opened all) (side_after trace opened) s2 events)
      (st : Along (Stands trace) (side_after trace opened) s2 events) (n : NoneDue end (after (side_after trace opened) s2 events)) (p : Along (PagesAreNext trace) writes_after tasks2 (items_among events)).
      judged resters all end s2 t2 tasks2 events a u e d st n p here.1 in
      subst (λ (x : Item). Along (DecidesEvent trace opened all) (side_after trace opened) s (item x ∷ events) → Along (Stands trace) (side_after trace opened) s (item x ∷ events)
      → NoneDue end (after (side_after trace opened) s (item x ∷ events)) → Along (PagesAreNext trace) writes_after tasks (x ∷ items_among events) → Judged all end t (x ∷ items_among events))
      (ap (λ n. tells n entry) (sym here.0)) (more go) decide stand none pages
    where
      more : ((s2 t2 : Side) (tasks2 : List ℕ) → Alike s2 t2 → Untouched s2.cpu → Enough t2 tasks2 → Along (DecidesEvent trace opened all) (side_after trace opened) s2 events
          → Along (Stands trace) (side_after trace opened) s2 events → NoneDue end (after (side_after trace opened) s2 events) → Along (PagesAreNext trace) writes_after tasks2 (items_among events)
          → Judged all end t2 (items_among events))
          → Along (DecidesEvent trace opened all) (side_after trace opened) s (item (tells cpu entry) ∷ events) → Along (Stands trace) (side_after trace opened) s (item (tells cpu entry) ∷ events)
          → NoneDue end (after (side_after trace opened) s (item (tells cpu entry) ∷ events)) → Along (PagesAreNext trace) writes_after tasks (tells cpu entry ∷ items_among events)
          → Judged all end t (tells cpu entry ∷ items_among events)
      more go decides stands none_due names =
          let rest = go (side_after_told trace opened cpu s entry) (side_after_told trace opened cpu t entry) (writes_after tasks (tells cpu entry))
          (alike_parts s t (effect entry).write (effect entry).check alike) (parts_untouched s (effect entry).write (effect entry).check un)
          (parts_enough t (effect entry).write (effect entry).check tasks enough) decides.1 stands.1 none_due names.1 in
          record {
            decide = (decides_alike all s t entry alike.cpus decides.0, rest.decide);
            stand = (stands_alike s t entry alike.cpus stands.0, rest.stand);
            none = rest.none;
          }
  judged resters all end s t tasks (ends task ∷ events) alike un enough decide stand none pages here =
      by (λ same alike2 un2. judged resters all end (end_task trace opened task s) t tasks events alike2 un2 enough decide.1 stand.1 none pages here) (is_own_task trace cpu task) refl
    where
      by : ((end_task trace opened task s).cpu ≡ s.cpu → Alike (end_task trace opened task s) t → Untouched (end_task trace opened task s).cpu → Judged all end t (items_among events))
          → (b : Bool) → is_own_task trace cpu task ≡ b → Judged all end t (items_among events)
      by go true own =
          let may : MayEnd trace s task = stand.0 in
          let alone : (other : ℕ) → is_own_task trace cpu other ≡ true → other ≡ task = λ other also. resters task may.rests cpu other own also in
          let quiet : IsAllQuiet s.cpu = all_quiet s task alone un may.quiet in
          let nothing : get_or (todos t) task 0 ≡ 0 = sym (todo_at t task) ∙ sym (alike_at s t task alike) ∙ may.wrote_all in
          let wrote = enough task own in
          afterwards task own alone all end (end_task trace opened task s) t tasks events (quiet_ends s.cpu (numbers_of trace task) quiet)
          (λ n. subst (λ (c : Cpu). (writer_of c n).due ≡ due.No) alike.cpus (quiet n)) (omega arith) stand.1 pages here
      by go false foreign =
          let same : (end_task trace opened task s).cpu ≡ s.cpu = foreign_ends s.cpu task un foreign in
          go same (record { cpus = same ∙ alike.cpus; todo = todos_end s task ∙ alike.todo }) (subst Untouched (sym same) un)

  -- ---- where a part begins

  first_untouched : Untouched (first_side trace).cpu
  unfolding new_cpu
  first_untouched = record {
    long = long_ones (new_writer trace.cap) (length (all_writers trace));
    new = λ n less foreign. new_ones (new_writer trace.cap) (new_writer 0) (length (all_writers trace)) n less;
  }

  first_enough : Enough (first_side trace) []
  unfolding todos
  first_enough task own = subst (λ n. length (pages_of_task trace task) ≤ n + writes_by task []) (sym (at trace.tasks 0 task own ∙ ap (λ of. length (pages_of_task trace of)) (let e : 0 + task ≡ task = omega arith in e))) (omega arith)
    where
      at : (lines : List TaskLine) (m k : ℕ) → is_on cpu (cpu_of_task (slice_get lines k)) ≡ true
          → get_or (map (λ (t : TaskState). t.todo) (first_states trace m lines)) k 0 ≡ length (pages_of_task trace (m + k))
      at [] m k on = absurd (true≢false (sym on))
      at (line ∷ lines) m zero on = ap (λ of. length (pages_of_task trace of)) (let e : m ≡ m + 0 = omega arith in e)
      at (line ∷ lines) m (suc k) on = at lines (suc m) k on ∙ ap (λ of. length (pages_of_task trace of)) (let e : suc m + k ≡ m + suc k = omega arith in e)

  all_here : (part : List Told) → Each IsHere (map (tells cpu) part)
  all_here [] = tt
  all_here (entry ∷ part) = (refl, all_here part)

  -- what holds along the events of a part holds along its entries alone
  pub by_entries : RestersAreAlone trace → (all : List Told) (end : Ending) (part : List Told) (events : List Event) → items_among events ≡ map (tells cpu) part
      → Along (DecidesEvent trace opened all) (side_after trace opened) (first_side trace) events → Along (Stands trace) (side_after trace opened) (first_side trace) events
      → NoneDue end (after (side_after trace opened) (first_side trace) events) → Along (PagesAreNext trace) writes_after [] (map (tells cpu) part)
      → Judged all end (first_side trace) (map (tells cpu) part)
  by_entries resters all end part events are decide stand none pages =
      subst (Judged all end (first_side trace)) are (judged resters all end (first_side trace) (first_side trace) [] events (record { cpus = refl; todo = refl }) first_untouched first_enough
      decide stand none (subst (Along (PagesAreNext trace) writes_after []) (sym are) pages) (subst (Each IsHere) (sym are) (all_here part)))
