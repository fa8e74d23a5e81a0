-- What a CPU's side shows of its tasks, by what each still writes, its writers, the context of its last page, and whether it has ended.
use Rattle.std.proofs.Common.{◌≡◌, ◌≢◌, ◌⊎◌, inl, inr, ℕ, zero, suc, ◌+◌, ◌-◌, ◌<◌, Bool, true, false, ◌||◌, ◌&&◌, not, cond, eqb, List, [], ◌∷◌, length, map, get_or, refl, sym, ◌∙◌, ap, subst, arith, eq-eqb, ne_eqb, eqb-true, true≢false, ⊎_elim}
use Rattle.std.specs.List.{list_any, list_all, slice_get, sum_by, fold}
use Rattle.std.proofs.Math.ListN.{set}
use Rattle.std.proofs.lemmas.Bool.{cond-true, cond-false, cases_lt, cases_Bool}
use Rattle.std.proofs.lemmas.List.{get_or-set_same, get_or-set_other, get_or_past, length-set}
use mathlib.Core.Logic.{dite}
use native.Mathlib.Decide.{ℕ_discrete}
use Rattle.wbt_replay_order.proofs.Common.{Decision, ended, new_writer, wrote_page, wrote_writer, checked_writer, CpuLocal, Due, Writer, writers_of, is_writer, TaskLine, Trace, IsQuiet, Each, cpu_of_task, ratelimit_pages, rests_last, Side, TaskState, all_writers, is_empty, is_not_due, is_on, is_own_task, end_task, settle, with_page, write_fresh, check_by}
use Rattle.wbt_task.specs.Counts.{dirtied_by, dirtied_by_all}
use Rattle.wbt_task.specs.History.{Cpu, writer_of, cpu_step, cpu_after}
use Rattle.wbt_task.specs.declared.allowance.Due.TheVariants as due
use Rattle.wbt_task.specs.declared.history.Event.TheVariants.{Wrote, Checked, Ended}
use Rattle.wbt_task.proofs.Ending.{ended_task_leaks, ended_writers_leak}
use Rattle.wbt_task.proofs.Keeping.{same_writers, others_stay, written_is, checked_is, new_is}
use Rattle.wbt_trace.specs.declared.writers.Writer.{Writer as Name}
use Rattle.wbt_journal.specs.Side.{number_of, numbers_of, numbers_from, is_quiet, is_none_due, task_of}
use Rattle.wbt_replay_points.proofs.Lawful.Numbers.{pair, no_name, HasNumber, has_number, number_back, stand_once, is_there, numbers_apart, number_is_its, sum_numbers, sum_from, sum_of_task, sum_places}

-- ---- a task

-- what it still writes, its writers by context, the context of its last page, and whether it has ended
abbrev pub View : Type 0
View = List ℕ × List Writer × ℕ × Bool

abbrev pub writer_in : (k : ℕ) (v : View) → Writer
writer_in k v = get_or v.1 k (new_writer 0)

abbrev pub last_writer : (v : View) → Writer
last_writer v = writer_in v.2 v

-- It has no page left to write and no check due, and doesn't rest last.
abbrev pub is_done : (trace : Trace) (task : ℕ) (v : View) → Bool
is_done trace task v = not (rests_last trace task) && (is_empty v.0 && is_not_due (last_writer v).due)

-- It is done, but hasn't ended.
abbrev pub is_waiting : (trace : Trace) (task : ℕ) (v : View) → Bool
is_waiting trace task v = not v.3 && is_done trace task v

-- It has ended, or is done.
abbrev pub is_gone : (trace : Trace) (task : ℕ) (v : View) → Bool
is_gone trace task v = v.3 || is_done trace task v

abbrev pub writers_in : (trace : Trace) → List Name
writers_in trace = writers_of trace.inodes trace.actions

pub record IsView (trace : Trace) (task : ℕ) (v : View) : Type 0 where
  pub wide : length v.1 ≡ length trace.contexts
  -- the check of the last page's writer alone may be due
  pub alone : (k : ℕ) → (writer_in k v).due ≡ due.Check → k ≡ v.2
  -- where it has no writer nothing is counted
  pub others : (k : ℕ) → is_writer task k (writers_in trace) ≡ false → ((writer_in k v).task.nr_dirtied ≡ 0) × ((writer_in k v).due ≡ due.No)
  pub ended : v.3 ≡ true → (is_empty v.0 ≡ true) × ((last_writer v).due ≡ due.No)

-- ---- tests

due_or_not : (d : Due) → (d ≡ due.No) ⊎ (d ≡ due.Check)
due_or_not due.No = inl refl
due_or_not due.Check = inr refl

quiet_is : (d : Due) → d ≡ due.No → is_not_due d ≡ true
quiet_is d is = ap is_not_due is

loud_is : (d : Due) → d ≡ due.Check → is_not_due d ≡ false
loud_is d is = ap is_not_due is

no_both : due.No ≡ due.Check → ⊥
no_both e = cc e

left_of : (a b : Bool) → (a && b) ≡ true → a ≡ true
left_of true b is = refl
left_of false b is = absurd (true≢false (sym is))

right_of : (a b : Bool) → (a && b) ≡ true → b ≡ true
right_of true b is = is
right_of false b is = absurd (true≢false (sym is))

new_due : (cap : ℕ) → (new_writer cap).due ≡ due.No
unfolding new_writer
new_due cap = refl

-- a check that is due is one of a context
pub due_there : (k : ℕ) (v : View) → (writer_in k v).due ≡ due.Check → k < length v.1
due_there k v is = ⊎_elim (λ less. less)
    (λ past. absurd (no_both (sym (new_due 0) ∙ ap (λ (w : Writer). w.due) (sym (get_or_past v.1 k (new_writer 0) past)) ∙ is)))
    (cases_lt k (length v.1))

pub task_there : (trace : Trace) (cpu task : ℕ) → is_own_task trace cpu task ≡ true → task < length trace.tasks
task_there trace cpu task own = in_lines task trace.tasks own
  where
    in_lines : (n : ℕ) (lines : List TaskLine) → is_on cpu (cpu_of_task (slice_get lines n)) ≡ true → n < length lines
    in_lines n [] is = absurd (true≢false (sym is))
    in_lines zero (line ∷ lines) is = omega arith
    in_lines (suc n) (line ∷ lines) is = let rest = in_lines n lines is in omega (arith, rest)

-- ---- lists of numbers

each_number : (P : ℕ → Type 0) (task k : ℕ) (ws : List Name) → ((n : ℕ) → n < length ws → (get_or ws n no_name).task ≡ task → P (k + n)) → Each P (numbers_from task k ws)
each_number P task k [] all = tt
each_number P task k (w ∷ ws) all = by_task (each_number P task (k + 1) ws (λ n less its. subst P (let e : k + suc n ≡ k + 1 + n = omega arith in e) (all (suc n) (omega (arith, less)) its))) (eqb w.task task) refl
  where
    by_task : Each P (numbers_from task (k + 1) ws) → (b : Bool) → eqb w.task task ≡ b → Each P (numbers_from task k (w ∷ ws))
    by_task rest true its = subst (Each P) (sym (cond-true (eqb w.task task) (k ∷ numbers_from task (k + 1) ws) (numbers_from task (k + 1) ws) its))
        (subst P (let e : k + 0 ≡ k = omega arith in e) (all 0 (omega arith) (eqb-true w.task task its)), rest)
    by_task rest false other = subst (Each P) (sym (cond-false (eqb w.task task) (k ∷ numbers_from task (k + 1) ws) (numbers_from task (k + 1) ws) other)) rest

all_quiet : (s : Side) (ns : List ℕ) → Each (λ (n : ℕ). (writer_of s.cpu n).due ≡ due.No) ns → list_all (is_quiet s) ns ≡ true
all_quiet s [] each = refl
all_quiet s (n ∷ ns) each = ap (λ (b : Bool). b && list_all (is_quiet s) ns) (quiet_is (writer_of s.cpu n).due each.0) ∙ all_quiet s ns each.1

not_all : (s : Side) (ns : List ℕ) (n : ℕ) → list_any (λ (m : ℕ). eqb m n) ns ≡ true → is_quiet s n ≡ false → list_all (is_quiet s) ns ≡ false
not_all s [] n has loud = absurd (true≢false (sym has))
not_all s (m ∷ ns) n has loud = by_first (not_all s ns n) (eqb m n) refl has
  where
    both_no : (a b : Bool) → b ≡ false → (a && b) ≡ false
    both_no true b is = is
    both_no false b is = refl

    by_first : (list_any (λ (x : ℕ). eqb x n) ns ≡ true → is_quiet s n ≡ false → list_all (is_quiet s) ns ≡ false) → (b : Bool) → eqb m n ≡ b → (b || list_any (λ (x : ℕ). eqb x n) ns) ≡ true → list_all (is_quiet s) (m ∷ ns) ≡ false
    by_first rest true same has2 = ap (λ (b : Bool). b && list_all (is_quiet s) ns) (ap (is_quiet s) (eqb-true m n same) ∙ loud)
    by_first rest false other has2 = both_no (is_quiet s m) (list_all (is_quiet s) ns) (rest has2 loud)

-- ---- writers that end

module _ (rate cap : ℕ) where
  after_one : (cpu : Cpu) (n : ℕ) (ns : List ℕ) → cpu_after rate cap cpu (map Ended (n ∷ ns)) ≡ cpu_after rate cap (cpu_step rate cap cpu (Ended n)) (map Ended ns)
  unfolding cpu_after
  after_one cpu n ns = refl

  after_none : (cpu : Cpu) → cpu_after rate cap cpu [] ≡ cpu
  unfolding cpu_after
  after_none cpu = refl

  ends_length : (cpu : Cpu) (ns : List ℕ) → length (cpu_after rate cap cpu (map Ended ns)).writers ≡ length cpu.writers
  ends_length cpu [] = ap (λ (c : Cpu). length c.writers) (after_none cpu)
  ends_length cpu (n ∷ ns) =
      ap (λ (c : Cpu). length c.writers) (after_one cpu n ns) ∙ ends_length (cpu_step rate cap cpu (Ended n)) ns ∙ same_writers rate cap cpu (Ended n)

  -- each of them is new
  ends_writers : (cpu : Cpu) (ns : List ℕ) (n : ℕ) → n < length cpu.writers
      → writer_of (cpu_after rate cap cpu (map Ended ns)) n ≡ cond (list_any (λ (m : ℕ). eqb m n) ns) (new_writer cap) (writer_of cpu n)
  ends_writers cpu [] n there = ap (λ (c : Cpu). writer_of c n) (after_none cpu)
  ends_writers cpu (m ∷ ns) n there =
      ap (λ (c : Cpu). writer_of c n) (after_one cpu m ns)
      ∙ ends_writers (cpu_step rate cap cpu (Ended m)) ns n (omega (arith, there, same_writers rate cap cpu (Ended m)))
      ∙ by_first (eqb m n) refl
    where
      rest : Bool
      rest = list_any (λ (x : ℕ). eqb x n) ns

      by_rest : (b : Bool) (w v : Writer) → w ≡ v → cond b v w ≡ v
      by_rest true w v same = refl
      by_rest false w v same = same

      by_first : (b : Bool) → eqb m n ≡ b → cond (list_any (λ (x : ℕ). eqb x n) ns) (new_writer cap) (writer_of (cpu_step rate cap cpu (Ended m)) n)
          ≡ cond (eqb m n || list_any (λ (x : ℕ). eqb x n) ns) (new_writer cap) (writer_of cpu n)
      by_first true same =
          by_rest (list_any (λ (x : ℕ). eqb x n) ns) (writer_of (cpu_step rate cap cpu (Ended m)) n) (new_writer cap)
          (let at : m ≡ n = eqb-true m n same in ap (λ (x : ℕ). writer_of (cpu_step rate cap cpu (Ended x)) n) at ∙ new_is rate cap cpu n there)
          ∙ sym (ap (λ (b : Bool). cond (b || list_any (λ (x : ℕ). eqb x n) ns) (new_writer cap) (writer_of cpu n)) same)
      by_first false other =
          ap (cond (list_any (λ (x : ℕ). eqb x n) ns) (new_writer cap)) (others_stay rate cap cpu (Ended m) n (λ e. true≢false (sym (eq-eqb m n (sym e)) ∙ other)))
          ∙ sym (ap (λ (b : Bool). cond (b || list_any (λ (x : ℕ). eqb x n) ns) (new_writer cap) (writer_of cpu n)) other)

-- ---- the side

abbrev pub name : (trace : Trace) (n : ℕ) → Name
name trace n = get_or (all_writers trace) n no_name

-- It shows these views of the CPU's own tasks, of which those are gone; the CPU counts this.
pub record SideAt (trace : Trace) (cpu : ℕ) (local : CpuLocal) (view : ℕ → View) (gone : ℕ → Bool) (s : Side) : Type 0 where
  pub many : length s.tasks ≡ length trace.tasks
  pub long : length s.cpu.writers ≡ length (all_writers trace)
  pub tasks : (t : ℕ) → is_own_task trace cpu t ≡ true → task_of s t ≡ record { todo = length (view t).0; has_ended = gone t }
  pub writers : (n : ℕ) → n < length (all_writers trace) → is_own_task trace cpu (name trace n).task ≡ true
      → writer_of s.cpu n ≡ cond (gone (name trace n).task) (new_writer trace.cap) (writer_in (name trace n).context (view (name trace n).task))
  pub strangers : (n : ℕ) → n < length (all_writers trace) → is_own_task trace cpu (name trace n).task ≡ false → (writer_of s.cpu n).due ≡ due.No
  pub local_is : s.cpu.local ≡ local

module _ (trace : Trace) (opened cpu task : ℕ) (own : is_own_task trace cpu task ≡ true) where
  low : task < length trace.tasks
  low = task_there trace cpu task own

  -- its writer of a context has a number
  numbered : (k : ℕ) → is_writer task k (writers_in trace) ≡ true → k < length trace.contexts → HasNumber task k 0 (all_writers trace)
  numbered k is there = has_number task k 0 (all_writers trace) (is_there (writers_in trace) task k 0 (length trace.tasks) (length trace.contexts) is (omega arith) (omega (arith, low)) there)

  -- no other name has it
  one_number : (k : ℕ) (has : HasNumber task k 0 (all_writers trace)) (n : ℕ) → n < length (all_writers trace) → name trace n ≡ pair task k → n ≡ has.place
  one_number k has n less is =
      let back = number_back 0 (all_writers trace) (stand_once (writers_in trace) 0 (length trace.tasks) (length trace.contexts)) n less in
      let here : number_of trace task k ≡ 0 + n = sym (ap (λ (w : Name). number_of trace w.task w.context) is) ∙ back in
      let there = has.number in omega (arith, here, there)

  module _ (local : CpuLocal) (view : ℕ → View) (gone : ℕ → Bool) (s : Side) (at : SideAt trace cpu local view gone s) where
    -- a writer's number stands for it
    pub its_writer : (k : ℕ) (has : HasNumber task k 0 (all_writers trace)) → gone task ≡ false → writer_of s.cpu has.place ≡ writer_in k (view task)
    its_writer k has going =
        let its_task : (name trace has.place).task ≡ task = ap (λ (w : Name). w.task) has.name in
        at.writers has.place has.there (subst (λ (t : ℕ). is_own_task trace cpu t ≡ true) (sym its_task) own)
        ∙ ap (λ (w : Name). cond (gone w.task) (new_writer trace.cap) (writer_in w.context (view w.task))) has.name
        ∙ cond-false (gone task) (new_writer trace.cap) (writer_in k (view task)) going

    -- what a writer of the task is
    writer_is : gone task ≡ false → (n : ℕ) → n < length (all_writers trace) → (name trace n).task ≡ task → writer_of s.cpu n ≡ writer_in (name trace n).context (view task)
    writer_is going n less its =
        at.writers n less (subst (λ (t : ℕ). is_own_task trace cpu t ≡ true) (sym its) own)
        ∙ ap (λ (t : ℕ). cond (gone t) (new_writer trace.cap) (writer_in (name trace n).context (view t))) its
        ∙ cond-false (gone task) (new_writer trace.cap) (writer_in (name trace n).context (view task)) going

    -- ---- whether a check is due

    module _ (of : IsView trace task (view task)) (going : gone task ≡ false) where
      pub quiet : (last_writer (view task)).due ≡ due.No → IsQuiet trace s task
      quiet none = each_number (λ (n : ℕ). (writer_of s.cpu n).due ≡ due.No) task 0 (all_writers trace)
          (λ n less its. subst (λ (m : ℕ). (writer_of s.cpu m).due ≡ due.No) (let e : n ≡ 0 + n = omega arith in e)
          (ap (λ (w : Writer). w.due) (writer_is going n less its) ∙ not_due (name trace n).context))
        where
          by_due : (k : ℕ) → ((writer_in k (view task)).due ≡ due.No) ⊎ ((writer_in k (view task)).due ≡ due.Check) → (writer_in k (view task)).due ≡ due.No
          by_due k (inl is) = is
          by_due k (inr is) = absurd (no_both (sym none ∙ ap (λ (m : ℕ). (writer_in m (view task)).due) (sym (of.alone k is)) ∙ is))

          not_due : (k : ℕ) → (writer_in k (view task)).due ≡ due.No
          not_due k = by_due k (due_or_not (writer_in k (view task)).due)

      -- the writer whose check is due has a number
      pub due_number : (last_writer (view task)).due ≡ due.Check → HasNumber task (view task).2 0 (all_writers trace)
      due_number is =
          let k : ℕ = (view task).2 in
          let there = due_there k (view task) is in
          numbered k (⊎_elim (λ yes. yes) (λ no. absurd (no_both (sym (of.others k no).1 ∙ is))) (cases_Bool (is_writer task k (writers_in trace)))) (omega (arith, there, of.wide))

      pub none_due : is_none_due trace s task ≡ is_not_due (last_writer (view task)).due
      none_due = by_due (due_or_not (last_writer (view task)).due)
        where
          by_due : ((last_writer (view task)).due ≡ due.No) ⊎ ((last_writer (view task)).due ≡ due.Check) → is_none_due trace s task ≡ is_not_due (last_writer (view task)).due
          by_due (inl is) = all_quiet s (numbers_of trace task) (quiet is) ∙ sym (quiet_is (last_writer (view task)).due is)
          by_due (inr is) =
              let has = due_number is in
              let mine : eqb (name trace has.place).task task ≡ true = eq-eqb (name trace has.place).task task (ap (λ (w : Name). w.task) has.name) in
              let among = number_is_its task 0 (all_writers trace) has.place has.there ∙ mine in
              not_all s (numbers_of trace task) (0 + has.place) among
              (loud_is (writer_of s.cpu (0 + has.place)).due (ap (λ (m : ℕ). (writer_of s.cpu m).due) (let e : 0 + has.place ≡ has.place = omega arith in e) ∙ ap (λ (w : Writer). w.due) (its_writer (view task).2 has going) ∙ is))
              ∙ sym (loud_is (last_writer (view task)).due is)

    -- ---- one writer changes

    module _ (view2 : ℕ → View) (others : (t : ℕ) → t ≢ task → view2 t ≡ view t) (pages : (view2 task).0 ≡ (view task).0) (going : gone task ≡ false)
        (k : ℕ) (has : HasNumber task k 0 (all_writers trace)) (inside : k < length (view task).1) (w : Writer) (writers : (view2 task).1 ≡ set (view task).1 k w)
        (c : Cpu) (long : length c.writers ≡ length s.cpu.writers) (mine : writer_of c has.place ≡ w) (rest : (n : ℕ) → n ≢ has.place → writer_of c n ≡ writer_of s.cpu n) where
      same_pages : (t : ℕ) → length (view2 t).0 ≡ length (view t).0
      same_pages t = dite (ℕ_discrete t task) (λ same. ap (λ (x : ℕ). length (view2 x).0) same ∙ ap (λ (l : List ℕ). length l) pages ∙ ap (λ (x : ℕ). length (view x).0) (sym same)) (λ other. ap (λ (v : View). length v.0) (others t other))

      abbrev shown : (vs : ℕ → View) (x : Name) → Writer
      shown vs x = cond (gone x.task) (new_writer trace.cap) (writer_in x.context (vs x.task))

      -- of another name
      apart : (x : Name) → x ≢ pair task k → shown view2 x ≡ shown view x
      apart x other = dite (ℕ_discrete x.task task)
          (λ same.
          let differs : x.context ≢ k = λ e. other (λ i. pair (same i) (e i)) in
          ap (λ (t : ℕ). cond (gone x.task) (new_writer trace.cap) (writer_in x.context (view2 t))) same
          ∙ ap (λ (l : List Writer). cond (gone x.task) (new_writer trace.cap) (get_or l x.context (new_writer 0))) writers
          ∙ ap (cond (gone x.task) (new_writer trace.cap)) (get_or-set_other (view task).1 k x.context w (new_writer 0) differs)
          ∙ ap (λ (t : ℕ). cond (gone x.task) (new_writer trace.cap) (writer_in x.context (view t))) (sym same))
          (λ differs. ap (λ (v : View). cond (gone x.task) (new_writer trace.cap) (writer_in x.context v)) (others x.task differs))

      pub changed : SideAt trace cpu c.local view2 gone (record { cpu = c; tasks = s.tasks })
      changed = record {
        many = at.many;
        long = long ∙ at.long;
        tasks = λ t mine2. at.tasks t mine2 ∙ ap (λ (n : ℕ). record { todo = n; has_ended = gone t }) (sym (same_pages t));
        writers = λ n less mine2. dite (ℕ_discrete n has.place)
            (λ same.
            ap (writer_of c) same ∙ mine
            ∙ sym (ap (λ (x : ℕ). shown view2 (name trace x)) same ∙ ap (shown view2) has.name
            ∙ cond-false (gone task) (new_writer trace.cap) (writer_in k (view2 task)) going
            ∙ ap (λ (l : List Writer). get_or l k (new_writer 0)) writers ∙ get_or-set_same (view task).1 k w (new_writer 0) inside))
            (λ other. rest n other ∙ at.writers n less mine2 ∙ sym (apart (name trace n) (λ e. other (one_number k has n less e))));
        strangers = λ n less theirs. ap (λ (x : Writer). x.due) (rest n (λ e. true≢false (sym (subst (λ (x : ℕ). is_own_task trace cpu (name trace x).task ≡ true) (sym e)
            (subst (λ (t : ℕ). is_own_task trace cpu t ≡ true) (sym (ap (λ (x : Name). x.task) has.name)) own)) ∙ theirs))) ∙ at.strangers n less theirs;
        local_is = refl;
      }

    -- a fresh page
    module _ (view2 : ℕ → View) (others : (t : ℕ) → t ≢ task → view2 t ≡ view t) (pages : (view2 task).0 ≡ (view task).0) (going : gone task ≡ false)
        (k : ℕ) (is : is_writer task k (writers_in trace) ≡ true) (inside : k < length (view task).1) (wide : length (view task).1 ≡ length trace.contexts) where
      abbrev rate : ℕ
      rate = ratelimit_pages trace opened

      abbrev old : Writer
      old = writer_in k (view task)

      has : HasNumber task k 0 (all_writers trace)
      has = numbered k is (omega (arith, inside, wide))

      number_is : number_of trace task k ≡ has.place
      number_is = let at_place = has.number in omega (arith, at_place)

      there : has.place < length s.cpu.writers
      there = (let less = has.there in let long = at.long in omega (arith, less, long))

      step_local : (n : ℕ) → (cpu_step rate trace.cap s.cpu (Wrote n)).local ≡ (wrote_page rate s.cpu.local (writer_of s.cpu n)).local
      unfolding cpu_step
      step_local n = refl

      pub fresh : (view2 task).1 ≡ set (view task).1 k (wrote_writer (wrote_page rate local old) old) → SideAt trace cpu (wrote_page rate local old).local view2 gone (write_fresh trace opened task k s)
      fresh writers =
          let n : ℕ = has.place in
          let c : Cpu = cpu_step rate trace.cap s.cpu (Wrote n) in
          let mine_was : writer_of s.cpu n ≡ old = its_writer k has going in
          let locals : (wrote_page rate s.cpu.local (writer_of s.cpu n)).local ≡ (wrote_page rate local old).local =
          ap (λ (l : CpuLocal). (wrote_page rate l (writer_of s.cpu n)).local) at.local_is ∙ ap (λ (w : Writer). (wrote_page rate local w).local) mine_was in
          let mine : writer_of c n ≡ wrote_writer (wrote_page rate local old) old =
          written_is rate trace.cap s.cpu n there
          ∙ ap (λ (l : CpuLocal). wrote_writer (wrote_page rate l (writer_of s.cpu n)) (writer_of s.cpu n)) at.local_is
          ∙ ap (λ (w : Writer). wrote_writer (wrote_page rate local w) w) mine_was in
          subst (λ (m : ℕ). SideAt trace cpu (wrote_page rate local old).local view2 gone (record { cpu = cpu_step rate trace.cap s.cpu (Wrote m); tasks = s.tasks })) (sym number_is)
          (subst (λ (l : CpuLocal). SideAt trace cpu l view2 gone (record { cpu = c; tasks = s.tasks })) (step_local n ∙ locals)
          (changed view2 others pages going k has inside (wrote_writer (wrote_page rate local old) old) writers c (same_writers rate trace.cap s.cpu (Wrote n)) mine
          (λ m other. others_stay rate trace.cap s.cpu (Wrote n) m other)))

      check_local : (n : ℕ) (decision : Decision) → (cpu_step rate trace.cap s.cpu (Checked n decision)).local ≡ s.cpu.local
      unfolding cpu_step
      check_local n decision = refl

      pub checked : (decision : Decision) → (view2 task).1 ≡ set (view task).1 k (checked_writer decision) → SideAt trace cpu local view2 gone (check_by trace opened task k decision s)
      checked decision writers =
          let n : ℕ = has.place in
          let c : Cpu = cpu_step rate trace.cap s.cpu (Checked n decision) in
          subst (λ (m : ℕ). SideAt trace cpu local view2 gone (record { cpu = cpu_step rate trace.cap s.cpu (Checked m decision); tasks = s.tasks })) (sym number_is)
          (subst (λ (l : CpuLocal). SideAt trace cpu l view2 gone (record { cpu = c; tasks = s.tasks })) (check_local n decision ∙ at.local_is)
          (changed view2 others pages going k has inside (checked_writer decision) writers c (same_writers rate trace.cap s.cpu (Checked n decision)) (checked_is rate trace.cap s.cpu n decision there)
          (λ m other. others_stay rate trace.cap s.cpu (Checked n decision) m other)))

    -- ---- a page less to write

    pub page_less : (view2 : ℕ → View) → ((t : ℕ) → t ≢ task → view2 t ≡ view t) → (page : ℕ) → (view task).0 ≡ page ∷ (view2 task).0 → (view2 task).1 ≡ (view task).1
        → SideAt trace cpu local view2 gone (with_page task s)
    page_less view2 others page pages writers = record {
      many = length-set s.tasks task _ ∙ at.many;
      long = at.long;
      tasks = λ t mine. dite (ℕ_discrete t task)
          (λ same.
          let was = at.tasks task own in
          let less : (task_of s task).todo - 1 ≡ length (view2 task).0 = (let n = ap (λ (x : TaskState). x.todo) was in let l = ap (λ (x : List ℕ). length x) pages in omega (arith, n, l)) in
          let now : task_of (with_page task s) task ≡ record { todo = (task_of s task).todo - 1; has_ended = (task_of s task).has_ended } = get_or-set_same s.tasks task _ _ (let known = at.many in omega (arith, low, known)) in
          ap (task_of (with_page task s)) same ∙ now
          ∙ (λ i. record { todo = less i; has_ended = (was i).has_ended })
          ∙ ap (λ (x : ℕ). record { todo = length (view2 x).0; has_ended = gone x }) (sym same))
          (λ other. get_or-set_other s.tasks task t _ _ other ∙ at.tasks t mine ∙ ap (λ (v : View). record { todo = length v.0; has_ended = gone t }) (sym (others t other)));
      writers = λ n less mine. at.writers n less mine ∙ ap (cond (gone (name trace n).task) (new_writer trace.cap)) (same_writer (name trace n));
      strangers = at.strangers;
      local_is = at.local_is;
    }
      where
        same_writer : (x : Name) → writer_in x.context (view x.task) ≡ writer_in x.context (view2 x.task)
        same_writer x = dite (ℕ_discrete x.task task)
            (λ same. ap (λ (t : ℕ). writer_in x.context (view t)) same ∙ ap (λ (l : List Writer). get_or l x.context (new_writer 0)) (sym writers) ∙ ap (λ (t : ℕ). writer_in x.context (view2 t)) (sym same))
            (λ other. ap (writer_in x.context) (sym (others x.task other)))

    -- ---- the task ends

    module _ (gone2 : ℕ → Bool) (now : gone2 task ≡ true) (others : (t : ℕ) → t ≢ task → gone2 t ≡ gone t) (going : gone task ≡ false) (of : IsView trace task (view task)) where
      abbrev ns : List ℕ
      ns = numbers_of trace task

      abbrev c2 : Cpu
      c2 = cpu_after (ratelimit_pages trace opened) trace.cap s.cpu (map Ended ns)

      -- what its writers count together
      sums : dirtied_by_all s.cpu ns ≡ sum_by dirtied_by (view task).1
      sums =
          let G : Name → ℕ = λ x. (writer_in x.context (view task)).task.nr_dirtied in
          let D : ℕ → ℕ = λ k. (writer_in k (view task)).task.nr_dirtied in
          let numbers = sum_numbers (λ n. (writer_of s.cpu n).task.nr_dirtied) G task 0 (all_writers trace)
          (λ n less its. ap (λ (m : ℕ). (writer_of s.cpu m).task.nr_dirtied) (let e : 0 + n ≡ n = omega arith in e) ∙ ap (λ (w : Writer). w.task.nr_dirtied) (writer_is going n less its)) in
          let whole = sum_of_task (writers_in trace) task G D (λ k is. refl) (λ k no. (of.others k no).0) 0 (length trace.tasks) (length trace.contexts) (omega arith) (omega (arith, low)) in
          let places = sum_places dirtied_by (new_writer 0) (view task).1 in
          let long = ap (sum_from D 0) of.wide in
          numbers ∙ whole ∙ sym long ∙ sym places

      local_now : c2.local ≡ fold (λ (before : CpuLocal) (w : Writer). ended before w.task) local (view task).1
      local_now =
          let a = ended_task_leaks (ratelimit_pages trace opened) trace.cap s.cpu ns (numbers_apart task 0 (all_writers trace)) in
          let b = ended_writers_leak local (view task).1 in
          let was : s.cpu.local.leaks ≡ local.leaks = ap (λ (l : CpuLocal). l.leaks) at.local_is in
          let since : s.cpu.local.since_check ≡ local.since_check = ap (λ (l : CpuLocal). l.since_check) at.local_is in
          let leaks : c2.local.leaks ≡ (fold (λ (before : CpuLocal) (w : Writer). ended before w.task) local (view task).1).leaks = a.0 ∙ omega (arith, was, sums) ∙ sym b.0 in
          let sinces : c2.local.since_check ≡ (fold (λ (before : CpuLocal) (w : Writer). ended before w.task) local (view task).1).since_check = a.1 ∙ since ∙ sym b.1 in
          λ i. record { since_check = sinces i; leaks = leaks i }

      pub ends : SideAt trace cpu (fold (λ (before : CpuLocal) (w : Writer). ended before w.task) local (view task).1) view gone2 (end_task trace opened task s)
      ends = record {
        many = length-set s.tasks task _ ∙ at.many;
        long = ends_length (ratelimit_pages trace opened) trace.cap s.cpu ns ∙ at.long;
        tasks = λ t mine. dite (ℕ_discrete t task)
            (λ same.
            ap (task_of (end_task trace opened task s)) same
            ∙ get_or-set_same s.tasks task _ _ (let known = at.many in omega (arith, low, known))
            ∙ ap (λ (x : TaskState). record { todo = x.todo; has_ended = true }) (at.tasks task own)
            ∙ ap (λ (b : Bool). record { todo = length (view task).0; has_ended = b }) (sym now)
            ∙ ap (λ (x : ℕ). record { todo = length (view x).0; has_ended = gone2 x }) (sym same))
            (λ other. get_or-set_other s.tasks task t _ _ other ∙ at.tasks t mine ∙ ap (λ (b : Bool). record { todo = length (view t).0; has_ended = b }) (sym (others t other)));
        writers = λ n less mine.
            now_is n less ∙ dite (ℕ_discrete (name trace n).task task)
            (λ same.
            cond-true (eqb (name trace n).task task) (new_writer trace.cap) (writer_of s.cpu n) (eq-eqb (name trace n).task task same)
            ∙ sym (cond-true (gone2 (name trace n).task) (new_writer trace.cap) (writer_in (name trace n).context (view (name trace n).task)) (ap gone2 same ∙ now)))
            (λ other.
            cond-false (eqb (name trace n).task task) (new_writer trace.cap) (writer_of s.cpu n) (ne_eqb (name trace n).task task other)
            ∙ at.writers n less mine ∙ ap (λ (b : Bool). cond b (new_writer trace.cap) (writer_in (name trace n).context (view (name trace n).task))) (sym (others (name trace n).task other)));
        strangers = λ n less theirs.
            ap (λ (w : Writer). w.due)
            (now_is n less
            ∙ cond-false (eqb (name trace n).task task) (new_writer trace.cap) (writer_of s.cpu n)
            (ne_eqb (name trace n).task task (λ same. true≢false (sym (subst (λ (t : ℕ). is_own_task trace cpu t ≡ true) (sym same) own) ∙ theirs))))
            ∙ at.strangers n less theirs;
        local_is = local_now;
      }
        where
          now_is : (n : ℕ) → n < length (all_writers trace) → writer_of c2 n ≡ cond (eqb (name trace n).task task) (new_writer trace.cap) (writer_of s.cpu n)
          now_is n less =
              ends_writers (ratelimit_pages trace opened) trace.cap s.cpu ns n (let long = at.long in omega (arith, less, long))
              ∙ ap (λ (b : Bool). cond b (new_writer trace.cap) (writer_of s.cpu n))
              (ap (λ (k : ℕ). list_any (λ (m : ℕ). eqb m k) ns) (let e : n ≡ 0 + n = omega arith in e) ∙ number_is_its task 0 (all_writers trace) n less)

    -- ---- whether it ends

    module _ (gone2 : ℕ → Bool) (others : (t : ℕ) → t ≢ task → gone2 t ≡ gone t) (going : gone task ≡ false) (of : IsView trace task (view task)) (now : gone2 task ≡ is_done trace task (view task)) where
      empty_is : (l : List ℕ) → eqb (length l) 0 ≡ is_empty l
      empty_is [] = refl
      empty_is (x ∷ l) = ne_eqb (suc (length l)) 0 (λ e. omega (arith, e))

      test_is : (not (rests_last trace task) && (eqb (task_of s task).todo 0 && is_none_due trace s task)) ≡ is_done trace task (view task)
      test_is =
          ap (λ (n : ℕ). not (rests_last trace task) && (eqb n 0 && is_none_due trace s task)) (ap (λ (x : TaskState). x.todo) (at.tasks task own))
          ∙ ap (λ (b : Bool). not (rests_last trace task) && (b && is_none_due trace s task)) (empty_is (view task).0)
          ∙ ap (λ (b : Bool). not (rests_last trace task) && (is_empty (view task).0 && b)) (none_due of going)

      pub settled : SideAt trace cpu (cond (is_done trace task (view task)) (fold (λ (before : CpuLocal) (w : Writer). ended before w.task) local (view task).1) local) view gone2 (settle trace opened task s)
      settled = by_test (is_done trace task (view task)) refl
        where
          same_gone : is_done trace task (view task) ≡ false → (t : ℕ) → gone t ≡ gone2 t
          same_gone isnt t = dite (ℕ_discrete t task) (λ same. ap gone same ∙ going ∙ sym isnt ∙ sym now ∙ ap gone2 (sym same)) (λ other. sym (others t other))

          by_test : (b : Bool) → is_done trace task (view task) ≡ b
              → SideAt trace cpu (cond (is_done trace task (view task)) (fold (λ (before : CpuLocal) (w : Writer). ended before w.task) local (view task).1) local) view gone2 (settle trace opened task s)
          by_test true over =
              subst (λ (x : CpuLocal). SideAt trace cpu x view gone2 (settle trace opened task s)) (sym (cond-true (is_done trace task (view task)) _ local over))
              (subst (SideAt trace cpu _ view gone2) (sym (cond-true (not (rests_last trace task) && (eqb (task_of s task).todo 0 && is_none_due trace s task)) (end_task trace opened task s) s (test_is ∙ over)))
              (ends gone2 (now ∙ over) others going of))
          by_test false isnt =
              subst (λ (x : CpuLocal). SideAt trace cpu x view gone2 (settle trace opened task s)) (sym (cond-false (is_done trace task (view task)) _ local isnt))
              (subst (SideAt trace cpu local view gone2) (sym (cond-false (not (rests_last trace task) && (eqb (task_of s task).todo 0 && is_none_due trace s task)) (end_task trace opened task s) s (test_is ∙ isnt)))
              (record {
                many = at.many;
                long = at.long;
                tasks = λ t mine. at.tasks t mine ∙ ap (λ (b : Bool). record { todo = length (view t).0; has_ended = b }) (same_gone isnt t);
                writers = λ n less mine. at.writers n less mine ∙ ap (λ (b : Bool). cond b (new_writer trace.cap) (writer_in (name trace n).context (view (name trace n).task))) (same_gone isnt (name trace n).task);
                strangers = at.strangers;
                local_is = at.local_is;
              }))
