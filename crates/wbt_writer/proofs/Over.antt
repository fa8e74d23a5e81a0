-- Steps of tasks leave what is over as it is.
use Rattle.std.proofs.Common.{◌≡◌, ◌≢◌, ℕ, zero, suc, ◌+◌, ◌-◌, ◌<◌, ◌≤◌, inl, inr, Bool, true, false, ◌&&◌, not, eqb, List, [], ◌∷◌, length, map, drop, get_or, set, refl, sym, ap, ◌∙◌, subst, arith, eqb-true, eq-eqb, true≢false}
use Rattle.std.proofs.lemmas.Bool.{cases_eq, cases_Bool, cond_both, cond-true}
use Rattle.std.proofs.lemmas.List.{get_or-set_same, get_or-set_other, get_or-replicate, length-map, length-set}
use Rattle.std.proofs.Math.ListN.{get_or-map}
use Rattle.wbt_writer.proofs.Common.{Each, pages_of_task, ratelimit_pages, rests_last, Side, TaskState, all_writers, end_task, first_side, is_none_due, numbers_from, settle, task_of, with_page, Cpu, cpu_after, cpu_step, new_cpu, new_writer, writer_of, Ended, Writer, TaskLine, Trace, IsLawful, Due, AllEnded, AreTasksOf, no_name, no_task, side_of, state_of, task_at, AreOver, IsOver}
use Rattle.wbt_journal.specs.Side.{first_states, is_empty, is_quiet, is_not_due, numbers_of, no_task as no_state}
use Rattle.wbt_task.specs.declared.allowance.Due.TheVariants as due
use Rattle.wbt_trace.specs.declared.writers.Writer.{Writer as Name}
use Rattle.wbt_writer.specs.Ahead.{ahead}
use Rattle.wbt_writer.specs.Over.{HasNoDue, IsAllDone}
use Rattle.wbt_writer.specs.declared.tasks.Tasks.{Tasks}
use Rattle.wbt_writer.proofs.Lefts.{has_ended_is}
use Rattle.wbt_writer.proofs.Pairs.{its_pair}
use Rattle.wbt_writer.proofs.Settling.{and_left, and_right, some_due}

-- ---- lists

set_either : {A : Type 0} (P : A → Type 0) (l : List A) (m n : ℕ) (x d : A) → P x → P (get_or l n d) → P (get_or (set l m x) n d)
set_either P [] m n x d new was = was
set_either P (y ∷ l) zero zero x d new was = new
set_either P (y ∷ l) zero (suc n) x d new was = was
set_either P (y ∷ l) (suc m) zero x d new was = was
set_either P (y ∷ l) (suc m) (suc n) x d new was = set_either P l m n x d new was

each_of : {A : Type 0} (P : A → Type 0) (l : List A) (d : A) → ((n : ℕ) → n < length l → P (get_or l n d)) → Each P l
each_of P [] d all = tt
each_of P (x ∷ l) d all = (all 0 (omega arith), each_of P l d (λ n less. all (suc n) (omega arith)))

drop_short : {A : Type 0} (n : ℕ) (l : List A) → length (drop n l) ≡ 0 → length l ≤ n
drop_short zero l none = omega arith
drop_short (suc n) [] none = omega arith
drop_short (suc n) (x ∷ l) none = let rest = drop_short n l none in omega arith

-- ---- ends make no check due

new_due : (cap : ℕ) → (new_writer cap).due ≡ due.No
unfolding new_writer
new_due cap = refl

one_due : (rl cap : ℕ) (cpu : Cpu) (m n : ℕ) → (writer_of cpu n).due ≡ due.No → (writer_of (cpu_step rl cap cpu (Ended m)) n).due ≡ due.No
unfolding cpu_step
one_due rl cap cpu m n quiet = set_either (λ (w : Writer). w.due ≡ due.No) cpu.writers m n (new_writer cap) (new_writer 0) (new_due cap) quiet

ends_due : (rl cap : ℕ) (cpu : Cpu) (ns : List ℕ) (n : ℕ) → (writer_of cpu n).due ≡ due.No → (writer_of (cpu_after rl cap cpu (map Ended ns)) n).due ≡ due.No
unfolding cpu_after
ends_due rl cap cpu [] n quiet = quiet
ends_due rl cap cpu (m ∷ ns) n quiet = ends_due rl cap (cpu_step rl cap cpu (Ended m)) ns n (one_due rl cap cpu m n quiet)

-- ---- the numbers of a task's writers

each_number : (P : ℕ → Type 0) (task k : ℕ) (ws : List Name) → Each P (numbers_from task k ws) → (i : ℕ) → i < length ws → (get_or ws i no_name).task ≡ task → P (k + i)
each_number P task k [] each i less its = absurd (omega arith)
each_number P task k (w ∷ ws) each zero less its =
    let all : Each P (k ∷ numbers_from task (k + 1) ws) = subst (Each P) (cond-true (eqb w.task task) (k ∷ numbers_from task (k + 1) ws) (numbers_from task (k + 1) ws) (eq-eqb w.task task its)) each in
    subst P (let e : k ≡ k + 0 = omega arith in e) all.0
each_number P task k (w ∷ ws) each (suc i) less its =
    let e : k + 1 + i ≡ k + suc i = omega arith in
    subst P e (each_number P task (k + 1) ws (rest each) i (omega arith) its)
  where
    rest : Each P (numbers_from task k (w ∷ ws)) → Each P (numbers_from task (k + 1) ws)
    rest = cond_both (eqb w.task task) (k ∷ numbers_from task (k + 1) ws) (numbers_from task (k + 1) ws) (λ (l : List ℕ). Each P l → Each P (numbers_from task (k + 1) ws)) (λ t all. all.1) (λ t all. all)

pub no_due_of : (trace : Trace) (s : Side) (task : ℕ) → Each (λ (n : ℕ). (writer_of s.cpu n).due ≡ due.No) (numbers_of trace task) → HasNoDue trace s task
no_due_of trace s task each n less its =
    subst (λ (k : ℕ). (writer_of s.cpu k).due ≡ due.No) (let e : 0 + n ≡ n = omega arith in e) (each_number (λ (k : ℕ). (writer_of s.cpu k).due ≡ due.No) task 0 (all_writers trace) each n less its)

-- ---- dues

quiet_is : (d : Due) → is_not_due d ≡ true → d ≡ due.No
quiet_is due.No is = refl
quiet_is due.Check is = absurd (true≢false (sym is))

no_due : (trace : Trace) (s : Side) (task : ℕ) → is_none_due trace s task ≡ true → HasNoDue trace s task
no_due trace s task all n less its = elim (cases_Bool (is_quiet s n)) [
  | inl is_so ↦ quiet_is (writer_of s.cpu n).due is_so
  | inr not_quiet ↦ absurd (true≢false (sym all ∙ some_due s task 0 (all_writers trace) n less its (subst (λ (k : ℕ). is_quiet s k ≡ false) (let e : n ≡ 0 + n = omega arith in e) not_quiet)))
]

module _ (trace : Trace) (own : ℕ → Bool) (opened task : ℕ) where
  -- ---- an end

  pub end_over : (s : Side) → task < length s.tasks → (task_of s task).todo ≡ 0 → HasNoDue trace s task → IsOver trace own s → IsOver trace own (end_task trace opened task s)
  end_over s there none quiet over = record {
    ended = λ k low has. elim (cases_eq k task) [
      | inl same ↦ subst (λ (j : ℕ). ((task_of (end_task trace opened task s) j).todo ≡ 0) × HasNoDue trace (end_task trace opened task s) j) (sym same)
          (ap (λ (t : TaskState). t.todo) (get_or-set_same s.tasks task (record { todo = (task_of s task).todo; has_ended = true }) no_state there) ∙ none, still task quiet)
      | inr other ↦
          let is : task_of (end_task trace opened task s) k ≡ task_of s k = get_or-set_other s.tasks task k (record { todo = (task_of s task).todo; has_ended = true }) no_state other in
          let before = over.ended k (subst (λ (n : ℕ). k < n) (length-set s.tasks task (record { todo = (task_of s task).todo; has_ended = true })) low) (ap (λ (t : TaskState). t.has_ended) (sym is) ∙ has) in
          (ap (λ (t : TaskState). t.todo) is ∙ before.0, still k before.1)
    ];
    elsewhere = λ k other. still k (over.elsewhere k other);
  }
    where
      still : (k : ℕ) → HasNoDue trace s k → HasNoDue trace (end_task trace opened task s) k
      still k was n less its = ends_due (ratelimit_pages trace opened) trace.cap s.cpu (numbers_of trace task) n (was n less its)

  pub settle_over : (s : Side) → task < length s.tasks → IsOver trace own s → IsOver trace own (settle trace opened task s)
  settle_over s there over = cond_both (not (rests_last trace task) && (eqb (task_of s task).todo 0 && is_none_due trace s task)) (end_task trace opened task s) s (IsOver trace own)
      (λ is. let both = and_right (not (rests_last trace task)) (eqb (task_of s task).todo 0 && is_none_due trace s task) is in
      end_over s there (eqb-true (task_of s task).todo 0 (and_left (eqb (task_of s task).todo 0) (is_none_due trace s task) both)) (no_due trace s task (and_right (eqb (task_of s task).todo 0) (is_none_due trace s task) both)) over)
      (λ not_over. over)

  -- ---- a page

  pub page_over : (s : Side) → task < length s.tasks → (task_of s task).has_ended ≡ false → IsOver trace own s → IsOver trace own (with_page task s)
  page_over s there going over =
      let new : TaskState = record { todo = (task_of s task).todo - 1; has_ended = (task_of s task).has_ended } in
      record {
        ended = λ k low has. elim (cases_eq k task) [
          | inl same ↦ absurd (true≢false (sym (subst (λ (j : ℕ). (task_of (with_page task s) j).has_ended ≡ true) same has) ∙ ap (λ (t : TaskState). t.has_ended) (get_or-set_same s.tasks task new no_state there) ∙ going))
          | inr other ↦
              let is : task_of (with_page task s) k ≡ task_of s k = get_or-set_other s.tasks task k new no_state other in
              let before = over.ended k (subst (λ (n : ℕ). k < n) (length-set s.tasks task new) low) (ap (λ (t : TaskState). t.has_ended) (sym is) ∙ has) in
              (ap (λ (t : TaskState). t.todo) is ∙ before.0, before.1)
        ];
        elsewhere = over.elsewhere;
      }

  -- ---- what one writer counts

  pub counts_over : (s : Side) (cpu : Cpu) (w : ℕ) → (get_or (all_writers trace) w no_name).task ≡ task → own task ≡ true → (task_of s task).has_ended ≡ false → ((n : ℕ) → n ≢ w → writer_of cpu n ≡ writer_of s.cpu n)
      → IsOver trace own s → IsOver trace own (record { cpu = cpu; tasks = s.tasks })
  counts_over s cpu w named mine going others over = record {
    ended = λ k low has. let before = over.ended k low has in
        (before.0, still k (λ same. true≢false (sym has ∙ ap (λ (j : ℕ). (task_of s j).has_ended) same ∙ going)) before.1);
    elsewhere = λ k other. still k (λ same. true≢false (sym mine ∙ ap own (sym same) ∙ other)) (over.elsewhere k other);
  }
    where
      still : (k : ℕ) → k ≢ task → HasNoDue trace s k → HasNoDue trace (record { cpu = cpu; tasks = s.tasks }) k
      still k differs was n less its =
          ap (λ (x : Writer). x.due) (others n (λ same. differs (sym its ∙ ap (λ (j : ℕ). (get_or (all_writers trace) j no_name).task) same ∙ named))) ∙ was n less its

-- the same tasks are the CPU's
pub own_over : (trace : Trace) (a b : ℕ → Bool) (s : Side) → ((k : ℕ) → b k ≡ a k) → IsOver trace a s → IsOver trace b s
own_over trace a b s same over = record { ended = over.ended; elsewhere = λ k other. over.elsewhere k (sym (same k) ∙ other) }

-- ---- at first

none_at : (pages : List ℕ) → is_empty pages ≡ true → length pages ≡ 0
none_at [] is = refl
none_at (p ∷ pages) is = absurd (true≢false (sym is))

first_ended : (trace : Trace) (task : ℕ) (lines : List TaskLine) (k : ℕ) → k < length (first_states trace task lines) → (get_or (first_states trace task lines) k no_state).has_ended ≡ true
    → (get_or (first_states trace task lines) k no_state).todo ≡ 0
first_ended trace task [] k low has = absurd (omega arith)
first_ended trace task (line ∷ lines) zero low has = none_at (pages_of_task trace task) (and_right (not (rests_last trace task)) (is_empty (pages_of_task trace task)) has)
first_ended trace task (line ∷ lines) (suc k) low has = first_ended trace (suc task) lines k (omega arith) has

first_due : (cap count n : ℕ) → n < count → (writer_of (new_cpu cap count) n).due ≡ due.No
unfolding new_cpu new_writer
first_due cap count n less = ap (λ (w : Writer). w.due) (get_or-replicate count n (new_writer cap) (new_writer 0) less)

pub first_over : (trace : Trace) (own : ℕ → Bool) (s : Side) → s ≡ first_side trace → IsOver trace own s
first_over trace own s is = subst (IsOver trace own) (sym is) (record {
  ended = λ k low has. (first_ended trace 0 trace.tasks k low has, λ n less its. first_due trace.cap (length (all_writers trace)) n less);
  elsewhere = λ k other n less its. first_due trace.cap (length (all_writers trace)) n less;
})

-- ---- at the end

all_ended : (own ended : Bool) → own ≡ true → (own && not ended) ≡ false → ended ≡ true
all_ended true true mine is = refl
all_ended true false mine is = absurd (true≢false is)
all_ended false b mine is = absurd (true≢false (sym mine))

pub all_done : (trace : Trace) (s : Tasks) → IsLawful trace → AreTasksOf trace s → AreOver trace s → AllEnded s 0 (length s.tasks.items) → IsAllDone trace s
all_done trace s lawful tasks over all = record {
  none_due = each_of (λ (w : Writer). w.due ≡ due.No) s.writers.items (new_writer 0) (λ n less.
      let low : n < length (all_writers trace) = let long = tasks.counted.as_long in omega arith in
      quiet n low (its_pair trace lawful n low).0);
  all_written = λ task low mine.
      let over_now = over.ended task (there task low) (has_ended_is s task ∙ ended task low mine) in
      let along = (tasks.counted.each task low).along in
      let none : (task_at s task).todo ≡ 0 = ap (λ (t : TaskState). t.todo) (sym (get_or-map state_of s.tasks.items task no_task)) ∙ over_now.0 in
      let left : length (ahead trace task (task_at s task)) ≡ 0 = sym along.todo ∙ none in
      drop_short (task_at s task).written (pages_of_task trace task) (ap (λ (l : List ℕ). length l) (sym along.still) ∙ left);
}
  where
    there : (task : ℕ) → task < length trace.tasks → task < length (side_of s).tasks
    there task low = let same = length-map s.tasks.items state_of in let long = tasks.counted.tasks in omega arith

    ended : (task : ℕ) → task < length trace.tasks → (task_at s task).own ≡ true → (task_at s task).ended ≡ true
    ended task low mine = all_ended (task_at s task).own (task_at s task).ended mine (all task (omega arith) (let long = tasks.counted.tasks in omega arith))

    quiet : (n : ℕ) → n < length (all_writers trace) → (get_or (all_writers trace) n no_name).task < length trace.tasks → (writer_of (side_of s).cpu n).due ≡ due.No
    quiet n low task_low =
        let task : ℕ = (get_or (all_writers trace) n no_name).task in
        elim (cases_Bool (task_at s task).own) [
          | inl mine ↦ (over.ended task (there task task_low) (has_ended_is s task ∙ ended task task_low mine)).1 n low refl
          | inr other ↦ over.elsewhere task other n low refl
        ]
