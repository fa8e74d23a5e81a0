-- Where a task ends: what its CPU's side says of it, and what holds after that.
use Rattle.std.proofs.Common.{◌≡◌, ◌≢◌, ℕ, suc, zero, ◌+◌, ◌<◌, ◌≤◌, ◌⊎◌, inl, inr, Bool, true, false, ◌&&◌, not, eqb, nat_lt, List, [], ◌∷◌, length, map, drop, get_or, set, flat_map, refl, sym, ap, ◌∙◌, subst, arith, eq-eqb, ne_eqb, true≢false}
use Rattle.std.specs.List.{list_all}
use Rattle.std.proofs.lemmas.Bool.{cond-true, cond-false, cases_eq, cases_Bool, ltb-true, ltb-false, lt-ltb}
use Rattle.std.proofs.lemmas.List.{drop_all, get_or-map, get_or-set_same, get_or-set_other, length-set, map-set}
use Rattle.std.proofs.lemmas.List.Sums.{sum_by-set}
use Rattle.wbt_writer.proofs.Common.{is_due, pages_of_action, ratelimit_pages, rests_last, Side, TaskState, all_writers, is_none_due, numbers_from, settle, task_of, AllHavePagesLeft, Cpu, cpu_after, writer_of, Ended, Action, Trace, Due, IsAlong, AreTasksOf, GoesOn, IsLast, IsTaskOf, KeepsFixed, OnlyEnds, all_todo, cpu_of, is_due_at, no_name, no_task, side_of, state_of, task_at}
use Rattle.wbt_journal.specs.Side.{is_not_due, is_quiet}
use Rattle.wbt_task.specs.declared.allowance.Due.TheVariants as due
use Rattle.wbt_trace.specs.declared.writers.Writer.{Writer as Name}
use Rattle.wbt_writer.specs.Counted.{AreCounted}
use Rattle.wbt_writer.specs.declared.task.TaskPlace.{TaskPlace}
use Rattle.wbt_writer.specs.declared.tasks.Tasks.{Tasks}

-- ---- what is due

pub not_due : (d : Due) → is_due d ≡ false → d ≡ due.No
not_due due.No is = refl
not_due due.Check is = absurd (true≢false is)

quiet_one : (d : Due) → d ≡ due.No → is_not_due d ≡ true
quiet_one d is = ap is_not_due is

due_one : (d : Due) → is_due d ≡ true → is_not_due d ≡ false
due_one due.No is = absurd (true≢false (sym is))
due_one due.Check is = refl

both : (a b : Bool) → a ≡ true → b ≡ true → (a && b) ≡ true
both a b p q = ap (λ x. x && b) p ∙ q

neither : (a b : Bool) → b ≡ false → (a && b) ≡ false
neither true b q = q
neither false b q = refl

all_quiet : (s : Side) (task k : ℕ) (ws : List Name) → ((i : ℕ) → i < length ws → (get_or ws i no_name).task ≡ task → is_quiet s (k + i) ≡ true)
    → list_all (is_quiet s) (numbers_from task k ws) ≡ true
all_quiet s task k [] quiet = refl
all_quiet s task k (w ∷ ws) quiet =
    let rest = all_quiet s task (k + 1) ws (λ i less own. subst (λ n. is_quiet s n ≡ true) (let e : k + suc i ≡ k + 1 + i = omega arith in e) (quiet (suc i) (omega arith) own)) in
    elim (cases_eq w.task task) [
      | inl own ↦ ap (list_all (is_quiet s)) (cond-true (eqb w.task task) _ _ (eq-eqb w.task task own))
          ∙ both (is_quiet s k) (list_all (is_quiet s) (numbers_from task (k + 1) ws)) (subst (λ n. is_quiet s n ≡ true) (let e : k + 0 ≡ k = omega arith in e) (quiet 0 (omega arith) own)) rest
      | inr other ↦ ap (list_all (is_quiet s)) (cond-false (eqb w.task task) _ _ (ne_eqb w.task task other)) ∙ rest
    ]

pub some_due : (s : Side) (task k : ℕ) (ws : List Name) (i : ℕ) → i < length ws → (get_or ws i no_name).task ≡ task → is_quiet s (k + i) ≡ false
    → list_all (is_quiet s) (numbers_from task k ws) ≡ false
some_due s task k [] i less own due = absurd (omega arith)
some_due s task k (w ∷ ws) zero less own due =
    ap (list_all (is_quiet s)) (cond-true (eqb w.task task) _ _ (eq-eqb w.task task own))
    ∙ ap (λ b. b && list_all (is_quiet s) (numbers_from task (k + 1) ws)) (subst (λ n. is_quiet s n ≡ false) (let e : k + 0 ≡ k = omega arith in e) due)
some_due s task k (w ∷ ws) (suc i) less own due =
    let rest = some_due s task (k + 1) ws i (omega arith) own (subst (λ n. is_quiet s n ≡ false) (let e : k + suc i ≡ k + 1 + i = omega arith in e) due) in
    elim (cases_eq w.task task) [
      | inl first ↦ ap (list_all (is_quiet s)) (cond-true (eqb w.task task) _ _ (eq-eqb w.task task first)) ∙ neither (is_quiet s k) _ rest
      | inr other ↦ ap (list_all (is_quiet s)) (cond-false (eqb w.task task) _ _ (ne_eqb w.task task other)) ∙ rest
    ]

pub and_left : (a b : Bool) → (a && b) ≡ true → a ≡ true
and_left true b is = refl
and_left false b is = absurd (true≢false (sym is))

pub and_right : (a b : Bool) → (a && b) ≡ true → b ≡ true
and_right true b is = is
and_right false b is = absurd (true≢false (sym is))

module _ (trace : Trace) (task : ℕ) (s : Side) (t : TaskPlace) (long : length s.cpu.writers ≡ length (all_writers trace)) (last : IsLast trace s.cpu task t) where
  last_due : is_due_at s.cpu t.writer ≡ true → is_none_due trace s task ≡ false
  last_due is =
      let inside : t.writer < length s.cpu.writers = ltb-true _ _ (and_left (nat_lt t.writer (length s.cpu.writers)) _ is) in
      some_due s task 0 (all_writers trace) t.writer (omega arith) (ap (λ (n : Name). n.task) (last.its_own inside))
      (subst (λ n. is_quiet s n ≡ false) (let e : t.writer ≡ 0 + t.writer = omega arith in e) (due_one _ (and_right (nat_lt t.writer (length s.cpu.writers)) _ is)))

  last_quiet : is_due_at s.cpu t.writer ≡ false → is_none_due trace s task ≡ true
  last_quiet is = all_quiet s task 0 (all_writers trace) (λ i less own. subst (λ n. is_quiet s n ≡ true) (let e : i ≡ 0 + i = omega arith in e) (quiet_one _ (by_number i less own (cases_eq i t.writer))))
    where
      by_number : (i : ℕ) → i < length (all_writers trace) → (get_or (all_writers trace) i no_name).task ≡ task → (i ≡ t.writer) ⊎ (i ≢ t.writer) → (writer_of s.cpu i).due ≡ due.No
      by_number i less own (inl same) = not_due _ (subst (λ n. is_due (writer_of s.cpu n).due ≡ false) (sym same)
          (sym (ap (λ b. b && is_due (writer_of s.cpu t.writer).due) (lt-ltb t.writer (length s.cpu.writers) (omega arith))) ∙ is))
      by_number i less own (inr other) = last.others i (omega arith) own other

  pub none_due_is : (b : Bool) → is_due_at s.cpu t.writer ≡ b → is_none_due trace s task ≡ not b
  none_due_is true is = last_due is
  none_due_is false is = last_quiet is

-- ---- where a task is over

pub past_none : (trace : Trace) (task : ℕ) (t : TaskPlace) → IsAlong trace task t → length trace.actions ≤ t.at → t.todo ≡ 0
past_none trace task t along past = along.todo
    ∙ ap length (ap (λ (rest : List Action). drop t.done (flat_map (pages_of_action trace.inodes task) rest)) (drop_all t.at trace.actions past) ∙ drop_all t.done [] (omega arith))

module _ (trace : Trace) (task : ℕ) (s : Tasks) (there : task < length trace.tasks) (c : AreCounted trace s) where
  abbrev pub t : TaskPlace
  t = task_at s task

  abbrev pub is_over : Bool
  is_over = not t.rests_last && (eqb t.todo 0 && not (is_due_at (cpu_of s) t.writer))

  todo_is : (task_of (side_of s) task).todo ≡ t.todo
  todo_is = ap (λ (x : TaskState). x.todo) (get_or-map state_of s.tasks.items task no_task _ (let l = c.tasks in omega arith))

  over_is : (not (rests_last trace task) && (eqb (task_of (side_of s) task).todo 0 && is_none_due trace (side_of s) task)) ≡ is_over
  over_is = ap (λ b. not b && (eqb (task_of (side_of s) task).todo 0 && is_none_due trace (side_of s) task)) (sym (c.each task there).along.last_is)
      ∙ ap (λ n. not t.rests_last && (eqb n 0 && is_none_due trace (side_of s) task)) todo_is
      ∙ ap (λ b. not t.rests_last && (eqb t.todo 0 && b)) (none_due_is trace task (side_of s) t c.as_long (c.each task there).last (is_due_at (cpu_of s) t.writer) refl)

  pub settles_not : is_over ≡ false → (opened : ℕ) → side_of s ≡ settle trace opened task (side_of s)
  settles_not is opened = sym (cond-false _ _ _ (over_is ∙ is))

  pub settles : (n : Tasks) → is_over ≡ true → cpu_of n ≡ cpu_after s.ratelimit_pages s.cap (cpu_of s) (map Ended (numbers_from task 0 s.names.items))
      → n.tasks.items ≡ set s.tasks.items task (record t { ended = true }) → (opened : ℕ) → s.ratelimit_pages ≡ ratelimit_pages trace opened
      → side_of n ≡ settle trace opened task (side_of s)
  settles n is cpu tasks opened rate =
      let ends : cpu_of n ≡ cpu_after (ratelimit_pages trace opened) trace.cap (cpu_of s) (map Ended (numbers_from task 0 (all_writers trace))) =
      cpu ∙ ap (λ r. cpu_after r s.cap (cpu_of s) (map Ended (numbers_from task 0 s.names.items))) rate
      ∙ ap (λ k. cpu_after (ratelimit_pages trace opened) k (cpu_of s) (map Ended (numbers_from task 0 s.names.items))) c.cap
      ∙ ap (λ ns. cpu_after (ratelimit_pages trace opened) trace.cap (cpu_of s) (map Ended (numbers_from task 0 ns))) c.names in
      let states : map state_of n.tasks.items ≡ set (map state_of s.tasks.items) task (record { todo = (task_of (side_of s) task).todo; has_ended = true }) =
      ap (map state_of) tasks ∙ map-set state_of s.tasks.items task (record t { ended = true })
      ∙ ap (λ k. set (map state_of s.tasks.items) task (record { todo = k; has_ended = true })) (sym todo_is) in
      ap (λ (cpu : Cpu). record { cpu = cpu; tasks = map state_of n.tasks.items }) ends
      ∙ ap (λ (states : List TaskState). record { cpu = cpu_after (ratelimit_pages trace opened) trace.cap (cpu_of s) (map Ended (numbers_from task 0 (all_writers trace))); tasks = states }) states
      ∙ sym (cond-true _ _ _ (over_is ∙ is))

  -- ---- what goes on

  abbrev pub others_go : Type 0
  others_go = (other : ℕ) → other < length trace.tasks → other ≢ task → GoesOn trace (cpu_of s) (task_at s other)

  open_task : is_over ≡ false → GoesOn trace (cpu_of s) t
  open_task is own going = elim (cases_Bool (nat_lt t.at (length trace.actions))) [
    | inl less ↦ inr (ltb-true _ _ less)
    | inr more ↦ let behind : length trace.actions ≤ t.at = ltb-false _ _ more in inl (still_due ((c.each task there).past going behind) (past_none trace task t (c.each task there).along behind) (is_due_at (cpu_of s) t.writer) refl)
  ]
    where
      still_due : t.rests_last ≡ false → t.todo ≡ 0 → (b : Bool) → is_due_at (cpu_of s) t.writer ≡ b → is_due_at (cpu_of s) t.writer ≡ true
      still_due rests none true e = e
      still_due rests none false e = absurd (true≢false (sym (ap (λ r. not r && (eqb t.todo 0 && not (is_due_at (cpu_of s) t.writer))) rests
          ∙ ap (λ k. eqb k 0 && not (is_due_at (cpu_of s) t.writer)) none ∙ ap not e) ∙ is))

  pub stays_open : is_over ≡ false → others_go → AreTasksOf trace s
  stays_open is others = record {
    counted = c;
    go_on = λ other inside. elim (cases_eq other task) [
      | inl same ↦ subst (λ n. GoesOn trace (cpu_of s) (task_at s n)) (sym same) (open_task is)
      | inr differs ↦ others other inside differs
    ];
  }

  pub stays_ended : (n : Tasks) → 1 ≤ trace.cap → OnlyEnds (cpu_of s) (cpu_of n) → KeepsFixed s n
      → ((w : ℕ) → (get_or s.names.items w no_name).task ≢ task → writer_of (cpu_of n) w ≡ writer_of (cpu_of s) w)
      → (1 ≤ s.cap → AllHavePagesLeft s.cap (cpu_of s) → AllHavePagesLeft s.cap (cpu_of n))
      → n.tasks.items ≡ set s.tasks.items task (record t { ended = true }) → others_go → AreTasksOf trace n
  stays_ended n some only fixed stay left tasks others = record {
    counted = record {
      names = fixed.names ∙ c.names;
      as_long = only.long ∙ c.as_long;
      tasks = ap (λ (ts : List TaskPlace). length ts) tasks ∙ length-set s.tasks.items task (record t { ended = true }) ∙ c.tasks;
      cap = fixed.cap ∙ c.cap;
      each = λ other inside. by_task (IsTaskOf trace (cpu_of n)) other (ended_task (c.each task there)) (kept_task other (task_at s other) (c.each other inside));
      few = record {
        pages = let same = all_same in let counted_same = only.counted_same in let few = c.few.pages in omega arith;
        since = let same = all_same in let since = only.since in let few = c.few.since in omega arith;
        allowances = λ w less. let inside : w < length s.writers.items = subst (λ k. w < k) only.long less in only.allowances w inside (c.few.allowances w inside);
      };
      left = subst (λ k. AllHavePagesLeft k (cpu_of n)) c.cap (left (subst (λ k. 1 ≤ k) (sym c.cap) some) (subst (λ k. AllHavePagesLeft k (cpu_of s)) (sym c.cap) c.left));
    };
    go_on = λ other inside. elim (cases_eq other task) [
      | inl same ↦ subst (λ k. GoesOn trace (cpu_of n) (task_at n k)) (sym same) (λ own going. absurd (true≢false (sym (ap (λ (x : TaskPlace). x.ended) here) ∙ going)))
      | inr differs ↦ subst (GoesOn trace (cpu_of n)) (sym (apart other differs)) (λ own going. elim (others other inside differs own going) [
        | inl due ↦ inl (still other inside differs due)
        | inr less ↦ inr less
      ])
    ];
  }
    where
      all_same : all_todo n.tasks.items ≡ all_todo s.tasks.items
      all_same = let same = ap all_todo tasks in let put = sum_by-set (λ (x : TaskPlace). x.todo) s.tasks.items task (record t { ended = true }) no_task (let l = c.tasks in omega arith) in omega arith

      here : task_at n task ≡ record t { ended = true }
      here = ap (λ (ts : List TaskPlace). get_or ts task no_task) tasks ∙ get_or-set_same s.tasks.items task (record t { ended = true }) no_task (let l = c.tasks in omega arith)

      apart : (other : ℕ) → other ≢ task → task_at n other ≡ task_at s other
      apart other differs = ap (λ (ts : List TaskPlace). get_or ts other no_task) tasks ∙ get_or-set_other s.tasks.items task other (record t { ended = true }) no_task differs

      by_task : (P : ℕ → TaskPlace → Type 0) (other : ℕ) → P task (record t { ended = true }) → P other (task_at s other) → P other (task_at n other)
      by_task P other now before = elim (cases_eq other task) [
        | inl same ↦ subst (λ k. P k (task_at n k)) (sym same) (subst (P task) (sym here) now)
        | inr differs ↦ subst (P other) (sym (apart other differs)) before
      ]

      kept_last : (other : ℕ) (x : TaskPlace) → IsLast trace (cpu_of s) other x → IsLast trace (cpu_of n) other x
      kept_last other x last = record {
        number = λ less. last.number (subst (λ k. x.writer < k) only.long less);
        its_own = λ less. last.its_own (subst (λ k. x.writer < k) only.long less);
        others = λ w less own apart. only.quiet w (last.others w (subst (λ k. w < k) only.long less) own apart);
      }

      kept_task : (other : ℕ) (x : TaskPlace) → IsTaskOf trace (cpu_of s) other x → IsTaskOf trace (cpu_of n) other x
      kept_task other x is = record { along = is.along; last = kept_last other x is.last; past = is.past }

      ended_task : IsTaskOf trace (cpu_of s) task t → IsTaskOf trace (cpu_of n) task (record t { ended = true })
      ended_task is = let last = kept_last task t is.last in record {
        along = record { still = is.along.still; todo = is.along.todo; few = is.along.few; place = is.along.place; under_way = is.along.under_way; rests = is.along.rests; last_is = is.along.last_is; since = is.along.since };
        last = record { number = last.number; its_own = last.its_own; others = last.others };
        past = λ going. absurd (true≢false going);
      }

      -- a check of another task's last writer is still due
      still : (other : ℕ) → other < length trace.tasks → other ≢ task → is_due_at (cpu_of s) (task_at s other).writer ≡ true → is_due_at (cpu_of n) (task_at s other).writer ≡ true
      still other inside differs is =
          let w = (task_at s other).writer in
          let within : w < length s.writers.items = ltb-true _ _ (and_left (nat_lt w (length s.writers.items)) _ is) in
          let own = ap (λ (name : Name). name.task) ((c.each other inside).last.its_own within) in
          let named : (get_or s.names.items w no_name).task ≢ task = λ e. differs (sym own ∙ ap (λ (ns : List Name). (get_or ns w no_name).task) (sym c.names) ∙ e) in
          both (nat_lt w (length n.writers.items)) (is_due (writer_of (cpu_of n) w).due) (lt-ltb w (length n.writers.items) (subst (λ k. w < k) (sym only.long) within))
          (ap (λ x. is_due x.due) (stay w named) ∙ and_right (nat_lt w (length s.writers.items)) _ is)
