-- A task rests; where that was its last action it ends.
use Rattle.std.proofs.Common.{◌≡◌, ℕ, suc, ◌+◌, ◌<◌, inl, inr, true, false, ◌&&◌, eqb, List, [], ◌∷◌, length, map, get_or, set, sym, ap, ◌∙◌, subst, arith, eq-eqb, ne_eqb, true≢false}
use Rattle.std.proofs.lemmas.Bool.{cond-true, cond-false, cases_eq, lt-ltb}
use Rattle.std.proofs.lemmas.List.{get_or-map, set-set, map-set, set-get_or}
use Rattle.wbt_writer.proofs.Common.{is_due, Each, ratelimit_pages, TaskState, all_writers, end_task, numbers_from, task_of, AllHavePagesLeft, Cpu, cpu_after, writer_of, Ended, Trace, IsAlong, AreTasksOf, GoesOn, IsLast, IsTaskOf, KeepsFixed, cpu_of, is_due_at, no_name, no_task, side_of, state_of, task_at}
use Rattle.wbt_journal.specs.Checks.{MayEnd}
use Rattle.wbt_task.specs.declared.allowance.Due.TheVariants as due
use Rattle.wbt_trace.specs.declared.writers.Writer.{Writer as Name}
use Rattle.wbt_writer.specs.Counted.{AreFew}
use Rattle.wbt_writer.specs.declared.task.TaskPlace.{TaskPlace}
use Rattle.wbt_writer.specs.declared.tasks.Tasks.{Tasks}
use Rattle.wbt_writer.proofs.Settling.{not_due}
use Rattle.wbt_writer.proofs.Putting.{apart, here, put_counted, todo_put}

pub none_due : (cpu : Cpu) (task k : ℕ) (ws : List Name) → ((i : ℕ) → i < length ws → (get_or ws i no_name).task ≡ task → (writer_of cpu (k + i)).due ≡ due.No)
    → Each (λ (n : ℕ). (writer_of cpu n).due ≡ due.No) (numbers_from task k ws)
none_due cpu task k [] quiet = tt
none_due cpu task k (w ∷ ws) quiet =
    let rest = none_due cpu task (k + 1) ws (λ i less own. subst (λ n. (writer_of cpu n).due ≡ due.No) (let e : k + suc i ≡ k + 1 + i = omega arith in e) (quiet (suc i) (omega arith) own)) in
    elim (cases_eq w.task task) [
      | inl own ↦ subst (Each (λ (n : ℕ). (writer_of cpu n).due ≡ due.No)) (sym (cond-true (eqb w.task task) _ _ (eq-eqb w.task task own)))
          (subst (λ n. (writer_of cpu n).due ≡ due.No) (let e : k + 0 ≡ k = omega arith in e) (quiet 0 (omega arith) own), rest)
      | inr other ↦ subst (Each (λ (n : ℕ). (writer_of cpu n).due ≡ due.No)) (sym (cond-false (eqb w.task task) _ _ (ne_eqb w.task task other))) rest
    ]

module _ (trace : Trace) (task : ℕ) (s : Tasks) (there : task < length trace.tasks) (c : AreTasksOf trace s) (quiet : is_due_at (cpu_of s) (task_at s task).writer ≡ false) where
  abbrev pub t : TaskPlace
  t = task_at s task

  inside : task < length s.tasks.items
  inside = let l = c.counted.tasks in omega arith

  state_is : task_of (side_of s) task ≡ state_of t
  state_is = get_or-map state_of s.tasks.items task no_task _ inside

  was_quiet : (m : ℕ) → m < length (all_writers trace) → (get_or (all_writers trace) m no_name).task ≡ task → (writer_of (cpu_of s) m).due ≡ due.No
  was_quiet m below own = let long = c.counted.as_long in elim (cases_eq m t.writer) [
    | inr differs ↦ (c.counted.each task there).last.others m (omega arith) own differs
    | inl same ↦ not_due _ (subst (λ k. is_due (writer_of (cpu_of s) k).due ≡ false) (sym same)
        (sym (ap (λ b. b && is_due (writer_of (cpu_of s) t.writer).due) (lt-ltb t.writer (length s.writers.items) (omega arith))) ∙ quiet))
  ]

  pub may_end : t.ended ≡ false → t.rests_last ≡ true → t.todo ≡ 0 → MayEnd trace (side_of s) task
  may_end going last none = record {
    rests = sym (c.counted.each task there).along.last_is ∙ last;
    wrote_all = ap (λ (x : TaskState). x.todo) state_is ∙ none;
    quiet = none_due (cpu_of s) task 0 (all_writers trace) (λ i less own. subst (λ n. (writer_of (cpu_of s) n).due ≡ due.No) (let e : i ≡ 0 + i = omega arith in e) (was_quiet i less own));
    not_ended = ap (λ (x : TaskState). x.has_ended) state_is ∙ going;
  }

  -- ---- it goes on

  module _ (a until : ℕ) (along : IsAlong trace task (record t { at = a })) where
    rest_is : (a < length trace.actions) → IsTaskOf trace (cpu_of s) task (record t { at = a; rest = until })
    rest_is less = let last = (c.counted.each task there).last in record {
      along = record { still = along.still; todo = along.todo; few = along.few; place = along.place; under_way = along.under_way; rests = along.rests; last_is = along.last_is; since = along.since };
      last = record { number = last.number; its_own = last.its_own; others = last.others };
      past = λ going behind. absurd (omega arith);
    }

    pub rest_open : (m : Tasks) → a < length trace.actions → KeepsFixed s m → cpu_of m ≡ cpu_of s → m.tasks.items ≡ set s.tasks.items task (record t { at = a; rest = until }) → AreTasksOf trace m
    rest_open m less fixed cpu tasks =
        let n : TaskPlace = record t { at = a; rest = until } in
        let put = todo_put trace task s there c m n tasks in
        record {
          counted = put_counted trace task s there c m n fixed tasks (ap (λ (x : Cpu). length x.writers) cpu)
              (subst (λ (x : Cpu). IsTaskOf trace x task n) (sym cpu) (rest_is less))
              (λ other below differs. subst (λ (x : Cpu). IsTaskOf trace x other (task_at s other)) (sym cpu) (c.counted.each other below))
              (subst (λ (x : Cpu). AreFew x m.tasks.items) (sym cpu) (record {
                pages = let few = c.counted.few.pages in omega arith;
                since = let few = c.counted.few.since in omega arith;
                allowances = c.counted.few.allowances;
              }))
              (subst (AllHavePagesLeft trace.cap) (sym cpu) c.counted.left);
          go_on = λ other below. subst (λ (x : Cpu). GoesOn trace x (task_at m other)) (sym cpu) (elim (cases_eq other task) [
            | inl same ↦ subst (λ k. GoesOn trace (cpu_of s) (task_at m k)) (sym same) (subst (GoesOn trace (cpu_of s)) (sym (here trace task s there c m n tasks)) (λ own going. inr less))
            | inr differs ↦ subst (GoesOn trace (cpu_of s)) (sym (apart trace task s there c m n tasks other differs)) (c.go_on other below)
          ]);
        }

    pub open_side : (m : Tasks) → cpu_of m ≡ cpu_of s → m.tasks.items ≡ set s.tasks.items task (record t { at = a; rest = until }) → side_of m ≡ side_of s
    open_side m cpu tasks =
        ap (λ (x : Cpu). record { cpu = x; tasks = map state_of m.tasks.items }) cpu
        ∙ ap (λ (states : List TaskState). record { cpu = cpu_of s; tasks = states }) (ap (map state_of) tasks ∙ map-set state_of s.tasks.items task (record t { at = a; rest = until })
        ∙ sym (map-set state_of s.tasks.items task t) ∙ ap (map state_of) (set-get_or s.tasks.items task no_task))

    -- ---- it ends: first its writers, then it

    ended_is : (e : Tasks) (d : AreTasksOf trace e) → e.tasks.items ≡ set s.tasks.items task (record t { ended = true }) → IsTaskOf trace (cpu_of e) task (record t { at = a; rest = until; ended = true })
    ended_is e d tasks = let last = subst (IsLast trace (cpu_of e) task) (here trace task s there c e (record t { ended = true }) tasks) (d.counted.each task there).last in record {
      along = record { still = along.still; todo = along.todo; few = along.few; place = along.place; under_way = along.under_way; rests = along.rests; last_is = along.last_is; since = along.since };
      last = record { number = last.number; its_own = last.its_own; others = last.others };
      past = λ going. absurd (true≢false going);
    }

    pub rest_over : (e m : Tasks) (d : AreTasksOf trace e) → e.tasks.items ≡ set s.tasks.items task (record t { ended = true }) → KeepsFixed e m → cpu_of m ≡ cpu_of e
        → m.tasks.items ≡ set e.tasks.items task (record t { at = a; rest = until; ended = true }) → AreTasksOf trace m
    rest_over e m d ended fixed cpu tasks =
        let n : TaskPlace = record t { at = a; rest = until; ended = true } in
        let put = todo_put trace task e there d m n tasks in
        let same = ap (λ (x : TaskPlace). x.todo) (here trace task s there c e (record t { ended = true }) ended) in
        record {
          counted = put_counted trace task e there d m n fixed tasks (ap (λ (x : Cpu). length x.writers) cpu)
              (subst (λ (x : Cpu). IsTaskOf trace x task n) (sym cpu) (ended_is e d ended))
              (λ other below differs. subst (λ (x : Cpu). IsTaskOf trace x other (task_at e other)) (sym cpu) (d.counted.each other below))
              (subst (λ (x : Cpu). AreFew x m.tasks.items) (sym cpu) (record {
                pages = let few = d.counted.few.pages in omega arith;
                since = let few = d.counted.few.since in omega arith;
                allowances = d.counted.few.allowances;
              }))
              (subst (AllHavePagesLeft trace.cap) (sym cpu) d.counted.left);
          go_on = λ other below. subst (λ (x : Cpu). GoesOn trace x (task_at m other)) (sym cpu) (elim (cases_eq other task) [
            | inl one ↦ subst (λ k. GoesOn trace (cpu_of e) (task_at m k)) (sym one) (subst (GoesOn trace (cpu_of e)) (sym (here trace task e there d m n tasks)) (λ own going. absurd (true≢false going)))
            | inr differs ↦ subst (GoesOn trace (cpu_of e)) (sym (apart trace task e there d m n tasks other differs)) (d.go_on other below)
          ]);
        }

    pub over_side : (e m : Tasks) (opened : ℕ) → s.ratelimit_pages ≡ ratelimit_pages trace opened → cpu_of e ≡ cpu_after s.ratelimit_pages s.cap (cpu_of s) (map Ended (numbers_from task 0 s.names.items))
        → e.tasks.items ≡ set s.tasks.items task (record t { ended = true }) → cpu_of m ≡ cpu_of e → m.tasks.items ≡ set e.tasks.items task (record t { at = a; rest = until; ended = true })
        → side_of m ≡ end_task trace opened task (side_of s)
    over_side e m opened rate cpu ended same tasks =
        let n : TaskPlace = record t { at = a; rest = until; ended = true } in
        let ends = same ∙ cpu ∙ ap (λ r. cpu_after r s.cap (cpu_of s) (map Ended (numbers_from task 0 s.names.items))) rate
        ∙ ap (λ k. cpu_after (ratelimit_pages trace opened) k (cpu_of s) (map Ended (numbers_from task 0 s.names.items))) c.counted.cap
        ∙ ap (λ ns. cpu_after (ratelimit_pages trace opened) trace.cap (cpu_of s) (map Ended (numbers_from task 0 ns))) c.counted.names in
        let all = tasks ∙ ap (λ (ts : List TaskPlace). set ts task n) ended ∙ set-set s.tasks.items task (record t { ended = true }) n in
        let states = ap (map state_of) all ∙ map-set state_of s.tasks.items task n
        ∙ ap (λ k. set (map state_of s.tasks.items) task (record { todo = k; has_ended = true })) (sym (ap (λ (x : TaskState). x.todo) state_is)) in
        ap (λ (x : Cpu). record { cpu = x; tasks = map state_of m.tasks.items }) ends
        ∙ ap (λ (states : List TaskState). record { cpu = cpu_after (ratelimit_pages trace opened) trace.cap (cpu_of s) (map Ended (numbers_from task 0 (all_writers trace))); tasks = states }) states

-- ---- it rests before its next page

pub pause_side : (s m : Tasks) (task until : ℕ) → task < length s.tasks.items → cpu_of m ≡ cpu_of s → m.tasks.items ≡ set s.tasks.items task (record (task_at s task) { since = 0; rest = until })
    → side_of m ≡ side_of s
pause_side s m task until there cpu tasks =
    ap (λ (x : Cpu). record { cpu = x; tasks = map state_of m.tasks.items }) cpu
    ∙ ap (λ (states : List TaskState). record { cpu = cpu_of s; tasks = states }) (ap (map state_of) tasks ∙ map-set state_of s.tasks.items task (record (task_at s task) { since = 0; rest = until })
    ∙ sym (map-set state_of s.tasks.items task (task_at s task)) ∙ ap (map state_of) (set-get_or s.tasks.items task no_task))

pub pause_keeps : (trace : Trace) (s m : Tasks) (task until : ℕ) → task < length s.tasks.items → KeepsFixed s m → cpu_of m ≡ cpu_of s
    → m.tasks.items ≡ set s.tasks.items task (record (task_at s task) { since = 0; rest = until }) → AreTasksOf trace s → AreTasksOf trace m
pause_keeps trace s m task until inside fixed cpu tasks c =
    let there : task < length trace.tasks = let long = c.counted.tasks in omega arith in
    let t : TaskPlace = task_at s task in
    let n : TaskPlace = record t { since = 0; rest = until } in
    let put = todo_put trace task s there c m n tasks in
    let was = c.counted.each task there in
    let along = was.along in
    let last = was.last in
    record {
      counted = put_counted trace task s there c m n fixed tasks (ap (λ (x : Cpu). length x.writers) cpu)
          (subst (λ (x : Cpu). IsTaskOf trace x task n) (sym cpu) (record {
            along = record { still = along.still; todo = along.todo; few = along.few; place = along.place; under_way = along.under_way; rests = along.rests; last_is = along.last_is; since = omega arith };
            last = record { number = last.number; its_own = last.its_own; others = last.others };
            past = was.past;
          }))
          (λ other below differs. subst (λ (x : Cpu). IsTaskOf trace x other (task_at s other)) (sym cpu) (c.counted.each other below))
          (subst (λ (x : Cpu). AreFew x m.tasks.items) (sym cpu) (record {
            pages = let few = c.counted.few.pages in omega arith;
            since = let few = c.counted.few.since in omega arith;
            allowances = c.counted.few.allowances;
          }))
          (subst (AllHavePagesLeft trace.cap) (sym cpu) c.counted.left);
      go_on = λ other below. subst (λ (x : Cpu). GoesOn trace x (task_at m other)) (sym cpu) (elim (cases_eq other task) [
        | inl same ↦ subst (λ k. GoesOn trace (cpu_of s) (task_at m k)) (sym same) (subst (GoesOn trace (cpu_of s)) (sym (here trace task s there c m n tasks)) (c.go_on task there))
        | inr differs ↦ subst (GoesOn trace (cpu_of s)) (sym (apart trace task s there c m n tasks other differs)) (c.go_on other below)
      ]);
    }

pub rest_passed : (x t p : TaskPlace) → x ≡ t → p ≡ record x { at = p.at } → p ≡ record t { at = p.at }
rest_passed x t p same is = is ∙ ap (λ (y : TaskPlace). record y { at = p.at }) same
