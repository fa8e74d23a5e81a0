-- The pass over a trace's actions, and what holds of the tasks after it.
use Rattle.std.proofs.Common.{◌≡◌, ◌≢◌, ℕ, suc, zero, ◌+◌, ◌*◌, ◌^◌, ◌<◌, ◌≤◌, ◌⊎◌, inl, inr, Bool, true, false, ◌&&◌, not, eqb, nat_lt, Option, Some, List, [], ◌∷◌, ◌++◌, length, map, drop, get_or, set, replicate, slice_get, flat_map, sum_by, refl, sym, ap, ◌∙◌, subst, arith, eq-eqb, ne_eqb, true≢false}
use Rattle.std.proofs.lemmas.Bool.{cond-true, cond-false, cases_eq, cases_Bool, eqb-true, ltb-true, ltb-false}
use Rattle.std.proofs.lemmas.List.{drop_all, length-append, get_or-set_same, get_or-set_other, get_or-replicate, length-replicate, get_or-map, length-map, get_or_default, ext_get_or, get_or_push, get_or_append_left}
use Rattle.std.proofs.lemmas.List.Sums.{sum_by-le, get_or-le-sum_by}
use Rattle.std.proofs.lemmas.List.Folds.{sum_by-replicate}
use Rattle.std.proofs.lemmas.Option.{slice_get_within, get_or_from_slice_get, slice_get-get_or}
use Rattle.wbt_writer.proofs.Common.{pages_of_action, pages_of_task, rests_last, TaskState, all_writers, first_side, is_own_task, MOST_PAGES, AllHavePagesLeft, counted, dirtied_by, new_cpu, new_writer, writer_of, Writer, IsLawful, inode_at, Action, Write, Rest, Inode, TaskLine, Trace, first, IsAlong, Skips, AreTasksOf, GoesOn, IsTaskOf, all_todo, cpu_of, no_task, side_of, state_of, task_at}
use Rattle.wbt_kit.proofs.Common.{cpu_of_task, is_on, few_writers}
use Rattle.wbt_journal.specs.Machine.{rests_after}
use Rattle.wbt_journal.specs.Side.{first_state, first_states, is_empty}
use Rattle.wbt_num.specs.declared.most.TheConstants.{MOST_ACTIONS}
use Rattle.wbt_task.specs.Counts.{HasPagesLeft}
use Rattle.wbt_task.specs.declared.allowance.CpuLocal.{CpuLocal}
use Rattle.wbt_task.specs.declared.allowance.Due.TheVariants as due
use Rattle.wbt_trace.specs.declared.writers.Writer.{Writer as Name}
use Rattle.wbt_writer.specs.Ahead.{by_of, pages_from}
use Rattle.wbt_writer.specs.Opening.{HasSeen, StandsFirst, begun, first_action_from, new_task, seen_more}
use Rattle.wbt_writer.specs.declared.task.TaskPlace.{TaskPlace}
use Rattle.wbt_writer.specs.declared.tasks.Tasks.{Tasks}
use Rattle.wbt_writer.proofs.Along.{begins, drop_found, is_action, length_numbers, others_none, others_rest_none, rests_from, skips_none, skips_one}

-- ---- one action more

module _ (trace : Trace) (own : Bool) (task : ℕ) where
  abbrev n : ℕ
  n = length trace.actions

  pub seen_first : HasSeen trace own task 0 (new_task own n)
  seen_first = record {
    plain = refl;
    todo = omega arith;
    few = omega arith;
    rests = refl;
    stands = inl (refl, skips_none task 0 trace.actions);
  }

  pages_here : (i : ℕ) (action : Action) → slice_get trace.actions i ≡ Some action → pages_from trace task i ≡ pages_of_action trace.inodes task action ++ pages_from trace task (i + 1)
  pages_here i action is = ap (flat_map (pages_of_action trace.inodes task)) (drop_found trace.actions i action is)

  long_here : (i : ℕ) (action : Action) → slice_get trace.actions i ≡ Some action
      → length (pages_from trace task i) ≡ length (pages_of_action trace.inodes task action) + length (pages_from trace task (i + 1))
  long_here i action is = ap length (pages_here i action is) ∙ length-append (pages_of_action trace.inodes task action) (pages_from trace task (i + 1))

  -- another task's action
  pub seen_other : (i : ℕ) (action : Action) (x : TaskPlace) → slice_get trace.actions i ≡ Some action → by_of action ≢ task → HasSeen trace own task i x → HasSeen trace own task (i + 1) x
  seen_other i action x is other seen = record {
    plain = seen.plain;
    todo = let long = long_here i action is in let none = ap length (others_none trace.inodes task action other) in let before = seen.todo in omega arith;
    few = let few = seen.few in omega arith;
    rests = sym (ap (rests_after task x.rests_last) (drop_found trace.actions i action is) ∙ others_rest_none task x.rests_last action (drop (i + 1) trace.actions) other) ∙ seen.rests;
    stands = still seen.stands;
  }
    where
      still : StandsFirst trace task i x.at → StandsFirst trace task (i + 1) x.at
      still (inl none) = inl (none.0, skips_one task 0 i trace.actions action none.1 is other)
      still (inr some) = inr some

  -- the first action of its own is where it stands
  stands_own : (i at : ℕ) (action : Action) → slice_get trace.actions i ≡ Some action → by_of action ≡ task → StandsFirst trace task i at → StandsFirst trace task (i + 1) (first_action_from at i n)
  stands_own i at action is mine (inl none) = subst (StandsFirst trace task (i + 1)) (sym (cond-true (eqb at n) i at (eq-eqb at n none.0)))
      (inr (slice_get_within trace.actions i action is, (none.1, λ other there. subst (λ a. by_of a ≡ task) (one other there) mine)))
    where
      one : (other : Action) → slice_get trace.actions i ≡ Some other → action ≡ other
      one other there = sym (get_or_from_slice_get trace.actions i action (Rest 0 0) is) ∙ get_or_from_slice_get trace.actions i other (Rest 0 0) there
  stands_own i at action is mine (inr some) = subst (StandsFirst trace task (i + 1)) (sym (cond-false (eqb at n) i at (ne_eqb at n (λ e. let less = some.0 in absurd (omega arith))))) (inr some)

  few_pages : IsLawful trace → (i by inode from pages : ℕ) → slice_get trace.actions i ≡ Some (Write by inode from pages) → pages ≤ MOST_PAGES
  few_pages lawful i by inode from pages is =
      let action = is_action trace lawful i (Write by inode from pages) is in
      let there = action.1 in let fits = action.3 in
      let at_most = get_or-le-sum_by (λ (x : Inode). x.pages) trace.inodes inode (record { context = 0; first = 0; pages = 0 }) there in
      let all = lawful.within.inodes.total in omega arith

  pub seen_own : IsLawful trace → (i : ℕ) (action : Action) (x : TaskPlace) → slice_get trace.actions i ≡ Some action → by_of action ≡ task → HasSeen trace own task i x
      → HasSeen trace own task (i + 1) (seen_more x i n action)
  seen_own lawful i (Write by inode from pages) x is mine seen = record {
    plain = ap (λ (y : TaskPlace). record y { at = first_action_from x.at i n; todo = x.todo + pages; rests_last = false }) seen.plain;
    todo = let long = long_here i (Write by inode from pages) is in
        let some : length (pages_of_action trace.inodes task (Write by inode from pages)) ≡ pages =
        ap length (cond-true (eqb by task) _ _ (eq-eqb by task mine)) ∙ length_numbers ((inode_at inode trace.inodes).first + from) pages in
        let before = seen.todo in omega arith;
    few = let few = seen.few in let most = few_pages lawful i by inode from pages is in omega arith;
    rests = sym (ap (rests_after task x.rests_last) (drop_found trace.actions i (Write by inode from pages) is)
        ∙ ap (λ b. rests_after task b (drop (i + 1) trace.actions)) (cond-true (eqb by task) false x.rests_last (eq-eqb by task mine))) ∙ seen.rests;
    stands = stands_own i x.at (Write by inode from pages) is mine seen.stands;
  }
  seen_own lawful i (Rest by ticks) x is mine seen = record {
    plain = ap (λ (y : TaskPlace). record y { at = first_action_from x.at i n; rests_last = true }) seen.plain;
    todo = let long = long_here i (Rest by ticks) is in let before = seen.todo in omega arith;
    few = let few = seen.few in omega arith;
    rests = sym (ap (rests_after task x.rests_last) (drop_found trace.actions i (Rest by ticks) is)
        ∙ ap (λ b. rests_after task b (drop (i + 1) trace.actions)) (cond-true (eqb by task) true x.rests_last (eq-eqb by task mine))) ∙ seen.rests;
    stands = stands_own i x.at (Rest by ticks) is mine seen.stands;
  }

  -- ---- all actions were seen

  module _ (lawful : IsLawful trace) (x : TaskPlace) (seen : HasSeen trace own task n x) where
    abbrev whole : TaskPlace
    whole = record (new_task own n) { at = x.at; todo = x.todo; rests_last = x.rests_last; ended = not x.rests_last && (eqb x.todo 0) }

    whole_is : begun x ≡ whole
    whole_is = ap begun seen.plain

    all_todo_is : x.todo ≡ length (pages_of_task trace task)
    all_todo_is = let none = ap length (ap (flat_map (pages_of_action trace.inodes task)) (drop_all n trace.actions (omega arith))) in let all = seen.todo in omega arith

    last_is : x.rests_last ≡ rests_last trace task
    last_is = sym (ap (rests_after task x.rests_last) (drop_all n trace.actions (omega arith))) ∙ seen.rests

    own_at : (action : Action) → slice_get trace.actions x.at ≡ Some action → by_of action ≡ task
    own_at action is = elim seen.stands [
      | inl none ↦ let less = slice_get_within trace.actions x.at action is in let past = none.0 in absurd (omega arith)
      | inr some ↦ some.1.1 action is
    ]

    in_range : x.at ≤ n
    in_range = elim seen.stands [ inl none ↦ (let e = none.0 in omega arith) | inr some ↦ (let less = some.0 in omega arith) ]

    skips : Skips task 0 x.at trace.actions
    skips = elim seen.stands [ inl none ↦ subst (λ k. Skips task 0 k trace.actions) (sym none.0) none.1 | inr some ↦ some.1.0 ]

    along_whole : IsAlong trace task whole
    along_whole = record {
      still = sym (skips.pages trace.inodes);
      todo = all_todo_is ∙ ap length (skips.pages trace.inodes);
      few = let few = seen.few in let many = lawful.within.few_actions in omega arith;
      place = in_range;
      under_way = λ action is. begins trace lawful task x.at action is (own_at action is);
      rests = rests_from trace task 0 x.at false x.rests_last skips own_at (sym last_is);
      last_is = last_is;
      since = omega arith;
    }

    past_whole : whole.ended ≡ false → n ≤ x.at → x.rests_last ≡ false
    past_whole going past = last_is ∙ skips.rests false ∙ ap (rests_after task false) (drop_all x.at trace.actions past)

    none_past : n ≤ x.at → x.todo ≡ 0
    none_past past = all_todo_is ∙ ap length (skips.pages trace.inodes ∙ ap (flat_map (pages_of_action trace.inodes task)) (drop_all x.at trace.actions past))

-- ---- all tasks at once

new_left : (cap : ℕ) → 1 ≤ cap → HasPagesLeft cap (new_writer cap)
unfolding new_writer first
new_left cap some = (omega arith, λ quiet. omega arith)

new_numbers : (cap : ℕ) → ((new_writer cap).due ≡ due.No) × (((new_writer cap).task.nr_dirtied ≡ 0) × ((new_writer cap).task.nr_dirtied_pause ≤ 2 ^ 47))
unfolding new_writer first
new_numbers cap = (refl, (refl, omega arith))

no_length : {A : Type 0} (xs : List A) → eqb (length xs) 0 ≡ true → xs ≡ []
no_length [] is = refl
no_length (x ∷ xs) is = absurd (let e = eqb-true (length (x ∷ xs)) 0 is in omega arith)

empty_is : (pages : List ℕ) → eqb (length pages) 0 ≡ is_empty pages
empty_is [] = refl
empty_is (page ∷ pages) = ne_eqb (length (page ∷ pages)) 0 (λ e. let same = e in absurd (omega arith))

first_at_place : (trace : Trace) (from task : ℕ) (lines : List TaskLine) (d : TaskState) → task < length lines → get_or (first_states trace from lines) task d ≡ first_state trace (from + task)
first_at_place trace from task [] d less = absurd (omega arith)
first_at_place trace from zero (line ∷ lines) d less = ap (first_state trace) (let e : from ≡ from + 0 = omega arith in e)
first_at_place trace from (suc task) (line ∷ lines) d less = first_at_place trace (suc from) task lines d (omega arith) ∙ ap (first_state trace) (let e : suc from + task ≡ from + suc task = omega arith in e)

first_long : (trace : Trace) (from : ℕ) (lines : List TaskLine) → length (first_states trace from lines) ≡ length lines
first_long trace from [] = refl
first_long trace from (line ∷ lines) = ap suc (first_long trace (suc from) lines)

module _ (trace : Trace) (lawful : IsLawful trace) (own : ℕ → Bool) (s : Tasks) (names : s.names.items ≡ all_writers trace) (cap : s.cap ≡ trace.cap)
    (writers : s.writers.items ≡ replicate (length s.names.items) (new_writer s.cap)) (local : s.local ≡ record { since_check = 0; leaks = 0 }) (tasks : length s.tasks.items ≡ length trace.tasks)
    (each : (t : ℕ) → t < length trace.tasks → (x : TaskPlace) × HasSeen trace (own t) t (length trace.actions) x × (task_at s t ≡ begun x)) where
  many : length s.writers.items ≡ length (all_writers trace)
  many = ap (λ (ws : List Writer). length ws) writers ∙ length-replicate (length s.names.items) (new_writer s.cap) ∙ ap (λ (ns : List Name). length ns) names

  writer_is : (w : ℕ) → w < length s.writers.items → writer_of (cpu_of s) w ≡ new_writer s.cap
  writer_is w less = ap (λ (ws : List Writer). get_or ws w (new_writer 0)) writers
      ∙ get_or-replicate (length s.names.items) w (new_writer s.cap) (new_writer 0) (let a = many in let b = ap (λ (ns : List Name). length ns) names in omega arith)

  task_is : (t : ℕ) → t < length trace.tasks → IsTaskOf trace (cpu_of s) t (task_at s t)
  task_is t less = let e = each t less in subst (IsTaskOf trace (cpu_of s) t) (sym (e.2 ∙ whole_is trace (own t) t lawful e.0 e.1)) (record {
    along = along_whole trace (own t) t lawful e.0 e.1;
    last = record {
      number = λ below. let a = many in let b = few_writers trace lawful in absurd (omega arith);
      its_own = λ below. let a = many in let b = few_writers trace lawful in absurd (omega arith);
      others = λ w below named apart. ap (λ (x : Writer). x.due) (writer_is w below) ∙ (new_numbers s.cap).0;
    };
    past = past_whole trace (own t) t lawful e.0 e.1;
  })

  task_goes : (t : ℕ) → t < length trace.tasks → GoesOn trace (cpu_of s) (task_at s t)
  task_goes t less = let e = each t less in subst (GoesOn trace (cpu_of s)) (sym (e.2 ∙ whole_is trace (own t) t lawful e.0 e.1))
      (λ its going. elim (cases_eq_below e.0.at) [
        | inl below ↦ inr below
        | inr past ↦ absurd (true≢false (sym (ap (λ b. not b && eqb e.0.todo 0) (past_whole trace (own t) t lawful e.0 e.1 going past)
            ∙ ap (λ k. eqb k 0) (none_past trace (own t) t lawful e.0 e.1 past)) ∙ going))
      ])
    where
      cases_eq_below : (at : ℕ) → (at < length trace.actions) ⊎ (length trace.actions ≤ at)
      cases_eq_below at = elim (cases_Bool (nat_lt at (length trace.actions))) [ inl less ↦ inl (ltb-true _ _ less) | inr more ↦ inr (ltb-false _ _ more) ]

  sum_few : all_todo s.tasks.items ≤ 2 ^ 46
  sum_few = let sum = sum_by-le (λ (x : TaskPlace). x.todo) (2 ^ 37) s.tasks.items (λ t d less. at_most t d less) in let few = lawful.within.few_tasks in omega arith
    where
      at_most : (t : ℕ) (d : TaskPlace) → t < length s.tasks.items → (get_or s.tasks.items t d).todo ≤ 2 ^ 37
      at_most t d less =
          let inside : t < length trace.tasks = omega arith in
          let e = each t inside in
          let same : (get_or s.tasks.items t d).todo ≡ e.0.todo = ap (λ (x : TaskPlace). x.todo) (get_or_default s.tasks.items t d no_task less ∙ e.2) in
          let few = e.1.few in let many = lawful.within.few_actions in omega arith

  none_counted : counted (cpu_of s) ≡ 0
  none_counted =
      let sum = ap (λ (ws : List Writer). sum_by dirtied_by ws) writers ∙ sum_by-replicate dirtied_by (length s.names.items) (new_writer s.cap)
      ∙ ap (λ k. length s.names.items * k) (new_numbers s.cap).1.0 in
      let leaks = ap (λ (l : CpuLocal). l.leaks) local in omega arith

  pub made : AreTasksOf trace s
  made = record {
    counted = record {
      names = names;
      as_long = many;
      tasks = tasks;
      cap = cap;
      each = task_is;
      few = record {
        pages = let sum = sum_few in let none = none_counted in omega arith;
        since = let sum = sum_few in let none = ap (λ (l : CpuLocal). l.since_check) local in omega arith;
        allowances = λ w less. subst (λ (x : Writer). x.task.nr_dirtied_pause ≤ 2 ^ 47) (sym (writer_is w less)) (new_numbers s.cap).1.1;
      };
      left = subst (λ k. AllHavePagesLeft k (cpu_of s)) cap (λ w less. subst (HasPagesLeft s.cap) (sym (writer_is w less)) (new_left s.cap (subst (λ k. 1 ≤ k) (sym cap) lawful.within.cap.0)));
    };
    go_on = task_goes;
  }

  -- ---- the side of a journal

  states_are : map state_of s.tasks.items ≡ first_states trace 0 trace.tasks
  states_are = ext_get_or (record { todo = 0; has_ended = true }) (map state_of s.tasks.items) (first_states trace 0 trace.tasks)
      (length-map s.tasks.items state_of ∙ tasks ∙ sym (first_long trace 0 trace.tasks))
      (λ t less. let inside : t < length trace.tasks = (let l = length-map s.tasks.items state_of in omega arith) in let e = each t inside in
      get_or-map state_of s.tasks.items t no_task _ (omega arith)
      ∙ ap state_of (e.2 ∙ whole_is trace (own t) t lawful e.0 e.1)
      ∙ state_first t e.0 e.1
      ∙ sym (first_at_place trace 0 t trace.tasks _ inside ∙ ap (first_state trace) (let z : 0 + t ≡ t = omega arith in z)))
    where
      state_first : (t : ℕ) (x : TaskPlace) → HasSeen trace (own t) t (length trace.actions) x
          → state_of (record (new_task (own t) (length trace.actions)) { at = x.at; todo = x.todo; rests_last = x.rests_last; ended = not x.rests_last && (eqb x.todo 0) }) ≡ first_state trace t
      state_first t x seen =
          ap (λ k. record { todo = k; has_ended = not x.rests_last && (eqb k 0) }) (all_todo_is trace (own t) t lawful x seen)
          ∙ ap (λ b. record { todo = length (pages_of_task trace t); has_ended = not b && (eqb (length (pages_of_task trace t)) 0) }) (last_is trace (own t) t lawful x seen)
          ∙ ap (λ b. record { todo = length (pages_of_task trace t); has_ended = not (rests_last trace t) && b }) (empty_is (pages_of_task trace t))

  pub side_first : side_of s ≡ first_side trace
  unfolding new_cpu
  side_first =
      ap (λ (states : List TaskState). record { cpu = cpu_of s; tasks = states }) states_are
      ∙ ap (λ (l : CpuLocal). record { cpu = record { local = l; writers = s.writers.items }; tasks = first_states trace 0 trace.tasks }) local
      ∙ ap (λ (ws : List Writer). record { cpu = record { local = record { since_check = 0; leaks = 0 }; writers = ws }; tasks = first_states trace 0 trace.tasks })
      (writers ∙ ap (λ (ns : List Name). replicate (length ns) (new_writer s.cap)) names ∙ ap (λ k. replicate (length (all_writers trace)) (new_writer k)) cap)

-- ---- the loops

pub own_is : (trace : Trace) (lines : List TaskLine) (cpu task : ℕ) (d : TaskLine) → lines ≡ trace.tasks → task < length lines → is_own_task trace cpu task ≡ eqb (get_or lines task d).cpu cpu
own_is trace lines cpu task d same less = ap (λ (w : Option TaskLine). is_on cpu (cpu_of_task w)) (ap (λ (ls : List TaskLine). slice_get ls task) (sym same) ∙ slice_get-get_or lines task d less)

pub push_each : {A : Type 0} (P : ℕ → A → Type 0) (xs : List A) (x d : A) (i : ℕ) → length xs ≡ i → ((t : ℕ) → t < i → P t (get_or xs t d)) → P i x → (t : ℕ) → t < i + 1 → P t (get_or (xs ++ x ∷ []) t d)
push_each P xs x d i long each new t less = elim (cases_eq t i) [
  | inl same ↦ subst (λ k. P k (get_or (xs ++ x ∷ []) k d)) (sym same) (subst (P i) (sym (get_or_push xs x d i long)) new)
  | inr differs ↦ subst (P t) (sym (get_or_append_left xs (x ∷ []) d t (omega arith))) (each t (omega arith))
]

pub seen_all : (trace : Trace) (lawful : IsLawful trace) (cpu i : ℕ) (action : Action) (xs : List TaskPlace) (by : ℕ) (x y : TaskPlace) → length xs ≡ length trace.tasks → slice_get trace.actions i ≡ Some action
    → by ≡ by_of action → x ≡ get_or xs by no_task → by < length xs → y ≡ seen_more x i (length trace.actions) action
    → ((t : ℕ) → t < length trace.tasks → HasSeen trace (is_own_task trace cpu t) t i (get_or xs t no_task))
    → (t : ℕ) → t < length trace.tasks → HasSeen trace (is_own_task trace cpu t) t (i + 1) (get_or (set xs by y) t no_task)
seen_all trace lawful cpu i action xs by x y long is by_is x_is there y_is seen t less = elim (cases_eq t by) [
  | inl same ↦ subst (λ k. HasSeen trace (is_own_task trace cpu k) k (i + 1) (get_or (set xs by y) k no_task)) (sym same)
      (subst (HasSeen trace (is_own_task trace cpu by) by (i + 1)) (sym (get_or-set_same xs by y no_task there ∙ y_is ∙ ap (λ z. seen_more z i (length trace.actions) action) x_is))
      (seen_own trace (is_own_task trace cpu by) by lawful i action (get_or xs by no_task) is (sym by_is) (seen by (omega arith))))
  | inr differs ↦ subst (HasSeen trace (is_own_task trace cpu t) t (i + 1)) (sym (get_or-set_other xs by t y no_task differs))
      (seen_other trace (is_own_task trace cpu t) t i action (get_or xs t no_task) is (λ e. differs (sym e ∙ sym by_is)) (seen t less))
]

pub by_in_range : (trace : Trace) → IsLawful trace → (i : ℕ) (action : Action) → slice_get trace.actions i ≡ Some action → by_of action < length trace.tasks
by_in_range trace lawful i (Write by inode from pages) is = (is_action trace lawful i (Write by inode from pages) is).0
by_in_range trace lawful i (Rest by ticks) is = (is_action trace lawful i (Rest by ticks) is).0

pub todo_small : (trace : Trace) (own : Bool) (t i : ℕ) (x : TaskPlace) → i ≤ MOST_ACTIONS → HasSeen trace own t i x → x.todo < 2 ^ 60
todo_small trace own t i x few seen = let most = seen.few in omega arith

-- a turn's begin changes no task
pub begin_keeps : (trace : Trace) (s : Tasks) (place : ℕ) → AreTasksOf trace s → AreTasksOf trace (record s { next = place })
begin_keeps trace s place all = record {
  counted = record {
    names = all.counted.names;
    as_long = all.counted.as_long;
    tasks = all.counted.tasks;
    cap = all.counted.cap;
    each = all.counted.each;
    few = all.counted.few;
    left = all.counted.left;
  };
  go_on = all.go_on;
}
