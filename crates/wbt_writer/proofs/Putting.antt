-- One task changes, and one event is counted: what holds of all tasks after that.
use Rattle.std.proofs.Common.{◌≡◌, ◌≢◌, ℕ, ◌+◌, ◌-◌, ◌^◌, ◌<◌, ◌≤◌, inl, inr, Bool, true, false, ◌&&◌, nat_lt, Option, List, length, map, get_or, set, refl, sym, ap, ◌∙◌, subst, arith}
use Rattle.std.proofs.lemmas.Bool.{cases_eq, ltb-true, lt-ltb}
use Rattle.std.proofs.lemmas.List.{get_or-map, get_or-set_same, get_or-set_other, length-set, map-set, set-get_or}
use Rattle.std.proofs.lemmas.Bool.Decides.{nat_tests}
use Rattle.std.proofs.lemmas.List.Sums.{sum_by-set}
use Rattle.wbt_writer.proofs.Common.{is_due, ratelimit_pages, TaskState, all_writers, number_of, task_of, with_page, write_fresh, Decision, since_after, AllHavePagesLeft, counted, Cpu, cpu_step, writer_of, Checked, Writer, same_writers, others_stay, Pace, Trace, IsAlong, AreTasksOf, GoesOn, IsLast, IsTaskOf, KeepsFixed, OthersStay, all_todo, cpu_of, is_due_at, no_name, no_task, side_of, state_of, task_at}
use Rattle.wbt_journal.specs.Side.{check_by}
use Rattle.wbt_task.specs.Allowance.{page_after}
use Rattle.wbt_task.specs.Counts.{LeavesPages, Settles, is_write}
use Rattle.wbt_task.specs.History.{writer_in, wrote_page}
use Rattle.wbt_task.specs.declared.allowance.CpuLocal.{CpuLocal}
use Rattle.wbt_task.specs.declared.allowance.Due.TheVariants as due
use Rattle.wbt_task.specs.declared.history.Event.{Event}
use Rattle.wbt_task.specs.declared.history.Event.TheVariants.{Wrote}
use Rattle.wbt_task.proofs.Keeping.{event_keeps, written_is, checked_is}
use Rattle.wbt_trace.specs.declared.writers.Writer.{Writer as Name}
use Rattle.wbt_writer.specs.Counted.{AreCounted, AreFew, Passes}
use Rattle.wbt_writer.specs.Exact.{IsFirstFrom, MovesAlong, StandsBehind, goes_on, was_last}
use Rattle.wbt_writer.specs.declared.task.TaskPlace.{TaskPlace}
use Rattle.wbt_writer.specs.declared.tasks.Tasks.{Tasks}
use Rattle.wbt_writer.proofs.Counting.{left_after}
use Rattle.wbt_writer.proofs.Settling.{not_due, and_left}

due_same : (old new : Cpu) (n : ℕ) → length new.writers ≡ length old.writers → writer_of new n ≡ writer_of old n → is_due_at new n ≡ is_due_at old n
due_same old new n long same = ap (λ k. nat_lt n k && is_due (writer_of new n).due) long ∙ ap (λ (w : Writer). nat_lt n (length old.writers) && is_due w.due) same

module _ (trace : Trace) (task : ℕ) (s : Tasks) (there : task < length trace.tasks) (c : AreTasksOf trace s) where
  abbrev pub t : TaskPlace
  t = task_at s task

  inside : task < length s.tasks.items
  inside = let l = c.counted.tasks in omega arith

  pub here : (m : Tasks) (n : TaskPlace) → m.tasks.items ≡ set s.tasks.items task n → task_at m task ≡ n
  here m n tasks = ap (λ (ts : List TaskPlace). get_or ts task no_task) tasks ∙ get_or-set_same s.tasks.items task n no_task inside

  pub apart : (m : Tasks) (n : TaskPlace) → m.tasks.items ≡ set s.tasks.items task n → OthersStay task s m
  apart m n tasks = λ other differs. ap (λ (ts : List TaskPlace). get_or ts other no_task) tasks ∙ get_or-set_other s.tasks.items task other n no_task differs

  pub todo_put : (m : Tasks) (n : TaskPlace) → m.tasks.items ≡ set s.tasks.items task n → all_todo m.tasks.items + t.todo ≡ all_todo s.tasks.items + n.todo
  todo_put m n tasks = let same = ap all_todo tasks in let put = sum_by-set (λ (x : TaskPlace). x.todo) s.tasks.items task n no_task inside in omega arith

  pub put_counted : (m : Tasks) (n : TaskPlace) → KeepsFixed s m → m.tasks.items ≡ set s.tasks.items task n → length m.writers.items ≡ length s.writers.items
      → IsTaskOf trace (cpu_of m) task n → ((other : ℕ) → other < length trace.tasks → other ≢ task → IsTaskOf trace (cpu_of m) other (task_at s other))
      → AreFew (cpu_of m) m.tasks.items → AllHavePagesLeft trace.cap (cpu_of m) → AreCounted trace m
  put_counted m n fixed tasks long now others few left = record {
    names = fixed.names ∙ c.counted.names;
    as_long = long ∙ c.counted.as_long;
    tasks = ap (λ (ts : List TaskPlace). length ts) tasks ∙ length-set s.tasks.items task n ∙ c.counted.tasks;
    cap = fixed.cap ∙ c.counted.cap;
    each = λ other less. elim (cases_eq other task) [
      | inl same ↦ subst (λ k. IsTaskOf trace (cpu_of m) k (task_at m k)) (sym same) (subst (IsTaskOf trace (cpu_of m) task) (sym (here m n tasks)) now)
      | inr differs ↦ subst (IsTaskOf trace (cpu_of m) other) (sym (apart m n tasks other differs)) (others other less differs)
    ];
    few = few;
    left = left;
  }

  -- ---- a page was passed

  pub passed_is : (n : TaskPlace) → IsAlong trace task n → n ≡ record t { at = n.at; done = n.done; written = n.written; todo = n.todo; since = n.since }
      → (length trace.actions ≤ n.at → n.rests_last ≡ false) → IsTaskOf trace (cpu_of s) task n
  passed_is n along same past = record {
    along = along;
    last = let l = (c.counted.each task there).last in
        subst (IsLast trace (cpu_of s) task) (sym same) (record { number = l.number; its_own = l.its_own; others = l.others });
    past = λ going behind. past behind;
  }

  -- what was already dirty counts nowhere
  pub already : (m : Tasks) (n : TaskPlace) → KeepsFixed s m → cpu_of m ≡ cpu_of s → m.tasks.items ≡ set s.tasks.items task n → IsAlong trace task n
      → n ≡ record t { at = n.at; done = n.done; written = n.written; todo = n.todo; since = n.since } → (length trace.actions ≤ n.at → n.rests_last ≡ false) → n.todo + 1 ≡ t.todo → AreCounted trace m
  already m n fixed cpu tasks along same past one =
      let less = todo_put m n tasks in
      put_counted m n fixed tasks (ap (λ (x : Cpu). length x.writers) cpu)
      (subst (λ (x : Cpu). IsTaskOf trace x task n) (sym cpu) (passed_is n along same past))
      (λ other inside differs. subst (λ (x : Cpu). IsTaskOf trace x other (task_at s other)) (sym cpu) (c.counted.each other inside))
      (subst (λ (x : Cpu). AreFew x m.tasks.items) (sym cpu) (record {
        pages = let few = c.counted.few.pages in omega arith;
        since = let few = c.counted.few.since in omega arith;
        allowances = c.counted.few.allowances;
      }))
      (subst (AllHavePagesLeft trace.cap) (sym cpu) c.counted.left)

  pub others_go_on : (m : Tasks) (n : TaskPlace) → cpu_of m ≡ cpu_of s → m.tasks.items ≡ set s.tasks.items task n
      → (other : ℕ) → other < length trace.tasks → other ≢ task → GoesOn trace (cpu_of m) (task_at m other)
  others_go_on m n cpu tasks other less differs = subst (λ (x : Cpu). GoesOn trace x (task_at m other)) (sym cpu)
      (subst (GoesOn trace (cpu_of s)) (sym (apart m n tasks other differs)) (c.go_on other less))

  states_put : (m : Tasks) (n : TaskPlace) (cpu : Cpu) → cpu_of m ≡ cpu → m.tasks.items ≡ set s.tasks.items task n → n.ended ≡ t.ended → n.todo + 1 ≡ t.todo
      → side_of m ≡ with_page task (record { cpu = cpu; tasks = map state_of s.tasks.items })
  states_put m n cpu is tasks ended one =
      let before : task_of (side_of s) task ≡ state_of t = get_or-map state_of s.tasks.items task no_task _ inside in
      let todo : n.todo ≡ (task_of (side_of s) task).todo - 1 = let e = ap (λ (x : TaskState). x.todo) before in omega arith in
      let ends : n.ended ≡ (task_of (side_of s) task).has_ended = ended ∙ sym (ap (λ (x : TaskState). x.has_ended) before) in
      ap (λ (x : Cpu). record { cpu = x; tasks = map state_of m.tasks.items }) is
      ∙ ap (λ (states : List TaskState). record { cpu = cpu; tasks = states }) (ap (map state_of) tasks ∙ map-set state_of s.tasks.items task n)
      ∙ ap (λ k. record { cpu = cpu; tasks = set (map state_of s.tasks.items) task (record { todo = k; has_ended = n.ended }) }) todo
      ∙ ap (λ b. record { cpu = cpu; tasks = set (map state_of s.tasks.items) task (record { todo = (task_of (side_of s) task).todo - 1; has_ended = b }) }) ends

  pub already_side : (m : Tasks) (n : TaskPlace) → cpu_of m ≡ cpu_of s → m.tasks.items ≡ set s.tasks.items task n → n.ended ≡ t.ended → n.todo + 1 ≡ t.todo
      → side_of m ≡ with_page task (side_of s)
  already_side m n cpu tasks ended one = states_put m n (cpu_of s) cpu tasks ended one

  -- ---- an event of a writer of the task

  module _ (event : Event) (own : (get_or (all_writers trace) (writer_in event) no_name).task ≡ task) where
    abbrev pub counts : Cpu
    counts = cpu_step s.ratelimit_pages s.cap (cpu_of s) event

    long : length counts.writers ≡ length s.writers.items
    long = same_writers s.ratelimit_pages s.cap (cpu_of s) event

    stay : (n : ℕ) → n ≢ writer_in event → writer_of counts n ≡ writer_of (cpu_of s) n
    stay n differs = others_stay s.ratelimit_pages s.cap (cpu_of s) event n differs

    -- a writer of another task isn't this one
    other_writer : (n other : ℕ) → (get_or (all_writers trace) n no_name).task ≡ other → other ≢ task → n ≢ writer_in event
    other_writer n other named differs = λ e. differs (sym named ∙ ap (λ k. (get_or (all_writers trace) k no_name).task) e ∙ own)

    pub other_task : (other : ℕ) → other < length trace.tasks → other ≢ task → IsTaskOf trace counts other (task_at s other)
    other_task other less differs = let is = c.counted.each other less in let last = is.last in record {
      along = is.along;
      last = record {
        number = λ below. last.number (subst (λ k. (task_at s other).writer < k) long below);
        its_own = λ below. last.its_own (subst (λ k. (task_at s other).writer < k) long below);
        others = λ n below named apart. ap (λ (w : Writer). w.due) (stay n (other_writer n other named differs)) ∙ last.others n (subst (λ k. n < k) long below) named apart;
      };
      past = is.past;
    }

    pub other_goes : (other : ℕ) → other < length trace.tasks → other ≢ task → GoesOn trace counts (task_at s other)
    other_goes other less differs = λ its going. elim (c.go_on other less its going) [
      | inr more ↦ inr more
      | inl is ↦
          let w = (task_at s other).writer in
          let within : w < length s.writers.items = ltb-true _ _ (and_left (nat_lt w (length s.writers.items)) _ is) in
          let named = ap (λ (name : Name). name.task) ((c.counted.each other less).last.its_own within) in
          inl (due_same (cpu_of s) counts w long (stay w (other_writer w other named differs)) ∙ is)
    ]

  -- ---- a page that was clean

  wrote_counts : (r k : ℕ) (cpu : Cpu) (w : ℕ) → w < length cpu.writers → counted (cpu_step r k cpu (Wrote w)) ≡ counted cpu + 1
  unfolding is_write
  wrote_counts r k cpu w less = let e = event_keeps r k cpu (Wrote w) less tt in omega (arith, e)

  page_since : (r : ℕ) (local : CpuLocal) (writer : Writer) → (wrote_page r local writer).local.since_check ≤ local.since_check + 1
  unfolding page_after
  page_since r local writer = grind (arith, nat_tests)

  wrote_since : (r k : ℕ) (cpu : Cpu) (w : ℕ) → (cpu_step r k cpu (Wrote w)).local.since_check ≤ cpu.local.since_check + 1
  unfolding cpu_step
  wrote_since r k cpu w = page_since r cpu.local (writer_of cpu w)

  page_allowance : (r : ℕ) (local : CpuLocal) (writer : Writer) → (wrote_page r local writer).task.nr_dirtied_pause ≡ writer.task.nr_dirtied_pause
  unfolding page_after
  page_allowance r local writer = refl

  module _ (writer context : ℕ) (number : writer ≡ number_of trace task context) (less : writer < length s.writers.items)
      (named : get_or (all_writers trace) writer no_name ≡ record { task = task; context = context }) (quiet : is_due_at (cpu_of s) t.writer ≡ false) where
    its : (get_or (all_writers trace) (writer_in (Wrote writer)) no_name).task ≡ task
    its = ap (λ (n : Name). n.task) named

    abbrev pub wrote : Cpu
    wrote = cpu_step s.ratelimit_pages s.cap (cpu_of s) (Wrote writer)

    was_quiet : (m : ℕ) → m < length s.writers.items → (get_or (all_writers trace) m no_name).task ≡ task → (writer_of (cpu_of s) m).due ≡ due.No
    was_quiet m below own = elim (cases_eq m t.writer) [
      | inr differs ↦ (c.counted.each task there).last.others m below own differs
      | inl same ↦ not_due _ (subst (λ k. is_due (writer_of (cpu_of s) k).due ≡ false) (sym same)
          (sym (ap (λ b. b && is_due (writer_of (cpu_of s) t.writer).due) (lt-ltb t.writer (length s.writers.items) (subst (λ k. k < length s.writers.items) same below))) ∙ quiet))
    ]

    fresh_is : (p : TaskPlace) → IsAlong trace task p → (length trace.actions ≤ p.at → p.rests_last ≡ false) → IsTaskOf trace wrote task (record p { writer = writer; context = context })
    fresh_is p along past = record {
      along = record { still = along.still; todo = along.todo; few = along.few; place = along.place; under_way = along.under_way; rests = along.rests; last_is = along.last_is; since = along.since };
      last = record {
        number = λ below. sym number;
        its_own = λ below. named;
        others = λ m below own differs. ap (λ (w : Writer). w.due) (stay (Wrote writer) its m differs) ∙ was_quiet m (subst (λ k. m < k) (long (Wrote writer) its) below) own;
      };
      past = λ going behind. past behind;
    }

    allowed : (m : ℕ) → m < length wrote.writers → (writer_of wrote m).task.nr_dirtied_pause ≤ 2 ^ 47
    allowed m below = let inside_before = subst (λ k. m < k) (long (Wrote writer) its) below in elim (cases_eq m writer) [
      | inr differs ↦ subst (λ (w : Writer). w.task.nr_dirtied_pause ≤ 2 ^ 47) (sym (stay (Wrote writer) its m differs)) (c.counted.few.allowances m inside_before)
      | inl same ↦ let e : (writer_of wrote m).task.nr_dirtied_pause ≡ (writer_of (cpu_of s) writer).task.nr_dirtied_pause =
          ap (λ k. (writer_of wrote k).task.nr_dirtied_pause) same ∙ ap (λ (w : Writer). w.task.nr_dirtied_pause) (written_is s.ratelimit_pages s.cap (cpu_of s) writer less)
          ∙ page_allowance s.ratelimit_pages s.local (writer_of (cpu_of s) writer) in
          let small = c.counted.few.allowances writer less in omega arith
    ]

    pub fresh : (m : Tasks) (p : TaskPlace) → 1 ≤ trace.cap → KeepsFixed s m → cpu_of m ≡ wrote → m.tasks.items ≡ set s.tasks.items task (record p { writer = writer; context = context })
        → IsAlong trace task p → (length trace.actions ≤ p.at → p.rests_last ≡ false) → p.todo + 1 ≡ t.todo → AreCounted trace m
    fresh m p some fixed cpu tasks along past one =
        let n : TaskPlace = record p { writer = writer; context = context } in
        let put = todo_put m n tasks in
        let more = wrote_counts s.ratelimit_pages s.cap (cpu_of s) writer less in
        let since = wrote_since s.ratelimit_pages s.cap (cpu_of s) writer in
        put_counted m n fixed tasks (ap (λ (x : Cpu). length x.writers) cpu ∙ long (Wrote writer) its)
        (subst (λ (x : Cpu). IsTaskOf trace x task n) (sym cpu) (fresh_is p along past))
        (λ other below differs. subst (λ (x : Cpu). IsTaskOf trace x other (task_at s other)) (sym cpu) (other_task (Wrote writer) its other below differs))
        (subst (λ (x : Cpu). AreFew x m.tasks.items) (sym cpu) (record {
          pages = let few = c.counted.few.pages in omega arith;
          since = let few = c.counted.few.since in omega arith;
          allowances = allowed;
        }))
        (subst (AllHavePagesLeft trace.cap) (sym cpu) (subst (λ k. AllHavePagesLeft k wrote) c.counted.cap
        (left_after s.ratelimit_pages s.cap (cpu_of s) (Wrote writer) (subst (λ k. 1 ≤ k) (sym c.counted.cap) some) tt (subst (λ k. AllHavePagesLeft k (cpu_of s)) (sym c.counted.cap) c.counted.left))))

    pub fresh_others : (m : Tasks) (n : TaskPlace) → cpu_of m ≡ wrote → m.tasks.items ≡ set s.tasks.items task n
        → (other : ℕ) → other < length trace.tasks → other ≢ task → GoesOn trace (cpu_of m) (task_at m other)
    fresh_others m n cpu tasks other below differs = subst (λ (x : Cpu). GoesOn trace x (task_at m other)) (sym cpu)
        (subst (GoesOn trace wrote) (sym (apart m n tasks other differs)) (other_goes (Wrote writer) its other below differs))

    pub fresh_side : (m : Tasks) (n : TaskPlace) (opened : ℕ) → s.ratelimit_pages ≡ ratelimit_pages trace opened → cpu_of m ≡ wrote → m.tasks.items ≡ set s.tasks.items task n
        → n.ended ≡ t.ended → n.todo + 1 ≡ t.todo → side_of m ≡ with_page task (write_fresh trace opened task context (side_of s))
    fresh_side m n opened rate cpu tasks ended one =
        states_put m n wrote cpu tasks ended one
        ∙ ap (λ (x : Cpu). with_page task (record { cpu = x; tasks = map state_of s.tasks.items }))
        (ap (λ r. cpu_step r s.cap (cpu_of s) (Wrote writer)) rate ∙ ap (λ k. cpu_step (ratelimit_pages trace opened) k (cpu_of s) (Wrote writer)) c.counted.cap
        ∙ ap (λ w. cpu_step (ratelimit_pages trace opened) trace.cap (cpu_of s) (Wrote w)) number)

  -- ---- a check

  check_counts : (r k : ℕ) (cpu : Cpu) (w : ℕ) (decision : Decision) → w < length cpu.writers → Settles cpu (Checked w decision) → counted (cpu_step r k cpu (Checked w decision)) ≤ counted cpu
  unfolding is_write
  check_counts r k cpu w decision less settles = let e = event_keeps r k cpu (Checked w decision) less settles in omega (arith, e)

  check_since : (r k : ℕ) (cpu : Cpu) (w : ℕ) (decision : Decision) → (cpu_step r k cpu (Checked w decision)).local.since_check ≡ cpu.local.since_check
  unfolding cpu_step
  check_since r k cpu w decision = refl

  module _ (decision : Decision) (due_now : is_due_at (cpu_of s) t.writer ≡ true) where
    below_all : t.writer < length s.writers.items
    below_all = ltb-true _ _ (and_left (nat_lt t.writer (length s.writers.items)) _ due_now)

    own_check : (get_or (all_writers trace) (writer_in (Checked t.writer decision)) no_name).task ≡ task
    own_check = ap (λ (n : Name). n.task) ((c.counted.each task there).last.its_own below_all)

    abbrev pub decided : Cpu
    decided = cpu_step s.ratelimit_pages s.cap (cpu_of s) (Checked t.writer decision)

    check_is : (rest : ℕ) → IsTaskOf trace decided task (record t { rest = rest })
    check_is rest = let is = c.counted.each task there in let along = is.along in let last = is.last in record {
      along = record { still = along.still; todo = along.todo; few = along.few; place = along.place; under_way = along.under_way; rests = along.rests; last_is = along.last_is; since = along.since };
      last = record {
        number = λ below. last.number (subst (λ k. t.writer < k) (long (Checked t.writer decision) own_check) below);
        its_own = λ below. last.its_own (subst (λ k. t.writer < k) (long (Checked t.writer decision) own_check) below);
        others = λ m below own differs. ap (λ (w : Writer). w.due) (stay (Checked t.writer decision) own_check m differs)
            ∙ last.others m (subst (λ k. m < k) (long (Checked t.writer decision) own_check) below) own differs;
      };
      past = is.past;
    }

    check_allowed : decision.task.nr_dirtied_pause ≤ 2 ^ 47 → (m : ℕ) → m < length decided.writers → (writer_of decided m).task.nr_dirtied_pause ≤ 2 ^ 47
    check_allowed small m below = elim (cases_eq m t.writer) [
      | inr differs ↦ subst (λ (w : Writer). w.task.nr_dirtied_pause ≤ 2 ^ 47) (sym (stay (Checked t.writer decision) own_check m differs))
          (c.counted.few.allowances m (subst (λ k. m < k) (long (Checked t.writer decision) own_check) below))
      | inl same ↦ subst (λ k. (writer_of decided k).task.nr_dirtied_pause ≤ 2 ^ 47) (sym same)
          (subst (λ (w : Writer). w.task.nr_dirtied_pause ≤ 2 ^ 47) (sym (checked_is s.ratelimit_pages s.cap (cpu_of s) t.writer decision below_all)) small)
    ]

    pub check_done : (m : Tasks) (rest : ℕ) → 1 ≤ trace.cap → Settles (cpu_of s) (Checked t.writer decision) → LeavesPages trace.cap (cpu_of s) (Checked t.writer decision)
        → decision.task.nr_dirtied_pause ≤ 2 ^ 47 → KeepsFixed s m → cpu_of m ≡ decided → m.tasks.items ≡ set s.tasks.items task (record t { rest = rest }) → AreCounted trace m
    check_done m rest some settles leaves small fixed cpu tasks =
        let n : TaskPlace = record t { rest = rest } in
        let put = todo_put m n tasks in
        let less = check_counts s.ratelimit_pages s.cap (cpu_of s) t.writer decision below_all settles in
        let since = check_since s.ratelimit_pages s.cap (cpu_of s) t.writer decision in
        put_counted m n fixed tasks (ap (λ (x : Cpu). length x.writers) cpu ∙ long (Checked t.writer decision) own_check)
        (subst (λ (x : Cpu). IsTaskOf trace x task n) (sym cpu) (check_is rest))
        (λ other below differs. subst (λ (x : Cpu). IsTaskOf trace x other (task_at s other)) (sym cpu) (other_task (Checked t.writer decision) own_check other below differs))
        (subst (λ (x : Cpu). AreFew x m.tasks.items) (sym cpu) (record {
          pages = let few = c.counted.few.pages in omega arith;
          since = let few = c.counted.few.since in omega arith;
          allowances = check_allowed small;
        }))
        (subst (AllHavePagesLeft trace.cap) (sym cpu) (subst (λ k. AllHavePagesLeft k decided) c.counted.cap
        (left_after s.ratelimit_pages s.cap (cpu_of s) (Checked t.writer decision) (subst (λ k. 1 ≤ k) (sym c.counted.cap) some)
        (subst (λ k. LeavesPages k (cpu_of s) (Checked t.writer decision)) (sym c.counted.cap) leaves) (subst (λ k. AllHavePagesLeft k (cpu_of s)) (sym c.counted.cap) c.counted.left))))

    pub check_others : (m : Tasks) (n : TaskPlace) → cpu_of m ≡ decided → m.tasks.items ≡ set s.tasks.items task n
        → (other : ℕ) → other < length trace.tasks → other ≢ task → GoesOn trace (cpu_of m) (task_at m other)
    check_others m n cpu tasks other below differs = subst (λ (x : Cpu). GoesOn trace x (task_at m other)) (sym cpu)
        (subst (GoesOn trace decided) (sym (apart m n tasks other differs)) (other_goes (Checked t.writer decision) own_check other below differs))

    same_states : (m : Tasks) (rest : ℕ) → m.tasks.items ≡ set s.tasks.items task (record t { rest = rest }) → map state_of m.tasks.items ≡ map state_of s.tasks.items
    same_states m rest tasks = ap (map state_of) tasks ∙ map-set state_of s.tasks.items task (record t { rest = rest }) ∙ sym (map-set state_of s.tasks.items task t)
        ∙ ap (map state_of) (set-get_or s.tasks.items task no_task)

    pub check_side : (m : Tasks) (rest opened : ℕ) → s.ratelimit_pages ≡ ratelimit_pages trace opened → cpu_of m ≡ decided → m.tasks.items ≡ set s.tasks.items task (record t { rest = rest })
        → side_of m ≡ check_by trace opened task t.context decision (side_of s)
    check_side m rest opened rate cpu tasks =
        ap (λ (states : List TaskState). record { cpu = cpu_of m; tasks = states }) (same_states m rest tasks)
        ∙ ap (λ (x : Cpu). record { cpu = x; tasks = map state_of s.tasks.items }) (cpu
        ∙ ap (λ r. cpu_step r s.cap (cpu_of s) (Checked t.writer decision)) rate ∙ ap (λ k. cpu_step (ratelimit_pages trace opened) k (cpu_of s) (Checked t.writer decision)) c.counted.cap
        ∙ ap (λ w. cpu_step (ratelimit_pages trace opened) trace.cap (cpu_of s) (Checked w decision)) (sym ((c.counted.each task there).last.number below_all)))

-- ---- what the task has become

pub passes_is : (t n x y : TaskPlace) → x ≡ n → y ≡ record x { ended = y.ended } → n.written ≡ t.written + 1 → n.todo + 1 ≡ t.todo → n.own ≡ t.own → n.rest ≡ t.rest → Passes t y
passes_is t n x y is ended written todo own rest =
    let e : y ≡ record n { ended = y.ended } = ended ∙ ap (λ (z : TaskPlace). record z { ended = y.ended }) is in
    record {
      written = ap (λ (z : TaskPlace). z.written) e ∙ written;
      todo = ap (λ (z : TaskPlace). z.todo + 1) e ∙ todo;
      own = ap (λ (z : TaskPlace). z.own) e ∙ own;
      rest = ap (λ (z : TaskPlace). z.rest) e ∙ rest;
    }

pub passed_same : (x t n : TaskPlace) → x ≡ t → n ≡ record x { at = n.at; done = n.done; written = n.written; todo = n.todo; since = n.since } → n ≡ record t { at = n.at; done = n.done; written = n.written; todo = n.todo; since = n.since }
passed_same x t n same is = is ∙ ap (λ (y : TaskPlace). record y { at = n.at; done = n.done; written = n.written; todo = n.todo; since = n.since }) same

moves_at : (t y : TaskPlace) (a d w o k : ℕ) (e : Bool) → y ≡ record t { at = a; done = d; written = w; todo = o; since = k; ended = e } → MovesAlong t y
moves_at t y a d w o k e is = subst (λ (z : TaskPlace). MovesAlong t z) (sym is) refl

-- a place that has gone on so far
pub stands_at : (trace : Trace) (task : ℕ) (t a b : TaskPlace) → b.at ≡ a.at → b.done ≡ a.done → StandsBehind trace task t a → StandsBehind trace task t b
stands_at trace task t a b at done (goes_on action there less same next) = goes_on action there less (at ∙ same) (done ∙ next)
stands_at trace task t a b at done (was_last action there last first none) =
    was_last action there last (subst (λ (n : ℕ). IsFirstFrom trace task (t.at + 1) n) (sym at) first) (done ∙ none)

-- the task's place was passed, put, and settled; `counted` is what was put of it
module _ (p t n m y : TaskPlace) (same : p ≡ t) (moved : n ≡ record p { at = n.at; done = n.done; written = n.written; todo = n.todo; since = n.since }) (settled : y ≡ record m { ended = y.ended }) where
  pub stands_is : (trace : Trace) (task : ℕ) → m.at ≡ n.at → m.done ≡ n.done → StandsBehind trace task p n → StandsBehind trace task t y
  stands_is trace task at done stands = stands_at trace task t n y (ap (λ (z : TaskPlace). z.at) settled ∙ at) (ap (λ (z : TaskPlace). z.done) settled ∙ done)
      (subst (λ (z : TaskPlace). StandsBehind trace task z n) same stands)

  pub since_is : (pace : Option Pace) → m.since ≡ n.since → n.since ≡ since_after pace p.since → y.since ≡ since_after pace t.since
  since_is pace put more = ap (λ (z : TaskPlace). z.since) settled ∙ put ∙ more ∙ ap (λ (z : TaskPlace). since_after pace z.since) same

  pub moves_is : (w k : ℕ) → m ≡ record n { writer = w; context = k } → MovesAlong (record t { writer = w; context = k }) y
  moves_is w k put = moves_at (record t { writer = w; context = k }) y n.at n.done n.written n.todo n.since y.ended
      (settled ∙ ap (λ (z : TaskPlace). record z { ended = y.ended }) (put ∙ ap (λ (z : TaskPlace). record z { writer = w; context = k }) (passed_same p t n same moved)))

  pub moves_only : m ≡ n → MovesAlong t y
  moves_only put = moves_at t y n.at n.done n.written n.todo n.since y.ended (settled ∙ ap (λ (z : TaskPlace). record z { ended = y.ended }) (put ∙ passed_same p t n same moved))

pub stay_both : (task : ℕ) (a b d : Tasks) → OthersStay task a b → OthersStay task b d → OthersStay task a d
stay_both task a b d p q = λ other differs. q other differs ∙ p other differs

pub fixed_both : (a b d : Tasks) → KeepsFixed a b → KeepsFixed b d → KeepsFixed a d
fixed_both a b d p q = record { names = q.names ∙ p.names; ratelimit = q.ratelimit ∙ p.ratelimit; cap = q.cap ∙ p.cap; next = q.next ∙ p.next }

pub todo_same : (x t : TaskPlace) (k : ℕ) → x ≡ t → k + 1 ≡ x.todo → k + 1 ≡ t.todo
todo_same x t k same is = is ∙ ap (λ (y : TaskPlace). y.todo) same

pub written_same : (x t : TaskPlace) (k : ℕ) → x ≡ t → k ≡ x.written + 1 → k ≡ t.written + 1
written_same x t k same is = is ∙ ap (λ (y : TaskPlace). y.written + 1) same

-- tasks that stayed, and then one that was put
pub counted_put : (a b d : Tasks) (task : ℕ) (x y : TaskPlace) → b.tasks.items ≡ a.tasks.items → d.tasks.items ≡ set b.tasks.items task x → x ≡ y → d.tasks.items ≡ set a.tasks.items task y
counted_put a b d task x y same put is = put ∙ ap (λ (ts : List TaskPlace). set ts task x) same ∙ ap (λ (z : TaskPlace). set a.tasks.items task z) is
