-- A write of a page follows the step relation.
use Rattle.std.proofs.Common.{◌≡◌, ℕ, ◌+◌, ◌-◌, ◌<◌, ◌≤◌, true, false, cond, eqb, pos, List, [], ◌∷◌, ◌++◌, length, get_or, refl, sym, ◌∙◌, ap, subst, arith, eq-eqb, ne_eqb, ⊎_elim}
use Rattle.std.proofs.Math.ListN.{set}
use Rattle.std.proofs.lemmas.Bool.{cond-true, cond-false}
use Rattle.std.proofs.lemmas.List.{get_or-set_same}
use Rattle.std.specs.List.{list_any}
use Rattle.wbt_replay_order.proofs.Common.{is_writer, Trace, put, put_changes, Event, Book, bits_after, CpuRecord, WriterRecord, Setting, holding, StepEntry, wrote_page, wrote_writer, CpuLocal, Writer, writer_in, writer_of, do_next, logged, log_at, owed_to, State, no_cpu, no_task, cpu_of, task_of, with_task, plain_step, context_of, group_of, without_page, counted_page, counted_local, dirty_fresh, dirty_page, dirty_next, dirty_by, dirty, Cpu, ReplayTask, Whose, ReplayWork, Todo, plain_entry, change_entry, is_decide, writers_in, writer_at, task_cpu, Facts, IsPageOf, IsTaskOn, Suits, Tidy, OwesNothing, is_closing, debts_in, FollowsCpu, Follows, Moves, by, Ranges, IsTurnOf, IsWorker}
use Rattle.wbt_counter.specs.Sums as sums
use Rattle.wbt_book.specs.declared.event.Event.TheVariants as event
use Rattle.wbt_grant.specs.declared.who.StepKind.TheVariants as kind
use Rattle.wbt_grant.specs.State as throttle
use Rattle.wbt_grant.specs.State.{writer_in as record_of}
use Rattle.wbt_grant.specs.Kinds as relation
use Rattle.wbt_grant.specs.Kinds.{dirty_step, MayDirty}
use Rattle.wbt_grant.specs.Record as made
use Rattle.wbt_journal.specs.declared.entry.Entry.TheVariants as entry
use Rattle.wbt_task.specs.declared.allowance.Due.TheVariants as due
use Rattle.wbt_rules.specs.Pace.{since_after}
use Rattle.wbt_replay_moves.specs.declared.state.Whose.TheVariants as whose
use Rattle.wbt_replay_moves.specs.declared.state.ReplayWork.TheVariants as work
use Rattle.wbt_replay_moves.specs.declared.todo.Step.TheVariants as item
use Rattle.wbt_replay_moves.specs.declared.todo.Todo.TheVariants as todo
use Rattle.wbt_replay_order.specs.Kept.Ranges.{WritesInside}
use Rattle.wbt_replay_order.proofs.Facts.Lists.{either, twice}
use Rattle.wbt_replay_path.proofs.Follow.Debts.{none_owed}
use Rattle.wbt_replay_order.proofs.Frames.Others.{IsTurnOn, one_cpu, stepping}
use Rattle.wbt_replay_path.proofs.Follow.Held.{owing, owed_append, owed_looked, owed_decides, owed_closes, owed_debts, owed_tidy}
use Rattle.wbt_replay_order.proofs.Lists.Places.{four_times}
use Rattle.wbt_replay_order.proofs.Frames.Quiet.{skips, same_shared, plainly, no_check, one_task, left_stays, checked_stays, calm}
use Rattle.wbt_replay_path.proofs.Follow.Tells.{events_more, folds_more, founds_more}
use Rattle.wbt_replay_path.proofs.Follow.Writers.{due_cases, writer_with, tasks_elsewhere, left_changed, checked_changed}

module _ (trace : Trace) (setting : Setting) (suits : Suits trace setting) (i : ℕ) (less : i < trace.cpus) (s : State) (t : throttle.State)
    (facts : Facts trace) (ranges : Ranges trace setting s) (h : Follows trace setting s t) where
  there : i < length s.cpus
  there = omega (arith, less, ranges.cpus)

  turns : (j : ℕ) → j < trace.cpus → IsTurnOn trace j (cpu_of j s)
  turns j inside = ranges.turn_is j inside

  module _ (ts : List Todo) (is : (cpu_of i s).todo ≡ todo.Step item.Dirty ∷ ts) (room : length s.steps < s.most) where
    abbrev c1 : Cpu
    c1 = record (cpu_of i s) { todo = ts; made = (cpu_of i s).made + 1 }

    abbrev s1 : State
    s1 = stepping i ts s

    module _ (task inode page pages : ℕ) (works : List ReplayWork) (on : IsTaskOn trace i task) (turn : (cpu_of i s).turn.whose ≡ whose.Task task)
        (inside : IsPageOf trace inode page) (writer : is_writer task (context_of trace inode) (writers_in trace) ≡ true) (free : (writer_of (task_of task s)).due ≡ due.No)
        (w : ℕ) (known : w < setting.writers) (task_is : (writer_at trace w).task ≡ task) (context_is : (writer_at trace w).context ≡ context_of trace inode)
        (left_works : List ReplayWork) (since : ℕ) where
      seat : setting.seat w ≡ i
      seat = suits.seat w ∙ (ap (task_cpu trace) task_is ∙ on.cpu_is)

      abbrev k : ℕ
      k = context_of trace inode

      abbrev old : ReplayTask
      old = task_of task s

      abbrev t1 : ReplayTask
      t1 = record old { works = left_works; since = since }

      task_there : task < length s.tasks
      task_there = omega (arith, on.there, ranges.tasks)

      its : IsWorker trace task old
      its = ranges.task task on.there

      k_less : k < length trace.contexts
      k_less = facts.inode_context inode inside.there

      -- the writer in the page's context has no check due, and a page left
      not_due : (writer_in k old).due ≡ due.No
      not_due = ⊎_elim (λ calm_now. calm_now)
          (λ check.
          let at : k ≡ old.context = its.due k k_less check in
          absurd (cc (sym free ∙ ap (λ (m : ℕ). (writer_in m old).due) (sym at) ∙ check)))
          (due_cases (writer_in k old).due)

      one_left : 1 ≤ (writer_in k old).left
      one_left = its.some_left k k_less not_due

      seat_record : t.cpu i ≡ t.cpu (setting.seat w)
      seat_record = ap t.cpu (sym seat)

      abbrev r0 : CpuRecord
      r0 = t.cpu (setting.seat w)

      -- what is followed, with what the CPU has to do written out
      opened : FollowsCpu trace setting i (record (cpu_of i s) { todo = todo.Step item.Dirty ∷ ts }) s.tasks s.flushers r0 (λ x. t.own x i)
      opened =
          subst (λ (l : List Todo). FollowsCpu trace setting i (record (cpu_of i s) { todo = l }) s.tasks s.flushers r0 (λ x. t.own x i)) is
          (subst (λ (r : CpuRecord). FollowsCpu trace setting i (cpu_of i s) s.tasks s.flushers r (λ x. t.own x i)) seat_record (h.cpu i less))

      -- so many pages are left to the writer
      least_is : (record_of setting w r0.writers).left ≡ (writer_in k old).left
      least_is =
          opened.left w known seat (ap (λ (n : ℕ). (writer_in (writer_at trace w).context (get_or s.tasks n no_task)).due) task_is
          ∙ (ap (λ (m : ℕ). (writer_in m old).due) context_is ∙ not_due))
          ∙ (ap (λ (n : ℕ). (writer_in (writer_at trace w).context (get_or s.tasks n no_task)).left) task_is ∙ ap (λ (m : ℕ). (writer_in m old).left) context_is)

      may : MayDirty setting w page r0
      may =
          let f = opened in
          record {
            writer_is = known;
            page_is = suits.page inode page inside;
            its_context = suits.home inode page inside ∙ sym (suits.works_in w ∙ context_is);
            some_left = omega (arith, least_is, one_left);
            ready = record {
              owes_none = none_owed _ (f.debts ∙ f.tidy.0.debts);
              step_left = omega (arith, f.paced, ranges.made i less, room, ranges.page_steps);
            };
          }

      -- ---- a page that is dirty already

      already_moves : (t.book page).dirty ≡ true
          → Moves trace setting s.steps (plain_step i kind.Dirty (log_at i (entry.Write task page false) (with_task task t1 s1))) t
      already_moves already =
          let f = opened in
          let s2 : State = plain_step i kind.Dirty (log_at i (entry.Write task page false) (with_task task t1 s1)) in
          let c2 : Cpu = logged (entry.Write task page false) c1 in
          let r2 : CpuRecord = dirty_step setting (setting.seat w) page t (made.found_already page r0) in
          let t2 : throttle.State = relation.with_record (setting.seat w) r2 t in
          let writers = one_task s.tasks task t1 task_there refl refl in
          let told : plain_entry i kind.Dirty ≡ cond (t.book page).dirty (plain_entry (setting.seat w) kind.Dirty) (change_entry (setting.seat w) kind.Dirty (setting.home page) (pos 1)) =
          ap (λ (n : ℕ). plain_entry n kind.Dirty) (sym seat) ∙ sym (cond-true (t.book page).dirty _ _ already) in
          by (relation.dirty w page) refl may (ap (λ (e : StepEntry). s.steps ++ e ∷ []) told)
          (subst (Follows trace setting s2) (sym (cond-true (t.book page).dirty t2 _ already))
          (plainly trace setting suits i c2 r2 s t s2 t2 there turns h
          (twice (logged (entry.Write task page false)) s.cpus i c1 no_cpu there) (same_shared s s2 refl) refl
          (subst (λ (n : ℕ). sums.ChangesAt n r2 t.cpu (put t.cpu (setting.seat w) r2)) seat (put_changes t.cpu (setting.seat w) r2)) (λ j x other. refl)
          (λ j other. record { same_tasks = tasks_elsewhere trace i j task s.tasks t1 on.cpu_is other; same_flushers = λ n at. refl }) h.marks
          (record {
            own_is = f.own_is;
            events = f.events ∙ sym (events_more [] (cpu_of i s).entries (entry.Write task page false));
            folds = f.folds ∙ sym (folds_more [] (cpu_of i s).entries (entry.Write task page false));
            founds = ap (λ (l : List ℕ). page ∷ l) f.founds ∙ sym (founds_more [] (cpu_of i s).entries (entry.Write task page false));
            readings = f.readings;
            triples = f.triples;
            debts = f.debts;
            tidy = f.tidy.1;
            looked = calm setting _ _ ts _ f.tidy.0.claims;
            scanning = f.scanning;
            held = f.held;
            paced = omega (arith, f.paced);
            left = left_stays trace setting i _ s.tasks (set s.tasks task t1) s.flushers r0 (λ x. t.own x i) f writers;
            checked = checked_stays trace setting i _ s.tasks (set s.tasks task t1) s.flushers r0 (λ x. t.own x i) f writers;
            check = λ n same decides. absurd (no_check trace setting i (cpu_of i s) s.tasks s.flushers (t.cpu i) (λ x. t.own x i) (h.cpu i less) (todo.Step item.Dirty) ts is (λ a b no. no) n same decides);
          })))

      -- ---- a page that gets dirty

      fresh_moves : (t.book page).dirty ≡ false → Moves trace setting s.steps (dirty_fresh trace i task inode page (with_task task t1 s1)) t
      fresh_moves fresh =
          let f = opened in
          let g : ℕ = group_of trace k in
          let w0 : State = with_task task t1 s1 in
          let s2 : State = dirty_fresh trace i task inode page w0 in
          let local : CpuLocal = (cpu_of i s1).local in
          let v : ReplayTask = counted_page s.ratelimit_pages k local t1 in
          let x : Writer = wrote_writer (wrote_page s.ratelimit_pages local (writer_in k t1)) (writer_in k t1) in
          let items : List Todo = owed_to (pos 1) k g (todo.Step (item.Mark inode)) in
          let count : Cpu → Cpu = λ c. record c { local = counted_local s.ratelimit_pages k c.local (task_of task w0) } in
          let log : Cpu → Cpu = λ c. logged (entry.Write task page true) c in
          let then : Cpu → Cpu = λ c. do_next items c in
          let c2 : Cpu = then (log (count c1)) in
          let tasks_are : s2.tasks ≡ set s.tasks task v = twice (counted_page s.ratelimit_pages k local) s.tasks task t1 no_task task_there in
          let r2 : CpuRecord = dirty_step setting (setting.seat w) page t (made.dirtied setting w page r0) in
          let t2 : throttle.State = relation.with_event (event.Dirty page) page (relation.with_record (setting.seat w) r2 t) in
          let home : setting.home page ≡ k = suits.home inode page inside in
          let k_there : k < length old.writers = omega (arith, k_less, its.writers) in
          let record_is = λ (u : ℕ). writer_with setting u (holding w ((record_of setting w r0.writers).left - 1)) r0.writers in
          let behind : OwesNothing (todo.Step (item.Mark inode) ∷ ts) = record { debts = f.tidy.0.debts; claims = refl } in
          let items_are : c2.todo ≡ owing (pos 1) k g (todo.Step (item.Mark inode) ∷ ts) = owed_append (pos 1) k g (todo.Step (item.Mark inode)) ts in
          let told : change_entry i kind.Dirty k (pos 1) ≡ cond (t.book page).dirty (plain_entry (setting.seat w) kind.Dirty) (change_entry (setting.seat w) kind.Dirty (setting.home page) (pos 1)) =
          ap (λ (n : ℕ). change_entry n kind.Dirty k (pos 1)) (sym seat) ∙ (ap (λ (n : ℕ). change_entry (setting.seat w) kind.Dirty n (pos 1)) (sym home) ∙ sym (cond-false (t.book page).dirty _ _ fresh)) in
          by (relation.dirty w page) refl may (ap (λ (e : StepEntry). s.steps ++ e ∷ []) told)
          (subst (Follows trace setting s2) (sym (cond-false (t.book page).dirty _ t2 fresh))
          (subst (λ (l : List ReplayTask). Follows trace setting (record s2 { tasks = l }) t2) (sym tasks_are)
          (one_cpu trace setting suits i c2 r2 s (record s2 { tasks = set s.tasks task v }) t t2 there turns h (record {
            cpus = four_times count log then s.cpus i c1 no_cpu there;
            record_is = subst (λ (n : ℕ). sums.ChangesAt n r2 t.cpu (put t.cpu (setting.seat w) r2)) seat (put_changes t.cpu (setting.seat w) r2);
            owns = λ j y other. refl;
            others = λ j other. record { same_tasks = tasks_elsewhere trace i j task s.tasks v on.cpu_is other; same_flushers = λ n at. refl };
            here = record {
              own_is = f.own_is;
              events = ap (λ (l : List Event). event.Dirty page ∷ l) f.events ∙ sym (events_more [] (cpu_of i s).entries (entry.Write task page true));
              folds = f.folds ∙ sym (folds_more [] (cpu_of i s).entries (entry.Write task page true));
              founds = f.founds ∙ sym (founds_more [] (cpu_of i s).entries (entry.Write task page true));
              readings = f.readings;
              triples = f.triples;
              debts = owed_debts trace setting suits page k (pos 1) (todo.Step (item.Mark inode) ∷ ts) home behind.debts ∙ sym (ap debts_in items_are);
              tidy = subst Tidy (sym items_are) (owed_tidy (pos 1) k g (todo.Step (item.Mark inode) ∷ ts) behind (f.tidy.0, f.tidy.1));
              looked = owed_looked setting _ _ (pos 1) k g (todo.Step (item.Mark inode)) ts _;
              scanning = λ n at closing. f.scanning n at (λ e. sym (owed_closes (pos 1) k g (todo.Step (item.Mark inode) ∷ ts)) ∙ (ap (list_any is_closing) (sym items_are) ∙ closing e));
              held = f.held;
              paced = omega (arith, f.paced);
              left = left_changed trace setting suits i _ s.tasks s.flushers r0 (λ y. t.own y i) f task k w v x task_there refl k_there known task_is context_is r2.writers
                  (λ u n. record_is u ∙ cond-false (eqb u w) _ _ (ne_eqb u w n))
                  (λ free_now. let one = ap (λ (q : WriterRecord). q.left) (record_is w ∙ cond-true (eqb w w) _ _ (eq-eqb w w refl)) in omega (arith, one, least_is));
              checked = checked_changed trace setting suits i _ s.tasks s.flushers r0 (λ y. t.own y i) f task k w v x task_there refl k_there known task_is context_is refl writer;
              check = λ n same decides. absurd (no_check trace setting i (cpu_of i s) s.tasks s.flushers (t.cpu i) (λ y. t.own y i) (h.cpu i less) (todo.Step item.Dirty) ts is (λ a b none. none) n same
                  (sym (owed_decides (pos 1) k g (todo.Step (item.Mark inode) ∷ ts)) ∙ (ap (list_any is_decide) (sym items_are) ∙ decides)));
            };
            book = ap (λ (book : Book). put book page (bits_after (event.Dirty page) (book page))) h.book;
            marks = h.marks;
            versions = h.versions;
            values = h.values;
            published = h.published;
            peak = h.peak;
            timer = refl;
            timer_record = refl;
          }))))

      page_moves : Moves trace setting s.steps (dirty_page trace i task inode page (with_task task t1 s1)) t
      page_moves =
          let same : (t.book page).dirty ≡ (s.book page).dirty = ap (λ (book : Book). (book page).dirty) h.book in
          either (λ q. Moves trace setting s.steps q t) (s.book page).dirty _ _ (λ already. already_moves (same ∙ already)) (λ fresh. fresh_moves (same ∙ fresh))

    skipped : Moves trace setting s.steps s1 t
    skipped =
        let f = subst Tidy is (h.cpu i less).tidy in
        skips trace setting suits i s t there turns h less (todo.Step item.Dirty) ts is (λ a b none. none) refl f.0.claims f.1 refl

    next_moves : (task : ℕ) → IsTaskOn trace i task → (cpu_of i s).turn.whose ≡ whose.Task task → (works : List ReplayWork) → (task_of task s).works ≡ works
        → Moves trace setting s.steps (dirty_next trace i task works s1) t
    next_moves task on turn [] works_are = skipped
    next_moves task on turn (work.Rest ticks ∷ works) works_are = skipped
    next_moves task on turn (work.Write inode page pages ∷ works) works_are =
        let fits : WritesInside trace task (work.Write inode page pages ∷ works) = subst (WritesInside trace task) works_are (ranges.task task on.there).works in
        let w = suits.writer_is task (context_of trace inode) fits.1 in
        page_moves task inode page pages works on turn fits.0 fits.1 (ranges.writes i less task turn ts is) w.0 w.1 w.2 w.3 (without_page inode page pages works)
        (since_after (task_of task s).pace (task_of task s).since)

    by_moves : (whose : Whose) → (cpu_of i s).turn.whose ≡ whose → IsTurnOf trace i whose → Moves trace setting s.steps (dirty_by trace i whose s1) t
    by_moves (whose.Flusher f) turn on = skipped
    by_moves (whose.Task task) turn on = next_moves task on turn (task_of task s).works refl

    pub dirty_moves : Moves trace setting s.steps (dirty trace i s1) t
    dirty_moves =
        let same : (cpu_of i s1).turn.whose ≡ (cpu_of i s).turn.whose = ap (λ (c : Cpu). c.turn.whose) (get_or-set_same s.cpus i c1 no_cpu there) in
        subst (λ (w : Whose). Moves trace setting s.steps (dirty_by trace i w s1) t) (sym same)
        (by_moves (cpu_of i s).turn.whose refl (ranges.turn_is i less (omega (arith, ap length is))))
