-- A check that is decided follows the step relation: whoever doesn't wait is granted pages on the loads that it keeps.
use Rattle.std.proofs.Common.{◌≡◌, ◌≢◌, ℕ, zero, suc, ◌<◌, ◌≤◌, ◌⊎◌, inl, inr, Bool, true, false, ◌||◌, eqb, List, [], ◌∷◌, ◌++◌, map, length, Option, Some, refl, sym, ◌∙◌, ap, subst, arith, eqb-true, eq-eqb, ne_eqb, ⊎_elim}
use Rattle.std.specs.Prelude.{IfSome}
use Rattle.std.proofs.Math.ListN.{set}
use Rattle.std.proofs.lemmas.Bool.{cases_Bool, cond-true, cond-false, le-leb}
use Rattle.std.proofs.lemmas.List.{get_or-set_same}
use Rattle.std.specs.List.{list_any}
use Rattle.wbt_num.specs.Limits.{IsLawful}
use Rattle.wbt_replay_order.proofs.Common.{Limits, Trace, at_least_zero, put, times_in, put_changes, Reading, CpuRecord, DomainLimits, WriterRecord, Setting, holding, CheckEntry, Entry, Decision, Reads, greatest_reading, decision_for, checked_writer, writer_in, global_line, cgroup_line, decision_at, check_of, told_task, decide_so, decide_for, decide_by, checked, State, no_cpu, cpu_of, task_of, writeback_of, is_strict, group_of, Cpu, ReplayTask, ReplayTurn, Whose, Todo, reads_of, cgroup_reads, limits_of, WereHeld, longer_none, reading_of, readings_with, readings_told, HasTriples, triples_told, AreAmong, is_decide, is_limits_of, KeepsLoads, writer_at, part_used, task_cpu, Facts, IsTaskOn, Suits, InCheck, HoldsLoads, turn_readings, bared, FollowsCpu, Follows, Moves, grants, Ranges, IsTurnOf, IsWorker}
use Rattle.wbt_counter.specs.Batch.{stat_error}
use Rattle.wbt_counter.specs.Sums as sums
use Rattle.wbt_counter.specs.Through.{fits, lets_through}
use Rattle.wbt_counter.specs.declared.counter.Counter.TheVariants.{Context as ofContext}
use Rattle.wbt_grant.specs.Bound.{hard_in, is_let_through}
use Rattle.wbt_grant.specs.State as throttle
use Rattle.wbt_grant.specs.State.{kept_of, writer_in as record_of}
use Rattle.wbt_grant.specs.Kinds as relation
use Rattle.wbt_grant.specs.Kinds.{MayGrant}
use Rattle.wbt_grant.specs.Record as made
use Rattle.wbt_journal.specs.Checks.{cgroup_read}
use Rattle.wbt_journal.specs.declared.entry.Entry.TheVariants as entry
use Rattle.wbt_pause.specs.Claims.{MayBeGranted}
use Rattle.wbt_pause.specs.declared.decision.Kind.{Kind}
use Rattle.wbt_pause.specs.declared.decision.Kind.TheVariants as decided
use Rattle.wbt_strict.proofs.Deciding.{granted_unless_waiting, grants_on_small}
use Rattle.wbt_strict.specs.Decision.{greatest_part}
use Rattle.wbt_task.specs.History.{due_again}
use Rattle.wbt_task.specs.declared.allowance.Due.TheVariants as due
use Rattle.wbt_replay_moves.specs.Definition.Check.{reads_of as reads_for, decide}
use Rattle.wbt_replay_moves.specs.declared.state.Whose.TheVariants as whose
use Rattle.wbt_replay_moves.specs.declared.todo.Silent.TheVariants as silent
use Rattle.wbt_replay_moves.specs.declared.todo.Todo.TheVariants as todo
use Rattle.wbt_run_laws.proofs.Holding.{held_more}
use Rattle.wbt_replay_order.specs.Claims.Path.{line_readings}
use Rattle.wbt_replay_order.specs.Kept.Following.{HasSmallReading}
use Rattle.wbt_replay_order.proofs.Facts.Lists.{twice}
use Rattle.wbt_replay_order.proofs.Frames.Others.{IsTurnOn, popped}
use Rattle.wbt_replay_order.proofs.Frames.Quiet.{same_shared, plainly, quietly, passes, calm}
use Rattle.wbt_replay_path.proofs.Follow.Tells.{events_more, folds_more, founds_more, readings_more, triples_more}
use Rattle.wbt_replay_order.proofs.Facts.Parts.{last_used}
use Rattle.wbt_replay_path.proofs.Follow.Writers.{writer_with, tasks_elsewhere, left_changed, checked_changed}

pub task_is_no_flusher : (task f : ℕ) → ◌≡◌ {A = Whose} (whose.Task task) (whose.Flusher f) → ⊥
task_is_no_flusher task f e = cc e

-- ---- what the check's entry tells, where all is loaded

abbrev last_items : List Todo
last_items = todo.Silent silent.Decide ∷ todo.Silent silent.End ∷ []

told_readings : (trace : Trace) (k g : ℕ) (turn : ReplayTurn) (s : State) (older : List Reading)
    → turn_readings k g turn last_items older
    ≡ reading_of (ofContext k) turn.context ∷ line_readings (cgroup_line g k turn s) ++ line_readings (Some (global_line k turn s)) ++ older
told_readings trace k zero turn s older = refl
told_readings trace k (suc g) turn s older = refl

-- a check tells the limits that its CPU holds
lines_held : (trace : Trace) (set : Setting) (k g : ℕ) (turn : ReplayTurn) (s : State) (triples : List DomainLimits) → HoldsLoads set turn last_items g triples
    → WereHeld set.firsts (map limits_of (global_line k turn s ∷ cgroup_reads (cgroup_line g k turn s))) triples triples
lines_held trace set k zero turn s triples h = (triples, longer_none triples, h.global refl, longer_none triples)
lines_held trace set k (suc g) turn s triples h =
    (triples, longer_none triples, h.global refl, (triples, longer_none triples, h.cgroup (omega arith) refl, longer_none triples))

-- ---- whoever doesn't wait is let through

abbrev through : (trace : Trace) (limits : Limits) (reading context : ℕ) → Bool
through trace limits reading context = lets_through (stat_error trace.cpus) (Some limits.hard) (Some reading) (Some context)

lawful_group : (trace : Trace) (k g : ℕ) (turn : ReplayTurn) (s : State) → IsLawful turn.cgroup.limits
    → IfSome (cgroup_read trace k (cgroup_line g k turn s)) (λ domain. IsLawful domain.limits)
lawful_group trace k zero turn s lawful = tt
lawful_group trace k (suc g) turn s lawful = lawful

group_through : (trace : Trace) (k g : ℕ) (turn : ReplayTurn) (s : State) (cpus dirty : ℕ) → cpus ≡ trace.cpus → 0 < g
    → IfSome (cgroup_read trace k (cgroup_line g k turn s)) (λ domain. lets_through (stat_error cpus) (Some domain.limits.hard) (Some domain.dirty) (Some dirty) ≡ true)
    → through trace turn.cgroup.limits (at_least_zero turn.cgroup.count.value) dirty ≡ true
group_through trace k zero turn s cpus dirty is some h = absurd (omega arith)
group_through trace k (suc g) turn s cpus dirty is some h =
    subst (λ (n : ℕ). lets_through (stat_error n) (Some turn.cgroup.limits.hard) (Some (at_least_zero turn.cgroup.count.value)) (Some dirty) ≡ true) is h

waits_or_not : (kind : Kind) → (kind ≡ decided.Wait) ⊎ ((kind ≢ decided.Wait) × (due_again kind ≡ due.No))
waits_or_not decided.Free = inr ((λ e. cc e), refl)
waits_or_not decided.Go = inr ((λ e. cc e), refl)
waits_or_not decided.Exempt = inr ((λ e. cc e), refl)
waits_or_not decided.Wait = inl refl

module _ (trace : Trace) (setting : Setting) (suits : Suits trace setting) (i : ℕ) (less : i < trace.cpus) (s : State) (t : throttle.State)
    (facts : Facts trace) (ranges : Ranges trace setting s) (h : Follows trace setting s t) (ts : List Todo) (is : (cpu_of i s).todo ≡ todo.Silent silent.Decide ∷ ts) where
  there : i < length s.cpus
  there = omega (arith, less, ranges.cpus)

  turns : (j : ℕ) → j < trace.cpus → IsTurnOn trace j (cpu_of j s)
  turns j inside = ranges.turn_is j inside

  abbrev c1 : Cpu
  c1 = record (cpu_of i s) { todo = ts }

  abbrev s1 : State
  s1 = popped i ts s

  opened : FollowsCpu trace setting i (record (cpu_of i s) { todo = todo.Silent silent.Decide ∷ ts }) s.tasks s.flushers (t.cpu i) (λ x. t.own x i)
  opened = subst (λ (l : List Todo). FollowsCpu trace setting i (record (cpu_of i s) { todo = l }) s.tasks s.flushers (t.cpu i) (λ x. t.own x i)) is (h.cpu i less)

  module _ (task : ℕ) (on : IsTaskOn trace i task) (turn_is : (cpu_of i s).turn.whose ≡ whose.Task task) where
    abbrev old : ReplayTask
    old = task_of task s

    abbrev k : ℕ
    k = old.context

    abbrev turn : ReplayTurn
    turn = (cpu_of i s).turn

    task_there : task < length s.tasks
    task_there = omega (arith, on.there, ranges.tasks)

    check : InCheck trace setting task k (record (cpu_of i s) { todo = todo.Silent silent.Decide ∷ ts }) (t.cpu i)
    check = opened.check task turn_is refl

    items_are : ◌≡◌ {A = List Todo} (todo.Silent silent.Decide ∷ ts) last_items
    items_are = ap (λ (l : List Todo). todo.Silent silent.Decide ∷ l) check.loads

    module _ (w : ℕ) (known : w < setting.writers) (task_is : (writer_at trace w).task ≡ task) (context_is : (writer_at trace w).context ≡ k) where
      seat : setting.seat w ≡ i
      seat = suits.seat w ∙ (ap (task_cpu trace) task_is ∙ on.cpu_is)

      abbrev x : WriterRecord
      x = record_of setting w (t.cpu i).writers

      keeps : KeepsLoads turn last_items (group_of trace k) x
      keeps = subst (λ (l : List Todo). KeepsLoads turn l (group_of trace k) x) items_are (check.keeps w known task_is context_is)

      abbrev dirty : ℕ
      dirty = at_least_zero turn.context.value

      let_through_by : (d : ℕ) (limits : Limits) (n : ℕ) → (kept_of d x.kept).limits ≡ Some limits → (kept_of d x.kept).reading ≡ Some n
          → through trace limits n dirty ≡ true → is_let_through setting d x ≡ true
      let_through_by d limits n limits_are reading passed =
          ap (λ (c : ℕ). lets_through (stat_error c) (hard_in (kept_of d x.kept).limits) (kept_of d x.kept).reading x.context_reading) suits.cpus
          ∙ (ap (λ (l : Option Limits). lets_through (stat_error trace.cpus) (hard_in l) (kept_of d x.kept).reading x.context_reading) limits_are
          ∙ (ap (λ (l : Option ℕ). lets_through (stat_error trace.cpus) (Some limits.hard) l x.context_reading) reading
          ∙ (ap (λ (l : Option ℕ). lets_through (stat_error trace.cpus) (Some limits.hard) (Some n) l) (keeps.context_count refl) ∙ passed)))

      abbrev d : Decision
      d = decision_for (is_strict trace k) (reads_for trace k turn s1) (writeback_of k s1).estimate (writer_in k old).task s.now

      module _ (goes : d.kind ≢ decided.Wait) where
        granted : MayBeGranted (reads_for trace k turn s1) d
        granted =
            let lawful = ranges.turn i less in
            granted_unless_waiting (is_strict trace k) (reads_for trace k turn s1) (writeback_of k s1).estimate (writer_in k old).task s.now facts.some_cap
            (lawful.global, lawful_group trace k (group_of trace k) turn s1 lawful.cgroup) goes

        group_is : (e : ℕ) → (e ≡ group_of trace k) → 0 < e → is_let_through setting e x ≡ true
        group_is e same some =
            let wide : 0 < group_of trace k = omega (arith, same, some) in
            subst (λ (n : ℕ). is_let_through setting n x ≡ true) (sym same)
            (let_through_by (group_of trace k) turn.cgroup.limits (at_least_zero turn.cgroup.count.value) (keeps.cgroup_limits wide (no_limits (group_of trace k))) (keeps.cgroup_count wide refl)
            (group_through trace k (group_of trace k) turn s1 trace.cpus dirty refl wide granted.through.1))
          where
            no_limits : (g : ℕ) → list_any (is_limits_of g) last_items ≡ false
            no_limits g = refl

        may_grant : MayGrant setting w d.left (t.cpu i)
        may_grant = record {
          writer_is = known;
          at_least_one = granted.pages.0;
          at_most_cap = omega (arith, granted.pages.1, suits.cap);
          let_through = λ e inside. ⊎_elim
              (λ first. subst (λ (n : ℕ). is_let_through setting n x ≡ true) (sym (eqb-true e 0 first))
              (let_through_by 0 turn.global.limits (at_least_zero turn.global.count.value) (keeps.global_limits refl) (keeps.global_count refl) granted.through.0))
              (λ later.
              let same : e ≡ setting.group (setting.works_in w) = eqb-true e (setting.group (setting.works_in w)) (ap (λ (b : Bool). b || eqb e (setting.group (setting.works_in w))) (sym later) ∙ inside) in
              let k_is : setting.works_in w ≡ k = suits.works_in w ∙ context_is in
              let away : e ≢ 0 = λ q. absurd (cc (sym later ∙ eq-eqb e 0 q)) in
              group_is e (same ∙ (suits.group (setting.works_in w) ∙ ap (group_of trace) k_is)) (omega (arith, away)))
              (cases_Bool (eqb e 0));
        }

      -- what the CPU becomes, and its record with these writers
      abbrev entry_is : CheckEntry
      entry_is = check_of trace task k turn d s1

      abbrev c2 : Cpu
      c2 = checked entry_is c1

      abbrev v : ReplayTask
      v = told_task s.now k d old

      here : (r : CpuRecord) → r.debts ≡ (t.cpu i).debts → r.last ≡ (t.cpu i).last → r.held ≡ (t.cpu i).held → r.page_steps ≡ (t.cpu i).page_steps
          → r.events ≡ (t.cpu i).events → r.folds ≡ (t.cpu i).folds → r.found_dirty ≡ (t.cpu i).found_dirty → r.readings ≡ (t.cpu i).readings → r.triples ≡ (t.cpu i).triples
          → ((u : ℕ) → u ≢ w → record_of setting u r.writers ≡ record_of setting u (t.cpu i).writers)
          → (due_again d.kind ≡ due.No → (record_of setting w r.writers).left ≡ d.left)
          → FollowsCpu trace setting i c2 (set s.tasks task v) s.flushers r (λ y. t.own y i)
      here r debts last held steps events folds founds readings triples others left =
          let f = opened in
          let its : IsWorker trace task old = ranges.task task on.there in
          let k_less : k < length old.writers = omega (arith, its.writers, context_less) in
          let e : Entry = entry.Check (length (cpu_of i s).checks) in
          record {
            own_is = f.own_is;
            events = events ∙ (f.events ∙ sym (events_more [] (cpu_of i s).entries e));
            folds = folds ∙ (f.folds ∙ sym (folds_more [] (cpu_of i s).entries e));
            founds = founds ∙ (f.founds ∙ sym (founds_more [] (cpu_of i s).entries e));
            readings = subst (λ (l : List Reading). AreAmong l r.readings) (told ∙ sym (readings_more [] (cpu_of i s).checks entry_is))
                (subst (λ (l : List Reading). AreAmong (turn_readings k (group_of trace k) turn (todo.Silent silent.Decide ∷ ts) (readings_told [] (cpu_of i s).checks)) l) (sym readings) check.readings);
            triples = subst (HasTriples trace setting ((cpu_of i s).checks ++ entry_is ∷ []) (cpu_of i s).held) (sym triples) (record {
              told = subst (λ (l : List DomainLimits). WereHeld setting.firsts l [] (t.cpu i).triples) (sym (triples_more (cpu_of i s).checks entry_is))
                  (held_more setting.firsts (triples_told (cpu_of i s).checks) (map limits_of (reads_of entry_is)) [] (t.cpu i).triples (t.cpu i).triples f.triples.told
                  (lines_held trace setting k (group_of trace k) turn s1 (t.cpu i).triples
                  (subst (λ (l : List Todo). HoldsLoads setting turn l (group_of trace k) (t.cpu i).triples) items_are check.holds)));
              held_is = f.triples.held_is;
            });
            debts = ap bared debts ∙ f.debts;
            tidy = f.tidy.1;
            looked = calm setting _ _ ts _ f.tidy.0.claims;
            scanning = f.scanning;
            held = λ p. ap (times_in p) held ∙ f.held p;
            paced = omega (arith, f.paced, steps);
            left = left_changed trace setting suits i _ s.tasks s.flushers (t.cpu i) (λ y. t.own y i) f task k w v (checked_writer d) task_there refl k_less known task_is context_is
                r.writers others left;
            checked = checked_changed trace setting suits i _ s.tasks s.flushers (t.cpu i) (λ y. t.own y i) f task k w v (checked_writer d) task_there refl k_less known task_is context_is
                refl check.writer;
            check = λ n same decides. absurd (cc (sym decides ∙ ap (list_any is_decide) check.loads));
          }
        where
          context_less : k < length trace.contexts
          context_less = subst (λ (n : ℕ). n < length trace.contexts) context_is (suits.writer_context w known)

          told : turn_readings k (group_of trace k) turn (todo.Silent silent.Decide ∷ ts) (readings_told [] (cpu_of i s).checks) ≡ readings_with entry_is (readings_told [] (cpu_of i s).checks)
          told = ap (λ (l : List Todo). turn_readings k (group_of trace k) turn l (readings_told [] (cpu_of i s).checks)) items_are
              ∙ told_readings trace k (group_of trace k) turn s1 (readings_told [] (cpu_of i s).checks)

      waiting_moves : d.kind ≡ decided.Wait → Moves trace setting s.steps (decide_so trace i task k d s1) t
      waiting_moves waits =
          let s2 : State = decide_so trace i task k d s1 in
          quietly trace setting suits i c2 s t s2 there turns h
          (twice (λ (c : Cpu). checked (check_of trace task k c.turn d s1) c) s.cpus i c1 no_cpu there) (same_shared s s2 refl) refl refl
          (λ j other. record { same_tasks = tasks_elsewhere trace i j task s.tasks v on.cpu_is other; same_flushers = λ n at. refl })
          (here (t.cpu i) refl refl refl refl refl refl refl refl refl (λ u n. refl)
          (λ free. absurd (cc (sym free ∙ ap due_again waits))))

      -- in a context of a strict device the reading that it keeps is small
      small_reading : d.kind ≢ decided.Wait → HasSmallReading trace setting (decide_so trace i task k d s1).cpus w t
      small_reading goes strict =
          let reads : Reads = reads_for trace k turn s1 in
          let cpus : List Cpu = (decide_so trace i task k d s1).cpus in
          let lawful = ranges.turn i less in
          let k_is : setting.works_in w ≡ k = suits.works_in w ∙ context_is in
          let strict_k : is_strict trace k ≡ true = ap (is_strict trace) (sym k_is) ∙ strict in
          let goes_so : (decision_for true reads (writeback_of k s1).estimate (writer_in k old).task s.now).kind ≢ decided.Wait =
          subst (λ (b : Bool). (decision_for b reads (writeback_of k s1).estimate (writer_in k old).task s.now).kind ≢ decided.Wait) strict_k goes in
          let few : dirty ≤ greatest_reading (greatest_part reads) trace.cpus =
          grants_on_small reads (writeback_of k s1).estimate (writer_in k old).task s.now (lawful.global, lawful_group trace k (group_of trace k) turn s1 lawful.cgroup) goes_so in
          let used : greatest_part reads ≤ part_used trace k (set s.cpus i c2) = last_used trace s.cpus i c2 (cpu_of i s).checks entry_is there refl in
          let same : part_used trace (setting.works_in w) cpus ≡ part_used trace k (set s.cpus i c2) =
          ap (λ (n : ℕ). part_used trace n cpus) k_is
          ∙ ap (part_used trace k) (twice (λ (c : Cpu). checked (check_of trace task k c.turn d s1) c) s.cpus i c1 no_cpu there) in
          let within : dirty ≤ greatest_reading (part_used trace (setting.works_in w) cpus) setting.cpus =
          subst (λ (n : ℕ). dirty ≤ greatest_reading (part_used trace (setting.works_in w) cpus) n) (sym suits.cpus) (omega (arith, few, used, same)) in
          let kept : (record_of setting w (t.cpu (setting.seat w)).writers).context_reading ≡ Some dirty =
          ap (λ (n : ℕ). (record_of setting w (t.cpu n).writers).context_reading) seat ∙ keeps.context_count refl in
          ap (fits (greatest_reading (part_used trace (setting.works_in w) cpus) setting.cpus)) kept
          ∙ le-leb dirty (greatest_reading (part_used trace (setting.works_in w) cpus) setting.cpus) within

      granted_moves : d.kind ≢ decided.Wait → Moves trace setting s.steps (decide_so trace i task k d s1) t
      granted_moves goes =
          let s2 : State = decide_so trace i task k d s1 in
          let r2 : CpuRecord = made.granted w d.left (t.cpu (setting.seat w)) in
          let t2 : throttle.State = relation.after setting (relation.grant w d.left) t in
          let may : MayGrant setting w d.left (t.cpu (setting.seat w)) = subst (λ (n : ℕ). MayGrant setting w d.left (t.cpu n)) (sym seat) (may_grant goes) in
          grants w d.left may refl (small_reading goes)
          (plainly trace setting suits i c2 r2 s t s2 t2 there turns h
          (twice (λ (c : Cpu). checked (check_of trace task k c.turn d s1) c) s.cpus i c1 no_cpu there) (same_shared s s2 refl) refl
          (subst (λ (n : ℕ). sums.ChangesAt n r2 t.cpu (put t.cpu (setting.seat w) r2)) seat (put_changes t.cpu (setting.seat w) r2)) (λ j y other. refl)
          (λ j other. record { same_tasks = tasks_elsewhere trace i j task s.tasks v on.cpu_is other; same_flushers = λ n at. refl }) h.marks
          (here r2 (at (λ r. r.debts)) (at (λ r. r.last)) (at (λ r. r.held)) (at (λ r. r.page_steps)) (at (λ r. r.events)) (at (λ r. r.folds)) (at (λ r. r.found_dirty)) (at (λ r. r.readings)) (at (λ r. r.triples))
          (λ u n. writer_with setting u (holding w d.left) (t.cpu (setting.seat w)).writers ∙ (cond-false (eqb u w) _ _ (ne_eqb u w n)
          ∙ ap (λ (m : ℕ). record_of setting u (t.cpu m).writers) seat))
          (λ free. ap (λ (q : WriterRecord). q.left) (writer_with setting w (holding w d.left) (t.cpu (setting.seat w)).writers ∙ cond-true (eqb w w) _ _ (eq-eqb w w refl)))))
        where
          at : {A : Type 0} (f : CpuRecord → A) → f (t.cpu (setting.seat w)) ≡ f (t.cpu i)
          at f = ap (λ (n : ℕ). f (t.cpu n)) seat

      so_moves : Moves trace setting s.steps (decide_so trace i task k d s1) t
      so_moves = ⊎_elim waiting_moves (λ goes. granted_moves goes.0) (waits_or_not d.kind)

      for_moves : Moves trace setting s.steps (decide_for trace i task k s1) t
      for_moves =
          let same : decision_at trace k old (cpu_of i s1).turn s1 ≡ d = ap (λ (c : Cpu). decision_at trace k old c.turn s1) (get_or-set_same s.cpus i c1 no_cpu there) in
          subst (λ (q : Decision). Moves trace setting s.steps (decide_so trace i task k q s1) t) (sym same) so_moves

    task_moves : Moves trace setting s.steps (decide_for trace i task k s1) t
    task_moves = let w = suits.writer_is task k check.writer in for_moves w.0 w.1 w.2 w.3

  by_moves : (whose : Whose) → (cpu_of i s).turn.whose ≡ whose → IsTurnOf trace i whose → Moves trace setting s.steps (decide_by trace i whose s1) t
  by_moves (whose.Task task) turn on = task_moves task on turn
  by_moves (whose.Flusher f) turn on =
      let f0 = opened in
      passes trace setting suits i s t there turns h less (todo.Silent silent.Decide) ts is refl f0.tidy.0.claims f0.tidy.1 f0.scanning
      (λ n same decides. absurd (cc (sym same ∙ turn)))

  pub decide_moves : Moves trace setting s.steps (decide trace i s1) t
  decide_moves =
      let same : (cpu_of i s1).turn.whose ≡ (cpu_of i s).turn.whose = ap (λ (c : Cpu). c.turn.whose) (get_or-set_same s.cpus i c1 no_cpu there) in
      subst (λ (w : Whose). Moves trace setting s.steps (decide_by trace i w s1) t) (sym same)
      (by_moves (cpu_of i s).turn.whose refl (ranges.turn_is i less (omega (arith, ap length is))))
