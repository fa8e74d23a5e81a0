-- Steps on counters follow the step relation.
use Rattle.std.proofs.Common.{◌≡◌, ℕ, suc, ◌+◌, ◌<◌, ◌≤◌, Bool, true, false, cond, eqb, ℤ, pos, ◌+ℤ◌, unsigned_abs, List, [], ◌∷◌, ◌++◌, length, get_or, refl, sym, ◌∙◌, ap, subst, arith}
use Rattle.std.proofs.Math.ListN.{set}
use Rattle.std.proofs.lemmas.Int.{ints}
use Rattle.std.proofs.lemmas.Bool.{cond-true}
use Rattle.std.proofs.lemmas.List.{get_or-set_same}
use Rattle.std.specs.List.{list_any}
use Rattle.wbt_replay_order.proofs.Common.{Trace, Count, Counter, Debt, ClearDue, Fold, Owed, domain_batch, context_batch, is_same, without_debt, debt_to, sum_of, put_changes, is_same-itself, times_in, CpuRecord, Setting, Rule, add, fold, fold_of, counted, clear, do_next, own_of, with_own, added, State, no_cpu, no_task, no_flusher, cpu_of, count_of, HasOwn, HasCount, Cpu, Flusher, ReplayTask, ReplayTurn, Whose, Todo, events_told, folds_told, founds_told, readings_told, HasTriples, AreAmong, is_decide, plain_entry, Suits, InCheck, Tidy, Looked, resumes, is_closing, bared, debts_in, own_in, count_in, FollowsCpu, Follows, Moves, by, IsCounter, Ranges, Held, DomainLimits, CheckEntry}
use Rattle.wbt_counter.specs.declared.counter.Counter.TheVariants.{Domain as ofDomain, Context as ofContext}
use Rattle.wbt_counter.specs.declared.record.Debt.TheVariants.{Event as OwesEvent, FoldDue}
use Rattle.wbt_counter.specs.Account.{amount}
use Rattle.wbt_counter.specs.Counters.{with_debt}
use Rattle.wbt_grant.specs.declared.who.StepKind.TheVariants as kind
use Rattle.wbt_grant.specs.declared.who.Word.TheVariants as word
use Rattle.wbt_grant.specs.Setting.{batch_of}
use Rattle.wbt_grant.specs.State as throttle
use Rattle.wbt_grant.specs.State.{writer_in as record_of}
use Rattle.wbt_grant.specs.Kinds as relation
use Rattle.wbt_grant.specs.Kinds.{local_after, local_left, own_now, shared_now, MayClear}
use Rattle.wbt_grant.specs.Record as made
use Rattle.wbt_grant.proofs.CounterSteps.{clear_leaves}
use Rattle.wbt_journal.specs.declared.entry.Entry.TheVariants as entry
use Rattle.wbt_journal.specs.Machine.{batch_of as batch_in}
use Rattle.wbt_replay_moves.specs.declared.state.Whose.TheVariants as whose
use Rattle.wbt_replay_moves.specs.declared.todo.Step.TheVariants as item
use Rattle.wbt_replay_moves.specs.declared.todo.Todo.TheVariants as todo
use Rattle.wbt_replay_order.specs.Kept.Following.{page_of}
use Rattle.wbt_replay_order.proofs.Facts.Lists.{twice}
use Rattle.wbt_replay_path.proofs.Follow.Debts.{bared_without, owes_event, owes_fold, owes_clear}
use Rattle.wbt_replay_order.proofs.Frames.Others.{IsTurnOn, one_cpu, stepping}
use Rattle.wbt_replay_order.proofs.Lists.Places.{cond_ap}
use Rattle.wbt_replay_path.proofs.Follow.Owned.{own_is, Owned, owned, own_at, own_elsewhere, count_is, shared, first_debt, first_gone, cleared_next}
use Rattle.wbt_replay_order.proofs.Frames.Quiet.{same_shared, plainly, all_same, no_check, calm}
use Rattle.wbt_replay_path.proofs.Follow.Tells.{events_more, folds_more, founds_more}

-- what a step of a CPU that is about no page leaves of its record
abbrev pub deeds : (r : CpuRecord) → List ℕ × ℕ × List ℕ
deeds r = (r.held, r.page_steps, r.found_dirty)

-- what it leaves of the CPU
abbrev pub whose_at : (c : Cpu) → Whose
whose_at c = c.turn.whose

-- A CPU makes a step that is about no page, and changes no task and no flusher.
pub steps_as : (trace : Trace) (setting : Setting) (i : ℕ) (c c2 : Cpu) (tasks : List ReplayTask) (flushers : List Flusher) (r r2 : CpuRecord) (own own2 : Counter → ℤ)
    → FollowsCpu trace setting i c tasks flushers r own
    → ((y : Counter) → own2 y ≡ own_in y c2.own_domains c2.own_contexts)
    → r2.events ≡ events_told [] c2.entries → r2.folds ≡ folds_told [] c2.entries → founds_told [] c2.entries ≡ founds_told [] c.entries
    → AreAmong (readings_told [] c2.checks) r2.readings → HasTriples trace setting c2.checks c2.held r2.triples
    → bared r2.debts ≡ debts_in c2.todo → Tidy c2.todo → Looked setting (page_of c2.turn.whose flushers) c2.turn.found c2.todo r2 → list_any is_closing c2.todo ≡ list_any is_closing c.todo
    → whose_at c2 ≡ whose_at c → deeds r2 ≡ deeds r → c.made ≤ c2.made
    → ((w : ℕ) → (record_of setting w r2.writers).left ≡ (record_of setting w r.writers).left)
    → ((task : ℕ) → c2.turn.whose ≡ whose.Task task → list_any is_decide c2.todo ≡ true → InCheck trace setting task (get_or tasks task no_task).context c2 r2)
    → FollowsCpu trace setting i c2 tasks flushers r2 own2
steps_as trace setting i c c2 tasks flushers r r2 own own2 h owns events folds founds readings triples debts tidy looked closing turn same made left check = record {
  own_is = owns;
  events = events;
  folds = folds;
  founds = ap (λ (k : List ℕ × ℕ × List ℕ). k.2) same ∙ (h.founds ∙ sym founds);
  readings = readings;
  triples = triples;
  debts = debts;
  tidy = tidy;
  looked = looked;
  scanning = λ f on none. h.scanning f on (λ e. sym closing ∙ none (turn ∙ e));
  held = λ p. ap (λ (k : List ℕ × ℕ × List ℕ). times_in p k.0) same ∙ h.held p;
  paced = omega (arith, h.paced, made, ap (λ (k : List ℕ × ℕ × List ℕ). k.1) same);
  left = λ w less seat free. left w ∙ h.left w less seat free;
  checked = h.checked;
  check = check;
}

-- one after which nothing is resumed
pub steps_on : (trace : Trace) (setting : Setting) (i : ℕ) (c c2 : Cpu) (tasks : List ReplayTask) (flushers : List Flusher) (r r2 : CpuRecord) (own own2 : Counter → ℤ)
    → FollowsCpu trace setting i c tasks flushers r own
    → ((y : Counter) → own2 y ≡ own_in y c2.own_domains c2.own_contexts)
    → r2.events ≡ events_told [] c2.entries → r2.folds ≡ folds_told [] c2.entries → founds_told [] c2.entries ≡ founds_told [] c.entries
    → AreAmong (readings_told [] c2.checks) r2.readings → HasTriples trace setting c2.checks c2.held r2.triples
    → bared r2.debts ≡ debts_in c2.todo → Tidy c2.todo → resumes c2.todo ≡ false → list_any is_closing c2.todo ≡ list_any is_closing c.todo
    → whose_at c2 ≡ whose_at c → deeds r2 ≡ deeds r → c.made ≤ c2.made
    → ((w : ℕ) → (record_of setting w r2.writers).left ≡ (record_of setting w r.writers).left)
    → ((task : ℕ) → c2.turn.whose ≡ whose.Task task → list_any is_decide c2.todo ≡ true → InCheck trace setting task (get_or tasks task no_task).context c2 r2)
    → FollowsCpu trace setting i c2 tasks flushers r2 own2
steps_on trace setting i c c2 tasks flushers r r2 own own2 h owns events folds founds readings triples debts tidy claims closing turn same made left check =
    steps_as trace setting i c c2 tasks flushers r r2 own own2 h owns events folds founds readings triples debts tidy
    (calm setting (page_of c2.turn.whose flushers) c2.turn.found c2.todo r2 claims) closing turn same made left check

-- an own number is no part of what a CPU holds of limits
owned_triples : (trace : Trace) (setting : Setting) (x : Counter) (n : ℤ) (c o : Cpu) (triples : List DomainLimits) → Owned x n c o
    → HasTriples trace setting c.checks c.held triples → HasTriples trace setting o.checks o.held triples
owned_triples trace setting x n c o triples to h =
    subst (λ (l : List Held). HasTriples trace setting o.checks l triples) (sym to.held)
    (subst (λ (l : List CheckEntry). HasTriples trace setting l c.held triples) (sym to.checks) h)

module _ (trace : Trace) (setting : Setting) (suits : Suits trace setting) (i : ℕ) (less : i < trace.cpus) (s : State) (t : throttle.State)
    (ranges : Ranges trace setting s) (h : Follows trace setting s t) where
  there : i < length s.cpus
  there = omega (arith, less, ranges.cpus)

  on : i < setting.cpus
  on = omega (arith, less, suits.cpus)

  turns : (j : ℕ) → j < trace.cpus → IsTurnOn trace j (cpu_of j s)
  turns j inside = ranges.turn_is j inside

  same_batch : (x : Counter) → batch_of setting x ≡ batch_in trace x
  same_batch (ofDomain d) = ap (λ (n : ℕ). domain_batch n) suits.cpus
  same_batch (ofContext k) = ap (λ (n : ℕ). context_batch n) suits.cpus

  module _ (x : Counter) (ts : List Todo) (here : IsCounter trace x) where
    abbrev c1 : Cpu
    c1 = record (cpu_of i s) { todo = ts; made = (cpu_of i s).made + 1 }

    abbrev s1 : State
    s1 = stepping i ts s

    has_own : HasOwn x c1
    has_own = by_name x here
      where
        by_name : (y : Counter) → IsCounter trace y → HasOwn y c1
        by_name (ofDomain d) is = omega (arith, is, ranges.own_domains i less)
        by_name (ofContext k) is = omega (arith, is, ranges.own_contexts i less)

    has_count : HasCount x s1
    has_count = by_name x here
      where
        by_name : (y : Counter) → IsCounter trace y → HasCount y s1
        by_name (ofDomain d) is = omega (arith, is, ranges.domains_are)
        by_name (ofContext k) is = omega (arith, is, ranges.contexts)

    -- what is followed, with what the CPU has to do written out
    opened : (first : Todo) → (cpu_of i s).todo ≡ first ∷ ts
        → FollowsCpu trace setting i (record (cpu_of i s) { todo = first ∷ ts }) s.tasks s.flushers (t.cpu i) (λ y. t.own y i)
    opened first is = subst (λ (l : List Todo). FollowsCpu trace setting i (record (cpu_of i s) { todo = l }) s.tasks s.flushers (t.cpu i) (λ y. t.own y i)) is (h.cpu i less)

    module _ (a : ℤ) (is : (cpu_of i s).todo ≡ todo.Step (item.Add x a) ∷ ts) where
      abbrev first : Todo
      first = todo.Step (item.Add x a)

      abbrev filled : List Todo
      filled = todo.Step (item.Fold x) ∷ todo.Step (item.Clear x) ∷ []

      add_here : (n : ℤ) (own2 : Counter → ℤ) (found : ℕ) (b : Bool)
          → ((y : Counter) → own2 y ≡ cond (is_same y x) n (own_in y (cpu_of i s).own_domains (cpu_of i s).own_contexts))
          → FollowsCpu trace setting i (cond b (do_next filled (with_own x n c1)) (with_own x n c1)) s.tasks s.flushers
          (made.stepped kind.Add (word.Own x) found (record (t.cpu i) { debts = cond b (with_debt x FoldDue (t.cpu i).debts) (without_debt x (t.cpu i).debts) }))
          own2
      add_here n own2 found b own_now_is =
          let f = opened first is in
          let to = owned x n c1 has_own in
          let rest : bared (without_debt x (t.cpu i).debts) ≡ debts_in ts = bared_without x (t.cpu i).debts ∙ (ap (without_debt x) f.debts ∙ (first_gone x (OwesEvent a) (debts_in ts) ∙ f.tidy.0.debts)) in
          by_full b (with_own x n c1) f to rest
        where
          by_full : (b : Bool) (o : Cpu) → FollowsCpu trace setting i (record (cpu_of i s) { todo = first ∷ ts }) s.tasks s.flushers (t.cpu i) (λ y. t.own y i)
              → Owned x n c1 o → bared (without_debt x (t.cpu i).debts) ≡ debts_in ts
              → FollowsCpu trace setting i (cond b (do_next filled o) o) s.tasks s.flushers
              (made.stepped kind.Add (word.Own x) found (record (t.cpu i) { debts = cond b (with_debt x FoldDue (t.cpu i).debts) (without_debt x (t.cpu i).debts) }))
              own2
          by_full true o f to rest =
              steps_on trace setting i (record (cpu_of i s) { todo = first ∷ ts }) (do_next filled o) s.tasks s.flushers (t.cpu i) _ (λ y. t.own y i) own2 f
              (λ y. own_now_is y ∙ sym (to.own y)) (f.events ∙ ap (events_told []) (sym to.entries)) (f.folds ∙ ap (folds_told []) (sym to.entries)) (ap (founds_told []) to.entries)
              (subst (λ l. AreAmong (readings_told [] l) (t.cpu i).readings) (sym to.checks) f.readings)
              (owned_triples trace setting x _ c1 o (t.cpu i).triples to f.triples)
              (ap (λ (l : List Owed). record { counter = x; debt = FoldDue } ∷ l) (rest ∙ sym f.tidy.0.debts ∙ sym (first_gone x (ClearDue (pos 0)) (debts_in ts)))
              ∙ ap (λ (l : List Todo). debts_in (filled ++ l)) (sym to.todos))
              (subst (λ (l : List Todo). Tidy (filled ++ l)) (sym to.todos) (refl, f.tidy))
              refl
              (ap (λ (l : List Todo). list_any is_closing l) to.todos)
              (ap (λ (q : ReplayTurn). q.whose) to.turn) refl (omega (arith, to.made)) (λ w. refl)
              (λ task whose decides. absurd (no_check trace setting i (record (cpu_of i s) { todo = first ∷ ts }) s.tasks s.flushers (t.cpu i) (λ y. t.own y i) f first ts refl (λ k g l. l) task
              (ap (λ (q : ReplayTurn). q.whose) (sym to.turn) ∙ whose) (ap (list_any is_decide) (sym to.todos) ∙ decides)))
          by_full false o f to rest =
              steps_on trace setting i (record (cpu_of i s) { todo = first ∷ ts }) o s.tasks s.flushers (t.cpu i) _ (λ y. t.own y i) own2 f
              (λ y. own_now_is y ∙ sym (to.own y)) (f.events ∙ ap (events_told []) (sym to.entries)) (f.folds ∙ ap (folds_told []) (sym to.entries)) (ap (founds_told []) to.entries)
              (subst (λ l. AreAmong (readings_told [] l) (t.cpu i).readings) (sym to.checks) f.readings)
              (owned_triples trace setting x _ c1 o (t.cpu i).triples to f.triples)
              (rest ∙ ap debts_in (sym to.todos))
              (subst Tidy (sym to.todos) f.tidy.1)
              (ap resumes to.todos ∙ f.tidy.0.claims)
              (ap (list_any is_closing) to.todos)
              (ap (λ (q : ReplayTurn). q.whose) to.turn) refl (omega (arith, to.made)) (λ w. refl)
              (λ task whose decides. absurd (no_check trace setting i (record (cpu_of i s) { todo = first ∷ ts }) s.tasks s.flushers (t.cpu i) (λ y. t.own y i) f first ts refl (λ k g l. l) task
              (ap (λ (q : ReplayTurn). q.whose) (sym to.turn) ∙ whose) (ap (list_any is_decide) (sym to.todos) ∙ decides)))

      pub add_moves : Moves trace setting s.steps (add trace i x a s1) t
      add_moves =
          let f = opened first is in
          let n : ℤ = own_of x c1 +ℤ a in
          let local : ℤ = local_after i x t in
          let o : Cpu = with_own x n c1 in
          let owed : debt_to x (t.cpu i).debts ≡ OwesEvent a = owes_event x a (t.cpu i).debts (ap (debt_to x) f.debts ∙ first_debt x (OwesEvent a) (debts_in ts)) in
          let local_is : local ≡ n = ap (λ (d : Debt). t.own x i +ℤ amount d) owed ∙ ap (λ (z : ℤ). z +ℤ a) (f.own_is x ∙ sym (own_is x c1)) in
          let full : Bool = eqb (unsigned_abs local) (batch_of setting x) in
          let full_is : eqb (unsigned_abs n) (batch_in trace x) ≡ full = ap (λ (z : ℤ). eqb (unsigned_abs z) (batch_in trace x)) (sym local_is) ∙ ap (eqb (unsigned_abs local)) (sym (same_batch x)) in
          let c2 : Cpu = cond full (do_next filled o) o in
          let r2 : CpuRecord = made.stepped kind.Add (word.Own x) (own_now x i t) (made.added (batch_of setting x) x local (t.cpu i)) in
          by (relation.add i x) refl (record { cpu_is = on; event_owed = owed ∙ sym (ap (λ (d : Debt). OwesEvent (amount d)) owed) }) refl
          (plainly trace setting suits i c2 r2 s t (add trace i x a s1) (relation.after setting (relation.add i x) t) there turns h
          (twice (λ (d : Cpu). added (batch_in trace x) x (own_of x d +ℤ a) d) s.cpus i c1 no_cpu there
          ∙ ap (λ (b : Bool). set s.cpus i (cond b (do_next filled o) o)) full_is)
          (same_shared s (add trace i x a s1) refl) refl (put_changes t.cpu i r2) (λ j y other. own_elsewhere t.own x i local y j other) (λ j other. all_same trace j s.tasks s.flushers) h.marks
          (add_here n _ (own_now x i t) full (λ y. own_at t.own x i local y ∙ (ap (λ (z : ℤ). cond (is_same y x) z (t.own y i)) local_is ∙ ap (cond (is_same y x) n) (f.own_is y)))))

    module _ (is : (cpu_of i s).todo ≡ todo.Step (item.Fold x) ∷ ts) where
      pub fold_moves : Moves trace setting s.steps (fold i x s1) t
      fold_moves =
          let f = opened (todo.Step (item.Fold x)) is in
          let n : Count = counted (own_of x (cpu_of i s1)) (count_of x s1) in
          let s2 : State = fold i x s1 in
          let sh = shared x n s1 has_count in
          let next = cleared_next x ts f.tidy.0 f.tidy.1 in
          let c2 : Cpu = fold_of x (count_of x s1) c1 in
          let delta : ℤ = t.own x i in
          let r2 : CpuRecord = made.stepped kind.Fold (word.Shared x) (shared_now x t) (made.folded x (suc (length (t.folds x))) delta (t.cpu i)) in
          let fold_made : ℕ → ℤ → Fold = λ version delta. record { counter = x; version = version; delta = delta } in
          let told_fold : Fold = fold_made ((count_of x s1).version + 1) (own_of x c1) in
          let rest : bared (without_debt x (t.cpu i).debts) ≡ without_debt x (debts_in ts) =
          bared_without x (t.cpu i).debts ∙ (ap (without_debt x) f.debts ∙ (first_gone x FoldDue (without_debt x (debts_in ts)) ∙ next.once)) in
          let delta_is : delta ≡ own_of x (cpu_of i s1) = f.own_is x ∙ (sym (own_is x c1) ∙ ap (own_of x) (sym (get_or-set_same s.cpus i c1 no_cpu there))) in
          let version : suc (length (t.folds x)) ≡ n.version = omega (arith, h.versions x, ap (λ (q : Count). q.version) (count_is x s1)) in
          let value : delta +ℤ sum_of (t.folds x) ≡ n.value = omega (arith, ints, h.values x, ap (λ (q : Count). q.value) (count_is x s1), delta_is) in
          let own_same : delta ≡ own_of x c1 = f.own_is x ∙ sym (own_is x c1) in
          let version_is = ap (λ (k : ℕ). fold_made k delta) version in
          let made_is : fold_made (suc (length (t.folds x))) delta ≡ told_fold = version_is ∙ ap (fold_made n.version) own_same in
          let told : r2.folds ≡ folds_told [] c2.entries =
          ap (λ (q : Fold). q ∷ (t.cpu i).folds) made_is ∙ (ap (λ (l : List Fold). told_fold ∷ l) f.folds ∙ sym (folds_more [] (cpu_of i s).entries (entry.Folded told_fold))) in
          let here2 : FollowsCpu trace setting i c2 s.tasks s.flushers r2 (λ y. t.own y i) =
          steps_on trace setting i (record (cpu_of i s) { todo = todo.Step (item.Fold x) ∷ ts }) c2 s.tasks s.flushers (t.cpu i) r2 (λ y. t.own y i) (λ y. t.own y i) f
          f.own_is (f.events ∙ sym (events_more [] (cpu_of i s).entries (entry.Folded told_fold))) told (founds_more [] (cpu_of i s).entries (entry.Folded told_fold)) f.readings f.triples
          (ap (λ (l : List Owed). record { counter = x; debt = ClearDue (pos 0) } ∷ l) rest ∙ sym next.debts)
          f.tidy.1 next.claims refl refl refl (omega arith) (λ w. refl)
          (λ task whose decides. absurd (no_check trace setting i (record (cpu_of i s) { todo = todo.Step (item.Fold x) ∷ ts }) s.tasks s.flushers (t.cpu i) (λ y. t.own y i) f (todo.Step (item.Fold x)) ts refl (λ k g l. l) task whose decides)) in
          by (relation.fold i x) refl (record { cpu_is = on; fold_owed = owes_fold x (t.cpu i).debts (ap (debt_to x) f.debts ∙ first_debt x FoldDue (without_debt x (debts_in ts))) })
          (ap (λ l. l ++ plain_entry i kind.Fold ∷ []) sh.steps)
          (one_cpu trace setting suits i c2 r2 s s2 t (relation.after setting (relation.fold i x) t) there turns h (record {
            cpus = ap (λ (cs : List Cpu). set cs i (fold_of x (count_of x s1) (cpu_of i s1))) sh.cpus ∙ twice (fold_of x (count_of x s1)) s.cpus i c1 no_cpu there;
            record_is = put_changes t.cpu i r2;
            owns = λ j y other. refl;
            others = λ j other. record {
              same_tasks = λ k at. ap (λ l. get_or l k no_task) sh.tasks;
              same_flushers = λ k at. ap (λ l. get_or l k no_flusher) sh.flushers;
            };
            here = subst (λ l. FollowsCpu trace setting i c2 s2.tasks l r2 (λ y. t.own y i)) (sym sh.flushers)
                (subst (λ l. FollowsCpu trace setting i c2 l s.flushers r2 (λ y. t.own y i)) (sym sh.tasks) here2);
            book = h.book ∙ sym sh.book;
            marks = λ m inside. h.marks m inside ∙ ap (λ l. get_or l m false) (sym sh.marks);
            versions = λ y. cond_ap length (is_same y x) ((i, delta) ∷ t.folds x) (t.folds y) ∙
                (ap (λ k. cond (is_same y x) k (length (t.folds y))) version ∙ (ap (cond (is_same y x) n.version) (h.versions y) ∙
                (sym (cond_ap (λ (q : Count). q.version) (is_same y x) n (count_in y s.domains s.contexts)) ∙ ap (λ (q : Count). q.version) (sym (sh.count y)))));
            values = λ y. cond_ap sum_of (is_same y x) ((i, delta) ∷ t.folds x) (t.folds y) ∙
                (ap (λ k. cond (is_same y x) k (sum_of (t.folds y))) value ∙ (ap (cond (is_same y x) n.value) (h.values y) ∙
                (sym (cond_ap (λ (q : Count). q.value) (is_same y x) n (count_in y s.domains s.contexts)) ∙ ap (λ (q : Count). q.value) (sym (sh.count y)))));
            published = λ d inside. h.published d inside ∙ sym (sh.limits d);
            peak = λ d inside. h.peak d inside ∙ sym (sh.peak d);
            timer = sh.timer;
            timer_record = refl;
          }))

    module _ (is : (cpu_of i s).todo ≡ todo.Step (item.Clear x) ∷ ts) where
      pub clear_moves : Rule setting t → Moves trace setting s.steps (clear i x s1) t
      clear_moves rule =
          let f = opened (todo.Step (item.Clear x)) is in
          let o : Cpu = with_own x (pos 0) c1 in
          let to = owned x (pos 0) c1 has_own in
          let r2 : CpuRecord = made.stepped kind.Clear (word.Own x) (own_now x i t) (made.cleared x (t.cpu i)) in
          let rest : bared (without_debt x (t.cpu i).debts) ≡ debts_in ts =
          bared_without x (t.cpu i).debts ∙ (ap (without_debt x) f.debts ∙ (first_gone x (ClearDue (pos 0)) (debts_in ts) ∙ f.tidy.0.debts)) in
          let may : MayClear setting i x (t.cpu i) = record {
            cpu_is = on;
            clear_owed = owes_clear x (t.cpu i).debts (ap (debt_to x) f.debts ∙ first_debt x (ClearDue (pos 0)) (debts_in ts));
          } in
          let left : ℤ = local_left i x t in
          let left_is : left ≡ pos 0 = sym (own_at t.own x i left x ∙ cond-true (is_same x x) left (t.own x i) (is_same-itself x)) ∙ (clear_leaves setting t i x rule may).1 in
          let own2 : Counter → ℤ = λ y. (relation.after setting (relation.clear i x) t).own y i in
          by (relation.clear i x) refl may refl
          (plainly trace setting suits i o r2 s t (clear i x s1) (relation.after setting (relation.clear i x) t) there turns h
          (twice (with_own x (pos 0)) s.cpus i c1 no_cpu there) (same_shared s (clear i x s1) refl) refl (put_changes t.cpu i r2) (λ j y other. own_elsewhere t.own x i left y j other)
          (λ j other. all_same trace j s.tasks s.flushers) h.marks
          (steps_on trace setting i (record (cpu_of i s) { todo = todo.Step (item.Clear x) ∷ ts }) o s.tasks s.flushers (t.cpu i) r2 (λ y. t.own y i) own2 f
          (λ y. own_at t.own x i left y ∙ (ap (λ (z : ℤ). cond (is_same y x) z (t.own y i)) left_is ∙ (ap (cond (is_same y x) (pos 0)) (f.own_is y) ∙ sym (to.own y))))
          (f.events ∙ ap (events_told []) (sym to.entries)) (f.folds ∙ ap (folds_told []) (sym to.entries)) (ap (founds_told []) to.entries)
          (subst (λ l. AreAmong (readings_told [] l) (t.cpu i).readings) (sym to.checks) f.readings)
          (owned_triples trace setting x _ c1 o (t.cpu i).triples to f.triples)
          (rest ∙ ap debts_in (sym to.todos)) (subst Tidy (sym to.todos) f.tidy.1) (ap resumes to.todos ∙ f.tidy.0.claims) (ap (list_any is_closing) to.todos)
          (ap (λ (q : ReplayTurn). q.whose) to.turn) refl (omega (arith, to.made)) (λ w. refl)
          (λ task whose decides. absurd (no_check trace setting i (record (cpu_of i s) { todo = todo.Step (item.Clear x) ∷ ts }) s.tasks s.flushers (t.cpu i) (λ y. t.own y i) f (todo.Step (item.Clear x)) ts refl (λ k g l. l) task
          (ap (λ (q : ReplayTurn). q.whose) (sym to.turn) ∙ whose) (ap (list_any is_decide) (sym to.todos) ∙ decides)))))
