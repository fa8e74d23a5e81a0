-- Loads follow the step relation: those of a check are made for its writer, and all others for the CPU.
use Rattle.std.proofs.Common.{◌≡◌, ℕ, zero, suc, ◌+◌, ◌<◌, ℤ, true, eqb, List, [], ◌∷◌, ◌++◌, length, get_or, All, refl, sym, ◌∙◌, ap, subst, arith, eq-eqb, eqb-true, true≢false, ⊎_elim}
use Rattle.std.proofs.lemmas.List.Elements.{All-cons}
use Rattle.std.proofs.Math.ListN.{set}
use Rattle.std.proofs.lemmas.Bool.{cases_Bool, cond-true, cond_both}
use Rattle.std.specs.List.{list_any}
use Rattle.wbt_replay_order.proofs.Common.{Trace, Limits, Count, Counter, sum_of, at_least_zero, put_changes, CpuRecord, DomainLimits, WriterRecord, Setting, Reading, Rule, held_of, domains, word_of, held_after, limits_kept, holds, load_first, load_middle, load_limits, count_kept, load_count, State, no_cpu, no_held, no_task, cpu_of, domain_of, count_of, group_of, Cpu, Found, Held, ReplayTurn, Whose, Todo, is_decide, plain_entry, readings_told, AreAmong, KeepsLoads, reading_of, FoldsBehind, writer_at, task_cpu, Suits, AreLoads, InCheck, turn_readings, count_in, FollowsCpu, Follows, Moves, by, Ranges, IsTurnOf, held_as}
use Rattle.wbt_counter.specs.declared.counter.Counter.TheVariants.{Domain as ofDomain, Context as ofContext}
use Rattle.wbt_grant.specs.declared.who.StepKind.TheVariants as kind
use Rattle.wbt_grant.specs.declared.who.Who.{Who}
use Rattle.wbt_grant.specs.declared.who.Who.TheVariants as who
use Rattle.wbt_grant.specs.declared.who.Word.TheVariants as word
use Rattle.wbt_grant.proofs.Whole.{load_is_fresh}
use Rattle.wbt_grant.specs.State as throttle
use Rattle.wbt_grant.specs.State.{writer_in as record_of, found_of}
use Rattle.wbt_grant.specs.Kinds as relation
use Rattle.wbt_grant.specs.Kinds.{sequence_now, thresh_now, has_sequence, has_both, limited_by, shared_now, counted_by}
use Rattle.wbt_grant.specs.Record as made
use Rattle.wbt_grant.proofs.Entries.{writer_number}
use Rattle.wbt_replay_moves.specs.declared.state.Whose.TheVariants as whose
use Rattle.wbt_replay_moves.specs.declared.todo.Step.TheVariants as item
use Rattle.wbt_replay_moves.specs.declared.todo.Todo.TheVariants as todo
use Rattle.wbt_replay_order.specs.Kept.Following.{HasMiddle, page_of}
use Rattle.wbt_replay_order.proofs.Facts.Lists.{twice}
use Rattle.wbt_replay_order.proofs.Lists.Places.{among_all, among_itself}
use Rattle.wbt_replay_path.proofs.Follow.Checks.{among_more, first_readings, middle_readings, limits_readings, limits_holds, limits_keeps, count_holds, count_readings, count_keeps}
use Rattle.wbt_replay_path.proofs.Follow.Counters.{steps_as, steps_on}
use Rattle.wbt_replay_path.proofs.Follow.Sequences.{first_looked, middle_looked, first_found, middle_found, held_now, held_apart, triples_now}
use Rattle.wbt_replay_path.proofs.Follow.Writers.{writer_with}
use Rattle.wbt_replay_order.proofs.Frames.Others.{IsTurnOn, stepping}
use Rattle.wbt_replay_path.proofs.Follow.Owned.{count_is}
use Rattle.wbt_replay_order.proofs.Frames.Quiet.{same_shared, plainly, all_same}

-- ---- the writer's record

-- a record with as many pages left takes the place of another
left_with : (setting : Setting) (w v : ℕ) (x : WriterRecord) (writers : List WriterRecord) → x.writer ≡ w → x.left ≡ (record_of setting w writers).left
    → (record_of setting v (made.with_writer x writers)).left ≡ (record_of setting v writers).left
left_with setting w v x writers number same =
    ap (λ (q : WriterRecord). q.left) (writer_with setting v x writers)
    ∙ cond_both (eqb v x.writer) x (record_of setting v writers) (λ (q : WriterRecord). q.left ≡ (record_of setting v writers).left)
    (λ yes. same ∙ ap (λ (n : ℕ). (record_of setting n writers).left) (sym (eqb-true v x.writer yes ∙ number)))
    (λ no. refl)

-- it is the writer's
its_own : (setting : Setting) (w : ℕ) (x : WriterRecord) (writers : List WriterRecord) → x.writer ≡ w → record_of setting w (made.with_writer x writers) ≡ x
its_own setting w x writers number = writer_with setting w x writers ∙ cond-true (eqb w x.writer) x (record_of setting w writers) (eq-eqb w x.writer (sym number))

-- a reading changes neither the writer nor its pages left
keeping_same : (setting : Setting) (w : ℕ) (x : Counter) (n : ℕ) (r : WriterRecord)
    → ◌≡◌ {A = ℕ × ℕ} ((made.keeping_reading setting w x n r).writer, (made.keeping_reading setting w x n r).left) (r.writer, r.left)
keeping_same setting w (ofDomain d) n r = refl
keeping_same setting w (ofContext k) n r = cond_both (eqb (setting.works_in w) k) _ r (λ (q : WriterRecord). ◌≡◌ {A = ℕ × ℕ} (q.writer, q.left) (r.writer, r.left)) (λ yes. refl) (λ no. refl)

-- what a check still loads after a count
loads_after : (context g : ℕ) (ts : List Todo) (x : Counter) → AreLoads context g (todo.Step (item.Count x) ∷ ts) → AreLoads context g ts
loads_after context g ts (ofDomain d) loads = loads.3
loads_after context g ts (ofContext k) loads = loads.1

-- the task of a turn
abbrev task_in : (w : Whose) → ℕ
task_in (whose.Task task) = task
task_in (whose.Flusher f) = 0

limits_whose : (d : ℕ) (held : Held) (turn : ReplayTurn) → (limits_kept d held turn).whose ≡ turn.whose
limits_whose zero held turn = refl
limits_whose (suc d) held turn = refl

count_whose : (x : Counter) (count : Count) (turn : ReplayTurn) → (count_kept x count turn).whose ≡ turn.whose
count_whose (ofDomain zero) count turn = refl
count_whose (ofDomain (suc d)) count turn = refl
count_whose (ofContext k) count turn = refl

module _ (trace : Trace) (setting : Setting) (suits : Suits trace setting) (i : ℕ) (less : i < trace.cpus) (s : State) (t : throttle.State)
    (ranges : Ranges trace setting s) (h : Follows trace setting s t) where
  there : i < length s.cpus
  there = omega (arith, less, ranges.cpus)

  on : i < setting.cpus
  on = omega (arith, less, suits.cpus)

  turns : (j : ℕ) → j < trace.cpus → IsTurnOn trace j (cpu_of j s)
  turns j inside = ranges.turn_is j inside

  abbrev turn : ReplayTurn
  turn = (cpu_of i s).turn

  abbrev context_in : (task : ℕ) → ℕ
  context_in task = (get_or s.tasks task no_task).context

  module _ (ts : List Todo) where
    abbrev c1 : Cpu
    c1 = record (cpu_of i s) { todo = ts; made = (cpu_of i s).made + 1 }

    abbrev s1 : State
    s1 = stepping i ts s

    -- what is followed, with what the CPU has to do written out
    opened : (first : Todo) → (cpu_of i s).todo ≡ first ∷ ts
        → FollowsCpu trace setting i (record (cpu_of i s) { todo = first ∷ ts }) s.tasks s.flushers (t.cpu i) (λ y. t.own y i)
    opened first is = subst (λ (l : List Todo). FollowsCpu trace setting i (record (cpu_of i s) { todo = l }) s.tasks s.flushers (t.cpu i) (λ y. t.own y i)) is (h.cpu i less)

    -- the task of a check is one of the CPU's
    on_cpu : (first : Todo) → (cpu_of i s).todo ≡ first ∷ ts → (task : ℕ) → turn.whose ≡ whose.Task task → task_cpu trace task ≡ i
    on_cpu first is task at =
        let its : IsTurnOf trace i (whose.Task task) = subst (IsTurnOf trace i) at (turns i less (omega (arith, ap length is))) in its.cpu_is

    -- ---- the first and the second load of limits

    module _ (d : ℕ) (is : (cpu_of i s).todo ≡ todo.Step (item.First d) ∷ ts) (inside : d < domains trace) where
      pub first_moves : Moves trace setting s.steps (load_first i d s1) t
      first_moves =
          let f = opened (todo.Step (item.First d)) is in
          let found : Found = word_of (domain_of d s) in
          let c2 : Cpu = record c1 { turn = record turn { found = found } } in
          let r2 : CpuRecord = made.stepped kind.First (word.Sequence d) (sequence_now setting d t) (made.found_first d (sequence_now setting d t) (t.cpu i)) in
          by (relation.first i d) refl (record { cpu_is = on }) refl
          (plainly trace setting suits i c2 r2 s t (load_first i d s1) (relation.after setting (relation.first i d) t) there turns h
          (twice (λ (c : Cpu). record c { turn = record c.turn { found = word_of (domain_of d s) } }) s.cpus i c1 no_cpu there)
          (same_shared s (load_first i d s1) refl) refl (put_changes t.cpu i r2) (λ j y other. refl) (λ j other. all_same trace j s.tasks s.flushers) h.marks
          (steps_as trace setting i (record (cpu_of i s) { todo = todo.Step (item.First d) ∷ ts }) c2 s.tasks s.flushers (t.cpu i) r2 (λ y. t.own y i) (λ y. t.own y i) f
          f.own_is f.events f.folds refl f.readings f.triples f.debts f.tidy.2
          (first_looked setting (page_of turn.whose s.flushers) d found ts r2 f.tidy.0 (first_found trace setting suits s t ranges h d inside (t.cpu i).loading))
          refl refl refl (omega arith) (λ v. refl)
          (λ task at decides.
          let q = f.check task at decides in record {
            writer = q.writer;
            loads = q.loads;
            readings = subst (λ l. AreAmong l (t.cpu i).readings) (sym (first_readings (context_in task) turn ts (group_of trace (context_in task)) d found (readings_told [] (cpu_of i s).checks))) q.readings;
            holds = record { global = q.holds.global; cgroup = q.holds.cgroup };
            behind = subst (λ (l : List Reading). All (FoldsBehind (t.cpu i).folds) l) (sym (first_readings (context_in task) turn ts (group_of trace (context_in task)) d found [])) q.behind;
            keeps = λ w known task_is context_is.
                let k = q.keeps w known task_is context_is in
                record { global_limits = k.global_limits; global_count = k.global_count; cgroup_limits = k.cgroup_limits; cgroup_count = k.cgroup_count; context_count = k.context_count };
          })))

    module _ (d : ℕ) (is : (cpu_of i s).todo ≡ todo.Step (item.Middle d) ∷ ts) (inside : d < domains trace) where
      pub middle_moves : Moves trace setting s.steps (load_middle i s1) t
      middle_moves =
          let f = opened (todo.Step (item.Middle d)) is in
          let r2 : CpuRecord = made.stepped kind.Middle (word.Thresh d) (thresh_now setting d t) (made.found_middle d (thresh_now setting d t) (t.cpu i)) in
          by (relation.middle i d) refl (record { cpu_is = on; first_found = ap has_sequence f.looked.first }) refl
          (plainly trace setting suits i c1 r2 s t (load_middle i s1) (relation.after setting (relation.middle i d) t) there turns h
          refl (same_shared s (load_middle i s1) refl) refl (put_changes t.cpu i r2) (λ j y other. refl) (λ j other. all_same trace j s.tasks s.flushers) h.marks
          (steps_as trace setting i (record (cpu_of i s) { todo = todo.Step (item.Middle d) ∷ ts }) c1 s.tasks s.flushers (t.cpu i) r2 (λ y. t.own y i) (λ y. t.own y i) f
          f.own_is f.events f.folds refl f.readings f.triples f.debts f.tidy.2
          (middle_looked setting (page_of turn.whose s.flushers) d turn.found ts r2 f.tidy.0 (middle_found trace setting suits s t ranges h d inside turn.found (t.cpu i).loading f.looked))
          refl refl refl (omega arith) (λ v. refl)
          (λ task at decides.
          let q = f.check task at decides in record {
            writer = q.writer;
            loads = q.loads;
            readings = subst (λ l. AreAmong l (t.cpu i).readings) (sym (middle_readings (context_in task) turn ts (group_of trace (context_in task)) d (readings_told [] (cpu_of i s).checks))) q.readings;
            holds = record { global = q.holds.global; cgroup = q.holds.cgroup };
            behind = subst (λ (l : List Reading). All (FoldsBehind (t.cpu i).folds) l) (sym (middle_readings (context_in task) turn ts (group_of trace (context_in task)) d [])) q.behind;
            keeps = λ w known task_is context_is.
                let k = q.keeps w known task_is context_is in
                record { global_limits = k.global_limits; global_count = k.global_count; cgroup_limits = k.cgroup_limits; cgroup_count = k.cgroup_count; context_count = k.context_count };
          })))

    -- ---- the last load, after which limits are held

    module _ (d : ℕ) (is : (cpu_of i s).todo ≡ todo.Step (item.Limits d) ∷ ts) (inside : d < domains trace) (rule : Rule setting t) where
      abbrev x : Held
      x = held_after turn.found (domain_of d s) (get_or (cpu_of i s).held d no_held)

      abbrev loaded : Cpu
      loaded = record c1 { held = set (cpu_of i s).held d x; turn = limits_kept d x turn }

      abbrev now : List DomainLimits
      now = made.triples_after setting d (sequence_now setting d t) (t.cpu i)

      abbrev r_limits : (by_whom : Who) → CpuRecord
      r_limits by_whom = made.stepped kind.Limits (word.Sequence d) (sequence_now setting d t) (made.limited setting by_whom d (sequence_now setting d t) (t.cpu i))

      has : HasMiddle setting d turn.found (t.cpu i).loading
      has = (opened (todo.Step (item.Limits d)) is).looked

      both : has_both (found_of d (t.cpu i).loading) ≡ true
      both = ap has_both has.both

      -- the CPU holds what its record holds
      holds_now : held_of setting d now ≡ held_as d x
      holds_now = held_now trace setting suits s t ranges h d inside rule i turn.found has (get_or (cpu_of i s).held d no_held) ((h.cpu i less).triples.held_is d inside)

      limits_follow : (by_whom : Who) → ((v : ℕ) → (record_of setting v (r_limits by_whom).writers).left ≡ (record_of setting v (t.cpu i).writers).left)
          → ((task : ℕ) → turn.whose ≡ whose.Task task → list_any is_decide ts ≡ true → InCheck trace setting task (context_in task) loaded (r_limits by_whom))
          → Follows trace setting (load_limits i d s1) (limited_by setting i by_whom d t)
      limits_follow by_whom left check =
          let f = opened (todo.Step (item.Limits d)) is in
          let r2 : CpuRecord = r_limits by_whom in
          let many : d < length (cpu_of i s).held = omega (arith, inside, ranges.held i less) in
          plainly trace setting suits i loaded r2 s t (load_limits i d s1) (limited_by setting i by_whom d t) there turns h
          (twice (λ (c : Cpu). holds d (domain_of d s) c) s.cpus i c1 no_cpu there)
          (same_shared s (load_limits i d s1) refl) refl (put_changes t.cpu i r2) (λ j y other. refl) (λ j other. all_same trace j s.tasks s.flushers) h.marks
          (steps_on trace setting i (record (cpu_of i s) { todo = todo.Step (item.Limits d) ∷ ts }) loaded s.tasks s.flushers (t.cpu i) r2 (λ y. t.own y i) (λ y. t.own y i) f
          f.own_is f.events f.folds refl f.readings
          (triples_now trace setting suits s t ranges h d inside rule i turn.found has (cpu_of i s).checks (cpu_of i s).held many f.triples)
          f.debts f.tidy.1 f.tidy.0.claims refl (limits_whose d x turn) refl (omega arith) left
          (λ task at decides. check task (sym (limits_whose d x turn) ∙ at) decides))

      limits_by_cpu : ((task : ℕ) → turn.whose ≡ whose.Task task → list_any is_decide ts ≡ true → ⊥) → Moves trace setting s.steps (load_limits i d s1) t
      limits_by_cpu idle = by (relation.limits (who.Cpu i) d) refl (record { loader = on; both_found = both }) refl (limits_follow (who.Cpu i) (λ v. refl) (λ task at decides. absurd (idle task at decides)))

      module _ (task w : ℕ) (at : turn.whose ≡ whose.Task task) (decides : list_any is_decide ts ≡ true) (known : w < setting.writers)
          (task_is : (writer_at trace w).task ≡ task) (context_is : (writer_at trace w).context ≡ context_in task) where
        limits_by_writer : Moves trace setting s.steps (load_limits i d s1) t
        limits_by_writer =
            let f = opened (todo.Step (item.Limits d)) is in
            let q = f.check task at decides in
            let g : ℕ = group_of trace (context_in task) in
            let seat : setting.seat w ≡ i = suits.seat w ∙ (ap (task_cpu trace) task_is ∙ on_cpu (todo.Step (item.Limits d)) is task at) in
            let x0 : WriterRecord = record_of setting w (t.cpu i).writers in
            let y : WriterRecord = made.keeping_limits d (held_of setting d now).limits x0 in
            let number : y.writer ≡ w = writer_number setting w (t.cpu i).writers in
            let same : (held_of setting d now).limits ≡ x.limits = ap (λ (l : DomainLimits). l.limits) holds_now in
            let checks : InCheck trace setting task (context_in task) loaded (r_limits (who.Writer w)) = record {
              writer = q.writer;
              loads = q.loads.4;
              readings = subst (λ l. AreAmong l (t.cpu i).readings) (sym (limits_readings (context_in task) turn ts g d x (readings_told [] (cpu_of i s).checks))) q.readings;
              behind = subst (λ (l : List Reading). All (FoldsBehind (t.cpu i).folds) l) (sym (limits_readings (context_in task) turn ts g d x [])) q.behind;
              holds = limits_holds (context_in task) turn ts setting g d x (t.cpu i).triples now q.loads holds_now (held_apart trace setting suits s t ranges h d inside rule i turn.found has) q.holds;
              keeps = λ v inside' same_task same_context.
                  let e : v ≡ w = suits.once v w inside' known (same_task ∙ sym task_is) (same_context ∙ sym context_is) in
                  subst (λ (z : WriterRecord). KeepsLoads (limits_kept d x turn) ts g z)
                  (sym (ap (λ (n : ℕ). record_of setting n (made.with_writer y (t.cpu i).writers)) e ∙ its_own setting w y (t.cpu i).writers number))
                  (subst (λ (l : Limits). KeepsLoads (limits_kept d x turn) ts g (made.keeping_limits d l x0)) (sym same)
                  (limits_keeps (context_in task) turn ts g d x x0 q.loads (q.keeps w known task_is context_is)));
            } in
            by (relation.limits (who.Writer w) d) refl (record { loader = known; both_found = subst (λ (n : ℕ). has_both (found_of d (t.cpu n).loading) ≡ true) (sym seat) both })
            (ap (λ (n : ℕ). s.steps ++ plain_entry n kind.Limits ∷ []) (sym seat))
            (subst (λ (n : ℕ). Follows trace setting (load_limits i d s1) (limited_by setting n (who.Writer w) d t)) (sym seat)
            (limits_follow (who.Writer w) (λ v. left_with setting w v y (t.cpu i).writers number refl)
            (λ k also done.
            let e : task ≡ k = ap task_in (sym at ∙ also) in
            subst (λ (n : ℕ). InCheck trace setting n (context_in n) loaded (r_limits (who.Writer w))) e checks)))

      by_whose : (w : Whose) → turn.whose ≡ w → Moves trace setting s.steps (load_limits i d s1) t
      by_whose (whose.Flusher f) at = limits_by_cpu (λ task also decides. absurd (cc (sym at ∙ also)))
      by_whose (whose.Task task) at = ⊎_elim
          (λ decides.
          let q = (opened (todo.Step (item.Limits d)) is).check task at decides in
          let w = suits.writer_is task (context_in task) q.writer in
          limits_by_writer task w.0 at decides w.1 w.2 w.3)
          (λ no. limits_by_cpu (λ k also decides. absurd (true≢false (sym decides ∙ no))))
          (cases_Bool (list_any is_decide ts))

      pub limits_moves : Moves trace setting s.steps (load_limits i d s1) t
      limits_moves = by_whose turn.whose refl

    -- ---- counts

    module _ (x : Counter) (is : (cpu_of i s).todo ≡ todo.Step (item.Count x) ∷ ts) where
      abbrev counting : (count : Count) → Cpu
      counting count = record c1 { turn = count_kept x count turn }

      -- what the relation finds
      abbrev found : Count
      found = record { version = length (t.folds x); value = sum_of (t.folds x) }

      found_is : found ≡ count_of x s
      found_is =
          let version : ℕ → Count = λ n. record { version = n; value = sum_of (t.folds x) } in
          let value : ℤ → Count = λ n. record { version = (count_in x s.domains s.contexts).version; value = n } in
          ap version (h.versions x) ∙ (ap value (h.values x) ∙ sym (count_is x s))

      abbrev r_count : (by_whom : Who) → CpuRecord
      r_count by_whom = made.stepped kind.Count (word.Shared x) (shared_now x t) (made.counted setting by_whom x (length (t.folds x)) (sum_of (t.folds x)) (t.cpu i))

      same_count : count_of x s1 ≡ count_of x s
      same_count = count_is x s1 ∙ sym (count_is x s)

      count_follows : (by_whom : Who) → ((v : ℕ) → (record_of setting v (r_count by_whom).writers).left ≡ (record_of setting v (t.cpu i).writers).left)
          → ((task : ℕ) → turn.whose ≡ whose.Task task → list_any is_decide ts ≡ true → InCheck trace setting task (context_in task) (counting found) (r_count by_whom))
          → Follows trace setting (load_count i x s1) (counted_by setting i by_whom x t)
      count_follows by_whom left check =
          let f = opened (todo.Step (item.Count x)) is in
          let r2 : CpuRecord = r_count by_whom in
          let here : FollowsCpu trace setting i (counting found) s.tasks s.flushers r2 (λ y. t.own y i) =
          steps_on trace setting i (record (cpu_of i s) { todo = todo.Step (item.Count x) ∷ ts }) (counting found) s.tasks s.flushers (t.cpu i) r2 (λ y. t.own y i) (λ y. t.own y i) f
          f.own_is f.events f.folds refl (among_more _ (t.cpu i).readings _ f.readings) f.triples f.debts f.tidy.1 f.tidy.0.claims refl (count_whose x found turn) refl (omega arith) left
          (λ task at decides. check task (sym (count_whose x found turn) ∙ at) decides) in
          plainly trace setting suits i (counting (count_of x s)) r2 s t (load_count i x s1) (counted_by setting i by_whom x t) there turns h
          (ap (λ (n : Count). set (set s.cpus i c1) i (record (cpu_of i s1) { turn = count_kept x n (cpu_of i s1).turn })) same_count
          ∙ twice (λ (c : Cpu). record c { turn = count_kept x (count_of x s) c.turn }) s.cpus i c1 no_cpu there)
          (same_shared s (load_count i x s1) refl) refl (put_changes t.cpu i r2) (λ j y other. refl) (λ j other. all_same trace j s.tasks s.flushers) h.marks
          (subst (λ (n : Count). FollowsCpu trace setting i (counting n) s.tasks s.flushers r2 (λ y. t.own y i)) found_is here)

      count_by_cpu : ((task : ℕ) → turn.whose ≡ whose.Task task → list_any is_decide ts ≡ true → ⊥) → Moves trace setting s.steps (load_count i x s1) t
      count_by_cpu idle = by (relation.count (who.Cpu i) x) refl on refl (count_follows (who.Cpu i) (λ v. refl) (λ task at decides. absurd (idle task at decides)))

      module _ (task w : ℕ) (at : turn.whose ≡ whose.Task task) (decides : list_any is_decide ts ≡ true) (known : w < setting.writers)
          (task_is : (writer_at trace w).task ≡ task) (context_is : (writer_at trace w).context ≡ context_in task) where
        count_by_writer : Rule setting t → Moves trace setting s.steps (load_count i x s1) t
        count_by_writer rule =
            let f = opened (todo.Step (item.Count x)) is in
            let q = f.check task at decides in
            let g : ℕ = group_of trace (context_in task) in
            let seat : setting.seat w ≡ i = suits.seat w ∙ (ap (task_cpu trace) task_is ∙ on_cpu (todo.Step (item.Count x)) is task at) in
            let works : setting.works_in w ≡ context_in task = suits.works_in w ∙ context_is in
            let x0 : WriterRecord = record_of setting w (t.cpu i).writers in
            let y0 : WriterRecord = made.keeping_reading setting w x (at_least_zero (sum_of (t.folds x))) x0 in
            let same = keeping_same setting w x (at_least_zero (sum_of (t.folds x))) x0 in
            let number : y0.writer ≡ w = ap (λ (p : ℕ × ℕ). p.0) same ∙ writer_number setting w (t.cpu i).writers in
            let checks : InCheck trace setting task (context_in task) (counting found) (r_count (who.Writer w)) = record {
              writer = q.writer;
              loads = loads_after (context_in task) g ts x q.loads;
              readings = count_readings (context_in task) turn ts found g x (readings_told [] (cpu_of i s).checks) (t.cpu i).readings q.loads q.readings;
              behind = (
                  let those : List Reading = turn_readings (context_in task) g turn (todo.Step (item.Count x) ∷ ts) [] in
                  among_all (FoldsBehind (t.cpu i).folds) (turn_readings (context_in task) g (count_kept x found turn) ts []) (reading_of x found ∷ those)
                  (count_readings (context_in task) turn ts found g x [] those q.loads (among_itself those))
                  (All-cons (FoldsBehind (t.cpu i).folds) (reading_of x found) those (load_is_fresh setting t rule i x).folds_behind q.behind)
                  );
              holds = count_holds (context_in task) turn ts found setting g x (t.cpu i).triples q.holds;
              keeps = λ v inside same_task same_context.
                  let e : v ≡ w = suits.once v w inside known (same_task ∙ sym task_is) (same_context ∙ sym context_is) in
                  subst (λ (y : WriterRecord). KeepsLoads (count_kept x found turn) ts g y)
                  (sym (ap (λ (n : ℕ). record_of setting n (made.with_writer y0 (t.cpu i).writers)) e ∙ its_own setting w y0 (t.cpu i).writers number))
                  (count_keeps (context_in task) turn ts found setting w g x x0 works q.loads (q.keeps w known task_is context_is));
            } in
            by (relation.count (who.Writer w) x) refl known
            (ap (λ (n : ℕ). s.steps ++ plain_entry n kind.Count ∷ []) (sym seat))
            (subst (λ (n : ℕ). Follows trace setting (load_count i x s1) (counted_by setting n (who.Writer w) x t)) (sym seat)
            (count_follows (who.Writer w) (λ v. left_with setting w v y0 (t.cpu i).writers number (ap (λ (p : ℕ × ℕ). p.1) same))
            (λ k also done.
            let e : task ≡ k = ap task_in (sym at ∙ also) in
            subst (λ (n : ℕ). InCheck trace setting n (context_in n) (counting found) (r_count (who.Writer w))) e checks)))

      by_turn : Rule setting t → (w : Whose) → turn.whose ≡ w → Moves trace setting s.steps (load_count i x s1) t
      by_turn rule (whose.Flusher f) at = count_by_cpu (λ task also decides. absurd (cc (sym at ∙ also)))
      by_turn rule (whose.Task task) at = ⊎_elim
          (λ decides.
          let q = (opened (todo.Step (item.Count x)) is).check task at decides in
          let w = suits.writer_is task (context_in task) q.writer in
          count_by_writer task w.0 at decides w.1 w.2 w.3 rule)
          (λ no. count_by_cpu (λ k also decides. absurd (true≢false (sym decides ∙ no))))
          (cases_Bool (list_any is_decide ts))

      pub count_moves : Rule setting t → Moves trace setting s.steps (load_count i x s1) t
      count_moves rule = by_turn rule turn.whose refl
