-- Silent moves of a turn leave the step relation where it is.
use Rattle.std.proofs.Common.{◌≡◌, ℕ, ◌+◌, ◌<◌, true, false, ◌||◌, ltb, List, [], ◌∷◌, ◌++◌, length, get_or, fold, Option, Some, None, refl, sym, ◌∙◌, ap, subst, arith, Bool, unwrap_or}
use Rattle.std.proofs.Math.ListN.{set}
use Rattle.std.proofs.lemmas.List.{get_or-set_same, set-get_or}
use Rattle.std.specs.List.{list_any}
use Rattle.wbt_replay_order.proofs.Common.{Trace, update_of, Estimate, Setting, Fold, Entry, writer_of, do_next, then_do, estimated, log_at, sample_of, estimate_to, estimate, rest_until, take_or_rest, with_hard, test_by, take_now, with_pairs, told_by, waits, noticed, age, tested_by, FLUSHER_REST, is_scan_over, places_after, keep_place, close_in, close_by, State, no_cpu, no_task, no_flusher, cpu_of, task_of, flusher_of, writeback_of, queue_of, no_waiting, waiting_of, with_waiting, with_queue, in_phase, flusher_device, is_over_by_itself, over_noted, weigh, weighed_by, leaked, end_now, has_nothing, end_by, Scan, Cpu, Flusher, ReplayPhase, ReplayTask, ReplayTurn, Whose, Silent, Todo, folds_told, founds_told, is_decide, events_with, folds_with, founds_with, IsFlusherOn, IsTaskOn, Suits, Tidy, Looked, ScansInside, AreLoads, is_closing, debts_in, batched, FollowsCpu, Follows, Moves, Ranges, IsTurnOf, IsInside, Found, CpuRecord, Event}
use Rattle.wbt_grant.specs.State as throttle
use Rattle.wbt_journal.specs.declared.entry.Entry.TheVariants as entry
use Rattle.wbt_replay_moves.specs.Definition.Idle.{take, test}
use Rattle.wbt_replay_moves.specs.Definition.Scan.{close}
use Rattle.wbt_replay_moves.specs.Definition.Writer.{end}
use Rattle.wbt_replay_moves.specs.declared.state.ReplayPhase.TheVariants as phase
use Rattle.wbt_replay_moves.specs.declared.state.Whose.TheVariants as whose
use Rattle.wbt_replay_moves.specs.declared.todo.Silent.TheVariants as silent
use Rattle.wbt_replay_moves.specs.declared.todo.Step.TheVariants as item
use Rattle.wbt_replay_moves.specs.declared.todo.Todo.TheVariants as todo
use Rattle.wbt_replay_order.proofs.Facts.Lists.{either, twice}
use Rattle.wbt_replay_order.proofs.Facts.Scans.{scan_page}
use Rattle.wbt_replay_path.proofs.Follow.Alike.{Alike, alike_context, alike_moves, TellsNothing, alike_log, alike_lists, alike_push}
use Rattle.wbt_replay_order.proofs.Frames.Others.{IsTurnOn, popped}
use Rattle.wbt_replay_path.proofs.Follow.Held.{batched_same}
use Rattle.wbt_replay_path.proofs.Follow.Pages.{flushers_elsewhere, scans_on}
use Rattle.wbt_replay_order.proofs.Frames.Quiet.{both_of, passes, same_shared, all_same, no_check, one_task, calm}
use Rattle.wbt_replay_path.proofs.Follow.Tells.{events_more, folds_more, founds_more}
use Rattle.wbt_replay_path.proofs.Follow.Writers.{tasks_elsewhere}
use Rattle.wbt_expiry.specs.declared.due.Due.{Due}
use Rattle.wbt_expiry.specs.Waiting.{Waiting as Wheel}
use Rattle.wbt_replay_order.proofs.Facts.Ages.{noticed_kept, aged_kept}

module _ (trace : Trace) (setting : Setting) (suits : Suits trace setting) (i : ℕ) (less : i < trace.cpus) (s : State) (t : throttle.State)
    (ranges : Ranges trace setting s) (h : Follows trace setting s t) where
  pub there : i < length s.cpus
  there = omega (arith, less, ranges.cpus)

  pub turns : (j : ℕ) → j < trace.cpus → IsTurnOn trace j (cpu_of j s)
  turns j inside = ranges.turn_is j inside

  module _ (x : Silent) (ts : List Todo) (is : (cpu_of i s).todo ≡ todo.Silent x ∷ ts) (quiet : (k g : ℕ) → AreLoads k g (todo.Silent x ∷ ts) → ⊥) where
    abbrev c1 : Cpu
    c1 = record (cpu_of i s) { todo = ts }

    abbrev s1 : State
    s1 = popped i ts s

    pub same_turn : (cpu_of i s1).turn.whose ≡ (cpu_of i s).turn.whose
    same_turn = ap (λ (c : Cpu). c.turn.whose) (get_or-set_same s.cpus i c1 no_cpu there)

    pub whose_on : IsTurnOf trace i (cpu_of i s).turn.whose
    whose_on = ranges.turn_is i less (omega (arith, ap length is))

    abbrev pub f0 : FollowsCpu trace setting i (record (cpu_of i s) { todo = todo.Silent x ∷ ts }) s.tasks s.flushers (t.cpu i) (λ x. t.own x i)
    f0 = subst (λ (l : List Todo). FollowsCpu trace setting i (record (cpu_of i s) { todo = l }) s.tasks s.flushers (t.cpu i) (λ x. t.own x i)) is (h.cpu i less)

    pub undecided : (n : ℕ) → (cpu_of i s).turn.whose ≡ whose.Task n → list_any is_decide ts ≡ true → ⊥
    undecided = no_check trace setting i (cpu_of i s) s.tasks s.flushers (t.cpu i) (λ y. t.own y i) (h.cpu i less) (todo.Silent x) ts is quiet

    pub passed : ((g : ℕ) → IsFlusherOn trace i g → ((cpu_of i s).turn.whose ≡ whose.Flusher g → list_any is_closing ts ≡ false) → ScansInside trace (flusher_of g s).phase)
        → Moves trace setting s.steps s1 t
    passed scanning = passes trace setting suits i s t there turns h less (todo.Silent x) ts is refl f0.tidy.0.claims f0.tidy.1 scanning undecided

    -- in a task's turn no scan closes
    pub by_task : (task : ℕ) → (cpu_of i s).turn.whose ≡ whose.Task task → Moves trace setting s.steps s1 t
    by_task task turn = passes trace setting suits i s t there turns h less (todo.Silent x) ts is refl f0.tidy.0.claims f0.tidy.1
        (λ g on closing. f0.scanning g on (λ e. absurd (cc (sym turn ∙ e)))) undecided

    -- A flusher's turn goes on with these items, its flusher another one with the same batch.
    pub turn_moves : (f : ℕ) → IsFlusherOn trace i f → (cpu_of i s).turn.whose ≡ whose.Flusher f → (items : List Todo) (v : Flusher) (s2 : State)
        → Alike i (record (cpu_of i s) { todo = items }) s s2 → s2.tasks ≡ s.tasks → s2.flushers ≡ set s.flushers f v → v.batch ≡ (flusher_of f s).batch
        → debts_in items ≡ debts_in ts → Tidy items → ((p : ℕ) (found : Found) (r : CpuRecord) → Looked setting p found items r)
        → (list_any is_closing items ≡ false → ScansInside trace v.phase) → Moves trace setting s.steps s2 t
    turn_moves f on turn items v s2 al tasks flushers batch debts tidy looked inside =
        let f_there : f < length s.flushers = omega (arith, on.there, ranges.flushers) in
        let base : Cpu = record (cpu_of i s) { todo = items } in
        alike_moves trace setting suits i base s t s2 there less turns h
        (λ j other. record {
          same_tasks = λ k at. ap (λ (l : List ReplayTask). get_or l k no_task) tasks;
          same_flushers = λ k at. ap (λ (l : List Flusher). get_or l k no_flusher) flushers ∙ flushers_elsewhere trace i j f s.flushers v on.cpu_is other k at;
        })
        al refl refl refl (omega arith) refl refl (debts ∙ ap debts_in (sym is)) tidy looked
        (λ g g_on closing. subst (λ (l : List Flusher). ScansInside trace (get_or l g no_flusher).phase) (sym flushers)
        (scans_on trace setting i _ base s.tasks s.flushers (t.cpu i) (λ y. t.own y i) f v f0 turn f_there (λ ends. inside (ends turn)) g g_on closing))
        (λ p. ap (λ (l : List Flusher). batched trace i l p) flushers ∙ batched_same trace s.flushers f v i p f_there batch)
        (λ k. ap (λ (l : List ReplayTask). ((get_or l k no_task).writers, (get_or l k no_task).context)) tasks)
        (λ n same decides. absurd (cc (sym same ∙ turn)))

  -- ---- the end of a task's turn

  module _ (ts : List Todo) (is : (cpu_of i s).todo ≡ todo.Silent silent.End ∷ ts) where
    abbrev e0 : FollowsCpu trace setting i (record (cpu_of i s) { todo = todo.Silent silent.End ∷ ts }) s.tasks s.flushers (t.cpu i) (λ x. t.own x i)
    e0 = f0 silent.End ts is (λ a b none. none)

    ends_now : (task : ℕ) → IsTaskOn trace i task → (cpu_of i s).turn.whose ≡ whose.Task task → Moves trace setting s.steps (end_now i task (popped i ts s)) t
    ends_now task on turn =
        let s2 : State = end_now i task (popped i ts s) in
        let v : ReplayTask = record (task_of task s) { ended = true } in
        let write : Cpu → Cpu = λ c. record c { local = fold leaked c.local (task_of task s).writers } in
        let task_there : task < length s.tasks = omega (arith, on.there, ranges.tasks) in
        alike_moves trace setting suits i (write (c1 silent.End ts is (λ a b none. none))) s t s2 there less turns h
        (λ j other. record { same_tasks = tasks_elsewhere trace i j task s.tasks v on.cpu_is other; same_flushers = λ k at. refl })
        (record {
          becomes = write (c1 silent.End ts is (λ a b none. none));
          cpus = twice write s.cpus i (c1 silent.End ts is (λ a b none. none)) no_cpu there;
          same = refl;
          shared = same_shared s s2 refl;
          marks = refl;
          steps = refl;
        })
        refl refl refl (omega arith) refl refl (ap debts_in (sym is)) e0.tidy.1 (λ p found r. calm setting p found ts r e0.tidy.0.claims) e0.scanning (λ p. refl)
        (one_task s.tasks task v task_there refl refl) (undecided silent.End ts is (λ a b none. none))

    end_by_moves : (whose : Whose) → (cpu_of i s).turn.whose ≡ whose → IsTurnOf trace i whose → Moves trace setting s.steps (end_by i whose (popped i ts s)) t
    end_by_moves (whose.Task task) turn on = either (λ q. Moves trace setting s.steps q t) (has_nothing (task_of task s).works (writer_of (task_of task s)).due) _ _
        (λ over. ends_now task on turn) (λ more. by_task silent.End ts is (λ a b none. none) task turn)
    end_by_moves (whose.Flusher f) turn on = passes trace setting suits i s t there turns h less (todo.Silent silent.End) ts is refl e0.tidy.0.claims e0.tidy.1 e0.scanning
        (undecided silent.End ts is (λ a b none. none))

    pub end_moves : Moves trace setting s.steps (end i (popped i ts s)) t
    end_moves = subst (λ (w : Whose). Moves trace setting s.steps (end_by i w (popped i ts s)) t) (sym (same_turn silent.End ts is (λ a b none. none)))
        (end_by_moves (cpu_of i s).turn.whose refl (whose_on silent.End ts is (λ a b none. none)))

  -- ---- an estimate

  module _ (k : ℕ) (ts : List Todo) (is : (cpu_of i s).todo ≡ todo.Silent (silent.Estimate k) ∷ ts) where
    abbrev n0 : FollowsCpu trace setting i (record (cpu_of i s) { todo = todo.Silent (silent.Estimate k) ∷ ts }) s.tasks s.flushers (t.cpu i) (λ x. t.own x i)
    n0 = f0 (silent.Estimate k) ts is (λ a b none. none)

    to_moves : (found : Option Estimate) → Moves trace setting s.steps (estimate_to i k found (popped i ts s)) t
    to_moves None = passes trace setting suits i s t there turns h less (todo.Silent (silent.Estimate k)) ts is refl n0.tidy.0.claims n0.tidy.1 n0.scanning
        (undecided (silent.Estimate k) ts is (λ a b none. none))
    to_moves (Some e) =
        let start : Cpu = c1 (silent.Estimate k) ts is (λ a b none. none) in
        let s0 : State = popped i ts s in
        let s2 : State = estimate_to i k (Some e) s0 in
        let write : Cpu → Cpu = λ c. estimated (record { context = k; estimate = e }) c in
        let name : Entry = entry.Est (length (cpu_of i s).estimates) in
        let entries : List Entry = (cpu_of i s).entries in
        let both = ap (λ (l : List Fold). both_of l (founds_told [] (entries ++ name ∷ []))) (folds_more [] entries name)
        ∙ ap (λ (l : List ℕ). both_of (folds_told [] entries) l) (founds_more [] entries name) in
        let first : Alike i start s s0 = record { becomes = start; cpus = refl; same = refl; shared = same_shared s s0 refl; marks = refl; steps = refl } in
        let second = alike_context i start s there s0 k (record (writeback_of k s0) { estimate = e }) refl first in
        alike_moves trace setting suits i (write start) s t s2 there less turns h (λ j other. all_same trace j s.tasks s.flushers)
        (record {
          becomes = write start;
          cpus = twice write s.cpus i start no_cpu there;
          same = refl;
          shared = record {
            same_book = refl;
            counts = second.shared.counts;
            same_limits = second.shared.same_limits;
            peaks = second.shared.peaks;
            same_timer = refl;
          };
          marks = refl;
          steps = refl;
        })
        refl refl refl (omega arith) (events_more [] entries name) both (ap debts_in (sym is)) n0.tidy.1
        (λ p found r. calm setting p found ts r n0.tidy.0.claims) n0.scanning (λ p. refl) (λ m. refl) (undecided (silent.Estimate k) ts is (λ a b none. none))

    pub estimate_moves : Moves trace setting s.steps (estimate trace i k (popped i ts s)) t
    estimate_moves =
        let s0 : State = popped i ts s in
        to_moves (update_of (writeback_of k s0).estimate (sample_of trace k (cpu_of i s0).turn s0))

  -- ---- a context is weighed

  module _ (k : ℕ) (ts : List Todo) (is : (cpu_of i s).todo ≡ todo.Silent (silent.Weigh k) ∷ ts) where
    abbrev w0 : FollowsCpu trace setting i (record (cpu_of i s) { todo = todo.Silent (silent.Weigh k) ∷ ts }) s.tasks s.flushers (t.cpu i) (λ x. t.own x i)
    w0 = f0 (silent.Weigh k) ts is (λ a b none. none)

    pub weigh_moves : Moves trace setting s.steps (weigh trace i k (popped i ts s)) t
    weigh_moves =
        let start : Cpu = c1 (silent.Weigh k) ts is (λ a b none. none) in
        let s0 : State = popped i ts s in
        let s2 : State = weigh trace i k s0 in
        let write : Cpu → Cpu = λ c. over_noted (is_over_by_itself (weighed_by trace k c s0)) c in
        alike_moves trace setting suits i (write start) s t s2 there less turns h (λ j other. all_same trace j s.tasks s.flushers)
        (record {
          becomes = write start;
          cpus = twice write s.cpus i start no_cpu there;
          same = refl;
          shared = same_shared s s2 refl;
          marks = refl;
          steps = refl;
        })
        refl refl refl (omega arith) refl refl (ap debts_in (sym is)) w0.tidy.1
        (λ p found r. calm setting p found ts r w0.tidy.0.claims) w0.scanning (λ p. refl) (λ m. refl) (undecided (silent.Weigh k) ts is (λ a b none. none))

  -- ---- a test

  module _ (ts : List Todo) (is : (cpu_of i s).todo ≡ todo.Silent silent.Test ∷ ts) (f : ℕ) (on : IsFlusherOn trace i f) (turn : (cpu_of i s).turn.whose ≡ whose.Flusher f)
      (hard : ℕ) where
    abbrev q0 : FollowsCpu trace setting i (record (cpu_of i s) { todo = todo.Silent silent.Test ∷ ts }) s.tasks s.flushers (t.cpu i) (λ x. t.own x i)
    q0 = f0 silent.Test ts is (λ a b none. none)

    abbrev start : Cpu
    start = record (cpu_of i s) { todo = ts }

    abbrev s3 : State
    s3 = with_hard f hard (popped i ts s)

    f_inside : f < length s.flushers
    f_inside = omega (arith, on.there, ranges.flushers)

    rests : (until : ℕ) → Moves trace setting s.steps (rest_until f until s3) t
    rests until =
        let s2 : State = rest_until f until s3 in
        let v1 : Flusher = record (flusher_of f s) { hard = hard } in
        turn_moves silent.Test ts is (λ a b none. none) f on turn ts (record v1 { phase = phase.Idle until false }) s2
        (record { becomes = start; cpus = refl; same = refl; shared = same_shared s s2 refl; marks = refl; steps = refl }) refl
        (twice (λ (y : Flusher). record y { phase = phase.Idle until false }) s.flushers f v1 no_flusher f_inside) refl refl q0.tidy.1
        (λ p found r. calm setting p found ts r q0.tidy.0.claims) (λ closing. tt)

    takes : (inode : ℕ) (inodes : List ℕ) → Moves trace setting s.steps (take trace i f inode inodes s3) t
    takes inode inodes =
        let s2 : State = take trace i f inode inodes s3 in
        let v1 : Flusher = record (flusher_of f s) { hard = hard } in
        let items : List Todo = todo.Step item.Unmark ∷ ts in
        turn_moves silent.Test ts is (λ a b none. none) f on turn items (record v1 { phase = phase.Taken inode }) s2
        (record { becomes = record (cpu_of i s) { todo = items }; cpus = twice (do_next (todo.Step item.Unmark ∷ [])) s.cpus i start no_cpu there; same = refl; shared = same_shared s s2 refl; marks = refl; steps = refl }) refl
        (twice (λ (y : Flusher). record y { phase = phase.Taken inode }) s.flushers f v1 no_flusher f_inside) refl refl (q0.tidy.0, q0.tidy.1)
        (λ p found r. tt) (λ closing. tt)

    -- by age: what notices leave is another list, a queue and more entries
    record Noticed (u : State) : Type 0 where
      al : Alike i start s u
      tasks : u.tasks ≡ s.tasks
      flusher : Flusher
      flushers : u.flushers ≡ set s.flushers f flusher
      batch : flusher.batch ≡ (flusher_of f s).batch

    -- the flusher's list becomes another one
    lists_on : (list : Wheel → Wheel) (u : State) → Noticed u → Noticed (with_waiting f (list (waiting_of f u)) u)
    lists_on list u n =
        let makes : Flusher → Flusher = λ y. record y { wheel = Some (list (unwrap_or y.wheel no_waiting)) } in
        let v : State = with_waiting f (list (waiting_of f u)) u in
        record {
          al = alike_lists i start s there u u.queues v.flushers n.al;
          tasks = n.tasks;
          flusher = makes n.flusher;
          flushers = ap (λ (l : List Flusher). set l f (makes (get_or l f no_flusher))) n.flushers ∙ twice makes s.flushers f n.flusher no_flusher f_inside;
          batch = n.batch;
        }

    queues_on : (queues : List (List ℕ)) (u : State) → Noticed u → Noticed (record u { queues = queues })
    queues_on queues u n = record { al = alike_lists i start s there u queues u.flushers n.al; tasks = n.tasks; flusher = n.flusher; flushers = n.flushers; batch = n.batch }

    logs_on : (e : Entry) → TellsNothing e → (u : State) → Noticed u → Noticed (log_at i e u)
    logs_on e none u n = record { al = alike_log i start s there u e none n.al; tasks = n.tasks; flusher = n.flusher; flushers = n.flushers; batch = n.batch }

    phases : (p : ReplayPhase) (u : State) (n : Noticed u) → (in_phase f p u).flushers ≡ set s.flushers f (record n.flusher { phase = p })
    phases p u n =
        ap (λ (l : List Flusher). set l f (record (get_or l f no_flusher) { phase = p })) n.flushers ∙ twice (λ (y : Flusher). record y { phase = p }) s.flushers f n.flusher no_flusher f_inside

    aged_rests : (until : ℕ) (u : State) → Noticed u → Moves trace setting s.steps (rest_until f until u) t
    aged_rests until u n =
        turn_moves silent.Test ts is (λ a b none. none) f on turn ts (record n.flusher { phase = phase.Idle until false }) (rest_until f until u)
        (alike_lists i start s there u u.queues (rest_until f until u).flushers n.al) n.tasks (phases (phase.Idle until false) u n) n.batch refl q0.tidy.1
        (λ p found r. calm setting p found ts r q0.tidy.0.claims) (λ closing. tt)

    aged_takes : (inode : ℕ) (e : Entry) (pairs : List Due) → TellsNothing e → (u : State) → Noticed u → Moves trace setting s.steps (take_now i f inode (log_at i e (with_pairs f pairs u))) t
    aged_takes inode e pairs none u n =
        let items : List Todo = todo.Step item.Unmark ∷ [] in
        let v : State = log_at i e (with_pairs f pairs u) in
        let k : Noticed v = logs_on e none (with_pairs f pairs u) (lists_on (λ list. record list { pairs = pairs }) u n) in
        let x : State = in_phase f (phase.Taken inode) v in
        turn_moves silent.Test ts is (λ a b none. none) f on turn (todo.Step item.Unmark ∷ ts) (record k.flusher { phase = phase.Taken inode }) (take_now i f inode v)
        (alike_push i start s there items x (alike_lists i start s there v v.queues x.flushers k.al)) k.tasks (phases (phase.Taken inode) v k) k.batch refl (q0.tidy.0, q0.tidy.1)
        (λ p found r. tt) (λ closing. tt)

    ages : (now : ℕ) (over : Bool) → Moves trace setting s.steps (age trace i f now over s3) t
    ages now over =
        let u : State = noticed trace i f now s3 in
        let nothing : (e : Entry) → ((older : List Event) → events_with e older ≡ older) → ((older : List Fold) → folds_with e older ≡ older) → ((older : List ℕ) → founds_with e older ≡ older) → TellsNothing e
        = λ e events folds founds. record { no_event = events; no_fold = folds; no_found = founds } in
        let n : Noticed u = noticed_kept trace i f now Noticed
        (λ v k. lists_on (told_by now) v k)
        (λ v m ms waits_there waits k. queues_on (set v.queues (flusher_device trace f) ms) v k)
        (λ v m ms is_first new k.
        logs_on (entry.Noticed f m now) (nothing (entry.Noticed f m now) (λ older. refl) (λ older. refl) (λ older. refl)) _
        (lists_on (waits trace m now) (with_queue (flusher_device trace f) ms v) (queues_on (set v.queues (flusher_device trace f) ms) v k)))
        s3 (record {
          al = record { becomes = start; cpus = refl; same = refl; shared = same_shared s s3 refl; marks = refl; steps = refl };
          tasks = refl;
          flusher = record (flusher_of f s) { hard = hard };
          flushers = refl;
          batch = refl;
        }) in
        aged_kept i f now over u (λ (r : State). Moves trace setting s.steps r t) (aged_rests (now + FLUSHER_REST) u n)
        (λ pair pairs first by_now.
        aged_takes pair.inode (entry.Aged f pair.inode pair.due now) pairs (nothing (entry.Aged f pair.inode pair.due now) (λ older. refl) (λ older. refl) (λ older. refl)) u n)
        (λ pair pairs first.
        aged_takes pair.inode (entry.Taken f pair.inode) pairs (nothing (entry.Taken f pair.inode) (λ older. refl) (λ older. refl) (λ older. refl)) u n)

    takes_or_rests : (until : ℕ) (numbers : List ℕ) → Moves trace setting s.steps (take_or_rest trace i f until numbers s3) t
    takes_or_rests until [] = rests until
    takes_or_rests until (inode ∷ inodes) = takes inode inodes

  module _ (ts : List Todo) (is : (cpu_of i s).todo ≡ todo.Silent silent.Test ∷ ts) where
    test_by_moves : (q : ReplayTurn) (whose : Whose) → (cpu_of i s).turn.whose ≡ whose → IsTurnOf trace i whose → Moves trace setting s.steps (test_by trace i q whose (popped i ts s)) t
    test_by_moves q (whose.Task task) turn on = by_task silent.Test ts is (λ a b none. none) task turn
    test_by_moves q (whose.Flusher f) turn on = by_wheel (flusher_of f s).wheel
      where
        by_wheel : (wheel : Option Wheel) → Moves trace setting s.steps (tested_by trace i f q wheel (with_hard f q.global.limits.hard (popped i ts s))) t
        by_wheel None = either (λ r. Moves trace setting s.steps r t) q.over _ _
            (λ over. takes_or_rests ts is f on turn q.global.limits.hard (q.began + FLUSHER_REST) (queue_of (flusher_device trace f) s))
            (λ under. rests ts is f on turn q.global.limits.hard (q.began + FLUSHER_REST))
        by_wheel (Some list) = ages ts is f on turn q.global.limits.hard q.began q.over

    pub test_moves : Moves trace setting s.steps (test trace i (popped i ts s)) t
    test_moves = subst (λ (w : Whose). Moves trace setting s.steps (test_by trace i (cpu_of i (popped i ts s)).turn w (popped i ts s)) t) (sym (same_turn silent.Test ts is (λ a b none. none)))
        (test_by_moves (cpu_of i (popped i ts s)).turn (cpu_of i s).turn.whose refl (whose_on silent.Test ts is (λ a b none. none)))

  -- ---- the close of a scan

  module _ (ts : List Todo) (is : (cpu_of i s).todo ≡ todo.Silent silent.Close ∷ ts) where
    abbrev z0 : FollowsCpu trace setting i (record (cpu_of i s) { todo = todo.Silent silent.Close ∷ ts }) s.tasks s.flushers (t.cpu i) (λ x. t.own x i)
    z0 = f0 silent.Close ts is (λ a b none. none)

    -- the flusher goes on at this phase
    at_phase : (f : ℕ) → IsFlusherOn trace i f → (cpu_of i s).turn.whose ≡ whose.Flusher f → ScansInside trace (flusher_of f s).phase → Moves trace setting s.steps (popped i ts s) t
    at_phase f on turn inside =
        turn_moves silent.Close ts is (λ a b none. none) f on turn ts (flusher_of f s) (popped i ts s)
        (record { becomes = record (cpu_of i s) { todo = ts }; cpus = refl; same = refl; shared = same_shared s (popped i ts s) refl; marks = refl; steps = refl }) refl
        (sym (set-get_or s.flushers f no_flusher)) refl refl z0.tidy.1 (λ p found r. calm setting p found ts r z0.tidy.0.claims) (λ closing. inside)

    -- the flusher keeps the place of its scan, and hands over
    closes : (f : ℕ) → IsFlusherOn trace i f → (cpu_of i s).turn.whose ≡ whose.Flusher f → (scan : Scan) (items : List Todo) → debts_in (items ++ ts) ≡ debts_in ts → Tidy (items ++ ts)
        → ((p : ℕ) (found : Found) (r : CpuRecord) → Looked setting p found (items ++ ts) r) → list_any is_closing (items ++ ts) ≡ true
        → Moves trace setting s.steps (then_do i items (keep_place trace f scan (popped i ts s))) t
    closes f on turn scan items debts tidy looked closing =
        let v : Flusher = record (flusher_of f s) { places = places_after trace f scan (flusher_of f s).places } in
        let s2 : State = then_do i items (keep_place trace f scan (popped i ts s)) in
        turn_moves silent.Close ts is (λ a b none. none) f on turn (items ++ ts) v s2
        (record { becomes = record (cpu_of i s) { todo = items ++ ts }; cpus = twice (do_next items) s.cpus i (record (cpu_of i s) { todo = ts }) no_cpu there; same = refl; shared = same_shared s s2 refl; marks = refl; steps = refl }) refl
        refl refl debts tidy looked (λ closed. absurd (cc (sym closed ∙ closing)))

    close_at_moves : (f : ℕ) → IsFlusherOn trace i f → (cpu_of i s).turn.whose ≡ whose.Flusher f → (scan : Scan)
        → (flusher_of f s).phase ≡ phase.Scanning scan → Moves trace setting s.steps (close_in trace i f (phase.Scanning scan) (popped i ts s)) t
    close_at_moves f on turn scan at =
        let inside : IsInside trace (flusher_of f s).batch (phase.Scanning scan) = subst (IsInside trace (flusher_of f s).batch) at (ranges.flusher f on.there) in
        either (λ r. Moves trace setting s.steps r t) (is_scan_over scan (length (flusher_of f s).batch)) _ _
        (λ over. either (λ items. Moves trace setting s.steps (then_do i items (keep_place trace f scan (popped i ts s))) t) (scan.noted || ltb scan.passed scan.pages) _ _
        (λ again. closes f on turn scan (todo.Step (item.Mark scan.inode) ∷ todo.Silent silent.HandOver ∷ []) refl (record { debts = z0.tidy.0.debts; claims = refl }, (z0.tidy.0, z0.tidy.1)) (λ p found r. tt) refl)
        (λ once. closes f on turn scan (todo.Silent silent.HandOver ∷ []) refl (z0.tidy.0, z0.tidy.1) (λ p found r. tt) refl))
        (λ more.
        at_phase f on turn (subst (ScansInside trace) (sym at) (scan_page trace scan inside.0 inside.1 inside.2 inside.3)))

    close_in_moves : (f : ℕ) → IsFlusherOn trace i f → (cpu_of i s).turn.whose ≡ whose.Flusher f → (at : ReplayPhase) → (flusher_of f s).phase ≡ at
        → Moves trace setting s.steps (close_in trace i f at (popped i ts s)) t
    close_in_moves f on turn (phase.Idle until kept) at = at_phase f on turn (subst (ScansInside trace) (sym at) tt)
    close_in_moves f on turn (phase.Taken inode) at = at_phase f on turn (subst (ScansInside trace) (sym at) tt)
    close_in_moves f on turn (phase.Scanning scan) at = close_at_moves f on turn scan at
    close_in_moves f on turn (phase.Flying inode pages until) at = at_phase f on turn (subst (ScansInside trace) (sym at) tt)
    close_in_moves f on turn phase.Finished at = at_phase f on turn (subst (ScansInside trace) (sym at) tt)

    close_by_moves : (whose : Whose) → (cpu_of i s).turn.whose ≡ whose → IsTurnOf trace i whose → Moves trace setting s.steps (close_by trace i whose (popped i ts s)) t
    close_by_moves (whose.Task task) turn on = by_task silent.Close ts is (λ a b none. none) task turn
    close_by_moves (whose.Flusher f) turn on = close_in_moves f on turn (flusher_of f s).phase refl

    pub close_moves : Moves trace setting s.steps (close trace i (popped i ts s)) t
    close_moves = subst (λ (w : Whose). Moves trace setting s.steps (close_by trace i w (popped i ts s)) t) (sym (same_turn silent.Close ts is (λ a b none. none)))
        (close_by_moves (cpu_of i s).turn.whose refl (whose_on silent.Close ts is (λ a b none. none)))
