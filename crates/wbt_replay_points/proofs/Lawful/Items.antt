-- What each item of a CPU's turn does to what a journal's law reads: most leave it, and the others are told apart with what is known there.
use Rattle.std.proofs.Common.{◌⊎◌, inl, inr, ◌≡◌, ◌≢◌, ℕ, zero, suc, ◌+◌, ◌-◌, ◌^◌, ◌<◌, Bool, true, false, ◌&&◌, ◌||◌, cond, eqb, eqb-true, leb, ltb, flat_map, ℤ, pos, ◌+ℤ◌, unsigned_abs, List, [], ◌∷◌, ◌++◌, length, get_or, All, Option, Some, None, refl, sym, ◌∙◌, ap, subst, arith, is_some, unwrap_or}
use Rattle.std.proofs.Math.ListN.{set}
use Rattle.std.proofs.lemmas.List.{length-set, get_or-set_same}
use Rattle.std.proofs.lemmas.List.Elements.{All-head, All-tail}
use Rattle.std.proofs.lemmas.Bool.{eqb-false}
use Rattle.wbt_replay_order.proofs.Common.{Trace, Bits, is_claimable, shared_word, Held, Count, Counter, update_of, Estimate, fraction_of, may_be_added, StepKind, scanning, emptied, batch_of, domains, context_of, device_of, group_of, flusher_device, max_share, page_of, Scan, Due, writer_of, decide_by, decide_for, add, fold, clear, word_of, holds, load_first, load_limits, limits_kept, count_kept, added, own_of, with_own, log_at, then_do, at_turn, logged, estimate, estimate_to, sample_of, complete_by, complete_in, complete_first, complete_page, part_in, share_now, share, share_group, with_written, landed, land_by, land_in, finish, begin_idle, begin_test, domain_loads, measure, measures_of, weighs_of, rest_until, take_or_finish, take_or_rest, test_by, with_hard, scan_of, unmark_by, unmark_in, take_now, with_pairs, take_last, told_by, tell, waits, note, noticed, age, tested_by, make_step, make_move, begin_phase, begin_for, begin_turn, look_by, look_in, looked_at, claim_by, claim_in, claim_now, close_by, close_in, close_items, is_scan_over, places_after, keep_place, fly, land_empty, hand_over_by, hand_over_in, State, no_cpu, no_flusher, cpu_of, with_cpu, task_of, with_task, flusher_of, with_flusher, domain_of, writeback_of, queue_of, with_queue, count_of, plain_step, in_phase, is_drained, no_waiting, waiting_of, with_waiting, is_over_by_itself, over_noted, weigh, weighed_by, pause_in, begin_page, begin_work, begin_due, check_items, passed_page, dirty_by, dirty_next, dirty_fresh, mark, end_by, end_now, has_nothing, Cpu, Flusher, ReplayPhase, ReplayTask, ReplayTurn, ReplayWork, Stretch, Actor, Whose, Silent, Step, Todo, Facts, IsPageOf, IsFlusherOn, IsTaskOn, Sound, IsAt, IsTurn, IsWhose, WorkFits, AreQueued, AreQueues, Agrees, IsCounter, IsIdle, ItemFits, WritesNext, is_end, has_inode, WaitMove, notices, ages, takes_first}
use Rattle.wbt_counter.specs.declared.counter.Counter.TheVariants.{Domain as ofDomain, Context as ofContext}
use Rattle.wbt_grant.specs.declared.who.StepKind.TheVariants as kind
use Rattle.wbt_journal.specs.declared.entry.Entry.TheVariants as entry
use Rattle.wbt_rules.specs.Flusher.{IsWithinChunk, chunk_at}
use Rattle.wbt_rules.proofs.Quotas.{within_less}
use Rattle.wbt_task.specs.declared.allowance.Due.TheVariants as due
use Rattle.wbt_replay_moves.specs.Definition.Idle.{take, tested}
use Rattle.wbt_replay_moves.specs.Definition.State.{queued}
use Rattle.wbt_replay_moves.specs.Definition.Writer.{marked}
use Rattle.wbt_replay_moves.specs.declared.state.ReplayPhase.TheVariants as phase
use Rattle.wbt_replay_moves.specs.declared.state.ReplayWork.TheVariants as work
use Rattle.wbt_replay_moves.specs.declared.state.Whose.TheVariants as whose
use Rattle.wbt_replay_moves.specs.declared.todo.Silent.TheVariants as silent
use Rattle.wbt_replay_moves.specs.declared.todo.Step.TheVariants as step
use Rattle.wbt_replay_moves.specs.declared.todo.Todo.TheVariants as todo
use Rattle.wbt_replay_order.specs.Kept.Sound.{IsScanAt, IsQuotaOf}
use Rattle.wbt_replay_points.proofs.Claims.Checks.{some_context}
use Rattle.wbt_replay_order.proofs.Growth.Quiet.{same_at}
use Rattle.wbt_replay_order.proofs.Facts.Lists.{either}
use Rattle.wbt_replay_order.proofs.Facts.Scans.{scan_page}
use Rattle.wbt_replay_order.proofs.Written.Same.{pages_of}
use Rattle.wbt_replay_points.proofs.Lawful.Now.{Takes, HasMore, WritesNow, DecidesNow, EndsNow, ScansNow, CompletesNow, EstimatesNow, entry_of, ListsNow, Starts}
use Rattle.wbt_replay_points.proofs.Lawful.Ranges.{check_in_range, early}
use Rattle.wbt_replay_points.proofs.Lawful.Same.{log_of, phase_at, told_phase, Hidden, still, hide_cpu, hide_flusher, hide_context, hide_task, EndsLater, GoesOn, AreUntold, same_turn, push_turn, untold_turn, last_turn, pop_turn}
use Rattle.wbt_expiry.specs.Waiting.{Waiting as Wheel}
use Rattle.wbt_expiry.specs.declared.due.Due.{Due as Pair}
use Rattle.wbt_replay_order.proofs.Facts.Ages.{noticed_kept, aged_kept}

-- ---- the walk over a move

-- what may be seen of a move, from the state before it
module _ (trace : Trace) (facts : Facts trace) (R : State → State → Type 0) (hide : (s u : State) → Hidden s u → R s u) (thens : (s u v : State) → R s u → R u v → R s v)
    (turned : (cpu : ℕ) (w : Whose) (s : State) → (cpu_of cpu s).todo ≡ [] → R s (with_cpu cpu (at_turn w s.now (cpu_of cpu s)) s))
    (folds : (cpu : ℕ) (x : Counter) (s : State) → cpu < length s.cpus → IsCounter trace x → R s (fold cpu x s))
    (known : (cpu task inode page pages : ℕ) (works : List ReplayWork) (c : Cpu) (s : State) → Takes trace cpu task (todo.Step step.Dirty) c s
    → WritesNow trace cpu task inode page pages works (with_cpu cpu c s)
    → R s (plain_step cpu kind.Dirty (log_at cpu (entry.Write task page false) (with_task task (passed_page inode page pages works (task_of task s)) (with_cpu cpu c s)))))
    (fresh : (cpu task inode page pages : ℕ) (works : List ReplayWork) (c : Cpu) (s : State) → Takes trace cpu task (todo.Step step.Dirty) c s
    → WritesNow trace cpu task inode page pages works (with_cpu cpu c s)
    → R s (dirty_fresh trace cpu task inode page (with_task task (passed_page inode page pages works (task_of task s)) (with_cpu cpu c s))))
    (claims : (cpu f : ℕ) (scan : Scan) (s : State) → ScansNow trace cpu f scan s → IsPageOf trace scan.inode (page_of scan) → R s (claim_now cpu f scan s))
    (flies : (cpu f : ℕ) (scan : Scan) (until : ℕ) (s : State) → ScansNow trace cpu f scan s → length (flusher_of f s).batch ≢ 0
    → R s (fly cpu f scan.inode (length (flusher_of f s).batch) until s))
    (completes : (cpu f inode page : ℕ) (pages : List ℕ) (s : State) → CompletesNow trace cpu f inode page pages s
    → R s (complete_page trace cpu f (context_of trace inode) page (with_flusher f (record (flusher_of f s) { batch = pages }) s)))
    (lists : (cpu f : ℕ) (move : WaitMove) (list : Wheel) (s : State) → ListsNow trace cpu f move list s → R s (log_at cpu (entry_of f move) (with_waiting f list s)))
    (shares : (cpu domain context n : ℕ) (s : State) → cpu < length s.cpus → domain < domains trace → context < length trace.contexts → (domain ≡ 0) ⊎ (domain ≡ group_of trace context) → R s (share_now cpu domain context n s))
    (drops : (cpu task : ℕ) (c : Cpu) (s : State) → Takes trace cpu task (todo.Silent silent.End) c s → HasMore trace task s → R s (with_cpu cpu c s))
    (ends : (cpu task : ℕ) (c : Cpu) (s : State) → Takes trace cpu task (todo.Silent silent.End) c s → EndsNow trace cpu task (with_cpu cpu c s) → R s (end_now cpu task (with_cpu cpu c s)))
    (decides : (cpu task : ℕ) (c : Cpu) (s : State) → Takes trace cpu task (todo.Silent silent.Decide) c s → DecidesNow trace cpu task (with_cpu cpu c s)
    → R s (decide_for trace cpu task (task_of task s).context (with_cpu cpu c s)))
    (estimates : (cpu f context : ℕ) (e : Estimate) (s : State) → EstimatesNow trace cpu f context s
    → update_of (writeback_of context s).estimate (sample_of trace context (cpu_of cpu s).turn s) ≡ Some e → R s (estimate_to cpu context (Some e) s)) where
  -- ---- hidden changes

  quietly : (cpu : ℕ) (c : Cpu) (s : State) → log_of c ≡ log_of (cpu_of cpu s) → c.local ≡ (cpu_of cpu s).local → GoesOn (cpu_of cpu s) c → R s (with_cpu cpu c s)
  quietly cpu c s told local turn = hide s (with_cpu cpu c s) (hide_cpu cpu c s told local turn)

  -- items come first
  pushes : (cpu : ℕ) (items : List Todo) (s : State) → ((more : List Todo) → EndsLater more → EndsLater (items ++ more)) → R s (then_do cpu items s)
  pushes cpu items s keeps = quietly cpu _ s refl refl (push_turn items (cpu_of cpu s) _ keeps refl refl)

  do_quietly : (cpu : ℕ) (items : List Todo) (s : State) → AreUntold items → R s (then_do cpu items s)
  do_quietly cpu items s none = quietly cpu _ s refl refl (untold_turn items (cpu_of cpu s) _ none refl refl)

  none : (s : State) → R s s
  none s = hide s s (still s)

  -- a step is noted
  plainly : (of : StepKind) (cpu : ℕ) (s u : State) → R s u → R s (plain_step cpu of u)
  plainly of cpu s u h = thens s u (plain_step cpu of u) h (hide u (plain_step cpu of u) (still u))

  phased : (f : ℕ) (p : ReplayPhase) (s : State) → phase_at (flusher_of f s).batch p ≡ told_phase (flusher_of f s) → R s (in_phase f p s)
  phased f p s same = hide s (in_phase f p s) (hide_flusher f (record (flusher_of f s) { phase = p }) s same refl refl)

  -- ---- counters

  abbrev Alike : (c d : Cpu) → Type 0
  Alike c d = (log_of d ≡ log_of c) × (d.local ≡ c.local) × GoesOn c d

  own_told : (x : Counter) (n : ℤ) (c : Cpu) → Alike c (with_own x n c)
  own_told (ofDomain d) n c = (refl, refl, same_turn c (with_own (ofDomain d) n c) refl refl)
  own_told (ofContext k) n c = (refl, refl, same_turn c (with_own (ofContext k) n c) refl refl)

  full_told : (x : Counter) (n : ℤ) (c : Cpu) → Alike c (record (with_own x n c) { todo = todo.Step (step.Fold x) ∷ todo.Step (step.Clear x) ∷ (with_own x n c).todo })
  full_told (ofDomain d) n c = (refl, refl, untold_turn (todo.Step (step.Fold (ofDomain d)) ∷ todo.Step (step.Clear (ofDomain d)) ∷ []) c _ (refl, (refl, tt)) refl refl)
  full_told (ofContext k) n c = (refl, refl, untold_turn (todo.Step (step.Fold (ofContext k)) ∷ todo.Step (step.Clear (ofContext k)) ∷ []) c _ (refl, (refl, tt)) refl refl)

  added_told : (batch : ℕ) (x : Counter) (n : ℤ) (c : Cpu) → Alike c (added batch x n c)
  added_told batch x n c = either (Alike c) (eqb (unsigned_abs n) batch) _ _ (λ full. full_told x n c) (λ room. own_told x n c)

  see_add : (cpu : ℕ) (x : Counter) (change : ℤ) (s : State) → R s (add trace cpu x change s)
  see_add cpu x change s =
      let same = added_told (batch_of trace x) x (own_of x (cpu_of cpu s) +ℤ change) (cpu_of cpu s) in
      let c : Cpu = added (batch_of trace x) x (own_of x (cpu_of cpu s) +ℤ change) (cpu_of cpu s) in
      plainly kind.Add cpu s (with_cpu cpu c s) (quietly cpu c s same.0 same.1 same.2)

  see_clear : (cpu : ℕ) (x : Counter) (s : State) → R s (clear cpu x s)
  see_clear cpu x s =
      let same = own_told x (pos 0) (cpu_of cpu s) in
      let c : Cpu = with_own x (pos 0) (cpu_of cpu s) in
      plainly kind.Clear cpu s (with_cpu cpu c s) (quietly cpu c s same.0 same.1 same.2)

  limits_whose : (d : ℕ) (held : Held) (turn : ReplayTurn) → (limits_kept d held turn).whose ≡ turn.whose
  limits_whose zero held turn = refl
  limits_whose (suc g) held turn = refl

  count_whose : (x : Counter) (count : Count) (turn : ReplayTurn) → (count_kept x count turn).whose ≡ turn.whose
  count_whose (ofContext k) count turn = refl
  count_whose (ofDomain zero) count turn = refl
  count_whose (ofDomain (suc g)) count turn = refl

  see_first : (cpu d : ℕ) (s : State) → R s (load_first cpu d s)
  see_first cpu d s =
      let c : Cpu = record (cpu_of cpu s) { turn = record (cpu_of cpu s).turn { found = word_of (domain_of d s) } } in
      plainly kind.First cpu s (with_cpu cpu c s) (quietly cpu c s refl refl (same_turn (cpu_of cpu s) c refl refl))

  see_limits : (cpu d : ℕ) (s : State) → R s (load_limits cpu d s)
  see_limits cpu d s =
      let c : Cpu = holds d (domain_of d s) (cpu_of cpu s) in
      plainly kind.Limits cpu s (with_cpu cpu c s) (quietly cpu c s refl refl (same_turn (cpu_of cpu s) c (limits_whose d _ (cpu_of cpu s).turn) refl))

  see_mark : (cpu inode : ℕ) (s : State) → R s (mark trace cpu inode s)
  see_mark cpu inode s =
      let u : State = queued (device_of trace inode) inode (record s { marks = set s.marks inode true }) in
      plainly kind.Mark cpu s (marked trace inode s) (either (R s) (get_or s.marks inode true) s u (λ is. none s) (λ new. hide s u (still s)))

  -- ---- a writer

  see_write : (cpu task : ℕ) (works : List ReplayWork) (c : Cpu) (s : State) → Takes trace cpu task (todo.Step step.Dirty) c s → (task_of task s).works ≡ works
      → All (WorkFits trace task) works → WritesNext works → (writer_of (task_of task s)).due ≡ due.No → R s (dirty_next trace cpu task works (with_cpu cpu c s))
  see_write cpu task [] c s takes is fits next free = absurd next
  see_write cpu task (work.Rest ticks ∷ works) c s takes is fits next free = absurd next
  see_write cpu task (work.Write inode page pages ∷ works) c s takes is fits next free =
      let now : WritesNow trace cpu task inode page pages works (with_cpu cpu c s) =
      record {
        there = omega (arith, takes.there, length-set s.cpus cpu c);
        on = takes.on;
        works_are = is;
        fits = All-head (WorkFits trace task) (work.Write inode page pages) works fits;
        free = free;
      } in
      either (R s) (s.book page).dirty _ _ (λ already. known cpu task inode page pages works c s takes now) (λ clean. fresh cpu task inode page pages works c s takes now)

  -- ---- a flusher

  see_taken : (cpu f inode : ℕ) (inodes : List ℕ) (s : State) → told_phase (flusher_of f s) ≡ scanning [] → R s (take trace cpu f inode inodes s)
  see_taken cpu f inode inodes s idle =
      let q : State = with_queue (flusher_device trace f) inodes s in
      let u : State = in_phase f (phase.Taken inode) q in
      thens s q (take trace cpu f inode inodes s) (hide s q (still s))
      (thens q u (take trace cpu f inode inodes s) (phased f (phase.Taken inode) q (sym idle)) (do_quietly cpu (todo.Step step.Unmark ∷ []) u (refl, tt)))

  see_take_or_rest : (cpu f until : ℕ) (numbers : List ℕ) (s : State) → told_phase (flusher_of f s) ≡ scanning [] → R s (take_or_rest trace cpu f until numbers s)
  see_take_or_rest cpu f until [] s idle = phased f (phase.Idle until false) s (sym idle)
  see_take_or_rest cpu f until (inode ∷ inodes) s idle = see_taken cpu f inode inodes s idle

  -- another list, or another number of the hard limit, is no other phase
  same_phase : (f : ℕ) (v : Flusher) (s : State) → told_phase v ≡ told_phase (flusher_of f s) → told_phase (flusher_of f s) ≡ scanning [] → told_phase (get_or (set s.flushers f v) f no_flusher) ≡ scanning []
  same_phase f v s same idle = same_at told_phase s.flushers f v no_flusher same f ∙ idle

  -- a move of a flusher's list is told, and then its inode is taken
  see_told : (cpu f : ℕ) (move : WaitMove) (inode : ℕ) (pairs : List Pair) (s : State) → told_phase (flusher_of f s) ≡ scanning [] → ListsNow trace cpu f move (record (waiting_of f s) { pairs = pairs }) s
      → R s (take_now cpu f inode (log_at cpu (entry_of f move) (with_pairs f pairs s)))
  see_told cpu f move inode pairs s idle now =
      let list : Wheel = record (waiting_of f s) { pairs = pairs } in
      let v : State = log_at cpu (entry_of f move) (with_waiting f list s) in
      let u : State = in_phase f (phase.Taken inode) v in
      thens s v (take_now cpu f inode v) (lists cpu f move list s now)
      (thens v u (take_now cpu f inode v) (phased f (phase.Taken inode) v (sym (same_phase f (record (flusher_of f s) { wheel = Some list }) s refl idle)))
      (do_quietly cpu (todo.Step step.Unmark ∷ []) u (refl, tt)))

  -- a list in which an inode waits is there
  has_list : (wheel : Option Wheel) (pair : Pair) (pairs : List Pair) → (unwrap_or wheel no_waiting).pairs ≡ pair ∷ pairs → is_some wheel ≡ true
  has_list None pair pairs some = absurd (cc some)
  has_list (Some list) pair pairs some = refl

  see_take_or_finish : (cpu f : ℕ) (numbers : List ℕ) (s : State) → told_phase (flusher_of f s) ≡ scanning [] → R s (take_or_finish trace cpu f numbers s)
  see_take_or_finish cpu f [] s idle =
      let u : State = record s { working = s.working - 1 } in thens s u (finish f s) (hide s u (still s)) (phased f phase.Finished u (sym idle))
  see_take_or_finish cpu f (inode ∷ inodes) s idle = see_taken cpu f inode inodes s idle

  see_take_last : (cpu f : ℕ) (pairs : List Pair) (s : State) → (waiting_of f s).pairs ≡ pairs → Starts trace cpu (whose.Flusher f) s → told_phase (flusher_of f s) ≡ scanning [] → R s (take_last trace cpu f pairs s)
  see_take_last cpu f [] s is starts idle = see_take_or_finish cpu f (queue_of (flusher_device trace f) s) s idle
  see_take_last cpu f (pair ∷ pairs) s is starts idle =
      see_told cpu f (takes_first pair.inode) pair.inode pairs s idle
      (record { there = starts.0; on = starts.1; known = starts.2; some = has_list (flusher_of f s).wheel pair pairs is; becomes = (pair.due, is) })

  -- ---- writeback by age

  -- what is known of a flusher that notices inodes, in the midst of its turn that began in s
  record Notices (cpu f : ℕ) (s u : State) : Type 0 where
    seen : R s u
    there : cpu < length u.cpus
    real : f < length u.flushers
    some : is_some (flusher_of f u).wheel ≡ true
    idle : told_phase (flusher_of f u) ≡ scanning []
    queue : All (AreQueued trace (flusher_device trace f)) (queue_of (flusher_device trace f) u)

  module _ (cpu f now : ℕ) (on : IsFlusherOn trace cpu f) (s : State) where
    abbrev device : ℕ
    device = flusher_device trace f

    listed_some : (list : Wheel) (u : State) → f < length u.flushers → is_some (get_or (set u.flushers f (record (flusher_of f u) { wheel = Some list })) f no_flusher).wheel ≡ true
    listed_some list u known = ap (λ (v : Flusher). is_some v.wheel) (get_or-set_same u.flushers f (record (flusher_of f u) { wheel = Some list }) no_flusher known)

    tell_seen : (u : State) → Notices cpu f s u → Notices cpu f s (tell f now u)
    tell_seen u h =
        let list : Wheel = told_by now (waiting_of f u) in
        let v : Flusher = record (flusher_of f u) { wheel = Some list } in
        record {
          seen = thens s u (tell f now u) h.seen (hide u (tell f now u) (hide_flusher f v u refl (ap (λ (b : Bool). (b, (waiting_of f u).pairs)) (sym h.some)) refl));
          there = h.there;
          real = omega (arith, h.real, length-set u.flushers f v);
          some = listed_some list u h.real;
          idle = same_phase f v u refl h.idle;
          queue = h.queue;
        }

    drop_seen : (u : State) (n : ℕ) (ns : List ℕ) → device < length u.queues → queue_of device u ≡ n ∷ ns → Notices cpu f s u → Notices cpu f s (with_queue device ns u)
    drop_seen u n ns here is h = record {
      seen = thens s u (with_queue device ns u) h.seen (hide u (with_queue device ns u) (still u));
      there = h.there;
      real = h.real;
      some = h.some;
      idle = h.idle;
      queue = subst (All (AreQueued trace device)) (sym (get_or-set_same u.queues device ns [] here)) (All-tail (AreQueued trace device) n ns (subst (All (AreQueued trace device)) is h.queue));
    }

    note_seen : (u : State) (n : ℕ) (ns : List ℕ) → device < length u.queues → queue_of device u ≡ n ∷ ns → has_inode n (waiting_of f u).pairs ≡ false → now < 2 ^ 62 → Notices cpu f s u
        → Notices cpu f s (note trace cpu f n now (with_queue device ns u))
    note_seen u n ns here is new before h =
        let w : State = with_queue device ns u in
        let list : Wheel = waits trace n now (waiting_of f u) in
        let v : Flusher = record (flusher_of f u) { wheel = Some list } in
        let dropped = drop_seen u n ns here is h in
        let queued = All-head (AreQueued trace device) n ns (subst (All (AreQueued trace device)) is h.queue) in
        let c : Cpu = logged (entry.Noticed f n now) (cpu_of cpu u) in
        record {
          seen = thens s w (note trace cpu f n now w) dropped.seen
              (lists cpu f (notices n now) list w (record { there = h.there; on = on; known = h.real; some = h.some; becomes = (queued.there, queued.ours, before, new, refl) }));
          there = omega (arith, h.there, length-set u.cpus cpu c);
          real = omega (arith, h.real, length-set u.flushers f v);
          some = listed_some list u h.real;
          idle = same_phase f v u refl h.idle;
          queue = dropped.queue;
        }

  see_age : (cpu f now : ℕ) (over : Bool) (s : State) → now < 2 ^ 62 → IsFlusherOn trace cpu f → cpu < length s.cpus → f < length s.flushers → is_some (flusher_of f s).wheel ≡ true → told_phase (flusher_of f s) ≡ scanning []
      → AreQueues trace s.queues → R s (age trace cpu f now over s)
  see_age cpu f now over s before on there known some idle queues =
      let device : ℕ = flusher_device trace f in
      let u : State = noticed trace cpu f now s in
      let inside : device < length trace.devices = facts.flusher_device_is f on.there in
      let K : State → Type 0 = λ v. Notices cpu f s v × (device < length v.queues) in
      let k : K u = noticed_kept trace cpu f now K
      (λ v h. (tell_seen cpu f now on s v h.0, h.1))
      (λ v n ns is waits h. (drop_seen cpu f now on s v n ns h.1 is h.0, omega (arith, h.1, length-set v.queues device ns)))
      (λ v n ns is new h. (note_seen cpu f now on s v n ns h.1 is new before h.0, omega (arith, h.1, length-set v.queues device ns)))
      s (record { seen = none s; there = there; real = known; some = some; idle = idle; queue = queues.each device }, omega (arith, inside, queues.many)) in
      let h = k.0 in
      thens s u (age trace cpu f now over s) h.seen
      (aged_kept cpu f now over u (R u) (phased f (phase.Idle (now + 100) false) u (sym h.idle))
      (λ pair pairs is by_now.
      see_told cpu f (ages pair.inode pair.due now) pair.inode pairs u h.idle (record { there = h.there; on = on; known = h.real; some = h.some; becomes = (is, by_now) }))
      (λ pair pairs is.
      see_told cpu f (takes_first pair.inode) pair.inode pairs u h.idle (record { there = h.there; on = on; known = h.real; some = h.some; becomes = (pair.due, is) })))

  see_tested : (cpu f : ℕ) (turn : ReplayTurn) (s : State) → told_phase (flusher_of f s) ≡ scanning [] → R s (tested trace cpu f turn s)
  see_tested cpu f turn s idle =
      either (R s) turn.over (take_or_rest trace cpu f (turn.began + 100) (queue_of (flusher_device trace f) s) s) (rest_until f (turn.began + 100) s)
      (λ over. see_take_or_rest cpu f (turn.began + 100) (queue_of (flusher_device trace f) s) s idle) (λ under. phased f (phase.Idle (turn.began + 100) false) s (sym idle))

  see_test : (cpu f : ℕ) (turn : ReplayTurn) (s : State) → turn.began < 2 ^ 62 → IsFlusherOn trace cpu f → cpu < length s.cpus → f < length s.flushers → AreQueues trace s.queues → told_phase (flusher_of f s) ≡ scanning []
      → R s (test_by trace cpu turn (whose.Flusher f) s)
  see_test cpu f turn s before on there known queues idle =
      let v : Flusher = record (flusher_of f s) { hard = turn.global.limits.hard } in
      let u = with_hard f turn.global.limits.hard s in
      thens s u (test_by trace cpu turn (whose.Flusher f) s) (hide s u (hide_flusher f v s refl refl refl)) (by_wheel (flusher_of f s).wheel refl)
    where
      by_wheel : (wheel : Option Wheel) → (flusher_of f s).wheel ≡ wheel → R (with_hard f turn.global.limits.hard s) (tested_by trace cpu f turn wheel (with_hard f turn.global.limits.hard s))
      by_wheel None is =
          let v : Flusher = record (flusher_of f s) { hard = turn.global.limits.hard } in
          see_tested cpu f turn (with_hard f turn.global.limits.hard s) (same_phase f v s refl idle)
      by_wheel (Some list) is =
          let v : Flusher = record (flusher_of f s) { hard = turn.global.limits.hard } in
          see_age cpu f turn.began turn.over (with_hard f turn.global.limits.hard s) before on there (omega (arith, known, length-set s.flushers f v))
          (ap (λ (x : Flusher). is_some x.wheel) (get_or-set_same s.flushers f v no_flusher known) ∙ ap (λ (o : Option Wheel). is_some o) is) (same_phase f v s refl idle) queues

  loads_untold : (n d : ℕ) → AreUntold (domain_loads n d)
  unfolding domain_loads
  loads_untold zero d = tt
  loads_untold (suc n) d = (refl, (refl, (refl, (refl, loads_untold n (d + 1)))))

  both_untold : (xs ys : List Todo) → AreUntold xs → AreUntold ys → AreUntold (xs ++ ys)
  both_untold [] ys a b = b
  both_untold (x ∷ xs) ys a b = (a.0, both_untold xs ys a.1 b)

  measures_untold : (ks : List ℕ) (s : State) → AreUntold (measures_of ks s)
  unfolding measures_of
  measures_untold [] s = tt
  measures_untold (k ∷ ks) s =
      both_untold (measure k s) (measures_of ks s)
      (either AreUntold (leb ((writeback_of k s).estimate.at + 200) s.now) (todo.Step (step.Count (ofContext k)) ∷ todo.Silent (silent.Estimate k) ∷ []) []
      (λ old. (refl, (refl, tt))) (λ young. tt)) (measures_untold ks s)

  weighs_untold : (ks : List ℕ) → AreUntold (weighs_of ks)
  unfolding weighs_of
  weighs_untold [] = tt
  weighs_untold (k ∷ ks) = (refl, (refl, weighs_untold ks))

  see_begin_test : (cpu f : ℕ) (s : State) → R s (begin_test cpu f s)
  see_begin_test cpu f s =
      let u = with_cpu cpu (record (cpu_of cpu s) { todo = (cpu_of cpu s).todo ++ domain_loads (length s.domains) 0 }) s in
      let v = with_cpu cpu (record (cpu_of cpu u) { todo = (cpu_of cpu u).todo ++ measures_of (flusher_of f s).measures s }) u in
      let w = with_cpu cpu (record (cpu_of cpu v) { todo = (cpu_of cpu v).todo ++ weighs_of (flusher_of f s).weighs }) v in
      thens s w (begin_test cpu f s)
      (thens s v w
      (thens s u v (quietly cpu _ s refl refl (last_turn (domain_loads (length s.domains) 0) (cpu_of cpu s) _ (loads_untold (length s.domains) 0) refl refl))
      (quietly cpu _ u refl refl (last_turn (measures_of (flusher_of f s).measures s) (cpu_of cpu u) _ (measures_untold (flusher_of f s).measures s) refl refl)))
      (quietly cpu _ v refl refl (last_turn (weighs_of (flusher_of f s).weighs) (cpu_of cpu v) _ (weighs_untold (flusher_of f s).weighs) refl refl)))
      (quietly cpu _ w refl refl (last_turn (todo.Silent silent.Test ∷ []) (cpu_of cpu w) _ (refl, tt) refl refl))

  see_idle : (cpu f : ℕ) (s : State) → Starts trace cpu (whose.Flusher f) s → told_phase (flusher_of f s) ≡ scanning [] → R s (begin_idle trace cpu f s)
  see_idle cpu f s starts idle =
      either (R s) (is_drained s) (take_last trace cpu f (waiting_of f s).pairs s) (begin_test cpu f s)
      (λ drained. see_take_last cpu f (waiting_of f s).pairs s refl starts idle) (λ other. see_begin_test cpu f s)

  see_unmark : (cpu f : ℕ) (p : ReplayPhase) (s : State) → (flusher_of f s).phase ≡ p → IsAt trace (flusher_of f s).batch p → R s (unmark_in trace cpu f p s)
  see_unmark cpu f (phase.Taken inode) s at its =
      let same : scanning (flusher_of f s).batch ≡ told_phase (flusher_of f s) = ap scanning its.0 ∙ sym (ap (phase_at (flusher_of f s).batch) at) in
      let u : State = record s { marks = set s.marks inode false } in
      let v : State = in_phase f (scan_of trace f inode s) u in
      plainly kind.Unmark cpu s v (thens s u v (hide s u (still s)) (phased f (scan_of trace f inode s) u same))
  see_unmark cpu f (phase.Idle until kept) s at its = none s
  see_unmark cpu f (phase.Scanning scan) s at its = none s
  see_unmark cpu f (phase.Flying inode pages until) s at its = none s
  see_unmark cpu f phase.Finished s at its = none s

  see_looked : (cpu f : ℕ) (scan : Scan) (bits : Bits) (s : State) → (flusher_of f s).phase ≡ phase.Scanning scan → R s (looked_at cpu f scan bits s)
  see_looked cpu f scan bits s at =
      either (R s) (is_claimable bits) _ _ (λ can. do_quietly cpu (todo.Step (step.Claim (shared_word s.book (page_of scan))) ∷ []) s (refl, tt))
      (λ no.
      let p : ReplayPhase = phase.Scanning (record scan { passed = scan.passed + 1; noted = scan.noted || (bits.dirty && bits.writeback) }) in
      let u = in_phase f p s in
      thens s u (then_do cpu (todo.Silent silent.Close ∷ []) u) (phased f p s (sym (ap (phase_at (flusher_of f s).batch) at))) (do_quietly cpu (todo.Silent silent.Close ∷ []) u (refl, tt)))

  see_look : (cpu f : ℕ) (p : ReplayPhase) (s : State) → (flusher_of f s).phase ≡ p → R s (look_in cpu f p s)
  see_look cpu f (phase.Scanning scan) s at = plainly kind.Look cpu s (looked_at cpu f scan (s.book (page_of scan)) s) (see_looked cpu f scan (s.book (page_of scan)) s at)
  see_look cpu f (phase.Idle until kept) s at = none s
  see_look cpu f (phase.Taken inode) s at = none s
  see_look cpu f (phase.Flying inode pages until) s at = none s
  see_look cpu f phase.Finished s at = none s

  -- the batch of a scan has at most the scan's quota, which is within the line of the flusher's device
  batch_within : (f : ℕ) (scan : Scan) (batch : List ℕ) → IsScanAt trace batch scan → IsQuotaOf trace f (phase.Scanning scan) → IsWithinChunk (chunk_at trace f) (length batch)
  batch_within f scan batch its quota = within_less (chunk_at trace f) (length batch) scan.quota its.few quota

  see_claim : (cpu f word : ℕ) (p : ReplayPhase) (s : State) → cpu < length s.cpus → IsFlusherOn trace cpu f → f < length s.flushers → (flusher_of f s).phase ≡ p → IsAt trace (flusher_of f s).batch p
      → IsQuotaOf trace f p → R s (claim_in cpu f word p s)
  see_claim cpu f word (phase.Scanning scan) s there on known at its quota =
      plainly kind.Claim cpu s (cond (eqb (shared_word s.book (page_of scan)) word) (claim_now cpu f scan s) s)
      (either (R s) (eqb (shared_word s.book (page_of scan)) word) (claim_now cpu f scan s) s
      (λ same. claims cpu f scan s (record { there = there; on = on; known = known; at = at; within = batch_within f scan (flusher_of f s).batch its quota })
      (scan_page trace scan its.there its.first_is its.pages_is its.start)) (λ other. none s))
  see_claim cpu f word (phase.Taken inode) s there on known at its quota = none s
  see_claim cpu f word (phase.Idle until kept) s there on known at its quota = none s
  see_claim cpu f word (phase.Flying inode pages until) s there on known at its quota = none s
  see_claim cpu f word phase.Finished s there on known at its quota = none s

  close_untold : (inode : ℕ) (again : Bool) → AreUntold (close_items inode again)
  close_untold inode true = (refl, (refl, tt))
  close_untold inode false = (refl, tt)

  see_close : (cpu f : ℕ) (p : ReplayPhase) (s : State) → R s (close_in trace cpu f p s)
  see_close cpu f (phase.Scanning scan) s =
      let v : Flusher = record (flusher_of f s) { places = places_after trace f scan (flusher_of f s).places } in
      let u : State = keep_place trace f scan s in
      either (R s) (is_scan_over scan (length (flusher_of f s).batch)) _ s
      (λ over. thens s u _ (hide s u (hide_flusher f v s refl refl refl)) (do_quietly cpu _ u (close_untold scan.inode (scan.noted || ltb scan.passed scan.pages)))) (λ more. none s)
  see_close cpu f (phase.Taken inode) s = none s
  see_close cpu f (phase.Idle until kept) s = none s
  see_close cpu f (phase.Flying inode pages until) s = none s
  see_close cpu f phase.Finished s = none s

  no_items : {A : Type 0} (xs : List A) → length xs ≡ 0 → xs ≡ []
  no_items [] is = refl
  no_items (x ∷ xs) is = absurd (omega (arith, is))

  idle_by : (noted : Bool) (until : ℕ) (batch : List ℕ) → phase_at batch (cond noted (phase.Idle until true) (phase.Idle 0 false)) ≡ scanning []
  idle_by true until batch = refl
  idle_by false until batch = refl

  see_hand_over : (cpu f : ℕ) (p : ReplayPhase) (s : State) → cpu < length s.cpus → IsFlusherOn trace cpu f → f < length s.flushers → (flusher_of f s).phase ≡ p → IsAt trace (flusher_of f s).batch p
      → IsQuotaOf trace f p → R s (hand_over_in trace cpu f p s)
  see_hand_over cpu f (phase.Scanning scan) s there on known at its quota =
      either (R s) (eqb (length (flusher_of f s).batch) 0) (land_empty f scan.noted s) _
      (λ empty.
      let nothing : (flusher_of f s).batch ≡ [] = no_items (flusher_of f s).batch (eqb-true (length (flusher_of f s).batch) 0 empty) in
      let was : told_phase (flusher_of f s) ≡ scanning [] = ap (phase_at (flusher_of f s).batch) at ∙ ap scanning nothing in
      phased f (cond scan.noted (phase.Idle (s.now + 100) true) (phase.Idle 0 false)) s (idle_by scan.noted (s.now + 100) (flusher_of f s).batch ∙ sym was))
      (λ some.
      flies cpu f scan _ s (record { there = there; on = on; known = known; at = at; within = batch_within f scan (flusher_of f s).batch its quota })
      (eqb-false (length (flusher_of f s).batch) 0 some))
  see_hand_over cpu f (phase.Taken inode) s there on known at its quota = none s
  see_hand_over cpu f (phase.Idle until kept) s there on known at its quota = none s
  see_hand_over cpu f (phase.Flying inode pages until) s there on known at its quota = none s
  see_hand_over cpu f phase.Finished s there on known at its quota = none s

  see_completions : (cpu f inode n until : ℕ) (batch : List ℕ) (s : State) → cpu < length s.cpus → IsFlusherOn trace cpu f → f < length s.flushers → (flusher_of f s).phase ≡ phase.Flying inode n until
      → (flusher_of f s).batch ≡ batch → All (IsPageOf trace inode) batch → R s (complete_first trace cpu f (context_of trace inode) batch s)
  see_completions cpu f inode n until [] s there on known at is ours = none s
  see_completions cpu f inode n until (page ∷ pages) s there on known at is ours =
      completes cpu f inode page pages s
      (record {
        there = there;
        on = on;
        known = known;
        at = ap (phase_at (flusher_of f s).batch) at ∙ ap emptied is;
        flies = (n, until, at);
        page_is = All-head (IsPageOf trace inode) page pages ours;
      })

  see_complete : (cpu f : ℕ) (p : ReplayPhase) (s : State) → cpu < length s.cpus → IsFlusherOn trace cpu f → f < length s.flushers → (flusher_of f s).phase ≡ p → IsAt trace (flusher_of f s).batch p
      → R s (complete_in trace cpu f p s)
  see_complete cpu f (phase.Flying inode pages until) s there on known at its = see_completions cpu f inode pages until (flusher_of f s).batch s there on known at refl its.ours
  see_complete cpu f (phase.Taken inode) s there on known at its = none s
  see_complete cpu f (phase.Idle until kept) s there on known at its = none s
  see_complete cpu f (phase.Scanning scan) s there on known at its = none s
  see_complete cpu f phase.Finished s there on known at its = none s

  see_share : (cpu domain context n : ℕ) (s : State) → cpu < length s.cpus → domain < domains trace → context < length trace.contexts → (domain ≡ 0) ⊎ (domain ≡ group_of trace context) → R s (share trace cpu domain context n s)
  see_share cpu domain context n s there inside known its =
      either (R s) (may_be_added (fraction_of (part_in domain (writeback_of context s)) (domain_of domain s).events) (max_share trace context)) (share_now cpu domain context n s) s
      (λ may. shares cpu domain context n s there inside known its) (λ full. none s)

  see_share_group : (cpu group context n : ℕ) (s : State) → cpu < length s.cpus → group < domains trace → context < length trace.contexts → group ≡ group_of trace context → R s (share_group trace cpu group context n s)
  see_share_group cpu zero context n s there inside known its = none s
  see_share_group cpu (suc cgroup) context n s there inside known its = see_share cpu (suc cgroup) context n s there inside known (inr its)

  share_seats : (cpu domain context n : ℕ) (s : State) → length (share trace cpu domain context n s).cpus ≡ length s.cpus
  share_seats cpu domain context n s =
      either (λ (u : State). length u.cpus ≡ length s.cpus) (may_be_added (fraction_of (part_in domain (writeback_of context s)) (domain_of domain s).events) (max_share trace context)) (share_now cpu domain context n s) s
      (λ may. length-set s.cpus cpu _) (λ full. refl)

  see_landed : (cpu f context n : ℕ) (s : State) → cpu < length s.cpus → told_phase (flusher_of f s) ≡ scanning [] → context < length trace.contexts → R s (landed trace cpu f context n s)
  see_landed cpu f context n s there idle known =
      let group : group_of trace context < domains trace = omega (arith, facts.context_group context known) in
      let u = in_phase f (phase.Idle 0 false) s in
      let v = with_written context n u in
      let w = share trace cpu 0 context n v in
      thens s u (landed trace cpu f context n s) (phased f (phase.Idle 0 false) s (sym idle))
      (thens u v (landed trace cpu f context n s) (hide u v (hide_context context _ u refl))
      (thens v w (landed trace cpu f context n s) (see_share cpu 0 context n v there (omega arith) known (inl refl))
      (see_share_group cpu (group_of trace context) context n w (omega (arith, there, share_seats cpu 0 context n v)) group known refl)))

  see_land : (cpu f : ℕ) (p : ReplayPhase) (s : State) → cpu < length s.cpus → (flusher_of f s).phase ≡ p → IsAt trace (flusher_of f s).batch p → R s (land_in trace cpu f p s)
  see_land cpu f (phase.Flying inode pages until) s there at its =
      either (R s) (eqb (length (flusher_of f s).batch) 0) (landed trace cpu f (context_of trace inode) pages s) s
      (λ empty.
      let nothing : (flusher_of f s).batch ≡ [] = no_items (flusher_of f s).batch (eqb-true (length (flusher_of f s).batch) 0 empty) in
      see_landed cpu f (context_of trace inode) pages s there (ap (phase_at (flusher_of f s).batch) at ∙ ap emptied nothing) (facts.inode_context inode its.there))
      (λ some. none s)
  see_land cpu f (phase.Taken inode) s there at its = none s
  see_land cpu f (phase.Idle until kept) s there at its = none s
  see_land cpu f (phase.Scanning scan) s there at its = none s
  see_land cpu f phase.Finished s there at its = none s

  -- ---- the beginning of a turn

  see_page : (cpu task : ℕ) (pause : Option ℕ) (s : State) → R s (begin_page cpu task pause s)
  see_page cpu task None s = pushes cpu (todo.Step step.Dirty ∷ todo.Silent silent.End ∷ []) s (λ more h. (λ told. refl, (λ told. absurd (cc told), h)))
  see_page cpu task (Some ticks) s =
      let t : ReplayTask = record (task_of task s) { since = 0; rest = s.now + ticks } in
      let u = with_task task t s in
      thens s u (then_do cpu (todo.Silent silent.End ∷ []) u) (hide s u (hide_task task t s refl)) (do_quietly cpu (todo.Silent silent.End ∷ []) u (refl, tt))

  see_work : (cpu task : ℕ) (works : List ReplayWork) (s : State) → (task_of task s).works ≡ works → R s (begin_work cpu task works s)
  see_work cpu task [] s is = do_quietly cpu (todo.Silent silent.End ∷ []) s (refl, tt)
  see_work cpu task (work.Rest ticks ∷ works) s is =
      let t : ReplayTask = record (task_of task s) { works = works; rest = s.now + ticks } in
      let u = with_task task t s in
      thens s u (then_do cpu (todo.Silent silent.End ∷ []) u)
      (hide s u (hide_task task t s (sym (ap (λ (ws : List ReplayWork). (flat_map pages_of ws, (task_of task s).writers, (task_of task s).context, (task_of task s).ended)) is))))
      (do_quietly cpu (todo.Silent silent.End ∷ []) u (refl, tt))
  see_work cpu task (work.Write inode page pages ∷ works) s is = see_page cpu task (pause_in (task_of task s)) s

  check_later : (context group : ℕ) (more : List Todo) → EndsLater more → EndsLater (check_items context group ++ more)
  check_later context zero more h =
      (λ told. absurd (cc told), (λ told. absurd (cc told), (λ told. absurd (cc told), (λ told. absurd (cc told), (λ told. absurd (cc told), (λ told. refl, (λ told. absurd (cc told), h)))))))
  check_later context (suc cgroup) more h =
      (λ told. absurd (cc told), (λ told. absurd (cc told), (λ told. absurd (cc told), (λ told. absurd (cc told), (λ told. absurd (cc told), (λ told. absurd (cc told), (λ told. absurd (cc told), (λ told. absurd (cc told), (λ told. absurd (cc told), (λ told. refl, (λ told. absurd (cc told), h)))))))))))

  see_due : (cpu task : ℕ) (d : Due) (s : State) → R s (begin_due trace cpu task d s)
  see_due cpu task due.Check s = pushes cpu (check_items (task_of task s).context (group_of trace (task_of task s).context)) s (λ more h. check_later (task_of task s).context (group_of trace (task_of task s).context) more h)
  see_due cpu task due.No s = see_work cpu task (task_of task s).works s refl

  see_phase : (cpu f : ℕ) (p : ReplayPhase) (s : State) → Starts trace cpu (whose.Flusher f) s → (flusher_of f s).phase ≡ p → R s (begin_phase trace cpu f p s)
  see_phase cpu f (phase.Idle until kept) s starts at = see_idle cpu f s starts (ap (phase_at (flusher_of f s).batch) at)
  see_phase cpu f (phase.Taken inode) s starts at = do_quietly cpu (todo.Step step.Unmark ∷ []) s (refl, tt)
  see_phase cpu f (phase.Scanning scan) s starts at = do_quietly cpu (todo.Step step.Look ∷ []) s (refl, tt)
  see_phase cpu f (phase.Flying inode pages until) s starts at = do_quietly cpu (todo.Step step.Complete ∷ []) s (refl, tt)
  see_phase cpu f phase.Finished s starts at = none s

  see_for : (cpu : ℕ) (w : Whose) (s : State) → Starts trace cpu w s → R s (begin_for trace cpu w s)
  see_for cpu (whose.Task task) s starts = see_due cpu task (writer_of (task_of task s)).due s
  see_for cpu (whose.Flusher f) s starts = see_phase cpu f (flusher_of f s).phase s starts refl

  -- with as many CPUs and the same flushers
  starts_on : (cpu : ℕ) (w : Whose) (s v : State) → length v.cpus ≡ length s.cpus → v.flushers ≡ s.flushers → Starts trace cpu w s → Starts trace cpu w v
  starts_on cpu (whose.Task task) s v cpus flushers starts = tt
  starts_on cpu (whose.Flusher f) s v cpus flushers starts = (omega (arith, starts.0, cpus), starts.1, omega (arith, starts.2, ap (λ (l : List Flusher). length l) flushers))

  pub see_turn : (cpu : ℕ) (w : Whose) (c : Cpu) (s : State) → log_of c ≡ log_of (cpu_of cpu s) → c.local ≡ (cpu_of cpu s).local → GoesOn (cpu_of cpu s) c → c.todo ≡ [] → (cpu_of cpu s).todo ≡ []
      → Starts trace cpu w s → R s (begin_turn trace cpu w (with_cpu cpu c s))
  see_turn cpu w c s told local turn empty was starts =
      let u = with_cpu cpu c s in
      let v = with_cpu cpu (at_turn w u.now (cpu_of cpu u)) u in
      let nothing : (cpu_of cpu u).todo ≡ [] = same_at (λ (x : Cpu). x.todo) s.cpus cpu c no_cpu (empty ∙ sym was) cpu ∙ was in
      thens s u (begin_turn trace cpu w u) (quietly cpu c s told local turn)
      (thens u v (begin_turn trace cpu w u) (turned cpu w u nothing)
      (see_for cpu w v (starts_on cpu w s v (length-set u.cpus cpu (at_turn w u.now (cpu_of cpu u)) ∙ length-set s.cpus cpu c) refl starts)))

  -- ---- the items of a sound state's turn, where it may be another's in the rotation

  module _ (s0 : State) (sound : Sound trace s0) (orders : List Stretch) (rotation : Option Actor) (i : ℕ) (below : i < length s0.cpus) (ts : List Todo) where
    abbrev m : State
    m = record s0 { orders = orders; rotation = rotation }

    less : i < trace.cpus
    less = omega (arith, below, sound.holds.cpus.many)

    its_whose : (x : Todo) → (cpu_of i s0).todo ≡ x ∷ ts → IsWhose trace i (cpu_of i s0).turn.whose
    its_whose x is = (sound.holds.cpus.each i less).whose (omega (arith, ap (λ (l : List Todo). length l) is))

    agrees : (x : Todo) → (cpu_of i s0).todo ≡ x ∷ ts → Agrees trace s0.tasks s0.flushers (cpu_of i s0).turn.whose x
    agrees x is = All-head (Agrees trace s0.tasks s0.flushers (cpu_of i s0).turn.whose) x ts (subst (All (Agrees trace s0.tasks s0.flushers (cpu_of i s0).turn.whose)) is (sound.holds.agreed i less).items)

    fits : (x : Todo) → (cpu_of i s0).todo ≡ x ∷ ts → ItemFits trace x
    fits x is = All-head (ItemFits trace) x ts (subst (All (ItemFits trace)) is (sound.holds.cpus.each i less).todo)

    manned : (f : ℕ) → IsFlusherOn trace i f → f < length s0.flushers
    manned f on = omega (arith, on.there, sound.holds.flushers.many)

    at_of : (f : ℕ) → IsAt trace (flusher_of f s0).batch (flusher_of f s0).phase
    at_of f = (sound.holds.flushers.each f).phase

    quota_at : (f : ℕ) → IsQuotaOf trace f (flusher_of f s0).phase
    quota_at f = (sound.holds.flushers.each f).quota

    -- where an item was taken
    module _ (c : Cpu) (told : log_of c ≡ log_of (cpu_of i s0)) (local : c.local ≡ (cpu_of i s0).local) (turn_is : c.turn ≡ (cpu_of i s0).turn) (list : c.todo ≡ ts) where
      abbrev u : State
      u = with_cpu i c m

      taken : (x : Todo) → (cpu_of i s0).todo ≡ x ∷ ts → is_end x ≡ false → R m u
      taken x is going = quietly i c m told local (pop_turn x ts (cpu_of i m) c is going (ap (λ (t : ReplayTurn). t.whose) turn_is) list)

      takes : (task : ℕ) (x : Todo) → (cpu_of i s0).todo ≡ x ∷ ts → IsTaskOn trace i task → (cpu_of i s0).turn.whose ≡ whose.Task task → Takes trace i task x c m
      takes task x is on at = record {
        there = below;
        on = on;
        turn = at;
        told = told;
        local = local;
        whose = ap (λ (t : ReplayTurn). t.whose) turn_is;
        list = is ∙ ap (λ (l : List Todo). x ∷ l) (sym list);
      }

      here : i < length u.cpus
      here = omega (arith, below, length-set s0.cpus i c)

      now_whose : (cpu_of i u).turn.whose ≡ (cpu_of i s0).turn.whose
      now_whose = ap (λ (x : Cpu). x.turn.whose) (get_or-set_same s0.cpus i c no_cpu below) ∙ ap (λ (t : ReplayTurn). t.whose) turn_is

      -- what its turn has loaded, and when it began
      its_turn : IsTurn s0.now (cpu_of i u).turn
      its_turn = subst (IsTurn s0.now) (sym (ap (λ (x : Cpu). x.turn) (get_or-set_same s0.cpus i c no_cpu below) ∙ turn_is)) (sound.holds.cpus.each i less).turn

      -- by whose turn it is
      by_owner : (op : Whose → State) → R m (op (cpu_of i s0).turn.whose) → R m (op (cpu_of i u).turn.whose)
      by_owner op h = subst (λ (w : Whose). R m (op w)) (sym now_whose) h

      by_whose : R m u → (op : Whose → State) → R u (op (cpu_of i s0).turn.whose) → R m (op (cpu_of i u).turn.whose)
      by_whose was op h = thens m u (op (cpu_of i u).turn.whose) was (subst (λ (w : Whose). R u (op w)) (sym now_whose) h)

      dirty_by_whose : (w : Whose) → (cpu_of i s0).turn.whose ≡ w → (cpu_of i s0).todo ≡ todo.Step step.Dirty ∷ ts → IsWhose trace i w → Agrees trace s0.tasks s0.flushers w (todo.Step step.Dirty)
          → R m (dirty_by trace i w u)
      dirty_by_whose (whose.Task task) at is on agree =
          see_write i task (task_of task s0).works c m (takes task (todo.Step step.Dirty) is on at) refl (sound.holds.tasks.each task on.there).works agree.0 agree.1
      dirty_by_whose (whose.Flusher f) at is on agree = absurd agree

      unmark_by_whose : (w : Whose) → R u (unmark_by trace i w u)
      unmark_by_whose (whose.Flusher f) = see_unmark i f (flusher_of f s0).phase u refl (at_of f)
      unmark_by_whose (whose.Task task) = none u

      look_by_whose : (w : Whose) → R u (look_by i w u)
      look_by_whose (whose.Flusher f) = see_look i f (flusher_of f s0).phase u refl
      look_by_whose (whose.Task task) = none u

      claim_by_whose : (word : ℕ) (w : Whose) → IsWhose trace i w → Agrees trace s0.tasks s0.flushers w (todo.Step (step.Claim word)) → R u (claim_by i word w u)
      claim_by_whose word (whose.Flusher f) on agree = see_claim i f word (flusher_of f s0).phase u here on (manned f on) refl (at_of f) (quota_at f)
      claim_by_whose word (whose.Task task) on agree = absurd agree

      complete_by_whose : (w : Whose) → IsWhose trace i w → R u (complete_by trace i w u)
      complete_by_whose (whose.Flusher f) on = see_complete i f (flusher_of f s0).phase u here on (manned f on) refl (at_of f)
      complete_by_whose (whose.Task task) on = none u

      decide_by_whose : (w : Whose) → (cpu_of i s0).turn.whose ≡ w → (cpu_of i s0).todo ≡ todo.Silent silent.Decide ∷ ts → IsWhose trace i w
          → Agrees trace s0.tasks s0.flushers w (todo.Silent silent.Decide) → R m (decide_by trace i w u)
      decide_by_whose (whose.Task task) at is on agree =
          let fits_task = sound.holds.tasks.each task on.there in
          let k : ℕ = (task_of task s0).context in
          let inside : k < length trace.contexts = fits_task.context (some_context (length trace.contexts) (task_of task s0) fits_task.writers agree) in
          decides i task c m (takes task (todo.Silent silent.Decide) is on at)
          (record {
            there = here;
            on = on;
            is_due = agree;
            context_there = inside;
            in_range = check_in_range trace facts s0 sound orders rotation (set s0.cpus i c) task k on.there inside (cpu_of i u).turn its_turn;
          })
      decide_by_whose (whose.Flusher f) at is on agree = absurd agree

      end_by_whose : (w : Whose) → (cpu_of i s0).turn.whose ≡ w → (cpu_of i s0).todo ≡ todo.Silent silent.End ∷ ts → IsWhose trace i w
          → Agrees trace s0.tasks s0.flushers w (todo.Silent silent.End) → R m (end_by i w u)
      end_by_whose (whose.Task task) at is on agree =
          let fits_task = sound.holds.tasks.each task on.there in
          let its = takes task (todo.Silent silent.End) is on at in
          either (R m) (has_nothing (task_of task s0).works (writer_of (task_of task s0)).due) (end_now i task u) u
          (λ nothing. ends i task c m its (record { there = here; on = on; not_ended = agree; nothing = nothing }))
          (λ more. drops i task c m its (record { not_ended = agree; some = more; works = fits_task.works; last = fits_task.last }))
      end_by_whose (whose.Flusher f) at is on agree = absurd agree

      idle_is : (batch : List ℕ) (p : ReplayPhase) → IsIdle p → phase_at batch p ≡ scanning []
      idle_is batch (phase.Idle until kept) idle = refl
      idle_is batch (phase.Taken inode) idle = absurd idle
      idle_is batch (phase.Scanning scan) idle = absurd idle
      idle_is batch (phase.Flying inode pages until) idle = absurd idle
      idle_is batch phase.Finished idle = absurd idle

      test_by_whose : (t : ReplayTurn) (w : Whose) → t.began < 2 ^ 62 → IsWhose trace i w → Agrees trace s0.tasks s0.flushers w (todo.Silent silent.Test) → R u (test_by trace i t w u)
      test_by_whose t (whose.Flusher f) before on agree = see_test i f t u before on here (manned f on) sound.holds.queues (idle_is (flusher_of f s0).batch (flusher_of f s0).phase agree)
      test_by_whose t (whose.Task task) before on agree = none u

      close_by_whose : (w : Whose) → R u (close_by trace i w u)
      close_by_whose (whose.Flusher f) = see_close i f (flusher_of f s0).phase u
      close_by_whose (whose.Task task) = none u

      hand_by_whose : (w : Whose) → IsWhose trace i w → R u (hand_over_by trace i w u)
      hand_by_whose (whose.Flusher f) on = see_hand_over i f (flusher_of f s0).phase u here on (manned f on) refl (at_of f) (quota_at f)
      hand_by_whose (whose.Task task) on = none u

      land_by_whose : (w : Whose) → R u (land_by trace i w u)
      land_by_whose (whose.Flusher f) = see_land i f (flusher_of f s0).phase u here refl (at_of f)
      land_by_whose (whose.Task task) = none u

      estimate_by : (k : ℕ) (w : Whose) → (cpu_of i u).turn.whose ≡ w → IsWhose trace i w → Agrees trace s0.tasks s0.flushers w (todo.Silent (silent.Estimate k)) → k < length trace.contexts
          → (found : Option Estimate) → update_of (writeback_of k u).estimate (sample_of trace k (cpu_of i u).turn u) ≡ found → R u (estimate_to i k found u)
      estimate_by k w turn on agree known None is = none u
      estimate_by k (whose.Flusher f) turn on agree known (Some e) is = estimates i f k e u (record { there = here; on = on; context_there = known; turn = turn; measured = agree.1 }) is
      estimate_by k (whose.Task task) turn on agree known (Some e) is = absurd agree

      step_seen : (x : Step) → (cpu_of i s0).todo ≡ todo.Step x ∷ ts → R m (make_step trace i x u)
      unfolding make_step
      step_seen step.Dirty is =
          by_owner (λ w. dirty_by trace i w u)
          (dirty_by_whose (cpu_of i s0).turn.whose refl is (its_whose (todo.Step step.Dirty) is) (agrees (todo.Step step.Dirty) is))
      step_seen (step.Add x change) is = thens m u _ (taken (todo.Step (step.Add x change)) is refl) (see_add i x change u)
      step_seen (step.Fold x) is = thens m u _ (taken (todo.Step (step.Fold x)) is refl) (folds i x u here (fits (todo.Step (step.Fold x)) is))
      step_seen (step.Clear x) is = thens m u _ (taken (todo.Step (step.Clear x)) is refl) (see_clear i x u)
      step_seen (step.Mark inode) is = thens m u _ (taken (todo.Step (step.Mark inode)) is refl) (see_mark i inode u)
      step_seen (step.First d) is = thens m u _ (taken (todo.Step (step.First d)) is refl) (see_first i d u)
      step_seen (step.Middle d) is = thens m u _ (taken (todo.Step (step.Middle d)) is refl) (plainly kind.Middle i u u (none u))
      step_seen (step.Limits d) is = thens m u _ (taken (todo.Step (step.Limits d)) is refl) (see_limits i d u)
      step_seen (step.Count x) is =
          let loaded : Cpu = record (cpu_of i u) { turn = count_kept x (count_of x u) (cpu_of i u).turn } in
          thens m u _ (taken (todo.Step (step.Count x)) is refl)
          (plainly kind.Count i u (with_cpu i loaded u) (quietly i loaded u refl refl (same_turn (cpu_of i u) loaded (count_whose x (count_of x u) (cpu_of i u).turn) refl)))
      step_seen step.Unmark is = by_whose (taken (todo.Step step.Unmark) is refl) (λ w. unmark_by trace i w u) (unmark_by_whose (cpu_of i s0).turn.whose)
      step_seen step.Look is = by_whose (taken (todo.Step step.Look) is refl) (λ w. look_by i w u) (look_by_whose (cpu_of i s0).turn.whose)
      step_seen (step.Claim word) is =
          by_whose (taken (todo.Step (step.Claim word)) is refl) (λ w. claim_by i word w u)
          (claim_by_whose word (cpu_of i s0).turn.whose (its_whose (todo.Step (step.Claim word)) is) (agrees (todo.Step (step.Claim word)) is))
      step_seen step.Complete is =
          by_whose (taken (todo.Step step.Complete) is refl) (λ w. complete_by trace i w u) (complete_by_whose (cpu_of i s0).turn.whose (its_whose (todo.Step step.Complete) is))

      move_seen : (x : Silent) → (cpu_of i s0).todo ≡ todo.Silent x ∷ ts → R m (make_move trace i x u)
      unfolding make_move
      move_seen silent.Decide is =
          by_owner (λ w. decide_by trace i w u)
          (decide_by_whose (cpu_of i s0).turn.whose refl is (its_whose (todo.Silent silent.Decide) is) (agrees (todo.Silent silent.Decide) is))
      move_seen silent.End is =
          by_owner (λ w. end_by i w u) (end_by_whose (cpu_of i s0).turn.whose refl is (its_whose (todo.Silent silent.End) is) (agrees (todo.Silent silent.End) is))
      move_seen (silent.Estimate k) is =
          thens m u (estimate trace i k u) (taken (todo.Silent (silent.Estimate k)) is refl)
          (estimate_by k (cpu_of i s0).turn.whose now_whose (its_whose (todo.Silent (silent.Estimate k)) is) (agrees (todo.Silent (silent.Estimate k)) is) (fits (todo.Silent (silent.Estimate k)) is)
          (update_of (writeback_of k u).estimate (sample_of trace k (cpu_of i u).turn u)) refl)
      move_seen (silent.Weigh k) is =
          let noted : Cpu = over_noted (is_over_by_itself (weighed_by trace k (cpu_of i u) u)) (cpu_of i u) in
          thens m u (weigh trace i k u) (taken (todo.Silent (silent.Weigh k)) is refl) (quietly i noted u refl refl (same_turn (cpu_of i u) noted refl refl))
      move_seen silent.Test is =
          by_whose (taken (todo.Silent silent.Test) is refl) (λ w. test_by trace i (cpu_of i u).turn w u)
          (test_by_whose (cpu_of i u).turn (cpu_of i s0).turn.whose (early trace facts s0 sound (cpu_of i u).turn.began its_turn.began) (its_whose (todo.Silent silent.Test) is) (agrees (todo.Silent silent.Test) is))
      move_seen silent.Close is = by_whose (taken (todo.Silent silent.Close) is refl) (λ w. close_by trace i w u) (close_by_whose (cpu_of i s0).turn.whose)
      move_seen silent.HandOver is =
          by_whose (taken (todo.Silent silent.HandOver) is refl) (λ w. hand_over_by trace i w u) (hand_by_whose (cpu_of i s0).turn.whose (its_whose (todo.Silent silent.HandOver) is))
      move_seen silent.Land is = by_whose (taken (todo.Silent silent.Land) is refl) (λ w. land_by trace i w u) (land_by_whose (cpu_of i s0).turn.whose)

    pub steps_seen : (x : Step) → (cpu_of i s0).todo ≡ todo.Step x ∷ ts → R m (make_step trace i x (with_cpu i (record (cpu_of i m) { todo = ts; made = (cpu_of i m).made + 1 }) m))
    steps_seen x is = step_seen (record (cpu_of i s0) { todo = ts; made = (cpu_of i s0).made + 1 }) refl refl refl refl x is

    pub moves_seen : (x : Silent) → (cpu_of i s0).todo ≡ todo.Silent x ∷ ts → R m (make_move trace i x (with_cpu i (record (cpu_of i m) { todo = ts }) m))
    moves_seen x is = move_seen (record (cpu_of i s0) { todo = ts }) refl refl refl refl x is
