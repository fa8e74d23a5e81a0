-- A flusher takes an inode from its device's queue or from its list, notices the inodes of the queue, clears the mark of the inode that it
-- took, rests, or is finished where the queue and its list are empty in the drain.
use Rattle.std.proofs.Common.{◌≡◌, ◌≢◌, ◌⊎◌, ℕ, ◌+◌, ◌<◌, ◌≤◌, true, false, List, [], ◌∷◌, length, get_or, All, refl, sym, ◌∙◌, ap, subst, arith, inl, inr, ne_eqb, Bool, ◌||◌, Option, Some, None, eqb, eq-eqb}
use Rattle.std.proofs.lemmas.List.{get_or-set_same, get_or-set_other, length-set, set-get_or}
use Rattle.std.proofs.lemmas.List.Elements.{All-head, All-tail}
use Rattle.std.specs.List.{list_any}
use mathlib.Core.Logic.{dite}
use native.Mathlib.Decide.{ℕ_discrete}
use Rattle.wbt_replay_order.proofs.Common.{Trace, one_if, times_in, finish, rest_until, take_or_finish, take_or_rest, with_hard, scan_of, unmark_of, unmark_in, take_now, with_pairs, take_last, told_by, tell, waits, note, noticed, age, tested_by, State, cpu_of, flusher_of, queue_of, with_queue, in_phase, no_flusher, waiting_of, with_waiting, Scan, device_at, inode_of, device_of, flusher_device, Flusher, ReplayPhase, ReplayTurn, is_finished, Facts, IsPageOf, IsFlusherOn, AreQueued, AreQueues, IsIdle, is_hand_over, IsStillOpen, IsPlaced, Waiting, pairs_in, AreListed, queued, listed, taken, scanned, has_inode, each_put, due_after, logged, log_at, Entry, Cpu}
use Rattle.wbt_replay_moves.specs.Definition.Idle.{take}
use Rattle.wbt_rules.proofs.Places.{all_ahead}
use Rattle.wbt_replay_moves.specs.declared.state.ReplayPhase.TheVariants as phase
use Rattle.wbt_replay_moves.specs.declared.todo.Step.TheVariants as step
use Rattle.wbt_replay_moves.specs.declared.todo.Todo.TheVariants as todo
use Rattle.wbt_replay_order.proofs.Facts.Lists.{either, twice}
use Rattle.wbt_replay_ends.proofs.Waiting.Scans.{push_waits}
use Rattle.wbt_replay_ends.proofs.Waiting.Still.{still_alike, cpu_stays}
use Rattle.wbt_replay_ends.proofs.Waiting.Turned.{is_parked, scan_in, now_is, turned_waits, parks, goes_on, same_queue, same_lists, same_ours}
use Rattle.std.proofs.Math.ListN.{set}
use Rattle.std.proofs.lemmas.Bool.{or_left, or_right}
use Rattle.wbt_expiry.specs.Waiting.{Waiting as Wheel}
use Rattle.wbt_expiry.specs.declared.due.Due.{Due}
use Rattle.wbt_expiry.proofs.Sorting.{has_put}
use Rattle.wbt_replay_order.proofs.Facts.Ages.{noticed_kept, aged_kept}
use Rattle.wbt_replay_order.proofs.Lists.Numbered.{set_all}
use Rattle.wbt_replay_order.proofs.Lists.Todos.{same_alike}
use Rattle.wbt_journal.specs.declared.entry.Entry.TheVariants as entry

-- another inode waits as before
others_wait : (m : ℕ) (pair : Due) (pairs : List Due) → m ≢ pair.inode → has_inode m (pair ∷ pairs) ≡ true → has_inode m pairs ≡ true
unfolding has_inode
others_wait m pair pairs other some = sym (ap (λ (b : Bool). b || has_inode m pairs) (ne_eqb pair.inode m (λ same. other (sym same)))) ∙ some

idle_goes : (p : ReplayPhase) → IsIdle p → is_finished p ≡ true → ⊥
idle_goes (phase.Idle until kept) idle over = cc over
idle_goes (phase.Taken n) idle over = absurd idle
idle_goes (phase.Scanning scan) idle over = absurd idle
idle_goes (phase.Flying n pages until) idle over = absurd idle
idle_goes phase.Finished idle over = absurd idle

abbrev taken_in : ReplayPhase → ℕ
taken_in (phase.Taken inode) = inode
taken_in p = 0

module _ (trace : Trace) (facts : Facts trace) (i f : ℕ) (less : i < trace.cpus) (on : IsFlusherOn trace i f) where
  module _ (s : State) (seats : length s.cpus ≡ trace.cpus) (many : length s.flushers ≡ length trace.flushers) (w : Waiting trace s) (queues : AreQueues trace s.queues)
      (idle : IsIdle (flusher_of f s).phase) where
    untaken : (n : ℕ) → (flusher_of f s).phase ≡ phase.Taken n → ⊥
    untaken n at = subst IsIdle at idle

    unscanned : (scan : Scan) → (flusher_of f s).phase ≡ phase.Scanning scan → ⊥
    unscanned scan at = subst IsIdle at idle

    -- ---- an inode is taken

    pub take_waits : (n : ℕ) (ns : List ℕ) → queue_of (flusher_device trace f) s ≡ n ∷ ns → Waiting trace (take trace i f n ns s)
    take_waits n ns is =
        let d : ℕ = flusher_device trace f in
        let x : Flusher = record (flusher_of f s) { phase = phase.Taken n } in
        let u : State = in_phase f (phase.Taken n) (with_queue d ns s) in
        let device : d < length s.queues = omega (arith, facts.flusher_device_is f on.there, queues.many) in
        let now : queue_of d u ≡ ns = get_or-set_same s.queues d ns [] device in
        let elsewhere : (e : ℕ) → e ≢ d → queue_of e u ≡ queue_of e s = λ e other. get_or-set_other s.queues d e ns [] other in
        let at : (flusher_of f u).phase ≡ phase.Taken n = ap (λ (y : Flusher). y.phase) (now_is trace i f less on s seats many w x u refl) in
        push_waits trace i (todo.Step step.Unmark ∷ []) u _ (refl, tt)
        (turned_waits trace i f less on s seats many w x u (record {
          flushers = refl;
          alike = still_alike trace s u refl;
          running = omega arith;
          marks = λ m e. e;
          dirties = λ p e. e;
          flights = λ p e. inl e;
          held = λ p e some. some;
          queue = λ m some. dite (ℕ_discrete m n)
              (λ same. taken f on.there (at ∙ ap phase.Taken (sym same)))
              (λ other. dite (ℕ_discrete (device_of trace m) d)
              (λ here. queued (omega (arith, some, ap (λ (e : ℕ). times_in m (queue_of e s)) here, ap (times_in m) is, ap one_if (ne_eqb m n other), ap (λ (e : ℕ). times_in m (queue_of e u)) here, ap (times_in m) now)))
              (λ there. queued (omega (arith, some, ap (times_in m) (elsewhere (device_of trace m) there)))));
          serves = λ e l some. dite (ℕ_discrete e d)
              (λ here. omega (arith, ap (λ (k : ℕ). length (queue_of k s)) here, ap (λ (l : List ℕ). length l) is))
              (λ there. omega (arith, some, ap (λ (l : List ℕ). length l) (elsewhere e there)));
          lists = same_lists trace i f less on s seats many w x u refl refl;
          ours = same_ours trace i f less on s seats many w x u refl;
          empties = λ over. absurd (cc over);
          was_taken = λ m e found. absurd (untaken m found);
          was_awaited = λ m p page found. absurd (untaken m found);
          was_scanned = λ m p scan page e found its behind still. absurd (unscanned scan found);
          placed = (All-head (AreQueued trace d) n ns (subst (All (AreQueued trace d)) is (queues.each d))).ours;
          ends = λ over. absurd (cc over);
        }))
        refl (omega arith) refl refl refl refl

    -- the first of its list is taken, which is told
    pub told_waits : (e : Entry) (pair : Due) (pairs : List Due) → (waiting_of f s).pairs ≡ pair ∷ pairs → Waiting trace (take_now i f pair.inode (log_at i e (with_pairs f pairs s)))
    told_waits e pair pairs is =
        let n : ℕ = pair.inode in
        let takes : Flusher → Flusher = λ y. record y { phase = phase.Taken n } in
        let left : Flusher = record (flusher_of f s) { wheel = Some (record (waiting_of f s) { pairs = pairs }) } in
        let x : Flusher = takes left in
        let u : State = in_phase f (phase.Taken n) (with_pairs f pairs s) in
        let v : State = log_at i e u in
        let flushers : u.flushers ≡ set s.flushers f x = twice takes s.flushers f left no_flusher (omega (arith, on.there, many)) in
        let now : flusher_of f u ≡ x = now_is trace i f less on s seats many w x u flushers in
        let at : (flusher_of f u).phase ≡ phase.Taken n = ap (λ (y : Flusher). y.phase) now in
        let all : AreListed trace f (pair ∷ pairs) = subst (AreListed trace f) is (w.lists f on.there) in
        push_waits trace i (todo.Step step.Unmark ∷ []) v _ (refl, tt)
        (cpu_stays trace i (logged e (cpu_of i u)) u v
        (turned_waits trace i f less on s seats many w x u (record {
          flushers = flushers;
          alike = still_alike trace s u refl;
          running = omega arith;
          marks = λ m e. e;
          dirties = λ p e. e;
          flights = λ p e. inl e;
          held = λ p e some. some;
          queue = same_queue trace i f less on s seats many w x u refl;
          serves = λ e l some. some;
          lists = λ m some. dite (ℕ_discrete m n)
              (λ same. taken f on.there (at ∙ ap phase.Taken (sym same)))
              (λ other. listed f on.there (ap (λ (y : Flusher). has_inode m (pairs_in y)) now ∙ others_wait m pair pairs other (sym (ap (has_inode m) is) ∙ some)));
          ours = all.1;
          empties = λ over. absurd (cc over);
          was_taken = λ m e found. absurd (untaken m found);
          was_awaited = λ m p page found. absurd (untaken m found);
          was_scanned = λ m p scan page e found its behind still. absurd (unscanned scan found);
          placed = all.0;
          ends = λ over. absurd (cc over);
        }))
        (same_alike trace (cpu_of i u) _ refl refl) refl (omega arith) refl refl refl refl)
        refl (omega arith) refl refl refl refl

    -- the first number of the queue leaves it for the list of the flusher
    leaves_waits : (n : ℕ) (ns : List ℕ) → queue_of (flusher_device trace f) s ≡ n ∷ ns → (x : Flusher) (t : State) → t.queues ≡ (with_queue (flusher_device trace f) ns s).queues
        → t.flushers ≡ set s.flushers f x → t.cpus ≡ s.cpus → t.running ≤ s.running → t.marks ≡ s.marks → t.book ≡ s.book → x.phase ≡ (flusher_of f s).phase → x.batch ≡ (flusher_of f s).batch
        → ((m : ℕ) → has_inode m (waiting_of f s).pairs ≡ true → has_inode m (pairs_in x) ≡ true) → has_inode n (pairs_in x) ≡ true → AreListed trace f (pairs_in x) → Waiting trace t
    leaves_waits n ns is x t qs flushers cpus running marks book phase batch more itself ours =
        let d : ℕ = flusher_device trace f in
        let device : d < length s.queues = omega (arith, facts.flusher_device_is f on.there, queues.many) in
        let here : queue_of d t ≡ ns = ap (λ (l : List (List ℕ)). get_or l d []) qs ∙ get_or-set_same s.queues d ns [] device in
        let elsewhere : (e : ℕ) → e ≢ d → queue_of e t ≡ queue_of e s = λ e other. ap (λ (l : List (List ℕ)). get_or l e []) qs ∙ get_or-set_other s.queues d e ns [] other in
        let now : flusher_of f t ≡ x = now_is trace i f less on s seats many w x t flushers in
        turned_waits trace i f less on s seats many w x t (record {
          flushers = flushers;
          alike = still_alike trace s t cpus;
          running = running;
          marks = λ m e. sym (ap (λ (ms : List Bool). get_or ms m true) marks) ∙ e;
          dirties = λ p e. sym (ap (λ b. (b p).dirty) book) ∙ e;
          flights = λ p e. inl (sym (ap (λ b. (b p).writeback) book) ∙ e);
          held = λ p e some. subst (λ (l : List ℕ). 1 ≤ times_in p l) (sym batch) some;
          queue = λ m some. dite (ℕ_discrete m n)
              (λ same. listed f on.there (ap (λ (y : Flusher). has_inode m (pairs_in y)) now ∙ (ap (λ (k : ℕ). has_inode k (pairs_in x)) same ∙ itself)))
              (λ other. dite (ℕ_discrete (device_of trace m) d)
              (λ ours. queued (omega (arith, some, ap (λ (e : ℕ). times_in m (queue_of e s)) ours, ap (times_in m) is, ap one_if (ne_eqb m n other), ap (λ (e : ℕ). times_in m (queue_of e t)) ours, ap (times_in m) here)))
              (λ there. queued (omega (arith, some, ap (times_in m) (elsewhere (device_of trace m) there)))));
          serves = λ e l some. dite (ℕ_discrete e d)
              (λ ours. omega (arith, ap (λ (k : ℕ). length (queue_of k s)) ours, ap (λ (l : List ℕ). length l) is))
              (λ there. omega (arith, some, ap (λ (l : List ℕ). length l) (elsewhere e there)));
          lists = λ m some. listed f on.there (ap (λ (y : Flusher). has_inode m (pairs_in y)) now ∙ more m some);
          ours = ours;
          empties = λ over. absurd (idle_goes (flusher_of f s).phase idle (ap is_finished (sym phase) ∙ over));
          was_taken = λ m e found. absurd (untaken m found);
          was_awaited = λ m p page found. absurd (untaken m found);
          was_scanned = λ m p scan page e found its behind still. absurd (unscanned scan found);
          placed = subst (IsPlaced trace f) (sym phase) (w.places f on.there);
          ends = λ over. inl (ap is_finished (sym phase) ∙ over);
        })

    parked : (p : ReplayPhase) (t : State) → t.flushers ≡ (in_phase f p s).flushers → t.cpus ≡ s.cpus → t.running ≤ s.running → t.marks ≡ s.marks → t.queues ≡ s.queues → t.book ≡ s.book → is_parked p ≡ true
        → (is_finished p ≡ true → (is_finished (flusher_of f s).phase ≡ true) ⊎ ((s.running ≡ 0) × (length (queue_of (flusher_device trace f) t) ≡ 0)))
        → (is_finished p ≡ true → (waiting_of f s).pairs ≡ []) → Waiting trace t
    parked p t flushers cpus running marks qs book is ends empty =
        parks trace i f less on s seats many w (record (flusher_of f s) { phase = p }) t (still_alike trace s t cpus) flushers running marks qs book refl refl is
        untaken (λ n page scan here at its behind still. unscanned scan at) ends empty

    take_or_finish_waits : (ns : List ℕ) → queue_of (flusher_device trace f) s ≡ ns → s.running ≡ 0 → (waiting_of f s).pairs ≡ [] → Waiting trace (take_or_finish trace i f ns s)
    take_or_finish_waits [] is drained empty =
        parked phase.Finished (finish f s) refl refl (omega arith) refl refl refl refl (λ over. inr (drained, ap (λ (l : List ℕ). length l) is)) (λ over. empty)
    take_or_finish_waits (n ∷ ns) is drained empty = take_waits n ns is

    pub take_last_waits : (pairs : List Due) → (waiting_of f s).pairs ≡ pairs → s.running ≡ 0 → Waiting trace (take_last trace i f pairs s)
    take_last_waits [] is drained = take_or_finish_waits (queue_of (flusher_device trace f) s) refl drained is
    take_last_waits (pair ∷ pairs) is drained = told_waits (entry.Taken f pair.inode) pair pairs is

    pub rest_waits : (until : ℕ) → Waiting trace (rest_until f until s)
    rest_waits until = parked (phase.Idle until false) (rest_until f until s) refl refl (omega arith) refl refl refl refl (λ over. absurd (cc over)) (λ over. absurd (cc over))

    pub take_or_rest_waits : (until : ℕ) (ns : List ℕ) → queue_of (flusher_device trace f) s ≡ ns → Waiting trace (take_or_rest trace i f until ns s)
    take_or_rest_waits until [] is = rest_waits until
    take_or_rest_waits until (n ∷ ns) is = take_waits n ns is

  -- ---- writeback by age

  -- a state in which the flusher is still idle
  record Idles (s : State) : Type 0 where
    seats : length s.cpus ≡ trace.cpus
    many : length s.flushers ≡ length trace.flushers
    waits : Waiting trace s
    queues : AreQueues trace s.queues
    idle : IsIdle (flusher_of f s).phase

  module _ (s : State) (h : Idles s) where
    stays_idle : (x : Flusher) → x.phase ≡ (flusher_of f s).phase → IsIdle (get_or (set s.flushers f x) f no_flusher).phase
    stays_idle x same =
        subst (λ (y : Flusher). IsIdle y.phase) (sym (get_or-set_same s.flushers f x no_flusher (omega (arith, on.there, h.many)))) (subst IsIdle (sym same) h.idle)

    tell_idles : (now : ℕ) → Idles (tell f now s)
    tell_idles now =
        let x : Flusher = record (flusher_of f s) { wheel = Some (told_by now (waiting_of f s)) } in
        record {
          seats = h.seats;
          many = length-set s.flushers f x ∙ h.many;
          waits = goes_on trace i f less on s h.seats h.many h.waits x (tell f now s) (still_alike trace s (tell f now s) refl) refl (omega arith) refl refl refl refl (λ p e. e) (λ p e. e) (λ p e some. some);
          queues = h.queues;
          idle = stays_idle x refl;
        }

    left_queues : (n : ℕ) (ns : List ℕ) → queue_of (flusher_device trace f) s ≡ n ∷ ns → AreQueues trace (set s.queues (flusher_device trace f) ns)
    left_queues n ns is =
        let d : ℕ = flusher_device trace f in
        record {
          many = length-set s.queues d ns ∙ h.queues.many;
          each = set_all (λ e (q : List ℕ). All (AreQueued trace e) q) s.queues d ns [] (All-tail (AreQueued trace d) n ns (subst (All (AreQueued trace d)) is (h.queues.each d))) h.queues.each;
        }

    drop_idles : (n : ℕ) (ns : List ℕ) → queue_of (flusher_device trace f) s ≡ n ∷ ns → has_inode n (waiting_of f s).pairs ≡ true → Idles (with_queue (flusher_device trace f) ns s)
    drop_idles n ns is waits = record {
      seats = h.seats;
      many = h.many;
      waits = leaves_waits s h.seats h.many h.waits h.queues h.idle n ns is (flusher_of f s) (with_queue (flusher_device trace f) ns s) refl (sym (set-get_or s.flushers f no_flusher)) refl (omega arith) refl refl refl refl
          (λ m some. some) waits (h.waits.lists f on.there);
      queues = left_queues n ns is;
      idle = h.idle;
    }

    note_idles : (now n : ℕ) (ns : List ℕ) → queue_of (flusher_device trace f) s ≡ n ∷ ns → Idles (note trace i f n now (with_queue (flusher_device trace f) ns s))
    note_idles now n ns is =
        let d : ℕ = flusher_device trace f in
        let pair : Due = record { due = due_after trace n now; inode = n } in
        let x : Flusher = record (flusher_of f s) { wheel = Some (waits trace n now (waiting_of f s)) } in
        let u : State = with_waiting f (waits trace n now (waiting_of f s)) (with_queue d ns s) in
        let c : Cpu = logged (entry.Noticed f n now) (cpu_of i u) in
        record {
          seats = length-set s.cpus i c ∙ h.seats;
          many = length-set s.flushers f x ∙ h.many;
          waits = cpu_stays trace i c u (log_at i (entry.Noticed f n now) u)
              (leaves_waits s h.seats h.many h.waits h.queues h.idle n ns is x u refl refl refl (omega arith) refl refl refl refl
              (λ m some. has_put m pair (waiting_of f s).pairs ∙ or_right (eqb n m) (has_inode m (waiting_of f s).pairs) some)
              (has_put n pair (waiting_of f s).pairs ∙ or_left (eqb n n) (has_inode n (waiting_of f s).pairs) (eq-eqb n n refl))
              (each_put (λ (p : Due). device_of trace p.inode ≡ d) pair (waiting_of f s).pairs
              (All-head (AreQueued trace d) n ns (subst (All (AreQueued trace d)) is (h.queues.each d))).ours (h.waits.lists f on.there)))
              (same_alike trace (cpu_of i u) c refl refl) refl (omega arith) refl refl refl refl;
          queues = left_queues n ns is;
          idle = stays_idle x refl;
        }

  age_waits : (now : ℕ) (over : Bool) (s : State) → Idles s → Waiting trace (age trace i f now over s)
  age_waits now over s h =
      let u : State = noticed trace i f now s in
      let k : Idles u = noticed_kept trace i f now Idles (λ v g. tell_idles v g now) (λ v n ns is waits g. drop_idles v g n ns is waits) (λ v n ns is new g. note_idles v g now n ns is) s h in
      aged_kept i f now over u (Waiting trace) (rest_waits u k.seats k.many k.waits k.queues k.idle (now + 100))
      (λ pair pairs is by_now. told_waits u k.seats k.many k.waits k.queues k.idle (entry.Aged f pair.inode pair.due now) pair pairs is)
      (λ pair pairs is. told_waits u k.seats k.many k.waits k.queues k.idle (entry.Taken f pair.inode) pair pairs is)

  -- ---- the end of a test

  module _ (s : State) (seats : length s.cpus ≡ trace.cpus) (many : length s.flushers ≡ length trace.flushers) (w : Waiting trace s) where
    pub tested_waits : (turn : ReplayTurn) (hard : ℕ) (wheel : Option Wheel) → AreQueues trace s.queues → IsIdle (flusher_of f s).phase → Waiting trace (tested_by trace i f turn wheel (with_hard f hard s))
    tested_waits turn hard wheel queues idle =
        let x : Flusher = record (flusher_of f s) { hard = hard } in
        let v : State = with_hard f hard s in
        let k : Waiting trace v = goes_on trace i f less on s seats many w x v (still_alike trace s v refl) refl (omega arith) refl refl refl refl (λ p e. e) (λ p e. e) (λ p e some. some) in
        let now : flusher_of f v ≡ x = now_is trace i f less on s seats many w x v refl in
        let still_idle : IsIdle (flusher_of f v).phase = subst (λ (y : Flusher). IsIdle y.phase) (sym now) idle in
        let more : length v.flushers ≡ length trace.flushers = length-set s.flushers f x ∙ many in
        by_wheel v seats more k queues still_idle wheel
      where
        by_wheel : (v : State) → length v.cpus ≡ trace.cpus → length v.flushers ≡ length trace.flushers → Waiting trace v → AreQueues trace v.queues → IsIdle (flusher_of f v).phase → (wheel : Option Wheel)
            → Waiting trace (tested_by trace i f turn wheel v)
        by_wheel v here more k qs still_idle None =
            either (Waiting trace) turn.over (take_or_rest trace i f (turn.began + 100) (queue_of (flusher_device trace f) v) v) (rest_until f (turn.began + 100) v)
            (λ over. take_or_rest_waits v here more k qs still_idle (turn.began + 100) (queue_of (flusher_device trace f) v) refl)
            (λ under. rest_waits v here more k qs still_idle (turn.began + 100))
        by_wheel v here more k qs still_idle (Some wheel) = age_waits turn.began turn.over v (record { seats = here; many = more; waits = k; queues = qs; idle = still_idle })

    -- ---- the mark is cleared

    cleared_waits : (n : ℕ) → (flusher_of f s).phase ≡ phase.Taken n → n < length s.marks → get_or (flusher_of f s).places n 0 < (inode_of trace n).pages
        → list_any is_hand_over (cpu_of i s).todo ≡ false → Waiting trace (unmark_of trace i f n s)
    cleared_waits n at there below shut =
        let p : ReplayPhase = scan_of trace f n s in
        let scan : Scan = scan_in p in
        let low : scan.start < scan.pages =
        either (λ (k : ℕ). k < (inode_of trace n).pages) (device_at trace (flusher_device trace f)).cyclic (get_or (flusher_of f s).places n 0) 0 (λ goes. below) (λ stays. omega (arith, below)) in
        let x : Flusher = record (flusher_of f s) { phase = p } in
        let t : State = unmark_of trace i f n s in
        let now : (flusher_of f t).phase ≡ p = ap (λ (y : Flusher). y.phase) (now_is trace i f less on s seats many w x t refl) in
        let cleared : get_or t.marks n true ≡ false = get_or-set_same s.marks n false true there in
        let unscanned : (scan : Scan) → (flusher_of f s).phase ≡ phase.Scanning scan → ⊥ = λ scan found. cc (sym found ∙ at) in
        turned_waits trace i f less on s seats many w x t (record {
          flushers = refl;
          alike = still_alike trace s t refl;
          running = omega arith;
          marks = λ m e. dite (ℕ_discrete m n)
              (λ same. absurd (cc (sym e ∙ (ap (λ (k : ℕ). get_or t.marks k true) same ∙ cleared))))
              (λ other. sym (get_or-set_other s.marks n m false true other) ∙ e);
          dirties = λ q e. e;
          flights = λ q e. inl e;
          held = λ q e some. some;
          queue = same_queue trace i f less on s seats many w x t refl;
          serves = λ e l some. some;
          lists = same_lists trace i f less on s seats many w x t refl refl;
          ours = same_ours trace i f less on s seats many w x t refl;
          empties = λ over. absurd (cc over);
          was_taken = λ m e found. absurd (cc (sym e ∙ (ap (λ (k : ℕ). get_or t.marks k true) (ap taken_in (sym found ∙ at)) ∙ cleared)));
          was_awaited = λ m q page found.
              let same : m ≡ n = ap taken_in (sym found ∙ at) in
              let here : IsPageOf trace n q = subst (λ (k : ℕ). IsPageOf trace k q) same page in
              scanned f scan on.there now (sym same) (inl (all_ahead scan q low refl here.after_first here.before_end))
              (subst (λ (k : ℕ). IsStillOpen f (cpu_of k t)) (sym on.cpu_is) (λ ours. shut));
          was_scanned = λ m q scan page e found its behind still. absurd (unscanned scan found);
          placed = subst (IsPlaced trace f) at (w.places f on.there);
          ends = λ over. absurd (cc over);
        })

    pub unmark_waits : (p : ReplayPhase) → (flusher_of f s).phase ≡ p
        → ((n : ℕ) → p ≡ phase.Taken n → (n < length s.marks) × (get_or (flusher_of f s).places n 0 < (inode_of trace n).pages))
        → list_any is_hand_over (cpu_of i s).todo ≡ false → Waiting trace (unmark_in trace i f p s)
    unmark_waits (phase.Taken n) at there shut = cleared_waits n at (there n refl).0 (there n refl).1 shut
    unmark_waits (phase.Scanning scan) at there shut = w
    unmark_waits (phase.Idle until kept) at there shut = w
    unmark_waits (phase.Flying n pages until) at there shut = w
    unmark_waits phase.Finished at there shut = w
