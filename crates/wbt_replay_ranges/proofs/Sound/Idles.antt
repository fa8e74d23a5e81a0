-- Moves of a flusher that is idle, or that has taken an inode.
use Rattle.std.proofs.Common.{◌≡◌, ℕ, ◌+◌, ◌-◌, ◌<◌, ◌≤◌, Bool, false, not, List, [], ◌∷◌, length, get_or, All, refl, sym, ◌∙◌, ap, subst, arith, ◌++◌, Option, Some, None, unwrap_or}
use Rattle.std.proofs.Math.ListN.{set}
use Rattle.std.proofs.lemmas.List.{length-set}
use Rattle.std.proofs.lemmas.List.Elements.{All-nil}
use Rattle.wbt_grant.specs.declared.who.StepKind.TheVariants as kind
use Rattle.wbt_replay_order.proofs.Common.{MAX_LIMIT, Device, Trace, finish, rest_until, take_or_finish, take_or_rest, with_hard, scan_of, unmark_of, unmark_in, take_now, with_pairs, take_last, told_by, waits, note, noticed, age, tested_by, FLUSHER_REST, State, cpu_of, flusher_of, queue_of, writeback_of, no_waiting, waiting_of, with_waiting, with_queue, inode_of, context_of, device_at, flusher_device, Flusher, ReplayPhase, ReplayTurn, is_finished, Facts, IsFlusherOn, IsPageOf, silent_ticks, IsAt, AreQueued, WheelFits, IsIdle, IsTaken, IsOpen, each_put, due_after, log_at, Entry}
use Rattle.wbt_replay_moves.specs.Definition.Idle.{take, start_of}
use Rattle.wbt_rules.proofs.Quotas.{quota_some, quota_within}
use Rattle.wbt_replay_moves.specs.declared.state.ReplayPhase.TheVariants as phase
use Rattle.wbt_replay_moves.specs.declared.state.Whose.TheVariants as whose
use Rattle.wbt_replay_moves.specs.declared.todo.Step.TheVariants as step
use Rattle.wbt_replay_moves.specs.declared.todo.Todo.TheVariants as todo
use Rattle.wbt_replay_order.specs.Kept.Sound.{IsListOf}
use Rattle.wbt_replay_order.proofs.Facts.Lists.{either}
use Rattle.wbt_replay_ranges.proofs.Sound.Counters.{Ready, with_step, plain_entry}
use Rattle.wbt_replay_ranges.proofs.Sound.FlusherTurn.{turn_flusher}
use Rattle.wbt_replay_ranges.proofs.Sound.Going.{Going}
use Rattle.wbt_replay_order.proofs.Lists.Numbered.{one_if, set_all, all_rest}
use Rattle.wbt_replay_ranges.proofs.Sound.Own.{Free, Done, push, do_done, logged_going, logged_free, logged_whose}
use Rattle.wbt_replay_ranges.proofs.Sound.Scans.{own_open, agrees_now, stays_done}
use Rattle.wbt_replay_ranges.proofs.Sound.Things.{inodes_going}
use Rattle.wbt_replay_ranges.proofs.Sound.Working.{works, working_set}
use Rattle.wbt_expiry.specs.Waiting.{Waiting as Wheel, Each}
use Rattle.wbt_expiry.specs.declared.due.Due.{Due}
use Rattle.wbt_replay_order.proofs.Facts.Ages.{noticed_kept, aged_kept}
use Rattle.wbt_journal.specs.declared.entry.Entry.TheVariants as entry

module _ (trace : Trace) (facts : Facts trace) (i : ℕ) (less : i < trace.cpus) (s : State) (f : ℕ) (on : IsFlusherOn trace i f) (turn : (cpu_of i s).turn.whose ≡ whose.Flusher f) where
  module _ (until : ℕ) (kept : Bool) (is : (flusher_of f s).phase ≡ phase.Idle until kept) where
    idle_batch : (e t : ℕ) → Going trace i e t s → (flusher_of f s).batch ≡ []
    idle_batch e t g = subst (IsAt trace (flusher_of f s).batch) is (g.holds.flushers.each f).phase

    idle_works : (x : Flusher) → is_finished x.phase ≡ false → s.working + one_if (works (flusher_of f s)) ≡ s.working + one_if (works x)
    idle_works x now = ap (λ (p : ReplayPhase). s.working + one_if (not (is_finished p))) is ∙ sym (ap (λ (b : Bool). s.working + one_if (not b)) now)

    -- it rests
    rest_done : (later : ℕ) → later ≤ s.now + silent_ticks → Going trace i 0 silent_ticks s → Free trace i 2 s → Done trace i (rest_until f later s)
    rest_done later soon g free =
        let y : Flusher = record (flusher_of f s) { phase = phase.Idle later false } in
        let m = turn_flusher trace facts i less f y s.working 0 0 silent_ticks 0 silent_ticks s on turn g free
        (record { phase = idle_batch 0 silent_ticks g; quota = tt; hard = (g.holds.flushers.each f).hard; measures = (g.holds.flushers.each f).measures; weighs = (g.holds.flushers.each f).weighs; wheel = (g.holds.flushers.each f).wheel; places = (g.holds.flushers.each f).places })
        (omega arith) (omega arith) (omega (arith, soon)) (omega arith) (idle_works y refl) in
        stays_done trace facts i less s f on turn 0 0 2 (record s { flushers = set s.flushers f y; working = s.working }) m.going m.free turn (subst (IsOpen trace) (sym m.is) tt)

    -- an inode is taken, which is nowhere any more
    taken_done : (t inode : ℕ) → inode < length trace.inodes → Going trace i 0 t s → Free trace i 2 s → Done trace i (take_now i f inode s)
    taken_done t inode known g free =
        let y : Flusher = record (flusher_of f s) { phase = phase.Taken inode } in
        let m = turn_flusher trace facts i less f y s.working 0 0 t t 0 s on turn g free
        (record { phase = (idle_batch 0 t g, known); quota = tt; hard = (g.holds.flushers.each f).hard; measures = (g.holds.flushers.each f).measures; weighs = (g.holds.flushers.each f).weighs; wheel = (g.holds.flushers.each f).wheel; places = (g.holds.flushers.each f).places })
        (omega arith) (omega arith) (omega arith) (omega arith) (idle_works y refl) in
        let z : State = record s { flushers = set s.flushers f y; working = s.working } in
        do_done trace facts i less (todo.Step step.Unmark ∷ []) 0 t 2 1 z m.going m.free
        (push trace z.tasks z.flushers (cpu_of i z).turn.whose 2 1 (todo.Step step.Unmark) (cpu_of i z).todo m.free.fits tt
        (agrees_now trace facts i less s f on turn z turn (todo.Step step.Unmark) (subst (λ (v : Flusher). IsTaken v.phase) (sym m.is) tt)) refl (omega arith) (omega arith) (omega arith))
        (omega arith) (λ g' on' e' none. own_open trace facts i less s f on turn z turn (subst (IsOpen trace) (sym m.is) tt) g' e')

    -- it is finished
    finish_done : (t : ℕ) → Going trace i 0 t s → Free trace i 2 s → Done trace i (finish f s)
    finish_done t g free =
        let y : Flusher = record (flusher_of f s) { phase = phase.Finished } in
        let there : f < length s.flushers = omega (arith, on.there, g.holds.flushers.many) in
        let working = working_set trace facts (length s.steps) s.now i f y s.flushers s.cpus there on less g.holds.cpus g.live in
        let counted = g.holds.counted.flushers in
        let one : one_if (works (flusher_of f s)) ≡ 1 = ap (λ (p : ReplayPhase). one_if (not (is_finished p))) is in
        let m = turn_flusher trace facts i less f y (s.working - 1) 0 0 t t 0 s on turn g free
        (record { phase = idle_batch 0 t g; quota = tt; hard = (g.holds.flushers.each f).hard; measures = (g.holds.flushers.each f).measures; weighs = (g.holds.flushers.each f).weighs; wheel = (g.holds.flushers.each f).wheel; places = (g.holds.flushers.each f).places })
        (omega arith) (omega arith) (omega arith) (omega arith) (omega (arith, working, counted, one)) in
        stays_done trace facts i less s f on turn 0 t 2 (record s { flushers = set s.flushers f y; working = s.working - 1 }) m.going m.free turn (subst (IsOpen trace) (sym m.is) tt)

  -- ---- its list, its device's queue and the CPU's entries change

  -- so many ticks are left of the move
  pub record Listing (until : ℕ) (kept : Bool) (t : ℕ) : Type 0 where
    pub idle : (flusher_of f s).phase ≡ phase.Idle until kept
    pub going : Going trace i 0 t s
    pub free : Free trace i 2 s
    pub list : IsListOf trace (waiting_of f s)

module _ (trace : Trace) (facts : Facts trace) (i : ℕ) (less : i < trace.cpus) (f : ℕ) (on : IsFlusherOn trace i f) (until : ℕ) (kept : Bool) (t : ℕ) where
  -- with the clock and the turn as they were
  record Lists (now : ℕ) (s : State) : Type 0 where
    clock : s.now ≡ now
    turn : (cpu_of i s).turn.whose ≡ whose.Flusher f
    listing : Listing trace facts i less s f on turn until kept t

  module _ (now : ℕ) (s : State) (h : Lists now s) where
    abbrev device : ℕ
    device = flusher_device trace f

    wheel_lists : (w : Wheel) → IsListOf trace w → Lists now (with_waiting f w s)
    wheel_lists w fits =
        let y : Flusher = record (flusher_of f s) { wheel = Some w } in
        let g = h.listing.going in
        let m = turn_flusher trace facts i less f y s.working 0 0 t t 0 s on h.turn g h.listing.free
        (record { phase = (g.holds.flushers.each f).phase; quota = (g.holds.flushers.each f).quota; hard = (g.holds.flushers.each f).hard; measures = (g.holds.flushers.each f).measures; weighs = (g.holds.flushers.each f).weighs; wheel = fits; places = (g.holds.flushers.each f).places })
        (omega arith) (omega arith) (omega arith) (omega arith) refl in
        record {
          clock = h.clock;
          turn = h.turn;
          listing = record {
            idle = ap (λ (v : Flusher). v.phase) m.is ∙ h.listing.idle;
            going = m.going;
            free = m.free;
            list = subst (λ (v : Flusher). IsListOf trace (unwrap_or v.wheel no_waiting)) (sym m.is) fits;
          };
        }

    queue_lists : (n : ℕ) (ns : List ℕ) → queue_of device s ≡ n ∷ ns → Lists now (with_queue device ns s)
    queue_lists n ns is =
        let g = h.listing.going in
        let parts = all_rest (AreQueued trace device) (queue_of device s) n ns is (g.holds.queues.each device) in
        record {
          clock = h.clock;
          turn = h.turn;
          listing = record {
            idle = h.listing.idle;
            going = inodes_going trace i 0 t s.book s.marks (set s.queues device ns) s g refl (length-set s.queues device ns)
                (set_all (λ d (q : List ℕ). All (AreQueued trace d) q) s.queues device ns [] parts.1 g.holds.queues.each);
            free = record { whose = h.listing.free.whose; fits = h.listing.free.fits; room = h.listing.free.room };
            list = h.listing.list;
          };
        }

    entry_lists : (e : Entry) → Lists now (log_at i e s)
    entry_lists e =
        let es : List Entry = (cpu_of i s).entries ++ e ∷ [] in
        let g = h.listing.going in
        record {
          clock = h.clock;
          turn = logged_whose trace facts i less es (cpu_of i s).checks (cpu_of i s).estimates 0 t s g ∙ h.turn;
          listing = record {
            idle = h.listing.idle;
            going = logged_going trace facts i less es (cpu_of i s).checks (cpu_of i s).estimates 0 t s g;
            free = logged_free trace facts i less es (cpu_of i s).checks (cpu_of i s).estimates 2 0 t s g h.listing.free;
            list = h.listing.list;
          };
        }

  module _ (now : ℕ) (s : State) (h : Lists now s) where
    note_lists : (since n : ℕ) (ns : List ℕ) → queue_of (flusher_device trace f) s ≡ n ∷ ns → Lists now (note trace i f n since (with_queue (flusher_device trace f) ns s))
    note_lists since n ns is =
        let d : ℕ = flusher_device trace f in
        let x : State = with_queue d ns s in
        let parts = all_rest (AreQueued trace d) (queue_of d s) n ns is (h.listing.going.holds.queues.each d) in
        let w : Wheel = waits trace n since (waiting_of f s) in
        let pair : Due = record { due = due_after trace n since; inode = n } in
        let list = h.listing.list in
        entry_lists now (with_waiting f w x)
        (wheel_lists now x (queue_lists now s h n ns is) w
        (record { inodes = list.inodes; each = each_put (λ (p : Due). p.inode < length trace.inodes) pair (waiting_of f s).pairs parts.0.there list.each }))
        (entry.Noticed f n since)

    -- the first of its list is taken, which is told
    told_done : (e : Entry) (pair : Due) (pairs : List Due) → (waiting_of f s).pairs ≡ pair ∷ pairs → Done trace i (take_now i f pair.inode (log_at i e (with_pairs f pairs s)))
    told_done e pair pairs is =
        let list = h.listing.list in
        let all : Each (λ (p : Due). p.inode < length trace.inodes) (pair ∷ pairs) = subst (Each (λ (p : Due). p.inode < length trace.inodes)) is list.each in
        let w : Wheel = record (waiting_of f s) { pairs = pairs } in
        let k = entry_lists now (with_waiting f w s) (wheel_lists now s h w (record { inodes = list.inodes; each = all.1 })) e in
        taken_done trace facts i less (log_at i e (with_pairs f pairs s)) f on k.turn until kept k.listing.idle t pair.inode all.0 k.listing.going k.listing.free

module _ (trace : Trace) (facts : Facts trace) (i : ℕ) (less : i < trace.cpus) (s : State) (f : ℕ) (on : IsFlusherOn trace i f) (turn : (cpu_of i s).turn.whose ≡ whose.Flusher f) where
  module _ (until : ℕ) (kept : Bool) (is : (flusher_of f s).phase ≡ phase.Idle until kept) where
    -- it takes an inode of its device's queue
    take_done : (t inode : ℕ) (inodes : List ℕ) → queue_of (flusher_device trace f) s ≡ inode ∷ inodes → Going trace i 0 t s → Free trace i 2 s → Done trace i (take trace i f inode inodes s)
    take_done t inode inodes e g free =
        let device : ℕ = flusher_device trace f in
        let parts = all_rest (AreQueued trace device) (queue_of device s) inode inodes e (g.holds.queues.each device) in
        let x : State = record s { queues = set s.queues device inodes } in
        let g1 = inodes_going trace i 0 t s.book s.marks (set s.queues device inodes) s g refl (length-set s.queues device inodes)
        (set_all (λ d (q : List ℕ). All (AreQueued trace d) q) s.queues device inodes [] parts.1 g.holds.queues.each) in
        let free1 : Free trace i 2 x = record { whose = free.whose; fits = free.fits; room = free.room } in
        taken_done trace facts i less x f on turn until kept is t inode parts.0.there g1 free1

    -- a list in which an inode waits is one
    list_of : (wheel : Option Wheel) (pair : Due) (pairs : List Due) → WheelFits trace wheel → (unwrap_or wheel no_waiting).pairs ≡ pair ∷ pairs → IsListOf trace (unwrap_or wheel no_waiting)
    list_of None pair pairs fits some = absurd (cc some)
    list_of (Some list) pair pairs fits some = fits

    take_or_finish_done : (t : ℕ) (numbers : List ℕ) → queue_of (flusher_device trace f) s ≡ numbers → Going trace i 0 t s → Free trace i 2 s → Done trace i (take_or_finish trace i f numbers s)
    take_or_finish_done t [] e g free = finish_done trace facts i less s f on turn until kept is t g free
    take_or_finish_done t (inode ∷ inodes) e g free = take_done t inode inodes e g free

    pub take_last_done : (t : ℕ) (pairs : List Due) → (waiting_of f s).pairs ≡ pairs → Going trace i 0 t s → Free trace i 2 s → Done trace i (take_last trace i f pairs s)
    take_last_done t [] e g free = take_or_finish_done t (queue_of (flusher_device trace f) s) refl g free
    take_last_done t (pair ∷ pairs) e g free =
        told_done trace facts i less f on until kept t s.now s
        (record {
          clock = refl;
          turn = turn;
          listing = record { idle = is; going = g; free = free; list = list_of (flusher_of f s).wheel pair pairs (g.holds.flushers.each f).wheel e };
        }) (entry.Taken f pair.inode) pair pairs e

    pub take_or_rest_done : (later : ℕ) (numbers : List ℕ) → later ≤ s.now + silent_ticks → queue_of (flusher_device trace f) s ≡ numbers → Going trace i 0 silent_ticks s → Free trace i 2 s
        → Done trace i (take_or_rest trace i f later numbers s)
    take_or_rest_done later [] soon e g free = rest_done trace facts i less s f on turn until kept is later soon g free
    take_or_rest_done later (inode ∷ inodes) soon e g free = take_done silent_ticks inode inodes e g free

  -- ---- the mark of the inode that was taken is cleared

  unmark_done : (inode : ℕ) → (flusher_of f s).phase ≡ phase.Taken inode → Ready trace i s → Free trace i 2 s → Done trace i (unmark_of trace i f inode s)
  unmark_done inode is ready free =
      let x : State = record (with_step (plain_entry i kind.Unmark) s) { marks = set s.marks inode false } in
      let g0 = ready (plain_entry i kind.Unmark) in
      let g = inodes_going trace i 1 silent_ticks s.book (set s.marks inode false) s.queues (with_step (plain_entry i kind.Unmark) s) g0 (length-set s.marks inode false) refl g0.holds.queues.each in
      let at : ((flusher_of f s).batch ≡ []) × (inode < length trace.inodes) = subst (IsAt trace (flusher_of f s).batch) is (g.holds.flushers.each f).phase in
      let p : ReplayPhase = scan_of trace f inode s in
      let y : Flusher = record (flusher_of f s) { phase = p } in
      let some = facts.inode_some inode at.1 in
      let some_pages : 0 < (inode_of trace inode).pages = omega (arith, some) in
      let start : start_of trace f inode s < (inode_of trace inode).pages =
      either (λ n. n < (inode_of trace inode).pages) (device_at trace (flusher_device trace f)).cyclic (get_or (flusher_of f s).places inode 0) 0
      (λ cyclic. ((g.holds.flushers.each f).places on.there).below inode at.1) (λ straight. some_pages) in
      let device : Device = device_at trace (flusher_device trace f) in
      let avg : ℕ = (writeback_of (context_of trace inode) s).estimate.avg in
      let hard : ℕ = (flusher_of f s).hard in
      let room = quota_some device avg hard (facts.chunks (flusher_device trace f)) in
      let m = turn_flusher trace facts i less f y s.working 1 0 silent_ticks silent_ticks 0 x on turn g (record { whose = free.whose; fits = free.fits; room = free.room })
      (record {
        phase = record {
          there = at.1;
          first_is = refl;
          pages_is = refl;
          start = start;
          behind = omega (arith, ap length at.0);
          within = omega arith;
          some = room;
          few = omega (arith, ap length at.0);
          ours = subst (All (IsPageOf trace inode)) (sym at.0) (All-nil (IsPageOf trace inode));
        };
        quota = quota_within device avg hard;
        hard = (g.holds.flushers.each f).hard;
        measures = (g.holds.flushers.each f).measures;
        weighs = (g.holds.flushers.each f).weighs;
        wheel = (g.holds.flushers.each f).wheel;
        places = (g.holds.flushers.each f).places;
      })
      (omega (arith, ap length at.0)) (omega arith) (omega arith) (omega arith) (ap (λ (q : ReplayPhase). s.working + one_if (not (is_finished q))) is) in
      stays_done trace facts i less s f on turn 0 silent_ticks 2 (record x { flushers = set x.flushers f y; working = s.working }) m.going m.free turn (subst (IsOpen trace) (sym m.is) (some_pages, omega (arith, ap length at.0, room)))

  pub unmark_at : (p : ReplayPhase) → (flusher_of f s).phase ≡ p → Ready trace i s → Free trace i 2 s → IsTaken p → Done trace i (unmark_in trace i f p s)
  unmark_at (phase.Idle until kept) e ready free h = absurd h
  unmark_at (phase.Taken inode) e ready free h = unmark_done inode e ready free
  unmark_at (phase.Scanning scan) e ready free h = absurd h
  unmark_at (phase.Flying inode pages until) e ready free h = absurd h
  unmark_at phase.Finished e ready free h = absurd h

-- ---- writeback by age

module _ (trace : Trace) (facts : Facts trace) (i : ℕ) (less : i < trace.cpus) (f : ℕ) (on : IsFlusherOn trace i f) (until : ℕ) (kept : Bool) where
  age_done : (now : ℕ) (over : Bool) (s : State) → now ≤ s.now → Lists trace facts i less f on until kept silent_ticks s.now s → Done trace i (age trace i f now over s)
  age_done now over s early h =
      let u : State = noticed trace i f now s in
      let L : State → Type 0 = Lists trace facts i less f on until kept silent_ticks s.now in
      let k : L u = noticed_kept trace i f now L
      (λ v g. wheel_lists trace facts i less f on until kept silent_ticks s.now v g (told_by now (waiting_of f v)) (record { inodes = g.listing.list.inodes; each = g.listing.list.each }))
      (λ v n ns is waits g. queue_lists trace facts i less f on until kept silent_ticks s.now v g n ns is)
      (λ v n ns is new g. note_lists trace facts i less f on until kept silent_ticks s.now v g now n ns is) s h in
      aged_kept i f now over u (Done trace i)
      (rest_done trace facts i less u f on k.turn until kept k.listing.idle (now + FLUSHER_REST) (omega (arith, early, k.clock)) k.listing.going k.listing.free)
      (λ pair pairs is by_now. told_done trace facts i less f on until kept silent_ticks s.now u k (entry.Aged f pair.inode pair.due now) pair pairs is)
      (λ pair pairs is. told_done trace facts i less f on until kept silent_ticks s.now u k (entry.Taken f pair.inode) pair pairs is)

-- ---- the end of a test

module _ (trace : Trace) (facts : Facts trace) (i : ℕ) (less : i < trace.cpus) (s : State) (f : ℕ) (on : IsFlusherOn trace i f) (turn : (cpu_of i s).turn.whose ≡ whose.Flusher f) where
  tested_done : (t : ReplayTurn) (until : ℕ) (kept : Bool) → (flusher_of f s).phase ≡ phase.Idle until kept → t.began ≤ s.now → t.global.limits.hard ≤ MAX_LIMIT → Going trace i 0 silent_ticks s → Free trace i 2 s
      → Done trace i (tested_by trace i f t (flusher_of f s).wheel (with_hard f t.global.limits.hard s))
  tested_done t until kept is began hard g free =
      let y : Flusher = record (flusher_of f s) { hard = t.global.limits.hard } in
      let m = turn_flusher trace facts i less f y s.working 0 0 silent_ticks silent_ticks 0 s on turn g free
      (record { phase = (g.holds.flushers.each f).phase; quota = (g.holds.flushers.each f).quota; hard = hard; measures = (g.holds.flushers.each f).measures; weighs = (g.holds.flushers.each f).weighs; wheel = (g.holds.flushers.each f).wheel; places = (g.holds.flushers.each f).places })
      (omega arith) (omega arith) (omega arith) (omega arith) refl in
      let x : State = record s { flushers = set s.flushers f y; working = s.working } in
      let idle : (flusher_of f x).phase ≡ phase.Idle until kept = ap (λ (v : Flusher). v.phase) m.is ∙ is in
      let numbers : List ℕ = queue_of (flusher_device trace f) s in
      let soon : t.began + FLUSHER_REST ≤ s.now + silent_ticks = omega (arith, began) in
      let by_wheel : (wheel : Option Wheel) → (flusher_of f s).wheel ≡ wheel → Done trace i (tested_by trace i f t wheel x) = λ wheel. elim wheel as (λ (o : Option Wheel). (flusher_of f s).wheel ≡ o → Done trace i (tested_by trace i f t o x)) [
        | None ↦ λ none.
            either (Done trace i) t.over (take_or_rest trace i f (t.began + FLUSHER_REST) numbers x) (rest_until f (t.began + FLUSHER_REST) x)
            (λ over. take_or_rest_done trace facts i less x f on turn until kept idle (t.began + FLUSHER_REST) numbers soon refl m.going m.free)
            (λ under. rest_done trace facts i less x f on turn until kept idle (t.began + FLUSHER_REST) soon m.going m.free)
        | Some w ↦ λ some.
            let list : IsListOf trace w = subst (WheelFits trace) some (g.holds.flushers.each f).wheel in
            age_done trace facts i less f on until kept t.began t.over x began
            (record {
              clock = refl;
              turn = turn;
              listing = record {
                idle = idle;
                going = m.going;
                free = m.free;
                list = subst (λ (o : Option Wheel). IsListOf trace (unwrap_or o no_waiting)) (sym (ap (λ (v : Flusher). v.wheel) m.is ∙ some)) list;
              };
            })
      ] in
      by_wheel (flusher_of f s).wheel refl

  pub test_at : (t : ReplayTurn) (p : ReplayPhase) → (flusher_of f s).phase ≡ p → t.began ≤ s.now → t.global.limits.hard ≤ MAX_LIMIT → Going trace i 0 silent_ticks s → Free trace i 2 s → IsIdle p
      → Done trace i (tested_by trace i f t (flusher_of f s).wheel (with_hard f t.global.limits.hard s))
  test_at t (phase.Idle until kept) e began hard g free h = tested_done t until kept e began hard g free
  test_at t (phase.Taken inode) e began hard g free h = absurd h
  test_at t (phase.Scanning scan) e began hard g free h = absurd h
  test_at t (phase.Flying inode pages until) e began hard g free h = absurd h
  test_at t phase.Finished e began hard g free h = absurd h
