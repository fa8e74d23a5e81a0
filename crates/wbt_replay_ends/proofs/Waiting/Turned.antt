-- A CPU and one of its flushers change: the flusher goes on as it was, is parked, or goes past a page.
use Rattle.std.proofs.Common.{◌≡◌, ◌⊎◌, ℕ, ◌+◌, ◌<◌, ◌≤◌, Bool, true, false, List, [], length, get_or, sym, ◌∙◌, ap, subst, arith, inl, inr, ⊎_elim}
use Rattle.std.proofs.Math.ListN.{set}
use Rattle.std.proofs.lemmas.List.{get_or-set_same, get_or-set_other}
use Rattle.wbt_replay_order.proofs.Common.{Trace, times_in, has_inode, State, no_flusher, cpu_of, flusher_of, waiting_of, queue_of, page_of, IsAhead, Scan, device_of, flusher_cpu, flusher_device, Flusher, ReplayPhase, is_finished, IsPageOf, IsFlusherOn, IsStillOpen, IsTakeable, IsAwaited, IsPlaced, pairs_in, AreListed, Waiting, queued, listed, taken, takeable, scanned, owed}
use Rattle.wbt_rules.proofs.Places.{next_or_ahead}
use Rattle.wbt_replay_moves.specs.declared.state.ReplayPhase.TheVariants as phase
use Rattle.wbt_replay_order.proofs.Lists.Todos.{Alike}
use Rattle.wbt_replay_ends.proofs.Waiting.Moved.{moved_waits}

-- The flusher f of the CPU i becomes x.
pub record Turned (trace : Trace) (i f : ℕ) (x : Flusher) (s t : State) : Type 0 where
  pub flushers : t.flushers ≡ set s.flushers f x
  pub alike : (j : ℕ) → Alike trace (cpu_of j s) (cpu_of j t)
  pub running : t.running ≤ s.running
  pub marks : (n : ℕ) → get_or t.marks n true ≡ true → get_or s.marks n true ≡ true
  pub dirties : (p : ℕ) → (t.book p).dirty ≡ true → (s.book p).dirty ≡ true
  pub flights : (p : ℕ) → (t.book p).writeback ≡ true → ((s.book p).writeback ≡ true) ⊎ (1 ≤ times_in p x.batch)
  pub held : (p : ℕ) → (t.book p).writeback ≡ true → 1 ≤ times_in p (flusher_of f s).batch → 1 ≤ times_in p x.batch
  pub queue : (n : ℕ) → 1 ≤ times_in n (queue_of (device_of trace n) s) → IsTakeable trace t n
  pub serves : (d : ℕ) → d < length trace.devices → 1 ≤ length (queue_of d t) → 1 ≤ length (queue_of d s)
  pub lists : (n : ℕ) → has_inode n (waiting_of f s).pairs ≡ true → IsTakeable trace t n
  pub ours : AreListed trace f (pairs_in x)
  pub empties : is_finished x.phase ≡ true → pairs_in x ≡ []
  pub was_taken : (n : ℕ) → get_or t.marks n true ≡ true → (flusher_of f s).phase ≡ phase.Taken n → IsTakeable trace t n
  pub was_awaited : (n p : ℕ) → IsPageOf trace n p → (flusher_of f s).phase ≡ phase.Taken n → IsAwaited trace t n p
  pub was_scanned : (n p : ℕ) (scan : Scan) → IsPageOf trace n p → (t.book p).dirty ≡ true
      → (flusher_of f s).phase ≡ phase.Scanning scan → scan.inode ≡ n → IsAhead scan p ⊎ (scan.noted ≡ true) → IsStillOpen f (cpu_of i s) → IsAwaited trace t n p
  pub placed : IsPlaced trace f x.phase
  pub ends : is_finished x.phase ≡ true
      → (is_finished (flusher_of f s).phase ≡ true) ⊎ ((s.running ≡ 0) × (length (queue_of (flusher_device trace f) t) ≡ 0))

-- It neither takes nor scans.
abbrev pub is_parked : ReplayPhase → Bool
is_parked (phase.Idle until kept) = true
is_parked (phase.Taken inode) = false
is_parked (phase.Scanning scan) = false
is_parked (phase.Flying inode pages until) = true
is_parked phase.Finished = true

-- how far a scan has come
abbrev pub scan_in : ReplayPhase → Scan
scan_in (phase.Scanning scan) = scan
scan_in p = record { inode = 0; first = 0; pages = 0; start = 0; passed = 0; quota = 0; noted = false }

parked_placed : (trace : Trace) (f : ℕ) (p : ReplayPhase) → is_parked p ≡ true → IsPlaced trace f p
parked_placed trace f (phase.Idle until kept) e = tt
parked_placed trace f (phase.Taken inode) e = absurd (cc e)
parked_placed trace f (phase.Scanning scan) e = absurd (cc e)
parked_placed trace f (phase.Flying inode pages until) e = tt
parked_placed trace f phase.Finished e = tt

module _ (trace : Trace) (i f : ℕ) (less : i < trace.cpus) (on : IsFlusherOn trace i f) (s : State) (seats : length s.cpus ≡ trace.cpus)
    (many : length s.flushers ≡ length trace.flushers) (w : Waiting trace s) (x : Flusher) (t : State) where
  pub now_is : t.flushers ≡ set s.flushers f x → flusher_of f t ≡ x
  now_is flushers = ap (λ (fs : List Flusher). get_or fs f no_flusher) flushers ∙ get_or-set_same s.flushers f x no_flusher (omega (arith, on.there, many))

  still_open : ((j : ℕ) → Alike trace (cpu_of j s) (cpu_of j t)) → IsStillOpen f (cpu_of i s) → IsStillOpen f (cpu_of (flusher_cpu trace f) t)
  still_open alike still = subst (λ (k : ℕ). IsStillOpen f (cpu_of k t)) (sym on.cpu_is) ((alike i).opens f still)

  pub turned_waits : Turned trace i f x s t → Waiting trace t
  turned_waits h =
      let now = now_is h.flushers in
      moved_waits trace f s t (record {
        others = λ g apart. ap (λ (fs : List Flusher). get_or fs g no_flusher) h.flushers ∙ get_or-set_other s.flushers f g x no_flusher apart;
        owes = λ n p j here l some. owed j l ((h.alike j).owes n some);
        opens = λ j g apart still. (h.alike j).opens g still;
        turns = λ j l. (h.alike j).before (w.turns j l);
        running = h.running;
        marks = λ n l is. inl (h.marks n is);
        dirties = λ n p here is. inl (h.dirties p is);
        flights = λ p is. ⊎_elim (λ was. inl was)
            (λ some. inr (record { flusher = f; there = on.there; some = subst (λ (y : Flusher). 1 ≤ times_in p y.batch) (sym now) some }))
            (h.flights p is);
        queue = h.queue;
        lists = λ n there some. h.lists n some;
        ours = λ there. subst (λ (y : Flusher). AreListed trace f (pairs_in y)) (sym now) h.ours;
        empties = λ there over. ap pairs_in now ∙ h.empties (ap (λ (y : Flusher). is_finished y.phase) (sym now) ∙ over);
        was_taken = λ n l is there at. h.was_taken n is at;
        was_awaited = λ n p here there at. h.was_awaited n p here at;
        was_scanned = λ n p scan here is there at its behind still.
            h.was_scanned n p scan here is at its behind (subst (λ (k : ℕ). IsStillOpen f (cpu_of k s)) on.cpu_is still);
        was_held = λ p is some. subst (λ (y : Flusher). 1 ≤ times_in p y.batch) (sym now) (h.held p is some);
        placed = λ there. subst (λ (y : Flusher). IsPlaced trace f y.phase) (sym now) h.placed;
        serves = λ d l some. inl (h.serves d l some);
        ends = λ there over. h.ends (ap (λ (y : Flusher). is_finished y.phase) (sym now) ∙ over);
      }) w

  pub same_queue : t.queues ≡ s.queues → (n : ℕ) → 1 ≤ times_in n (queue_of (device_of trace n) s) → IsTakeable trace t n
  same_queue queues n some = queued (subst (λ (qs : List (List ℕ)). 1 ≤ times_in n (get_or qs (device_of trace n) [])) (sym queues) some)

  -- its list is the same
  pub same_lists : t.flushers ≡ set s.flushers f x → pairs_in x ≡ (waiting_of f s).pairs → (n : ℕ) → has_inode n (waiting_of f s).pairs ≡ true → IsTakeable trace t n
  same_lists flushers kept n some = listed f on.there (ap (λ (y : Flusher). has_inode n (pairs_in y)) (now_is flushers) ∙ (ap (has_inode n) kept ∙ some))

  pub same_ours : pairs_in x ≡ (waiting_of f s).pairs → AreListed trace f (pairs_in x)
  same_ours kept = subst (AreListed trace f) (sym kept) (w.lists f on.there)

  same_serves : t.queues ≡ s.queues → (d : ℕ) → d < length trace.devices → 1 ≤ length (queue_of d t) → 1 ≤ length (queue_of d s)
  same_serves queues d l some = subst (λ (qs : List (List ℕ)). 1 ≤ length (get_or qs d [])) queues some

  same_mark : t.marks ≡ s.marks → (n : ℕ) → get_or t.marks n true ≡ true → get_or s.marks n true ≡ true
  same_mark marks n is = sym (ap (λ (ms : List Bool). get_or ms n true) marks) ∙ is

  -- It goes on as it was, but for its batch.
  pub goes_on : ((j : ℕ) → Alike trace (cpu_of j s) (cpu_of j t)) → t.flushers ≡ set s.flushers f x → t.running ≤ s.running → t.marks ≡ s.marks → t.queues ≡ s.queues
      → x.phase ≡ (flusher_of f s).phase → pairs_in x ≡ (waiting_of f s).pairs
      → ((p : ℕ) → (t.book p).dirty ≡ true → (s.book p).dirty ≡ true)
      → ((p : ℕ) → (t.book p).writeback ≡ true → (s.book p).writeback ≡ true)
      → ((p : ℕ) → (t.book p).writeback ≡ true → 1 ≤ times_in p (flusher_of f s).batch → 1 ≤ times_in p x.batch) → Waiting trace t
  goes_on alike flushers running marks queues same kept dirties flights held =
      let now : (flusher_of f t).phase ≡ (flusher_of f s).phase = ap (λ (y : Flusher). y.phase) (now_is flushers) ∙ same in
      turned_waits (record {
        flushers = flushers;
        alike = alike;
        running = running;
        marks = same_mark marks;
        dirties = dirties;
        flights = λ p is. inl (flights p is);
        held = held;
        queue = same_queue queues;
        serves = same_serves queues;
        lists = same_lists flushers kept;
        ours = same_ours kept;
        empties = λ over. kept ∙ w.emptied f on.there (ap is_finished (sym same) ∙ over);
        was_taken = λ n is at. taken f on.there (now ∙ at);
        was_awaited = λ n p here at. takeable (taken f on.there (now ∙ at));
        was_scanned = λ n p scan here is at its behind still.
            scanned f scan on.there (now ∙ at) its behind (still_open alike still);
        placed = subst (IsPlaced trace f) (sym same) (w.places f on.there);
        ends = λ over. inl (ap is_finished (sym same) ∙ over);
      })

  -- It is parked, where nothing waits with it.
  pub parks : ((j : ℕ) → Alike trace (cpu_of j s) (cpu_of j t)) → t.flushers ≡ set s.flushers f x → t.running ≤ s.running → t.marks ≡ s.marks → t.queues ≡ s.queues → t.book ≡ s.book
      → x.batch ≡ (flusher_of f s).batch → pairs_in x ≡ (waiting_of f s).pairs → is_parked x.phase ≡ true
      → ((n : ℕ) → (flusher_of f s).phase ≡ phase.Taken n → ⊥)
      → ((n p : ℕ) (scan : Scan) → IsPageOf trace n p → (flusher_of f s).phase ≡ phase.Scanning scan → scan.inode ≡ n → IsAhead scan p ⊎ (scan.noted ≡ true) → IsStillOpen f (cpu_of i s) → ⊥)
      → (is_finished x.phase ≡ true → (is_finished (flusher_of f s).phase ≡ true) ⊎ ((s.running ≡ 0) × (length (queue_of (flusher_device trace f) t) ≡ 0)))
      → (is_finished x.phase ≡ true → (waiting_of f s).pairs ≡ [])
      → Waiting trace t
  parks alike flushers running marks queues book batch kept parked none closed ends empty =
      turned_waits (record {
        flushers = flushers;
        alike = alike;
        running = running;
        marks = same_mark marks;
        dirties = λ p is. sym (ap (λ b. (b p).dirty) book) ∙ is;
        flights = λ p is. inl (sym (ap (λ b. (b p).writeback) book) ∙ is);
        held = λ p is some. subst (λ (l : List ℕ). 1 ≤ times_in p l) (sym batch) some;
        queue = same_queue queues;
        serves = same_serves queues;
        lists = same_lists flushers kept;
        ours = same_ours kept;
        empties = λ over. kept ∙ empty over;
        was_taken = λ n is at. absurd (none n at);
        was_awaited = λ n p here at. absurd (none n at);
        was_scanned = λ n p scan here is at its behind still. absurd (closed n p scan here at its behind still);
        placed = parked_placed trace f x.phase parked;
        ends = ends;
      })

  -- Its scan goes past a page, which is clean then or noted.
  pub passes : (scan : Scan) (then : Bool) → ((j : ℕ) → Alike trace (cpu_of j s) (cpu_of j t)) → t.flushers ≡ set s.flushers f x → t.running ≤ s.running → t.marks ≡ s.marks
      → t.queues ≡ s.queues → (flusher_of f s).phase ≡ phase.Scanning scan → x.phase ≡ phase.Scanning (record scan { passed = scan.passed + 1; noted = then }) → pairs_in x ≡ (waiting_of f s).pairs
      → ((p : ℕ) → (t.book p).dirty ≡ true → (s.book p).dirty ≡ true)
      → ((p : ℕ) → (t.book p).writeback ≡ true → ((s.book p).writeback ≡ true) ⊎ (1 ≤ times_in p x.batch))
      → ((p : ℕ) → 1 ≤ times_in p (flusher_of f s).batch → 1 ≤ times_in p x.batch)
      → ((t.book (page_of scan)).dirty ≡ true → then ≡ true) → (scan.noted ≡ true → then ≡ true) → Waiting trace t
  passes scan then alike flushers running marks queues at to kept dirties flights held here_noted goes =
      let next : Scan = record scan { passed = scan.passed + 1; noted = then } in
      let now : (flusher_of f t).phase ≡ phase.Scanning next = ap (λ (y : Flusher). y.phase) (now_is flushers) ∙ to in
      let behind_it : (p : ℕ) → (t.book p).dirty ≡ true → IsAhead scan p ⊎ (scan.noted ≡ true) → IsAhead next p ⊎ (then ≡ true) =
      λ p is behind. ⊎_elim
      (λ ahead. ⊎_elim
      (λ here. inr (here_noted (ap (λ (j : ℕ). (t.book j).dirty) here ∙ is)))
      (λ later. inl later) (next_or_ahead scan p ahead))
      (λ was. inr (goes was)) behind in
      turned_waits (record {
        flushers = flushers;
        alike = alike;
        running = running;
        marks = same_mark marks;
        dirties = dirties;
        flights = flights;
        held = λ p is some. held p some;
        queue = same_queue queues;
        serves = same_serves queues;
        lists = same_lists flushers kept;
        ours = same_ours kept;
        empties = λ over. absurd (cc (sym over ∙ ap is_finished to));
        was_taken = λ m is found. absurd (cc (sym found ∙ at));
        was_awaited = λ m p here found. absurd (cc (sym found ∙ at));
        was_scanned = λ m p old here is found its behind still.
            let same : old ≡ scan = ap scan_in (sym found ∙ at) in
            scanned f next on.there now (ap (λ (y : Scan). y.inode) (sym same) ∙ its) (behind_it p is (subst (λ (y : Scan). IsAhead y p ⊎ (y.noted ≡ true)) same behind))
            (still_open alike still);
        placed = subst (IsPlaced trace f) (sym to) (subst (IsPlaced trace f) at (w.places f on.there));
        ends = λ over. absurd (cc (sym over ∙ ap is_finished to));
      })
