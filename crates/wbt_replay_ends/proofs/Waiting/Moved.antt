-- What a move has to keep, so that whatever is still to be cleaned waits somewhere, where one flusher changes at most.
use Rattle.std.proofs.Common.{◌≡◌, ◌≢◌, ◌⊎◌, ℕ, ◌<◌, ◌≤◌, true, false, [], length, get_or, ⊎_elim, sym, ◌∙◌, ap, subst, arith}
use Rattle.std.proofs.lemmas.Bool.{cases_Bool}
use mathlib.Core.Logic.{dite}
use native.Mathlib.Decide.{ℕ_discrete}
use Rattle.wbt_replay_order.proofs.Common.{Trace, times_in, has_inode, State, cpu_of, flusher_of, waiting_of, queue_of, IsAhead, Scan, device_of, flusher_cpu, flusher_device, Flusher, is_finished, IsPageOf, owes_mark, IsStillOpen, AreBefore, IsTakeable, IsAwaited, IsPlaced, IsServed, pairs_in, AreListed, Waiting, queued, listed, taken, takeable, scanned, owed}
use Rattle.wbt_replay_moves.specs.declared.state.ReplayPhase.TheVariants as phase
use Rattle.wbt_replay_order.specs.Kept.Waiting.{IsHeld}

-- From s the run came to t, and of the flushers f changed at most.
pub record Moved (trace : Trace) (f : ℕ) (s t : State) : Type 0 where
  pub others : (g : ℕ) → g ≢ f → flusher_of g t ≡ flusher_of g s
  pub owes : (n p i : ℕ) → IsPageOf trace n p → i < trace.cpus → owes_mark n (cpu_of i s) ≡ true → IsAwaited trace t n p
  pub opens : (i g : ℕ) → g ≢ f → IsStillOpen g (cpu_of i s) → IsStillOpen g (cpu_of i t)
  pub turns : (i : ℕ) → i < trace.cpus → AreBefore trace (cpu_of i t).turn.whose (cpu_of i t).todo
  pub running : t.running ≤ s.running
  pub marks : (n : ℕ) → n < length trace.inodes → get_or t.marks n true ≡ true → (get_or s.marks n true ≡ true) ⊎ IsTakeable trace t n
  pub dirties : (n p : ℕ) → IsPageOf trace n p → (t.book p).dirty ≡ true → ((s.book p).dirty ≡ true) ⊎ IsAwaited trace t n p
  pub flights : (p : ℕ) → (t.book p).writeback ≡ true → ((s.book p).writeback ≡ true) ⊎ IsHeld trace t p
  pub queue : (n : ℕ) → 1 ≤ times_in n (queue_of (device_of trace n) s) → IsTakeable trace t n
  pub lists : (n : ℕ) → f < length trace.flushers → has_inode n (waiting_of f s).pairs ≡ true → IsTakeable trace t n
  pub ours : f < length trace.flushers → AreListed trace f (waiting_of f t).pairs
  pub empties : f < length trace.flushers → is_finished (flusher_of f t).phase ≡ true → (waiting_of f t).pairs ≡ []
  pub was_taken : (n : ℕ) → n < length trace.inodes → get_or t.marks n true ≡ true → f < length trace.flushers → (flusher_of f s).phase ≡ phase.Taken n → IsTakeable trace t n
  pub was_awaited : (n p : ℕ) → IsPageOf trace n p → f < length trace.flushers → (flusher_of f s).phase ≡ phase.Taken n → IsAwaited trace t n p
  pub was_scanned : (n p : ℕ) (scan : Scan) → IsPageOf trace n p → (t.book p).dirty ≡ true → f < length trace.flushers
      → (flusher_of f s).phase ≡ phase.Scanning scan → scan.inode ≡ n → IsAhead scan p ⊎ (scan.noted ≡ true)
      → IsStillOpen f (cpu_of (flusher_cpu trace f) s) → IsAwaited trace t n p
  pub was_held : (p : ℕ) → (t.book p).writeback ≡ true → 1 ≤ times_in p (flusher_of f s).batch → 1 ≤ times_in p (flusher_of f t).batch
  pub placed : f < length trace.flushers → IsPlaced trace f (flusher_of f t).phase
  pub serves : (d : ℕ) → d < length trace.devices → 1 ≤ length (queue_of d t) → (1 ≤ length (queue_of d s)) ⊎ IsServed trace t d
  pub ends : f < length trace.flushers → is_finished (flusher_of f t).phase ≡ true
      → (is_finished (flusher_of f s).phase ≡ true) ⊎ ((s.running ≡ 0) × (length (queue_of (flusher_device trace f) t) ≡ 0))

-- where the flusher's list stays
module _ (trace : Trace) (f : ℕ) (s t : State) (w : Waiting trace s) (same : flusher_of f t ≡ flusher_of f s) where
  pub lists_stay : (n : ℕ) → f < length trace.flushers → has_inode n (waiting_of f s).pairs ≡ true → IsTakeable trace t n
  lists_stay n there some = listed f there (ap (λ (x : Flusher). has_inode n (pairs_in x)) same ∙ some)

  pub ours_stay : f < length trace.flushers → AreListed trace f (waiting_of f t).pairs
  ours_stay there = subst (λ (x : Flusher). AreListed trace f (pairs_in x)) (sym same) (w.lists f there)

  pub empties_stay : f < length trace.flushers → is_finished (flusher_of f t).phase ≡ true → (waiting_of f t).pairs ≡ []
  empties_stay there over = ap pairs_in same ∙ w.emptied f there (ap (λ (x : Flusher). is_finished x.phase) (sym same) ∙ over)

module _ (trace : Trace) (f : ℕ) (s t : State) (move : Moved trace f s t) (w : Waiting trace s) where
  -- a list of another flusher stays
  lists_on : (n g : ℕ) → g < length trace.flushers → has_inode n (waiting_of g s).pairs ≡ true → IsTakeable trace t n
  lists_on n g there some = dite (ℕ_discrete g f)
      (λ same. move.lists n (subst (λ (k : ℕ). k < length trace.flushers) same there) (ap (λ (k : ℕ). has_inode n (waiting_of k s).pairs) (sym same) ∙ some))
      (λ apart. listed g there (ap (λ (x : Flusher). has_inode n (pairs_in x)) (move.others g apart) ∙ some))

  takes : (n : ℕ) → n < length trace.inodes → get_or t.marks n true ≡ true → IsTakeable trace s n → IsTakeable trace t n
  takes n less is (queued some) = move.queue n some
  takes n less is (listed g there some) = lists_on n g there some
  takes n less is (taken g there at) = dite (ℕ_discrete g f)
      (λ same. move.was_taken n less is (subst (λ (k : ℕ). k < length trace.flushers) same there) (ap (λ (k : ℕ). (flusher_of k s).phase) (sym same) ∙ at))
      (λ apart. taken g there (ap (λ (x : Flusher). x.phase) (move.others g apart) ∙ at))

  awaits_take : (n p : ℕ) → IsPageOf trace n p → IsTakeable trace s n → IsAwaited trace t n p
  awaits_take n p here (queued some) = takeable (move.queue n some)
  awaits_take n p here (listed g there some) = takeable (lists_on n g there some)
  awaits_take n p here (taken g there at) = dite (ℕ_discrete g f)
      (λ same. move.was_awaited n p here (subst (λ (k : ℕ). k < length trace.flushers) same there) (ap (λ (k : ℕ). (flusher_of k s).phase) (sym same) ∙ at))
      (λ apart. takeable (taken g there (ap (λ (x : Flusher). x.phase) (move.others g apart) ∙ at)))

  awaits : (n p : ℕ) → IsPageOf trace n p → (t.book p).dirty ≡ true → IsAwaited trace s n p → IsAwaited trace t n p
  awaits n p here is (takeable h) = awaits_take n p here h
  awaits n p here is (owed i less some) = move.owes n p i here less some
  awaits n p here is (scanned g scan there at its behind still) = dite (ℕ_discrete g f)
      (λ same. move.was_scanned n p scan here is (subst (λ (k : ℕ). k < length trace.flushers) same there)
      (ap (λ (k : ℕ). (flusher_of k s).phase) (sym same) ∙ at) its behind (subst (λ (k : ℕ). IsStillOpen k (cpu_of (flusher_cpu trace k) s)) same still))
      (λ apart. scanned g scan there (ap (λ (x : Flusher). x.phase) (move.others g apart) ∙ at) its behind
      (move.opens (flusher_cpu trace g) g apart still))

  holds : (p : ℕ) → (t.book p).writeback ≡ true → IsHeld trace s p → IsHeld trace t p
  holds p is h = dite (ℕ_discrete h.flusher f)
      (λ same. record {
        flusher = f;
        there = subst (λ (k : ℕ). k < length trace.flushers) same h.there;
        some = move.was_held p is (subst (λ (k : ℕ). 1 ≤ times_in p (flusher_of k s).batch) same h.some);
      })
      (λ apart. record {
        flusher = h.flusher;
        there = h.there;
        some = subst (λ (x : Flusher). 1 ≤ times_in p x.batch) (sym (move.others h.flusher apart)) h.some;
      })

  serve : (d : ℕ) → 1 ≤ length (queue_of d t) → IsServed trace s d → IsServed trace t d
  serve d some h = dite (ℕ_discrete h.flusher f)
      (λ same. ⊎_elim
      (λ over. ⊎_elim
      (λ was. absurd (cc (sym was ∙ (ap (λ (k : ℕ). is_finished (flusher_of k s).phase) (sym same) ∙ h.works))))
      (λ empty. absurd (omega (arith, some, empty.1, ap (λ (k : ℕ). length (queue_of k t)) (ap (flusher_device trace) (sym same) ∙ h.ours))))
      (move.ends (subst (λ (k : ℕ). k < length trace.flushers) same h.there) over))
      (λ works. record { flusher = f; there = subst (λ (k : ℕ). k < length trace.flushers) same h.there; ours = ap (flusher_device trace) (sym same) ∙ h.ours; works = works })
      (cases_Bool (is_finished (flusher_of f t).phase)))
      (λ apart. record { flusher = h.flusher; there = h.there; ours = h.ours; works = ap (λ (x : Flusher). is_finished x.phase) (move.others h.flusher apart) ∙ h.works })

  pub moved_waits : Waiting trace t
  moved_waits = record {
    marked = λ n less is. ⊎_elim (λ was. takes n less is (w.marked n less was)) (λ now. now) (move.marks n less is);
    dirty = λ n p here is. ⊎_elim (λ was. awaits n p here is (w.dirty n p here was)) (λ now. now) (move.dirties n p here is);
    flying = λ p is. ⊎_elim (λ was. holds p is (w.flying p was)) (λ now. now) (move.flights p is);
    turns = move.turns;
    places = λ g there. dite (ℕ_discrete g f)
        (λ same. subst (λ (k : ℕ). IsPlaced trace k (flusher_of k t).phase) (sym same) (move.placed (subst (λ (k : ℕ). k < length trace.flushers) same there)))
        (λ apart. subst (λ (x : Flusher). IsPlaced trace g x.phase) (sym (move.others g apart)) (w.places g there));
    lists = λ g there. dite (ℕ_discrete g f)
        (λ same. subst (λ (k : ℕ). AreListed trace k (waiting_of k t).pairs) (sym same) (move.ours (subst (λ (k : ℕ). k < length trace.flushers) same there)))
        (λ apart. subst (λ (x : Flusher). AreListed trace g (pairs_in x)) (sym (move.others g apart)) (w.lists g there));
    emptied = λ g there over. dite (ℕ_discrete g f)
        (λ same. ap (λ (k : ℕ). (waiting_of k t).pairs) same
        ∙ move.empties (subst (λ (k : ℕ). k < length trace.flushers) same there) (ap (λ (k : ℕ). is_finished (flusher_of k t).phase) (sym same) ∙ over))
        (λ apart. ap pairs_in (move.others g apart) ∙ w.emptied g there (ap (λ (x : Flusher). is_finished x.phase) (sym (move.others g apart)) ∙ over));
    served = λ d less some. ⊎_elim (λ was. serve d some (w.served d less was)) (λ now. now) (move.serves d less some);
    going = λ runs g there.
        let was : is_finished (flusher_of g s).phase ≡ false = w.going (omega (arith, runs, move.running)) g there in
        dite (ℕ_discrete g f)
        (λ same. ⊎_elim
        (λ over. ⊎_elim
        (λ before. absurd (cc (sym before ∙ (ap (λ (k : ℕ). is_finished (flusher_of k s).phase) (sym same) ∙ was))))
        (λ drained. absurd (omega (arith, drained.0, runs, move.running)))
        (move.ends (subst (λ (k : ℕ). k < length trace.flushers) same there) over))
        (λ works. ap (λ (k : ℕ). is_finished (flusher_of k t).phase) same ∙ works)
        (cases_Bool (is_finished (flusher_of f t).phase)))
        (λ apart. ap (λ (x : Flusher). is_finished x.phase) (move.others g apart) ∙ was);
  }
