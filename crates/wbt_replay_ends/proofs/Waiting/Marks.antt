-- A page is written, and an inode is marked, which puts it into its device's queue where the mark was clear.
use Rattle.std.proofs.Common.{◌≡◌, ◌≢◌, ◌⊎◌, ℕ, ◌<◌, ◌≤◌, true, eqb, List, [], ◌∷◌, ◌++◌, length, get_or, refl, sym, ◌∙◌, ap, subst, arith, inl, inr, ⊎_elim, eq-eqb, eqb-true}
use Rattle.std.proofs.Math.ListN.{set}
use Rattle.std.proofs.lemmas.Bool.{or_cases}
use Rattle.std.proofs.lemmas.List.{get_or-set_same, get_or-set_other}
use Rattle.std.specs.List.{list_any}
use mathlib.Core.Logic.{dite}
use native.Mathlib.Decide.{ℕ_discrete}
use Rattle.wbt_replay_order.proofs.Common.{Trace, one_if, times_in, has_inode, times_in-append, State, no_cpu, no_flusher, cpu_of, queue_of, with_cpu, plain_step, device_of, flusher_cpu, mark, Cpu, Todo, is_finished, Facts, AreQueues, is_mark_of, is_hand_over, owes_mark, IsStillOpen, AreBefore, IsTakeable, IsPlaced, IsServed, pairs_in, Waiting, listed, taken, takeable, scanned, owed}
use Rattle.wbt_grant.specs.declared.who.StepKind.TheVariants as kind
use Rattle.wbt_replay_moves.specs.Definition.State.{queued}
use Rattle.wbt_replay_moves.specs.declared.todo.Step.TheVariants as step
use Rattle.wbt_replay_moves.specs.declared.todo.Todo.TheVariants as todo
use Rattle.wbt_replay_order.specs.Kept.Waiting.IsTakeable.{queued as in_queue}
use Rattle.wbt_replay_order.proofs.Facts.Lists.{either}
use Rattle.wbt_replay_ends.proofs.Waiting.Moved.{lists_stay, ours_stay, empties_stay, moved_waits}

-- ---- a mark, of which the CPU's list is the first item

module _ (trace : Trace) (facts : Facts trace) (i : ℕ) (less : i < trace.cpus) (s : State) (seats : length s.cpus ≡ trace.cpus) (w : Waiting trace s)
    (queues : AreQueues trace s.queues) (inodes : length s.marks ≡ length trace.inodes) (n : ℕ) (rest : List Todo) (made : ℕ)
    (is : (cpu_of i s).todo ≡ todo.Step (step.Mark n) ∷ rest) (fits : n < length trace.inodes) (works : IsServed trace s (device_of trace n)) where
  abbrev left : Cpu
  left = record (cpu_of i s) { todo = rest; made = made }

  abbrev popped : State
  popped = with_cpu i left s

  here : cpu_of i popped ≡ left
  here = get_or-set_same s.cpus i left no_cpu (omega (arith, less, seats))

  elsewhere : (j : ℕ) → j ≢ i → cpu_of j popped ≡ cpu_of j s
  elsewhere j other = get_or-set_other s.cpus i j left no_cpu other

  still_owed : (m j : ℕ) → owes_mark m (cpu_of j s) ≡ true → (m ≡ n) ⊎ (owes_mark m (cpu_of j popped) ≡ true)
  still_owed m j some = dite (ℕ_discrete j i)
      (λ same. ⊎_elim
      (λ this. inl (eqb-true m n this))
      (λ later. inr (ap (λ (k : ℕ). owes_mark m (cpu_of k popped)) same ∙ (ap (owes_mark m) here ∙ later)))
      (or_cases (eqb m n) (list_any (is_mark_of m) rest) (sym (ap (λ (l : List Todo). list_any (is_mark_of m) l) is) ∙ (ap (λ (k : ℕ). owes_mark m (cpu_of k s)) (sym same) ∙ some))))
      (λ other. inr (ap (owes_mark m) (elsewhere j other) ∙ some))

  still_open : (j g : ℕ) → IsStillOpen g (cpu_of j s) → IsStillOpen g (cpu_of j popped)
  still_open j g still = dite (ℕ_discrete j i)
      (λ same. subst (λ (k : ℕ). IsStillOpen g (cpu_of k popped)) (sym same) (subst (IsStillOpen g) (sym here)
      (λ ours. sym (ap (λ (l : List Todo). list_any is_hand_over l) is) ∙ subst (λ (k : ℕ). IsStillOpen g (cpu_of k s)) same still ours)))
      (λ other. subst (IsStillOpen g) (sym (elsewhere j other)) still)

  still_before : (j : ℕ) → j < trace.cpus → AreBefore trace (cpu_of j popped).turn.whose (cpu_of j popped).todo
  still_before j l = dite (ℕ_discrete j i)
      (λ same. subst (λ (k : ℕ). AreBefore trace (cpu_of k popped).turn.whose (cpu_of k popped).todo) (sym same)
      (subst (λ (c : Cpu). AreBefore trace c.turn.whose c.todo) (sym here) (subst (AreBefore trace (cpu_of i s).turn.whose) is (w.turns i less)).1))
      (λ other. subst (λ (c : Cpu). AreBefore trace c.turn.whose c.todo) (sym (elsewhere j other)) (w.turns j l))

  -- what the state has then, where the inode can be taken and no other loses a queue
  marked_waits : (t : State) → t.cpus ≡ popped.cpus → t.flushers ≡ s.flushers → t.book ≡ s.book → t.running ≡ s.running
      → ((m : ℕ) → m < length trace.inodes → get_or t.marks m true ≡ true → (get_or s.marks m true ≡ true) ⊎ IsTakeable trace t m)
      → ((m : ℕ) → 1 ≤ times_in m (queue_of (device_of trace m) s) → IsTakeable trace t m)
      → IsTakeable trace t n
      → ((d : ℕ) → d < length trace.devices → 1 ≤ length (queue_of d t) → (1 ≤ length (queue_of d s)) ⊎ IsServed trace t d) → Waiting trace t
  marked_waits t cpus flushers book running marks queue now serves =
      moved_waits trace 0 s t (record {
        others = λ g apart. ap (λ fs. get_or fs g no_flusher) flushers;
        owes = λ m p j page l some. ⊎_elim
            (λ this. takeable (subst (IsTakeable trace t) (sym this) now))
            (λ later. owed j l (ap (λ (cs : List Cpu). owes_mark m (get_or cs j no_cpu)) cpus ∙ later))
            (still_owed m j some);
        opens = λ j g apart still. subst (λ (cs : List Cpu). IsStillOpen g (get_or cs j no_cpu)) (sym cpus) (still_open j g still);
        turns = λ j l. subst (λ (cs : List Cpu). AreBefore trace (get_or cs j no_cpu).turn.whose (get_or cs j no_cpu).todo) (sym cpus) (still_before j l);
        running = omega (arith, running);
        marks = marks;
        dirties = λ m p page e. inl (sym (ap (λ b. (b p).dirty) book) ∙ e);
        flights = λ p e. inl (sym (ap (λ b. (b p).writeback) book) ∙ e);
        queue = queue;
        lists = lists_stay trace 0 s t w (ap (λ fs. get_or fs 0 no_flusher) flushers);
        ours = ours_stay trace 0 s t w (ap (λ fs. get_or fs 0 no_flusher) flushers);
        empties = empties_stay trace 0 s t w (ap (λ fs. get_or fs 0 no_flusher) flushers);
        was_taken = λ m l e there at. taken 0 there (ap (λ fs. (get_or fs 0 no_flusher).phase) flushers ∙ at);
        was_awaited = λ m p page there at. takeable (taken 0 there (ap (λ fs. (get_or fs 0 no_flusher).phase) flushers ∙ at));
        was_scanned = λ m p scan page e there at its behind still.
            scanned 0 scan there (ap (λ fs. (get_or fs 0 no_flusher).phase) flushers ∙ at) its behind
            (subst (λ (cs : List Cpu). IsStillOpen 0 (get_or cs (flusher_cpu trace 0) no_cpu)) (sym cpus) (still_open (flusher_cpu trace 0) 0 still));
        was_held = λ p e some. subst (λ fs. 1 ≤ times_in p (get_or fs 0 no_flusher).batch) (sym flushers) some;
        placed = λ there. subst (λ fs. IsPlaced trace 0 (get_or fs 0 no_flusher).phase) (sym flushers) (w.places 0 there);
        serves = serves;
        ends = λ there over. inl (ap (λ fs. is_finished (get_or fs 0 no_flusher).phase) (sym flushers) ∙ over);
      }) w

  takes_still : (t : State) → t.flushers ≡ s.flushers → t.queues ≡ s.queues → (m : ℕ) → IsTakeable trace s m → IsTakeable trace t m
  takes_still t flushers qs m (in_queue some) = in_queue (subst (λ (l : List (List ℕ)). 1 ≤ times_in m (get_or l (device_of trace m) [])) (sym qs) some)
  takes_still t flushers qs m (listed g there some) = listed g there (ap (λ fs. has_inode m (pairs_in (get_or fs g no_flusher))) flushers ∙ some)
  takes_still t flushers qs m (taken g there at) = taken g there (ap (λ fs. (get_or fs g no_flusher).phase) flushers ∙ at)

  put_waits : Waiting trace (plain_step i kind.Mark (queued (device_of trace n) n (record popped { marks = set s.marks n true })))
  put_waits =
      let d : ℕ = device_of trace n in
      let t : State = plain_step i kind.Mark (queued d n (record popped { marks = set s.marks n true })) in
      let device : d < length s.queues = omega (arith, facts.inode_device n fits, queues.many) in
      let now : queue_of d t ≡ queue_of d s ++ n ∷ [] = get_or-set_same s.queues d (queue_of d s ++ n ∷ []) [] device in
      let apart : (e : ℕ) → e ≢ d → queue_of e t ≡ queue_of e s = λ e other. get_or-set_other s.queues d e (queue_of d s ++ n ∷ []) [] other in
      let itself : IsTakeable trace t n = in_queue (omega (arith, ap (times_in n) now, times_in-append n (queue_of d s) (n ∷ []), ap one_if (eq-eqb n n refl))) in
      marked_waits t refl refl refl refl
      (λ m l e. dite (ℕ_discrete m n)
      (λ same. inr (subst (IsTakeable trace t) (sym same) itself))
      (λ other. inl (sym (get_or-set_other s.marks n m true true other) ∙ e)))
      (λ m some. in_queue (dite (ℕ_discrete (device_of trace m) d)
      (λ same. omega (arith, some, ap (λ (k : ℕ). times_in m (queue_of k s)) same, ap (λ (k : ℕ). times_in m (queue_of k t)) same, ap (times_in m) now, times_in-append m (queue_of d s) (n ∷ [])))
      (λ other. omega (arith, some, ap (times_in m) (apart (device_of trace m) other)))))
      itself
      (λ e l some. dite (ℕ_discrete e d)
      (λ same. inr (record { flusher = works.flusher; there = works.there; ours = works.ours ∙ sym same; works = works.works }))
      (λ other. inl (omega (arith, some, ap (λ (l : List ℕ). length l) (apart e other)))))

  pub mark_waits : Waiting trace (mark trace i n popped)
  mark_waits =
      either (λ (t : State). Waiting trace (plain_step i kind.Mark t)) (get_or s.marks n true) popped (queued (device_of trace n) n (record popped { marks = set s.marks n true }))
      (λ already.
      let t : State = plain_step i kind.Mark popped in
      marked_waits t refl refl refl refl (λ m l e. inl e) (λ m some. in_queue some) (takes_still t refl refl n (w.marked n fits already)) (λ d l some. inl some))
      (λ clear. put_waits)
