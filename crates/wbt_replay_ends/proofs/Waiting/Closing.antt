-- A scan closes: what it has noted or not come to is owed a mark. Then its batch is handed over.
use Rattle.std.proofs.Common.{◌≡◌, ◌≢◌, ◌⊎◌, ℕ, ◌<◌, ◌≤◌, true, false, ◌||◌, eqb, ltb, List, [], ◌∷◌, ◌++◌, length, refl, sym, ◌∙◌, ap, subst, arith, inl, ⊎_elim, eq-eqb}
use Rattle.std.proofs.lemmas.Bool.{or_left, or_right, or_parts}
use Rattle.std.proofs.lemmas.Bool.Decides.{nat_tests}
use Rattle.std.proofs.lemmas.List.{length-set, get_or-set_same, get_or-set_other}
use Rattle.std.specs.List.{list_any}
use mathlib.Core.Logic.{dite}
use native.Mathlib.Decide.{ℕ_discrete}
use Rattle.wbt_replay_order.proofs.Common.{Trace, then_do, places_after, keep_place, close_in, close_items, is_scan_over, hand_over_in, land_empty, fly, done_at, State, no_cpu, cpu_of, flusher_of, with_cpu, in_phase, IsAhead, flusher_device, Scan, Cpu, Flusher, ReplayPhase, Whose, Todo, is_finished, IsPageOf, IsFlusherOn, is_mark_of, is_hand_over, owes_mark, IsStillOpen, IsPlaced, AreBefore, Waiting, queued, taken, takeable, owed}
use Rattle.wbt_journal.specs.declared.entry.Entry.TheVariants as entry
use Rattle.wbt_rules.specs.Things.{rate_of}
use Rattle.wbt_rules.proofs.Places.{none_ahead}
use Rattle.wbt_replay_moves.specs.declared.state.ReplayPhase.TheVariants as phase
use Rattle.wbt_replay_moves.specs.declared.state.Whose.TheVariants as whose
use Rattle.wbt_replay_moves.specs.declared.todo.Silent.TheVariants as silent
use Rattle.wbt_replay_moves.specs.declared.todo.Step.TheVariants as step
use Rattle.wbt_replay_moves.specs.declared.todo.Todo.TheVariants as todo
use Rattle.wbt_replay_order.proofs.Facts.Lists.{either}
use Rattle.wbt_replay_order.proofs.Lists.Todos.{same_alike, pop_alike}
use Rattle.wbt_replay_ends.proofs.Waiting.Moved.{lists_stay, ours_stay, empties_stay, moved_waits}
use Rattle.wbt_replay_ends.proofs.Waiting.Still.{cpu_stays, set_alike, still_alike}
use Rattle.wbt_replay_ends.proofs.Waiting.Turned.{now_is, is_parked, scan_in, goes_on, parks}

abbrev flusher_in : Whose → ℕ
flusher_in (whose.Task task) = 0
flusher_in (whose.Flusher g) = g

module _ (trace : Trace) (i f : ℕ) (less : i < trace.cpus) (on : IsFlusherOn trace i f) (s : State) (seats : length s.cpus ≡ trace.cpus)
    (many : length s.flushers ≡ length trace.flushers) (w : Waiting trace s) (ours : (cpu_of i s).turn.whose ≡ whose.Flusher f) where
  -- the CPU has these items first, one of which hands over
  items_waits : (scan : Scan) (items : List Todo) → (flusher_of f s).phase ≡ phase.Scanning scan
      → ((m : ℕ) → owes_mark m (cpu_of i s) ≡ true → list_any (is_mark_of m) (items ++ (cpu_of i s).todo) ≡ true)
      → AreBefore trace (whose.Flusher f) (items ++ (cpu_of i s).todo)
      → ((m p : ℕ) → IsPageOf trace m p → scan.inode ≡ m → IsAhead scan p ⊎ (scan.noted ≡ true) → list_any (is_mark_of m) (items ++ (cpu_of i s).todo) ≡ true)
      → Waiting trace (then_do i items s)
  items_waits scan items at owes before marks =
      let c : Cpu = record (cpu_of i s) { todo = items ++ (cpu_of i s).todo } in
      let t : State = then_do i items s in
      let here : cpu_of i t ≡ c = get_or-set_same s.cpus i c no_cpu (omega (arith, less, seats)) in
      let elsewhere : (j : ℕ) → j ≢ i → cpu_of j t ≡ cpu_of j s = λ j other. get_or-set_other s.cpus i j c no_cpu other in
      moved_waits trace f s t (record {
        others = λ g apart. refl;
        owes = λ m p j page l some. owed j l (dite (ℕ_discrete j i)
            (λ same. ap (λ (k : ℕ). owes_mark m (cpu_of k t)) same ∙ (ap (owes_mark m) here ∙ owes m (ap (λ (k : ℕ). owes_mark m (cpu_of k s)) (sym same) ∙ some)))
            (λ other. ap (owes_mark m) (elsewhere j other) ∙ some));
        opens = λ j g apart still. dite (ℕ_discrete j i)
            (λ same. subst (λ (k : ℕ). IsStillOpen g (cpu_of k t)) (sym same) (subst (IsStillOpen g) (sym here) (λ mine. absurd (apart (ap flusher_in (sym mine ∙ ours))))))
            (λ other. subst (IsStillOpen g) (sym (elsewhere j other)) still);
        turns = λ j l. dite (ℕ_discrete j i)
            (λ same. subst (λ (k : ℕ). AreBefore trace (cpu_of k t).turn.whose (cpu_of k t).todo) (sym same)
            (subst (λ (d : Cpu). AreBefore trace d.turn.whose d.todo) (sym here) (subst (λ (x : Whose). AreBefore trace x (items ++ (cpu_of i s).todo)) (sym ours) before)))
            (λ other. subst (λ (d : Cpu). AreBefore trace d.turn.whose d.todo) (sym (elsewhere j other)) (w.turns j l));
        running = omega arith;
        marks = λ m l is. inl is;
        dirties = λ m p page is. inl is;
        flights = λ p is. inl is;
        queue = λ m some. queued some;
        lists = lists_stay trace f s t w refl;
        ours = ours_stay trace f s t w refl;
        empties = empties_stay trace f s t w refl;
        was_taken = λ m l is there found. taken f there found;
        was_awaited = λ m p page there found. takeable (taken f there found);
        was_scanned = λ m p old page is there found its behind still.
            let same : old ≡ scan = ap scan_in (sym found ∙ at) in
            owed i less (ap (owes_mark m) here ∙ marks m p page (ap (λ (x : Scan). x.inode) (sym same) ∙ its) (subst (λ (x : Scan). IsAhead x p ⊎ (x.noted ≡ true)) same behind));
        was_held = λ p is some. some;
        placed = λ there. w.places f there;
        serves = λ d l some. inl some;
        ends = λ there over. inl over;
      }) w

  closed_waits : (scan : Scan) → (flusher_of f s).phase ≡ phase.Scanning scan
      → Waiting trace (then_do i (close_items scan.inode (scan.noted || ltb scan.passed scan.pages)) s)
  closed_waits scan at =
      either (λ (items : List Todo). Waiting trace (then_do i items s)) (scan.noted || ltb scan.passed scan.pages) (todo.Step (step.Mark scan.inode) ∷ todo.Silent silent.HandOver ∷ []) (todo.Silent silent.HandOver ∷ [])
      (λ again. items_waits scan (todo.Step (step.Mark scan.inode) ∷ todo.Silent silent.HandOver ∷ []) at
      (λ m some. or_right (eqb m scan.inode) _ some)
      ((subst (IsPlaced trace f) at (w.places f on.there), refl), (tt, subst (λ (x : Whose). AreBefore trace x (cpu_of i s).todo) ours (w.turns i less)))
      (λ m p page same behind. or_left (eqb m scan.inode) _ (eq-eqb m scan.inode (sym same))))
      (λ over. items_waits scan (todo.Silent silent.HandOver ∷ []) at
      (λ m some. some)
      (tt, subst (λ (x : Whose). AreBefore trace x (cpu_of i s).todo) ours (w.turns i less))
      (λ m p page same behind.
      let none = or_parts scan.noted (ltb scan.passed scan.pages) over in
      let past : scan.pages ≤ scan.passed = grind (arith, nat_tests, none.1) in
      ⊎_elim
      (λ ahead. absurd (none_ahead scan p past ahead))
      (λ is. absurd (cc (sym is ∙ none.0)))
      behind))

  -- ---- the hand over, of which the CPU's list is the first item

  module _ (rest : List Todo) (is : (cpu_of i s).todo ≡ todo.Silent silent.HandOver ∷ rest) where
    abbrev left : State
    left = with_cpu i (record (cpu_of i s) { todo = rest }) s

    shut : IsStillOpen f (cpu_of i s) → ⊥
    shut still = cc (sym (still ours) ∙ ap (λ (l : List Todo). list_any is_hand_over l) is)

    park_waits : (scan : Scan) (p : ReplayPhase) → (flusher_of f s).phase ≡ phase.Scanning scan → is_parked p ≡ true → is_finished p ≡ false → Waiting trace (in_phase f p left)
    park_waits scan p at parked works =
        parks trace i f less on s seats many w (record (flusher_of f s) { phase = p }) (in_phase f p left)
        (set_alike trace i (record (cpu_of i s) { todo = rest }) s (in_phase f p left) (pop_alike trace (todo.Silent silent.HandOver) rest (cpu_of i s) _ (λ m. refl) is refl refl) refl)
        refl (omega arith) refl refl refl refl refl parked
        (λ m found. cc (sym found ∙ at))
        (λ m page old here found its behind still. shut still)
        (λ over. absurd (cc (sym over ∙ works))) (λ over. absurd (cc (sym over ∙ works)))

    pop_waits : Waiting trace left
    pop_waits = cpu_stays trace i (record (cpu_of i s) { todo = rest }) s left w (pop_alike trace (todo.Silent silent.HandOver) rest (cpu_of i s) _ (λ m. refl) is refl refl) refl (omega arith) refl refl refl refl

    pub hand_over_waits : (p : ReplayPhase) → (flusher_of f s).phase ≡ p → Waiting trace (hand_over_in trace i f p left)
    hand_over_waits (phase.Scanning scan) at =
        let pages : ℕ = length (flusher_of f s).batch in
        let until : ℕ = done_at s.now pages (rate_of trace (flusher_device trace f)) in
        either (Waiting trace) (eqb pages 0) (land_empty f scan.noted left) (fly i f scan.inode pages until left)
        (λ none. either (λ (p : ReplayPhase). Waiting trace (in_phase f p left)) scan.noted _ _ (λ b. park_waits scan _ at refl refl) (λ b. park_waits scan _ at refl refl))
        (λ some. let u : State = in_phase f (phase.Flying scan.inode pages until) left in
        cpu_stays trace i (record (cpu_of i u) { entries = (cpu_of i u).entries ++ entry.Batch f pages s.now until ∷ [] }) u _ (park_waits scan (phase.Flying scan.inode pages until) at refl refl)
        (same_alike trace (cpu_of i u) _ refl refl) refl (omega arith) refl refl refl refl)
    hand_over_waits (phase.Idle until kept) at = pop_waits
    hand_over_waits (phase.Taken n) at = pop_waits
    hand_over_waits (phase.Flying n pages until) at = pop_waits
    hand_over_waits phase.Finished at = pop_waits

-- ---- the close, at which the flusher keeps the place of its scan

module _ (trace : Trace) (i f : ℕ) (less : i < trace.cpus) (on : IsFlusherOn trace i f) (s : State) (seats : length s.cpus ≡ trace.cpus)
    (many : length s.flushers ≡ length trace.flushers) (w : Waiting trace s) (ours : (cpu_of i s).turn.whose ≡ whose.Flusher f) where
  kept_waits : (scan : Scan) → (flusher_of f s).phase ≡ phase.Scanning scan
      → Waiting trace (then_do i (close_items scan.inode (scan.noted || ltb scan.passed scan.pages)) (keep_place trace f scan s))
  kept_waits scan at =
      let x : Flusher = record (flusher_of f s) { places = places_after trace f scan (flusher_of f s).places } in
      let u : State = keep_place trace f scan s in
      closed_waits trace i f less on u seats (length-set s.flushers f x ∙ many)
      (goes_on trace i f less on s seats many w x u (still_alike trace s u refl) refl (omega arith) refl refl refl refl (λ p e. e) (λ p e. e) (λ p e some. some))
      ours scan (ap (λ (y : Flusher). y.phase) (now_is trace i f less on s seats many w x u refl) ∙ at)

  pub close_waits : (p : ReplayPhase) → (flusher_of f s).phase ≡ p → Waiting trace (close_in trace i f p s)
  close_waits (phase.Scanning scan) at =
      either (Waiting trace) (is_scan_over scan (length (flusher_of f s).batch)) _ s
      (λ over. kept_waits scan at) (λ more. w)
  close_waits (phase.Idle until kept) at = w
  close_waits (phase.Taken n) at = w
  close_waits (phase.Flying n pages until) at = w
  close_waits phase.Finished at = w
