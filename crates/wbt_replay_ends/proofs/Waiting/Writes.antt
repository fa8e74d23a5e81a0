-- A task writes a page: it becomes dirty where its inode's mark is owed.
use Rattle.std.proofs.Common.{◌≡◌, ◌≢◌, ℕ, ◌<◌, ◌≤◌, Bool, true, false, ◌||◌, eqb, pos, List, [], ◌∷◌, ◌++◌, length, get_or, refl, sym, ◌∙◌, ap, subst, arith, inl, inr, eq-eqb}
use Rattle.std.proofs.lemmas.Bool.{or_left, or_right}
use Rattle.std.proofs.lemmas.List.{get_or-set_same, get_or-set_other, length-set}
use Rattle.std.specs.List.{list_any}
use mathlib.Core.Logic.{dite}
use native.Mathlib.Decide.{ℕ_discrete}
use Rattle.wbt_replay_order.proofs.Common.{Trace, Context, put_same, put_other, Bits, bits_after, times_in, owed_to, log_at, State, no_cpu, no_flusher, cpu_of, task_of, with_task, with_event, context_of, device_of, group_of, flusher_cpu, dirty_next, dirty_page, dirty_fresh, count_page, counted_local, passed_page, Cpu, ReplayTask, Whose, ReplayWork, Todo, is_finished, Facts, IsPageOf, is_mark_of, is_end, is_hand_over, owes_mark, IsStillOpen, AreBefore, IsPlaced, Waiting, queued, taken, takeable, scanned, owed}
use Rattle.wbt_counter.specs.declared.counter.Counter.TheVariants.{Domain}
use Rattle.wbt_book.specs.declared.event.Event.TheVariants as event
use Rattle.wbt_journal.specs.declared.entry.Entry.TheVariants as entry
use Rattle.wbt_replay_moves.specs.declared.state.Whose.TheVariants as whose
use Rattle.wbt_replay_moves.specs.declared.state.ReplayWork.TheVariants as work
use Rattle.wbt_replay_moves.specs.declared.todo.Step.TheVariants as step
use Rattle.wbt_replay_moves.specs.declared.todo.Todo.TheVariants as todo
use Rattle.wbt_replay_order.proofs.Facts.Lists.{either}
use Rattle.wbt_replay_order.proofs.Lists.Todos.{same_alike}
use Rattle.wbt_replay_ends.proofs.Waiting.Moved.{lists_stay, ours_stay, empties_stay, moved_waits}
use Rattle.wbt_replay_ends.proofs.Waiting.Still.{still, cpu_stays}

-- ---- what a fresh write owes

module _ (trace : Trace) (k group n : ℕ) (rest : List Todo) where
  abbrev owing : List Todo
  owing = owed_to (pos 1) k group (todo.Step (step.Mark n)) ++ rest

  owed_marks : (m : ℕ) → list_any (is_mark_of m) owing ≡ (eqb m n || list_any (is_mark_of m) rest)
  owed_marks m = either (λ (items : List Todo). list_any (is_mark_of m) (items ++ rest) ≡ (eqb m n || list_any (is_mark_of m) rest)) (eqb group 0)
      (todo.Step (step.Add (Context k) (pos 1)) ∷ todo.Step (step.Add (Domain 0) (pos 1)) ∷ todo.Step (step.Mark n) ∷ [])
      (todo.Step (step.Add (Context k) (pos 1)) ∷ todo.Step (step.Add (Domain 0) (pos 1)) ∷ todo.Step (step.Add (Domain group) (pos 1)) ∷ todo.Step (step.Mark n) ∷ [])
      (λ none. refl) (λ some. refl)

  owed_hands : list_any is_hand_over owing ≡ list_any is_hand_over rest
  owed_hands = either (λ (items : List Todo). list_any is_hand_over (items ++ rest) ≡ list_any is_hand_over rest) (eqb group 0)
      (todo.Step (step.Add (Context k) (pos 1)) ∷ todo.Step (step.Add (Domain 0) (pos 1)) ∷ todo.Step (step.Mark n) ∷ [])
      (todo.Step (step.Add (Context k) (pos 1)) ∷ todo.Step (step.Add (Domain 0) (pos 1)) ∷ todo.Step (step.Add (Domain group) (pos 1)) ∷ todo.Step (step.Mark n) ∷ [])
      (λ none. refl) (λ some. refl)

  owed_before : (task : ℕ) → list_any is_end rest ≡ true → AreBefore trace (whose.Task task) rest → AreBefore trace (whose.Task task) owing
  owed_before task ends h = either (λ (items : List Todo). AreBefore trace (whose.Task task) (items ++ rest)) (eqb group 0)
      (todo.Step (step.Add (Context k) (pos 1)) ∷ todo.Step (step.Add (Domain 0) (pos 1)) ∷ todo.Step (step.Mark n) ∷ [])
      (todo.Step (step.Add (Context k) (pos 1)) ∷ todo.Step (step.Add (Domain 0) (pos 1)) ∷ todo.Step (step.Add (Domain group) (pos 1)) ∷ todo.Step (step.Mark n) ∷ [])
      (λ none. (tt, (tt, (ends, h)))) (λ some. (tt, (tt, (tt, (ends, h)))))

module _ (trace : Trace) (facts : Facts trace) (i task : ℕ) (less : i < trace.cpus) where
  -- A fresh page is dirty, and the CPU has so much to do first.
  fresh_waits : (n q : ℕ) (s t : State) (c : Cpu) → length s.cpus ≡ trace.cpus → Waiting trace s → (cpu_of i s).turn.whose ≡ whose.Task task → list_any is_end (cpu_of i s).todo ≡ true
      → IsPageOf trace n q → cpu_of i t ≡ c → ((j : ℕ) → j ≢ i → cpu_of j t ≡ cpu_of j s) → c.turn.whose ≡ (cpu_of i s).turn.whose
      → c.todo ≡ owing trace (context_of trace n) (group_of trace (context_of trace n)) n (cpu_of i s).todo
      → t.book ≡ (with_event (event.Dirty q) q s).book → t.flushers ≡ s.flushers → t.marks ≡ s.marks → t.queues ≡ s.queues → t.running ≤ s.running → Waiting trace t
  fresh_waits n q s t c seats w ours ends page here elsewhere same list book flushers marks queues running =
      let k : ℕ = context_of trace n in
      let g : ℕ = group_of trace k in
      let before : List Todo = (cpu_of i s).todo in
      let owes_here : (m : ℕ) → owes_mark m (cpu_of i t) ≡ (eqb m n || list_any (is_mark_of m) before) = λ m.
      ap (owes_mark m) here ∙ (ap (λ (l : List Todo). list_any (is_mark_of m) l) list ∙ owed_marks trace k g n before m) in
      let opens : (j h : ℕ) → IsStillOpen h (cpu_of j s) → IsStillOpen h (cpu_of j t) = λ j h still. dite (ℕ_discrete j i)
      (λ e. subst (λ (x : ℕ). IsStillOpen h (cpu_of x t)) (sym e) (subst (IsStillOpen h) (sym here)
      (λ mine. ap (λ (l : List Todo). list_any is_hand_over l) list ∙ (owed_hands trace k g n before ∙ subst (λ (x : ℕ). IsStillOpen h (cpu_of x s)) e still (sym same ∙ mine)))))
      (λ other. subst (IsStillOpen h) (sym (elsewhere j other)) still) in
      moved_waits trace 0 s t (record {
        others = λ h apart. ap (λ fs. get_or fs h no_flusher) flushers;
        owes = λ m p j here l some. owed j l (dite (ℕ_discrete j i)
            (λ e. ap (λ (x : ℕ). owes_mark m (cpu_of x t)) e ∙ (owes_here m ∙ or_right (eqb m n) _ (ap (λ (x : ℕ). owes_mark m (cpu_of x s)) (sym e) ∙ some)))
            (λ other. ap (owes_mark m) (elsewhere j other) ∙ some));
        opens = λ j h apart still. opens j h still;
        turns = λ j l. dite (ℕ_discrete j i)
            (λ e. subst (λ (x : ℕ). AreBefore trace (cpu_of x t).turn.whose (cpu_of x t).todo) (sym e)
            (subst (λ (d : Cpu). AreBefore trace d.turn.whose d.todo) (sym here)
            (subst (λ (x : Whose). AreBefore trace x c.todo) (sym (same ∙ ours))
            (subst (AreBefore trace (whose.Task task)) (sym list) (owed_before trace k g n before task ends (subst (λ (x : Whose). AreBefore trace x before) ours (w.turns i less)))))))
            (λ other. subst (λ (d : Cpu). AreBefore trace d.turn.whose d.todo) (sym (elsewhere j other)) (w.turns j l));
        running = running;
        marks = λ m l e. inl (sym (ap (λ (ms : List Bool). get_or ms m true) marks) ∙ e);
        dirties = λ m p there e. dite (ℕ_discrete p q)
            (λ this.
            let inode : m ≡ n = sym (facts.inode_is m q (subst (IsPageOf trace m) this there)) ∙ facts.inode_is n q page in
            inr (owed i less (owes_here m ∙ or_left (eqb m n) _ (eq-eqb m n inode))))
            (λ other. inl (sym (ap (λ (b : Bits). b.dirty) (ap (λ b. b p) book ∙ put_other s.book q (bits_after (event.Dirty q) (s.book q)) p other)) ∙ e));
        flights = λ p e. inl (dite (ℕ_discrete p q)
            (λ this. ap (λ (x : ℕ). (s.book x).writeback) this
            ∙ (sym (ap (λ (b : Bits). b.writeback) (ap (λ b. b p) book ∙ (ap (with_event (event.Dirty q) q s).book this ∙ put_same s.book q (bits_after (event.Dirty q) (s.book q))))) ∙ e))
            (λ other. sym (ap (λ (b : Bits). b.writeback) (ap (λ b. b p) book ∙ put_other s.book q (bits_after (event.Dirty q) (s.book q)) p other)) ∙ e));
        queue = λ m some. queued (subst (λ (qs : List (List ℕ)). 1 ≤ times_in m (get_or qs (device_of trace m) [])) (sym queues) some);
        lists = lists_stay trace 0 s t w (ap (λ fs. get_or fs 0 no_flusher) flushers);
        ours = ours_stay trace 0 s t w (ap (λ fs. get_or fs 0 no_flusher) flushers);
        empties = empties_stay trace 0 s t w (ap (λ fs. get_or fs 0 no_flusher) flushers);
        was_taken = λ m l e there at. taken 0 there (ap (λ fs. (get_or fs 0 no_flusher).phase) flushers ∙ at);
        was_awaited = λ m p here there at. takeable (taken 0 there (ap (λ fs. (get_or fs 0 no_flusher).phase) flushers ∙ at));
        was_scanned = λ m p scan here e there at its behind still.
            scanned 0 scan there (ap (λ fs. (get_or fs 0 no_flusher).phase) flushers ∙ at) its behind (opens (flusher_cpu trace 0) 0 still);
        was_held = λ p e some. subst (λ fs. 1 ≤ times_in p (get_or fs 0 no_flusher).batch) (sym flushers) some;
        placed = λ there. subst (λ fs. IsPlaced trace 0 (get_or fs 0 no_flusher).phase) (sym flushers) (w.places 0 there);
        serves = λ d l some. inl (subst (λ (qs : List (List ℕ)). 1 ≤ length (get_or qs d [])) queues some);
        ends = λ there over. inl (ap (λ fs. is_finished (get_or fs 0 no_flusher).phase) (sym flushers) ∙ over);
      }) w

  page_waits : (n q : ℕ) (s : State) → length s.cpus ≡ trace.cpus → Waiting trace s → (cpu_of i s).turn.whose ≡ whose.Task task → list_any is_end (cpu_of i s).todo ≡ true
      → IsPageOf trace n q → Waiting trace (dirty_page trace i task n q s)
  page_waits n q s seats w ours ends page =
      either (Waiting trace) (s.book q).dirty _ (dirty_fresh trace i task n q s)
      (λ known. cpu_stays trace i (record (cpu_of i s) { entries = (cpu_of i s).entries ++ entry.Write task q false ∷ [] }) s _ w (same_alike trace (cpu_of i s) _ refl refl) refl (omega arith) refl refl refl refl)
      (λ fresh.
      let k : ℕ = context_of trace n in
      let items : List Todo = owed_to (pos 1) k (group_of trace k) (todo.Step (step.Mark n)) in
      let first : Cpu = record (cpu_of i s) { local = counted_local s.ratelimit_pages k (cpu_of i s).local (task_of task s) } in
      let a : State = count_page i task k s in
      let second : Cpu = record (cpu_of i a) { entries = (cpu_of i a).entries ++ entry.Write task q true ∷ [] } in
      let b : State = log_at i (entry.Write task q true) a in
      let there : i < length s.cpus = omega (arith, less, seats) in
      let more : i < length a.cpus = omega (arith, there, length-set s.cpus i first) in
      let one : cpu_of i a ≡ first = get_or-set_same s.cpus i first no_cpu there in
      let two : cpu_of i b ≡ second = get_or-set_same a.cpus i second no_cpu more in
      let seats_b : length b.cpus ≡ trace.cpus = length-set a.cpus i second ∙ (length-set s.cpus i first ∙ seats) in
      fresh_waits n q b (dirty_fresh trace i task n q s) (record (cpu_of i b) { todo = items ++ (cpu_of i b).todo }) seats_b
      (cpu_stays trace i second a b
      (cpu_stays trace i first s a w (same_alike trace (cpu_of i s) first refl refl) refl (omega arith) refl refl refl refl)
      (same_alike trace (cpu_of i a) second refl refl) refl (omega arith) refl refl refl refl)
      (ap (λ (d : Cpu). d.turn.whose) two ∙ (ap (λ (d : Cpu). d.turn.whose) one ∙ ours))
      (ap (λ (d : Cpu). list_any is_end d.todo) two ∙ (ap (λ (d : Cpu). list_any is_end d.todo) one ∙ ends))
      page
      (get_or-set_same b.cpus i (record (cpu_of i b) { todo = items ++ (cpu_of i b).todo }) no_cpu (omega (arith, more, length-set a.cpus i second)))
      (λ j other. get_or-set_other b.cpus i j (record (cpu_of i b) { todo = items ++ (cpu_of i b).todo }) no_cpu other)
      refl refl refl refl refl refl (omega arith))

  pub dirty_waits : (works : List ReplayWork) (s : State) → length s.cpus ≡ trace.cpus → Waiting trace s → (cpu_of i s).turn.whose ≡ whose.Task task → list_any is_end (cpu_of i s).todo ≡ true
      → ((n q pages : ℕ) (more : List ReplayWork) → works ≡ work.Write n q pages ∷ more → IsPageOf trace n q) → Waiting trace (dirty_next trace i task works s)
  dirty_waits [] s seats w ours ends page = w
  dirty_waits (work.Rest ticks ∷ works) s seats w ours ends page = w
  dirty_waits (work.Write n q pages ∷ works) s seats w ours ends page =
      let t : ReplayTask = passed_page n q pages works (task_of task s) in
      page_waits n q (with_task task t s) seats (still trace s (with_task task t s) w refl (omega arith) refl refl refl refl) ours ends (page n q pages works refl)
