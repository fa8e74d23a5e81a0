-- Each silent move of a flusher's turn costs more than it leaves to be done.
use Rattle.std.proofs.Common.{◌≡◌, ℕ, ◌+◌, ◌<◌, ◌≤◌, true, false, ◌||◌, eqb, ltb, List, [], ◌∷◌, ◌++◌, length, Option, Some, None, refl, sym, ◌∙◌, ap, arith, Bool, get_or, subst, unwrap_or}
use Rattle.std.proofs.lemmas.List.{set-get_or}
use Rattle.std.proofs.lemmas.List.Sums.{sum_by-set}
use Rattle.wbt_replay_order.proofs.Common.{Estimate, Trace, do_next, then_do, logged, estimated, log_at, estimate_to, rest_until, take_or_rest, with_hard, take_now, with_pairs, told_by, waits, noticed, age, tested_by, FLUSHER_REST, is_scan_over, places_after, keep_place, close_in, fly, hand_over_in, is_over_by_itself, over_noted, weigh, weighed_by, done_at, State, no_cpu, no_flusher, cpu_of, flusher_of, queue_of, in_phase, no_waiting, flusher_device, Flusher, ReplayPhase, ReplayTurn, Silent, Todo, is_finished, ahead_cost, IsPaid, is_last, flusher_cost, IsIdle, IsScanning, Entry, Cpu, Whose}
use Rattle.wbt_journal.specs.declared.entry.Entry.TheVariants as entry
use Rattle.wbt_replay_moves.specs.Definition.Idle.{take}
use Rattle.wbt_rules.specs.Things.{rate_of}
use Rattle.wbt_replay_moves.specs.declared.state.ReplayPhase.TheVariants as phase
use Rattle.wbt_replay_moves.specs.declared.todo.Silent.TheVariants as silent
use Rattle.wbt_replay_moves.specs.declared.todo.Step.TheVariants as step
use Rattle.wbt_replay_moves.specs.declared.todo.Todo.TheVariants as todo
use Rattle.wbt_replay_order.proofs.Facts.Lists.{either, twice}
use Rattle.wbt_replay_ends.proofs.Ends.Goes.{outside, Goes, Plain, goes_so, cpu_goes, flusher_goes, flusher_there, pace}
use Rattle.std.proofs.Math.ListN.{set}
use Rattle.wbt_expiry.specs.declared.due.Due.{Due}
use Rattle.wbt_expiry.specs.Waiting.{Waiting as Wheel}
use Rattle.wbt_replay_order.proofs.Facts.Ages.{noticed_kept, aged_kept}

-- what the CPU's turn cost up to its next step, with the item
abbrev pub before : (i : ℕ) (item : Silent) (s : State) → ℕ
before i item s = ahead_cost (is_last s.tasks (cpu_of i s).turn.whose) (todo.Silent item ∷ (cpu_of i s).todo)

abbrev pub Quietly : (i : ℕ) (item : Silent) (s r : State) → Type 0
Quietly i item s r = Goes i 0 (before i item s) s r

-- what waits at a flusher, and the flusher with another list
abbrev waiting_in : Flusher → Wheel
waiting_in g = unwrap_or g.wheel no_waiting

abbrev listed : (w : Wheel) → Flusher → Flusher
listed w g = record g { wheel = Some w }

idle_works : (p : ReplayPhase) → IsIdle p → is_finished p ≡ false
idle_works (phase.Idle until kept) h = refl
idle_works (phase.Taken n) h = refl
idle_works (phase.Scanning scan) h = refl
idle_works (phase.Flying n pages until) h = refl
idle_works phase.Finished h = absurd h

module _ (trace : Trace) (i : ℕ) (s : State) (there : i < length s.cpus) where
  -- the CPU as it is
  stays : (u : State) → outside u ≡ outside s → length u.steps ≡ length s.steps → u.cpus ≡ s.cpus → IsPaid (cpu_of i s).todo → Plain i 0 s u (cpu_of i s)
  stays u same steps cpus paid =
      record { same = same; steps = omega (arith, steps); cpus = cpus ∙ sym (set-get_or s.cpus i no_cpu); paces = refl; todo = paid }

  pub estimate_goes : (context : ℕ) (found : Option Estimate) → IsPaid (todo.Silent (silent.Estimate context) ∷ (cpu_of i s).todo)
      → Quietly i (silent.Estimate context) s (estimate_to i context found s)
  estimate_goes context None paid =
      cpu_goes i 0 _ s s (cpu_of i s) (stays s refl refl refl (omega (arith, paid.0), paid.1.1)) refl refl (omega arith)
  estimate_goes context (Some e) paid =
      let c = estimated (record { context = context; estimate = e }) (cpu_of i s) in
      cpu_goes i 0 (before i (silent.Estimate context) s) s (estimate_to i context (Some e) s) c
      (record { same = refl; steps = omega arith; cpus = refl; paces = refl; todo = (omega (arith, paid.0), paid.1.1) }) refl refl (omega arith)

  pub weigh_goes : (context : ℕ) → IsPaid (todo.Silent (silent.Weigh context) ∷ (cpu_of i s).todo) → Quietly i (silent.Weigh context) s (weigh trace i context s)
  weigh_goes context paid =
      let c = over_noted (is_over_by_itself (weighed_by trace context (cpu_of i s) s)) (cpu_of i s) in
      cpu_goes i 0 (before i (silent.Weigh context) s) s (weigh trace i context s) c
      (record { same = refl; steps = omega arith; cpus = refl; paces = refl; todo = (omega (arith, paid.0), paid.1.1) }) refl refl (omega arith)

  module _ (f : ℕ) where
    -- ---- a test

    module _ (hard until : ℕ) (unfinished : is_finished (flusher_of f s).phase ≡ false) (paid : IsPaid (todo.Silent silent.Test ∷ (cpu_of i s).todo)) where
      rest_goes : Quietly i silent.Test s (rest_until f until (with_hard f hard s))
      rest_goes =
          let g = record (flusher_of f s) { hard = hard } in
          let p = phase.Idle until false in
          flusher_goes i 0 (before i silent.Test s) s (rest_until f until (with_hard f hard s)) (cpu_of i s)
          (stays (rest_until f until (with_hard f hard s)) refl refl refl (omega (arith, paid.0), paid.1.1)) refl f (record g { phase = p })
          (twice (λ (h : Flusher). record h { phase = p }) s.flushers f g no_flusher (flusher_there f s unfinished)) unfinished (omega arith)

      take_goes : (inode : ℕ) (inodes : List ℕ) → Quietly i silent.Test s (take trace i f inode inodes (with_hard f hard s))
      take_goes inode inodes =
          let g = record (flusher_of f s) { hard = hard } in
          let p = phase.Taken inode in
          let c = do_next (todo.Step step.Unmark ∷ []) (cpu_of i s) in
          flusher_goes i 0 (before i silent.Test s) s (take trace i f inode inodes (with_hard f hard s)) c
          (record { same = refl; steps = omega arith; cpus = refl; paces = refl; todo = (omega arith, (omega (arith, paid.0), paid.1.1)) }) refl f (record g { phase = p })
          (twice (λ (h : Flusher). record h { phase = p }) s.flushers f g no_flusher (flusher_there f s unfinished)) unfinished (omega arith)

      found_goes : (numbers : List ℕ) → Quietly i silent.Test s (take_or_rest trace i f until numbers (with_hard f hard s))
      found_goes [] = rest_goes
      found_goes (inode ∷ inodes) = take_goes inode inodes

    -- by age: what notices leave is another list, a queue and more entries
    module _ (hard : ℕ) (unfinished : is_finished (flusher_of f s).phase ≡ false) (paid : IsPaid (todo.Silent silent.Test ∷ (cpu_of i s).todo)) where
      abbrev hardened : State
      hardened = with_hard f hard s

      known : f < length s.flushers
      known = flusher_there f s unfinished

      -- the flusher as it was but for its list, and the CPU but for its entries
      record Noticed (u : State) : Type 0 where
        same : outside u ≡ outside s
        steps : length u.steps ≡ length s.steps
        tasks : u.tasks ≡ s.tasks
        cpu : Cpu
        cpus : u.cpus ≡ set s.cpus i cpu
        paces : pace cpu ≡ pace (cpu_of i s)
        todos : cpu.todo ≡ (cpu_of i s).todo
        whose : cpu.turn.whose ≡ (cpu_of i s).turn.whose
        flusher : Flusher
        flushers : u.flushers ≡ set s.flushers f flusher

      noticed_now : (now : ℕ) → Noticed (noticed trace i f now hardened)
      noticed_now now =
          noticed_kept trace i f now Noticed
          (λ u h. record {
            same = h.same;
            steps = h.steps;
            tasks = h.tasks;
            cpu = h.cpu;
            cpus = h.cpus;
            paces = h.paces;
            todos = h.todos;
            whose = h.whose;
            flusher = listed (told_by now (waiting_in h.flusher)) h.flusher;
            flushers = ap (λ (l : List Flusher). set l f (listed (told_by now (waiting_in (get_or l f no_flusher))) (get_or l f no_flusher))) h.flushers
                ∙ twice (λ (g : Flusher). listed (told_by now (waiting_in g)) g) s.flushers f h.flusher no_flusher known;
          })
          (λ u n ns is waits h. record {
            same = h.same;
            steps = h.steps;
            tasks = h.tasks;
            cpu = h.cpu;
            cpus = h.cpus;
            paces = h.paces;
            todos = h.todos;
            whose = h.whose;
            flusher = h.flusher;
            flushers = h.flushers;
          })
          (λ u n ns is new h. let e = entry.Noticed f n now in record {
            same = h.same;
            steps = h.steps;
            tasks = h.tasks;
            cpu = logged e h.cpu;
            cpus = ap (λ (l : List Cpu). set l i (logged e (get_or l i no_cpu))) h.cpus ∙ twice (logged e) s.cpus i h.cpu no_cpu there;
            paces = h.paces;
            todos = h.todos;
            whose = h.whose;
            flusher = listed (waits trace n now (waiting_in h.flusher)) h.flusher;
            flushers = ap (λ (l : List Flusher). set l f (listed (waits trace n now (waiting_in (get_or l f no_flusher))) (get_or l f no_flusher))) h.flushers
                ∙ twice (λ (g : Flusher). listed (waits trace n now (waiting_in g)) g) s.flushers f h.flusher no_flusher known;
          })
          hardened (record {
            same = refl;
            steps = refl;
            tasks = refl;
            cpu = cpu_of i s;
            cpus = sym (set-get_or s.cpus i no_cpu);
            paces = refl;
            todos = refl;
            whose = refl;
            flusher = record (flusher_of f s) { hard = hard };
            flushers = refl;
          })

      module _ (u : State) (h : Noticed u) where
        aged_rests : (until : ℕ) → Quietly i silent.Test s (rest_until f until u)
        aged_rests until =
            let p = phase.Idle until false in
            flusher_goes i 0 (before i silent.Test s) s (rest_until f until u) h.cpu
            (record { same = h.same; steps = omega (arith, h.steps); cpus = h.cpus; paces = h.paces; todo = subst IsPaid (sym h.todos) (omega (arith, paid.0), paid.1.1) }) h.tasks f (record h.flusher { phase = p })
            (ap (λ (l : List Flusher). set l f (record (get_or l f no_flusher) { phase = p })) h.flushers ∙ twice (λ (g : Flusher). record g { phase = p }) s.flushers f h.flusher no_flusher known) unfinished
            (let cost = ap (ahead_cost (is_last s.tasks h.cpu.turn.whose)) h.todos in
            let turn = ap (λ (w : Whose). ahead_cost (is_last s.tasks w) (cpu_of i s).todo) h.whose in
            omega (arith, cost, turn))

        aged_takes : (inode : ℕ) (e : Entry) (pairs : List Due) → Quietly i silent.Test s (take_now i f inode (log_at i e (with_pairs f pairs u)))
        aged_takes inode e pairs =
            let p = phase.Taken inode in
            let left : Flusher → Flusher = λ g. listed (record (waiting_in g) { pairs = pairs }) g in
            let takes : Flusher → Flusher = λ g. record g { phase = p } in
            let items = todo.Step step.Unmark ∷ [] in
            let c = do_next items (logged e h.cpu) in
            flusher_goes i 0 (before i silent.Test s) s (take_now i f inode (log_at i e (with_pairs f pairs u))) c
            (record {
              same = h.same;
              steps = omega (arith, h.steps);
              cpus = ap (λ (l : List Cpu). let m = set l i (logged e (get_or l i no_cpu)) in set m i (do_next items (get_or m i no_cpu))) h.cpus
                  ∙ ap (λ (l : List Cpu). set l i (do_next items (get_or l i no_cpu))) (twice (logged e) s.cpus i h.cpu no_cpu there)
                  ∙ twice (do_next items) s.cpus i (logged e h.cpu) no_cpu there;
              paces = h.paces;
              todo = subst (λ (ts : List Todo). IsPaid (items ++ ts)) (sym h.todos) (omega arith, (omega (arith, paid.0), paid.1.1));
            }) h.tasks f (takes (left h.flusher))
            (ap (λ (l : List Flusher). let m = set l f (left (get_or l f no_flusher)) in set m f (takes (get_or m f no_flusher))) h.flushers
            ∙ ap (λ (l : List Flusher). set l f (takes (get_or l f no_flusher))) (twice left s.flushers f h.flusher no_flusher known)
            ∙ twice takes s.flushers f (left h.flusher) no_flusher known) unfinished (omega arith)

      age_goes : (now : ℕ) (over : Bool) → Quietly i silent.Test s (age trace i f now over hardened)
      age_goes now over =
          let u = noticed trace i f now hardened in
          let h = noticed_now now in
          aged_kept i f now over u (Quietly i silent.Test s) (aged_rests u h (now + FLUSHER_REST))
          (λ pair pairs is by_now. aged_takes u h pair.inode (entry.Aged f pair.inode pair.due now) pairs) (λ pair pairs is. aged_takes u h pair.inode (entry.Taken f pair.inode) pairs)

    pub test_goes : (turn : ReplayTurn) → IsIdle (flusher_of f s).phase → IsPaid (todo.Silent silent.Test ∷ (cpu_of i s).todo)
        → Quietly i silent.Test s (tested_by trace i f turn (flusher_of f s).wheel (with_hard f turn.global.limits.hard s))
    test_goes turn idle paid = by_wheel (flusher_of f s).wheel
      where
        by_wheel : (wheel : Option Wheel) → Quietly i silent.Test s (tested_by trace i f turn wheel (with_hard f turn.global.limits.hard s))
        by_wheel None =
            let works = idle_works (flusher_of f s).phase idle in
            let hard = turn.global.limits.hard in
            either (Quietly i silent.Test s) turn.over _ _
            (λ is. found_goes hard (turn.began + FLUSHER_REST) works paid (queue_of (flusher_device trace f) (with_hard f hard s)))
            (λ is. rest_goes hard (turn.began + FLUSHER_REST) works paid)
        by_wheel (Some w) = age_goes turn.global.limits.hard (idle_works (flusher_of f s).phase idle) paid turn.began turn.over

    -- ---- the end of a scan

    pub close_goes : (p : ReplayPhase) → (flusher_of f s).phase ≡ p → IsScanning p → IsPaid (todo.Silent silent.Close ∷ (cpu_of i s).todo) → Quietly i silent.Close s (close_in trace i f p s)
    close_goes (phase.Scanning scan) is h paid =
        either (Quietly i silent.Close s) (is_scan_over scan (length (flusher_of f s).batch)) _ _
        (λ over.
        either (λ (items : List Todo). Quietly i silent.Close s (then_do i items (keep_place trace f scan s))) (scan.noted || ltb scan.passed scan.pages) _ _
        (λ again. closed (todo.Step (step.Mark scan.inode) ∷ todo.Silent silent.HandOver ∷ []) (omega arith, (omega (arith, paid.0), (tt, paid.1.1))) (omega arith))
        (λ once. closed (todo.Silent silent.HandOver ∷ []) (omega (arith, paid.0), (tt, paid.1.1)) (omega arith)))
        (λ on.
        cpu_goes i 0 _ s s (cpu_of i s) (stays s refl refl refl (omega (arith, paid.0), paid.1.1)) refl refl (omega arith))
      where
        -- the place that is kept costs nothing
        closed : (items : List Todo) → IsPaid (items ++ (cpu_of i s).todo)
            → ahead_cost (is_last s.tasks (cpu_of i s).turn.whose) (items ++ (cpu_of i s).todo) + 1 ≤ before i silent.Close s → Quietly i silent.Close s (then_do i items (keep_place trace f scan s))
        closed items behind less =
            let g = record (flusher_of f s) { places = places_after trace f scan (flusher_of f s).places } in
            goes_so i 0 (before i silent.Close s) s (then_do i items (keep_place trace f scan s)) (do_next items (cpu_of i s))
            (record { same = refl; steps = omega arith; cpus = refl; paces = refl; todo = behind }) refl
            (let changed = sum_by-set (flusher_cost s.now) s.flushers f g no_flusher (flusher_there f s (ap is_finished is)) in omega (arith, changed, less))
    close_goes (phase.Idle until kept) is h paid = absurd h
    close_goes (phase.Taken n) is h paid = absurd h
    close_goes (phase.Flying n pages until) is h paid = absurd h
    close_goes phase.Finished is h paid = absurd h

    pub hand_over_goes : (p : ReplayPhase) → (flusher_of f s).phase ≡ p → IsScanning p → IsPaid (todo.Silent silent.HandOver ∷ (cpu_of i s).todo)
        → Quietly i silent.HandOver s (hand_over_in trace i f p s)
    hand_over_goes (phase.Scanning scan) is h paid =
        let pages = length (flusher_of f s).batch in
        let behind : IsPaid (cpu_of i s).todo = (omega (arith, paid.0), paid.1.1) in
        either (Quietly i silent.HandOver s) (eqb pages 0) _ _
        (λ none.
        either (λ (q : ReplayPhase). Quietly i silent.HandOver s (in_phase f q s)) scan.noted _ _
        (λ again. empty (phase.Idle (s.now + FLUSHER_REST) true) behind)
        (λ once. empty (phase.Idle 0 false) behind))
        (λ some.
        let until = done_at s.now pages (rate_of trace (flusher_device trace f)) in
        let g = record (flusher_of f s) { phase = phase.Flying scan.inode pages until } in
        flusher_goes i 0 (before i silent.HandOver s) s (fly i f scan.inode pages until s) (logged (entry.Batch f pages s.now until) (cpu_of i s))
        (record { same = refl; steps = omega arith; cpus = refl; paces = refl; todo = behind }) refl f g refl (ap is_finished is) (omega arith))
      where
        empty : (q : ReplayPhase) → IsPaid (cpu_of i s).todo → Quietly i silent.HandOver s (in_phase f q s)
        empty q behind =
            flusher_goes i 0 (before i silent.HandOver s) s (in_phase f q s) (cpu_of i s)
            (stays (in_phase f q s) refl refl refl behind) refl f (record (flusher_of f s) { phase = q }) refl (ap is_finished is) (omega arith)
    hand_over_goes (phase.Idle until kept) is h paid = absurd h
    hand_over_goes (phase.Taken n) is h paid = absurd h
    hand_over_goes (phase.Flying n pages until) is h paid = absurd h
    hand_over_goes phase.Finished is h paid = absurd h
