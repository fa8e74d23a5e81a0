-- A task ends; an inode is marked.
use Rattle.std.proofs.Common.{◌≡◌, ℕ, ◌+◌, ◌-◌, ◌<◌, Bool, true, false, cond, not, List, [], ◌∷◌, ◌++◌, length, get_or, All, refl, ◌∙◌, ap, arith}
use Rattle.std.specs.List.{sum_by, fold}
use Rattle.std.proofs.Math.ListN.{set}
use Rattle.std.proofs.lemmas.List.{length-set}
use Rattle.std.proofs.lemmas.List.Elements.{All-push}
use Rattle.std.proofs.lemmas.List.Sums.{sum_by-cons}
use Rattle.wbt_grant.specs.declared.who.StepKind.TheVariants as kind
use Rattle.wbt_replay_order.proofs.Common.{ended, CpuLocal, Due, Writer, Trace, writer_of, State, cpu_of, task_of, queue_of, no_task, no_cpu, device_of, leaked, end_now, has_nothing, end_by, mark, Cpu, ReplayTask, ReplayWork, Facts, IsTaskOn, silent_ticks, IsClosed, AreQueued, dirtied_of, dirtied_by, leaks_of, is_running}
use Rattle.wbt_replay_moves.specs.declared.state.Whose.TheVariants as whose
use Rattle.wbt_replay_order.proofs.Facts.Lists.{either}
use Rattle.wbt_replay_ranges.proofs.Sound.Checks.{task_closed}
use Rattle.wbt_replay_ranges.proofs.Sound.Counters.{Ready, with_step, plain_entry}
use Rattle.wbt_replay_ranges.proofs.Sound.FlusherTurn.{task_ends}
use Rattle.wbt_replay_ranges.proofs.Sound.Frames.{cpu_frame}
use Rattle.wbt_replay_ranges.proofs.Sound.Going.{Going, spare_going}
use Rattle.wbt_replay_order.proofs.Lists.Numbered.{set_all, sum_set, count_set, one_if}
use Rattle.wbt_replay_ranges.proofs.Sound.Own.{Free, Done, done_free, local_free, is_set, changed, changed_cpu, changed_agreed}
use Rattle.wbt_replay_ranges.proofs.Sound.Things.{inodes_going}

-- ---- what its writers have dirtied leaks

leaks_sum : (ws : List Writer) (local : CpuLocal) → (fold leaked local ws).leaks ≡ local.leaks + sum_by dirtied_by ws
unfolding ended
leaks_sum [] local = omega arith
leaks_sum (w ∷ ws) local = let rest = leaks_sum ws (leaked local w) in let e = sum_by-cons dirtied_by w ws in omega (arith, rest, e)

since_same : (ws : List Writer) (local : CpuLocal) → (fold leaked local ws).since_check ≡ local.since_check
unfolding ended
since_same [] local = refl
since_same (w ∷ ws) local = since_same ws (leaked local w)

nothing_left : (works : List ReplayWork) (d : Due) → has_nothing works d ≡ true → works ≡ []
nothing_left [] d h = refl
nothing_left (w ∷ works) d h = absurd (cc h)

module _ (trace : Trace) (facts : Facts trace) (i : ℕ) (less : i < trace.cpus) where
  module _ (k : ℕ) (s : State) (on : IsTaskOn trace i k) (turn : (cpu_of i s).turn.whose ≡ whose.Task k) where
    now_done : (task_of k s).ended ≡ false → (task_of k s).works ≡ [] → Going trace i 0 0 s → Free trace i 3 s → Done trace i (end_now i k s)
    now_done running none g free =
        let t : ReplayTask = task_of k s in
        let x : ReplayTask = record t { ended = true } in
        let h = g.holds.tasks.each k on.there in
        let there : k < length s.tasks = omega (arith, on.there, g.holds.tasks.many) in
        let at : i < length s.cpus = omega (arith, less, g.holds.cpus.many) in
        let tasks = sum_set dirtied_of s.tasks k x no_task there in
        let counts = count_set is_running s.tasks k x no_task there in
        let some : one_if (is_running t) ≡ 1 = ap (λ (b : Bool). one_if (not b)) running in
        let counted = g.holds.counted.tasks in
        let g1 = task_ends trace facts i less k x (s.running - 1) 0 0 0 s on turn g free.fits.from free.fits.agree
        (record { works = h.works; context = h.context; writers = h.writers; fit = h.fit; due = h.due; ended = λ e. none; last = h.last; pace = h.pace; since = h.since }) (omega arith) (omega arith) refl (omega arith) (omega (arith, counts, counted, some)) in
        let s1 : State = record s { tasks = set s.tasks k x; running = s.running - 1 } in
        let c : Cpu = cpu_of i s in
        let local : CpuLocal = fold leaked c.local t.writers in
        let c1 : Cpu = record c { local = local } in
        let hc = g1.holds.cpus.each i less in
        let cpus = sum_set leaks_of s.cpus i c1 no_cpu at in
        let whole : dirtied_of t ≡ sum_by dirtied_by t.writers = ap (λ (b : Bool). cond b 0 (sum_by dirtied_by t.writers)) running in
        let leaks = leaks_sum t.writers c.local in
        let since = since_same t.writers c.local in
        let dirtied = g.holds.dirtied in
        let g2 = cpu_frame trace facts i less (changed c c.turn c.todo local c.own_domains c.own_contexts c.entries c.checks c.estimates c.made) 0 0 0 0 s1 g1
        (changed_cpu trace facts i less (length s.steps) s.now c c.turn c.todo local c.own_domains c.own_contexts c.entries c.checks c.estimates c.made hc hc.turn hc.whose hc.todo hc.in_order refl refl (omega (arith, since, hc.since)) hc.made)
        (changed_agreed trace facts i less s1 c c.turn c.todo local c.own_domains c.own_contexts c.entries c.checks c.estimates c.made (g1.holds.agreed i less) refl (g1.holds.agreed i less).items)
        refl (omega (arith, dirtied, tasks, cpus, whole, leaks)) (omega arith) (omega arith) in
        let s2 : State = record s1 { cpus = set s.cpus i c1 } in
        let free1 : Free trace i 3 s1 = record {
          whose = free.whose;
          fits = record { fit = free.fits.fit; order = free.fits.order; from = free.fits.from; agree = (g1.holds.agreed i less).items; others = free.fits.others };
          room = free.room;
        } in
        let free2 = local_free trace facts i less local c.entries 3 0 0 s1 g1 free1 in
        done_free trace i 3 s2 g2 (task_closed trace facts i less k s2 (ap (λ (d : Cpu). d.turn.whose) (is_set trace facts i less c1 0 0 s1 g1) ∙ turn)) free2

    pub end_done : (task_of k s).ended ≡ false → Going trace i 0 0 s → Free trace i 3 s → Done trace i (end_by i (whose.Task k) s)
    end_done running g free = either (Done trace i) (has_nothing (task_of k s).works (writer_of (task_of k s)).due) (end_now i k s) s
        (λ none. now_done running (nothing_left (task_of k s).works (writer_of (task_of k s)).due none) g free)
        (λ some. done_free trace i 3 s g (task_closed trace facts i less k s turn) free)

  -- ---- an inode is marked

  pub mark_done : (inode : ℕ) (s : State) → inode < length trace.inodes → Ready trace i s → Free trace i 0 s → IsClosed trace s.flushers i (cpu_of i s) → Done trace i (mark trace i inode s)
  mark_done inode s there ready free closed =
      let device : ℕ = device_of trace inode in
      let x : State = with_step (plain_entry i kind.Mark) s in
      let g = ready (plain_entry i kind.Mark) in
      let queue : List ℕ = queue_of device s ++ inode ∷ [] in
      either (λ y. Done trace i (with_step (plain_entry i kind.Mark) y)) (get_or s.marks inode true) s (record s { marks = set s.marks inode true; queues = set s.queues device queue })
      (λ already. done_free trace i 0 x (spare_going trace i 1 0 silent_ticks 0 x (omega arith) (omega arith) g) closed (record { whose = free.whose; fits = free.fits; room = free.room }))
      (λ clear.
      let g1 = inodes_going trace i 1 silent_ticks s.book (set s.marks inode true) (set s.queues device queue) x g (length-set s.marks inode true) (length-set s.queues device queue)
      (set_all (λ d (q : List ℕ). All (AreQueued trace d) q) s.queues device queue []
      (All-push (AreQueued trace device) (queue_of device s) inode (g.holds.queues.each device) (record { there = there; ours = refl })) g.holds.queues.each) in
      let y : State = record x { marks = set s.marks inode true; queues = set s.queues device queue } in
      done_free trace i 0 y (spare_going trace i 1 0 silent_ticks 0 y (omega arith) (omega arith) g1) closed (record { whose = free.whose; fits = free.fits; room = free.room }))
