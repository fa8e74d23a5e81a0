-- A task writes its next page.
use Rattle.std.proofs.Common.{◌≡◌, ◌≢◌, ℕ, ◌+◌, ◌-◌, ◌<◌, ◌≤◌, Bool, true, false, cond, eqb, leb, ◌||◌, pos, List, [], ◌∷◌, ◌++◌, length, get_or, All, None, refl, sym, ◌∙◌, ap, subst, arith, length-append}
use Rattle.std.specs.List.{sum_by}
use Rattle.std.proofs.Math.ListN.{set}
use Rattle.std.proofs.lemmas.Bool.Decides.{nat_tests}
use Rattle.std.proofs.lemmas.List.{length-set, get_or-set_same}
use Rattle.std.proofs.lemmas.List.Elements.{All-set, All-get_or, All-cons}
use Rattle.std.proofs.lemmas.List.Sums.{sum_by-cons}
use Rattle.wbt_replay_order.proofs.Common.{Book, bits_after, put, StepEntry, page_after, new_writer, wrote_page, wrote_writer, CpuLocal, Writer, MOST_COUNT, Trace, writer_in, writer_of, do_next, logged, owed_to, State, cpu_of, task_of, with_task, no_task, no_cpu, context_of, group_of, without_page, passed_page, pause_in, counted_page, counted_local, dirty_fresh, dirty_page, dirty_next, Cpu, ReplayTask, Whose, ReplayWork, Facts, IsTaskOn, silent_ticks, rests_of, rest_of, IsTask, WorkFits, WriterFits, AreDirtied, dirtied_of, dirtied_by, leaks_of, rests_at_end, Agrees, WritesNext}
use Rattle.wbt_book.specs.declared.event.Event.TheVariants as event
use Rattle.wbt_grant.specs.declared.who.StepKind.TheVariants as kind
use Rattle.wbt_journal.specs.declared.entry.Entry.TheVariants as entry
use Rattle.wbt_task.specs.Allowance.{limit_after, moved_at, allowance_of}
use Rattle.wbt_task.specs.declared.allowance.Due.TheVariants as due
use Rattle.wbt_replay_moves.specs.declared.state.Whose.TheVariants as whose
use Rattle.wbt_replay_moves.specs.declared.state.ReplayWork.TheVariants as work
use Rattle.wbt_replay_moves.specs.declared.todo.Step.TheVariants as step
use Rattle.wbt_replay_moves.specs.declared.todo.Todo.TheVariants as todo
use Rattle.wbt_replay_order.specs.Kept.Sound.{IsWriteOf}
use Rattle.wbt_replay_order.proofs.Facts.Lists.{either, twice}
use Rattle.wbt_replay_order.proofs.Facts.Paces.{since_fits, pause_more}
use Rattle.wbt_replay_ranges.proofs.Sound.Checks.{task_closed}
use Rattle.wbt_replay_ranges.proofs.Sound.Counters.{ReadyToWrite, write_ticks, with_step, plain_entry}
use Rattle.wbt_replay_ranges.proofs.Sound.Flights.{group_inside, global_inside}
use Rattle.wbt_replay_ranges.proofs.Sound.FlusherTurn.{turn_task, turn_task_sum}
use Rattle.wbt_replay_ranges.proofs.Sound.Frames.{cpu_going}
use Rattle.wbt_replay_ranges.proofs.Sound.Going.{spare_going}
use Rattle.wbt_replay_order.proofs.Lists.Numbered.{set_all, sum_set, sum_part, all_rest}
use Rattle.wbt_replay_ranges.proofs.Sound.Own.{Free, Done, push, done_free, logged_going, logged_free, logged_whose, local_free, is_set, changed, changed_cpu, changed_agreed}
use Rattle.wbt_replay_ranges.proofs.Sound.Owed.{owed_done}
use Rattle.wbt_replay_ranges.proofs.Sound.Things.{event_going}

-- ---- the rest of a write

rest_fits : (trace : Trace) (task inode page pages : ℕ) (works : List ReplayWork) → IsWriteOf trace task inode page pages → All (WorkFits trace task) works → All (WorkFits trace task) (without_page inode page pages works)
rest_fits trace task inode page pages works h all = cut (eqb pages 1) (λ e. grind (arith, nat_tests))
  where
    cut : (b : Bool) → (b ≡ false → pages ≢ 1) → All (WorkFits trace task) (cond b works (work.Write inode (page + 1) (pages - 1) ∷ works))
    cut true f = all
    cut false f = All-cons (WorkFits trace task) (work.Write inode (page + 1) (pages - 1)) works (more (f refl)) all
      where
        more : pages ≢ 1 → IsWriteOf trace task inode (page + 1) (pages - 1)
        more n = record {
          some = omega (arith, h.some, n);
          first = record { there = h.first.there; after_first = omega (arith, h.first.after_first); before_end = omega (arith, h.last.before_end, h.some, n) };
          last = record { there = h.first.there; after_first = omega (arith, h.first.after_first); before_end = omega (arith, h.last.before_end, h.some, n) };
          writer = h.writer;
        }

rest_rests : (inode page pages : ℕ) (works : List ReplayWork) → sum_by rest_of (without_page inode page pages works) ≤ sum_by rest_of (work.Write inode page pages ∷ works)
rest_rests inode page pages works = cut (eqb pages 1)
  where
    cut : (b : Bool) → sum_by rest_of (cond b works (work.Write inode (page + 1) (pages - 1) ∷ works)) ≤ sum_by rest_of (work.Write inode page pages ∷ works)
    cut true = let e = sum_by-cons rest_of (work.Write inode page pages) works in omega (arith, e)
    cut false = let e = sum_by-cons rest_of (work.Write inode page pages) works in let f = sum_by-cons rest_of (work.Write inode (page + 1) (pages - 1)) works in omega (arith, e, f)

-- what is left ends as it did
last_page : (inode page pages : ℕ) (works : List ReplayWork) → rests_at_end false works ≡ false → rests_at_end false (without_page inode page pages works) ≡ false
last_page inode page pages works is = cut (eqb pages 1)
  where
    cut : (b : Bool) → rests_at_end false (cond b works (work.Write inode (page + 1) (pages - 1) ∷ works)) ≡ false
    cut true = is
    cut false = is

-- ---- a fresh page is counted

page_moved : (ratelimit_pages : ℕ) (local : CpuLocal) (w : Writer) → (moved : ℕ) × (moved ≤ local.leaks) × ((wrote_page ratelimit_pages local w).task.nr_dirtied ≡ w.task.nr_dirtied + 1 + moved)
    × ((wrote_page ratelimit_pages local w).local.leaks + moved ≡ local.leaks)
unfolding page_after
page_moved ratelimit_pages local w =
    let limit : ℕ = limit_after (w.task.nr_dirtied + 1) (local.since_check + 1) (allowance_of w.task w.exceeded) ratelimit_pages in
    let moved : ℕ = moved_at local.leaks (w.task.nr_dirtied + 1) limit in
    (moved, omega arith, refl, omega arith)

page_since : (ratelimit_pages : ℕ) (local : CpuLocal) (w : Writer) → (wrote_page ratelimit_pages local w).local.since_check ≤ local.since_check + 1
unfolding page_after
page_since ratelimit_pages local w = cut (leb (allowance_of w.task w.exceeded) (w.task.nr_dirtied + 1) || leb ratelimit_pages (local.since_check + 1))
  where
    cut : (b : Bool) → cond b 0 (local.since_check + 1) ≤ local.since_check + 1
    cut true = omega arith
    cut false = omega arith

page_pause : (ratelimit_pages : ℕ) (local : CpuLocal) (w : Writer) → (wrote_page ratelimit_pages local w).task.nr_dirtied_pause ≡ w.task.nr_dirtied_pause
unfolding page_after
page_pause ratelimit_pages local w = refl

page_left : (ratelimit_pages : ℕ) (local : CpuLocal) (w : Writer) → (wrote_page ratelimit_pages local w).due ≡ due.No → 1 ≤ w.left - 1
unfolding page_after
page_left ratelimit_pages local w = cut _ (eqb (w.left - 1) 0) (λ e. grind (arith, nat_tests))
  where
    cut : (a b : Bool) → (b ≡ false → w.left - 1 ≢ 0) → cond (a || b) due.Check due.No ≡ due.No → 1 ≤ w.left - 1
    cut true b f e = absurd (cc e)
    cut false true f e = absurd (cc e)
    cut false false f e = let n = f refl in omega (arith, n)

module _ (trace : Trace) (facts : Facts trace) (i : ℕ) (less : i < trace.cpus) (k : ℕ) (s : State) (on : IsTaskOn trace i k) (turn : (cpu_of i s).turn.whose ≡ whose.Task k) where
  module _ (inode page pages : ℕ) (more : List ReplayWork) (is : (task_of k s).works ≡ work.Write inode page pages ∷ more) (going_on : pause_in (task_of k s) ≡ None) where
    not_ended : (n : ℕ) → IsTask trace n k (task_of k s) → (task_of k s).ended ≡ false
    not_ended n h = by_end (task_of k s).ended refl
      where
        by_end : (b : Bool) → (task_of k s).ended ≡ b → (task_of k s).ended ≡ false
        by_end true e = let none = sym is ∙ h.ended e in absurd (cc none)
        by_end false e = e

    without_fits : (n : ℕ) → IsTask trace n k (task_of k s) → IsTask trace n k (passed_page inode page pages more (task_of k s))
    without_fits n h =
        let parts = all_rest (WorkFits trace k) (task_of k s).works (work.Write inode page pages) more is h.works in
        record {
          works = rest_fits trace k inode page pages more parts.0 parts.1;
          context = h.context;
          writers = h.writers;
          fit = h.fit;
          due = h.due;
          ended = λ e. let none = sym is ∙ h.ended e in absurd (cc none);
          last = λ e. last_page inode page pages more (sym (ap (rests_at_end false) is) ∙ h.last e);
          pace = h.pace;
          since = since_fits (task_of k s).pace (task_of k s).since going_on;
        }

    rests_less : (n : ℕ) → IsTask trace n k (task_of k s) → rests_of (passed_page inode page pages more (task_of k s)) ≤ rests_of (task_of k s) + MOST_COUNT
    rests_less n h =
        let l = rest_rests inode page pages more in
        let e : sum_by rest_of (task_of k s).works ≡ sum_by rest_of (work.Write inode page pages ∷ more) = ap (sum_by rest_of) is in
        let pause = pause_more (task_of k s).pace (task_of k s).since h.pace in
        omega (arith, l, e, pause)

    -- ---- a page that is dirty already

    again_done : ReadyToWrite trace i s → Free trace i 2 s → Done trace i (with_step (plain_entry i kind.Dirty)
        (record s { tasks = set s.tasks k (passed_page inode page pages more (task_of k s)); cpus = set s.cpus i (record (cpu_of i s) { entries = (cpu_of i s).entries ++ entry.Write k page false ∷ [] }) }))
    again_done ready free =
        let x : State = with_step (plain_entry i kind.Dirty) s in
        let g = ready (plain_entry i kind.Dirty) in
        let y : ReplayTask = passed_page inode page pages more (task_of k s) in
        let m = turn_task trace facts i less k y 1 0 write_ticks silent_ticks 0 x on turn g (record { whose = free.whose; fits = free.fits; room = free.room })
        (without_fits (length x.steps) (g.holds.tasks.each k on.there)) refl (omega arith) (omega arith) (omega arith)
        (let rests = rests_less (length x.steps) (g.holds.tasks.each k on.there) in omega (arith, rests)) in
        let z : State = record x { tasks = set x.tasks k y } in
        let es = (cpu_of i s).entries ++ entry.Write k page false ∷ [] in
        let g2 = spare_going trace i 0 0 silent_ticks 0 z (omega arith) (omega arith) m.going in
        let logged = logged_going trace facts i less es (cpu_of i s).checks (cpu_of i s).estimates 0 0 z g2 in
        let lfree = logged_free trace facts i less es (cpu_of i s).checks (cpu_of i s).estimates 2 0 0 z g2 m.free in
        let v : State = record z { cpus = set z.cpus i (record (cpu_of i s) { entries = es }) } in
        let turn2 = ◌∙◌ {a = (cpu_of i v).turn.whose} (logged_whose trace facts i less es (cpu_of i s).checks (cpu_of i s).estimates 0 0 z g2) turn in
        done_free trace i 2 v logged (task_closed trace facts i less k v turn2) lfree

    -- ---- a fresh page

    module _ (not_due : (writer_of (task_of k s)).due ≡ due.No) where
      counted_fits : (n m : ℕ) → m ≡ n + 1 → inode < length trace.inodes → IsTask trace m k (task_of k s) → AreDirtied m 1 s.tasks s.cpus → k < length s.tasks → i < length s.cpus
          → IsTask trace m k (counted_page s.ratelimit_pages (context_of trace inode) (cpu_of i s).local (passed_page inode page pages more (task_of k s)))
      counted_fits n m one inside h dirtied there at =
          let t : ReplayTask = task_of k s in
          let context : ℕ = context_of trace inode in
          let local : CpuLocal = (cpu_of i s).local in
          let w : Writer = writer_in context t in
          let less' = facts.inode_context inode inside in
          let has : context < length t.writers = omega (arith, less', h.writers) in
          let old : WriterFits trace m w = All-get_or (WriterFits trace m) t.writers context (new_writer 0) has h.fit in
          let p = wrote_page s.ratelimit_pages local w in
          let moved = page_moved s.ratelimit_pages local w in
          let ended = not_ended m h in
          let part = sum_part dirtied_by t.writers context (new_writer 0) has in
          let whole : dirtied_of t ≡ sum_by dirtied_by t.writers = ap (λ (b : Bool). cond b 0 (sum_by dirtied_by t.writers)) ended in
          let all = sum_part dirtied_of s.tasks k no_task there in
          let leaks = sum_part leaks_of s.cpus i no_cpu at in
          let base = without_fits m h in
          record {
            works = base.works;
            context = λ _. less';
            writers = length-set t.writers context (wrote_writer p w) ∙ h.writers;
            fit = All-set (WriterFits trace m) t.writers context (wrote_writer p w)
                (record {
                  dirtied = omega (arith, moved.1, moved.2, part, whole, all, leaks, dirtied);
                  allowance = let e = page_pause s.ratelimit_pages local w in omega (arith, e, old.allowance);
                  left = omega (arith, old.left);
                  some_left = page_left s.ratelimit_pages local w;
                }) h.fit;
            due = set_all (λ j (v : Writer). v.due ≡ due.Check → j ≡ context) t.writers context (wrote_writer p w) (new_writer 0) (λ e. refl) (λ j e. absurd (no_due j e (h.due j e)));
            ended = base.ended;
            last = base.last;
            pace = base.pace;
            since = base.since;
          }
        where
          no_due : (j : ℕ) → (writer_in j (task_of k s)).due ≡ due.Check → j ≡ (task_of k s).context → ⊥
          no_due j e same = let d : (writer_of (task_of k s)).due ≡ due.Check = subst (λ (n : ℕ). (writer_in n (task_of k s)).due ≡ due.Check) same e in let f : due.No ≡ due.Check = sym not_due ∙ d in absurd (cc f)

      fresh_done : ReadyToWrite trace i s → Free trace i 2 s → (cpu_of i s).local.since_check ≤ length s.steps
          → Done trace i (dirty_fresh trace i k inode page (with_task k (passed_page inode page pages more (task_of k s)) s))
      fresh_done ready free since =
          let t : ReplayTask = task_of k s in
          let context : ℕ = context_of trace inode in
          let x : StepEntry = record { who = i; kind = kind.Dirty; context = context; change = pos 1; domain = 0; peak = 0 } in
          let book : Book = put s.book page (bits_after (event.Dirty page) (s.book page)) in
          let s1 : State = record (with_step x s) { book = book } in
          let m : ℕ = length (with_step x s).steps in
          let one : m ≡ length s.steps + 1 = length-append s.steps (x ∷ []) in
          let g = event_going trace i 1 write_ticks book (with_step x s) (ready x) in
          let h = g.holds.tasks.each k on.there in
          let there : k < length s.tasks = omega (arith, on.there, g.holds.tasks.many) in
          let at : i < length s.cpus = omega (arith, less, g.holds.cpus.many) in
          let c : Cpu = cpu_of i s in
          let w : Writer = writer_in context t in
          let local : CpuLocal = (wrote_page s.ratelimit_pages c.local w).local in
          let es = c.entries ++ entry.Write k page true ∷ [] in
          let c1 : Cpu = record c { local = local; entries = es } in
          let hc = g.holds.cpus.each i less in
          let moved = page_moved s.ratelimit_pages c.local w in
          let counted = page_since s.ratelimit_pages c.local w in
          let g2 = cpu_going trace facts i less (changed c c.turn c.todo local c.own_domains c.own_contexts es c.checks c.estimates c.made) 1 1 write_ticks write_ticks s1 g
          (changed_cpu trace facts i less m s.now c c.turn c.todo local c.own_domains c.own_contexts es c.checks c.estimates c.made hc hc.turn hc.whose hc.todo hc.in_order refl refl (omega (arith, counted, since, one)) hc.made)
          (changed_agreed trace facts i less s1 c c.turn c.todo local c.own_domains c.own_contexts es c.checks c.estimates c.made (g.holds.agreed i less) refl (g.holds.agreed i less).items)
          refl (omega (arith, moved.3)) (omega arith) (omega arith) in
          let s2 : State = record s1 { cpus = set s.cpus i c1 } in
          let free2 = local_free trace facts i less local es 2 1 write_ticks s1 g (record { whose = free.whose; fits = free.fits; room = free.room }) in
          let turn2 : (cpu_of i s2).turn.whose ≡ whose.Task k = ap (λ (d : Cpu). d.turn.whose) (is_set trace facts i less c1 1 write_ticks s1 g) ∙ turn in
          let parts = all_rest (WorkFits trace k) t.works (work.Write inode page pages) more is h.works in
          let inside = parts.0.first.there in
          let y : ReplayTask = counted_page s.ratelimit_pages context c.local (passed_page inode page pages more t) in
          let m2 = turn_task_sum trace facts i less k y 1 0 write_ticks silent_ticks 0 s2 on turn2 g2 free2
          (counted_fits (length s.steps) m one inside h g.holds.dirtied there at) refl
          (sums_fit m h g.holds.dirtied inside there at) (omega arith) (omega arith) (let rests = rests_less m h in omega (arith, rests)) in
          let s3 : State = record s2 { tasks = set s.tasks k y } in
          let done = owed_done trace facts i less (pos 1) context (group_of trace context) (todo.Step (step.Mark inode)) 0 silent_ticks 2 s3 refl (facts.inode_context inode inside)
          (group_inside trace facts context (facts.inode_context inode inside)) (global_inside trace) m2.going m2.free
          (push trace s3.tasks s3.flushers (cpu_of i s3).turn.whose 2 0 (todo.Step (step.Mark inode)) (cpu_of i s3).todo m2.free.fits inside
          (subst (λ (v : Whose). Agrees trace s3.tasks s3.flushers v (todo.Step (step.Mark inode))) (sym turn2) tt) refl (omega arith) (omega arith) (omega arith))
          (λ f on' e none. let other : whose.Task k ≡ whose.Flusher f = sym turn2 ∙ e in absurd (cc other)) in
          let t1 : ReplayTask = passed_page inode page pages more t in
          let w1 : State = with_task k t1 s in
          let r : State = dirty_fresh trace i k inode page w1 in
          let write : Cpu → Cpu = λ d. logged (entry.Write k page true) d in
          let then : Cpu → Cpu = λ d. do_next (owed_to (pos 1) context (group_of trace context) (todo.Step (step.Mark inode))) d in
          let counted_as : ReplayTask → Cpu = λ v. record c { local = counted_local s.ratelimit_pages context c.local v } in
          let ends : List Cpu → List Cpu = λ l. set l i (then (get_or l i no_cpu)) in
          let logs : List Cpu → List Cpu = λ l. set l i (write (get_or l i no_cpu)) in
          let tasks_are : r.tasks ≡ set s.tasks k y = twice (counted_page s.ratelimit_pages context c.local) s.tasks k t1 no_task there in
          let cpus_are : r.cpus ≡ ends (set s.cpus i c1) =
          ap (λ (v : ReplayTask). ends (logs (set s.cpus i (counted_as v)))) (get_or-set_same s.tasks k t1 no_task there)
          ∙ ap ends (twice write s.cpus i (counted_as t1) no_cpu at) in
          subst (λ (ts : List ReplayTask). Done trace i (record s1 { tasks = ts; cpus = r.cpus })) (sym tasks_are)
          (subst (λ (cs : List Cpu). Done trace i (record s1 { tasks = set s.tasks k y; cpus = cs })) (sym cpus_are) done)
        where
          sums_fit : (m : ℕ) → IsTask trace m k (task_of k s) → AreDirtied m 1 s.tasks s.cpus → inode < length trace.inodes → k < length s.tasks → i < length s.cpus
              → AreDirtied m 0 (set s.tasks k (counted_page s.ratelimit_pages (context_of trace inode) (cpu_of i s).local (passed_page inode page pages more (task_of k s))))
              (set s.cpus i (record (cpu_of i s) { local = (wrote_page s.ratelimit_pages (cpu_of i s).local (writer_in (context_of trace inode) (task_of k s))).local; entries = (cpu_of i s).entries ++ entry.Write k page true ∷ [] }))
          sums_fit m h dirtied inside there at =
              let t : ReplayTask = task_of k s in
              let c : Cpu = cpu_of i s in
              let context : ℕ = context_of trace inode in
              let w : Writer = writer_in context t in
              let p = wrote_page s.ratelimit_pages c.local w in
              let moved = page_moved s.ratelimit_pages c.local w in
              let y : ReplayTask = counted_page s.ratelimit_pages context c.local (passed_page inode page pages more t) in
              let c1 : Cpu = record c { local = p.local; entries = c.entries ++ entry.Write k page true ∷ [] } in
              let tasks = sum_set dirtied_of s.tasks k y no_task there in
              let cpus = sum_set leaks_of s.cpus i c1 no_cpu at in
              let writers = sum_set dirtied_by t.writers context (wrote_writer p w) (new_writer 0) (omega (arith, facts.inode_context inode inside, h.writers)) in
              let ended = not_ended m h in
              let whole : dirtied_of t ≡ sum_by dirtied_by t.writers = ap (λ (b : Bool). cond b 0 (sum_by dirtied_by t.writers)) ended in
              let whole' : dirtied_of y ≡ sum_by dirtied_by (set t.writers context (wrote_writer p w)) = ap (λ (b : Bool). cond b 0 (sum_by dirtied_by (set t.writers context (wrote_writer p w)))) ended in
              omega (arith, dirtied, tasks, cpus, writers, whole, whole', moved.2, moved.3)

      -- ---- either

      page_done : ReadyToWrite trace i s → Free trace i 2 s → (cpu_of i s).local.since_check ≤ length s.steps → Done trace i (dirty_page trace i k inode page (with_task k (passed_page inode page pages more (task_of k s)) s))
      page_done ready free since = either (Done trace i) (s.book page).dirty
          (with_step (plain_entry i kind.Dirty) (record s { tasks = set s.tasks k (passed_page inode page pages more (task_of k s)); cpus = set s.cpus i (record (cpu_of i s) { entries = (cpu_of i s).entries ++ entry.Write k page false ∷ [] }) }))
          (dirty_fresh trace i k inode page (with_task k (passed_page inode page pages more (task_of k s)) s))
          (λ dirty. again_done ready free)
          (λ clean. fresh_done ready free since)

  pub write_at : (works : List ReplayWork) → (task_of k s).works ≡ works → WritesNext works → (writer_of (task_of k s)).due ≡ due.No → pause_in (task_of k s) ≡ None → ReadyToWrite trace i s → Free trace i 2 s → (cpu_of i s).local.since_check ≤ length s.steps
      → Done trace i (dirty_next trace i k works s)
  write_at [] e h not_due going_on ready free since = absurd h
  write_at (work.Rest ticks ∷ more) e h not_due going_on ready free since = absurd h
  write_at (work.Write inode page pages ∷ more) e h not_due going_on ready free since = page_done inode page pages more e going_on not_due ready free since
