-- Each move of a run keeps it that a check stands wherever one is due, and nowhere else, and decides as is due.
use Rattle.std.proofs.Common.{inl, inr, ◌≡◌, ◌≢◌, ℕ, zero, suc, ◌<◌, Bool, true, false, cond, eqb, pos, List, [], ◌∷◌, ◌++◌, length, map, flat_map, get_or, Option, Some, None, refl, sym, ◌∙◌, ap, subst, arith, eq-eqb, ne_eqb, true≢false}
use Rattle.std.specs.List.{fold, list_any}
use Rattle.std.proofs.Math.ListN.{set}
use Rattle.std.proofs.lemmas.Bool.{cases_Bool, cond-true, cond-false}
use Rattle.std.proofs.lemmas.List.{append-nil, get_or-set_same, get_or-set_other, length-set, set-set}
use mathlib.Core.Logic.{dite}
use native.Mathlib.Decide.{ℕ_discrete}
use Rattle.wbt_replay_order.proofs.Common.{Estimate, after_period, Half, Decision, first_estimate, context_of, group_of, new_writer, wrote_page, wrote_writer, checked_writer, CpuLocal, Writer, Trace, nth_estimate, DecidesBy, estimates_of, tells, page_context, ratelimit_pages, rests_last, item, ends, Side, check_by, end_task, is_own_task, settle, with_page, write_fresh, Told, InOrder, told, Along, CheckEntry, Entry, EstEntry, Walked, writer_of, cgroup_line, decision_at, check_of, told_task, decide_for, do_next, at_turn, logged, log_at, checked, owed_to, make_timer_step, make_timer_move, State, no_cpu, no_task, cpu_of, with_cpu, task_of, with_task, domain_of, writeback_of, plain_step, with_timer, is_time, periods, period_to, passed_page, counted_page, counted_local, dirty_fresh, leaked, end_now, Actor, Cpu, ReplayTask, ReplayTurn, ReplayWork, Stretch, Whose, TimerSilent, TimerStep, TimerTodo, Todo, opening_moment, advance, Facts, IsPageOf, Sound, is_end}
use Rattle.wbt_grant.specs.declared.who.StepKind.TheVariants as kind
use Rattle.wbt_task.specs.declared.allowance.Due.TheVariants as due
use Rattle.wbt_journal.specs.Checks.{DecidesAs, Stands, domains_read, task_numbers}
use Rattle.wbt_journal.specs.Lawful.{items_among}
use Rattle.wbt_journal.specs.Side.{Event, write_page}
use Rattle.wbt_journal.specs.Told.{wrote as wrote_told, checked as check_told}
use Rattle.wbt_journal.specs.declared.entry.Entry.TheVariants as entry
use Rattle.wbt_replay_moves.specs.declared.state.ReplayWork.TheVariants as work
use Rattle.wbt_replay_moves.specs.declared.state.Whose.TheVariants as whose
use Rattle.wbt_replay_moves.specs.declared.todo.Silent.TheVariants as silent
use Rattle.wbt_replay_moves.specs.declared.todo.Step.TheVariants as step
use Rattle.wbt_replay_moves.specs.declared.todo.TimerSilent.TheVariants as timer_silent
use Rattle.wbt_replay_moves.specs.declared.todo.TimerStep.TheVariants as timer_step
use Rattle.wbt_replay_moves.specs.declared.todo.Todo.TheVariants as todo
use Rattle.wbt_replay_order.proofs.Growth.Quiet.{same_at}
use Rattle.wbt_replay_order.proofs.Facts.Lists.{either, twice}
use Rattle.wbt_replay_order.proofs.Lists.Places.{thrice}
use Rattle.wbt_replay_points.proofs.Lawful.Estimated as estimated
use Rattle.wbt_replay_points.proofs.Lawful.Estimated.{HasEstimates}
use Rattle.wbt_replay_points.proofs.Lawful.Estimating.{AreEstimated, publisher}
use Rattle.wbt_replay_points.proofs.Lawful.Items.{steps_seen, moves_seen, see_turn}
use Rattle.wbt_replay_points.proofs.Lawful.Logs.{own_task, IsInOrder, told_logged, told_checked}
use Rattle.wbt_replay_points.proofs.Lawful.Leaving.{over_step, over_move}
use Rattle.wbt_replay_points.proofs.Lawful.Now.{Takes, HasMore, WritesNow, DecidesNow, EndsNow}
use Rattle.wbt_replay_points.proofs.Lawful.Same.{told_of, told_same, task_view, EndsLater, GoesOn, same_turn, untold_turn}
use Rattle.wbt_replay_points.proofs.Lawful.Sides.{DecidesAmong, goes, nth_more, leads_on, IsLonger, same_longer, views, among, HasSide, HasSides, alone_in, longer_then, sides_move, side_by}
use Rattle.wbt_replay_points.proofs.Lawful.Siding.{View, is_waiting}
use Rattle.wbt_replay_points.proofs.Lawful.Standing.{StandsAs, leaked_by, writes_quietly, known_stands, fresh_stands, checked_writer_is, check_is_due, check_stands, end_stands, may_end, rest_stands}
use Rattle.wbt_replay_order.proofs.Walk.{turned}
use Rattle.wbt_replay_points.proofs.Lawful.Walk.{advance_seen, starts_of}
use Rattle.wbt_replay_order.proofs.Lists.Numbered.{is_there}
use Rattle.wbt_replay_order.proofs.Written.Dirtying.{pages_before}
use Rattle.wbt_replay_order.proofs.Written.Same.{pages_of, to_write}
use Rattle.wbt_replay_points.proofs.Lawful.Entering.{Goes, hide, thens, as_is, folds, claims, flies_off, owed_untold, completes, shares, estimates, lists}
use Rattle.wbt_replay_points.proofs.Lawful.Waits.{goes_on_task, nothing_tells, last_named}

no_due : (new_writer 0).due ≡ due.Check → ⊥
unfolding new_writer
no_due is = cc is

module _ (trace : Trace) (facts : Facts trace) (pages_there : (inode page : ℕ) → IsPageOf trace inode page → page_context trace page ≡ Some (context_of trace inode)) where
  -- ---- a task's turn

  turned_to : (cpu : ℕ) (w : Whose) (s : State) → (cpu_of cpu s).todo ≡ [] → Goes trace s (with_cpu cpu (at_turn w s.now (cpu_of cpu s)) s)
  turned_to cpu w s none h =
      let d : Cpu = at_turn w s.now (cpu_of cpu s) in
      let u : State = with_cpu cpu d s in
      let told : (i : ℕ) → told_of (cpu_of i u) ≡ told_of (cpu_of i s) = same_at told_of s.cpus cpu d no_cpu refl in
      let local : (i : ℕ) → (cpu_of i u).local ≡ (cpu_of i s).local = same_at (λ (c : Cpu). c.local) s.cpus cpu d no_cpu refl in
      let list : (i : ℕ) → (cpu_of i u).todo ≡ (cpu_of i s).todo = same_at (λ (c : Cpu). c.todo) s.cpus cpu d no_cpu refl in (
        estimated.quietly trace facts cpu d s refl h.0,
        record {
          rate = h.1.rate;
          each = λ i less.
              let own = h.1.each i less in
              record {
                side = own.side;
                stands = subst (λ (l : CpuLocal). StandsAs trace i l (views s) own.side) (sym (local i)) own.stands;
                leads = leads_on trace i (among trace s) (among trace u) (told_of (cpu_of i s)) [] (told_of (cpu_of i u)) own.side own.side []
                    (λ k. same_longer (among trace s k) (among trace u k) (ap (estimates_of k) (told (publisher trace k)))) (told i ∙ sym (append-nil (told_of (cpu_of i s)))) refl tt (record { allowed = tt; reached = refl }) own.leads;
                turn = λ t mine waits. dite (ℕ_discrete i cpu)
                    (λ same. absurd (true≢false (sym (own.turn t mine waits).1 ∙ ap (λ (n : ℕ). list_any is_end (cpu_of n s).todo) same ∙ ap (list_any is_end) none)))
                    (λ other.
                    let is : cpu_of i u ≡ cpu_of i s = get_or-set_other s.cpus cpu i d no_cpu other in
                    let was = own.turn t mine waits in
                    (ap (λ (c : Cpu). c.turn.whose) is ∙ was.0, ap (λ (c : Cpu). list_any is_end c.todo) is ∙ was.1));
                later = subst EndsLater (sym (list i)) own.later;
              };
        },
      )

  -- the first item of a task's turn was taken, and the CPU and the task change
  module _ (cpu task : ℕ) (x : Todo) (c : Cpu) (s u : State) (its : Takes trace cpu task x c s) (h : HasSides trace s) (d : Cpu) (cpus : u.cpus ≡ set s.cpus cpu d) (rate : u.ratelimit_pages ≡ s.ratelimit_pages)
      (goes_on : GoesOn c d) (others : (t : ℕ) → t ≢ task → views u t ≡ views s t) where
    mine : is_own_task trace cpu task ≡ true
    mine = own_task trace cpu task its.on

    less : cpu < trace.cpus
    less = subst (λ (n : ℕ). n < trace.cpus) its.on.cpu_is (facts.task_cpu_is task its.on.there)

    own : HasSide trace cpu s
    own = h.each cpu less

    alone : (t : ℕ) → is_own_task trace cpu t ≡ true → t ≢ task → is_waiting trace t (views s t) ≡ false
    alone = alone_in trace cpu task s own its.turn

    here : cpu_of cpu u ≡ d
    here = ap (λ (l : List Cpu). get_or l cpu no_cpu) cpus ∙ get_or-set_same s.cpus cpu d no_cpu its.there

    behind : EndsLater (x ∷ c.todo)
    behind = subst EndsLater its.list own.later

    acts : (added : List Told) (events : List Event) (side : Side) → told_of d ≡ told_of c ++ added → items_among events ≡ map (tells cpu) added
        → (((k : ℕ) → IsLonger (among trace s k) (among trace u k)) → Along (DecidesAmong trace (among trace u)) (goes trace) own.side events) → Walked (Stands trace) (goes trace) own.side events side
        → StandsAs trace cpu d.local (views u) side → (is_waiting trace task (views u task) ≡ true → list_any is_end c.todo ≡ true) → HasSides trace u
    acts added events side told are decide walked stands still_ends =
        let told_here : told_of (cpu_of cpu u) ≡ told_of (cpu_of cpu s) ++ added =
        ap told_of here ∙ told ∙ ap (λ (l : List Told). l ++ added) (told_same c (cpu_of cpu s) its.told) in
        let elsewhere : (i : ℕ) → i ≢ cpu → cpu_of i u ≡ cpu_of i s = λ i other. ap (λ (l : List Cpu). get_or l i no_cpu) cpus ∙ get_or-set_other s.cpus cpu i d no_cpu other in
        sides_move trace s u rate cpu added told_here elsewhere
        (λ t theirs. others t (λ same. true≢false (sym (ap (is_own_task trace cpu) same ∙ mine) ∙ theirs)))
        (λ had. side_by trace s u rate cpu added told_here elsewhere own side events are (decide (longer_then trace s u rate cpu added told_here elsewhere)) walked
        (subst (λ (l : CpuLocal). StandsAs trace cpu l (views u) side) (sym (ap (λ (y : Cpu). y.local) here)) stands)
        (λ t theirs waits. dite (ℕ_discrete t task)
        (λ same. (
          ap (λ (y : Cpu). y.turn.whose) here ∙ goes_on.whose ∙ its.whose ∙ its.turn ∙ ap whose.Task (sym same),
          ap (λ (y : Cpu). list_any is_end y.todo) here ∙ goes_on.ends (still_ends (ap (λ (n : ℕ). is_waiting trace n (views u n)) (sym same) ∙ waits)),
        ))
        (λ other. absurd (true≢false (sym waits ∙ ap (is_waiting trace t) (others t other) ∙ alone t theirs other))))
        (subst EndsLater (sym (ap (λ (y : Cpu). y.todo) here)) (goes_on.later behind.1))) h

  -- the CPU where the first item was taken
  module _ (cpu task : ℕ) (x : Todo) (c : Cpu) (s : State) (its : Takes trace cpu task x c s) where
    abbrev v : State
    v = with_cpu cpu c s

    taken_here : cpu_of cpu v ≡ c
    taken_here = get_or-set_same s.cpus cpu c no_cpu its.there

    taken_there : cpu < length v.cpus
    taken_there = omega (arith, its.there, length-set s.cpus cpu c)

    est_taken : HasEstimates trace s → HasEstimates trace v
    est_taken h = estimated.quietly trace facts cpu c s its.told h

    task_mine : is_own_task trace cpu task ≡ true
    task_mine = own_task trace cpu task its.on

  -- a write's entry makes this of the side
  write_side : (cpu task page k : ℕ) (is_fresh : Bool) (s : Side) → is_own_task trace cpu task ≡ true → page_context trace page ≡ Some k
      → goes trace s (item (tells cpu (wrote_told task page is_fresh))) ≡ write_page trace opening_moment task (Some k) is_fresh s
  write_side cpu task page k is_fresh s mine is =
      cond-true (is_own_task trace cpu task) (write_page trace opening_moment task (page_context trace page) is_fresh s) s mine
      ∙ ap (λ (which : Option ℕ). write_page trace opening_moment task which is_fresh s) is

  written_there : (task : ℕ) (s : State) (w : ReplayWork) (works : List ReplayWork) → (task_of task s).works ≡ w ∷ works → task < length s.tasks
  written_there task s w works is = is_there s.tasks task no_task (λ e. absurd (cc (sym is ∙ ap (λ (t : ReplayTask). t.works) e)))

  knowns : (cpu task inode page pages : ℕ) (works : List ReplayWork) (c : Cpu) (s : State) → Takes trace cpu task (todo.Step step.Dirty) c s → WritesNow trace cpu task inode page pages works (with_cpu cpu c s)
      → Goes trace s (plain_step cpu kind.Dirty (log_at cpu (entry.Write task page false) (with_task task (passed_page inode page pages works (task_of task s)) (with_cpu cpu c s))))
  knowns cpu task inode page pages works c s its now h =
      let e : Entry = entry.Write task page false in
      let k : ℕ = context_of trace inode in
      let y : ReplayTask = passed_page inode page pages works (task_of task s) in
      let u : State = plain_step cpu kind.Dirty (log_at cpu e (with_task task y (with_cpu cpu c s))) in
      let d : Cpu = logged e c in
      let cpus : u.cpus ≡ set s.cpus cpu d = twice (logged e) s.cpus cpu c no_cpu its.there in
      let there : task < length s.tasks = written_there task s (work.Write inode page pages) works now.works_are in
      let others : (t : ℕ) → t ≢ task → views u t ≡ views s t = λ t other. ap task_view (get_or-set_other s.tasks task t y no_task other) in
      let is : views u task ≡ (to_write y, (task_of task s).writers, (task_of task s).context, (task_of task s).ended) = ap task_view (get_or-set_same s.tasks task y no_task there) in
      let same : GoesOn c d = same_turn c d refl refl in
      let its_own = own cpu task (todo.Step step.Dirty) c s u its h.1 d cpus refl same others in
      let by_itself = alone cpu task (todo.Step step.Dirty) c s u its h.1 d cpus refl same others in
      let mine : is_own_task trace cpu task ≡ true = own_task trace cpu task its.on in
      let ahead : to_write (task_of task s) ≡ page ∷ to_write y = ap (λ (ws : List ReplayWork). flat_map pages_of ws) now.works_are ∙ pages_before inode page pages works now.fits.some in
      let context : page_context trace page ≡ Some k = pages_there inode page now.fits.first in
      let side : Side = settle trace opening_moment task (with_page task its_own.side) in
      let stands : StandsAs trace cpu (cpu_of cpu s).local (views u) side =
      known_stands trace opening_moment cpu task mine (cpu_of cpu s).local (views s) its_own.side its_own.stands by_itself page (to_write y) ahead now.free (views u) others is in (
        estimated.knowns trace facts cpu task inode page pages works (with_cpu cpu c s) now (est_taken cpu task (todo.Step step.Dirty) c s its h.0),
        acts cpu task (todo.Step step.Dirty) c s u its h.1 d cpus refl same others (wrote_told task page false ∷ []) (item (tells cpu (wrote_told task page false)) ∷ []) side (told_logged e c) refl (λ longer. (tt, tt))
            (record {
              allowed = (record { write = λ judged. writes_quietly trace opening_moment cpu task mine (cpu_of cpu s).local (views s) its_own.side its_own.stands by_itself page (to_write y) ahead now.free; check = tt }, tt);
              reached = write_side cpu task page k false its_own.side mine context;
            })
            (subst (λ (l : CpuLocal). StandsAs trace cpu l (views u) side) (sym its.local) stands)
            (λ waits. (behind cpu task (todo.Step step.Dirty) c s u its h.1 d cpus refl same others).0 refl),
      )

  freshes : (cpu task inode page pages : ℕ) (works : List ReplayWork) (c : Cpu) (s : State) → Takes trace cpu task (todo.Step step.Dirty) c s → WritesNow trace cpu task inode page pages works (with_cpu cpu c s)
      → Goes trace s (dirty_fresh trace cpu task inode page (with_task task (passed_page inode page pages works (task_of task s)) (with_cpu cpu c s)))
  freshes cpu task inode page pages works c s its now h =
      let e : Entry = entry.Write task page true in
      let k : ℕ = context_of trace inode in
      let y : ReplayTask = passed_page inode page pages works (task_of task s) in
      let vs : State = with_cpu cpu c s in
      let w : State = with_task task y vs in
      let u : State = dirty_fresh trace cpu task inode page w in
      let items : List Todo = owed_to (pos 1) k (group_of trace k) (todo.Step (step.Mark inode)) in
      let there : task < length s.tasks = written_there task s (work.Write inode page pages) works now.works_are in
      let at_y : task_of task w ≡ y = get_or-set_same s.tasks task y no_task there in
      let at_c : cpu_of cpu vs ≡ c = taken_here cpu task (todo.Step step.Dirty) c s its in
      let counted : Cpu = record (cpu_of cpu vs) { local = counted_local s.ratelimit_pages k (cpu_of cpu vs).local (task_of task w) } in
      let d : Cpu = do_next items (logged e (record c { local = counted_local s.ratelimit_pages k c.local y })) in
      let cpus : u.cpus ≡ set s.cpus cpu d =
      thrice (logged e) (do_next items) vs.cpus cpu counted no_cpu (taken_there cpu task (todo.Step step.Dirty) c s its)
      ∙ set-set s.cpus cpu c (do_next items (logged e counted))
      ∙ (λ i. set s.cpus cpu (do_next items (logged e (record (at_c i) { local = counted_local s.ratelimit_pages k (at_c i).local (at_y i) })))) in
      let tasks : u.tasks ≡ set s.tasks task (counted_page s.ratelimit_pages k c.local y) =
      twice (counted_page s.ratelimit_pages k (cpu_of cpu vs).local) s.tasks task y no_task there ∙ (λ i. set s.tasks task (counted_page s.ratelimit_pages k (at_c i).local y)) in
      let others : (t : ℕ) → t ≢ task → views u t ≡ views s t =
      λ t other. ap (λ (l : List ReplayTask). task_view (get_or l t no_task)) tasks ∙ ap task_view (get_or-set_other s.tasks task t (counted_page s.ratelimit_pages k c.local y) no_task other) in
      let same : GoesOn c d = untold_turn items c d (owed_untold trace facts (pos 1) k (group_of trace k) (todo.Step (step.Mark inode)) refl) refl refl in
      let its_own = own cpu task (todo.Step step.Dirty) c s u its h.1 d cpus refl same others in
      let by_itself = alone cpu task (todo.Step step.Dirty) c s u its h.1 d cpus refl same others in
      let mine : is_own_task trace cpu task ≡ true = own_task trace cpu task its.on in
      let ahead : to_write (task_of task s) ≡ page ∷ to_write y = ap (λ (ws : List ReplayWork). flat_map pages_of ws) now.works_are ∙ pages_before inode page pages works now.fits.some in
      let context : page_context trace page ≡ Some k = pages_there inode page now.fits.first in
      let inside : k < length trace.contexts = facts.inode_context inode now.fits.first.there in
      let old : Writer = get_or (task_of task s).writers k (new_writer 0) in
      let rate : s.ratelimit_pages ≡ ratelimit_pages trace opening_moment = h.1.rate in
      let is : views u task
      ≡ (to_write y, set (task_of task s).writers k (wrote_writer (wrote_page (ratelimit_pages trace opening_moment) (cpu_of cpu s).local old) old), k, (task_of task s).ended) =
      ap (λ (l : List ReplayTask). task_view (get_or l task no_task)) tasks ∙ ap task_view (get_or-set_same s.tasks task (counted_page s.ratelimit_pages k c.local y) no_task there)
      ∙ (λ i. (to_write y, set (task_of task s).writers k (wrote_writer (wrote_page (rate i) (its.local i) old) old), k, (task_of task s).ended)) in
      let side : Side = settle trace opening_moment task (with_page task (write_fresh trace opening_moment task k its_own.side)) in
      let stands : StandsAs trace cpu (wrote_page (ratelimit_pages trace opening_moment) (cpu_of cpu s).local old).local (views u) side =
      fresh_stands trace opening_moment cpu task mine (cpu_of cpu s).local (views s) its_own.side its_own.stands by_itself page (to_write y) ahead now.free k now.fits.writer inside (views u) others is in
      let local : d.local ≡ (wrote_page (ratelimit_pages trace opening_moment) (cpu_of cpu s).local old).local = λ i. (wrote_page (rate i) (its.local i) old).local in (
        estimated.freshes trace facts cpu task inode page pages works (with_cpu cpu c s) now (est_taken cpu task (todo.Step step.Dirty) c s its h.0),
        acts cpu task (todo.Step step.Dirty) c s u its h.1 d cpus refl same others (wrote_told task page true ∷ []) (item (tells cpu (wrote_told task page true)) ∷ []) side (told_logged e c) refl (λ longer. (tt, tt))
            (record {
              allowed = (record { write = λ judged. writes_quietly trace opening_moment cpu task mine (cpu_of cpu s).local (views s) its_own.side its_own.stands by_itself page (to_write y) ahead now.free; check = tt }, tt);
              reached = write_side cpu task page k true its_own.side mine context;
            })
            (subst (λ (l : CpuLocal). StandsAs trace cpu l (views u) side) (sym local) stands)
            (λ waits. (behind cpu task (todo.Step step.Dirty) c s u its h.1 d cpus refl same others).0 refl),
      )

  -- ---- a check

  asked_domains : (group context : ℕ) (turn : ReplayTurn) (s : State) → domains_read (cgroup_line group context turn s) ≡ cond (eqb group 0) [] (group ∷ [])
  asked_domains zero context turn s = sym (cond-true (eqb 0 0) [] (0 ∷ []) (eq-eqb 0 0 refl))
  asked_domains (suc g) context turn s = sym (cond-false (eqb (suc g) 0) [] (suc g ∷ []) (ne_eqb (suc g) 0 (λ e. omega (arith, e))))

  decides : (cpu task : ℕ) (c : Cpu) (s : State) → Takes trace cpu task (todo.Silent silent.Decide) c s → DecidesNow trace cpu task (with_cpu cpu c s)
      → Goes trace s (decide_for trace cpu task (task_of task s).context (with_cpu cpu c s))
  decides cpu task c s its now h =
      let k : ℕ = (task_of task s).context in
      let vs : State = with_cpu cpu c s in
      let decision : Decision = decision_at trace k (task_of task s) (cpu_of cpu vs).turn vs in
      let check : CheckEntry = check_of trace task k (cpu_of cpu vs).turn decision vs in
      let y : ReplayTask = told_task s.now k decision (task_of task s) in
      let u : State = decide_for trace cpu task k vs in
      let d : Cpu = checked check c in
      let cpus : u.cpus ≡ set s.cpus cpu d = twice (checked check) s.cpus cpu c no_cpu its.there in
      let there : task < length s.tasks = is_there s.tasks task no_task (λ e. no_due (sym (ap (λ (t : ReplayTask). (writer_of t).due) e) ∙ now.is_due)) in
      let others : (t : ℕ) → t ≢ task → views u t ≡ views s t = λ t other. ap task_view (get_or-set_other s.tasks task t y no_task other) in
      let is : views u task ≡ (to_write (task_of task s), set (task_of task s).writers k (checked_writer decision), k, (task_of task s).ended) = ap task_view (get_or-set_same s.tasks task y no_task there) in
      let same : GoesOn c d = same_turn c d refl refl in
      let its_own = own cpu task (todo.Silent silent.Decide) c s u its h.1 d cpus refl same others in
      let by_itself = alone cpu task (todo.Silent silent.Decide) c s u its h.1 d cpus refl same others in
      let mine : is_own_task trace cpu task ≡ true = own_task trace cpu task its.on in
      let order : IsInOrder c = subst (λ (q : List Entry × List CheckEntry × List EstEntry). InOrder (length q.1) (length q.2) 0 0 q.0) (sym its.told) (h.0.order cpu) in
      let side : Side = settle trace opening_moment task (check_by trace opening_moment task k decision its_own.side) in
      let stands : StandsAs trace cpu (cpu_of cpu s).local (views u) side =
      check_stands trace opening_moment cpu task mine (cpu_of cpu s).local (views s) its_own.side its_own.stands by_itself now.is_due decision (views u) others is in
      let e : Estimate = (writeback_of k s).estimate in
      let found : nth_estimate e.version (first_estimate trace k opening_moment ∷ among trace s k) ≡ Some e =
      ap (λ (n : ℕ). nth_estimate n (first_estimate trace k opening_moment ∷ among trace s k)) (h.0.version k now.context_there) ∙ last_named (first_estimate trace k opening_moment) (among trace s k)
      ∙ ap (λ (z : Estimate). Some z) (h.0.chain k now.context_there).reached in
      let numbers : task_numbers trace its_own.side check ≡ (get_or (task_of task s).writers k (new_writer 0)).task =
      ap (λ (z : Writer). z.task) (checked_writer_is trace opening_moment cpu task mine (cpu_of cpu s).local (views s) its_own.side its_own.stands by_itself now.is_due) in
      let decided : DecidesAs trace check e (task_numbers trace its_own.side check) = subst (DecidesAs trace check e) (sym numbers) (record { in_range = now.in_range decision; asked = refl }) in (
        estimated.decides trace facts cpu task vs now (est_taken cpu task (todo.Silent silent.Decide) c s its h.0),
        acts cpu task (todo.Silent silent.Decide) c s u its h.1 d cpus refl same others (check_told check ∷ []) (item (tells cpu (check_told check)) ∷ []) side (told_checked check c order) refl
            (λ longer. (
              (
                now.context_there,
                subst (DecidesBy trace its_own.side check)
                    (sym (ap (λ (l : List Estimate). nth_estimate e.version (first_estimate trace k opening_moment ∷ l)) (longer k).is ∙ nth_more e.version (first_estimate trace k opening_moment ∷ among trace s k) (longer k).more e found)) decided,
              ),
              tt,
            ))
            (record {
              allowed = (
                record {
                  write = tt;
                  check = λ owns. record {
                    is_due = check_is_due trace opening_moment cpu task mine (cpu_of cpu s).local (views s) its_own.side its_own.stands by_itself now.is_due;
                    global = refl;
                    cgroup = asked_domains (group_of trace k) k (cpu_of cpu vs).turn vs;
                  };
                },
                tt,
              );
              reached = cond-true (is_own_task trace cpu task) side its_own.side mine;
            })
            (subst (λ (l : CpuLocal). StandsAs trace cpu l (views u) side) (sym its.local) stands)
            (λ waits. (behind cpu task (todo.Silent silent.Decide) c s u its h.1 d cpus refl same others).0 refl),
      )

  -- ---- the end of a turn

  drops : (cpu task : ℕ) (c : Cpu) (s : State) → Takes trace cpu task (todo.Silent silent.End) c s → HasMore trace task s → Goes trace s (with_cpu cpu c s)
  drops cpu task c s its more h =
      let u : State = with_cpu cpu c s in
      let same : GoesOn c c = same_turn c c refl refl in
      let others : (t : ℕ) → t ≢ task → views u t ≡ views s t = λ t other. refl in
      let its_own = own cpu task (todo.Silent silent.End) c s u its h.1 c refl refl same others in (
        est_taken cpu task (todo.Silent silent.End) c s its h.0,
        acts cpu task (todo.Silent silent.End) c s u its h.1 c refl refl same others [] [] its_own.side (sym (append-nil (told_of c))) refl (λ longer. tt) (record { allowed = tt; reached = refl })
            (subst (λ (l : CpuLocal). StandsAs trace cpu l (views s) its_own.side) (sym its.local) its_own.stands)
            (λ waits. absurd (true≢false (sym waits ∙ goes_on_task trace task (task_of task s) more.some more.works more.last))),
      )

  ends_now : (cpu task : ℕ) (c : Cpu) (s : State) → Takes trace cpu task (todo.Silent silent.End) c s → EndsNow trace cpu task (with_cpu cpu c s) → Goes trace s (end_now cpu task (with_cpu cpu c s))
  ends_now cpu task c s its now h =
      let vs : State = with_cpu cpu c s in
      let y : ReplayTask = record (task_of task s) { ended = true } in
      let u : State = end_now cpu task vs in
      let leak : Cpu → Cpu = λ z. record z { local = fold leaked z.local (task_of task s).writers } in
      let d : Cpu = leak c in
      let cpus : u.cpus ≡ set s.cpus cpu d = twice leak s.cpus cpu c no_cpu its.there in
      let there : task < length s.tasks = is_there s.tasks task no_task (λ e. true≢false (sym (ap (λ (t : ReplayTask). t.ended) e) ∙ now.not_ended)) in
      let others : (t : ℕ) → t ≢ task → views u t ≡ views s t = λ t other. ap task_view (get_or-set_other s.tasks task t y no_task other) in
      let is : views u task ≡ (to_write (task_of task s), (task_of task s).writers, (task_of task s).context, true) = ap task_view (get_or-set_same s.tasks task y no_task there) in
      let same : GoesOn c d = same_turn c d refl refl in
      let its_own = own cpu task (todo.Silent silent.End) c s u its h.1 d cpus refl same others in
      let by_itself = alone cpu task (todo.Silent silent.End) c s u its h.1 d cpus refl same others in
      let mine : is_own_task trace cpu task ≡ true = own_task trace cpu task its.on in
      let tells_nothing = nothing_tells (task_of task s).works (writer_of (task_of task s)).due now.nothing in
      let none : to_write (task_of task s) ≡ [] = ap (λ (ws : List ReplayWork). flat_map pages_of ws) tells_nothing.0 in
      let local : d.local ≡ leaked_by (cpu_of cpu s).local (task_of task s).writers = ap (λ (l : CpuLocal). fold leaked l (task_of task s).writers) its.local in
      let over : is_waiting trace task (views u task) ≡ false = ap (λ (z : View). is_waiting trace task z) is in
      let closed : is_waiting trace task (views u task) ≡ true → list_any is_end c.todo ≡ true = λ waits. absurd (true≢false (sym waits ∙ over)) in (
        estimated.ends trace facts cpu task vs now (est_taken cpu task (todo.Silent silent.End) c s its h.0),
        elim (cases_Bool (rests_last trace task)) [
          | inl rests ↦
              acts cpu task (todo.Silent silent.End) c s u its h.1 d cpus refl same others [] (ends task ∷ []) (end_task trace opening_moment task its_own.side) (sym (append-nil (told_of c))) refl (λ longer. (tt, tt))
              (record {
                allowed = (may_end trace opening_moment cpu task mine (cpu_of cpu s).local (views s) its_own.side its_own.stands by_itself now.not_ended none tells_nothing.1 (views u) others is rests, tt);
                reached = refl;
              })
              (subst (λ (l : CpuLocal). StandsAs trace cpu l (views u) (end_task trace opening_moment task its_own.side)) (sym local)
              (rest_stands trace opening_moment cpu task mine (cpu_of cpu s).local (views s) its_own.side its_own.stands by_itself now.not_ended none tells_nothing.1 (views u) others is rests)) closed
          | inr writes ↦
              acts cpu task (todo.Silent silent.End) c s u its h.1 d cpus refl same others [] [] its_own.side (sym (append-nil (told_of c))) refl (λ longer. tt) (record { allowed = tt; reached = refl })
              (subst (λ (l : CpuLocal). StandsAs trace cpu l (views u) its_own.side) (sym local)
              (end_stands trace opening_moment cpu task mine (cpu_of cpu s).local (views s) its_own.side its_own.stands by_itself now.not_ended none tells_nothing.1 (views u) others is writes)) closed
        ],
      )

  -- ---- a move

  module _ (s0 : State) (sound : Sound trace s0) where
    module _ (orders : List Stretch) (rotation : Option Actor) (ts : List TimerTodo) where
      abbrev m : State
      m = with_timer (record s0.timer { todo = ts }) (turned orders rotation s0)

      abbrev b : State
      b = turned orders rotation s0

      time_sides : (x : TimerStep) → HasSides trace b → HasSides trace (make_timer_step trace x m)
      unfolding make_timer_step
      time_sides (timer_step.Count zero) h = as_is trace facts b _ refl refl refl h
      time_sides (timer_step.Count (suc c)) h = as_is trace facts b _ refl refl refl h
      time_sides (timer_step.Peak d) h = as_is trace facts b _ refl refl refl h
      time_sides (timer_step.Unseal d) h = as_is trace facts b _ refl refl refl h
      time_sides (timer_step.Thresh d) h = as_is trace facts b _ refl refl refl h
      time_sides (timer_step.Publish d) h = as_is trace facts b _ refl refl refl h

      pass_sides : (x : TimerSilent) → HasSides trace b → HasSides trace (make_timer_move x m)
      unfolding make_timer_move
      pass_sides (timer_silent.Period d) h =
          either (HasSides trace) (is_time m.timer) (period_to d (periods m.timer) (after_period (domain_of d m).events (periods m.timer)) m) m
          (λ time. by_found (after_period (domain_of d m).events (periods m.timer))) (λ early. as_is trace facts b m refl refl refl h)
        where
          by_found : (found : Option Half) → HasSides trace (period_to d (periods m.timer) found m)
          by_found None = as_is trace facts b m refl refl refl h
          by_found (Some events) = as_is trace facts b _ refl refl refl h
      pass_sides timer_silent.Rest h = as_is trace facts b _ refl refl refl h

      times : (x : TimerStep) → Goes trace b (make_timer_step trace x m)
      times x h = (over_step trace (AreEstimated trace) s0 orders rotation ts x h.0, time_sides x h.1)

      passes : (x : TimerSilent) → Goes trace b (make_timer_move x m)
      passes x h = (over_move trace (AreEstimated trace) s0 orders rotation ts x h.0, pass_sides x h.1)

    pub goes_on : Goes trace s0 (advance trace s0)
    goes_on =
        advance_seen trace (Goes trace) (hide trace facts) (thens trace facts) s0 (starts_of trace facts s0 sound)
        (λ orders rotation i below ts x is. steps_seen trace facts (Goes trace) (hide trace facts) (thens trace facts) turned_to (λ cpu y s there fit. folds trace facts cpu y s there) knowns freshes (claims trace facts) (flies_off trace facts) (completes trace facts) (lists trace facts)
        (λ cpu d k n s there inside known its. shares trace facts cpu d k n s there) drops ends_now decides (estimates trace facts) s0 sound orders rotation i below ts x is)
        (λ orders rotation i below ts x is. moves_seen trace facts (Goes trace) (hide trace facts) (thens trace facts) turned_to (λ cpu y s there fit. folds trace facts cpu y s there) knowns freshes (claims trace facts) (flies_off trace facts) (completes trace facts) (lists trace facts)
        (λ cpu d k n s there inside known its. shares trace facts cpu d k n s there) drops ends_now decides (estimates trace facts) s0 sound orders rotation i below ts x is)
        (see_turn trace facts (Goes trace) (hide trace facts) (thens trace facts) turned_to (λ cpu y s there fit. folds trace facts cpu y s there) knowns freshes (claims trace facts) (flies_off trace facts) (completes trace facts) (lists trace facts)
        (λ cpu d k n s there inside known its. shares trace facts cpu d k n s there) drops ends_now decides (estimates trace facts))
        (λ orders rotation ts x is. times orders rotation ts x)
        (λ orders rotation ts x is. passes orders rotation ts x)
        (λ orders rotation none late h. (h.0, as_is trace facts (turned orders rotation s0) _ refl refl refl h.1))
