-- A page is dirtied: why the step may be made, and what it and its entry are.
use Rattle.std.proofs.Common.{◌≡◌, ◌≢◌, ℕ, zero, suc, ◌+◌, ◌-◌, ◌<◌, ◌≤◌, inl, inr, Bool, true, false, ◌&&◌, cond, not, eqb, List, [], ◌∷◌, length, map, drop, get_or, slice_get, Option, Some, refl, sym, ap, ◌∙◌, subst, arith, nat_lt, ne_eqb, pos, true≢false}
use Rattle.std.proofs.lemmas.Bool.{cases_eq, cond_both, cond-true, lt-ltb}
use Rattle.std.proofs.lemmas.List.{get_or-set_same, get_or-set_other, length-map, length-set}
use Rattle.wbt_writer.proofs.Common.{times_in, Counter, Domain, record_after, Setting, writer_in, CpuRecord, WriterRecord, is_due, Each, tells, pages_of_task, ratelimit_pages, Side, all_writers, is_own_task, item, number_of, settle, task_of, with_page, write_fresh, wrote, CpuJournal, HasCounter, setting, Has, Holds, Changes, Makes, Dirtied, Fresh, Already, Cpu, cpu_step, new_writer, writer_of, Writer, inode_at, Trace, Kit, Seats, OnlyCpu, record_is, Due, Grew, Logged, SideWalked, Wrote, writer_at, each_map, steps_grow, HasPage, first_page, AreTasksOf, KeepsFixed, OthersStay, cpu_of, no_name, side_of, state_of, task_at, written_of, AreAt, HaveLefts, IsGoing, OwesNothing, record_in, sight, Does, Keeps, StepsToDirty, AreOver, IsOver, own_of, Dirties}
use Rattle.wbt_kit.proofs.Common.{bits_at, one_if, Owed, dirty, counters_of, page_context, pages, CanDirty, HasPageSteps}
use Rattle.wbt_counter.specs.declared.record.Debt.TheVariants as debt
use Rattle.wbt_fraction.specs.Several as fraction
use Rattle.wbt_grant.specs.Record
use Rattle.wbt_grant.specs.declared.who.StepKind.TheVariants as kind
use Rattle.wbt_grant.specs.declared.who.Word.TheVariants as word
use Rattle.wbt_journal.specs.Side.{write_page}
use Rattle.wbt_journal.specs.declared.entry.Entry.TheVariants as entry
use Rattle.wbt_run_steps.specs.Debts.{AreOnce}
use Rattle.wbt_run_steps.proofs.Logging.{makes_as}
use Rattle.wbt_run_steps.specs.Steps.{AreOwed}
use Rattle.wbt_run_steps.proofs.Ordering.{page_once}
use Rattle.wbt_queue.specs.Passes as queue
use Rattle.wbt_table.specs.Calls.{TellsDirty}
use Rattle.wbt_task.specs.History.{wrote_page, wrote_writer}
use Rattle.wbt_task.specs.declared.allowance.Due.TheVariants as due
use Rattle.wbt_task.specs.declared.history.Event.TheVariants as history
use Rattle.wbt_trace.specs.declared.writers.Writer.{Writer as Name}
use Rattle.wbt_run_laws.specs.Log.{with_entry}
use Rattle.wbt_run_laws.proofs.Entering.{write_is_next}
use Rattle.wbt_run_laws.proofs.Logging.{logged_entry}
use Rattle.wbt_writer.specs.Counted.{IsJob, Passes}
use Rattle.wbt_writer.specs.Kinds.{OwesEvents}
use Rattle.wbt_writer.specs.Writes.{OwesMark, is_fresh}
use Rattle.wbt_writer.specs.declared.task.TaskPlace.{TaskPlace}
use Rattle.wbt_writer.specs.declared.tasks.TaskJob.TheVariants as job
use Rattle.wbt_writer.specs.declared.work.WriterWork.{WriterWork}
use Rattle.wbt_writer.proofs.Acting.{does_act}
use Rattle.wbt_writer.proofs.Changing.{Changed, changed}
use Rattle.wbt_writer.proofs.Facts.{domain_below}
use Rattle.wbt_writer.proofs.Judging.{granted_others, granted_own}
use Rattle.wbt_writer.proofs.Lefts.{has_ended_is, settle_keeps}
use Rattle.wbt_writer.proofs.Over.{counts_over, own_over, page_over, settle_over}
use Rattle.wbt_writer.proofs.Pairs.{its_number}
use Rattle.wbt_writer.proofs.Places.{page_context_is, page_inode_is, page_there}
use Rattle.wbt_writer.proofs.Resting.{none_due}
use Rattle.wbt_writer.proofs.Standing.{at_tasks, seat_is}

-- ---- lists

drop_head : {A : Type 0} (l : List A) (n : ℕ) (x : A) (more : List A) → drop n l ≡ x ∷ more → slice_get l n ≡ Some x
drop_head [] zero x more is = absurd cc
drop_head [] (suc n) x more is = absurd cc
drop_head (y ∷ l) zero x more is = let e : y ≡ x = cc in ap (λ z. Some z) e
drop_head (y ∷ l) (suc n) x more is = drop_head l n x more is

some_is : (a b : ℕ) → Some a ≡ Some b → a ≡ b
some_is a b e = cc

-- ---- dues

not_due : (d : Due) → is_due d ≡ false → d ≡ due.No
not_due due.No is = refl
not_due due.Check is = absurd (true≢false is)

and_false : (a b : Bool) → a ≡ true → (a && b) ≡ false → b ≡ false
and_false true b holds is = is
and_false false b holds is = absurd (true≢false (sym holds))

-- ---- what a write makes of its writer, and of others

step_own : (rl cap : ℕ) (cpu : Cpu) (w : ℕ) → w < length cpu.writers → (writer_of (cpu_step rl cap cpu (history.Wrote w)) w).left ≡ (writer_of cpu w).left - 1
unfolding cpu_step
step_own rl cap cpu w there = ap (λ (x : Writer). x.left) (get_or-set_same cpu.writers w (wrote_writer (wrote_page rl cpu.local (writer_of cpu w)) (writer_of cpu w)) (new_writer 0) there)

step_others : (rl cap : ℕ) (cpu : Cpu) (w n : ℕ) → n ≢ w → writer_of (cpu_step rl cap cpu (history.Wrote w)) n ≡ writer_of cpu n
unfolding cpu_step
step_others rl cap cpu w n other = get_or-set_other cpu.writers w n (wrote_writer (wrote_page rl cpu.local (writer_of cpu w)) (writer_of cpu w)) (new_writer 0) other

-- ---- what the step makes of the record

abbrev pub dirtied_by : (set : Setting) (w p : ℕ) (answer : Dirtied) (r : CpuRecord) → CpuRecord
dirtied_by set w p Fresh r = Record.dirtied set w p r
dirtied_by set w p Already r = Record.found_already p r

abbrev pub stepped_by : (set : Setting) (w p found : ℕ) (answer : Dirtied) (r : CpuRecord) → CpuRecord
stepped_by set w p found answer r = Record.stepped kind.Dirty (word.Page p) found (Record.page_stepped (dirtied_by set w p answer r))

by_answer : (set : Setting) (w p found : ℕ) (b : Bool) (answer : Dirtied) (r : CpuRecord) → TellsDirty answer b
    → Record.stepped kind.Dirty (word.Page p) found (Record.page_stepped (cond b (Record.found_already p r) (Record.dirtied set w p r))) ≡ stepped_by set w p found answer r
by_answer set w p found b Fresh r is = ap (λ (x : Bool). Record.stepped kind.Dirty (word.Page p) found (Record.page_stepped (cond x (Record.found_already p r) (Record.dirtied set w p r)))) is
by_answer set w p found b Already r is = ap (λ (x : Bool). Record.stepped kind.Dirty (word.Page p) found (Record.page_stepped (cond x (Record.found_already p r) (Record.dirtied set w p r)))) is

fresh_is : (b : Bool) (answer : Dirtied) → TellsDirty answer b → not b ≡ is_fresh answer
fresh_is b Fresh is = ap not is
fresh_is b Already is = ap not is

held_same : (set : Setting) (w p : ℕ) (answer : Dirtied) (r : CpuRecord) → (dirtied_by set w p answer r).held ≡ r.held
held_same set w p Fresh r = refl
held_same set w p Already r = refl

rescans_same : (set : Setting) (w p : ℕ) (answer : Dirtied) (r : CpuRecord) → (dirtied_by set w p answer r).owed_rescans ≡ r.owed_rescans
rescans_same set w p Fresh r = refl
rescans_same set w p Already r = refl

steps_same : (set : Setting) (w p : ℕ) (answer : Dirtied) (r : CpuRecord) → (dirtied_by set w p answer r).page_steps ≡ r.page_steps
steps_same set w p Fresh r = refl
steps_same set w p Already r = refl

owes_events : (kit : Kit) (w p found : ℕ) (answer : Dirtied) (r : CpuRecord) → r.debts ≡ [] → (cpu : ℕ) (new : Seats)
    → record_in cpu new ≡ stepped_by (setting kit.throttle.layout) w p found answer r → OwesEvents kit cpu p answer new
owes_events kit w p found Fresh r none cpu new is = ap (λ (q : CpuRecord). q.debts) is
owes_events kit w p found Already r none cpu new is = ap (λ (q : CpuRecord). q.debts) is ∙ none

module _ (trace : Trace) (cpu : ℕ) (kit : Kit) (was : WriterWork) (old : Seats) (at : AreAt trace cpu kit was old) (task : ℕ) (going : IsGoing trace was.tasks task) (inode page : ℕ)
    (its_job : IsJob trace was.tasks task (job.Write inode page)) where
  abbrev set' : Setting
  set' = setting kit.throttle.layout

  abbrev opened : ℕ
  opened = kit.published.moment

  abbrev t : TaskPlace
  t = task_at was.tasks task

  abbrev context : ℕ
  context = (inode_at inode trace.inodes).context

  abbrev w : ℕ
  w = number_of trace task context

  abbrev p : ℕ
  p = first_page trace inode + page

  pub has_page : HasPage trace inode page
  has_page = its_job.1.0.0

  pub page_low : first_page trace inode + page < pages trace
  page_low = page_there trace at.is_work.lawful inode page has_page

  pub low : number_of trace task (inode_at inode trace.inodes).context < length (all_writers trace)
  low = its_number trace at.is_work.lawful task inode its_job.1.1.0 its_job.1.1.1 t.at its_job.1.1.2

  pub inside : number_of trace task (inode_at inode trace.inodes).context < length was.tasks.writers.items
  inside = let long = at.is_work.tasks.counted.as_long in let less = low in omega arith

  own : is_own_task trace cpu task ≡ true
  own = sym (at.its.own task going.there) ∙ going.own

  context_is : page_context trace p ≡ Some context
  context_is = page_context_is trace at.is_work.lawful inode page has_page

  home_is : set'.home p ≡ context
  home_is = some_is (set'.home p) context (sym (at.suits.throttle.homes p page_low) ∙ context_is)

  inode_is : set'.inode p ≡ inode
  inode_is = page_inode_is trace at.is_work.lawful inode page has_page kit.throttle.layout.inodes at.suits.places

  -- no check of the task's writers is due
  quiet_at : (n : ℕ) → n < length (all_writers trace) → (get_or (all_writers trace) n no_name).task ≡ task → (writer_of (cpu_of was.tasks) n).due ≡ due.No
  quiet_at n less its =
      let inside : n < length was.tasks.writers.items = let long = at.is_work.tasks.counted.as_long in omega arith in
      elim (cases_eq n t.writer) [
        | inl same ↦ subst (λ (m : ℕ). (writer_of (cpu_of was.tasks) m).due ≡ due.No) (sym same)
            (not_due (writer_of (cpu_of was.tasks) t.writer).due
            (and_false (nat_lt t.writer (length was.tasks.writers.items)) (is_due (writer_of (cpu_of was.tasks) t.writer).due) (lt-ltb t.writer (length was.tasks.writers.items) (omega arith)) its_job.0))
        | inr other ↦ (at.is_work.tasks.counted.each task going.there).last.others n inside its other
      ]

  module _ (named : get_or (all_writers trace) (number_of trace task (inode_at inode trace.inodes).context) no_name ≡ record { task = task; context = (inode_at inode trace.inodes).context }) where
    quiet : (writer_of (cpu_of was.tasks) w).due ≡ due.No
    quiet = quiet_at w low (ap (λ (n : Name). n.task) named)

    seat_own : set'.seat w ≡ cpu
    seat_own = seat_is trace cpu kit was old at task going w low (ap (λ (n : Name). n.task) named)

    its_going : (task_at was.tasks (writer_at trace w).task).ended ≡ false
    its_going = subst (λ (k : ℕ). (task_at was.tasks k).ended ≡ false) (sym (ap (λ (n : Name). n.task) named)) going.going

    left_is : HaveLefts trace cpu kit was.tasks old → (writer_in set' w (record_in cpu old).writers).left ≡ (writer_of (cpu_of was.tasks) w).left
    left_is lefts = lefts.each w low seat_own its_going quiet

    works_is : set'.works_in w ≡ context
    works_is = at.suits.throttle.works_in w low ∙ ap (λ (n : Name). n.context) named

    can : OwesNothing cpu old → HaveLefts trace cpu kit was.tasks old → CanDirty set' w p (record_in cpu old)
    can none lefts = record {
      writer_is = (let long = at.suits.throttle.writers_are in let less = low in omega arith);
      page_is = (let long = at.suits.throttle.pages_are in let less = page_low in omega arith);
      its_context = home_is ∙ sym works_is;
      some_left = (let is = left_is lefts in let some = (at.is_work.tasks.counted.left w inside).1 quiet in omega arith);
      owes_none = none;
    }

    pub may : OwesNothing cpu old → HaveLefts trace cpu kit was.tasks old
        → Holds old.cpu.cpus ((setting kit.throttle.layout).seat (number_of trace task (inode_at inode trace.inodes).context))
        (CanDirty (setting kit.throttle.layout) (number_of trace task (inode_at inode trace.inodes).context) (first_page trace inode + page))
    may none lefts =
        let r = at.fits.held.0 in
        let has = at.fits.held.1 in
        (r, subst (λ (c : ℕ). Has old.cpu.cpus c r) (sym seat_own) has, subst (CanDirty set' w p) (record_is old.cpu.cpus cpu r has) (can none lefts))

    pub spent_is : (P : ℕ → Type 0) → P ((setting kit.throttle.layout).seat (number_of trace task (inode_at inode trace.inodes).context)) → P cpu
    spent_is P is = subst P seat_own is

    -- ---- the step was made

    module _ (answer : Dirtied) (found : ℕ) (tells_is : TellsDirty answer (bits_at found (first_page trace inode + page)).dirty) (new : Seats) (only : OnlyCpu old new)
        (makes : Makes (setting kit.throttle.layout) (dirty (number_of trace task (inode_at inode trace.inodes).context) (first_page trace inode + page)) found old.cpu new.cpu) where
      change : Changed cpu kit (record_after set' (dirty w p) found) old new
      change = changed cpu kit (record_after set' (dirty w p) found) old new at.fits only (subst (λ (c : ℕ). Changes c (record_after set' (dirty w p) found) old.cpu new.cpu) seat_own makes.changes)

      becomes : record_in cpu new ≡ stepped_by set' w p found answer (record_in cpu old)
      becomes = change.becomes ∙ by_answer set' w p found (bits_at found p).dirty answer (record_in cpu old) tells_is

      pub dirtied_as : OwesNothing cpu old → StepsToDirty kit cpu (first_page trace inode + page) answer old new
      dirtied_as none = record {
        steps = makes_as cpu set' (dirty w p) found old new seat_own makes;
        owes = owes_events kit w p found answer (record_in cpu old) none cpu new becomes;
      }

      grew : Grew (wrote task p (is_fresh answer) ∷ []) (record_in cpu old) (record_in cpu new)
      grew = subst (λ (z : Bool × CpuRecord). Grew (wrote task p z.0 ∷ []) (record_in cpu old) z.1) (λ i. (fresh_is (bits_at found p).dirty answer tells_is i, sym change.becomes i))
          ((steps_grow set' found (record_in cpu old)).dirties w task p)

      few_steps : HasPageSteps (setting kit.throttle.layout) ((setting kit.throttle.layout).seat (number_of trace task (inode_at inode trace.inodes).context)) old.cpu → (record_in cpu old).page_steps < kit.throttle.layout.page_steps
      few_steps (r, has, less) = subst (λ (q : CpuRecord). q.page_steps < kit.throttle.layout.page_steps) (sym (record_is old.cpu.cpus cpu r (subst (λ (c : ℕ). Has old.cpu.cpus c r) seat_own has))) less

      keeps : HasPageSteps (setting kit.throttle.layout) ((setting kit.throttle.layout).seat (number_of trace task (inode_at inode trace.inodes).context)) old.cpu → Keeps cpu old new
      keeps had = record {
        apart = change.on.apart;
        held = ap (λ (r : CpuRecord). r.held) becomes ∙ held_same set' w p answer (record_in cpu old);
        rescans = λ page owes. subst (λ (l : List ℕ). 1 ≤ times_in page l) (ap (λ (r : CpuRecord). r.owed_rescans) becomes ∙ rescans_same set' w p answer (record_in cpu old)) owes;
        stakes = λ d. ap (λ (s : fraction.Seats). fraction.stakes_in d s.domains) change.on.share;
        rooms = λ d. ap (λ (s : fraction.Seats). fraction.room_in d s.domains) change.on.share;
        totals = ap (λ (s : fraction.Seats). s.totals) change.on.share;
        queues = λ d. ap (λ (s : queue.Seats). (queue.known_of d s).stakes) change.on.queue;
        few = λ few. (
            let now : (record_in cpu new).page_steps ≡ (dirtied_by set' w p answer (record_in cpu old)).page_steps + 1 = ap (λ (r : CpuRecord). r.page_steps) becomes in
            let same = steps_same set' w p answer (record_in cpu old) in
            let less = few_steps had in
            let most = at.suits.few_page_steps in omega arith);
      }

      -- ---- the tasks

      module _ (is : WriterWork) (side : side_of is.tasks ≡ write_page trace kit.published.moment task (Some (inode_at inode trace.inodes).context) (is_fresh answer) (side_of was.tasks))
          (passes : Passes (task_at was.tasks task) (task_at is.tasks task)) (others : OthersStay task was.tasks is.tasks) (fractions : is.fractions.items ≡ was.fractions.items) where
        abbrev side_walked : SideWalked trace opened cpu (side_of was.tasks) (wrote task p (is_fresh answer) ∷ []) (side_of is.tasks)
        side_walked = record {
          events = item (tells cpu (wrote task p (is_fresh answer))) ∷ [];
          are = refl;
          walked = record {
            allowed = (
              record {
                write = λ judged. none_due (cpu_of was.tasks) task 0 (all_writers trace) (λ i less its. subst (λ (n : ℕ). (writer_of (cpu_of was.tasks) n).due ≡ due.No) (let e : i ≡ 0 + i = omega arith in e) (quiet_at i less its));
                check = tt;
              },
              tt,
            );
            reached = cond-true (is_own_task trace cpu task) (write_page trace opened task (page_context trace p) (is_fresh answer) (side_of was.tasks)) (side_of was.tasks) own
                ∙ ap (λ (c : Option ℕ). write_page trace opened task c (is_fresh answer) (side_of was.tasks)) context_is ∙ sym side;
          };
        }

        next_is : slice_get (pages_of_task trace task) t.written ≡ Some p
        next_is = drop_head (pages_of_task trace task) t.written p its_job.1.0.1 (sym (at.is_work.tasks.counted.each task going.there).along.still ∙ its_job.1.0.2)

        wrote_one : Wrote trace cpu (written_of was.tasks) (wrote task p (is_fresh answer) ∷ []) (written_of is.tasks)
        wrote_one = write_is_next trace cpu task p (is_fresh answer) (written_of was.tasks) (written_of is.tasks) (record {
          own = own;
          next = next_is;
          one_more = passes.written;
          others = λ n other. ap (λ (x : TaskPlace). x.written) (others n other);
        })

        does : (before behind : CpuJournal) → HasPageSteps (setting kit.throttle.layout) ((setting kit.throttle.layout).seat (number_of trace task (inode_at inode trace.inodes).context)) old.cpu
            → behind ≡ with_entry (entry.Write task (first_page trace inode + page) (is_fresh answer)) before
            → Does trace kit.published.moment cpu (wrote task (first_page trace inode + page) (is_fresh answer) ∷ []) (sight was old before) (sight is new behind)
        does before behind had log = does_act trace opened cpu (wrote task p (is_fresh answer) ∷ []) (sight was old before) (sight is new behind) (record {
          quiet = (record { of_writers = record { no_flight = refl; no_share = refl; no_estimate = refl; no_wait = refl }; no_check = refl }, tt);
          logged = subst (λ (l : CpuJournal). Logged (wrote task p (is_fresh answer) ∷ []) before l) (sym log) (logged_entry (entry.Write task p (is_fresh answer)) before refl);
          grew = grew;
          side = side_walked;
          events_quiet = ((λ trace opened known s. tt), tt);
          wrote = wrote_one;
          own = (record { write = own; fold = tt; check = tt; flight = tt; share = tt; estimate = tt; wait = tt }, tt);
          share = change.on.share;
          est = change.on.est;
          fractions = fractions;
          keeps = keeps had;
        })

        -- ---- it stays at the kit

        own_same : (n : ℕ) → (task_at is.tasks n).own ≡ (task_at was.tasks n).own
        own_same n = elim (cases_eq n task) [
          | inl same ↦ subst (λ (k : ℕ). (task_at is.tasks k).own ≡ (task_at was.tasks k).own) (sym same) passes.own
          | inr other ↦ ap (λ (x : TaskPlace). x.own) (others n other)
        ]

        task_in_side : task < length (side_of was.tasks).tasks
        task_in_side = let same = length-map was.tasks.tasks.items state_of in let all = at.is_work.tasks.counted.tasks in let low = going.there in omega arith

        going_on : (task_of (side_of was.tasks) task).has_ended ≡ false
        going_on = has_ended_is was.tasks task ∙ going.going

        fresh_over : IsOver trace (own_of was.tasks) (write_fresh trace opened task context (side_of was.tasks))
        fresh_over = counts_over trace (own_of was.tasks) opened task (side_of was.tasks) (write_fresh trace opened task context (side_of was.tasks)).cpu w (ap (λ (n : Name). n.task) named) going.own going_on
            (λ n other. step_others (ratelimit_pages trace opened) trace.cap (cpu_of was.tasks) w n other) at.is_work.over

        page_long : (s : Side) → length (with_page task s).tasks ≡ length s.tasks
        page_long s = length-set s.tasks task (record { todo = (task_of s task).todo - 1; has_ended = (task_of s task).has_ended })

        written_over : (b : Bool) → IsOver trace (own_of was.tasks) (write_page trace opened task (Some context) b (side_of was.tasks))
        written_over true = settle_over trace (own_of was.tasks) opened task (with_page task (write_fresh trace opened task context (side_of was.tasks)))
            (let long = page_long (write_fresh trace opened task context (side_of was.tasks)) in let low = task_in_side in omega arith)
            (page_over trace (own_of was.tasks) opened task (write_fresh trace opened task context (side_of was.tasks)) task_in_side going_on fresh_over)
        written_over false = settle_over trace (own_of was.tasks) opened task (with_page task (side_of was.tasks)) (let long = page_long (side_of was.tasks) in let low = task_in_side in omega arith)
            (page_over trace (own_of was.tasks) opened task (side_of was.tasks) task_in_side going_on at.is_work.over)

        over_now : AreOver trace is.tasks
        over_now = own_over trace (own_of was.tasks) (own_of is.tasks) (side_of is.tasks) own_same (subst (IsOver trace (own_of was.tasks)) (sym side) (written_over (is_fresh answer)))

        pub at_kit : AreTasksOf trace is.tasks → KeepsFixed was.tasks is.tasks → is.waiting.items ≡ was.waiting.items → AreAt trace cpu kit is new
        at_kit tasks fixed waiting = at_tasks trace cpu kit was is old new at tasks fixed (λ n less. own_same n) over_now fractions waiting change.fits

        -- ---- pages left

        went : (n : ℕ) → (task_at is.tasks n).ended ≡ false → (task_at was.tasks n).ended ≡ false
        went n ended = elim (cases_eq n task) [
          | inl same ↦ subst (λ (k : ℕ). (task_at was.tasks k).ended ≡ false) (sym same) going.going
          | inr other ↦ ap (λ (x : TaskPlace). x.ended) (sym (others n other)) ∙ ended
        ]

        module _ (s : Side) (long : length s.tasks ≡ length was.tasks.tasks.items) (settled : side_of is.tasks ≡ settle trace kit.published.moment task s) where
          task_there : task < length s.tasks
          task_there = let all = at.is_work.tasks.counted.tasks in let low = going.there in omega arith

          stays : (n : ℕ) → (task_at is.tasks (writer_at trace n).task).ended ≡ false → writer_of (cpu_of is.tasks) n ≡ writer_of s.cpu n
          stays n ended = ap (λ (x : Side). writer_of x.cpu n) settled ∙ settle_keeps trace opened task n s task_there
              (λ e. ap (λ (x : Side). (task_of x task).has_ended) (sym settled) ∙ has_ended_is is.tasks task ∙ subst (λ (k : ℕ). (task_at is.tasks k).ended ≡ false) e ended)

          -- of writers that counted nothing, and whose record stayed
          pub other_lefts : HaveLefts trace cpu kit was.tasks old → (n : ℕ) → n < length (all_writers trace) → set'.seat n ≡ cpu → (task_at is.tasks (writer_at trace n).task).ended ≡ false
              → (writer_of (cpu_of is.tasks) n).due ≡ due.No → writer_of s.cpu n ≡ writer_of (cpu_of was.tasks) n
              → (writer_in set' n (record_in cpu new).writers).left ≡ (writer_in set' n (record_in cpu old).writers).left
              → (writer_in set' n (record_in cpu new).writers).left ≡ (writer_of (cpu_of is.tasks) n).left
          other_lefts had n less seat ended quiet same record_same =
              let now : writer_of (cpu_of is.tasks) n ≡ writer_of (cpu_of was.tasks) n = stays n ended ∙ same in
              record_same ∙ had.each n less seat (went (writer_at trace n).task ended) (ap (λ (x : Writer). x.due) (sym now) ∙ quiet) ∙ ap (λ (x : Writer). x.left) (sym now)

    -- ---- of a page that was dirty

    module _ (found : ℕ) (tells_is : TellsDirty Already (bits_at found (first_page trace inode + page)).dirty) (new : Seats) (only : OnlyCpu old new)
        (makes : Makes (setting kit.throttle.layout) (dirty (number_of trace task (inode_at inode trace.inodes).context) (first_page trace inode + page)) found old.cpu new.cpu)
        (is : WriterWork) (side : side_of is.tasks ≡ settle trace kit.published.moment task (with_page task (side_of was.tasks)))
        (passes : Passes (task_at was.tasks task) (task_at is.tasks task)) (others : OthersStay task was.tasks is.tasks) (fractions : is.fractions.items ≡ was.fractions.items) where
      already_is : record_in cpu new ≡ stepped_by set' w p found Already (record_in cpu old)
      already_is = becomes Already found tells_is new only makes

      abbrev already_side : Side
      already_side = with_page task (side_of was.tasks)

      already_long : length already_side.tasks ≡ length was.tasks.tasks.items
      already_long = length-set (map state_of was.tasks.tasks.items) task (record { todo = (task_of (side_of was.tasks) task).todo - 1; has_ended = (task_of (side_of was.tasks) task).has_ended })
          ∙ length-map was.tasks.tasks.items state_of

      pub already : (before behind : CpuJournal) → HasPageSteps (setting kit.throttle.layout) ((setting kit.throttle.layout).seat (number_of trace task (inode_at inode trace.inodes).context)) old.cpu
          → behind ≡ with_entry (entry.Write task (first_page trace inode + page) false) before → OwesNothing cpu old → HaveLefts trace cpu kit was.tasks old
          → Dirties trace kit cpu task inode page Already (sight was old before) (sight is new behind)
      already before behind had log none lefts = record {
        does = does Already found tells_is new only makes is side passes others fractions before behind had log;
        leaves = (ap (λ (r : CpuRecord). r.debts) already_is ∙ none, λ i owes. subst (λ (r : CpuRecord). 1 ≤ times_in i r.owed_marks) already_is owes);
        lefts = record {
          each = λ n less seat ended quiet. other_lefts Already found tells_is new only makes is side passes others fractions already_side already_long side lefts n less seat ended quiet refl
              (ap (λ (r : CpuRecord). (writer_in set' n r.writers).left) already_is);
        };
        fractions = fractions;
        share = only.share;
        est = only.est;
      }

    -- ---- of a page that was clean

    module _ (found : ℕ) (tells_is : TellsDirty Fresh (bits_at found (first_page trace inode + page)).dirty) (new : Seats) (only : OnlyCpu old new)
        (makes : Makes (setting kit.throttle.layout) (dirty (number_of trace task (inode_at inode trace.inodes).context) (first_page trace inode + page)) found old.cpu new.cpu)
        (is : WriterWork) (side : side_of is.tasks ≡ settle trace kit.published.moment task (with_page task (write_fresh trace kit.published.moment task (inode_at inode trace.inodes).context (side_of was.tasks))))
        (passes : Passes (task_at was.tasks task) (task_at is.tasks task)) (others : OthersStay task was.tasks is.tasks) (fractions : is.fractions.items ≡ was.fractions.items) where
      now_is : record_in cpu new ≡ stepped_by set' w p found Fresh (record_in cpu old)
      now_is = becomes Fresh found tells_is new only makes

      abbrev fresh_side : Side
      fresh_side = with_page task (write_fresh trace opened task context (side_of was.tasks))

      fresh_long : length fresh_side.tasks ≡ length was.tasks.tasks.items
      fresh_long = length-set (map state_of was.tasks.tasks.items) task (record { todo = (task_of (side_of was.tasks) task).todo - 1; has_ended = (task_of (side_of was.tasks) task).has_ended })
          ∙ length-map was.tasks.tasks.items state_of

      -- events are owed to counters that there are
      owed_at : Each (λ (x : Counter). HasCounter kit.throttle.layout x) (counters_of set' (set'.home p))
      owed_at = (
        (let there = at.suits.throttle.homes_are p page_low in let long = at.suits.throttle.contexts_are in omega arith),
        (
          (let some = at.suits.domains_are in omega arith),
          cond_both (eqb (set'.group (set'.home p)) 0) [] (Domain (set'.group (set'.home p)) ∷ []) (Each (λ (x : Counter). HasCounter kit.throttle.layout x)) (λ t. tt)
              (λ t. (
                (let there = at.suits.throttle.homes_are p page_low in
                    let group = at.suits.throttle.groups (set'.home p) in
                    let below = domain_below trace at.is_work.lawful (set'.home p) there in
                    let all = at.suits.domains_are in omega arith),
                tt,
              )),
        ),
      )

      owed : AreOwed cpu kit new
      owed = record {
        there = subst (λ (r : CpuRecord). Each (λ (o : Owed). HasCounter kit.throttle.layout o.counter) r.debts) (sym now_is)
            (each_map (λ (o : Owed). HasCounter kit.throttle.layout o.counter) (λ (x : Counter). record { counter = x; debt = debt.Event (pos 1) }) (counters_of set' (set'.home p)) owed_at);
        once = subst (λ (r : CpuRecord). AreOnce r.debts) (sym now_is) (page_once set' (set'.home p) (pos 1));
      }

      owes_mark : OwesMark cpu inode old new
      owes_mark i other owes =
          let all : 1 ≤ one_if (eqb i (set'.inode p)) + times_in i (record_in cpu old).owed_marks = subst (λ (r : CpuRecord). 1 ≤ times_in i r.owed_marks) now_is owes in
          let none : one_if (eqb i (set'.inode p)) ≡ 0 = ap one_if (ne_eqb i (set'.inode p) (λ e. other (e ∙ inode_is))) in omega arith

      own_left : HaveLefts trace cpu kit was.tasks old → (n : ℕ) → n ≡ w → writer_of (cpu_of is.tasks) n ≡ writer_of fresh_side.cpu n
          → (writer_in set' n (record_in cpu new).writers).left ≡ (writer_of (cpu_of is.tasks) n).left
      own_left lefts n same stayed =
          ap (λ (r : CpuRecord). (writer_in set' n r.writers).left) now_is
          ∙ ap (λ (k : ℕ). (writer_in set' k (stepped_by set' w p found Fresh (record_in cpu old)).writers).left) same
          ∙ granted_own set' w ((writer_in set' w (record_in cpu old).writers).left - 1) (record_in cpu old)
          ∙ ap (λ (k : ℕ). k - 1) (left_is lefts)
          ∙ sym (step_own (ratelimit_pages trace opened) trace.cap (cpu_of was.tasks) w inside)
          ∙ ap (λ (k : ℕ). (writer_of fresh_side.cpu k).left) (sym same) ∙ ap (λ (x : Writer). x.left) (sym stayed)

      pub fresh : (before behind : CpuJournal) → HasPageSteps (setting kit.throttle.layout) ((setting kit.throttle.layout).seat (number_of trace task (inode_at inode trace.inodes).context)) old.cpu
          → behind ≡ with_entry (entry.Write task (first_page trace inode + page) true) before → HaveLefts trace cpu kit was.tasks old
          → Dirties trace kit cpu task inode page Fresh (sight was old before) (sight is new behind)
      fresh before behind had log lefts = record {
        does = does Fresh found tells_is new only makes is side passes others fractions before behind had log;
        leaves = (owed, owes_mark);
        lefts = record {
          each = λ n less seat ended quiet. elim (cases_eq n w) [
            | inl same ↦ own_left lefts n same (stays Fresh found tells_is new only makes is side passes others fractions fresh_side fresh_long side n ended)
            | inr other ↦ other_lefts Fresh found tells_is new only makes is side passes others fractions fresh_side fresh_long side lefts n less seat ended quiet
                (step_others (ratelimit_pages trace opened) trace.cap (cpu_of was.tasks) w n other)
                (ap (λ (r : CpuRecord). (writer_in set' n r.writers).left) now_is
                ∙ ap (λ (x : WriterRecord). x.left) (granted_others set' w ((writer_in set' w (record_in cpu old).writers).left - 1) (record_in cpu old) n other))
          ];
        };
        fractions = fractions;
        share = only.share;
        est = only.est;
      }
