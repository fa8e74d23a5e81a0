-- What the workers of a run told, wrote and cleaned, by where their sides stand.
use Rattle.std.proofs.Common.{◌≡◌, inl, ⊎_elim, ℕ, zero, suc, ◌+◌, ◌<◌, ◌≤◌, Bool, true, false, cond, List, [], ◌∷◌, length, count_by, slice_get, nat_lt, ◌==◌, if◌then◌else◌, Option, Some, None, Ok, All, refl, sym, ap, ◌∙◌, subst, arith, eq-eqb, eqb}
use Rattle.std.proofs.lemmas.List.Sums.{sum_by-cons}
use Rattle.wbt_run_worker.proofs.Common.{absorbs, completes, dirties, times, total, total_same, deeds_of, Each, effect, Told, after, IsLawful, Trace, Event, list_by, shown_by, Write, Kit, Seats, flusher_at, seen, record_of, Shown, ShownFlusher, none_shown}
use Rattle.wbt_kit.proofs.Common.{of_part, tells, cpu_of_task, pages_of_task, writes_after, is_on, TaskLine}
use Rattle.wbt_journal.specs.Checks.{NoneDue}
use Rattle.wbt_journal.specs.Leaves.{writes_of}
use Rattle.wbt_journal.specs.Machine.{task_cpu}
use Rattle.wbt_journal.specs.Told.{told as told_by}
use Rattle.wbt_journal.specs.declared.journal.Ending.TheVariants as ending
use Rattle.wbt_run_worker.specs.declared.side.CpuSide.{CpuSide}
use Rattle.wbt_run_worker.specs.declared.side.End.{End}
use Rattle.wbt_run_worker.specs.declared.side.End.TheVariants.{Ended, Halted, Faulted, Spent, Refused, Stopped}
use Rattle.wbt_run_worker.specs.declared.side.Post.{Post}
use Rattle.wbt_run_worker.specs.declared.side.Stand.TheVariants.{Out}
use Rattle.wbt_trace.specs.Lawful.{IsTask}
use Rattle.wbt_run_laws.specs.Walks.{items_told}
use Rattle.wbt_run_laws.specs.Worked.{AllWritten, NoneWaits}
use Rattle.wbt_run_drain.specs.Whole.{AreCleaned, log_at}
use Rattle.wbt_run_drain.specs.Ends.{Any, EndingIs, EndsSo, HasEnded, HaveEnded, IsOut, NoneEnds}
use Rattle.wbt_run_drain.specs.Standing.{AreAllCleaned, AreStanding, EndsBy, SideGoesOn, NoneWaitsForAge, OutBy, SideStands, WasStopped}
use Rattle.wbt_run_drain.specs.Teams.{logs_of, posts_of}
use Rattle.wbt_run.specs.Running.{AreHalted}
use Rattle.wbt_run.proofs.Causes.{any_at, each_in, found, found_at, found_cpu, in_sides, last, side_at, SideAt}

-- ---- writes

-- a write counts as its task
one_written : (task : ℕ) (write : Option Write) (tasks : List ℕ)
    → count_by (λ by. eqb by task) (of_part tasks (λ (w : Write). w.task ∷ tasks) write) ≡ cond (of_part false (λ (w : Write). eqb w.task task) write) 1 0 + count_by (λ by. eqb by task) tasks
one_written task None tasks = omega arith
one_written task (Some write) tasks = sum_by-cons (λ (t : ℕ). cond (eqb t task) 1 0) write.task tasks

-- the tasks that wrote are those of the entries
counted_in : (cpu task : ℕ) (part : List Told) (tasks : List ℕ) → count_by (λ by. eqb by task) (after writes_after tasks (items_told cpu part)) ≡ count_by (writes_of task) part + count_by (λ by. eqb by task) tasks
counted_in cpu task [] tasks = omega arith
counted_in cpu task (e ∷ part) tasks =
    let rest = counted_in cpu task part (writes_after tasks (tells cpu e)) in
    let first = sum_by-cons (λ (x : Told). cond (writes_of task x) 1 0) e part in
    let known = one_written task (effect e).write tasks in
    omega (arith, rest, first, known)

-- ---- tasks

-- a task with a CPU is one that there is
task_there : (lines : List TaskLine) (task cpu : ℕ) → cpu_of_task (slice_get lines task) ≡ Some cpu → task < length lines
task_there [] task cpu is = absurd (let e : None ≡ Some cpu = is in cc)
task_there (line ∷ lines) zero cpu is = omega arith
task_there (line ∷ lines) (suc task) cpu is = let rest = task_there lines task cpu is in omega arith

cpu_there : (cpus : ℕ) (lines : List TaskLine) (task cpu : ℕ) → All (IsTask cpus) lines → cpu_of_task (slice_get lines task) ≡ Some cpu → cpu < cpus
cpu_there cpus [] task cpu all is = absurd (let e : None ≡ Some cpu = is in cc)
cpu_there cpus (line ∷ lines) zero cpu all is = let e : line.cpu ≡ cpu = cc in subst (λ (c : ℕ). c < cpus) e (all 0 line (omega arith))
cpu_there cpus (line ∷ lines) (suc task) cpu all is = cpu_there cpus lines task cpu (λ k d low. all (suc k) d (omega arith)) is

own_on : (cpu : ℕ) (which : Option ℕ) → which ≡ Some cpu → is_on cpu which ≡ true
own_on cpu which is = ap (is_on cpu) is ∙ eq-eqb cpu cpu refl

-- at neither of two flushers an inode waits
either_waits : (here : Bool) (one other : ShownFlusher) → one.waits ≡ [] → other.waits ≡ [] → (if here then one else other).waits ≡ []
either_waits true one other a b = a
either_waits false one other a b = b

module _ {D : Type 0} (told : ℕ → Type 0) (said : ℕ → ℕ → Bool → Type 0) (written : D → Option ℕ) (faults : D → ℕ) (trace : Trace) (kit : Kit) (sides : List (CpuSide D))
    (seats : Seats) (standing : AreStanding told said written faults trace kit sides seats) where
  abbrev shown : ℕ → Shown
  shown = last told said written faults trace kit sides seats standing

  at : (cpu : ℕ) → cpu < trace.cpus → SideAt told said written faults trace kit sides seats standing cpu
  at = side_at told said written faults trace kit sides seats standing

  there : (cpu : ℕ) → cpu < trace.cpus → cpu < length sides
  there = in_sides told said written faults trace kit sides seats standing

  its_goes_on : (cpu : ℕ) (side : CpuSide D) → SideStands said written faults trace cpu kit side seats → side.end ≡ Ended → SideGoesOn said written faults trace cpu kit side seats
  its_goes_on cpu side stands_so is = subst (λ (e : End). EndsBy said written faults trace cpu kit e side seats) is stands_so.ends

  -- ---- where all have ended

  module _ (ended : HaveEnded sides) where
    goes_on : (cpu : ℕ) (less : cpu < trace.cpus) → SideGoesOn said written faults trace cpu kit (at cpu less).side seats
    goes_on cpu less =
        let a = at cpu less in
        its_goes_on cpu a.side a.stands_so (each_in HasEnded sides cpu a.side (there cpu less) a.is ended).ended

    pub none_due : (cpu : ℕ) → cpu < trace.cpus → NoneDue ending.Done (shown cpu).side
    none_due cpu less = subst (λ (s : Shown). NoneDue ending.Done s.side) (sym (at cpu less).shows) (goes_on cpu less).ended.done.none_due

    pub all_written : IsLawful trace → AllWritten trace shown
    all_written lawful task cpu on =
        let low = task_there trace.tasks task cpu on in
        let less = cpu_there trace.cpus trace.tasks task cpu lawful.within.tasks on in
        let a = at cpu less in
        let desk = a.stands_so.desk in
        let own = desk.at_kit.its.own task (subst (λ (t : Trace). task < length t.tasks) (sym desk.trace_is) low)
        ∙ ap (λ (t : Trace). is_on a.side.writers.cpu (task_cpu t task)) desk.trace_is ∙ own_on a.side.writers.cpu (task_cpu trace task) (on ∙ ap Some (sym desk.cpu_is)) in
        subst (λ (s : Shown). length (pages_of_task trace task) ≤ s.written task) (sym a.shows) ((goes_on cpu less).ended.done.all_written task low own)

    -- ---- where no inode waits for its age

    none_at : (posts : List (Post D)) (flusher : ℕ) → Each (λ (post : Post D). list_by post.flusher.work ≡ []) posts → (flusher_at (posts_of written faults posts) flusher).waits ≡ []
    none_at [] flusher none = refl
    none_at (post ∷ posts) flusher none =
        either_waits (flusher == post.flusher.plan.flusher) (shown_by post.flusher.work) (flusher_at (posts_of written faults posts) flusher) none.0 (none_at posts flusher none.1)

    pub none_waits : NoneWaitsForAge sides → NoneWaits trace shown
    none_waits none cpu flusher less =
        let a = at cpu less in
        ap (λ (s : Shown). (s.flushers flusher).waits) a.shows
        ∙ either_waits (nat_lt flusher (length trace.flushers)) (flusher_at (posts_of written faults a.side.posts.items) flusher) none_shown
        (none_at a.side.posts.items flusher
        (each_in (λ (side : CpuSide D). Each (λ (post : Post D). list_by post.flusher.work ≡ []) side.posts.items) sides cpu a.side (there cpu less) a.is none)) refl

    -- ---- where each page was cleaned

    same_times : (is : Event → Bool) → total trace.cpus (λ cpu. times is (deeds_of (shown cpu).held).events) ≡ total trace.cpus (λ cpu. times is (deeds_of (record_of cpu seats.cpu.cpus)).events)
    same_times is = total_same trace.cpus (λ cpu. times is (deeds_of (shown cpu).held).events) (λ cpu. times is (deeds_of (record_of cpu seats.cpu.cpus)).events)
        (λ cpu low. ap (λ (s : Shown). times is (deeds_of s.held).events) (at cpu low).shows)

    pub are_cleaned : AreAllCleaned trace seats → AreCleaned trace shown
    are_cleaned all page less =
        let dirtied = same_times (dirties page) in
        let completed = same_times (completes page) in
        let absorbed = same_times (absorbs page) in
        let them = all page less in
        omega arith

  -- ---- where one was halted

  stopped_out : (cpu : ℕ) (posts : List (Post D)) → Each (λ (post : Post D). (end : End) → post.stand ≡ Out end → OutBy said cpu kit seats end (seen written faults post)) posts
      → Any (IsOut Halted) posts → WasStopped said cpu seats
  stopped_out cpu [] causes any = absurd any
  stopped_out cpu (post ∷ posts) causes any = ⊎_elim (λ (one : IsOut Halted post). causes.0 Halted one) (λ more. stopped_out cpu posts causes.1 more) any

  was_stopped : (cpu : ℕ) (side : CpuSide D) → SideStands said written faults trace cpu kit side seats → EndsSo Halted side → WasStopped said cpu seats
  was_stopped cpu side stands_so so = ⊎_elim
      (λ (is : side.end ≡ Halted). subst (λ (e : End). EndsBy said written faults trace cpu kit e side seats) is stands_so.ends)
      (λ (out : Any (IsOut Halted) side.posts.items). stopped_out cpu side.posts.items stands_so.outs out) so

  -- what a CPU's log tells of a task's writes
  told_writes : (cpu task : ℕ) → cpu < trace.cpus → count_by (writes_of task) (told_by (log_at (logs_of sides) cpu)) ≡ (shown cpu).written task
  told_writes cpu task less =
      let since = (standing.told_all.together.cpus.each cpu less).since in
      let reached = since.since.wrote.reached [] (λ _task. refl) task in
      let counted = counted_in cpu task (told_by (log_at (logs_of sides) cpu)) [] in
      omega arith

  -- a CPU whose tasks have ended has told all their writes
  all_told : (cpu task : ℕ) (less : cpu < trace.cpus) → IsLawful trace → task_cpu trace task ≡ Some cpu → (at cpu less).side.end ≡ Ended
      → length (pages_of_task trace task) ≤ count_by (writes_of task) (told_by (log_at (logs_of sides) cpu))
  all_told cpu task less lawful on is =
      let a = at cpu less in
      let low = task_there trace.tasks task cpu on in
      let desk = a.stands_so.desk in
      let own = desk.at_kit.its.own task (subst (λ (t : Trace). task < length t.tasks) (sym desk.trace_is) low)
      ∙ ap (λ (t : Trace). is_on a.side.writers.cpu (task_cpu t task)) desk.trace_is ∙ own_on a.side.writers.cpu (task_cpu trace task) (on ∙ ap Some (sym desk.cpu_is)) in
      let all = (its_goes_on cpu a.side a.stands_so is).ended.done.all_written task low own in
      let showed = ap (λ (s : Shown). s.written task) a.shows in
      let told_so = told_writes cpu task less in
      omega arith

  cause_of : (cpu task : ℕ) (less : cpu < trace.cpus) → IsLawful trace → task_cpu trace task ≡ Some cpu
      → count_by (writes_of task) (told_by (log_at (logs_of sides) cpu)) < length (pages_of_task trace task)
      → NoneEnds Stopped sides → NoneEnds Spent sides → NoneEnds Faulted sides → NoneEnds Refused sides
      → (end : End) → (at cpu less).side.end ≡ end → WasStopped said cpu seats
  cause_of cpu task less lawful on few t s f r Ended is = absurd (let all = all_told cpu task less lawful on is in omega arith)
  cause_of cpu task less lawful on few t s f r Halted is = was_stopped cpu (at cpu less).side (at cpu less).stands_so (inl is)
  cause_of cpu task less lawful on few t s f r Stopped is = absurd (t (any_at (EndsSo Stopped) sides cpu (at cpu less).side (there cpu less) (at cpu less).is (inl is)))
  cause_of cpu task less lawful on few t s f r Spent is = absurd (s (any_at (EndsSo Spent) sides cpu (at cpu less).side (there cpu less) (at cpu less).is (inl is)))
  cause_of cpu task less lawful on few t s f r Faulted is = absurd (f (any_at (EndsSo Faulted) sides cpu (at cpu less).side (there cpu less) (at cpu less).is (inl is)))
  cause_of cpu task less lawful on few t s f r Refused is = absurd (r (any_at (EndsSo Refused) sides cpu (at cpu less).side (there cpu less) (at cpu less).is (inl is)))

  pub are_halted : IsLawful trace → EndingIs sides (Ok ending.Halted) → AreHalted said trace seats (logs_of sides)
  are_halted lawful is =
      let f = found (EndsSo Halted) sides is.0 in
      record {
        cpu = f.place;
        there = found_cpu told said written faults trace kit sides seats standing (EndsSo Halted) f;
        stopped = was_stopped f.place f.it (found_at told said written faults trace kit sides seats standing (EndsSo Halted) f) f.such;
        each = λ task of on few.
            let less = cpu_there trace.cpus trace.tasks task of lawful.within.tasks on in
            cause_of of task less lawful on few is.1 is.2 is.3 is.4 (at of less).side.end refl;
      }
