-- What a check needs where it ends, and what it then is.
use Rattle.std.proofs.Common.{◌≡◌, ◌≢◌, ℕ, ◌^◌, ◌<◌, ◌≤◌, inl, inr, true, sym, ap, ◌∙◌, subst, arith}
use Rattle.std.proofs.lemmas.Bool.{cases_eq}
use Rattle.std.proofs.lemmas.List.Sums.{get_or-le-sum_by}
use Rattle.wbt_writer.proofs.Common.{MayGrant, context_domain, ratelimit_pages, settle, CheckEntry, CpuJournal, Decision, is_strict, setting, Seated, dirtied_by, new_writer, writer_of, IsLawful, Trace, IsInRange, all_writers, number_of, Kit, Seats, Wait, record_of, Gives, reads_for, Checks, AreTasksOf, KeepsFixed, OthersStay, cpu_of, is_due_at, rest_after, side_of, task_at, AreAt, Fits, HaveLefts, HaveRead, IsGoing, OwesNothing, record_in, sight, LoadedAll, AreOver, IsOver, own_of, no_name, state_of}
use Rattle.wbt_journal.specs.Side.{check_by as check_side}
use Rattle.wbt_rules.specs.Things.{group_of}
use Rattle.wbt_pause.specs.declared.reads.Task.{Task as Numbers}
use Rattle.wbt_strict.proofs.Deciding.{leaves_within_cap}
use Rattle.wbt_run_laws.specs.Log.{with_check}
use Rattle.wbt_writer.specs.Asked.{Asked, check_by}
use Rattle.wbt_trace.specs.declared.writers.Writer.{Writer as Name}
use Rattle.std.specs.Prelude.{get_or, length}
use Rattle.std.proofs.lemmas.List.{length-map}
use Rattle.wbt_writer.proofs.Checking.{step_others}
use Rattle.wbt_writer.proofs.Facts.{its_own, number_is}
use Rattle.wbt_writer.proofs.Lefts.{has_ended_is}
use Rattle.wbt_writer.proofs.Over.{counts_over, own_over, settle_over}
use Rattle.wbt_writer.specs.declared.loads.Loads.{Loads}
use Rattle.wbt_writer.specs.declared.task.TaskPlace.{TaskPlace}
use Rattle.wbt_writer.specs.declared.tasks.Tasks.{Tasks}
use Rattle.wbt_writer.specs.declared.work.WriterWork.{WriterWork}
use Rattle.wbt_writer.proofs.Checking.{TasksChecked, checks}
use Rattle.wbt_writer.proofs.Facts.{inside}
use Rattle.wbt_writer.proofs.Granting.{may_grant}
use Rattle.wbt_writer.proofs.Standing.{at_tasks, works_there, writer_there}

module _ (trace : Trace) (cpu : ℕ) (kit : Kit) (was : WriterWork) (s0 : Seats) (at : AreAt trace cpu kit was s0) (task : ℕ) (going : IsGoing trace was.tasks task)
    (due_now : is_due_at (cpu_of was.tasks) (task_at was.tasks task).writer ≡ true) where
  abbrev t' : TaskPlace
  t' = task_at was.tasks task

  abbrev numbers : Numbers
  numbers = (writer_of (cpu_of was.tasks) (task_at was.tasks task).writer).task

  group_at : (t : TaskPlace) (group : ℕ) → t ≡ task_at was.tasks task → group ≡ group_of trace t.context → group ≡ context_domain trace (task_at was.tasks task).context
  group_at t group is its = its ∙ ap (λ (x : TaskPlace). group_of trace x.context) is

  loaded_at : (t : TaskPlace) (group : ℕ) (loads : Loads) (s1 : Seats) → t ≡ task_at was.tasks task → group ≡ group_of trace t.context → LoadedAll (setting kit.throttle.layout) cpu t.writer t.context group loads s0 s1
      → LoadedAll (setting kit.throttle.layout) cpu (task_at was.tasks task).writer (task_at was.tasks task).context (context_domain trace (task_at was.tasks task).context) loads s0 s1
  loaded_at t group loads s1 is its loaded =
      subst (λ (z : TaskPlace × ℕ). LoadedAll (setting kit.throttle.layout) cpu z.0.writer z.0.context z.1 loads s0 s1) (λ i. (is i, group_at t group is its i)) loaded

  -- the writer may be granted pages
  pub may_give_by : (t : TaskPlace) (group now : ℕ) (loads : Loads) (check : CheckEntry) (is0 : WriterWork) (s1 s2 : Seats) → t ≡ task_at was.tasks task → group ≡ group_of trace t.context
      → LoadedAll (setting kit.throttle.layout) cpu t.writer t.context group loads s0 s1
      → Asked trace kit task (task_at was.tasks task).context now (writer_of (cpu_of was.tasks) (task_at was.tasks task).writer).task loads check was is0 s1 s2 → check.decision.kind ≢ Wait
      → MayGrant (setting kit.throttle.layout) t.writer check.decision.left (record_in cpu s2)
  may_give_by t group now loads check is0 s1 s2 is its loaded asked goes =
      subst (λ (w : ℕ). MayGrant (setting kit.throttle.layout) w check.decision.left (record_in cpu s2)) (sym (ap (λ (x : TaskPlace). x.writer) is))
      (subst (λ (s : Seated). MayGrant (setting kit.throttle.layout) t'.writer check.decision.left (record_of cpu s.cpus)) (sym asked.cpu)
      (may_grant (setting kit.throttle.layout) trace cpu t'.writer t'.context (context_domain trace t'.context) loads asked.lines check.decision s0 s1
      (let low = writer_there trace cpu kit was s0 at task going due_now in low) (sym at.suits.throttle.cpus) (sym at.suits.throttle.cap)
      (at.suits.throttle.groups ((setting kit.throttle.layout).works_in t'.writer) ∙ ap (context_domain trace) (works_there trace cpu kit was s0 at task going due_now))
      (loaded_at t group loads s1 is its loaded) asked.has_lines (asked.may_get goes)))

  -- its numbers stay small
  pub stays_small : (now : ℕ) (loads : Loads) (check : CheckEntry) (is0 : WriterWork) (s1 s2 : Seats)
      → Asked trace kit task (task_at was.tasks task).context now (writer_of (cpu_of was.tasks) (task_at was.tasks task).writer).task loads check was is0 s1 s2 → check.decision.task.nr_dirtied_pause ≤ 2 ^ 47
  stays_small now loads check is0 s1 s2 asked =
      let low = inside trace cpu kit was s0 at task going due_now in
      let few = at.is_work.tasks.counted.few in
      let one = get_or-le-sum_by dirtied_by was.tasks.writers.items t'.writer (new_writer 0) low in
      let pages = few.pages in
      let most = few.allowances t'.writer low in
      let small = asked.small.allowance in omega arith

  pub checked_by : (now group : ℕ) (t : TaskPlace) (is0 is : WriterWork) (s1 s2 s3 : Seats) (log : CpuJournal) (loads : Loads) (check : CheckEntry) (told : ℕ → Type 0) → told now → t ≡ task_at was.tasks task → group ≡ group_of trace t.context
      → LoadedAll (setting kit.throttle.layout) cpu t.writer t.context group loads s0 s1
      → Asked trace kit task (task_at was.tasks task).context now (writer_of (cpu_of was.tasks) (task_at was.tasks task).writer).task loads check was is0 s1 s2
      → Gives cpu t.writer check.decision s2 s3 → is.fractions.items ≡ is0.fractions.items
      → ((opened : ℕ) → is0.tasks.ratelimit_pages ≡ ratelimit_pages trace opened → side_of is.tasks ≡ settle trace opened task (check_side trace opened task (task_at is0.tasks task).context check.decision (side_of is0.tasks)))
      → task_at is.tasks task ≡ record (task_at is0.tasks task) { rest = rest_after check.decision now (task_at is0.tasks task); ended = (task_at is.tasks task).ended } → OthersStay task is0.tasks is.tasks
      → HaveRead trace was s0 → OwesNothing cpu s0 → HaveLefts trace cpu kit was.tasks s0 → Checks told trace kit cpu task (sight was s0 log) (sight is s3 (with_check check log))
  checked_by now group t is0 is s1 s2 s3 log loads check told was_told at_is group_is loaded asked gives fractions side own others have owes had =
      let opened : ℕ = kit.published.moment in
      let lit : CheckEntry = check_by trace task t'.context now loads asked.lines asked.estimate numbers in
      let done : TasksChecked trace opened task now check.decision is0.tasks is.tasks = record {
        side = side opened (ap (λ (s : Tasks). s.ratelimit_pages) asked.tasks ∙ at.its.ratelimit);
        own = own;
        others = others;
      } in
      let done' : TasksChecked trace opened task now lit.decision was.tasks is.tasks =
      subst (λ (z : Decision × Tasks). TasksChecked trace opened task now z.0 z.1 is.tasks) (λ i. (ap (λ (c : CheckEntry). c.decision) asked.check_is i, asked.tasks i)) done in
      let gives' : Gives cpu t'.writer lit.decision s2 s3 = subst (λ (z : TaskPlace × Decision). Gives cpu z.0.writer z.1 s2 s3) (λ i. (at_is i, ap (λ (c : CheckEntry). c.decision) asked.check_is i)) gives in
      subst (λ (c : CheckEntry). Checks told trace kit cpu task (sight was s0 log) (sight is s3 (with_check c log))) (sym asked.check_is)
      (checks trace kit cpu task now was is s0 s1 s2 s3 log loads asked.lines asked.estimate at going due_now have (loaded_at t group loads s1 at_is group_is loaded) asked.has_lines asked.read asked.estimated asked.cpu asked.queue
      gives' (fractions ∙ asked.fractions) done' (subst (λ (c : CheckEntry). IsInRange c asked.estimate numbers) asked.check_is asked.in_range) told was_told owes had)

-- at most cap pages are left, and one at least where the writer goes on
pub leaves : (trace : Trace) (kit : Kit) (task context now : ℕ) (numbers : Numbers) (loads : Loads) (check : CheckEntry) (was is0 : WriterWork) (s1 s2 : Seats) → IsLawful trace → Asked trace kit task context now numbers loads check was is0 s1 s2
    → (check.decision.left ≤ trace.cap) × (check.decision.kind ≢ Wait → 1 ≤ check.decision.left)
leaves trace kit task context now numbers loads check was is0 s1 s2 lawful asked =
    subst (λ (d : Decision). (d.left ≤ trace.cap) × (d.kind ≢ Wait → 1 ≤ d.left)) (sym (ap (λ (c : CheckEntry). c.decision) asked.check_is))
    (leaves_within_cap (is_strict trace context) (reads_for trace context asked.lines loads.count) asked.estimate numbers now lawful.within.cap.0)

pub checked_stands : (trace : Trace) (cpu : ℕ) (kit : Kit) (is0 is : WriterWork) (s2 s3 : Seats) (task : ℕ) (decision : Decision) → AreAt trace cpu kit is0 s2 → IsGoing trace is0.tasks task
    → is_due_at (cpu_of is0.tasks) (task_at is0.tasks task).writer ≡ true
    → side_of is.tasks ≡ settle trace kit.published.moment task (check_side trace kit.published.moment task (task_at is0.tasks task).context decision (side_of is0.tasks)) → AreTasksOf trace is.tasks → KeepsFixed is0.tasks is.tasks → OthersStay task is0.tasks is.tasks
    → (task_at is.tasks task).own ≡ (task_at is0.tasks task).own → is.fractions.items ≡ is0.fractions.items → is.waiting.items ≡ is0.waiting.items → Fits cpu kit s3 → AreAt trace cpu kit is s3
checked_stands trace cpu kit is0 is s2 s3 task decision at going due_now side tasks fixed others own fractions waiting fits =
    at_tasks trace cpu kit is0 is s2 s3 at tasks fixed (λ n low. own_same n) over fractions waiting fits
  where
    own_same : (n : ℕ) → (task_at is.tasks n).own ≡ (task_at is0.tasks n).own
    own_same n = elim (cases_eq n task) [
      | inl same ↦ subst (λ (k : ℕ). (task_at is.tasks k).own ≡ (task_at is0.tasks k).own) (sym same) own
      | inr other ↦ ap (λ (x : TaskPlace). x.own) (others n other)
    ]

    there : task < length (side_of is0.tasks).tasks
    there = let same = length-map is0.tasks.tasks.items state_of in let all = at.is_work.tasks.counted.tasks in let low = going.there in omega arith

    named : (get_or (all_writers trace) (number_of trace task (task_at is0.tasks task).context) no_name).task ≡ task
    named = ap (λ (n : ℕ). (get_or (all_writers trace) n no_name).task) (number_is trace cpu kit is0 s2 at task going due_now) ∙ ap (λ (n : Name). n.task) (its_own trace cpu kit is0 s2 at task going due_now)

    checked_over : IsOver trace (own_of is0.tasks) (check_side trace kit.published.moment task (task_at is0.tasks task).context decision (side_of is0.tasks))
    checked_over = counts_over trace (own_of is0.tasks) kit.published.moment task (side_of is0.tasks) (check_side trace kit.published.moment task (task_at is0.tasks task).context decision (side_of is0.tasks)).cpu
        (number_of trace task (task_at is0.tasks task).context) named going.own (has_ended_is is0.tasks task ∙ going.going)
        (λ n other. step_others (ratelimit_pages trace kit.published.moment) trace.cap (cpu_of is0.tasks) (number_of trace task (task_at is0.tasks task).context) n decision other) at.is_work.over

    over : AreOver trace is.tasks
    over = own_over trace (own_of is0.tasks) (own_of is.tasks) (side_of is.tasks) own_same
        (subst (IsOver trace (own_of is0.tasks)) (sym side)
        (settle_over trace (own_of is0.tasks) kit.published.moment task (check_side trace kit.published.moment task (task_at is0.tasks task).context decision (side_of is0.tasks)) there checked_over))
