-- What a check asked, from what its calls answered.
use Rattle.std.proofs.Common.{◌≡◌, ◌≢◌, ℕ, ℤ, pos, negsuc, ◌^◌, ◌<◌, ◌≤◌, Bool, Option, Some, None, length, set, refl, sym, ap, ◌∙◌, subst, arith}
use Rattle.std.specs.Prelude.{IfSome, unsigned_abs}
use Rattle.std.proofs.lemmas.List.Elements.{All-get_or}
use Rattle.wbt_num.specs.Limits.{IsLawful as AreLawful}
use Rattle.wbt_writer.proofs.Common.{at_least_zero, Count, Estimate, IsInRange, CheckEntry, DomainLine, IsCounted, Decision, note_of, known_of, is_strict, context_at, writer_of, IsLawful, Trace, DomainLoad, Kit, Seats, Wait, reads_for, cpu_of, task_at, AreProper, fractions_of, HasGroupLine, HasLines, LinesRead, fractions_after}
use Rattle.wbt_kit.proofs.Common.{Fraction, after_read, first_in, least_shares, Device}
use Rattle.wbt_estimate.specs.Estimate.{IsSound}
use Rattle.wbt_journal.specs.Checks.{IsPart, IsRead, cgroup_read, domain_read}
use Rattle.wbt_pause.specs.Claims.{MayBeGranted}
use Rattle.wbt_pause.specs.Reads.{EachDomain, StaysSmall}
use Rattle.wbt_pause.specs.declared.reads.Reads.{Reads}
use Rattle.wbt_pause.specs.declared.reads.Task.{Task as Numbers}
use Rattle.wbt_position.specs.declared.ratio.DomainRead.{DomainRead}
use Rattle.wbt_rules.proofs.Parts.{part_is_within}
use Rattle.wbt_rules.specs.Things.{device_at}
use Rattle.wbt_strict.specs.Decision.{decision_for}
use Rattle.wbt_trace.specs.Lawful.{IsDevice}
use Rattle.wbt_writer.specs.Asked.{Asked}
use Rattle.wbt_writer.specs.Desk.{IsProper}
use Rattle.wbt_writer.specs.Lines.{share_after}
use Rattle.wbt_writer.specs.Loads.{AreInRange}
use Rattle.wbt_writer.specs.Loads.{IsInRange as IsLoadInRange}
use Rattle.wbt_writer.specs.declared.lines.Lines.{Lines}
use Rattle.wbt_writer.specs.declared.loads.Loads.{Loads}
use Rattle.wbt_writer.specs.declared.task.TaskPlace.{TaskPlace}
use Rattle.wbt_writer.specs.declared.work.Fractions.{Fractions}
use Rattle.wbt_writer.specs.declared.work.WriterWork.{WriterWork}

-- ---- parts

-- a context's part of each domain's threshold is at most the threshold
pub parts_within : (trace : Trace) (context : ℕ) (lines : Lines) (count : Count) → IsLawful trace → (context_at trace context).device < length trace.devices
    → EachDomain (λ domain. domain.wb_thresh ≤ domain.limits.thresh) (reads_for trace context lines count)
parts_within trace context lines count lawful there = (one lines.global, each lines.cgroup)
  where
    device : Device
    device = device_at trace (context_at trace context).device

    most : device.max ≤ 100
    most = (All-get_or IsDevice trace.devices (context_at trace context).device _ there lawful.within.devices.each).shares.1

    one : (line : DomainLine) → (domain_read trace context line).wb_thresh ≤ line.limits.thresh
    one line = part_is_within device (least_shares trace.devices) line.limits line.share (at_least_zero line.count.value) most

    each : (line : Option DomainLine) → IfSome (cgroup_read trace context line) (λ (domain : DomainRead). domain.wb_thresh ≤ domain.limits.thresh)
    each None = tt
    each (Some line) = one line

-- ---- numbers in range

part_of : (share : Fraction) → IsProper share → IsPart share
part_of share proper = record { some = proper.0; within = proper.1; few = (let low = proper.2 in omega arith) }

group_in_range : (load : Option DomainLoad) (line : Option DomainLine) (kept : Fraction) → HasGroupLine load line → IsProper (share_after line kept) → IfSome load IsLoadInRange → IfSome line IsRead
group_in_range None None kept has proper range = tt
group_in_range None (Some line) kept has proper range = absurd has
group_in_range (Some load) None kept has proper range = absurd has
group_in_range (Some load) (Some line) kept has proper range = record { limits = subst AreLawful (sym has.limits) range.lawful; share = part_of line.share proper }

few_pages : (value : ℤ) → unsigned_abs value ≤ 2 ^ 31 → at_least_zero value < 2 ^ 33
few_pages (pos n) few = omega (arith, few)
few_pages (negsuc n) few = omega arith

-- a check's numbers are in the ranges of the control law
in_range : (check : CheckEntry) (loads : Loads) (lines : Lines) (kept : Fractions) (estimate : Estimate) (numbers : Numbers) → check.global ≡ lines.global → check.cgroup ≡ lines.cgroup → check.count ≡ loads.count
    → HasLines loads lines → AreProper (fractions_after lines kept) → AreInRange loads → IsSound estimate → IsCounted numbers → check.now < 2 ^ 62 → IsInRange check estimate numbers
in_range check loads lines kept estimate numbers global cgroup count has proper range sound counted before = record {
  global = subst IsRead (sym global) (record { limits = subst AreLawful (sym has.limits) range.global.lawful; share = part_of lines.global.share proper.0 });
  cgroup = subst (λ (line : Option DomainLine). IfSome line IsRead) (sym cgroup) (group_in_range loads.group lines.cgroup kept.group has.group proper.1 range.group);
  pages = subst (λ (c : Count). at_least_zero c.value < 2 ^ 33) (sym count) (few_pages loads.count.value range.few);
  rate = record { usable = record { average = sound.average; ratelimit = sound.ratelimit.0 }; ratelimit = sound.ratelimit.1 };
  counted = counted;
  moment = before;
}

-- ---- what was asked

-- where the task is the one that is asked for, and all else is what it names
pub asked_so : (trace : Trace) (kit : Kit) (task now : ℕ) (was is : WriterWork) (old new : Seats) (loads : Loads) (lines : Lines) (estimate : Estimate) (t : TaskPlace) (decision : Decision)
    → HasLines loads lines → LinesRead t.context lines (fractions_of t.context was) old.share new.share
    → new.est ≡ record old.est { known = set old.est.known t.context (after_read (note_of estimate) (known_of t.context old.est)) } → (estimate.version ≡ 0 → estimate ≡ first_in kit.published.firsts t.context) → IsSound estimate
    → (known_of t.context old.est).seen ≤ estimate.version → is.tasks ≡ was.tasks → is.fractions.items ≡ set was.fractions.items t.context (fractions_after lines (fractions_of t.context was)) → is.waiting.items ≡ was.waiting.items
    → new.cpu ≡ old.cpu → new.queue ≡ old.queue → decision ≡ decision_for (is_strict trace t.context) (reads_for trace t.context lines loads.count) estimate (writer_of (cpu_of was.tasks) t.writer).task now → decision.pause ≤ 200
    → (decision.kind ≢ Wait → MayBeGranted (reads_for trace t.context lines loads.count) decision) → (estimate.ratelimit < 2 ^ 44 → StaysSmall (writer_of (cpu_of was.tasks) t.writer).task decision.task)
    → AreProper (fractions_after lines (fractions_of t.context was)) → AreInRange loads → IsCounted (writer_of (cpu_of was.tasks) t.writer).task → now < 2 ^ 62
    → Asked trace kit task t.context now (writer_of (cpu_of was.tasks) t.writer).task loads
    (record { task = task; context = t.context; now = now; global = lines.global; cgroup = lines.cgroup; count = loads.count; estimate = estimate.version; decision = decision }) was is old new
asked_so trace kit task now was is old new loads lines estimate t decision has read noted first sound fresh tasks fractions waiting cpu queue decided pause may small proper range counted before = record {
  lines = lines;
  estimate = estimate;
  check_is = ap (λ (d : Decision). record { task = task; context = t.context; now = now; global = lines.global; cgroup = lines.cgroup; count = loads.count; estimate = estimate.version; decision = d }) decided;
  has_lines = has;
  read = read;
  estimated = record { noted = noted; first = first; sound = sound; no_older = fresh };
  fractions = fractions;
  tasks = tasks;
  waiting = waiting;
  cpu = cpu;
  queue = queue;
  may_get = may;
  pause = pause;
  small = small (let low = sound.ratelimit in omega arith);
  in_range = in_range
      (record { task = task; context = t.context; now = now; global = lines.global; cgroup = lines.cgroup; count = loads.count; estimate = estimate.version; decision = decision })
      loads lines (fractions_of t.context was) estimate (writer_of (cpu_of was.tasks) t.writer).task refl refl refl has proper range sound counted before;
}

pub asked_by_parts : (trace : Trace) (kit : Kit) (task now : ℕ) (was is : WriterWork) (old new : Seats) (loads : Loads) (lines : Lines) (estimate : Estimate) (t : TaskPlace) (kept after : Fractions) (numbers : Numbers) (strict : Bool) (reads : Reads) (decision : Decision)
    → t ≡ task_at was.tasks task → kept ≡ fractions_of t.context was → numbers ≡ (writer_of (cpu_of was.tasks) t.writer).task → strict ≡ is_strict trace t.context → after ≡ fractions_after lines kept → reads ≡ reads_for trace t.context lines loads.count
    → HasLines loads lines → LinesRead t.context lines kept old.share new.share
    → new.est ≡ record old.est { known = set old.est.known t.context (after_read (note_of estimate) (known_of t.context old.est)) } → (estimate.version ≡ 0 → estimate ≡ first_in kit.published.firsts t.context) → IsSound estimate
    → (known_of t.context old.est).seen ≤ estimate.version → is.tasks ≡ was.tasks → is.fractions.items ≡ set was.fractions.items t.context after → is.waiting.items ≡ was.waiting.items → new.cpu ≡ old.cpu → new.queue ≡ old.queue
    → decision ≡ decision_for strict reads estimate numbers now → decision.pause ≤ 200 → (decision.kind ≢ Wait → MayBeGranted reads decision) → (estimate.ratelimit < 2 ^ 44 → StaysSmall numbers decision.task)
    → AreProper after → AreInRange loads → IsCounted numbers → now < 2 ^ 62
    → Asked trace kit task (task_at was.tasks task).context now (writer_of (cpu_of was.tasks) (task_at was.tasks task).writer).task loads
    (record { task = task; context = t.context; now = now; global = lines.global; cgroup = lines.cgroup; count = loads.count; estimate = estimate.version; decision = decision }) was is old new
asked_by_parts trace kit task now was is old new loads lines estimate t kept after numbers strict reads decision at kept_is numbers_is strict_is after_is reads_is has read noted first sound fresh tasks fractions waiting cpu queue decided pause may small proper range counted before =
    subst (λ (x : TaskPlace). Asked trace kit task x.context now (writer_of (cpu_of was.tasks) x.writer).task loads
    (record { task = task; context = t.context; now = now; global = lines.global; cgroup = lines.cgroup; count = loads.count; estimate = estimate.version; decision = decision }) was is old new) at
    (asked_so trace kit task now was is old new loads lines estimate t decision has
    (subst (λ (f : Fractions). LinesRead t.context lines f old.share new.share) kept_is read) noted first sound fresh tasks
    (fractions ∙ ap (λ (f : Fractions). set was.fractions.items t.context f) (after_is ∙ ap (fractions_after lines) kept_is)) waiting cpu queue
    (decided ∙ ap (λ (z : Bool × Reads × Numbers). decision_for z.0 z.1 estimate z.2 now) (λ i. (strict_is i, reads_is i, numbers_is i))) pause
    (λ goes. subst (λ (r : Reads). MayBeGranted r decision) reads_is (may goes)) (λ low. subst (λ (n : Numbers). StaysSmall n decision.task) numbers_is (small low))
    (subst AreProper (after_is ∙ ap (fractions_after lines) kept_is) proper) range (subst IsCounted numbers_is counted) before)
