-- What single events and entries make of a side.
use Rattle.std.proofs.Common.{◌≡◌, ℕ, ◌+◌, ◌-◌, ◌^◌, ◌<◌, ◌≤◌, Bool, true, false, List, [], ◌∷◌, length, map, get_or, set, cond, Some, drop, drop-cons, add-one, refl, sym, ap, ◌∙◌, arith}
use Rattle.std.specs.List.{sum_by}
use Rattle.std.proofs.lemmas.Bool.Decides.{nat_tests}
use Rattle.std.proofs.lemmas.List.{get_or-map, drop_all, get_or_past, map-set, set_past}
use Rattle.std.proofs.lemmas.List.Elements.{All-cons, All-nil}
use Rattle.wbt_audit_walk.proofs.Common.{Decision, first, is_write, cpu_after, new_writer, Ended, Writer, Trace}
use Rattle.wbt_task.specs.Allowance.{ended, page_after}
use Rattle.wbt_task.specs.Counts.{Settles, counted, dirtied_by}
use Rattle.wbt_task.specs.History.{Along, Cpu, HasRoom, IsOfWriter, checked_writer, cpu_step, writer_of, wrote_page, wrote_writer}
use Rattle.wbt_task.specs.declared.allowance.CpuLocal.{CpuLocal}
use Rattle.wbt_task.specs.declared.history.Event.{Event}
use Rattle.wbt_task.specs.declared.history.Event.TheVariants.{Checked, Wrote}
use Rattle.wbt_task.proofs.Keeping.{same_writers, event_keeps}
use Rattle.wbt_task.proofs.Leaving.{room_is_kept}
use Rattle.wbt_journal.specs.Side.{TaskState, no_task}
use Rattle.wbt_journal.specs.Side as spec
use Rattle.wbt_audit_turns.specs.Sides.{Fits, cpu_of, state_of}
use Rattle.wbt_audit_turns.specs.declared.machine.Machine.{Machine}
use Rattle.wbt_audit_turns.specs.declared.side.Side.{Side}
use Rattle.wbt_audit_turns.specs.declared.side.TaskLeft.{TaskLeft}

-- ---- one event

pub one_room : (ratelimit_pages cap : ℕ) (cpu : Cpu) (event : Event) → HasRoom cpu event → Along HasRoom ratelimit_pages cap cpu (event ∷ [])
unfolding Along
one_room ratelimit_pages cap cpu event room = (room, tt)

pub one_event : (ratelimit_pages cap : ℕ) (cpu : Cpu) (event : Event) → cpu_after ratelimit_pages cap cpu (event ∷ []) ≡ cpu_step ratelimit_pages cap cpu event
unfolding cpu_after
one_event ratelimit_pages cap cpu event = refl

pub first_event : (ratelimit_pages cap : ℕ) (cpu : Cpu) (event : Event) (more : List Event) → cpu_after ratelimit_pages cap cpu (event ∷ more) ≡ cpu_after ratelimit_pages cap (cpu_step ratelimit_pages cap cpu event) more
unfolding cpu_after
first_event ratelimit_pages cap cpu event more = refl

pub no_event : (ratelimit_pages cap : ℕ) (cpu : Cpu) → cpu_after ratelimit_pages cap cpu [] ≡ cpu
unfolding cpu_after
no_event ratelimit_pages cap cpu = refl

has_first : (ratelimit_pages cap : ℕ) (cpu : Cpu) (event : Event) → Along HasRoom ratelimit_pages cap cpu (event ∷ []) → HasRoom cpu event
unfolding Along
has_first ratelimit_pages cap cpu event along = along.0

one_settles : (ratelimit_pages cap : ℕ) (cpu : Cpu) (event : Event) → Settles cpu event → Along Settles ratelimit_pages cap cpu (event ∷ [])
unfolding Along
one_settles ratelimit_pages cap cpu event settles = (settles, tt)

pub room_of : (ratelimit_pages cap : ℕ) (cpu : Cpu) (event : Event) → IsOfWriter (length cpu.writers) event → Settles cpu event → counted cpu ≤ 2 ^ 46 → cpu.local.since_check ≤ 2 ^ 46
    → HasRoom cpu event
room_of ratelimit_pages cap cpu event there settles pages since = has_first ratelimit_pages cap cpu event
    (room_is_kept ratelimit_pages cap cpu (event ∷ []) (All-cons (IsOfWriter (length cpu.writers)) event [] there (All-nil (IsOfWriter (length cpu.writers))))
    (one_settles ratelimit_pages cap cpu event settles) (omega arith) (omega arith))

page_since : (ratelimit_pages : ℕ) (local : CpuLocal) (writer : Writer) → (wrote_page ratelimit_pages local writer).local.since_check ≤ local.since_check + 1
unfolding page_after
page_since ratelimit_pages local writer = grind (arith, nat_tests)

pub since_by : (ratelimit_pages cap : ℕ) (cpu : Cpu) (event : Event) → (cpu_step ratelimit_pages cap cpu event).local.since_check ≤ cpu.local.since_check + is_write event
unfolding cpu_step ended is_write
since_by ratelimit_pages cap cpu (Wrote writer) = page_since ratelimit_pages cpu.local (writer_of cpu writer)
since_by ratelimit_pages cap cpu (Checked writer decision) = omega arith
since_by ratelimit_pages cap cpu (Ended writer) = omega arith

-- the side still fits after an event of a writer that is there
pub fits_by : (machine : Machine) (old new : Side) (ratelimit_pages cap : ℕ) (event : Event) → Fits machine old → IsOfWriter (length (cpu_of old).writers) event → Settles (cpu_of old) event
    → cpu_of new ≡ cpu_step ratelimit_pages cap (cpu_of old) event → new.tasks.items ≡ old.tasks.items → new.room + is_write event ≤ old.room → Fits machine new
fits_by machine old new ratelimit_pages cap event fits there settles is tasks room =
    let keeps = event_keeps ratelimit_pages cap (cpu_of old) event there settles in
    let since = since_by ratelimit_pages cap (cpu_of old) event in
    let counts : counted (cpu_of new) ≡ counted (cpu_step ratelimit_pages cap (cpu_of old) event) = ap counted is in
    let sinces : new.local.since_check ≡ (cpu_step ratelimit_pages cap (cpu_of old) event).local.since_check = ap (λ (c : Cpu). c.local.since_check) is in
    record {
      writers = ap (λ (c : Cpu). length c.writers) is ∙ same_writers ratelimit_pages cap (cpu_of old) event ∙ fits.writers;
      tasks = ap length tasks ∙ fits.tasks;
      pages = omega (arith, keeps, counts, fits.pages);
      since = omega (arith, since, sinces, fits.since);
    }

-- a writer of no number: what the CPU counts of its page
pub lone_page : (ratelimit_pages cap : ℕ) (cpu : Cpu) (n : ℕ) → length cpu.writers ≤ n
    → cpu_step ratelimit_pages cap cpu (Wrote n) ≡ record { local = (page_after cpu.local first 0 false ratelimit_pages).local; writers = cpu.writers }
unfolding cpu_step new_writer first
lone_page ratelimit_pages cap cpu n past =
    let default : get_or cpu.writers n (new_writer 0) ≡ new_writer 0 = get_or_past cpu.writers n (new_writer 0) past in
    (λ i. record {
      local = (wrote_page ratelimit_pages cpu.local (default i)).local;
      writers = set_past cpu.writers n (wrote_writer (wrote_page ratelimit_pages cpu.local (writer_of cpu n)) (writer_of cpu n)) past i;
    })

lone_leaks : (ratelimit_pages : ℕ) (local : CpuLocal) → (page_after local first 0 false ratelimit_pages).local.leaks ≤ local.leaks
unfolding page_after
lone_leaks ratelimit_pages local = omega arith

lone_since : (ratelimit_pages : ℕ) (local : CpuLocal) → (page_after local first 0 false ratelimit_pages).local.since_check ≤ local.since_check + 1
unfolding page_after
lone_since ratelimit_pages local = grind (arith, nat_tests)

pub fits_lone : (machine : Machine) (old new : Side) (ratelimit_pages cap n : ℕ) → Fits machine old → length old.writers.items ≤ n
    → cpu_of new ≡ cpu_step ratelimit_pages cap (cpu_of old) (Wrote n) → new.tasks.items ≡ old.tasks.items → new.room + 1 ≤ old.room → Fits machine new
fits_lone machine old new ratelimit_pages cap n fits past is tasks room =
    let now : cpu_of new ≡ record { local = (page_after old.local first 0 false ratelimit_pages).local; writers = old.writers.items } = is ∙ lone_page ratelimit_pages cap (cpu_of old) n past in
    let leaks : new.local.leaks ≡ (page_after old.local first 0 false ratelimit_pages).local.leaks = ap (λ (c : Cpu). c.local.leaks) now in
    let since : new.local.since_check ≡ (page_after old.local first 0 false ratelimit_pages).local.since_check = ap (λ (c : Cpu). c.local.since_check) now in
    let sums : sum_by dirtied_by new.writers.items ≡ sum_by dirtied_by old.writers.items = ap (λ (c : Cpu). sum_by dirtied_by c.writers) now in
    let few = lone_leaks ratelimit_pages old.local in
    let grows = lone_since ratelimit_pages old.local in
    record {
      writers = ap (λ (c : Cpu). length c.writers) now ∙ fits.writers;
      tasks = ap length tasks ∙ fits.tasks;
      pages = omega (arith, leaks, sums, few, fits.pages);
      since = omega (arith, since, grows, fits.since);
    }

pub lone_check : (ratelimit_pages cap : ℕ) (cpu : Cpu) (n : ℕ) (decision : Decision) → length cpu.writers ≤ n → cpu_step ratelimit_pages cap cpu (Checked n decision) ≡ cpu
unfolding cpu_step
lone_check ratelimit_pages cap cpu n decision past = λ i. record { local = cpu.local; writers = set_past cpu.writers n (checked_writer decision) past i }

-- ---- tasks

pub state_at : (tasks : List TaskLeft) (task : ℕ) (none : TaskLeft) → task < length tasks → get_or (map state_of tasks) task no_task ≡ state_of (get_or tasks task none)
state_at tasks task none less = get_or-map state_of tasks task none no_task less

pub page_passed : (tasks : List TaskLeft) (task : ℕ) (left : TaskLeft) → task < length tasks → left ≡ get_or tasks task left
    → map state_of (set tasks task (record { todo = left.todo - 1; has_ended = left.has_ended }))
    ≡ set (map state_of tasks) task (record { todo = (get_or (map state_of tasks) task no_task).todo - 1; has_ended = (get_or (map state_of tasks) task no_task).has_ended })
page_passed tasks task left less is =
    let at : get_or (map state_of tasks) task no_task ≡ state_of left = state_at tasks task left less ∙ ap state_of (sym is) in
    map-set state_of tasks task (record { todo = left.todo - 1; has_ended = left.has_ended })
    ∙ (λ i. set (map state_of tasks) task (record { todo = (sym at i).todo - 1; has_ended = (sym at i).has_ended }))

pub task_ended : (tasks : List TaskLeft) (task : ℕ) (left : TaskLeft) → task < length tasks → left ≡ get_or tasks task left
    → map state_of (set tasks task (record { todo = left.todo; has_ended = true }))
    ≡ set (map state_of tasks) task (record { todo = (get_or (map state_of tasks) task no_task).todo; has_ended = true })
task_ended tasks task left less is =
    let at : get_or (map state_of tasks) task no_task ≡ state_of left = state_at tasks task left less ∙ ap state_of (sym is) in
    map-set state_of tasks task (record { todo = left.todo; has_ended = true })
    ∙ (λ i. set (map state_of tasks) task (record { todo = (sym at i).todo; has_ended = true }))

-- ---- the ends of a task's writers

pub first_end : (ratelimit_pages cap : ℕ) (cpu now : Cpu) (ns : List ℕ) (i : ℕ) → i < length ns → now ≡ cpu_step ratelimit_pages cap cpu (Ended (get_or ns i 0))
    → cpu_after ratelimit_pages cap now (map Ended (drop (i + 1) ns)) ≡ cpu_after ratelimit_pages cap cpu (map Ended (drop i ns))
first_end ratelimit_pages cap cpu now ns i less is =
    ap (λ (c : Cpu). cpu_after ratelimit_pages cap c (map Ended (drop (i + 1) ns))) is
    ∙ sym (first_event ratelimit_pages cap cpu (Ended (get_or ns i 0)) (map Ended (drop (i + 1) ns)))
    ∙ ap (λ (xs : List ℕ). cpu_after ratelimit_pages cap cpu (map Ended xs)) (sym (drop_is ns i less))
  where
    drop_is : (ns : List ℕ) (i : ℕ) → i < length ns → drop i ns ≡ get_or ns i 0 ∷ drop (i + 1) ns
    drop_is ns i less = rw (add-one, drop-cons ns i 0) refl

pub last_end : (ratelimit_pages cap : ℕ) (cpu : Cpu) (ns : List ℕ) (i : ℕ) → length ns ≤ i → cpu_after ratelimit_pages cap cpu (map Ended (drop i ns)) ≡ cpu
last_end ratelimit_pages cap cpu ns i past = ap (λ (xs : List ℕ). cpu_after ratelimit_pages cap cpu (map Ended xs)) (drop_all i ns past) ∙ no_event ratelimit_pages cap cpu

-- ---- a write

pub write_is : (trace : Trace) (opened task context : ℕ) (fresh : Bool) (s : spec.Side)
    → spec.settle trace opened task (spec.with_page task (cond fresh (spec.write_fresh trace opened task context s) s)) ≡ spec.write_page trace opened task (Some context) fresh s
write_is trace opened task context true s = refl
write_is trace opened task context false s = refl
