use Rattle.wbt_writer.proofs.work.WriterWork.dirty.Goals as goal
use Rattle.std.proofs.Common.{◌≡◌, ℕ, ◌+◌, ◌<◌, false, true, length, get_or, refl, sym, ap, ◌∙◌, subst, arith}
use Rattle.wbt_writer.proofs.Common.{all_writers, number_of, settle, with_page, write_fresh, setting, Holds, Seated, Dirtied, Fresh, Already, inode_at, Trace, Seats, OnlyCpu, no_name, side_of, task_at, sight, once_made}
use Rattle.wbt_kit.proofs.Common.{CanDirty, HasNoPageSteps, HasPageSteps, few_writers, dirty}
use Rattle.wbt_journal.specs.declared.entry.Entry.TheVariants as entry
use Rattle.wbt_table.specs.Calls.{Dirties as TableDirties}
use Rattle.wbt_run_laws.specs.Log.{with_entry}
use Rattle.wbt_writer.specs.Exact.{MovesAlong}
use Rattle.wbt_writer.specs.declared.tasks.Tasks.{Tasks}
use Rattle.wbt_writer.specs.declared.work.WriterWork.{WriterWork}
use Rattle.wbt_writer.proofs.Dirtying.{already, at_kit, dirtied_as, fresh, has_page, inside, may, spent_is}
use Rattle.wbt_writer.proofs.Places.{page_few}
use Rattle.wbt_run_steps.proofs.Gating.{once_none}

abbrev with_cpu : (seats : Seats) (cpu : Seated) → Seats
with_cpu seats cpu = record { cpu = cpu; share = seats.share; est = seats.est; queue = seats.queue }

abbrev with_tasks : (work : WriterWork) (tasks : Tasks) → WriterWork
with_tasks work tasks = record { tasks = tasks; fractions = work.fractions; waiting = work.waiting }

only : (seats : Seats) (cpu : Seated) → OnlyCpu seats (with_cpu seats cpu)
only seats cpu = record { share = refl; est = refl; queue = refl }

-- the writer's number, as the code has it
number_is : (trace : Trace) (task inode n k : ℕ) → k ≡ (inode_at inode trace.inodes).context → n ≡ number_of trace task k → n ≡ number_of trace task (inode_at inode trace.inodes).context
number_is trace task inode n k context number = number ∙ ap (number_of trace task) context

named_is : (trace : Trace) (task inode n k most : ℕ) → k ≡ (inode_at inode trace.inodes).context → n ≡ number_of trace task k
    → (n < most → get_or (all_writers trace) n no_name ≡ record { task = task; context = k }) → number_of trace task (inode_at inode trace.inodes).context < most
    → get_or (all_writers trace) (number_of trace task (inode_at inode trace.inodes).context) no_name ≡ record { task = task; context = (inode_at inode trace.inodes).context }
named_is trace task inode n k most context number named less =
    subst (λ (z : ℕ × ℕ). z.0 < most → get_or (all_writers trace) z.0 no_name ≡ record { task = task; context = z.1 }) (λ i. (number_is trace task inode n k context number i, context i)) named less

pub number-writer-requires-clause-few : goal.number-writer-requires-clause-few
number-writer-requires-clause-few c =
    let few = few_writers c.args.place.now.trace.now c.requires.at_kit.is_work.lawful in
    let same = ap length c.requires.at_kit.is_work.tasks.counted.names in omega arith

pub overflow_add-page : goal.overflow_add-page
overflow_add-page c =
    let few = page_few c.args.place.now.trace.now c.requires.at_kit.is_work.lawful c.args.inode c.args.page (has_page c.args.place.now.trace.now c.args.place.now.cpu c.args.kit.now c.args.self.now c.args.seats.now c.requires.at_kit c.args.task c.requires.task c.args.inode c.args.page c.requires.its_job) in
    let first = c.first_of.ensures in omega arith

pub dirty-requires-clause-may : goal.dirty-requires-clause-may
dirty-requires-clause-may c =
    let number = number_is c.args.place.now.trace.now c.args.task c.args.inode c.number-writer.result c.context_of-context.result c.context_of-context.ensures c.number-writer.ensures.value in
    let first = c.first_of.ensures in
    let named = named_is c.args.place.now.trace.now c.args.task c.args.inode c.number-writer.result c.context_of-context.result (length c.args.self.now.tasks.writers.items) c.context_of-context.ensures c.number-writer.ensures.value c.number-writer.ensures.named (inside c.args.place.now.trace.now c.args.place.now.cpu c.args.kit.now c.args.self.now c.args.seats.now c.requires.at_kit c.args.task c.requires.task c.args.inode c.args.page c.requires.its_job) in
    subst (λ (z : ℕ × ℕ). Holds c.args.seats.now.cpu.cpus ((setting c.args.kit.now.throttle.layout).seat z.0) (CanDirty (setting c.args.kit.now.throttle.layout) z.0 (z.1 + c.args.page)))
    (λ i. (sym number i, sym first i)) (may c.args.place.now.trace.now c.args.place.now.cpu c.args.kit.now c.args.self.now c.args.seats.now c.requires.at_kit c.args.task c.requires.task c.args.inode c.args.page c.requires.its_job named c.requires.owes c.requires.lefts)

pub wrote_fresh-requires-clause-writer : goal.wrote_fresh-requires-clause-writer
wrote_fresh-requires-clause-writer c =
    let number = number_is c.args.place.now.trace.now c.args.task c.args.inode c.number-writer.result c.context_of-context.result c.context_of-context.ensures c.number-writer.ensures.value in
    let less = inside c.args.place.now.trace.now c.args.place.now.cpu c.args.kit.now c.args.self.now c.args.seats.now c.requires.at_kit c.args.task c.requires.task c.args.inode c.args.page c.requires.its_job in
    (c.number-writer.ensures.value, omega arith)

pub wrote_fresh-requires-clause-named : goal.wrote_fresh-requires-clause-named
wrote_fresh-requires-clause-named c =
    let number = number_is c.args.place.now.trace.now c.args.task c.args.inode c.number-writer.result c.context_of-context.result c.context_of-context.ensures c.number-writer.ensures.value in
    let less = inside c.args.place.now.trace.now c.args.place.now.cpu c.args.kit.now c.args.self.now c.args.seats.now c.requires.at_kit c.args.task c.requires.task c.args.inode c.args.page c.requires.its_job in
    c.number-writer.ensures.named (omega arith)

pub returns-in-Err-clause-spent : goal.returns-in-Err-clause-spent
returns-in-Err-clause-spent c =
    let number = number_is c.args.place.now.trace.now c.args.task c.args.inode c.number-writer.result c.context_of-context.result c.context_of-context.ensures c.number-writer.ensures.value in
    let named = named_is c.args.place.now.trace.now c.args.task c.args.inode c.number-writer.result c.context_of-context.result (length c.args.self.now.tasks.writers.items) c.context_of-context.ensures c.number-writer.ensures.value c.number-writer.ensures.named (inside c.args.place.now.trace.now c.args.place.now.cpu c.args.kit.now c.args.self.now c.args.seats.now c.requires.at_kit c.args.task c.requires.task c.args.inode c.args.page c.requires.its_job) in (
      ap (λ (s : Seated). sight c.args.self.now (with_cpu c.args.seats.now s) c.args.pen.now.log) c.in-Err.ensures.spent.0,
      spent_is c.args.place.now.trace.now c.args.place.now.cpu c.args.kit.now c.args.self.now c.args.seats.now c.requires.at_kit c.args.task c.requires.task c.args.inode c.args.page c.requires.its_job named (λ (n : ℕ). HasNoPageSteps (setting c.args.kit.now.throttle.layout) n c.args.seats.now.cpu)
          (subst (λ (n : ℕ). HasNoPageSteps (setting c.args.kit.now.throttle.layout) ((setting c.args.kit.now.throttle.layout).seat n) c.args.seats.now.cpu) number c.in-Err.ensures.spent.1),
    )

pub returns-in-Ok-Already-clause-at_kit : goal.returns-in-Ok-Already-clause-at_kit
returns-in-Ok-Already-clause-at_kit c =
    let number = number_is c.args.place.now.trace.now c.args.task c.args.inode c.number-writer.result c.context_of-context.result c.context_of-context.ensures c.number-writer.ensures.value in
    let first = c.first_of.ensures in
    let named = named_is c.args.place.now.trace.now c.args.task c.args.inode c.number-writer.result c.context_of-context.result (length c.args.self.now.tasks.writers.items) c.context_of-context.ensures c.number-writer.ensures.value c.number-writer.ensures.named (inside c.args.place.now.trace.now c.args.place.now.cpu c.args.kit.now c.args.self.now c.args.seats.now c.requires.at_kit c.args.task c.requires.task c.args.inode c.args.page c.requires.its_job) in
    let made : TableDirties (setting c.args.kit.now.throttle.layout) (number_of c.args.place.now.trace.now c.args.task (inode_at c.args.inode c.args.place.now.trace.now.inodes).context) ((inode_at c.args.inode c.args.place.now.trace.now.inodes).first + c.args.page) Already c.args.seats.now.cpu c.dirty.new.seat =
    subst (λ (z : ℕ × ℕ × Dirtied). TableDirties (setting c.args.kit.now.throttle.layout) z.0 (z.1 + c.args.page) z.2 c.args.seats.now.cpu c.dirty.new.seat) (λ i. (number i, first i, c.in-Ok-Already.field-0-is i)) c.in-Ok-Already.ensures.dirtied in
    at_kit c.args.place.now.trace.now c.args.place.now.cpu c.args.kit.now c.args.self.now c.args.seats.now c.requires.at_kit c.args.task c.requires.task c.args.inode c.args.page c.requires.its_job named Already made.found made.tells (with_cpu c.args.seats.now c.dirty.new.seat) (only c.args.seats.now c.dirty.new.seat) made.makes
    (with_tasks c.args.self.now c.wrote_already.new.self) (c.wrote_already.ensures.side c.args.kit.now.published.moment c.requires.at_kit.its.ratelimit) c.wrote_already.ensures.passes c.wrote_already.ensures.others refl
    c.wrote_already.ensures.tasks c.wrote_already.ensures.fixed refl

pub returns-in-Ok-Already-clause-dirties : goal.returns-in-Ok-Already-clause-dirties
returns-in-Ok-Already-clause-dirties c =
    let number = number_is c.args.place.now.trace.now c.args.task c.args.inode c.number-writer.result c.context_of-context.result c.context_of-context.ensures c.number-writer.ensures.value in
    let first = c.first_of.ensures in
    let named = named_is c.args.place.now.trace.now c.args.task c.args.inode c.number-writer.result c.context_of-context.result (length c.args.self.now.tasks.writers.items) c.context_of-context.ensures c.number-writer.ensures.value c.number-writer.ensures.named (inside c.args.place.now.trace.now c.args.place.now.cpu c.args.kit.now c.args.self.now c.args.seats.now c.requires.at_kit c.args.task c.requires.task c.args.inode c.args.page c.requires.its_job) in
    let made : TableDirties (setting c.args.kit.now.throttle.layout) (number_of c.args.place.now.trace.now c.args.task (inode_at c.args.inode c.args.place.now.trace.now.inodes).context) ((inode_at c.args.inode c.args.place.now.trace.now.inodes).first + c.args.page) Already c.args.seats.now.cpu c.dirty.new.seat =
    subst (λ (z : ℕ × ℕ × Dirtied). TableDirties (setting c.args.kit.now.throttle.layout) z.0 (z.1 + c.args.page) z.2 c.args.seats.now.cpu c.dirty.new.seat) (λ i. (number i, first i, c.in-Ok-Already.field-0-is i)) c.in-Ok-Already.ensures.dirtied in
    already c.args.place.now.trace.now c.args.place.now.cpu c.args.kit.now c.args.self.now c.args.seats.now c.requires.at_kit c.args.task c.requires.task c.args.inode c.args.page c.requires.its_job named made.found made.tells (with_cpu c.args.seats.now c.dirty.new.seat) (only c.args.seats.now c.dirty.new.seat) made.makes
    (with_tasks c.args.self.now c.wrote_already.new.self) (c.wrote_already.ensures.side c.args.kit.now.published.moment c.requires.at_kit.its.ratelimit) c.wrote_already.ensures.passes c.wrote_already.ensures.others refl
    c.args.pen.now.log c.tell_write.new.pen.log
    (subst (λ (n : ℕ). HasPageSteps (setting c.args.kit.now.throttle.layout) ((setting c.args.kit.now.throttle.layout).seat n) c.args.seats.now.cpu) number c.in-Ok-Already.ensures.had_a_step)
    (c.tell_write.ensures.log ∙ ap (λ (q : ℕ). with_entry (entry.Write c.args.task (q + c.args.page) false) c.args.pen.now.log) first) c.requires.owes c.requires.lefts

pub returns-in-Ok-Fresh-clause-at_kit : goal.returns-in-Ok-Fresh-clause-at_kit
returns-in-Ok-Fresh-clause-at_kit c =
    let number = number_is c.args.place.now.trace.now c.args.task c.args.inode c.number-writer.result c.context_of-context.result c.context_of-context.ensures c.number-writer.ensures.value in
    let first = c.first_of.ensures in
    let named = named_is c.args.place.now.trace.now c.args.task c.args.inode c.number-writer.result c.context_of-context.result (length c.args.self.now.tasks.writers.items) c.context_of-context.ensures c.number-writer.ensures.value c.number-writer.ensures.named (inside c.args.place.now.trace.now c.args.place.now.cpu c.args.kit.now c.args.self.now c.args.seats.now c.requires.at_kit c.args.task c.requires.task c.args.inode c.args.page c.requires.its_job) in
    let made : TableDirties (setting c.args.kit.now.throttle.layout) (number_of c.args.place.now.trace.now c.args.task (inode_at c.args.inode c.args.place.now.trace.now.inodes).context) ((inode_at c.args.inode c.args.place.now.trace.now.inodes).first + c.args.page) Fresh c.args.seats.now.cpu c.dirty.new.seat =
    subst (λ (z : ℕ × ℕ × Dirtied). TableDirties (setting c.args.kit.now.throttle.layout) z.0 (z.1 + c.args.page) z.2 c.args.seats.now.cpu c.dirty.new.seat) (λ i. (number i, first i, c.in-Ok-Fresh.field-0-is i)) c.in-Ok-Fresh.ensures.dirtied in
    at_kit c.args.place.now.trace.now c.args.place.now.cpu c.args.kit.now c.args.self.now c.args.seats.now c.requires.at_kit c.args.task c.requires.task c.args.inode c.args.page c.requires.its_job named Fresh made.found made.tells (with_cpu c.args.seats.now c.dirty.new.seat) (only c.args.seats.now c.dirty.new.seat) made.makes
    (with_tasks c.args.self.now c.wrote_fresh.new.self)
    (c.wrote_fresh.ensures.side c.args.kit.now.published.moment c.requires.at_kit.its.ratelimit
    ∙ ap (λ (k : ℕ). settle c.args.place.now.trace.now c.args.kit.now.published.moment c.args.task (with_page c.args.task (write_fresh c.args.place.now.trace.now c.args.kit.now.published.moment c.args.task k (side_of c.args.self.now.tasks)))) c.context_of-context.ensures)
    c.wrote_fresh.ensures.passes c.wrote_fresh.ensures.others refl
    c.wrote_fresh.ensures.tasks c.wrote_fresh.ensures.fixed refl

pub returns-in-Ok-Fresh-clause-dirties : goal.returns-in-Ok-Fresh-clause-dirties
returns-in-Ok-Fresh-clause-dirties c =
    let number = number_is c.args.place.now.trace.now c.args.task c.args.inode c.number-writer.result c.context_of-context.result c.context_of-context.ensures c.number-writer.ensures.value in
    let first = c.first_of.ensures in
    let named = named_is c.args.place.now.trace.now c.args.task c.args.inode c.number-writer.result c.context_of-context.result (length c.args.self.now.tasks.writers.items) c.context_of-context.ensures c.number-writer.ensures.value c.number-writer.ensures.named (inside c.args.place.now.trace.now c.args.place.now.cpu c.args.kit.now c.args.self.now c.args.seats.now c.requires.at_kit c.args.task c.requires.task c.args.inode c.args.page c.requires.its_job) in
    let made : TableDirties (setting c.args.kit.now.throttle.layout) (number_of c.args.place.now.trace.now c.args.task (inode_at c.args.inode c.args.place.now.trace.now.inodes).context) ((inode_at c.args.inode c.args.place.now.trace.now.inodes).first + c.args.page) Fresh c.args.seats.now.cpu c.dirty.new.seat =
    subst (λ (z : ℕ × ℕ × Dirtied). TableDirties (setting c.args.kit.now.throttle.layout) z.0 (z.1 + c.args.page) z.2 c.args.seats.now.cpu c.dirty.new.seat) (λ i. (number i, first i, c.in-Ok-Fresh.field-0-is i)) c.in-Ok-Fresh.ensures.dirtied in
    fresh c.args.place.now.trace.now c.args.place.now.cpu c.args.kit.now c.args.self.now c.args.seats.now c.requires.at_kit c.args.task c.requires.task c.args.inode c.args.page c.requires.its_job named made.found made.tells (with_cpu c.args.seats.now c.dirty.new.seat) (only c.args.seats.now c.dirty.new.seat) made.makes
    (with_tasks c.args.self.now c.wrote_fresh.new.self)
    (c.wrote_fresh.ensures.side c.args.kit.now.published.moment c.requires.at_kit.its.ratelimit
    ∙ ap (λ (k : ℕ). settle c.args.place.now.trace.now c.args.kit.now.published.moment c.args.task (with_page c.args.task (write_fresh c.args.place.now.trace.now c.args.kit.now.published.moment c.args.task k (side_of c.args.self.now.tasks)))) c.context_of-context.ensures)
    c.wrote_fresh.ensures.passes c.wrote_fresh.ensures.others refl
    c.args.pen.now.log c.tell_write-in-Ok-Fresh.new.pen.log
    (subst (λ (n : ℕ). HasPageSteps (setting c.args.kit.now.throttle.layout) ((setting c.args.kit.now.throttle.layout).seat n) c.args.seats.now.cpu) number c.in-Ok-Fresh.ensures.had_a_step)
    (c.tell_write-in-Ok-Fresh.ensures.log ∙ ap (λ (q : ℕ). with_entry (entry.Write c.args.task (q + c.args.page) true) c.args.pen.now.log) first) c.requires.lefts

pub returns-in-Err-clause-once : goal.returns-in-Err-clause-once
returns-in-Err-clause-once c = once_none c.args.place.now.cpu c.args.seats.now (with_cpu c.args.seats.now c.dirty.new.seat) c.in-Err.ensures.spent.0

pub returns-in-Ok-Already-clause-once : goal.returns-in-Ok-Already-clause-once
returns-in-Ok-Already-clause-once c =
    let set' = setting c.args.kit.now.throttle.layout in
    let number = number_is c.args.place.now.trace.now c.args.task c.args.inode c.number-writer.result c.context_of-context.result c.context_of-context.ensures c.number-writer.ensures.value in
    let named = named_is c.args.place.now.trace.now c.args.task c.args.inode c.number-writer.result c.context_of-context.result (length c.args.self.now.tasks.writers.items) c.context_of-context.ensures c.number-writer.ensures.value c.number-writer.ensures.named (inside c.args.place.now.trace.now c.args.place.now.cpu c.args.kit.now c.args.self.now c.args.seats.now c.requires.at_kit c.args.task c.requires.task c.args.inode c.args.page c.requires.its_job) in
    let its : set'.seat c.number-writer.result ≡ c.args.place.now.cpu = ap (λ (n : ℕ). set'.seat n) number
    ∙ spent_is c.args.place.now.trace.now c.args.place.now.cpu c.args.kit.now c.args.self.now c.args.seats.now c.requires.at_kit c.args.task c.requires.task c.args.inode c.args.page c.requires.its_job named
    (λ (n : ℕ). set'.seat (number_of c.args.place.now.trace.now c.args.task (inode_at c.args.inode c.args.place.now.trace.now.inodes).context) ≡ n) refl in
    let made = c.in-Ok-Already.ensures.dirtied in
    once_made set' (dirty c.number-writer.result (c.first_of.result + c.args.page)) made.found c.args.place.now.cpu c.args.seats.now (with_cpu c.args.seats.now c.dirty.new.seat) its c.requires.at_kit.fits.held made.makes

pub returns-in-Ok-Fresh-clause-once : goal.returns-in-Ok-Fresh-clause-once
returns-in-Ok-Fresh-clause-once c =
    let set' = setting c.args.kit.now.throttle.layout in
    let number = number_is c.args.place.now.trace.now c.args.task c.args.inode c.number-writer.result c.context_of-context.result c.context_of-context.ensures c.number-writer.ensures.value in
    let named = named_is c.args.place.now.trace.now c.args.task c.args.inode c.number-writer.result c.context_of-context.result (length c.args.self.now.tasks.writers.items) c.context_of-context.ensures c.number-writer.ensures.value c.number-writer.ensures.named (inside c.args.place.now.trace.now c.args.place.now.cpu c.args.kit.now c.args.self.now c.args.seats.now c.requires.at_kit c.args.task c.requires.task c.args.inode c.args.page c.requires.its_job) in
    let its : set'.seat c.number-writer.result ≡ c.args.place.now.cpu = ap (λ (n : ℕ). set'.seat n) number
    ∙ spent_is c.args.place.now.trace.now c.args.place.now.cpu c.args.kit.now c.args.self.now c.args.seats.now c.requires.at_kit c.args.task c.requires.task c.args.inode c.args.page c.requires.its_job named
    (λ (n : ℕ). set'.seat (number_of c.args.place.now.trace.now c.args.task (inode_at c.args.inode c.args.place.now.trace.now.inodes).context) ≡ n) refl in
    let made = c.in-Ok-Fresh.ensures.dirtied in
    once_made set' (dirty c.number-writer.result (c.first_of.result + c.args.page)) made.found c.args.place.now.cpu c.args.seats.now (with_cpu c.args.seats.now c.dirty.new.seat) its c.requires.at_kit.fits.held made.makes

pub returns-in-Ok-Already-clause-took : goal.returns-in-Ok-Already-clause-took
returns-in-Ok-Already-clause-took c =
    let number = number_is c.args.place.now.trace.now c.args.task c.args.inode c.number-writer.result c.context_of-context.result c.context_of-context.ensures c.number-writer.ensures.value in
    let first = c.first_of.ensures in
    record {
      dirties = subst (λ (z : ℕ × ℕ × Dirtied). TableDirties (setting c.args.kit.now.throttle.layout) z.0 (z.1 + c.args.page) z.2 c.args.seats.now.cpu c.dirty.new.seat) (λ i. (number i, first i, c.in-Ok-Already.field-0-is i)) c.in-Ok-Already.ensures.dirtied;
      seats = only c.args.seats.now c.dirty.new.seat;
      told = c.tell_write.ensures.log ∙ ap (λ (q : ℕ). with_entry (entry.Write c.args.task (q + c.args.page) false) c.args.pen.now.log) first;
      passes = c.wrote_already.ensures.passes;
      stands = c.wrote_already.ensures.stands;
      since = c.wrote_already.ensures.since;
      place = c.wrote_already.ensures.place;
      only = record { others = c.wrote_already.ensures.others; fixed = c.wrote_already.ensures.fixed };
      fractions = refl;
      waiting = refl;
    }

pub returns-in-Ok-Fresh-clause-took : goal.returns-in-Ok-Fresh-clause-took
returns-in-Ok-Fresh-clause-took c =
    let number = number_is c.args.place.now.trace.now c.args.task c.args.inode c.number-writer.result c.context_of-context.result c.context_of-context.ensures c.number-writer.ensures.value in
    let first = c.first_of.ensures in
    record {
      dirties = subst (λ (z : ℕ × ℕ × Dirtied). TableDirties (setting c.args.kit.now.throttle.layout) z.0 (z.1 + c.args.page) z.2 c.args.seats.now.cpu c.dirty.new.seat) (λ i. (number i, first i, c.in-Ok-Fresh.field-0-is i)) c.in-Ok-Fresh.ensures.dirtied;
      seats = only c.args.seats.now c.dirty.new.seat;
      told = c.tell_write-in-Ok-Fresh.ensures.log ∙ ap (λ (q : ℕ). with_entry (entry.Write c.args.task (q + c.args.page) true) c.args.pen.now.log) first;
      passes = c.wrote_fresh.ensures.passes;
      stands = c.wrote_fresh.ensures.stands;
      since = c.wrote_fresh.ensures.since;
      place = subst (λ (z : ℕ × ℕ). MovesAlong (record (task_at c.args.self.now.tasks c.args.task) { writer = z.0; context = z.1 }) (task_at c.wrote_fresh.new.self c.args.task))
          (λ i. (number i, c.context_of-context.ensures i)) c.wrote_fresh.ensures.place;
      only = record { others = c.wrote_fresh.ensures.others; fixed = c.wrote_fresh.ensures.fixed };
      fractions = refl;
      waiting = refl;
    }

pub returns-in-Ok-Already-clause-kinds : goal.returns-in-Ok-Already-clause-kinds
returns-in-Ok-Already-clause-kinds c =
    let number = number_is c.args.place.now.trace.now c.args.task c.args.inode c.number-writer.result c.context_of-context.result c.context_of-context.ensures c.number-writer.ensures.value in
    let first = c.first_of.ensures in
    let named = named_is c.args.place.now.trace.now c.args.task c.args.inode c.number-writer.result c.context_of-context.result (length c.args.self.now.tasks.writers.items) c.context_of-context.ensures c.number-writer.ensures.value c.number-writer.ensures.named (inside c.args.place.now.trace.now c.args.place.now.cpu c.args.kit.now c.args.self.now c.args.seats.now c.requires.at_kit c.args.task c.requires.task c.args.inode c.args.page c.requires.its_job) in
    let made : TableDirties (setting c.args.kit.now.throttle.layout) (number_of c.args.place.now.trace.now c.args.task (inode_at c.args.inode c.args.place.now.trace.now.inodes).context) ((inode_at c.args.inode c.args.place.now.trace.now.inodes).first + c.args.page) Already c.args.seats.now.cpu c.dirty.new.seat =
    subst (λ (z : ℕ × ℕ × Dirtied). TableDirties (setting c.args.kit.now.throttle.layout) z.0 (z.1 + c.args.page) z.2 c.args.seats.now.cpu c.dirty.new.seat) (λ i. (number i, first i, c.in-Ok-Already.field-0-is i)) c.in-Ok-Already.ensures.dirtied in
    dirtied_as c.args.place.now.trace.now c.args.place.now.cpu c.args.kit.now c.args.self.now c.args.seats.now c.requires.at_kit c.args.task c.requires.task c.args.inode c.args.page c.requires.its_job named Already made.found made.tells (with_cpu c.args.seats.now c.dirty.new.seat) (only c.args.seats.now c.dirty.new.seat) made.makes
    c.requires.owes

pub returns-in-Ok-Fresh-clause-kinds : goal.returns-in-Ok-Fresh-clause-kinds
returns-in-Ok-Fresh-clause-kinds c =
    let number = number_is c.args.place.now.trace.now c.args.task c.args.inode c.number-writer.result c.context_of-context.result c.context_of-context.ensures c.number-writer.ensures.value in
    let first = c.first_of.ensures in
    let named = named_is c.args.place.now.trace.now c.args.task c.args.inode c.number-writer.result c.context_of-context.result (length c.args.self.now.tasks.writers.items) c.context_of-context.ensures c.number-writer.ensures.value c.number-writer.ensures.named (inside c.args.place.now.trace.now c.args.place.now.cpu c.args.kit.now c.args.self.now c.args.seats.now c.requires.at_kit c.args.task c.requires.task c.args.inode c.args.page c.requires.its_job) in
    let made : TableDirties (setting c.args.kit.now.throttle.layout) (number_of c.args.place.now.trace.now c.args.task (inode_at c.args.inode c.args.place.now.trace.now.inodes).context) ((inode_at c.args.inode c.args.place.now.trace.now.inodes).first + c.args.page) Fresh c.args.seats.now.cpu c.dirty.new.seat =
    subst (λ (z : ℕ × ℕ × Dirtied). TableDirties (setting c.args.kit.now.throttle.layout) z.0 (z.1 + c.args.page) z.2 c.args.seats.now.cpu c.dirty.new.seat) (λ i. (number i, first i, c.in-Ok-Fresh.field-0-is i)) c.in-Ok-Fresh.ensures.dirtied in
    dirtied_as c.args.place.now.trace.now c.args.place.now.cpu c.args.kit.now c.args.self.now c.args.seats.now c.requires.at_kit c.args.task c.requires.task c.args.inode c.args.page c.requires.its_job named Fresh made.found made.tells (with_cpu c.args.seats.now c.dirty.new.seat) (only c.args.seats.now c.dirty.new.seat) made.makes
    c.requires.owes
