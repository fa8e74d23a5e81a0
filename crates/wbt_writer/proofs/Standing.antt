-- What a turn needs of trace, kit and seats, and that it stays.
use Rattle.std.proofs.Common.{◌≡◌, ℕ, ◌<◌, ◌≤◌, inl, inr, Bool, true, List, length, get_or, set, Option, Some, None, sym, ap, ◌∙◌, subst, arith, eqb-true}
use Rattle.std.specs.Prelude.{IfSome, None}
use Rattle.std.proofs.Math.ListN.{get_or-map}
use Rattle.std.proofs.lemmas.Bool.{cases_eq}
use Rattle.std.proofs.lemmas.List.{get_or-set_same, get_or-set_other, length-map, length-set}
use Rattle.std.proofs.lemmas.List.Sums.{get_or-le-sum_by}
use Rattle.std.proofs.lemmas.Option.{slice_get-get_or}
use Rattle.wbt_fraction.specs.Several as fraction
use Rattle.wbt_fraction.specs.Several.{HasShare}
use Rattle.wbt_writer.proofs.Common.{context_domain, contexts, all_writers, is_own_task, IsCounted, setting, Has, dirtied_by, new_writer, writer_of, TaskLine, Trace, Kit, Seats, writer_at, KeepsFixed, AreTasksOf, cpu_of, is_due_at, task_at, AreAt, AreProper, Fits, IsGoing, no_fractions, IsGroup, AreOver, DomainLoad}
use Rattle.wbt_kit.proofs.Common.{is_on, homes_of, Context}
use Rattle.wbt_journal.specs.Machine.{cpu_of_task as cpu_in}
use Rattle.wbt_kit.specs.Opening.{cpu_of as cpu_of_task}
use Rattle.wbt_published.specs.Passes as est
use Rattle.wbt_queue.specs.Passes as queue
use Rattle.wbt_table.specs.Layout.{domains as table_domains}
use Rattle.wbt_table.specs.Seat as table
use Rattle.wbt_trace.specs.declared.writers.Writer.{Writer as Name}
use Rattle.wbt_writer.specs.Counted.{IsFor}
use Rattle.wbt_writer.specs.Desk.{Suits}
use Rattle.wbt_writer.specs.declared.task.TaskPlace.{TaskPlace}
use Rattle.wbt_writer.specs.declared.tasks.Tasks.{Tasks}
use Rattle.wbt_writer.specs.declared.work.Fractions.{Fractions}
use Rattle.wbt_writer.specs.declared.work.WriterWork.{WriterWork}
use Rattle.wbt_writer.proofs.Facts.{among, context_there, domain_below, inside, its_own}

-- ---- homes

pub homes_long : (trace : Trace) (kit : Kit) → Suits trace kit → length kit.shares.homes ≡ contexts trace
homes_long trace kit suits = ap (λ (l : List ℕ). length l) suits.homes ∙ length-map trace.contexts (λ (c : Context). c.domain)

home_is : (trace : Trace) (k : ℕ) → k < contexts trace → get_or (homes_of trace) k 0 ≡ context_domain trace k
home_is trace k there =
    let none : Context = record { device = 0; domain = 0; expire = None; estimate = None } in
    get_or-map (λ (c : Context). c.domain) trace.contexts k none

pub has_share : (trace : Trace) (kit : Kit) (k : ℕ) → Suits trace kit → k < contexts trace → HasShare kit.shares.homes (context_domain trace k) k
has_share trace kit k suits there = (
  (let long = homes_long trace kit suits in omega arith),
  inr (sym (ap (λ (l : List ℕ). get_or l k 0) suits.homes ∙ home_is trace k there)),
)

-- ---- of a task whose check is due

module _ (trace : Trace) (cpu : ℕ) (kit : Kit) (work : WriterWork) (seats : Seats) (at : AreAt trace cpu kit work seats) (task : ℕ) (going : IsGoing trace work.tasks task)
    (due_now : is_due_at (cpu_of work.tasks) (task_at work.tasks task).writer ≡ true) where
  abbrev t : TaskPlace
  t = task_at work.tasks task

  there : (task_at work.tasks task).context < contexts trace
  there = context_there trace cpu kit work seats at task going due_now

  pub in_fractions : (task_at work.tasks task).context < length work.fractions.items
  in_fractions = let long = at.is_work.fractions in let low = there in omega arith

  pub in_published : (task_at work.tasks task).context < length kit.published.names
  in_published = let long = at.suits.published in let low = there in omega arith

  pub in_homes : (task_at work.tasks task).context < length kit.shares.homes
  in_homes = let long = homes_long trace kit at.suits in let low = there in omega arith

  pub in_contexts : (task_at work.tasks task).context < length kit.throttle.layout.contexts
  in_contexts = let long = at.suits.throttle.contexts_are in let low = there in omega arith

  pub group_load : (load : Option DomainLoad) → IsGroup (context_domain trace (task_at work.tasks task).context) load
      → IfSome load (λ (l : DomainLoad). (l.domain < length kit.shares.domains) × HasShare kit.shares.homes l.domain (task_at work.tasks task).context)
  group_load None is = tt
  group_load (Some l) is = (
    (let low = domain_below trace at.is_work.lawful t.context there in let long = at.suits.shared_domains in let same = is.1 in omega arith),
    subst (λ (d : ℕ). HasShare kit.shares.homes d t.context) (sym is.1) (has_share trace kit t.context at.suits there),
  )

  pub group_below : context_domain trace (task_at work.tasks task).context < table_domains kit.throttle.layout
  group_below = let low = domain_below trace at.is_work.lawful t.context there in let long = at.suits.domains_are in omega arith

  pub counted : IsCounted (writer_of (cpu_of work.tasks) (task_at work.tasks task).writer).task
  counted =
      let low = inside trace cpu kit work seats at task going due_now in
      let few = at.is_work.tasks.counted.few in
      let one = get_or-le-sum_by dirtied_by work.tasks.writers.items t.writer (new_writer 0) low in
      let pages = few.pages in
      let most = few.allowances t.writer low in
      record { dirtied = omega arith; allowance = omega arith }

  pub writer_there : (task_at work.tasks task).writer < length kit.throttle.layout.writers
  writer_there = let low = among trace cpu kit work seats at task going due_now in let long = at.suits.throttle.writers_are in omega arith

  pub works_there : (setting kit.throttle.layout).works_in (task_at work.tasks task).writer ≡ (task_at work.tasks task).context
  works_there = at.suits.throttle.works_in t.writer (among trace cpu kit work seats at task going due_now) ∙ ap (λ (n : Name). n.context) (its_own trace cpu kit work seats at task going due_now)

-- the CPU of a task
own_cpu : (trace : Trace) (cpu task : ℕ) → task < length trace.tasks → is_own_task trace cpu task ≡ true → cpu_of_task trace task ≡ cpu
own_cpu trace cpu task low own =
    let none : TaskLine = record { cpu = 0; pace = None } in
    let is = ap (λ (w : Option TaskLine). is_on cpu (cpu_in w)) (slice_get-get_or trace.tasks task none low) in
    eqb-true (get_or trace.tasks task none).cpu cpu (sym is ∙ own)

-- and of its writers
pub seat_is : (trace : Trace) (cpu : ℕ) (kit : Kit) (work : WriterWork) (seats : Seats) → AreAt trace cpu kit work seats → (task : ℕ) → IsGoing trace work.tasks task → (w : ℕ) → w < length (all_writers trace)
    → (writer_at trace w).task ≡ task → (setting kit.throttle.layout).seat w ≡ cpu
seat_is trace cpu kit work seats at task going w low its =
    at.suits.seats w low ∙ ap (cpu_of_task trace) its ∙ own_cpu trace cpu task going.there (sym (at.its.own task going.there) ∙ going.own)

-- ---- it stays

-- where a check has read
pub at_asked : (trace : Trace) (cpu : ℕ) (kit : Kit) (was is : WriterWork) (old new : Seats) (k : ℕ) (after : Fractions) → AreAt trace cpu kit was old → is.tasks ≡ was.tasks → is.fractions.items ≡ set was.fractions.items k after
    → AreProper after → k < length was.fractions.items → is.waiting.items ≡ was.waiting.items → new.cpu ≡ old.cpu → fraction.IsSeatOf kit.shares new.share → est.IsPassOf kit.published new.est → length new.est.known ≡ length old.est.known
    → new.queue ≡ old.queue → AreAt trace cpu kit is new
at_asked trace cpu kit was is old new k after at tasks fractions proper low waiting cpu_is share_is est_is known_is queue_is = record {
  is_work = record {
    lawful = at.is_work.lawful;
    tasks = subst (AreTasksOf trace) (sym tasks) at.is_work.tasks;
    next = subst (λ (s : Tasks). s.next ≤ length s.tasks.items) (sym tasks) at.is_work.next;
    fractions = ap (λ (l : List Fractions). length l) fractions ∙ length-set was.fractions.items k after ∙ at.is_work.fractions;
    proper = λ n. subst (λ (l : List Fractions). AreProper (get_or l n no_fractions)) (sym fractions) (proper_at n);
    waiting = ap (λ (l : List Bool). length l) waiting ∙ at.is_work.waiting;
    over = subst (AreOver trace) (sym tasks) at.is_work.over;
  };
  suits = at.suits;
  its = subst (λ (s : Tasks). IsFor trace kit.published.moment cpu s) (sym tasks) at.its;
  fits = record {
    seats_are = record {
      cpu = subst (λ (s : table.Seated). table.IsAt kit.throttle s) (sym cpu_is) at.fits.seats_are.cpu;
      each_cpu = ap (λ (s : table.Seated). length s.cpus) cpu_is ∙ at.fits.seats_are.each_cpu;
      share = share_is;
      est = est_is;
      each_context = known_is ∙ at.fits.seats_are.each_context;
      queue = subst (λ (s : queue.Seats). queue.IsPassOf kit.queues s) (sym queue_is) at.fits.seats_are.queue;
      each_device = ap (λ (s : queue.Seats). length s.known) queue_is ∙ at.fits.seats_are.each_device;
    };
    held = (at.fits.held.0, subst (λ (s : table.Seated). Has s.cpus cpu at.fits.held.0) (sym cpu_is) at.fits.held.1);
  };
}
  where
    proper_at : (n : ℕ) → AreProper (get_or (set was.fractions.items k after) n no_fractions)
    proper_at n = elim (cases_eq n k) [
      | inl same ↦ subst (λ (m : ℕ). AreProper (get_or (set was.fractions.items k after) m no_fractions)) (sym same)
          (subst AreProper (sym (get_or-set_same was.fractions.items k after no_fractions low)) proper)
      | inr other ↦ subst AreProper (sym (get_or-set_other was.fractions.items k n after no_fractions other)) (at.is_work.proper n)
    ]

-- where tasks went on
pub at_tasks : (trace : Trace) (cpu : ℕ) (kit : Kit) (was is : WriterWork) (old new : Seats) → AreAt trace cpu kit was old → AreTasksOf trace is.tasks → KeepsFixed was.tasks is.tasks
    → ((n : ℕ) → n < length trace.tasks → (task_at is.tasks n).own ≡ (task_at was.tasks n).own) → AreOver trace is.tasks → is.fractions.items ≡ was.fractions.items → is.waiting.items ≡ was.waiting.items → Fits cpu kit new → AreAt trace cpu kit is new
at_tasks trace cpu kit was is old new at tasks fixed own over fractions waiting fits = record {
  is_work = record {
    lawful = at.is_work.lawful;
    tasks = tasks;
    next =
        let low = at.is_work.next in
        let next = fixed.next in
        let a = at.is_work.tasks.counted.tasks in
        let b = tasks.counted.tasks in omega arith;
    fractions = ap (λ (l : List Fractions). length l) fractions ∙ at.is_work.fractions;
    proper = λ n. subst (λ (l : List Fractions). AreProper (get_or l n no_fractions)) (sym fractions) (at.is_work.proper n);
    waiting = ap (λ (l : List Bool). length l) waiting ∙ at.is_work.waiting;
    over = over;
  };
  suits = at.suits;
  its = record { ratelimit = fixed.ratelimit ∙ at.its.ratelimit; own = λ n low. own n low ∙ at.its.own n low };
  fits = fits;
}
