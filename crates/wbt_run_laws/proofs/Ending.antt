-- How the journal ends.
use Rattle.std.proofs.Common.{◌≡◌, ◌≢◌, ℕ, zero, suc, ◌+◌, ◌<◌, ◌≤◌, Bool, true, false, ◌||◌, ◌&&◌, cond, eqb, nat_le, ne_eqb, Option, None, Some, IfSome, List, [], ◌∷◌, length, count_by, get_or, slice_get, All, sym, refl, ap, ◌∙◌, subst, arith, true≢false, if◌then◌else◌}
use Rattle.std.specs.List.{list_any}
use Rattle.std.proofs.lemmas.Bool.{le-leb, leb-true, lt-ltb}
use Rattle.std.proofs.lemmas.List.Folds.{list_any_at}
use Rattle.std.proofs.lemmas.List.Sums.{sum_by-cons, sum_by-append}
use mathlib.Core.Logic.{dite}
use native.Mathlib.Decide.{ℕ_discrete}
use Rattle.wbt_run_laws.proofs.Common.{one_if, Trace, Each, Flight, Write, effect, of_part, ToldFlusher, parts_of, all_told, pages_of_task, writes_after, Told, after, Journal, IsOwn, IsOwnFlight, items_told, part_at, NoneFailed, Run, Worked}
use Rattle.wbt_num.specs.declared.most.TheConstants.{MOST_PAGE_STEPS}
use Rattle.wbt_rules.specs.declared.moments.TheConstants.{MOST_FAULTS}
use Rattle.wbt_trace.specs.Lawful as trace_law
use Rattle.wbt_trace.specs.declared.trace.FlusherLine.{FlusherLine}
use Rattle.wbt_trace.specs.declared.trace.TaskLine.{TaskLine}
use Rattle.wbt_journal.specs.Flights.{new_flusher, flusher_of, first_flushers, is_own_flusher}
use Rattle.wbt_journal.specs.Leaves.{is_failure, is_fault_of, has_failed, some_failed, a_flusher_failed, is_page_step, has_all_steps, writes_of, WroteAll, EndsBy}
use Rattle.wbt_journal.specs.Machine.{cpu_of_task}
use Rattle.wbt_journal.specs.Side.{is_on}
use Rattle.wbt_rules.specs.Things.{flusher_cpu}
use Rattle.wbt_journal.specs.declared.journal.Ending.{Ending}
use Rattle.wbt_journal.specs.declared.journal.Ending.TheVariants as ending
use Rattle.wbt_run_laws.specs.Laws.{WorkedEndingIsRight}
use Rattle.wbt_run_laws.specs.Phases.{FailsWithItsLast}
use Rattle.wbt_run_laws.specs.Worked.{AllWritten, SomeFailed, SomeSpent, EndedBy}
use Rattle.wbt_run_laws.proofs.Counting.{many, set_cpus, in_parts, all_is, own_part}
use Rattle.wbt_run_laws.proofs.Faulting.{and_false, faults_counted, fault_shows}
use Rattle.wbt_run_laws.proofs.Parts.{joined, part_at_most}

-- ---- faults

-- one that is another CPU's has no fault in the part of this one
no_fault_by : (trace : Trace) (cpu f : ℕ) (part : Option Flight) → is_own_flusher trace cpu f ≡ false → IfSome part (IsOwnFlight trace cpu)
    → of_part false (λ (flight : Flight). is_failure flight.move && eqb flight.flusher f) part ≡ false
no_fault_by trace cpu f None other own = refl
no_fault_by trace cpu f (Some flight) other own = dite (ℕ_discrete flight.flusher f)
    (λ is. absurd (true≢false (sym own.own ∙ ap (is_own_flusher trace cpu) is ∙ other)))
    (λ ne. ap (λ (b : Bool). is_failure flight.move && b) (ne_eqb flight.flusher f ne) ∙ sym (and_false (is_failure flight.move)))

no_fault : (trace : Trace) (cpu f : ℕ) (part : List Told) → is_own_flusher trace cpu f ≡ false → Each (IsOwn trace cpu) part → count_by (is_fault_of f) part ≡ 0
no_fault trace cpu f [] other own = refl
no_fault trace cpu f (e ∷ part) other own =
    let first = ap one_if (no_fault_by trace cpu f (effect e).flight other own.0.flight) in
    let rest = no_fault trace cpu f part other own.1 in
    let both = sum_by-cons (λ (x : Told). cond (is_fault_of f x) 1 0) e part in omega arith

-- over all parts
none_there : (p : Told → Bool) (parts : List (List Told)) → ((c : ℕ) → c < length parts → count_by p (get_or parts c []) ≡ 0) → count_by p (joined parts) ≡ 0
none_there p [] none = refl
none_there p (part ∷ parts) none =
    let first = none 0 (omega arith) in
    let rest = none_there p parts (λ c less. none (suc c) (omega arith)) in
    let both = sum_by-append (λ (x : Told). cond (p x) 1 0) part (joined parts) in omega arith

only_there : (p : Told → Bool) (parts : List (List Told)) (c : ℕ) → ((d : ℕ) → d < length parts → d ≢ c → count_by p (get_or parts d []) ≡ 0)
    → count_by p (joined parts) ≡ count_by p (get_or parts c [])
only_there p [] c none = refl
only_there p (part ∷ parts) zero none =
    let rest = none_there p parts (λ c less. none (suc c) (omega arith) (λ is. absurd (omega arith))) in
    let both = sum_by-append (λ (x : Told). cond (p x) 1 0) part (joined parts) in omega arith
only_there p (part ∷ parts) (suc c) none =
    let first = none 0 (omega arith) (λ is. absurd (omega arith)) in
    let rest = only_there p parts c (λ d less other. none (suc d) (omega arith) (λ is. other (omega arith))) in
    let both = sum_by-append (λ (x : Told). cond (p x) 1 0) part (joined parts) in omega arith

-- one of those below a number has failed, or none has
none_below : (entries : List Told) (n : ℕ) → ((f : ℕ) → f < n → has_failed entries f ≡ false) → some_failed entries n ≡ false
none_below entries zero none = refl
none_below entries (suc n) none = ap (λ (b : Bool). b || some_failed entries n) (none n (omega arith)) ∙ none_below entries n (λ f less. none f (omega arith))

or_true : (a : Bool) → (a || true) ≡ true
or_true true = refl
or_true false = refl

one_below : (entries : List Told) (n f : ℕ) → f < n → has_failed entries f ≡ true → some_failed entries n ≡ true
one_below entries zero f less is = absurd (omega arith)
one_below entries (suc n) f less is = dite (ℕ_discrete f n)
    (λ last. ap (λ (b : Bool). b || some_failed entries n) (subst (λ (k : ℕ). has_failed entries k ≡ true) last is))
    (λ other. ap (λ (b : Bool). has_failed entries n || b) (one_below entries n f (omega arith) is) ∙ or_true (has_failed entries n))

-- a flusher that there is begins without pages and without faults
begins_new : (lines : List FlusherLine) (f : ℕ) → f < length lines → flusher_of (first_flushers lines) f ≡ new_flusher
begins_new [] f less = absurd (omega arith)
begins_new (x ∷ xs) zero less = refl
begins_new (x ∷ xs) (suc f) less = begins_new xs f (omega arith)

new_stands : FailsWithItsLast new_flusher
new_stands = refl

-- ---- writes

-- one more where an entry is a write of the task
count_one : (task : ℕ) (part : Option Write) (tasks : List ℕ)
    → count_by (λ by. eqb by task) (of_part tasks (λ (write : Write). write.task ∷ tasks) part) ≡ cond (of_part false (λ (write : Write). eqb write.task task) part) 1 0 + count_by (λ by. eqb by task) tasks
count_one task None tasks = omega arith
count_one task (Some write) tasks = sum_by-cons (λ (t : ℕ). cond (eqb t task) 1 0) write.task tasks

count_writes : (cpu task : ℕ) (part : List Told) (tasks : List ℕ) → count_by (λ by. eqb by task) (after writes_after tasks (items_told cpu part)) ≡ count_by (writes_of task) part + count_by (λ by. eqb by task) tasks
count_writes cpu task [] tasks = omega arith
count_writes cpu task (e ∷ part) tasks =
    let rest = count_writes cpu task part (of_part tasks (λ (write : Write). write.task ∷ tasks) (effect e).write) in
    let first = sum_by-cons (λ (x : Told). cond (writes_of task x) 1 0) e part in
    let seen = count_one task (effect e).write tasks in omega arith

each_task : (trace : Trace) (entries : List Told) (t : ℕ) (lines : List TaskLine) → ((k : ℕ) → k < length lines → length (pages_of_task trace (t + k)) ≤ count_by (writes_of (t + k)) entries) → WroteAll trace entries t lines
each_task trace entries t [] all = tt
each_task trace entries t (line ∷ lines) all = (
  subst (λ (n : ℕ). length (pages_of_task trace n) ≤ count_by (writes_of n) entries) (let e : t + 0 ≡ t = omega arith in e) (all 0 (omega arith)),
  each_task trace entries (t + 1) lines (λ k less. subst (λ (n : ℕ). length (pages_of_task trace n) ≤ count_by (writes_of n) entries) (let e : t + suc k ≡ t + 1 + k = omega arith in e) (all (suc k) (omega arith))),
)

-- a task that there is has a CPU that there is
on_cpu : (cpus : ℕ) (lines : List TaskLine) (t : ℕ) → All (trace_law.IsTask cpus) lines → t < length lines → (cpu : ℕ) × (cpu_of_task (slice_get lines t) ≡ Some cpu) × (cpu < cpus)
on_cpu cpus [] t all less = absurd (omega arith)
on_cpu cpus (line ∷ lines) zero all less = (line.cpu, refl, all 0 line (omega arith))
on_cpu cpus (line ∷ lines) (suc t) all less = on_cpu cpus lines t (λ k d low. all (suc k) d (omega arith)) (omega arith)

-- so does a flusher
on_its_cpu : (devices cpus : ℕ) (lines : List FlusherLine) (f : ℕ) → All (trace_law.IsFlusher devices cpus) lines → f < length lines
    → (get_or lines f (record { device = 0; cpu = 0 })).cpu < cpus
on_its_cpu devices cpus [] f all less = absurd (omega arith)
on_its_cpu devices cpus (line ∷ lines) zero all less = (all 0 line (omega arith)).1
on_its_cpu devices cpus (line ∷ lines) (suc f) all less = on_its_cpu devices cpus lines f (λ k d low. all (suc k) d (omega arith)) (omega arith)

-- ---- of a run

module _ (trace : Trace) (j : Journal) (r : Run) (w : Worked trace j r) where
  parts_there : (c : ℕ) → c < trace.cpus → c < length (parts_of j)
  parts_there c less = subst (λ (n : ℕ). c < n) (sym (many trace j r w ∙ set_cpus trace j r w)) less

  -- a flusher's faults, as its CPU shows them, are those that stand in its part
  faults_are : (c f : ℕ) → c < trace.cpus → f < length trace.flushers → count_by (is_fault_of f) (part_at j c) ≡ ((r.last c).flushers f).told.faults
  faults_are c f less low =
      let counted = faults_counted f (flusher_of (first_flushers trace.flushers) f) ((r.last c).flushers f).told (part_at j c) ((w.since c less).since.flew f) in
      let none : (flusher_of (first_flushers trace.flushers) f).faults ≡ 0 = ap (λ (is : ToldFlusher). is.faults) (begins_new trace.flushers f low) in omega arith

  fails_so : (c f : ℕ) → c < trace.cpus → f < length trace.flushers → FailsWithItsLast ((r.last c).flushers f).told
  fails_so c f less low = fault_shows f (flusher_of (first_flushers trace.flushers) f) ((r.last c).flushers f).told (part_at j c) ((w.since c less).since.flew f)
      (subst FailsWithItsLast (sym (begins_new trace.flushers f low)) new_stands)

  -- and in no other CPU's part
  elsewhere : (c f : ℕ) → c < trace.cpus → f < length trace.flushers → c ≢ flusher_cpu trace f → count_by (is_fault_of f) (part_at j c) ≡ 0
  elsewhere c f less low other = no_fault trace c f (part_at j c)
      (ap (λ (b : Bool). is_on c (if b then Some (flusher_cpu trace f) else None)) (lt-ltb f (length trace.flushers) low)
      ∙ ne_eqb (flusher_cpu trace f) c (λ is. other (sym is)))
      (own_part trace j r w c less)

  its_faults : (f : ℕ) → f < length trace.flushers → count_by (is_fault_of f) (all_told j) ≡ count_by (is_fault_of f) (part_at j (flusher_cpu trace f))
  its_faults f low = ap (count_by (is_fault_of f)) (all_is trace j r w)
      ∙ only_there (is_fault_of f) (parts_of j) (flusher_cpu trace f) (λ d less other. elsewhere d f (in_parts trace j r w d less) low other)

  few_stand : NoneFailed trace r.last → (f : ℕ) → f < length trace.flushers → has_failed (all_told j) f ≡ false
  few_stand none f low =
      let c = flusher_cpu trace f in
      let less : c < trace.cpus = on_its_cpu (length trace.devices) trace.cpus trace.flushers f w.lawful.within.flushers low in
      ap (nat_le MOST_FAULTS) (its_faults f low ∙ faults_are c f less low) ∙ sym (fails_so c f less low) ∙ none c f less low

  none_stands : NoneFailed trace r.last → a_flusher_failed trace (all_told j) ≡ false
  none_stands none = none_below (all_told j) (length trace.flushers) (few_stand none)

  one_stands : SomeFailed trace r.last → a_flusher_failed trace (all_told j) ≡ true
  one_stands some =
      let last : nat_le MOST_FAULTS ((r.last some.cpu).flushers some.flusher).told.faults ≡ true = sym (fails_so some.cpu some.flusher some.cpu_is some.flusher_is) ∙ some.failed in
      let many' : MOST_FAULTS ≤ ((r.last some.cpu).flushers some.flusher).told.faults = leb-true MOST_FAULTS ((r.last some.cpu).flushers some.flusher).told.faults last in
      let stand = faults_are some.cpu some.flusher some.cpu_is some.flusher_is in
      let part = part_at_most (λ (e : Told). cond (is_fault_of some.flusher e) 1 0) (parts_of j) some.cpu (parts_there some.cpu some.cpu_is) in
      let whole = ap (count_by (is_fault_of some.flusher)) (all_is trace j r w) in
      one_below (all_told j) (length trace.flushers) some.flusher some.flusher_is (le-leb MOST_FAULTS (count_by (is_fault_of some.flusher) (all_told j)) (omega arith))

  wrote_all : AllWritten trace r.last → WroteAll trace (all_told j) 0 trace.tasks
  wrote_all all = each_task trace (all_told j) 0 trace.tasks (λ t less. subst (λ (n : ℕ). length (pages_of_task trace n) ≤ count_by (writes_of n) (all_told j)) (let e : t ≡ 0 + t = omega arith in e)
      (let on = on_cpu trace.cpus trace.tasks t w.lawful.within.tasks less in
      let c = on.0 in
      let written = all t c on.1 in
      let told_so = (w.since c on.2).since.wrote.reached [] (λ task. refl) t in
      let counted = count_writes c t (part_at j c) [] in
      let part = part_at_most (λ (e : Told). cond (writes_of t e) 1 0) (parts_of j) c (parts_there c on.2) in
      let whole = ap (count_by (writes_of t)) (all_is trace j r w) in omega arith))

  all_steps : SomeSpent trace r.last → list_any has_all_steps (parts_of j) ≡ true
  all_steps some = list_any_at has_all_steps (parts_of j) some.cpu [] (parts_there some.cpu some.cpu_is)
      (le-leb MOST_PAGE_STEPS (count_by is_page_step (part_at j some.cpu)) (let steps = (w.since some.cpu some.cpu_is).since.grew.page_steps in let spent = some.spent in omega arith))

  ends : (end : Ending) → EndedBy trace r.last j.left end → EndsBy trace (parts_of j) (all_told j) j.left end
  ends ending.Done by = (none_stands by.0, wrote_all by.1, by.3)
  ends ending.Halted by = none_stands by
  ends ending.Spent by = (none_stands by.0, all_steps by.1)
  ends ending.Faulted by = one_stands by

pub ending_is_right : WorkedEndingIsRight
ending_is_right trace j r w = ends trace j r w j.ending w.ended
