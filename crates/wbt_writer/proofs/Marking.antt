-- A mark of an inode, and puts into queues.
use Rattle.std.proofs.Common.{◌≡◌, ◌≢◌, ℕ, ◌≤◌, inl, inr, Bool, cond, not, eqb, List, [], filter, refl, sym, ap, ◌∙◌, subst, arith, eq-eqb, ne_eqb}
use Rattle.std.proofs.lemmas.Bool.{cases_eq, cond_both}
use Rattle.wbt_writer.proofs.Common.{MOST_PAGE_STEPS, times_in, mark, record_after, Setting, CpuRecord, CpuJournal, setting, Seated, Makes, Trace, Kit, Seats, OnlyCpu, record_of, Grew, steps_grow, side_of, written_of, AreAt, Fits, record_in, sight, Does, Keeps, OnlyPuts}
use Rattle.wbt_fraction.specs.Several as fraction
use Rattle.wbt_grant.proofs.Entries.{times_in-filter}
use Rattle.wbt_queue.specs.Passes as queue
use Rattle.wbt_run_laws.proofs.Growing.{by_nothing}
use Rattle.wbt_run_laws.proofs.Stepping.{untold_grows}
use Rattle.wbt_writer.specs.Took.{IsPut}
use Rattle.wbt_writer.specs.Writes.{Marked}
use Rattle.wbt_writer.specs.declared.work.WriterWork.{WriterWork}
use Rattle.wbt_writer.proofs.Alone.{keeps_table, tells_nothing}
use Rattle.wbt_writer.proofs.Changing.{Changed, apart_same, changed}
use Rattle.wbt_writer.proofs.Noting.{does_more}

-- ---- other seats

pub at_seats : (trace : Trace) (cpu : ℕ) (kit : Kit) (work : WriterWork) (old new : Seats) → AreAt trace cpu kit work old → Fits cpu kit new → AreAt trace cpu kit work new
at_seats trace cpu kit work old new at fits = record { is_work = at.is_work; suits = at.suits; its = at.its; fits = fits }

-- ---- puts

pub keeps_puts : (cpu : ℕ) (was is : WriterWork) (old new : Seats) → OnlyPuts was is old new → Keeps cpu old new
keeps_puts cpu was is old new puts = record {
  apart = apart_same cpu old.cpu new.cpu puts.cpu;
  held = ap (λ (s : Seated). (record_of cpu s.cpus).held) puts.cpu;
  rescans = λ page owes. subst (λ (s : Seated). 1 ≤ times_in page (record_of cpu s.cpus).owed_rescans) puts.cpu owes;
  stakes = λ d. ap (λ (s : fraction.Seats). fraction.stakes_in d s.domains) puts.share;
  rooms = λ d. ap (λ (s : fraction.Seats). fraction.room_in d s.domains) puts.share;
  totals = ap (λ (s : fraction.Seats). s.totals) puts.share;
  queues = puts.queues;
  few = λ low. subst (λ (s : Seated). (record_of cpu s.cpus).page_steps ≤ MOST_PAGE_STEPS) (sym puts.cpu) low;
}

pub puts_do : (trace : Trace) (opened cpu : ℕ) (was is : WriterWork) (old new : Seats) (log : CpuJournal) → OnlyPuts was is old new → Does trace opened cpu [] (sight was old log) (sight is new log)
puts_do trace opened cpu was is old new log puts =
    tells_nothing trace opened cpu was is old new log (ap side_of puts.tasks) (ap written_of puts.tasks) puts.fractions
    (subst (λ (s : Seated). Grew [] (record_in cpu old) (record_of cpu s.cpus)) (sym puts.cpu) (by_nothing (record_in cpu old)))
    puts.share puts.est (keeps_puts cpu was is old new puts)

-- ---- lists of which something was paid

filtered : (i inode n : ℕ) → 1 ≤ cond (not (eqb i inode)) n 0 → (i ≢ inode) × (1 ≤ n)
filtered i inode n some = elim (cases_eq i inode) [
  | inl same ↦ absurd (let none : cond (not (eqb i inode)) n 0 ≡ 0 = ap (λ (b : Bool). cond (not b) n 0) (eq-eqb i inode same) in omega arith)
  | inr other ↦ (other, (let is : cond (not (eqb i inode)) n 0 ≡ n = ap (λ (b : Bool). cond (not b) n 0) (ne_eqb i inode other) in omega arith))
]

among : (p : ℕ) (test : ℕ → Bool) (pages : List ℕ) → 1 ≤ times_in p (filter test pages) → 1 ≤ times_in p pages
among p test pages some = cond_both (test p) (times_in p pages) 0 (λ (n : ℕ). 1 ≤ n → 1 ≤ times_in p pages) (λ t low. low) (λ t low. absurd (omega arith))
    (subst (λ (n : ℕ). 1 ≤ n) (times_in-filter p test pages) some)

-- ---- a mark, and what is put then

module _ (trace : Trace) (kit : Kit) (cpu inode found : ℕ) (was : WriterWork) (old new : Seats) (at : AreAt trace cpu kit was old) (only : OnlyCpu old new)
    (makes : Makes (setting kit.throttle.layout) (mark cpu inode) found old.cpu new.cpu) where
  abbrev set' : Setting
  set' = setting kit.throttle.layout

  change : Changed cpu kit (record_after set' (mark cpu inode) found) old new
  change = changed cpu kit (record_after set' (mark cpu inode) found) old new at.fits only makes.changes

  pub at_marked : AreAt trace cpu kit was new
  at_marked = at_seats trace cpu kit was old new at change.fits

  grew : Grew [] (record_in cpu old) (record_in cpu new)
  grew = subst (λ (r : CpuRecord). Grew [] (record_in cpu old) r) (sym change.becomes)
      (untold_grows [] (record_in cpu old) (record_after set' (mark cpu inode) found (record_in cpu old)) ((steps_grow set' found (record_in cpu old)).untold (mark cpu inode) refl))

  keeps : Keeps cpu old new
  keeps = keeps_table cpu old new change.on (ap (λ (r : CpuRecord). r.held) change.becomes)
      (λ page owes. among page (λ p. not (eqb (set'.inode p) inode)) (record_in cpu old).owed_rescans (subst (λ (r : CpuRecord). 1 ≤ times_in page r.owed_rescans) change.becomes owes))
      (ap (λ (r : CpuRecord). r.page_steps) change.becomes)

  marked_owes : (i : ℕ) → 1 ≤ times_in i (record_in cpu new).owed_marks → (i ≢ inode) × (1 ≤ times_in i (record_in cpu old).owed_marks)
  marked_owes i owes = filtered i inode (times_in i (record_in cpu old).owed_marks)
      (subst (λ (n : ℕ). 1 ≤ n) (ap (λ (r : CpuRecord). times_in i r.owed_marks) change.becomes ∙ times_in-filter i (λ m. not (eqb m inode)) (record_in cpu old).owed_marks) owes)

  module _ (is : WriterWork) (last : Seats) (puts : OnlyPuts was is new last) (queued : found ≡ 0 → IsPut trace inode new last is) where
    pub marked : Marked trace kit cpu inode was is old last
    marked = record {
      marks = record {
        found = found;
        makes = subst (λ (s : Seated). Makes set' (mark cpu inode) found old.cpu s) (sym puts.cpu) makes;
        puts = λ none. subst (λ (q : queue.Seats). IsPut trace inode (record old { queue = q }) last is) only.queue (queued none);
      };
      does = λ before. does_more trace kit.published.moment cpu [] [] (sight was old before) (sight was new before) (sight is last before)
          (tells_nothing trace kit.published.moment cpu was was old new before refl refl refl grew change.on.share change.on.est keeps)
          (puts_do trace kit.published.moment cpu was is new last before puts);
      paid = λ i owes. marked_owes i (subst (λ (s : Seated). 1 ≤ times_in i (record_of cpu s.cpus).owed_marks) puts.cpu owes);
      debts = ap (λ (s : Seated). (record_of cpu s.cpus).debts) puts.cpu ∙ ap (λ (r : CpuRecord). r.debts) change.becomes;
      writers = ap (λ (s : Seated). (record_of cpu s.cpus).writers) puts.cpu ∙ ap (λ (r : CpuRecord). r.writers) change.becomes;
      tasks = puts.tasks;
      fractions = puts.fractions;
      share = puts.share ∙ change.on.share;
      est = puts.est ∙ change.on.est;
    }
