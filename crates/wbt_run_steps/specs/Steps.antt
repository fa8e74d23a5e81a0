-- What single steps of a CPU make of its record and of its log.
use Rattle.std.specs.Prelude.{◌≡◌, ℕ, Bool, true, false, List, [], map}
use Rattle.wbt_counter.specs.declared.record.Fold.{Fold}
use Rattle.wbt_counter.specs.declared.record.Owed.{Owed}
use Rattle.wbt_grant.specs.declared.record.CpuRecord.{CpuRecord}
use Rattle.wbt_table.specs.Layout.{HasCounter, setting}
use Rattle.wbt_table.specs.Rule.{Has, Holds}
use Rattle.wbt_table.specs.Seat.{Changes}
use Rattle.wbt_journal.specs.Each.{Each}
use Rattle.wbt_journal.specs.Told.{Told, folded}
use Rattle.wbt_journal.specs.declared.entry.CpuJournal.{CpuJournal}
use Rattle.wbt_run_laws.specs.Grew.{Grew}
use Rattle.wbt_run_laws.specs.Log.{Logged}
use Rattle.wbt_kit.specs.declared.kit.Kit.{Kit}
use Rattle.wbt_kit.specs.declared.kit.Seats.{Seats}
use Rattle.wbt_run_steps.specs.Debts.{AreOnce, ArePaid}
use Rattle.wbt_run_steps.specs.Records.{record_of, OnlyCpu}

-- the gate answered so to the CPU, which has made so many steps
abbrev pub IsAnswered : (cpu : ℕ) (said : ℕ → ℕ → Bool → Type 0) (answer : Bool) (seats : Seats) → Type 0
IsAnswered cpu said answer seats = Holds seats.cpu.cpus cpu (λ r. said cpu r.steps answer)

-- the gate said false to it
abbrev pub IsStopped : (cpu : ℕ) (said : ℕ → ℕ → Bool → Type 0) (seats : Seats) → Type 0
IsStopped cpu said seats = IsAnswered cpu said false seats

-- what the CPU owes it owes to counters that there are, one thing at most to each
pub record AreOwed (cpu : ℕ) (kit : Kit) (seats : Seats) : Type 0 where
  pub there : Each (λ (owed : Owed). HasCounter kit.throttle.layout owed.counter) (record_of cpu seats.cpu.cpus).debts
  pub once : AreOnce (record_of cpu seats.cpu.cpus).debts

-- folds as entries
abbrev pub tells_folds : (folds : List Fold) → List Told
tells_folds folds = map (λ (f : Fold). folded f) folds

-- what steps that pay leave as it is: they load nothing
pub record Stays (r new : CpuRecord) : Type 0 where
  pub events : new.events ≡ r.events
  pub found_dirty : new.found_dirty ≡ r.found_dirty
  pub readings : new.readings ≡ r.readings
  pub triples : new.triples ≡ r.triples
  pub page_steps : new.page_steps ≡ r.page_steps
  pub held : new.held ≡ r.held
  pub rescans : new.owed_rescans ≡ r.owed_rescans
  pub marks : new.owed_marks ≡ r.owed_marks
  pub writers : new.writers ≡ r.writers

-- What the CPU owed to counters was paid, what was owed first first, all of it or until the gate said false: its record grew by some folds, of
-- counters that there are, and the log tells just these.
pub record Settled (cpu : ℕ) (kit : Kit) (said : ℕ → ℕ → Bool → Type 0) (all : Bool) (old new : Seats) (before behind : CpuJournal) : Type 0 where
  pub was : CpuRecord
  pub is : CpuRecord
  pub had : Has old.cpu.cpus cpu was
  pub becomes : Changes cpu (λ (q : CpuRecord). is) old.cpu new.cpu
  pub only : OnlyCpu old new
  pub folds : List Fold
  pub logged : Logged (tells_folds folds) before behind
  pub grew : Grew (tells_folds folds) was is
  pub there : Each (λ (f : Fold). HasCounter kit.throttle.layout f.counter) folds
  pub stays : Stays was is
  pub order : ArePaid (setting kit.throttle.layout) cpu folds was is
  pub paid : all ≡ true → is.debts ≡ []
  pub stopped : all ≡ false → said cpu is.steps false
