-- What may be made and what becomes of a record is known from the record and the found number; and what words and records tell.
use Rattle.std.specs.Prelude.{◌≡◌, ◌≢◌, ℕ, ◌<◌, ◌≤◌, true, false, length, All, ℤ, unsigned_abs}
use Rattle.wbt_counter.specs.declared.counter.Counter.{Counter}
use Rattle.wbt_counter.specs.declared.record.Debt.TheVariants.{Event}
use Rattle.wbt_counter.specs.declared.record.Reading.{Reading}
use Rattle.wbt_counter.specs.Sums.{put, total}
use Rattle.wbt_counter.specs.Word.{version_in, count_in}
use Rattle.wbt_counter.specs.Addends.{local_in}
use Rattle.wbt_counter.specs.History.{sum_of, sum_at}
use Rattle.wbt_counter.specs.Counters.{debt_to, folds_of}
use Rattle.wbt_counter.specs.Recorded.{recorded_sum}
use Rattle.wbt_grant.specs.declared.who.Who.{Who}
use Rattle.wbt_grant.specs.declared.who.Who.TheVariants.{Writer, Cpu, Timer}
use Rattle.wbt_grant.specs.declared.record.CpuRecord.{CpuRecord}
use Rattle.wbt_grant.specs.Setting.{Setting, IsSetting, batch_of}
use Rattle.wbt_grant.specs.State.{State, found_of, stage_of, is_sealed, version_of, sequence_of}
use Rattle.wbt_grant.specs.Record.{is_whole, read_triple}
use Rattle.wbt_grant.specs.Kinds.{Step, own_now, shared_now, page_now, sequence_now, thresh_now, Allowed, after}
use Rattle.wbt_grant.specs.Rule.{Rule}
use Rattle.wbt_grant.specs.Laws.{NoneAhead, AreBehind}
use Rattle.wbt_grant.specs.Seats.{is_by_timer, maker_of, found_by, own_told, record_after, timer_after, RecordAllows, TimerAllows, told_in, is_untold}

-- a step of a CPU may be made exactly where its record allows it, and one of the timer exactly where the timer's does
abbrev pub MayIsKnown : Type 0
MayIsKnown = (set : Setting) (step : Step) (s : State) → is_by_timer step ≡ false
    → (RecordAllows set step (s.cpu (maker_of set step)) → Allowed set step s)
    × (Allowed set step s → RecordAllows set step (s.cpu (maker_of set step)))

-- the same for the timer: its record alone decides whether it may make a step
abbrev pub TimerMayIsKnown : Type 0
TimerMayIsKnown = (set : Setting) (step : Step) (s : State) → is_by_timer step ≡ true
    → (TimerAllows set step s.timer → Allowed set step s) × (Allowed set step s → TimerAllows set step s.timer)

-- the record of the CPU becomes what its own record and the found number say; no other changes
pub record BecomesKnown (set : Setting) (step : Step) (s : State) : Type 0 where
  pub cpus : ◌≡◌ {A = ℕ → CpuRecord} (after set step s).cpu
      (put s.cpu (maker_of set step) (record_after set step (found_by set step s) (s.cpu (maker_of set step))))
  pub timer : (after set step s).timer ≡ s.timer

-- so it is with every allowed step of a CPU, wherever the rule holds
abbrev pub RecordIsKnown : Type 0
RecordIsKnown = (set : Setting) (step : Step) (s : State) → IsSetting set → Rule set s → Allowed set step s
    → is_by_timer step ≡ false → BecomesKnown set step s

-- and so does the timer's
pub record TimerBecomesKnown (set : Setting) (step : Step) (s : State) : Type 0 where
  pub cpus : ◌≡◌ {A = ℕ → CpuRecord} (after set step s).cpu s.cpu
  pub timer : (after set step s).timer ≡ timer_after step (found_by set step s) s.timer

-- so it is with every step of the timer
abbrev pub TimerIsKnown : Type 0
TimerIsKnown = (set : Setting) (step : Step) (s : State) → IsSetting set → Rule set s → is_by_timer step ≡ true
    → TimerBecomesKnown set step s

-- whatever the state, a step of a CPU changes no record but its own, and one of the timer none of a CPU
abbrev pub OthersStay : Type 0
OthersStay = (set : Setting) (step : Step) (s : State)
    → (is_by_timer step ≡ false
    → ((j : ℕ) → j ≢ maker_of set step → (after set step s).cpu j ≡ s.cpu j) × ((after set step s).timer ≡ s.timer))
    × (is_by_timer step ≡ true → (j : ℕ) → (after set step s).cpu j ≡ s.cpu j)

-- after an untold step its CPU's record tells just what it told
abbrev pub UntoldTellsNoMore : Type 0
UntoldTellsNoMore = (set : Setting) (step : Step) (found : ℕ) (r : CpuRecord) → is_untold step found r ≡ true
    → told_in (record_after set step found r) ≡ told_in r

-- words tell what stands in them: shared words the version and the sum, own words the own numbers, limits' words the sequence and,
-- where it is even, the published limits, and pages' words the bits of their pages
pub record WordsTell (set : Setting) (s : State) : Type 0 where
  pub versions : (x : Counter) → version_in (shared_now x s) ≡ length (s.folds x)
  pub sums : (x : Counter) → count_in (shared_now x s) ≡ sum_of (s.folds x)
  pub own : (x : Counter) (i : ℕ) → local_in (own_now x i s) ≡ s.own x i
  pub sequences : (d : ℕ) → set.coding.sequence_in (sequence_now set d s) ≡ sequence_of s.timer d
  pub limits : (d : ℕ) → is_sealed (stage_of d s.timer.drafts) ≡ true
      → set.coding.limits_in (sequence_now set d s) (thresh_now set d s) ≡ s.published d
  pub pages : (p : ℕ) → p < set.pages → set.coding.page_bits (page_now set p s) p ≡ s.book p

-- so it is with all words, wherever the rule holds
abbrev pub WordsAreRead : Type 0
WordsAreRead = (set : Setting) (s : State) → IsSetting set → Rule set s → WordsTell set s

-- no version that its maker has recorded of a counter is after the one that a load finds
abbrev pub IsFresh : (set : Setting) (who : Who) (version : ℕ) (x : Counter) (s : State) → Type 0
IsFresh set (Writer w) version x s = NoneAhead version x (s.cpu (set.seat w))
IsFresh set (Cpu i) version x s = NoneAhead version x (s.cpu i)
IsFresh set Timer version x s = AreBehind version x s.timer.readings

-- so a load of a counter goes back for nobody
abbrev pub CountIsFresh : Type 0
CountIsFresh = (set : Setting) (s : State) → IsSetting set → Rule set s → (who : Who) (x : Counter)
    → IsFresh set who (version_in (shared_now x s)) x s

-- Where a load of limits finds the sequence word as it was, under an even sequence, it has read limits whole: those that stand
-- published, with their version. That isn't before any that the CPU has loaded of the domain
pub record AreReadWhole (set : Setting) (d : ℕ) (s : State) (r : CpuRecord) : Type 0 where
  pub sealed : is_sealed (stage_of d s.timer.drafts) ≡ true
  pub published : read_triple set d (found_of d r.loading) (sequence_now set d s)
      ≡ record { domain = d; version = version_of d s.timer.published; limits = s.published d }
  pub fresh : All (λ t. t.domain ≡ d → t.version ≤ version_of d s.timer.published) r.triples

-- so it is with every load of limits whose last step finds the sequence word as it was, with an even sequence
abbrev pub LimitsAreWhole : Type 0
LimitsAreWhole = (set : Setting) (s : State) → IsSetting set → Rule set s → (i d : ℕ)
    → is_whole set (found_of d (s.cpu i).loading) (sequence_now set d s) ≡ true → AreReadWhole set d s (s.cpu i)

-- what a CPU's record tells of its own numbers: the number itself, that it is at most a batch, and that events are of one page
pub record OwnTells (set : Setting) (s : State) (i : ℕ) (x : Counter) : Type 0 where
  pub told : s.own x i ≡ own_told set x (s.cpu i)
  pub near : unsigned_abs (s.own x i) ≤ batch_of set x
  pub units : (a : ℤ) → debt_to x (s.cpu i).debts ≡ Event a → unsigned_abs a ≡ 1

-- so it is with each CPU and each counter
abbrev pub OwnIsTold : Type 0
OwnIsTold = (set : Setting) (s : State) → Rule set s → (i : ℕ) (x : Counter) → OwnTells set s i x

-- the records of all CPUs have all folds of a counter, and sum to each of its versions
pub record FoldsTell (set : Setting) (s : State) (x : Counter) : Type 0 where
  pub all : total set.cpus (λ i. length (folds_of x (s.cpu i).folds)) ≡ length (s.folds x)
  pub sums : (v : ℕ) → sum_at v (s.folds x) ≡ recorded_sum set.cpus v (λ i. folds_of x (s.cpu i).folds)

-- so it is with each counter, wherever the rule holds
abbrev pub FoldsAreRecorded : Type 0
FoldsAreRecorded = (set : Setting) (s : State) → Rule set s → (x : Counter) → FoldsTell set s x

-- a reading has a version that is among the recorded ones, or 0, and is the sum of all recorded folds up to it
pub record IsRecordedSum (set : Setting) (cpu : ℕ → CpuRecord) (q : Reading) : Type 0 where
  pub version : q.version ≤ total set.cpus (λ i. length (folds_of q.counter (cpu i).folds))
  pub value : q.value ≡ recorded_sum set.cpus q.version (λ i. folds_of q.counter (cpu i).folds)

-- so it is with all readings of all records
abbrev pub ReadingsAreSums : Type 0
ReadingsAreSums = (set : Setting) (s : State) → Rule set s
    → ((i : ℕ) → All (λ q. IsRecordedSum set s.cpu q) (s.cpu i).readings) × All (λ q. IsRecordedSum set s.cpu q) s.timer.readings
