-- Throttles and seats as contracts see them, and what the code keeps of the records.
use Rattle.std.specs.Prelude.{◌≡◌, ℕ, ◌<◌, List, [], ◌∷◌, ◌++◌, length, get_or, slice_set, ◌+◌, ◌==◌, cond, ℤ, Option, Some, None, unsigned_abs}
use mathlib.Core.Option.{some}
use lib.ListN.{get_elem?}
use Rattle.atomic_table.specs.Seated.{TableId}
use Rattle.wbt_counter.specs.declared.counter.Counter.TheVariants.{Domain, Context}
use Rattle.wbt_counter.specs.declared.counter.Counter.{Counter}
use Rattle.wbt_counter.specs.declared.record.Debt.{Debt}
use Rattle.wbt_counter.specs.declared.record.Debt.TheVariants as debt
use Rattle.wbt_counter.specs.Word.{IsPackable}
use Rattle.wbt_counter.specs.declared.record.Owed.{Owed}
use Rattle.wbt_grant.specs.declared.record.CpuRecord.{CpuRecord}
use Rattle.wbt_grant.specs.declared.record.TimerRecord.{TimerRecord}
use Rattle.wbt_grant.specs.Setting.{Setting}
use Rattle.wbt_grant.specs.State.{writer_in}
use Rattle.wbt_grant.specs.Kinds.{Step}
use Rattle.wbt_grant.specs.Record.{one_more}
use Rattle.wbt_grant.specs.Seats.{maker_of, own_told, record_after, timer_after}
use Rattle.wbt_table.specs.declared.layout.Layout.{Layout}
use Rattle.wbt_table.specs.declared.state.CpuState.{CpuState}
use Rattle.wbt_table.specs.declared.state.Due.{Due}
use Rattle.wbt_table.specs.declared.state.Due.TheVariants.{Event, Fold, Clear}
use Rattle.wbt_table.specs.declared.state.Slot.{Slot}
use Rattle.wbt_table.specs.declared.state.Slot.TheVariants.{First, Second, Third}
use Rattle.wbt_table.specs.declared.rule.Granted.{Granted}
use Rattle.wbt_table.specs.declared.rule.Logged.{Logged}
use Rattle.wbt_table.specs.Layout.{setting, HasCounter}
use Rattle.wbt_table.specs.History.{log_of, timer_log_of, LogsStep}
use Rattle.wbt_table.specs.Rule.{Cpus, Has, put_record, Logs, LogChanges, given, MayGive, Sat}

-- a throttle: its words, and its layout
pub record Shape : Type 0 where
  pub table : TableId
  pub layout : Layout

-- a seat: whose it is, and the records and logs of the CPUs and of the timer that it holds. A record has each grant at once, a log
-- with the CPU's next step
pub record Seated : Type 0 where
  pub table : TableId
  pub layout : Layout
  pub cpus : Cpus
  pub timer : Option TimerRecord
  pub logs : Logs
  pub timer_log : Option (List Logged)

-- the seat is the throttle's
pub record IsAt (throttle : Shape) (seat : Seated) : Type 0 where
  pub table : seat.table ≡ throttle.table
  pub layout : seat.layout ≡ throttle.layout

-- the seat holds the CPU of this number, or the timer, whose number comes after the last CPU's
pub data IsHeld (seat : Seated) (n : ℕ) : Type 0 where
  as_cpu : (r : CpuRecord) → Has seat.cpus n r → IsHeld seat n
  as_timer : (r : TimerRecord) → n ≡ seat.layout.cpus → seat.timer ≡ Some r → IsHeld seat n

-- the record of one CPU becomes f of what it was, and nothing else changes
pub record Changes (c : ℕ) (f : CpuRecord → CpuRecord) (old new : Seated) : Type 0 where
  pub table : new.table ≡ old.table
  pub layout : new.layout ≡ old.layout
  pub timer : new.timer ≡ old.timer
  pub cpus : (r : CpuRecord) → Has old.cpus c r → new.cpus ≡ put_record c (f r) old.cpus

-- the log of one CPU comes to one that P tells of, and no other changes
pub record LogComes (c : ℕ) (P : List Logged → List Logged → Type 0) (old new : Seated) : Type 0 where
  pub timer_log : new.timer_log ≡ old.timer_log
  pub logs : LogChanges c P old.logs new.logs

-- one step of the CPU was logged, with a grant since the one before or without
abbrev pub LogsOne : (set : Setting) (c : ℕ) (step : Step) (n : ℕ) (old new : List Logged) → Type 0
LogsOne set c step n old new = (grants : Option Granted) × LogsStep set (log_of set c) grants step n old new

-- a CPU's step found n, which then stood in its word
pub record Makes (set : Setting) (step : Step) (n : ℕ) (old new : Seated) : Type 0 where
  pub changes : Changes (maker_of set step) (record_after set step n) old new
  pub logs : LogComes (maker_of set step) (LogsOne set (maker_of set step) step n) old new

-- the timer's step did
pub record Times (set : Setting) (step : Step) (n : ℕ) (old new : Seated) : Type 0 where
  pub table : new.table ≡ old.table
  pub layout : new.layout ≡ old.layout
  pub cpus : new.cpus ≡ old.cpus
  pub timer : (r : TimerRecord) → old.timer ≡ Some r → new.timer ≡ Some (timer_after step n r)
  pub logs : new.logs ≡ old.logs
  pub timer_log : (log : List Logged) → old.timer_log ≡ Some log
      → (log' : List Logged) × LogsStep set timer_log_of None step n log log' × (new.timer_log ≡ Some log')

-- What the code keeps: the debts of a CPU are at most one to a context's counter, then one to the global domain's, then one to
-- that of the context's cgroup

-- a debt as the record has it; the number of a fold that is due is kept beside it
abbrev pub debt_of : (due : Due) → Debt
debt_of (Event a) = debt.Event a
debt_of (Fold delta) = debt.FoldDue
debt_of (Clear delta) = debt.ClearDue delta

-- the counter of a slot: the context's, the global domain's, or that of the context's cgroup
abbrev pub counter_in : (slot : Slot) (state : CpuState) → Counter
counter_in First state = Context state.context
counter_in Second state = Domain 0
counter_in Third state = Domain state.group

-- what is owed to it
abbrev pub due_in : (slot : Slot) (state : CpuState) → Option Due
due_in First state = state.first
due_in Second state = state.second
due_in Third state = state.third

-- what is owed to the counter x, as a list of one debt or of none
abbrev pub listed : (x : Counter) (due : Option Due) → List Owed
listed x None = []
listed x (Some due) = record { counter = x; debt = debt_of due } ∷ []

-- all that the CPU owes, in the order in which it is paid
abbrev pub debts_in : (state : CpuState) → List Owed
debts_in state = listed (Context state.context) state.first ++ listed (Domain 0) state.second ++ listed (Domain state.group) state.third

-- the kept number is that of the record
abbrev pub IsTold : (set : Setting) (x : Counter) (due : Due) (r : CpuRecord) → Type 0
IsTold set x (Event a) r = unsigned_abs a ≡ 1
IsTold set x (Fold delta) r = (own_told set x r ≡ delta) × IsPackable delta
IsTold set x (Clear delta) r = Unit {0}

-- what is owed to a counter is owed to one that the layout has
abbrev pub IsDue : (key : Layout) (x : Counter) (due : Option Due) (r : CpuRecord) → Type 0
IsDue key x None r = Unit {0}
IsDue key x (Some due) r = HasCounter key x × IsTold (setting key) x due r

-- the code keeps these numbers, debts and grant of the record of the CPU c
pub record Keeps (key : Layout) (c : ℕ) (state : CpuState) (r : CpuRecord) : Type 0 where
  pub steps : state.steps ≡ r.steps
  pub page_steps : state.page_steps ≡ r.page_steps
  pub debts : r.debts ≡ debts_in state
  pub first : IsDue key (Context state.context) state.first r
  pub second : IsDue key (Domain 0) state.second r
  pub third : IsDue key (Domain state.group) state.third r
  pub no_group : state.group ≡ 0 → state.third ≡ None
  pub grants : MayGive (setting key) c state.grants r

-- what is kept of the CPUs that a seat holds, by number
abbrev pub States : Type 0
States = List (Option CpuState)

-- the CPU c is among these, and this is kept of it
abbrev pub Knows : (states : States) (c : ℕ) (state : CpuState) → Type 0
Knows states c state = get_elem? states c ≡ some (Some state)

-- with other numbers kept of one CPU
abbrev pub put_state : (c : ℕ) (state : CpuState) (states : States) → States
put_state c state states = slice_set states c (Some state)

-- a step counts, and the grant that came with it is in the record
abbrev pub stepped : (state : CpuState) → CpuState
stepped state = record state { steps = one_more state.steps; grants = None }

-- and a page step
abbrev pub page_stepped : (state : CpuState) → CpuState
page_stepped state = record (stepped state) { page_steps = state.page_steps + 1 }

-- an event is owed to each counter of a context, whose cgroup's domain is the group
abbrev pub owing_events : (k group : ℕ) (a : ℤ) (state : CpuState) → CpuState
owing_events k group a state = record state {
  context = k;
  group = group;
  first = Some (Event a);
  second = Some (Event a);
  third = cond (group == 0) None (Some (Event a));
}

-- it keeps that for each CPU that the view has, and for no other
pub record Agrees (key : Layout) (states : States) (cpus : Cpus) : Type 0 where
  pub long : length states ≡ key.cpus
  pub as_long : length cpus ≡ length states
  pub kept : (c : ℕ) (r : CpuRecord) → Has cpus c r → (state : CpuState) × Knows states c state × Keeps key c state r
  pub known : (c : ℕ) (state : CpuState) → Knows states c state → (r : CpuRecord) × Has cpus c r

-- the records of a view, each with the grant that comes with its CPU's next step
abbrev pub with_grant : (state : Option CpuState) (record' : Option CpuRecord) → Option CpuRecord
with_grant (Some state) (Some r) = Some (given state.grants r)
with_grant None y = y
with_grant (Some state) None = None

-- so each of the records, by number
abbrev pub with_grants : (states : States) (cpus : Cpus) → Cpus
with_grants [] ys = ys
with_grants (x ∷ xs) [] = []
with_grants (x ∷ xs) (y ∷ ys) = with_grant x y ∷ with_grants xs ys

-- how many steps the timer made is kept, exactly where the seat holds the timer
abbrev pub KeepsTimer : (steps : Option ℕ) (timer : Option TimerRecord) → Type 0
KeepsTimer None None = Unit {0}
KeepsTimer None (Some r) = ⊥
KeepsTimer (Some steps) None = ⊥
KeepsTimer (Some steps) (Some r) = steps ≡ r.steps

-- and what each writer of these CPUs has left
pub record KeepsLefts (key : Layout) (lefts : List ℕ) (cpus : Cpus) : Type 0 where
  pub long : length lefts ≡ length key.writers
  pub each : (w : ℕ) (r : CpuRecord) → w < length key.writers → Has cpus ((setting key).seat w) r
      → get_or lefts w 0 ≡ (writer_in (setting key) w r.writers).left

-- what the code keeps beside the seat's place
pub record IsSeat (me : Sat) (states : States) (lefts : List ℕ) (timer : Option ℕ) : Type 0 where
  pub slots : me.1 ≡ []
  pub agrees : Agrees me.0.layout states me.0.cpus
  pub keeps_timer : KeepsTimer timer me.0.timer
  pub keeps_lefts : KeepsLefts me.0.layout lefts (with_grants states me.0.cpus)

-- and the seat that contracts see
abbrev pub seated : (table : TableId) (me : Sat) (states : States) → Seated
seated table me states = record {
  table = table;
  layout = me.0.layout;
  cpus = with_grants states me.0.cpus;
  timer = me.0.timer;
  logs = me.0.logs;
  timer_log = me.0.timer_log;
}
