-- What a closed throttle tells.
use Rattle.std.specs.Prelude.{◌≡◌, ℕ, ◌^◌, ◌<◌, List, length, slice_index_or, Option, Some, None, ℤ, pos, ◌+ℤ◌, ◌-ℤ◌}
use Rattle.wbt_counter.specs.declared.counter.Counter.{Counter}
use Rattle.wbt_counter.specs.declared.record.Debt.{Debt}
use Rattle.wbt_counter.specs.Account.{amount, to_clear}
use Rattle.wbt_counter.specs.Addends.{local_in}
use Rattle.wbt_counter.specs.Counters.{debt_to}
use Rattle.wbt_counter.specs.Sums.{total_ℤ}
use Rattle.wbt_counter.specs.Word.{count_in}
use Rattle.wbt_book.specs.PageWords.{bits_at}
use Rattle.wbt_grant.specs.declared.record.CpuRecord.{CpuRecord}
use Rattle.wbt_grant.specs.State.{State, opening, exact_count}
use Rattle.wbt_grant.specs.Kinds.{AreAllowed, run}
use Rattle.wbt_grant.specs.Laws.{Holds}
use Rattle.wbt_table.specs.declared.layout.Layout.{Layout}
use Rattle.wbt_table.specs.declared.state.CpuState.{CpuState}
use Rattle.wbt_table.specs.declared.rule.Granted.{Granted}
use Rattle.wbt_table.specs.declared.rule.Logged.{Logged}
use Rattle.wbt_table.specs.History.{Past, AreMade, steps_of, log_of, timer_log_of, LogsGrant}
use Rattle.wbt_table.specs.Layout.{setting, HasCounter, page_at, shared_at, own_at, width}
use Rattle.wbt_table.specs.Rule.{Has, HasLog, Shows}
use Rattle.wbt_table.specs.Seat.{Seated, States, debts_in}
use Rattle.wbt_table.specs.Calls.{HasRecords, no_state}

-- the words as they were last, and what the CPUs of the last seat owe
pub record Counted : Type 0 where
  pub layout : Layout
  pub words : List ℕ
  pub states : States

-- the word with this number, as it was last
abbrev pub word_at : (census : Counted) (k : ℕ) → ℕ
word_at census k = slice_index_or census.words k 0

-- own numbers have room in their words
abbrev pub OwnFits : (key : Layout) (words : List ℕ) → Type 0
OwnFits key words = (x : Counter) (i : ℕ) → HasCounter key x → i < key.cpus → slice_index_or words (own_at key x i) 0 < 2 ^ 33

-- what is kept of a CPU; one that the seat doesn't hold owes nothing
abbrev pub kept_state : (state : Option CpuState) → CpuState
kept_state None = no_state
kept_state (Some state) = state

-- what a CPU owes to a counter
abbrev pub debt_at : (census : Counted) (c : ℕ) (x : Counter) → Debt
debt_at census c x = debt_to x (debts_in (kept_state (slice_index_or census.states c None)))

-- a shared count with all own numbers and the events that are owed, less the numbers that are folded and not cleared
abbrev pub found_count : (census : Counted) (x : Counter) → ℤ
found_count census x =
    ((count_in (word_at census (shared_at census.layout x)) +ℤ total_ℤ census.layout.cpus (λ i. local_in (word_at census (own_at census.layout x i))))
    +ℤ total_ℤ census.layout.cpus (λ i. amount (debt_at census i x))) -ℤ total_ℤ census.layout.cpus (λ i. to_clear (debt_at census i x))

-- The words are those of a state of the step relation, which has the seat's records and of which all that holds between any two
-- steps does: the bound, the ledger, what records tell
pub record Closes (seat : Seated) (census : Counted) : Type 0 where
  pub state : State
  -- it is the one to which all that was made led, from the opening on, each step allowed where it was made
  pub past : Past
  pub are_made : AreMade (setting seat.layout) past
  pub allowed : AreAllowed (setting seat.layout) (steps_of past) (opening (setting seat.layout))
  pub runs : state ≡ run (setting seat.layout) (steps_of past) (opening (setting seat.layout))
  -- the log of each CPU of the seat has all of it that the CPU made, but for a grant after its last step; so has the timer's
  pub logs : (i : ℕ) (log : List Logged) → HasLog seat.logs i log
      → (g : Option Granted) × LogsGrant g log (log_of (setting seat.layout) i past)
  pub timer_log : (log : List Logged) → seat.timer_log ≡ Some log → timer_log_of past ≡ log
  pub records : HasRecords seat state
  pub holds : Holds (setting seat.layout) state
  pub layout : census.layout ≡ seat.layout
  pub long : length census.words ≡ width seat.layout
  pub shows : Shows seat.layout census.words state
  pub pages : (p : ℕ) → p < (setting seat.layout).pages → bits_at (word_at census (page_at p)) p ≡ state.book p
  pub debts : (i : ℕ) (r : CpuRecord) (x : Counter) → Has seat.cpus i r → debt_at census i x ≡ debt_to x r.debts
  -- with a seat that holds all, the exact count of each counter is found
  pub exact : ((i : ℕ) → i < seat.layout.cpus → (r : CpuRecord) × Has seat.cpus i r) → (x : Counter) → HasCounter seat.layout x
      → pos (exact_count (setting seat.layout) state.book x) ≡ found_count census x
