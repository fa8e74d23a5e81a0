-- That the gate was asked before each step of a CPU, and said true.
use Rattle.std.specs.Prelude.{ℕ, ◌+◌, ◌<◌, ◌≤◌, Bool, true}
use Rattle.wbt_kit.specs.declared.kit.Seats.{Seats}
use Rattle.wbt_run_steps.specs.Records.{record_of}

-- how many steps the CPU has made
abbrev pub steps_of : (cpu : ℕ) (seats : Seats) → ℕ
steps_of cpu seats = (record_of cpu seats.cpu.cpus).steps

-- the gate said true of the CPU at each number of steps from one up to another, but not at that one
abbrev pub WasLetOn : (cpu : ℕ) (said : ℕ → ℕ → Bool → Type 0) (from to : ℕ) → Type 0
WasLetOn cpu said from to = (steps : ℕ) → from ≤ steps → steps < to → said cpu steps true

-- Before each step that the CPU made between the old seats and the new ones, the gate was asked by just the steps that the CPU had made, and
-- said true. (A count of steps that has reached its type's end, 2^64 - 1, stands still there, and tells no further step.)
pub record AskedBeforeEach (cpu : ℕ) (said : ℕ → ℕ → Bool → Type 0) (old new : Seats) : Type 0 where
  pub let_on : WasLetOn cpu said (steps_of cpu old) (steps_of cpu new)

-- the CPU made one step at most
abbrev pub StepsOnce : (cpu : ℕ) (old new : Seats) → Type 0
StepsOnce cpu old new = steps_of cpu new ≤ steps_of cpu old + 1
