-- A state whose lists are cut: of what a run has told, it keeps no more than how many steps were made.
use Rattle.std.specs.Prelude.{ℕ, suc, ◌-◌, ◌≤◌, List, [], ◌∷◌, ◌++◌, map, length, get_or, drop, replicate}
use Rattle.wbt_journal.specs.declared.entry.CheckEntry.{CheckEntry}
use Rattle.wbt_journal.specs.declared.entry.Entry.{Entry}
use Rattle.wbt_journal.specs.declared.entry.Entry.TheVariants as entry
use Rattle.wbt_journal.specs.declared.entry.EstEntry.{EstEntry}
use Rattle.wbt_journal.specs.declared.step.StepEntry.{StepEntry}
use Rattle.wbt_journal.specs.declared.timer.TimerEntry.{TimerEntry}
use Rattle.wbt_replay_moves.specs.Definition.State.{State, no_cpu, no_step, cpu_of}
use Rattle.wbt_replay_moves.specs.declared.state.Cpu.{Cpu}
use Rattle.wbt_replay_moves.specs.declared.state.Timer.{Timer}

-- ---- how much is cut

-- how many items are cut from the beginning of each list: of the steps, of each CPU's entries, checks and estimates by its number, and of
-- the timer's entries
pub record Told : Type 0 where
  pub steps : ℕ
  pub entries : ℕ → ℕ
  pub checks : ℕ → ℕ
  pub estimates : ℕ → ℕ
  pub timer : ℕ

-- how much is cut of the CPUs after the first, numbered from 0 on
abbrev pub of_others : (told : Told) → Told
of_others told = record told { entries = λ i. told.entries (suc i); checks = λ i. told.checks (suc i); estimates = λ i. told.estimates (suc i) }

-- the lengths of all lists of a state
abbrev pub all_of : (s : State) → Told
all_of s = record {
  steps = length s.steps;
  entries = λ i. length (cpu_of i s).entries;
  checks = λ i. length (cpu_of i s).checks;
  estimates = λ i. length (cpu_of i s).estimates;
  timer = length s.timer.entries;
}

-- ---- the cut

-- The steps told are still counted.
abbrev pub cut_steps : (told : Told) (steps : List StepEntry) → List StepEntry
cut_steps told steps = replicate told.steps no_step ++ drop told.steps steps

-- An entry names its check, or its estimate, by the place among those that are kept.
abbrev pub renamed : (checks estimates : ℕ) (e : Entry) → Entry
renamed checks estimates (entry.Check place) = entry.Check (place - checks)
renamed checks estimates (entry.Est place) = entry.Est (place - estimates)
renamed checks estimates other = other

-- the CPU of a number, with its lists cut
abbrev pub cut_cpu : (told : Told) (cpu : ℕ) (c : Cpu) → Cpu
cut_cpu told cpu c = record c {
  entries = map (renamed (told.checks cpu) (told.estimates cpu)) (drop (told.entries cpu) c.entries);
  checks = drop (told.checks cpu) c.checks;
  estimates = drop (told.estimates cpu) c.estimates;
}

-- and each of these CPUs
abbrev pub cut_cpus : (told : Told) (cpus : List Cpu) → List Cpu
cut_cpus told [] = []
cut_cpus told (c ∷ cs) = cut_cpu told 0 c ∷ cut_cpus (of_others told) cs

-- the timer, with its entries cut
abbrev pub cut_timer : (told : Told) (timer : Timer) → Timer
cut_timer told timer = record timer { entries = drop told.timer timer.entries }

-- the state, with its lists cut
abbrev pub cut : (told : Told) (s : State) → State
cut told s = record s { steps = cut_steps told s.steps; cpus = cut_cpus told s.cpus; timer = cut_timer told s.timer }

-- ---- what may be cut

-- a CPU's lists are at least so long
pub record ListsAreWithin (told : Told) (cpu : ℕ) (logged : List Entry) (made : List CheckEntry) (published : List EstEntry) : Type 0 where
  pub entries : told.entries cpu ≤ length logged
  pub checks : told.checks cpu ≤ length made
  pub estimates : told.estimates cpu ≤ length published

-- likewise of the CPU
abbrev pub CpuIsWithin : (told : Told) (cpu : ℕ) (c : Cpu) → Type 0
CpuIsWithin told cpu c = ListsAreWithin told cpu c.entries c.checks c.estimates

-- the lists of a state are at least so long; nothing is cut of a CPU that isn't there
pub record AreWithin (told : Told) (made : List StepEntry) (cs : List Cpu) (logged : List TimerEntry) : Type 0 where
  pub steps : told.steps ≤ length made
  pub cpus : (cpu : ℕ) → CpuIsWithin told cpu (get_or cs cpu no_cpu)
  pub timer : told.timer ≤ length logged

-- likewise of the state
abbrev pub IsWithin : (told : Told) (s : State) → Type 0
IsWithin told s = AreWithin told s.steps s.cpus s.timer.entries
