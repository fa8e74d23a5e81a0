-- The laws of a state whose lists are cut: the run goes on from it as from the whole one.
use Rattle.std.specs.Prelude.{ℕ, ◌≡◌, ◌-◌, ◌≤◌, map, length, get_or, drop}
use Rattle.wbt_trace.specs.declared.trace.Trace.{Trace}
use Rattle.wbt_journal.specs.declared.entry.CheckEntry.{CheckEntry}
use Rattle.wbt_journal.specs.declared.entry.EstEntry.{EstEntry}
use Rattle.wbt_replay_moves.specs.Definition.Forget.{forgotten}
use Rattle.wbt_replay_moves.specs.Definition.State.{State, cpu_of}
use Rattle.wbt_replay_order.specs.Definition.Order.{advance, is_ended, run}
use Rattle.wbt_replay_cut.specs.Cut.{Told, all_of, renamed, cut, IsWithin}

-- ---- the run goes on

-- A move makes of the cut state the cut of what it makes of the whole one, and so do any number of moves. Both end at once.
pub record GoesOn (trace : Trace) (told : Told) (s : State) : Type 0 where
  pub move : advance trace (cut told s) ≡ cut told (advance trace s)
  pub within : IsWithin told (advance trace s)
  pub ends : is_ended (cut told s) ≡ is_ended s
  pub moves : (n : ℕ) → run trace n (cut told s) ≡ cut told (run trace n s)
  pub stays_within : (n : ℕ) → IsWithin told (run trace n s)

-- What a run does next doesn't depend on what is cut.
abbrev pub AdvanceIsCut : Type 0
AdvanceIsCut = (trace : Trace) (told : Told) (s : State) → IsWithin told s → GoesOn trace told s

-- ---- all is cut

-- A state that forgets keeps what is left of the whole one where all is cut of it, whatever was cut before.
pub record IsForgotten (s : State) : Type 0 where
  pub within : IsWithin (all_of s) s
  pub first : forgotten s ≡ cut (all_of s) s
  pub again : (told : Told) → IsWithin told s → forgotten (cut told s) ≡ cut (all_of s) s

-- To forget is to cut all.
abbrev pub ForgottenIsCut : Type 0
ForgottenIsCut = (s : State) → IsForgotten s

-- ---- what stands in both

-- the lists of a CPU behind the cut, and the checks and estimates that an entry names there by the places that they have in the whole state
pub record CpuStands (told : Told) (s : State) (cpu : ℕ) : Type 0 where
  pub others : record (cpu_of cpu (cut told s)) {
    entries = (cpu_of cpu s).entries;
    checks = (cpu_of cpu s).checks;
    estimates = (cpu_of cpu s).estimates;
  } ≡ cpu_of cpu s
  pub entries : (cpu_of cpu (cut told s)).entries ≡ map (renamed (told.checks cpu) (told.estimates cpu)) (drop (told.entries cpu) (cpu_of cpu s).entries)
  pub checks : (cpu_of cpu (cut told s)).checks ≡ drop (told.checks cpu) (cpu_of cpu s).checks
  pub estimates : (cpu_of cpu (cut told s)).estimates ≡ drop (told.estimates cpu) (cpu_of cpu s).estimates
  pub check_named : (place : ℕ) (none : CheckEntry) → told.checks cpu ≤ place
      → get_or (cpu_of cpu (cut told s)).checks (place - told.checks cpu) none ≡ get_or (cpu_of cpu s).checks place none
  pub estimate_named : (place : ℕ) (none : EstEntry) → told.estimates cpu ≤ place
      → get_or (cpu_of cpu (cut told s)).estimates (place - told.estimates cpu) none ≡ get_or (cpu_of cpu s).estimates place none

-- All but the lists is the same in the cut state, and so is the part of each list behind the cut.
pub record StandsInBoth (told : Told) (s : State) : Type 0 where
  pub others : record (cut told s) { steps = s.steps; cpus = s.cpus; timer = s.timer } ≡ s
  pub many_steps : length (cut told s).steps ≡ length s.steps
  pub steps : drop told.steps (cut told s).steps ≡ drop told.steps s.steps
  pub many_cpus : length (cut told s).cpus ≡ length s.cpus
  pub cpus : (cpu : ℕ) → CpuStands told s cpu
  pub timer_others : record (cut told s).timer { entries = s.timer.entries } ≡ s.timer
  pub timer : (cut told s).timer.entries ≡ drop told.timer s.timer.entries

-- What is cut of a state is the beginnings of its lists, and nothing else.
abbrev pub OthersStand : Type 0
OthersStand = (told : Told) (s : State) → IsWithin told s → StandsInBoth told s
