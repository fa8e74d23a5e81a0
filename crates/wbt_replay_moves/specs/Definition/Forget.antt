-- A state of which only so much is kept as the next moves need, and one that may make further steps.
use Rattle.std.specs.Prelude.{◌+◌, [], length, map, replicate}
use Rattle.wbt_num.specs.declared.most.TheConstants.{MOST_STEPS}
use Rattle.wbt_replay_moves.specs.Definition.State.{State, no_step}
use Rattle.wbt_replay_moves.specs.declared.state.Cpu.{Cpu}

-- a CPU without its part of the journal
abbrev pub bare : (c : Cpu) → Cpu
bare c = record c { entries = []; checks = []; estimates = [] }

-- The steps made, and all that the CPUs and the timer have told, are forgotten; how many steps were made is not.
abbrev pub forgotten : (s : State) → State
forgotten s = record s {
  steps = replicate (length s.steps) no_step;
  cpus = map bare s.cpus;
  timer = record s.timer { entries = [] };
}

-- As many steps more may be made as a replay may have.
abbrev pub extended : (s : State) → State
extended s = record s { most = s.most + MOST_STEPS }
