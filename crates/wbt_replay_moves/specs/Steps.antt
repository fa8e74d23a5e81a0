-- The steps of a machine in memory, of which it may have forgotten the first.
use Rattle.std.specs.Prelude.{ℕ, List, ◌++◌, replicate}
use Rattle.wbt_journal.specs.declared.step.StepEntry.{StepEntry}
use Rattle.wbt_replay_moves.specs.Definition.State.{no_step}

-- how many steps were forgotten, and those that were made after them
pub record Made : Type 0 where
  pub forgotten : ℕ
  pub kept : List StepEntry

-- the steps made, each in its place
abbrev pub steps_of : (made : Made) → List StepEntry
steps_of made = replicate made.forgotten no_step ++ made.kept
