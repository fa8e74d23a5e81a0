-- What the steps of a CPU's turns are together, by how its side ended.
use Rattle.std.specs.Prelude.{List}
use Rattle.wbt_grant.specs.declared.who.StepKind.{StepKind}
use Rattle.wbt_run_worker.specs.declared.side.End.{End}
use Rattle.wbt_run_worker.specs.declared.side.End.TheVariants.{Halted}
use Rattle.wbt_turns.specs.Words.{IsCutOff, IsWhole}

-- They are whole words of this kind, one after another; where the gate stopped the CPU's side, the last one may be cut off.
abbrev pub AreWordsBy : (IsWord : List StepKind → Type 0) (end : End) (word : List StepKind) → Type 0
AreWordsBy IsWord Halted word = IsCutOff IsWord word
AreWordsBy IsWord other word = IsWhole IsWord word
