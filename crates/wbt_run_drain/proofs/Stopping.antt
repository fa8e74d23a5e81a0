-- A side that was told to stop has another's cause.
use Rattle.std.proofs.Common.{◌⊎◌, ⊎_elim, List}
use Rattle.std.specs.Prelude.{Result, Ok, Err}
use Rattle.wbt_run_worker.proofs.Common.{Ending}
use Rattle.wbt_journal.specs.declared.journal.Ending.TheVariants as ending
use Rattle.wbt_num.specs.declared.no_memory.NoMemory.{NoMemory}
use Rattle.wbt_run_worker.specs.declared.side.CpuSide.{CpuSide}
use Rattle.wbt_run_worker.specs.declared.side.End.TheVariants.{Faulted, Spent, Refused, Stopped}
use Rattle.wbt_run_drain.specs.Ends.{EndingIs, FoundEnd, HasCauseToStop, NoneEnds, SomeEnds}

module _ {D : Type 0} (sides : List (CpuSide D)) (cause : HasCauseToStop sides) where
  none_stopped : NoneEnds Spent sides → NoneEnds Faulted sides → NoneEnds Refused sides → NoneEnds Stopped sides
  none_stopped spent faulted refused stopped = ⊎_elim (λ (r : SomeEnds Refused sides). refused r)
      (λ (other : SomeEnds Faulted sides ⊎ SomeEnds Spent sides). ⊎_elim (λ (f : SomeEnds Faulted sides). faulted f) (λ (s : SomeEnds Spent sides). spent s) other) (cause stopped)

  pub ending_by : (answer : Result Ending NoMemory) → FoundEnd sides answer → EndingIs sides answer
  ending_by (Ok ending.Faulted) found = found
  ending_by (Ok ending.Spent) found = found
  ending_by (Ok ending.Halted) found = (found.0, none_stopped found.1 found.2 found.3, found.1, found.2, found.3)
  ending_by (Ok ending.Done) found = (found.0, none_stopped found.1 found.2 found.3, found.1, found.2, found.3)
  ending_by (Err refused) found = found
