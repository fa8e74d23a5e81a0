-- When a decision can be made.
use Rattle.std.specs.Prelude.{◌^◌, ◌<◌}
use Rattle.wbt_pause.specs.Reads.{IsReadable, IsUsable, IsCounted}
use Rattle.wbt_law.specs.declared.input.LawInput.{LawInput}

-- A decision can be made from these: reads of a machine, rates to divide by, counts with room, and a moment.
pub record IsDecidable (law : LawInput) : Type 0 where
  pub reads : IsReadable law.reads
  pub estimate : IsUsable law.estimate
  pub task : IsCounted law.task
  pub moment : law.now < 2 ^ 62
