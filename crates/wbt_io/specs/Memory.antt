-- Sources, sinks, disks and racks in memory, as contracts see them.
use Rattle.std.specs.Prelude.{ℕ, List}

-- The bytes left, the most bytes of a call, the numbers of the calls that fail, the calls made, and the faults counted.
pub record SourceInMemory : Type 0 where
  pub left : List ℕ
  pub most : ℕ
  pub fails : List ℕ
  pub calls : ℕ
  pub faults : ℕ

-- The bytes held, the most that there is room for, the most bytes of a call, the numbers of the calls that fail, the
-- calls made, and the faults counted.
pub record SinkInMemory : Type 0 where
  pub held : List ℕ
  pub room : ℕ
  pub most : ℕ
  pub fails : List ℕ
  pub calls : ℕ
  pub faults : ℕ

-- The pages that it writes a second, the moment at which its last batch is done, the pages written, the numbers of the calls
-- that fail, the calls made, and the faults counted.
pub record DiskInMemory : Type 0 where
  pub rate : ℕ
  pub busy : ℕ
  pub pages : ℕ
  pub fails : List ℕ
  pub calls : ℕ
  pub faults : ℕ

-- The numbers of the calls that fail on each disk, and the pages written and the faults counted by the disks taken back.
pub record RackInMemory : Type 0 where
  pub fails : List ℕ
  pub pages : ℕ
  pub faults : ℕ
