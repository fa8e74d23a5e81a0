use Rattle.std.proofs.Common.{◌+◌, Contains, refl, subst}
use Rattle.wbt_io.specs.Memory.{DiskInMemory}
use Rattle.wbt_io.proofs.faulty_disk.FaultyDiskDisk.write.Goals as goal

pub returns-then-begin-clause-fails : goal.returns-then-begin-clause-fails
returns-then-begin-clause-fails c =
    let listed = subst (λ (disk : DiskInMemory). Contains disk.fails (disk.calls + 1)) c.self.view_is (c.if-begin.ensures.listed.0 refl) in
    (λ _. listed, λ _. refl)
