-- How the sides of all CPUs ended.
use Rattle.std.specs.Prelude.{◌≡◌, ◌⊎◌, List, [], ◌∷◌, Result, Ok, Err}
use Rattle.wbt_journal.specs.Each.{Each}
use Rattle.wbt_journal.specs.declared.journal.Ending.{Ending}
use Rattle.wbt_journal.specs.declared.journal.Ending.TheVariants as ending
use Rattle.wbt_num.specs.declared.no_memory.NoMemory.{NoMemory}
use Rattle.wbt_run_worker.specs.declared.side.CpuSide.{CpuSide}
use Rattle.wbt_run_worker.specs.declared.side.End.{End}
use Rattle.wbt_run_worker.specs.declared.side.End.TheVariants.{Ended, Halted, Faulted, Spent, Refused, Stopped}
use Rattle.wbt_run_worker.specs.declared.side.Post.{Post}
use Rattle.wbt_run_worker.specs.declared.side.Stand.TheVariants.{Out}

-- one of these is such
abbrev pub Any : {A : Type 0} (is : A → Type 0) (items : List A) → Type 0
Any is [] = ⊥
Any is (x ∷ more) = is x ⊎ Any is more

-- a flusher ended so in the drain
abbrev pub IsOut : {D : Type 0} (end : End) (post : Post D) → Type 0
IsOut end post = post.stand ≡ Out end

-- a CPU's side ended so, or one of its flushers in the drain
abbrev pub EndsSo : {D : Type 0} (end : End) (side : CpuSide D) → Type 0
EndsSo end side = (side.end ≡ end) ⊎ Any (IsOut end) side.posts.items

-- that of some CPU
abbrev pub SomeEnds : {D : Type 0} (end : End) (sides : List (CpuSide D)) → Type 0
SomeEnds end sides = Any (EndsSo end) sides

-- no CPU's side ended so, nor a flusher in the drain
abbrev pub NoneEnds : {D : Type 0} (end : End) (sides : List (CpuSide D)) → Type 0
NoneEnds end sides = SomeEnds end sides → ⊥

-- ---- all tasks have ended, and each flusher is turned in the drain or was done there

-- the flusher is turned in the drain, or was done there
abbrev pub GoesOn : {D : Type 0} (post : Post D) → Type 0
GoesOn post = (end : End) → post.stand ≡ Out end → ⊥

-- all tasks of the side have ended, and each of its flushers goes on
pub record HasEnded {D : Type 0} (side : CpuSide D) : Type 0 where
  pub ended : side.end ≡ Ended
  pub posts : Each GoesOn side.posts.items

-- so it is of all sides
abbrev pub HaveEnded : {D : Type 0} (sides : List (CpuSide D)) → Type 0
HaveEnded sides = Each HasEnded sides

-- ---- the ending

-- where a CPU's side ended as it was told to stop, another has the cause: memory was refused, a disk failed for the eighth time, or a CPU is spent
abbrev pub HasCauseToStop : {D : Type 0} (sides : List (CpuSide D)) → Type 0
HasCauseToStop sides = SomeEnds Stopped sides → SomeEnds Refused sides ⊎ (SomeEnds Faulted sides ⊎ SomeEnds Spent sides)

-- Want of memory stands before all, a fault before a CPU that is spent, and that before one that was halted.
abbrev pub EndingIs : {D : Type 0} (sides : List (CpuSide D)) (answer : Result Ending NoMemory) → Type 0
EndingIs sides (Ok ending.Faulted) = SomeEnds Faulted sides × NoneEnds Refused sides
EndingIs sides (Ok ending.Spent) = SomeEnds Spent sides × NoneEnds Faulted sides × NoneEnds Refused sides
EndingIs sides (Ok ending.Halted) = SomeEnds Halted sides × NoneEnds Stopped sides × NoneEnds Spent sides × NoneEnds Faulted sides × NoneEnds Refused sides
EndingIs sides (Ok ending.Done) = NoneEnds Halted sides × NoneEnds Stopped sides × NoneEnds Spent sides × NoneEnds Faulted sides × NoneEnds Refused sides
EndingIs sides (Err refused) = SomeEnds Refused sides

-- the same by what is found of these ends alone
abbrev pub FoundEnd : {D : Type 0} (sides : List (CpuSide D)) (answer : Result Ending NoMemory) → Type 0
FoundEnd sides (Ok ending.Faulted) = SomeEnds Faulted sides × NoneEnds Refused sides
FoundEnd sides (Ok ending.Spent) = SomeEnds Spent sides × NoneEnds Faulted sides × NoneEnds Refused sides
FoundEnd sides (Ok ending.Halted) = SomeEnds Halted sides × NoneEnds Spent sides × NoneEnds Faulted sides × NoneEnds Refused sides
FoundEnd sides (Ok ending.Done) = NoneEnds Halted sides × NoneEnds Spent sides × NoneEnds Faulted sides × NoneEnds Refused sides
FoundEnd sides (Err refused) = SomeEnds Refused sides
