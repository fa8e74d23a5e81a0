-- The lines of what a journal tells.
use Rattle.std.specs.Prelude.{ℕ, ◌+◌, Bool, true, false, List, [], ◌∷◌, ◌++◌, flat_map, Option, Some, None, ◌==◌, if◌then◌else◌}
use Rattle.wbt_counter.specs.declared.counter.Counter.{Counter}
use Rattle.wbt_counter.specs.declared.counter.Counter.TheVariants as counter
use Rattle.wbt_pause.specs.declared.decision.Kind.{Kind}
use Rattle.wbt_pause.specs.declared.decision.Kind.TheVariants as kind
use Rattle.wbt_journal.specs.declared.entry.CheckEntry.{CheckEntry}
use Rattle.wbt_journal.specs.declared.entry.EstEntry.{EstEntry}
use Rattle.wbt_journal.specs.declared.entry.DomainLine.{DomainLine}
use Rattle.wbt_journal.specs.declared.entry.CpuJournal.{CpuJournal}
use Rattle.wbt_journal.specs.declared.timer.TimerEntry.{TimerEntry}
use Rattle.wbt_journal.specs.declared.timer.TimerEntry.TheVariants as timer
use Rattle.wbt_journal.specs.declared.journal.Left.{Left}
use Rattle.wbt_journal.specs.declared.journal.StrictLine.{StrictLine}
use Rattle.wbt_journal.specs.declared.journal.Ending.{Ending}
use Rattle.wbt_journal.specs.declared.journal.Ending.TheVariants as ending
use Rattle.wbt_journal.specs.declared.word.Word.TheVariants as word
use Rattle.wbt_journal.specs.declared.field.Field.{Field}
use Rattle.wbt_journal.specs.declared.field.Field.TheVariants.{Name, Int, Domain, Context}
use Rattle.wbt_journal.specs.Line.{Line, line, num}
use Rattle.wbt_journal.specs.Told.{Told, wrote, folded, checked, claimed, batch, done, share, estimated, fault, gave_back, noticed, aged, took, told}

-- ---- fields

-- the field that names a counter
abbrev pub counter_field : (counter : Counter) → Field
counter_field (counter.Domain domain) = Domain domain
counter_field (counter.Context context) = Context context

-- the word of a write: whether its page was clean before
abbrev pub fresh_field : (fresh : Bool) → Field
fresh_field true = Name word.Fresh
fresh_field false = Name word.Already

-- the word of a decision's kind
abbrev pub kind_field : (kind : Kind) → Field
kind_field kind.Free = Name word.Free
kind_field kind.Go = Name word.Go
kind_field kind.Exempt = Name word.Exempt
kind_field kind.Wait = Name word.Wait

-- how a page was given back
abbrev pub back_field : (absorbed : Bool) → Field
back_field true = Name word.Absorbed
back_field false = Name word.Dirty

-- the word of a page that is left: bit 0 is dirty, bit 1 is under writeback
abbrev pub bits_field : (word : ℕ) → Field
bits_field bits = if bits == 1 then Name word.Dirty else (if bits == 2 then Name word.Writeback else Name word.Both)

-- the word of an ending
abbrev pub ending_field : (ending : Ending) → Field
ending_field ending.Done = Name word.Done
ending_field ending.Halted = Name word.Halted
ending_field ending.Spent = Name word.Spent
ending_field ending.Faulted = Name word.Faulted

-- ---- the timer

-- the line of a timer's entry
abbrev pub timer_line : (entry : TimerEntry) → Line
timer_line (timer.Limits domain now limits) = line word.Limits (num domain ∷ num now ∷ num limits.thresh ∷ num limits.bg ∷ num limits.hard ∷ [])
timer_line (timer.Period domain k) = line word.Period (num domain ∷ num k ∷ [])

-- ---- CPUs

-- what a check read of a domain, with the version of the limits, and the count as it stood in the shared word
abbrev pub read_line : (read : DomainLine) → Line
read_line read = line word.Read (num read.domain ∷ num read.triple ∷ num read.limits.thresh ∷ num read.limits.bg ∷ num read.limits.hard
    ∷ num read.count.version ∷ Int read.count.value ∷ num read.share.period ∷ num read.share.num ∷ num read.share.den ∷ [])

-- the line of what a check read of its cgroup, if it has one
abbrev pub cgroup_lines : (which : Option DomainLine) → List Line
cgroup_lines None = []
cgroup_lines (Some read) = read_line read ∷ []

-- the line of a context's count as a check loaded it
abbrev pub count_line : (check : CheckEntry) → Line
count_line check = line word.Count (num check.context ∷ num check.count.version ∷ Int check.count.value ∷ [])

-- the last three numbers are the task's after the decision
abbrev pub decision_line : (check : CheckEntry) → Line
decision_line check = line word.Check (num check.task ∷ num check.context ∷ num check.now ∷ num check.estimate
    ∷ kind_field check.decision.kind ∷ num check.decision.pause ∷ num check.decision.left
    ∷ num check.decision.task.nr_dirtied ∷ num check.decision.task.nr_dirtied_pause ∷ num check.decision.task.paused_when ∷ [])

-- the lines of a check: what it read of its domains, its context's count, and its decision
abbrev pub check_lines : (check : CheckEntry) → List Line
check_lines check = read_line check.global ∷ cgroup_lines check.cgroup ++ count_line check ∷ decision_line check ∷ []

-- the line of an estimate
abbrev pub est_line : (est : EstEntry) → Line
est_line est = line word.Est (num est.context ∷ num est.estimate.version ∷ num est.estimate.bw ∷ num est.estimate.avg
    ∷ num est.estimate.ratelimit ∷ num est.estimate.balanced ∷ num est.estimate.written_stamp ∷ num est.estimate.dirtied_stamp ∷ num est.estimate.at ∷ [])

-- the lines of an entry: those of a check are several, any other has one
abbrev pub told_lines : (told : Told) → List Line
told_lines (wrote task page fresh) = line word.Write (num task ∷ num page ∷ fresh_field fresh ∷ []) ∷ []
told_lines (folded fold) = line word.Fold (counter_field fold.counter ∷ num fold.version ∷ Int fold.delta ∷ []) ∷ []
told_lines (checked check) = check_lines check
told_lines (claimed flusher page) = line word.Claim (num flusher ∷ num page ∷ []) ∷ []
told_lines (batch flusher pages now until) = line word.Batch (num flusher ∷ num pages ∷ num now ∷ num until ∷ []) ∷ []
told_lines (done flusher page) = line word.Done (num flusher ∷ num page ∷ []) ∷ []
told_lines (share domain context n) = line word.Share (num domain ∷ num context ∷ num n ∷ []) ∷ []
told_lines (estimated est) = est_line est ∷ []
told_lines (fault flusher pages) = line word.Fault (num flusher ∷ num pages ∷ []) ∷ []
told_lines (gave_back flusher page absorbed) = line word.Back (num flusher ∷ num page ∷ back_field absorbed ∷ []) ∷ []
told_lines (noticed flusher inode since) = line word.Notice (num flusher ∷ num inode ∷ num since ∷ []) ∷ []
told_lines (aged flusher inode due now) = line word.Age (num flusher ∷ num inode ∷ num due ∷ num now ∷ []) ∷ []
told_lines (took flusher inode) = line word.Take (num flusher ∷ num inode ∷ []) ∷ []

-- the parts of the CPUs, from a number on
abbrev pub cpu_lines : (cpu : ℕ) (cpu_journals : List CpuJournal) → List Line
cpu_lines cpu [] = []
cpu_lines cpu (part ∷ parts) = line word.Cpu (num cpu ∷ []) ∷ flat_map told_lines (told part) ++ cpu_lines (cpu + 1) parts

-- ---- what is left, and the end

-- the line of a page that is left
abbrev pub left_line : (left : Left) → Line
left_line left = line word.Left (num left.page ∷ bits_field left.word ∷ [])

-- how many pages a context of a strict device had at most after any step, and its bound
abbrev pub strict_line : (strict : StrictLine) → Line
strict_line strict = line word.Strict (num strict.context ∷ num strict.most ∷ num strict.bound ∷ [])

-- the last line of a journal
abbrev pub ending_line : (ended : Ending) → Line
ending_line ended = line word.End (ending_field ended ∷ [])
