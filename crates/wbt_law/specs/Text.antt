-- The text of a decision: three lines, with one space between the fields and a line feed at each end.
use Rattle.std.specs.Prelude.{ℕ, List, ◌++◌, codes, Option, Some, None}
use Rattle.std.specs.Fmt.{decimal}
use Rattle.std.specs.Option.{option_map}
use Rattle.wbt_position.specs.declared.ratio.DomainRead.{DomainRead}
use Rattle.wbt_position.specs.Position.{position_ratio}
use Rattle.wbt_pause.specs.Decision.{decision_of}
use Rattle.wbt_pause.specs.declared.decision.Decision.{Decision}
use Rattle.wbt_pause.specs.declared.decision.Kind.{Kind}
use Rattle.wbt_pause.specs.declared.decision.Kind.TheVariants.{Free, Go, Exempt, Wait}
use Rattle.wbt_pause.specs.declared.reads.Task.{Task}
use Rattle.wbt_law.specs.declared.input.LawInput.{LawInput}

-- the position ratio of a domain
abbrev pub ratio_in : (law : LawInput) (domain : DomainRead) → ℕ
ratio_in law domain = position_ratio domain law.reads.wb_dirty law.estimate.avg

-- that of the cgroup's domain, where there is one
abbrev pub cgroup_ratio : (law : LawInput) → Option ℕ
cgroup_ratio law = option_map (ratio_in law) law.reads.cgroup

-- the global domain's, and that of the cgroup's where there is one
abbrev pub ratio_line : (global : ℕ) (cgroup : Option ℕ) → List ℕ
ratio_line global None = codes "ratio " ++ decimal global ++ codes "\n"
ratio_line global (Some cgroup) = codes "ratio " ++ decimal global ++ codes " " ++ decimal cgroup ++ codes "\n"

-- the word of a kind of decision
abbrev pub kind_word : (kind : Kind) → List ℕ
kind_word Free = codes "free"
kind_word Go = codes "go"
kind_word Exempt = codes "exempt"
kind_word Wait = codes "wait"

-- what the writer does, its pause, and the pages that it then may dirty
abbrev pub decision_line : (decision : Decision) → List ℕ
decision_line decision =
    codes "decision " ++ kind_word decision.kind ++ codes " " ++ decimal decision.pause ++ codes " " ++ decimal decision.left ++ codes "\n"

-- the writer's numbers
abbrev pub task_line : (task : Task) → List ℕ
task_line task =
    codes "task " ++ decimal task.nr_dirtied ++ codes " " ++ decimal task.nr_dirtied_pause ++ codes " " ++ decimal task.paused_when ++ codes "\n"

-- the decision, and the writer's numbers after it
abbrev pub decision_text : (decision : Decision) → List ℕ
decision_text decision = decision_line decision ++ task_line decision.task

-- The ratios, the decision, and the writer's numbers after it.
abbrev pub law_text : (law : LawInput) → List ℕ
law_text law =
    ratio_line (ratio_in law law.reads.global) (cgroup_ratio law)
    ++ decision_text (decision_of law.reads law.estimate law.task law.now)
