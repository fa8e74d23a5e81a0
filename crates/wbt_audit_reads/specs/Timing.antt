-- What the code of the point on the timer's lines keeps.
use Rattle.std.specs.Prelude.{◌≡◌, ℕ, ◌+◌, Bool, true, Some, List, [], drop, map, slice_get}
use Rattle.wbt_limits.specs.Thresholds.{thresholds_of}
use Rattle.wbt_num.specs.declared.limits.Limits.{Limits}
use Rattle.wbt_trace.specs.declared.trace.Cgroup.{Cgroup}
use Rattle.wbt_trace.specs.declared.trace.Trace.{Trace}
use Rattle.wbt_journal.specs.Machine.{domains}
use Rattle.wbt_journal.specs.Timer.{LastLine, are_thresholds, is_opening, limits_by, lines_after, line_follows, one_line, opens, put_line, timer_fault}
use Rattle.wbt_journal.specs.Walk.{after, first_fault, unless}
use Rattle.wbt_journal.specs.declared.timer.TimerEntry.{TimerEntry}
use Rattle.wbt_audit_reads.specs.declared.timer.Line.{Line as KeptLine}
use Rattle.wbt_audit_reads.specs.declared.timer.Lines.{Lines}

-- the last lines of the domains that have one
abbrev pub line_of : (line : KeptLine) → LastLine
line_of line = record { now = line.now; hard = line.hard }

-- the last lines of the domains, as the definition has them
abbrev pub lines_of : (last : List KeptLine) → List LastLine
lines_of last = map line_of last

-- the code keeps the last line of each domain that has one
pub record Keeps (trace : Trace) (opened : ℕ) (kept : Lines) (lines : List LastLine) : Type 0 where
  pub count : kept.domains ≡ domains trace
  pub moment : kept.opened ≡ opened
  pub last : lines_of kept.last.items ≡ lines

-- an answer is that of a test, and where it is yes, lines are kept
pub record Answers (trace : Trace) (opened : ℕ) (new : Lines) (lines : List LastLine) (test answer : Bool) : Type 0 where
  pub answers : answer ≡ test
  pub keeps : answer ≡ true → Keeps trace opened new lines

-- the last lines with one of a domain
abbrev pub put : (domain now : ℕ) (limits : Limits) (lines : List LastLine) → List LastLine
put domain now limits lines = put_line domain (record { now = now; hard = limits.hard }) lines

-- the code answers whether a line is that of the opening of the next domain
abbrev pub Opens : (trace : Trace) (old new : Lines) (domain now : ℕ) (limits : Limits) (answer : Bool) → Type 0
Opens trace old new domain now limits answer =
    (opened : ℕ) (lines : List LastLine) → Keeps trace opened old lines
    → Answers trace opened new (put domain now limits lines) (opens trace opened lines domain now limits) answer

-- the code answers whether a line follows the domain's line before
abbrev pub GoesOn : (trace : Trace) (old new : Lines) (domain now : ℕ) (limits : Limits) (answer : Bool) → Type 0
GoesOn trace old new domain now limits answer =
    (opened : ℕ) (lines : List LastLine) → Keeps trace opened old lines
    → Answers trace opened new (put domain now limits lines) (line_follows trace (slice_get lines domain) domain now limits) answer

-- the code answers whether a line of limits may come
abbrev pub JudgesLimits : (trace : Trace) (old new : Lines) (domain now : ℕ) (limits : Limits) (answer : Bool) → Type 0
JudgesLimits trace old new domain now limits answer =
    (opened : ℕ) (lines : List LastLine) → Keeps trace opened old lines
    → Answers trace opened new (put domain now limits lines) (limits_by (is_opening trace lines) trace opened lines domain now limits) answer

-- an entry's fault, and what is kept after it
pub record IsJudged (trace : Trace) (opened : ℕ) (new : Lines) (lines : List LastLine) (entry : TimerEntry) (answer : Bool) : Type 0 where
  pub fault : timer_fault trace opened lines entry ≡ unless answer 0
  pub keeps : answer ≡ true → Keeps trace opened new (lines_after lines entry)

-- the code judges an entry of the timer
abbrev pub Judges : (trace : Trace) (old new : Lines) (entry : TimerEntry) (answer : Bool) → Type 0
Judges trace old new entry answer = (opened : ℕ) (lines : List LastLine) → Keeps trace opened old lines → IsJudged trace opened new lines entry answer

-- a cgroup's thresholds, where so many pages are available
abbrev pub between : (trace : Trace) (avail : ℕ) (cgroup : Cgroup) (limits : Limits) → Bool
between trace avail cgroup limits =
    are_thresholds (thresholds_of cgroup.filepages trace.settings (Some avail)).thresh
    (thresholds_of (cgroup.filepages + cgroup.headroom) trace.settings (Some avail)).thresh limits.thresh limits

-- So far no entry was at fault.
pub record Goes (trace : Trace) (opened : ℕ) (timer : List TimerEntry) (place : ℕ) (kept : Lines) : Type 0 where
  pub lines : List LastLine
  pub keeps : Keeps trace opened kept lines
  pub to_come : first_fault (timer_fault trace opened) lines_after one_line (2 + place) lines (drop place timer)
      ≡ first_fault (timer_fault trace opened) lines_after one_line 2 [] timer
  pub at_end : after lines_after lines (drop place timer) ≡ after lines_after [] timer
