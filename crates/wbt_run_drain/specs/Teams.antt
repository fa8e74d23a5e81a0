-- The sides of all CPUs of a run, as contracts see them.
use Rattle.std.specs.Prelude.{ℕ, List, [], ◌∷◌, map, nat_lt, if◌then◌else◌, length, sum_by, count_by, Option, Some}
use Rattle.wbt_flusher.specs.Did.{handed}
use Rattle.wbt_journal.specs.Leaves.{is_fault}
use Rattle.wbt_journal.specs.Told.{told as told_by}
use Rattle.wbt_journal.specs.declared.entry.CpuJournal.{CpuJournal}
use Rattle.wbt_kit.specs.declared.kit.Seats.{Seats}
use Rattle.wbt_run_worker.specs.Team.{Seen, Team, both_told, faults_in, flusher_at, seen, team_of, written_by}
use Rattle.wbt_run_worker.specs.declared.side.CpuSide.{CpuSide}
use Rattle.wbt_run_worker.specs.declared.side.Post.{Post}
use Rattle.wbt_trace.specs.declared.trace.Trace.{Trace}
use Rattle.wbt_run_laws.specs.Shown.{Shown, none_shown}
use Rattle.wbt_run_laws.specs.Worker as turns
use Rattle.wbt_writer.specs.Desk.{Desk, shown_of, sight}

-- flushers as contracts see them, with what their disks tell
abbrev pub posts_of : {D : Type 0} (written : D → Option ℕ) (faults : D → ℕ) (posts : List (Post D)) → List Seen
posts_of {D} written faults posts = map (λ (post : Post D). seen written faults post) posts

-- the writers and flushers of each CPU
abbrev pub teams_of : {D : Type 0} (written : D → Option ℕ) (faults : D → ℕ) (sides : List (CpuSide D)) → List Team
teams_of {D} written faults sides = map (λ (side : CpuSide D). team_of written faults side) sides

-- the logs of the CPUs, in order
abbrev pub logs_of : {D : Type 0} (sides : List (CpuSide D)) → List CpuJournal
logs_of {D} sides = map (λ (side : CpuSide D). side.log) sides

-- the writers of the CPUs, in order
abbrev pub desks_of : {D : Type 0} (sides : List (CpuSide D)) → List Desk
desks_of {D} sides = map (λ (side : CpuSide D). side.writers) sides

-- ---- disks

-- the pages that the disks of all CPUs have written
abbrev pub written_by_all : (teams : List Team) → Option ℕ
written_by_all [] = Some 0
written_by_all (team ∷ teams) = both_told (written_by team.posts) (written_by_all teams)

-- the pages of all batches that were told
abbrev pub handed_over : (logs : List CpuJournal) → ℕ
handed_over logs = sum_by (λ (log : CpuJournal). sum_by handed (told_by log)) logs

-- the faults that they count
abbrev pub faults_by_all : (teams : List Team) → ℕ
faults_by_all teams = sum_by (λ (team : Team). faults_in team.posts) teams

-- the faults that were told
abbrev pub faults_told : (logs : List CpuJournal) → ℕ
faults_told logs = sum_by (λ (log : CpuJournal). count_by is_fault (told_by log)) logs

-- ---- as the laws of turns see them

-- as of the trace's flushers alone: any other number stays as it is at first
abbrev pub shown_there : (trace : Trace) (shown : Shown) → Shown
shown_there trace shown = record shown { flushers = λ flusher. if nat_lt flusher (length trace.flushers) then shown.flushers flusher else none_shown }

-- a worker as of the trace's flushers alone
abbrev pub worker_there : (trace : Trace) (worker : turns.Worker) → turns.Worker
worker_there trace worker = record worker { shown = shown_there trace worker.shown }

-- what a CPU shows whose record these seats have
abbrev pub shown_at : (trace : Trace) (cpu : ℕ) (team : Team) (seats : Seats) → Shown
shown_at trace cpu team seats = shown_there trace (shown_of cpu (flusher_at team.posts) (sight team.desk.work seats team.log))
