-- A CPU's writers and flushers as contracts see them, and what they are to the laws of turns.
use Rattle.std.specs.Prelude.{◌≢◌, ℕ, ◌+◌, ◌==◌, ◌⊎◌, if◌then◌else◌, List, [], ◌∷◌, map, sum_by, Option, Some, None}
use Rattle.wbt_book.specs.Ledger.{times_in}
use Rattle.wbt_flusher.specs.Sights.{owing, owing_total, pages_by, shown_by}
use Rattle.wbt_flusher.specs.declared.plan.FlusherPlan.{FlusherPlan}
use Rattle.wbt_flusher.specs.declared.work.FlusherWork.{FlusherWork}
use Rattle.wbt_journal.specs.Each.{Each}
use Rattle.wbt_journal.specs.declared.entry.CpuJournal.{CpuJournal}
use Rattle.wbt_kit.specs.declared.kit.Seats.{Seats}
use Rattle.wbt_trace.specs.declared.trace.Trace.{Trace}
use Rattle.wbt_run_laws.specs.Shown.{ShownFlusher, new_shown}
use Rattle.wbt_run_laws.specs.Worker.{Worker}
use Rattle.wbt_writer.specs.Desk.{Desk, notes_of, shown_of, sight}
use Rattle.wbt_run_worker.specs.declared.side.CpuSide.{CpuSide}
use Rattle.wbt_run_worker.specs.declared.side.Post.{Post}

-- a flusher with what its disk tells: the pages written, where it tells them, and its count of faults
pub record Seen : Type 0 where
  pub plan : FlusherPlan
  pub work : FlusherWork
  pub written : Option ℕ
  pub faults : ℕ

-- a flusher at its post, with what its disk tells
abbrev pub seen : {D : Type 0} (written : D → Option ℕ) (faults : D → ℕ) (post : Post D) → Seen
seen written faults post = record {
  plan = post.flusher.plan;
  work = post.flusher.work;
  written = written post.flusher.disk;
  faults = faults post.flusher.disk;
}

-- the writers at their desk, the flushers at their posts, and what all of them told
pub record Team : Type 0 where
  pub desk : Desk
  pub posts : List Seen
  pub log : CpuJournal

-- the team of a CPU's side
abbrev pub team_of : {D : Type 0} (written : D → Option ℕ) (faults : D → ℕ) (side : CpuSide D) → Team
team_of {D} written faults side = record {
  desk = side.writers;
  posts = map (λ (post : Post D). seen written faults post) side.posts.items;
  log = side.log;
}

-- ---- all flushers of a CPU

-- one of them is such
abbrev pub AnyOf : (is : Seen → Type 0) (posts : List Seen) → Type 0
AnyOf is [] = ⊥
AnyOf is (p ∷ posts) = is p ⊎ AnyOf is posts

-- no two have one number
abbrev pub AreApart : (posts : List Seen) → Type 0
AreApart [] = Unit {0}
AreApart (p ∷ posts) = Each (λ (q : Seen). q.plan.flusher ≢ p.plan.flusher) posts × AreApart posts

-- each stands where its post says; one that has no post here is as it was at first
abbrev pub flusher_at : (posts : List Seen) (flusher : ℕ) → ShownFlusher
flusher_at [] flusher = new_shown
flusher_at (p ∷ posts) flusher = if flusher == p.plan.flusher then shown_by p.work else flusher_at posts flusher

-- how often a page stands among those that they claimed, and neither completed nor gave back
abbrev pub claimed_by : (page : ℕ) (p : Seen) → ℕ
claimed_by page p = times_in page (pages_by p.work.batch.items p.work.phase)

-- how often a page stands among those that all of them claimed, and neither completed nor gave back
abbrev pub claimed_in : (page : ℕ) (posts : List Seen) → ℕ
claimed_in page posts = sum_by (claimed_by page) posts

-- what all of them are still to add to a domain, and to count into what a context wrote
abbrev pub owed_by : (domain : ℕ) (p : Seen) → ℕ
owed_by domain p = owing p.plan domain p.work

-- what all flushers are still to add to a domain
abbrev pub owed_in : (posts : List Seen) (domain : ℕ) → ℕ
owed_in posts domain = sum_by (owed_by domain) posts

-- what one of them is still to count into what a context wrote
abbrev pub owed_total : (context : ℕ) (p : Seen) → ℕ
owed_total context p = owing_total p.plan context p.work

-- what all flushers are still to count into what a context wrote
abbrev pub owed_totals : (posts : List Seen) (context : ℕ) → ℕ
owed_totals posts context = sum_by (owed_total context) posts

-- a sum that is told where both parts are
abbrev pub both_told : (one other : Option ℕ) → Option ℕ
both_told (Some m) (Some n) = Some (m + n)
both_told (Some m) None = None
both_told None other = None

-- the pages that all their disks have written
abbrev pub written_by : (posts : List Seen) → Option ℕ
written_by [] = Some 0
written_by (p ∷ posts) = both_told p.written (written_by posts)

-- how many batches their disks failed to write, by what the flushers count, and how many faults the disks count
abbrev pub failed_in : (posts : List Seen) → ℕ
failed_in posts = sum_by (λ (p : Seen). p.work.faults) posts

-- how many faults the disks count
abbrev pub faults_in : (posts : List Seen) → ℕ
faults_in posts = sum_by (λ (p : Seen). p.faults) posts

-- ---- as a worker

-- a team and its seats as a worker: what it shows and notes, and its log
abbrev pub worker_of : (trace : Trace) (cpu : ℕ) (team : Team) (seats : Seats) → Worker
worker_of trace cpu team seats = record {
  shown = shown_of cpu (flusher_at team.posts) (sight team.desk.work seats team.log);
  notes = notes_of trace (sight team.desk.work seats team.log);
  log = team.log;
}
