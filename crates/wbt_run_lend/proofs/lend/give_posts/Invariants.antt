use Rattle.std.proofs.Common.{ℕ, Option}
use Rattle.wbt_run_worker.proofs.Common.{faults_in, written_by}
use Rattle.wbt_run_drain.specs.Teams.{posts_of}
use Rattle.wbt_run_first.specs.Back.{WereGiven}
use Rattle.wbt_run_lend.proofs.lend.give_posts.Given as goal

-- what giving the rest back is, giving all back is
abbrev pub invariant-loop-post : goal.invariant-loop-post
invariant-loop-post g l = (pages : Option ℕ) (faults : ℕ)
    → WereGiven (written_by (posts_of g.R.D.Disk.written g.R.D.Disk.faults l.rest.rest.items)) (faults_in (posts_of g.R.D.Disk.written g.R.D.Disk.faults l.rest.rest.items))
    (g.R.Rack.written l.rack) pages (g.R.Rack.faults l.rack) faults
    → WereGiven (written_by (posts_of g.R.D.Disk.written g.R.D.Disk.faults l.fn.posts.items)) (faults_in (posts_of g.R.D.Disk.written g.R.D.Disk.faults l.fn.posts.items))
    (g.R.Rack.written l.fn.rack) pages (g.R.Rack.faults l.fn.rack) faults

abbrev pub decreases-loop-post : goal.decreases-loop-post
decreases-loop-post g l = l.rest.rest.len
