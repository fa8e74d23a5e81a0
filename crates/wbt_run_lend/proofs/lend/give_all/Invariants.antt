use Rattle.std.proofs.Common.{ℕ, Option}
use Rattle.wbt_run_drain.specs.Teams.{faults_by_all, teams_of, written_by_all}
use Rattle.wbt_run_first.specs.Back.{WereGiven}
use Rattle.wbt_run_lend.proofs.lend.give_all.Given as goal

-- what giving the rest back is, giving all back is
abbrev pub invariant-loop-side : goal.invariant-loop-side
invariant-loop-side g l = (pages : Option ℕ) (faults : ℕ)
    → WereGiven (written_by_all (teams_of g.R.D.Disk.written g.R.D.Disk.faults l.rest.rest.items)) (faults_by_all (teams_of g.R.D.Disk.written g.R.D.Disk.faults l.rest.rest.items))
    (g.R.Rack.written l.rack) pages (g.R.Rack.faults l.rack) faults
    → WereGiven (written_by_all (teams_of g.R.D.Disk.written g.R.D.Disk.faults l.fn.sides.items)) (faults_by_all (teams_of g.R.D.Disk.written g.R.D.Disk.faults l.fn.sides.items))
    (g.R.Rack.written l.fn.rack) pages (g.R.Rack.faults l.fn.rack) faults

abbrev pub decreases-loop-side : goal.decreases-loop-side
decreases-loop-side g l = l.rest.rest.len
