use Rattle.std.proofs.Common.{◌≡◌, ℕ, ◌+◌, ◌≤◌, ◌++◌, length, Option}
use Rattle.std.specs.Vec.{vec_capacity}
use Rattle.wbt_run_drain.specs.Teams.{faults_by_all, logs_of, teams_of, written_by_all}
use Rattle.wbt_run_first.specs.Back.{WereGiven}
use Rattle.wbt_run_lend.proofs.workers.take_logs.Given as goal

abbrev pub invariant-loop-side : goal.invariant-loop-side
invariant-loop-side g l = record {
  given : (pages : Option ℕ) (faults : ℕ)
      → WereGiven (written_by_all (teams_of g.R.D.Disk.written g.R.D.Disk.faults l.rest.rest.items)) (faults_by_all (teams_of g.R.D.Disk.written g.R.D.Disk.faults l.rest.rest.items))
      (g.R.Rack.written l.rack) pages (g.R.Rack.faults l.rack) faults
      → WereGiven (written_by_all (teams_of g.R.D.Disk.written g.R.D.Disk.faults l.fn.sides.items)) (faults_by_all (teams_of g.R.D.Disk.written g.R.D.Disk.faults l.fn.sides.items))
      (g.R.Rack.written l.fn.rack) pages (g.R.Rack.faults l.fn.rack) faults;
  logs : l.logs.items ++ logs_of l.rest.rest.items ≡ l.fn.logs.items ++ logs_of l.fn.sides.items;
  room : length l.logs.items + length l.rest.rest.items ≤ vec_capacity l.logs;
}

abbrev pub decreases-loop-side : goal.decreases-loop-side
decreases-loop-side g l = l.rest.rest.len
