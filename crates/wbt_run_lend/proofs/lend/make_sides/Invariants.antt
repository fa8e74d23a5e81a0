use Rattle.std.proofs.Common.{◌≡◌, ℕ, ◌<◌, ◌≤◌, length, get_or, Some}
use Rattle.std.specs.Vec.{vec_capacity}
use Rattle.wbt_run_worker.proofs.Common.{Grows, Each, Team, written_by}
use Rattle.wbt_rules.specs.Thresholds.{global_at}
use Rattle.wbt_run_worker.specs.declared.side.CpuSide.{CpuSide}
use Rattle.wbt_run_drain.specs.Teams.{teams_of}
use Rattle.wbt_run_first.specs.Back.{IsNothing, NotFallen}
use Rattle.wbt_run_first.specs.Lent.{IsFirstSide}
use Rattle.wbt_run_lend.proofs.lend.make_sides.Given as goal

abbrev pub invariant-loop-cpu : goal.invariant-loop-cpu
invariant-loop-cpu g l = record {
  each : (now : ℕ) → l.first.thresh ≡ (global_at l.trace now).thresh → (cpu : ℕ) (other : CpuSide g.row.R-D.Denot) → cpu < l.cpu
      → IsFirstSide g.R.D.Disk.written g.R.D.Disk.faults l.trace now cpu (get_or l.sides.items cpu other);
  unwritten : Each (λ (team : Team). IsNothing (written_by team.posts)) (teams_of g.R.D.Disk.written g.R.D.Disk.faults l.sides.items);
  many : length l.sides.items ≡ l.cpu;
  room : l.trace.cpus ≤ vec_capacity l.sides;
  written : Grows (Some 0) (g.R.Rack.written l.fn.rack) (g.R.Rack.written l.rack);
  fallen : NotFallen (g.R.Rack.faults l.fn.rack) (g.R.Rack.faults l.rack);
}
