use Rattle.std.proofs.Common.{◌≡◌, ◌≤◌, ◌++◌, length, map, drop, Some}
use Rattle.std.specs.Vec.{vec_capacity}
use Rattle.wbt_run_worker.proofs.Common.{Grows, Each, Seen}
use Rattle.wbt_run_drain.specs.Teams.{posts_of}
use Rattle.wbt_run_first.specs.Back.{NotFallen}
use Rattle.wbt_run_first.specs.Lent.{IsFirstPost, IsOpen, numbers_on}
use Rattle.wbt_run_lend.proofs.lend.make_posts.Given as goal

abbrev pub invariant-loop-number : goal.invariant-loop-number
invariant-loop-number g l = record {
  each : Each (IsFirstPost l.trace l.cpu) (posts_of g.R.D.Disk.written g.R.D.Disk.faults l.posts.items);
  numbers : map (λ (p : Seen). p.plan.flusher) (posts_of g.R.D.Disk.written g.R.D.Disk.faults l.posts.items) ++ numbers_on l.cpu l.number (drop l.number l.trace.flushers)
      ≡ numbers_on l.cpu 0 l.trace.flushers;
  opens : Each IsOpen l.posts.items;
  few : length l.posts.items ≤ l.number;
  room : length l.trace.flushers ≤ vec_capacity l.posts;
  written : Grows (Some 0) (g.R.Rack.written l.fn.rack) (g.R.Rack.written l.rack);
  fallen : NotFallen (g.R.Rack.faults l.fn.rack) (g.R.Rack.faults l.rack);
}
