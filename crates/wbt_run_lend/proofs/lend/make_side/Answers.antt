use Rattle.std.proofs.Common.{refl}
use Rattle.wbt_run_first.proofs.Giving.{posts_nothing}
use Rattle.wbt_run_drain.specs.Teams.{posts_of}
use Rattle.wbt_run_lend.proofs.lend.make_side.Goals as goal

pub returns-clause-made : goal.returns-clause-made
returns-clause-made g c = λ now thresh. record {
  team = record {
    desk = record {
      trace_is = c.in_ok-writers.ensures.trace.0;
      cpu_is = c.in_ok-writers.ensures.trace.1;
      its = c.in_ok-writers.ensures.its now thresh;
      side = c.in_ok-writers.ensures.side;
      written = c.in_ok-writers.ensures.written;
      kept = c.in_ok-writers.ensures.kept;
      lefts = c.in_ok-writers.ensures.lefts;
    };
    posts = c.in_ok-posts.ensures.made;
    log = c.empty_log.ensures;
  };
  opens = c.in_ok-posts.ensures.opens;
  end = refl;
}

pub returns-clause-unwritten : goal.returns-clause-unwritten
returns-clause-unwritten g c =
    posts_nothing c.args.trace.now c.args.cpu (posts_of g.R.D.Disk.written g.R.D.Disk.faults c.in_ok-posts.posts.items) c.in_ok-posts.ensures.made.each
