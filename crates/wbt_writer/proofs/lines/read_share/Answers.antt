use Rattle.std.proofs.Common.{refl}
use Rattle.wbt_run_steps.specs.Reads.{came_between}
use Rattle.wbt_writer.proofs.lines.read_share.Goals as goal

pub returns-in-Err-clause-read : goal.returns-in-Err-clause-read
returns-in-Err-clause-read c = let told = c.in-Err.ensures.told in
    record {
      mid = told.0;
      comes = came_between _ told.1 refl;
      domains_are = told.2;
      stakes = c.in-Err.ensures.same.0;
      rooms = c.in-Err.ensures.same.1;
      totals = c.in-Err.ensures.totals;
    }
