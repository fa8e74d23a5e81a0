use Rattle.std.proofs.Common.{sym, ◌∙◌}
use Rattle.wbt_audit_turns.specs.Sides.{cpu_of}
use Rattle.wbt_audit_turns.proofs.Siding.{first_end, last_end}
use Rattle.wbt_audit_turns.proofs.side.Side.end_each.Goals as goal

pub loop-number-preserved : goal.loop-number-preserved
loop-number-preserved c =
    let inv = c.loop-number.invariant in
    record {
      cpu = first_end c.args.machine.now.ratelimit_pages c.args.machine.now.cap (cpu_of c.loop-number.self) (cpu_of c.end_writer.new.self) c.args.numbers.now c.loop-number.number-index
          c.loop-number-test.true c.end_writer.ensures.cpu ∙ inv.cpu;
      tasks = c.end_writer.ensures.tasks ∙ inv.tasks;
      fits = c.end_writer.ensures.fits;
      room = c.end_writer.ensures.room ∙ inv.room;
      long = c.end_writer.ensures.fits.writers ∙ sym inv.fits.writers ∙ inv.long;
    }

pub returns-clause-cpu : goal.returns-clause-cpu
returns-clause-cpu c =
    sym (last_end c.args.machine.now.ratelimit_pages c.args.machine.now.cap (cpu_of c.loop-number.self) c.args.numbers.now c.loop-number.number-index c.loop-number-test.false) ∙ c.loop-number.invariant.cpu
