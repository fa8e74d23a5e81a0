use Rattle.std.proofs.Common.{rules, sym, arith}
use Rattle.wbt_task.specs.declared.history.Event.TheVariants.{Checked}
use Rattle.wbt_audit_walk.proofs.Common.{is_write}
use Rattle.wbt_audit_turns.specs.Sides.{cpu_of}
use Rattle.wbt_audit_turns.proofs.Siding.{fits_by, lone_check}
use Rattle.wbt_audit_turns.proofs.side.Side.count_check.Goals as goal

pub returns-then-number-len-clause-fits : goal.returns-then-number-len-clause-fits
unfolding is_write
returns-then-number-len-clause-fits c = fits_by c.args.machine.now c.args.self.now c.count.new.self c.args.machine.now.ratelimit_pages c.args.machine.now.cap (Checked c.args.number c.args.decision)
    c.requires.fits (search rules) c.requires.settles c.count.ensures.cpu c.count.ensures.tasks (let r = c.count.ensures.room in omega arith)

pub returns-else-number-len-clause-cpu : goal.returns-else-number-len-clause-cpu
returns-else-number-len-clause-cpu c = sym (lone_check c.args.machine.now.ratelimit_pages c.args.machine.now.cap (cpu_of c.args.self.now) c.args.number c.args.decision (search rules))
