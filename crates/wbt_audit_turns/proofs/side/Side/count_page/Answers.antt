use Rattle.std.proofs.Common.{rules, arith}
use Rattle.wbt_task.specs.declared.history.Event.TheVariants.{Wrote}
use Rattle.wbt_audit_walk.proofs.Common.{is_write}
use Rattle.wbt_audit_turns.proofs.Siding.{fits_by, fits_lone}
use Rattle.wbt_audit_turns.proofs.side.Side.count_page.Goals as goal

pub returns-then-number-len-clause-fits : goal.returns-then-number-len-clause-fits
unfolding is_write
returns-then-number-len-clause-fits c = fits_by c.args.machine.now c.args.self.now c.count.new.self c.args.machine.now.ratelimit_pages c.args.machine.now.cap (Wrote c.args.number)
    c.requires.fits (search rules) tt c.count.ensures.cpu c.count.ensures.tasks (let r = c.count.ensures.room in omega (arith, c))

pub returns-else-number-len-clause-fits : goal.returns-else-number-len-clause-fits
returns-else-number-len-clause-fits c = fits_lone c.args.machine.now c.args.self.now c.count_lone_page.new.self c.args.machine.now.ratelimit_pages c.args.machine.now.cap c.args.number
    c.requires.fits (search rules) (c.count_lone_page.ensures.cpu c.args.number (search rules)) c.count_lone_page.ensures.tasks (let r = c.count_lone_page.ensures.room in omega (arith, c))
