use Rattle.std.proofs.Common.{List, map, set, ap, ◌∙◌, arith}
use Rattle.wbt_journal.specs.Side.{TaskState}
use Rattle.wbt_audit_turns.specs.Sides.{cpu_of, state_of}
use Rattle.wbt_audit_turns.proofs.Siding.{page_passed}
use Rattle.wbt_audit_turns.proofs.side.Side.pass_page.Goals as goal

pub returns-clause-side : goal.returns-clause-side
returns-clause-side c =
    let items = c.args.self.now.tasks.items in
    let left = c.index-left.result.now in
    ap (λ (ts : List TaskState). record { cpu = cpu_of c.args.self.now; tasks = ts })
    ((λ i. map state_of (set items c.args.task (record { todo = c.saturating_sub.ensures i; has_ended = left.has_ended })))
    ∙ page_passed items c.args.task left (let l = c.requires.fits.tasks in let t = c.requires.there in omega arith) c.index-left.ensures)
