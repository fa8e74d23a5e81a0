use Rattle.std.proofs.Common.{sym, ap, ◌∙◌, false}
use Rattle.wbt_pause.specs.declared.reads.Task.{Task}
use Rattle.wbt_task.specs.Allowance.{Page, page_after}
use Rattle.wbt_audit_turns.specs.Sides.{cpu_of}
use Rattle.wbt_audit_turns.proofs.Siding.{lone_page}
use Rattle.wbt_audit_turns.proofs.side.Side.count_lone_page.Goals as goal

pub returns-clause-cpu : goal.returns-clause-cpu
returns-clause-cpu c = λ number past.
    ap (λ (p : Page). record { local = p.local; writers = c.args.self.now.writers.items })
    (c.page_done.ensures.value ∙ ap (λ (t : Task). page_after c.args.self.now.local t 0 false c.args.machine.now.ratelimit_pages) c.first_task-task.ensures.value)
    ∙ sym (lone_page c.args.machine.now.ratelimit_pages c.args.machine.now.cap (cpu_of c.args.self.now) number past)
