use Rattle.std.proofs.Common.{sym, true≢false}
use Rattle.wbt_writer.proofs.Choosing.{goes_on_later, goes_on_next}
use Rattle.wbt_writer.proofs.tasks.Tasks.have_ended.Goals as goal

pub returns-in-Task : goal.returns-in-Task
returns-in-Task c = (λ is. absurd (true≢false (sym is)), λ all. absurd (goes_on_next c.args.self.now _ c.in-Task.task c.requires.next c.in-Task.ensures all))

pub returns-in-Resting : goal.returns-in-Resting
returns-in-Resting c = (λ is. absurd (true≢false (sym is)), λ all. absurd (goes_on_later c.args.self.now _ c.in-Resting.until c.in-Resting.ensures all))
