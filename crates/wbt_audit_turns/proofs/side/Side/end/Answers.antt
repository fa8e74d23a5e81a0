use Rattle.std.proofs.Common.{◌≡◌, ℕ, ◌<◌, List, length, map, get_or, set, All, true, sym, ◌∙◌, subst, arith}
use Rattle.wbt_audit_walk.proofs.Common.{cpu_after, Ended}
use Rattle.wbt_journal.specs.Machine.{ratelimit_pages}
use Rattle.wbt_journal.specs.Side.{no_task, numbers_of}
use Rattle.wbt_audit_turns.specs.Sides.{cpu_of, state_of}
use Rattle.wbt_audit_turns.proofs.Numbering.{numbers_there}
use Rattle.wbt_audit_turns.proofs.Siding.{task_ended}
use Rattle.wbt_audit_turns.proofs.side.Side.end.Goals as goal

pub end_each-requires-clause-there : goal.end_each-requires-clause-there
end_each-requires-clause-there c = subst (λ (ns : List ℕ). All (λ n. n < length c.args.self.now.writers.items) ns) (sym c.numbers_of.ensures)
    (λ k d less. let h = numbers_there c.args.machine.now.trace.now c.args.task k d less in let w = c.requires.fits.writers in omega (arith, h, w))

pub returns-clause-side : goal.returns-clause-side
returns-clause-side c =
    let trace = c.args.machine.now.trace.now in
    let e = c.end_each.ensures in
    let left = c.index-left.result.now in
    let cpu : cpu_of c.end_each.new.self ≡ cpu_after (ratelimit_pages trace c.args.machine.now.opened) trace.cap (cpu_of c.args.self.now) (map Ended (numbers_of trace c.args.task)) =
    e.cpu ∙ (λ i. cpu_after (c.requires.machine.limit i) (c.requires.machine.cap i) (cpu_of c.args.self.now) (map Ended (c.numbers_of.ensures i))) in
    let tasks = task_ended c.end_each.new.self.tasks.items c.args.task left (let l = e.fits.tasks in let t = c.requires.there in omega arith) c.index-left.ensures in
    (λ i. record { cpu = cpu i; tasks = tasks i })
    ∙ (λ i. record {
      cpu = cpu_after (ratelimit_pages trace c.args.machine.now.opened) trace.cap (cpu_of c.args.self.now) (map Ended (numbers_of trace c.args.task));
      tasks = set (map state_of (e.tasks i)) c.args.task (record { todo = (get_or (map state_of (e.tasks i)) c.args.task no_task).todo; has_ended = true });
    })
