use Rattle.std.proofs.Common.{sym, ◌∙◌}
use Rattle.wbt_audit_turns.proofs.Contexts.{context_there}
use Rattle.wbt_audit_turns.proofs.checks.Judge.pass_write.Goals as goal

pub judge_write-requires-clause-context : goal.judge_write-requires-clause-context
judge_write-requires-clause-context c = context_there c.args.self.now.machine.trace.now c.requires.machine.lawful c.args.page c.in-Some.context
    (sym (c.requires.machine.contexts c.args.page) ∙ sym c.get.ensures ∙ c.in-Some.is)
