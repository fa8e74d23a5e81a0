use Rattle.std.proofs.Common.{arith}
use Rattle.std.proofs.lemmas.List.Sums.{count_by-le-length}
use Rattle.wbt_trace.specs.declared.writers.Writer.{Writer}
use Rattle.wbt_journal.specs.Leaves.{is_inside}
use Rattle.wbt_journal.specs.Machine.{context_domain}
use Rattle.wbt_audit_walk.proofs.Common.{all_writers}
use Rattle.wbt_journal.proofs.Few.{few_writers}
use Rattle.wbt_audit_turns.proofs.bound.fixed_part.Goals as goal

pub fixed_bound-requires-clause-few_writers : goal.fixed_bound-requires-clause-few_writers
fixed_bound-requires-clause-few_writers c =
    let trace = c.args.trace.now in
    omega (
      arith,
      count_by-le-length (λ (writer : Writer). is_inside c.args.domain (context_domain trace writer.context)) (all_writers trace),
      few_writers trace c.requires.lawful,
      c.writers_in.ensures,
    )
