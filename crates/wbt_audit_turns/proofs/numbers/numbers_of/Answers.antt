use Rattle.std.proofs.Common.{◌≡◌, ◌≤◌, length, ap, sym, ◌∙◌, subst, arith}
use Rattle.wbt_audit_walk.proofs.Common.{all_writers}
use Rattle.wbt_audit_turns.specs.Naming.{AreInRange}
use Rattle.wbt_journal.proofs.Few.{few_writers}
use Rattle.wbt_audit_turns.proofs.Numbering.{in_range}
use Rattle.wbt_audit_turns.proofs.numbers.numbers_of.Goals as goal

-- there are no more names than writers of a trace
few_names : (c : goal.After-as_slice-names) → length c.as_slice-names.result.now ≤ 1024
few_names c =
    let is : c.as_slice-names.result.now ≡ all_writers c.args.trace.now = c.as_slice-names.ensures ∙ c.in_ok-writers.ensures in
    let long = ap length is in
    let few = few_writers c.args.trace.now c.requires.lawful in
    omega (arith, long, few)

pub overflow_cast-result : goal.overflow_cast-result
overflow_cast-result c = let few = few_names c in omega (arith, few)

pub table_of-requires-clause-few : goal.table_of-requires-clause-few
table_of-requires-clause-few c = let few = few_names c in omega (arith, few)

pub table_of-requires-clause-range : goal.table_of-requires-clause-range
table_of-requires-clause-range c = subst AreInRange (sym (c.as_slice-names.ensures ∙ c.in_ok-writers.ensures)) (in_range c.args.trace.now c.requires.lawful)

pub numbers_of_tasks-requires-clause-few : goal.numbers_of_tasks-requires-clause-few
numbers_of_tasks-requires-clause-few c =
    let is : c.as_slice-names.result.now ≡ all_writers c.args.trace.now = c.as_slice-names.ensures ∙ c.in_ok-writers.ensures in
    let long = ap length is in
    let few = few_writers c.args.trace.now c.requires.lawful in
    omega (arith, long, few)
