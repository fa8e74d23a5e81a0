use Rattle.std.proofs.Common.{◌≡◌, ◌^◌, List, [], ◌∷◌, suc, length, map, refl, ap, ◌∙◌, arith}
use Rattle.wbt_audit_turns.specs.Sides.{at_first}
use Rattle.wbt_audit_turns.specs.declared.machine.TaskPlan.{TaskPlan}
use Rattle.wbt_audit_turns.proofs.Beginning.{is_first, fits_first}
use Rattle.wbt_audit_turns.proofs.side.Side.make.Goals as goal

mapped : (plans : List TaskPlan) → length (map at_first plans) ≡ length plans
mapped [] = refl
mapped (plan ∷ plans) = ap suc (mapped plans)

pub returns-clause-side : goal.returns-clause-side
returns-clause-side c = is_first c.args.machine.now c.requires.machine
    (record { local = record { since_check = 0; leaks = 0 }; writers = c.in_ok-new_writers.field-0; tasks = c.in_ok-first_tasks.field-0; room = 2 ^ 46 })
    refl c.in_ok-new_writers.ensures (c.in_ok-first_tasks.ensures ∙ ap (map at_first) c.as_slice.ensures.value)

pub returns-clause-fits : goal.returns-clause-fits
returns-clause-fits c =
    let tasks = c.in_ok-first_tasks.ensures ∙ ap (map at_first) c.as_slice.ensures.value in
    let plans = c.requires.machine.plans.long in
    let long = ap length tasks ∙ mapped c.args.machine.now.tasks.items in
    fits_first c.args.machine.now c.requires.machine
    (record { local = record { since_check = 0; leaks = 0 }; writers = c.in_ok-new_writers.field-0; tasks = c.in_ok-first_tasks.field-0; room = 2 ^ 46 })
    refl c.in_ok-new_writers.ensures tasks (omega arith) (long ∙ plans)
