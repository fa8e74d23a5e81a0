use Rattle.std.proofs.Common.{arith, rules, ◌≡◌, ◌∙◌, pos, to_z}
use Rattle.std.specs.Int.{w128}
use Rattle.std.proofs.lemmas.Int.{ints, to_z-of_z}
use Rattle.wbt_pause.proofs.Going.{goes_at_once, pauses_first}
use Rattle.wbt_pause.proofs.go.go.Goals as goal

pub without_pause-requires-clause-reached : goal.without_pause-requires-clause-reached
without_pause-requires-clause-reached c = λ _. omega (arith, ints, c.due-due.ensures.reached, c.if-due-least.true)

pub returns-then-due-least-clause-value : goal.returns-then-due-least-clause-value
returns-then-due-least-clause-value c =
    let due = to_z-of_z w128 c.due-due.result (search rules) in
    let limit : to_z w128 c.args.least.pause ≡ pos c.args.least.pause = omega (arith, ints) in
    let went = goes_at_once c.args.rule.now c.args.cap c.args.rate c.args.longest c.args.least c.args.task c.args.now _ _ _ _
    due limit c.period-period.ensures.value c.due-due.ensures.value c.if-due-least.true in
    cc

pub returns-clause-value : goal.returns-clause-value
returns-clause-value c =
    let due = to_z-of_z w128 c.due-due.result (search rules) in
    let limit : to_z w128 c.args.least.pause ≡ pos c.args.least.pause = omega (arith, ints) in
    c.cut.ensures.value ∙ pauses_first c.args.rule.now c.args.cap c.args.rate c.args.longest c.args.least c.args.task c.args.now _ _ _ _
    due limit c.period-period.ensures.value c.due-due.ensures.value c.if-due-least.false
