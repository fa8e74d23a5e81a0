use Rattle.std.proofs.Common.{◌≡◌, ◌-◌, ◌∷◌, List, sym, ◌∙◌, ap, subst}
use Rattle.wbt_replay_order.proofs.Common.{seen, Stretch, advance, go_on, with_orders, Sound}
use Rattle.wbt_replay_moves.specs.declared.state.Stretch.TheVariants as stretch
use Rattle.wbt_replay.proofs.Ordering.Lines.{fewer_sound, step_follows}
use Rattle.wbt_replay.proofs.Ordering.Queues.{on_same, taken}
use Rattle.wbt_replay.proofs.order.follow.Goals as goal

pub go_on-requires-in-Step-clause-sound : goal.go_on-requires-in-Step-clause-sound
go_on-requires-in-Step-clause-sound c =
    let trace = c.args.trace.now in
    let s = seen c.args.machine.now in
    let more = c.pop_front-line.new.self in
    let orders : s.orders ≡ stretch.Steps c.args.actor c.args.steps ∷ more = taken s.orders more c.pop_front-line.result (stretch.Steps c.args.actor c.args.steps) c.pop_front-line.ensures c.requires.first in
    subst (λ (l : List Stretch). Sound trace (record s { orders = l })) (sym c.in_ok-push_front-in-Step.ensures)
    (fewer_sound trace s c.args.actor c.args.steps (c.args.steps - 1) more c.requires.sound orders)

pub returns-in_ok-push_front-in-Step : goal.returns-in_ok-push_front-in-Step
returns-in_ok-push_front-in-Step c =
    let trace = c.args.trace.now in
    let s = seen c.args.machine.now in
    let more = c.pop_front-line.new.self in
    let orders : s.orders ≡ stretch.Steps c.args.actor c.args.steps ∷ more = taken s.orders more c.pop_front-line.result (stretch.Steps c.args.actor c.args.steps) c.pop_front-line.ensures c.requires.first in
    on_same c.go_on-in-Step.result (seen c.go_on-in-Step.new.machine) _ (advance trace s)
    (ap (λ (l : List Stretch). go_on trace c.args.actor (with_orders l s)) c.in_ok-push_front-in-Step.ensures
    ∙ step_follows trace s c.args.actor c.args.steps more orders (sym c.ahead.ensures ∙ c.in-Step.is) c.if-steps-eq0.false)
    c.go_on-in-Step.ensures
