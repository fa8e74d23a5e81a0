use Rattle.std.proofs.Common.{◌+◌, length, Some, sym, ◌∙◌, ap}
use Rattle.wbt_replay_order.proofs.Common.{seen, next_turn, place_after}
use Rattle.wbt_replay.proofs.Ordering.Passing.{can_pass}
use Rattle.wbt_replay.proofs.Ordering.Queues.{on_same}
use Rattle.wbt_replay.proofs.Ordering.Seeking.{found_is, same_chance, turn_is, turn_with}
use Rattle.wbt_replay_ranges.proofs.Sound.Clock.{turn_kept}
use Rattle.wbt_replay.proofs.order.next_turn.Goals as goal

pub next_actor-requires-clause-passes : goal.next_actor-requires-clause-passes
next_actor-requires-clause-passes c =
    can_pass c.args.trace.now c.requires.facts (seen c.args.machine.now) c.requires.sound c.args.round.now c.requires.round

pub returns-in-None : goal.returns-in-None
returns-in-None c =
    let trace = c.args.trace.now in
    let s = seen c.args.machine.now in
    c.move_clock.ensures ∙ sym (turn_is trace (length s.cpus + 1) (place_after s.rotation s) s ∙ ap (turn_with trace s) (sym c.next_actor.ensures ∙ c.in-None.is))

pub take-requires-clause-sound : goal.take-requires-clause-sound
take-requires-clause-sound c =
    (turn_kept c.args.trace.now (seen c.args.machine.now) c.requires.sound c.requires.room (Some c.in-Some.found.actor)).0

pub take-requires-clause-found : goal.take-requires-clause-found
take-requires-clause-found c =
    let s = seen c.args.machine.now in
    same_chance s (Some c.in-Some.found.actor) c.in-Some.found.actor
    ∙ found_is s (length s.cpus + 1) (place_after s.rotation s) c.in-Some.found (sym c.next_actor.ensures ∙ c.in-Some.is)

pub returns-in-Some : goal.returns-in-Some
returns-in-Some c =
    let trace = c.args.trace.now in
    let s = seen c.args.machine.now in
    on_same c.take.result (seen c.take.new.machine) _ (next_turn trace s)
    (sym (turn_is trace (length s.cpus + 1) (place_after s.rotation s) s ∙ ap (turn_with trace s) (sym c.next_actor.ensures ∙ c.in-Some.is)))
    c.take.ensures
