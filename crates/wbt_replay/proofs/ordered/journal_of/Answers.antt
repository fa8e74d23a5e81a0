use Rattle.std.proofs.Common.{◌≡◌, ◌^◌, ◌≤◌, List, length, get_or, sym, ◌∙◌, ap, subst, arith}
use Rattle.wbt_replay_order.proofs.Common.{State, cpu_of, no_cpu, Cpu, MOST_STEPS, seen, last_state, HasRoom, Sound, ChecksFit}
use Rattle.wbt_replay_order.specs.Definition.Order as order
use Rattle.wbt_replay.proofs.Run as claims
use Rattle.wbt_replay_order.proofs.Facts.Facts.{facts}
use Rattle.wbt_replay.proofs.Ordering.Firsts.{opening_fits}
use Rattle.wbt_replay_order.proofs.Outset.Sound.{opening_room, opening_sound}
use Rattle.wbt_replay.proofs.ordered.journal_of.Goals as goal

pub machine_of-requires : goal.machine_of-requires
machine_of-requires c = opening_fits c.args.trace.now c.requires

pub round_of-requires-clause-few : goal.round_of-requires-clause-few
round_of-requires-clause-few c =
    let many = ap length c.deref.ensures.value ∙ ap (λ (s : State). length s.cpus) c.in_ok-machine.ensures in
    let first = (opening_sound c.args.trace.now c.requires).holds.cpus.many in
    omega (arith, many, first, (facts c.args.trace.now c.requires).few_cpus)

pub round_of-requires-clause-many : goal.round_of-requires-clause-many
round_of-requires-clause-many c =
    ap length c.deref.ensures.value ∙ ap (λ (s : State). length s.cpus) c.in_ok-machine.ensures ∙ (opening_sound c.args.trace.now c.requires).holds.cpus.many

pub round_of-requires-clause-jobs : goal.round_of-requires-clause-jobs
round_of-requires-clause-jobs c = λ i less.
    let many = ap length c.deref.ensures.value ∙ ap (λ (s : State). length s.cpus) c.in_ok-machine.ensures in
    let first = (opening_sound c.args.trace.now c.requires).holds.cpus in
    ap (λ (l : List Cpu). (get_or l i no_cpu).jobs) c.deref.ensures.value
    ∙ ap (λ (s : State). (cpu_of i s).jobs) c.in_ok-machine.ensures
    ∙ (first.each i (omega (arith, less, many, first.many))).jobs

pub run-requires-clause-facts : goal.run-requires-clause-facts
run-requires-clause-facts c = facts c.args.trace.now c.requires

pub run-requires-clause-sound : goal.run-requires-clause-sound
run-requires-clause-sound c = subst (Sound c.args.trace.now) (sym c.in_ok-machine.ensures) (opening_sound c.args.trace.now c.requires)

pub run-requires-clause-room : goal.run-requires-clause-room
run-requires-clause-room c = subst (HasRoom c.args.trace.now) (sym c.in_ok-machine.ensures) (opening_room c.args.trace.now)

pub journal_from-requires-clause-facts : goal.journal_from-requires-clause-facts
journal_from-requires-clause-facts c = facts c.args.trace.now c.requires

pub journal_from-requires-clause-few : goal.journal_from-requires-clause-few
journal_from-requires-clause-few c =
    let trace = c.args.trace.now in
    let last : seen c.run.new.machine ≡ last_state trace = c.in_ok-run.ensures ∙ ap (order.run trace (2 ^ 40)) c.in_ok-machine.ensures in
    subst (λ (s : State). length s.steps ≤ MOST_STEPS) (sym last) (claims.ended trace c.requires).1

pub journal_from-requires-clause-checks : goal.journal_from-requires-clause-checks
journal_from-requires-clause-checks c =
    let trace = c.args.trace.now in
    let last : seen c.run.new.machine ≡ last_state trace = c.in_ok-run.ensures ∙ ap (order.run trace (2 ^ 40)) c.in_ok-machine.ensures in
    subst (λ (s : State). ChecksFit trace s.cpus) (sym last) (claims.checks_fit trace c.requires)
