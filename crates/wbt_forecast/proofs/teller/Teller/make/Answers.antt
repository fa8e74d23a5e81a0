use Rattle.std.proofs.Common.{ℕ, ◌<◌, ◌^◌, List, length, get_or, sym, ◌∙◌, ap, subst, arith}
use Rattle.wbt_replay_order.proofs.Common.{State, cpu_of, no_cpu, Cpu, domains}
use Rattle.wbt_replay_order.proofs.Facts.Facts.{facts}
use Rattle.wbt_replay_order.proofs.Outset.Sound.{opening_sound}
use Rattle.wbt_replay.proofs.Ordering.Firsts.{opening_fits}
use Rattle.wbt_forecast.proofs.Bases.{bases_small}
use Rattle.wbt_forecast.proofs.teller.Teller.make.Goals as goal

pub machine_of-requires : goal.machine_of-requires
machine_of-requires c = opening_fits c.args.trace.now c.requires

pub round_of-requires-clause-few : goal.round_of-requires-clause-few
round_of-requires-clause-few c =
    let many = ap length c.deref.ensures.value ∙ ap (λ (s : State). length s.cpus) c.in_ok-machine.ensures in
    let first = (opening_sound c.args.trace.now c.requires).holds.cpus.many in
    omega (arith, many, first, (facts c.args.trace.now c.requires).few_cpus)

pub round_of-requires-clause-many : goal.round_of-requires-clause-many
round_of-requires-clause-many c =
    ap length c.deref.ensures.value ∙ ap (λ (s : State). length s.cpus) c.in_ok-machine.ensures ∙ (opening_sound c.args.trace.now c.requires).holds.cpus.many

pub round_of-requires-clause-jobs : goal.round_of-requires-clause-jobs
round_of-requires-clause-jobs c = λ i less.
    let many = ap length c.deref.ensures.value ∙ ap (λ (s : State). length s.cpus) c.in_ok-machine.ensures in
    let first = (opening_sound c.args.trace.now c.requires).holds.cpus in
    ap (λ (l : List Cpu). (get_or l i no_cpu).jobs) c.deref.ensures.value
    ∙ ap (λ (s : State). (cpu_of i s).jobs) c.in_ok-machine.ensures
    ∙ (first.each i (omega (arith, less, many, first.many))).jobs

pub forget-requires : goal.forget-requires
forget-requires c =
    let many = ap (λ (s : State). length s.steps) c.in_ok-machine.ensures in
    let first = (opening_sound c.args.trace.now c.requires).holds in
    omega (arith, many, first.few, first.long)

pub returns-clause-small : goal.returns-clause-small
returns-clause-small c = λ domain.
    let trace = c.args.trace.now in
    subst (λ (l : List ℕ). get_or l domain 0 < 2 ^ 23) (sym c.in_ok-bases.ensures) (bases_small trace (facts trace c.requires) (domains trace) domain)
