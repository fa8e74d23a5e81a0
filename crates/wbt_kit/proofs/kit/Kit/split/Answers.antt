use Rattle.std.proofs.Common.{sym, subst}
use Rattle.wbt_kit.proofs.Common.{left_seat, Seated}
use Rattle.wbt_kit.specs.Kit.{CpusSplit}
use Rattle.wbt_kit.proofs.Joining.{cpus_split}
use Rattle.wbt_kit.proofs.Seating.{own_cpus, seats_left, seats_right}
use Rattle.wbt_kit.proofs.Undoing.{cpus_back}
use Rattle.wbt_kit.proofs.kit.Kit.split.Goals as goal

pub returns-in-Ok-clause-seats : goal.returns-in-Ok-clause-seats
returns-in-Ok-clause-seats g c =
    let kit = c.args.self.now in
    let old = c.args.seats.now in
    let shares = c.in-Ok.ensures.split.0 in
    let passes = c.in-Ok.ensures.split.1 in (
      seats_left kit c.args.cpu old c.requires.seats c.requires.owners c.split.new.seat c.split_shares.new.share c.split_shares.new.est c.split_shares.new.queue
          c.in_ok-one.ensures.ok.0 shares.seats.0 passes.left_is passes.queue_left_is,
      seats_right kit c.args.cpu old c.requires.seats c.requires.owners c.in_ok-one.one c.in-Ok.share c.in-Ok.est c.in-Ok.queue
          c.in_ok-one.ensures.ok.1 shares.seats.1 passes.new_is passes.queue_new_is,
    )

pub returns-in-Ok-clause-cpus : goal.returns-in-Ok-clause-cpus
returns-in-Ok-clause-cpus g c =
    let n = c.args.cpu in
    let old = c.args.seats.now.cpu in
    let both = c.in_ok-one.ensures.ok in
    subst (λ (s : Seated). CpusSplit n old s c.in_ok-one.one) (sym both.0)
    (subst (λ (s : Seated). CpusSplit n old (left_seat n old) s) (sym both.1) (cpus_split n old (own_cpus c.args.self.now c.args.seats.now c.requires.seats)))

pub returns-in-Err-clause-refused : goal.returns-in-Err-clause-refused
returns-in-Err-clause-refused g c =
    let both = c.in_ok-one.ensures.ok in
    let rest = c.in-Err.ensures.refused in
    let first = cpus_back c.args.cpu c.args.seats.now.cpu c.split.new.seat c.in_ok-one.one c.join.new.into both.0 both.1 c.join.ensures in
    λ i. record { cpu = first i; share = rest.0 i; est = rest.1 i; queue = rest.2 i }
