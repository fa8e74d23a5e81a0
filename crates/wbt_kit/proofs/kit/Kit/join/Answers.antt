use Rattle.std.proofs.Common.{sym, subst}
use Rattle.wbt_kit.proofs.Common.{Has, Seated}
use Rattle.wbt_kit.proofs.Joining.{has_come, was_there}
use Rattle.wbt_kit.proofs.Seating.{as_long, seats_joined}
use Rattle.wbt_kit.proofs.kit.Kit.join.Goals as goal

pub returns-clause-seats : goal.returns-clause-seats
returns-clause-seats g c =
    seats_joined c.args.self.now c.args.into.now c.args.from c.requires.seats.0 c.requires.seats.1 c.join.new.into c.join-2.new.into c.join-3.new.into c.join-4.new.into
    c.join.ensures c.join-2.ensures.seat c.join-3.ensures c.join-4.ensures

pub returns-clause-joined : goal.returns-clause-joined
returns-clause-joined g c =
    let a = c.args.into.now.cpu.cpus in
    let b = c.args.from.cpu.cpus in
    let long = as_long c.args.self.now c.args.into.now c.args.from c.requires.seats.0 c.requires.seats.1 in
    record {
      cpu = c.join.ensures;
      came = λ n r has. subst (λ (s : Seated). Has s.cpus n r) (sym c.join.ensures) (has_come a b n r long has);
      others = λ n r none has. subst (λ (s : Seated). Has s.cpus n r) (sym c.join.ensures) (was_there a b n r long none has);
      shares = c.join-2.ensures.domains;
      totals = c.join-2.ensures.totals;
      added = c.join-2.ensures.added;
      est = c.join-3.ensures;
      queue = c.join-4.ensures;
    }
