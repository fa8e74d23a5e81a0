use Rattle.std.proofs.Common.{ℕ, Option, refl, subst}
use Rattle.wbt_writer.proofs.Common.{Seats}
use Rattle.wbt_run_steps.proofs.Logging.{grant_as}
use Rattle.wbt_table.specs.History.{LogsGrant}
use Rattle.wbt_kit.proofs.Common.{LogComes, Granted}
use Rattle.wbt_writer.proofs.Giving.{given, may_give}
use Rattle.wbt_writer.proofs.check.give.Goals as goal

pub grant-requires : goal.grant-requires
grant-requires c = record {
  seat = c.requires.fits.seats_are.cpu;
  no_wait = c.in_default.not-Wait;
  may = may_give c.args.cpu c.args.kit.now c.args.writer c.args.decision.left c.args.seats.now c.requires.fits c.requires.seat (c.requires.may c.in_default.not-Wait);
}

pub returns-in_default : goal.returns-in_default
returns-in_default c =
    let new : Seats = record { cpu = c.grant.new.seat; share = c.args.seats.now.share; est = c.args.seats.now.est; queue = c.args.seats.now.queue } in
    let by = given c.args.cpu c.args.kit.now c.args.writer c.args.decision c.args.seats.now new c.requires.fits c.requires.seat (record { share = refl; est = refl; queue = refl }) c.in_default.not-Wait c.grant.ensures.changes in
    record {
      fits = by.fits;
      gives = by.gives;
      kinds = grant_as c.args.cpu c.args.seats.now new
          (subst (λ (cpu : ℕ). LogComes cpu (λ was is. (grants : Option Granted) × LogsGrant grants was is) c.args.seats.now.cpu new.cpu) c.requires.seat c.grant.ensures.logs);
    }
