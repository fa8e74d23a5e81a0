use Rattle.std.proofs.Common.{refl, ap, arith}
use Rattle.wbt_flusher.proofs.Common.{Seats}
use Rattle.wbt_run_laws.proofs.Calling.{looks_add_none}
use Rattle.wbt_flusher.specs.declared.tally.Tally.{Tally}
use Rattle.wbt_flusher.proofs.Going.{kept_same}
use Rattle.wbt_flusher.proofs.Keeping.{kept_tally}
use Rattle.wbt_flusher.proofs.Sharing.{looked_goes}
use Rattle.wbt_run_steps.specs.Reads.{came_between}
use Rattle.wbt_flusher.proofs.plan.FlusherPlan.read_share.Goals as goal

pub returns-in-Ok-clause-goes : goal.returns-in-Ok-clause-goes
returns-in-Ok-clause-goes c =
    let told = c.in-Ok.ensures.told in
    let e = c.read.ensures in
    let new : Seats = record { cpu = c.args.seats.now.cpu; share = c.read.new.seat; est = c.args.seats.now.est; queue = c.args.seats.now.queue } in
    let same = ap (λ (t : Tally). t.owed) c.tally_of-tally.ensures.value in
    looked_goes c.args.self.now c.args.kit.now c.args.seats.now new c.args.work.now c.set_tally.new.work c.args.domain told.0
    c.requires.suits c.requires.fits (record { cpu = refl; est = refl; queue = refl }) e.seat c.requires.part.domain_there e.totals e.same.0 told.2
    (looks_add_none _ _ _ tt told.1.looks) e.same.1
    (kept_tally c.args.self.now c.args.seats.now c.args.work.now c.set_tally.new.work c.args.context c.args.domain _ c.requires.lists c.requires.part.there c.set_tally.ensures.only_tallies c.set_tally.ensures.set (omega arith))

pub returns-in-Err-clause-goes : goal.returns-in-Err-clause-goes
returns-in-Err-clause-goes c =
    let told = c.in-Err.ensures.told in
    let e = c.read.ensures in
    let new : Seats = record { cpu = c.args.seats.now.cpu; share = c.read.new.seat; est = c.args.seats.now.est; queue = c.args.seats.now.queue } in
    looked_goes c.args.self.now c.args.kit.now c.args.seats.now new c.args.work.now c.args.work.now c.args.domain told.0
    c.requires.suits c.requires.fits (record { cpu = refl; est = refl; queue = refl }) e.seat c.requires.part.domain_there e.totals e.same.0 told.2
    (looks_add_none _ _ _ tt told.1.1.1) e.same.1 (kept_same c.args.self.now c.args.seats.now c.args.work.now)

pub returns-in-Err-clause-reads : goal.returns-in-Err-clause-reads
returns-in-Err-clause-reads c =
    let told = c.in-Err.ensures.told in
    record {
      comes = (told.0, came_between c.in-Err.field-0 told.1 (ap (λ (t : Tally). t.held) c.tally_of-tally.ensures.value), told.2);
      totals = c.read.ensures.totals;
    }
