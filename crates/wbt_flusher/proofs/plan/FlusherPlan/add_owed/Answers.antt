use Rattle.std.proofs.Common.{refl, sym, ap, subst, arith}
use Rattle.wbt_flusher.proofs.Common.{CpuJournal, Seats, Goes, tally_in, tallies_of}
use Rattle.wbt_run_laws.proofs.Calling.{looks_add_none}
use Rattle.wbt_flusher.specs.declared.tally.Tally.{Tally}
use Rattle.wbt_flusher.proofs.Going.{kept_same}
use Rattle.wbt_flusher.proofs.Keeping.{kept_tally}
use Rattle.wbt_flusher.proofs.Sharing.{looked_goes, added_goes, missed_found, owes_added, room_for}
use Rattle.wbt_flusher.proofs.Tallying.{owed_within, totals_same, same_written, no_more, less_tally}
use Rattle.wbt_flusher.specs.Reads.{is_kept}
use Rattle.wbt_flusher.proofs.Held.{same_owed}
use Rattle.wbt_flusher.proofs.plan.FlusherPlan.add_owed.Goals as goal

pub add-requires-clause-room : goal.add-requires-clause-room
add-requires-clause-room c =
    let part = c.requires.part in
    let within = owed_within c.args.self.now c.args.work.now c.args.domain c.args.context part in
    let room = room_for c.args.self.now c.args.work.now c.args.seats.now c.args.domain c.requires.rooms part.domain_there in
    let same = ap (λ (t : Tally). t.owed) c.tally_of-n.ensures.value in omega arith

pub returns-in-Ok-clause-goes : goal.returns-in-Ok-clause-goes
returns-in-Ok-clause-goes c =
    let told = c.in-Ok.ensures.told in
    let e = c.add.ensures in
    let part = c.requires.part in
    let d = c.drop_owed.ensures in
    let was = c.args.work.now in
    let is = c.drop_owed.new.work in
    let new : Seats = record { cpu = c.args.seats.now.cpu; share = c.add.new.seat; est = c.args.seats.now.est; queue = c.args.seats.now.queue } in
    let at = ap (λ (t : Tally). t.owed) c.tally_of-n.ensures.value in
    let kept = kept_tally c.args.self.now c.args.seats.now was is c.args.context c.args.domain _ c.requires.lists part.there d.only_tallies d.dropped (omega arith) in
    subst (λ (l : CpuJournal). Goes c.args.self.now c.args.kit.now c.args.seats.now new c.args.pen.now.log l was is) (sym c.tell.ensures.log)
    (added_goes c.args.self.now c.args.kit.now c.args.seats.now new was is c.args.domain told.0
    c.requires.suits c.requires.fits (record { cpu = refl; est = refl; queue = refl }) e.seat part.domain_there e.totals e.stakes told.2
    c.args.pen.now.log c.args.context c.tally_of-n.result.owed part.there told.1 c.in-Ok.ensures.room (let within = owed_within c.args.self.now was c.args.domain c.args.context part in let room = room_for c.args.self.now was c.args.seats.now c.args.domain c.requires.rooms part.domain_there in omega arith)
    d.only_tallies.phase (λ i. (d.only_tallies.batch i).items) d.only_tallies.faults d.only_tallies.wheel
    (owes_added c.args.self.now was is c.args.context c.args.domain c.tally_of-n.result.owed c.requires.lists part d.only_tallies d.dropped at)
    (λ k. no_more c.args.self.now was is c.args.context _ c.requires.lists part.there d.only_tallies.phase d.dropped k (less_tally k c.args.domain _ _ (omega arith)))
    (totals_same c.args.self.now was is c.args.context _ c.requires.lists part.there d.only_tallies.phase d.dropped (same_written c.args.domain _ _)))

pub returns-in-Err-clause-goes : goal.returns-in-Err-clause-goes
returns-in-Err-clause-goes c told' written =
    let told = c.in-Err.ensures.told in
    let e = c.add.ensures in
    let new : Seats = record { cpu = c.args.seats.now.cpu; share = c.add.new.seat; est = c.args.seats.now.est; queue = c.args.seats.now.queue } in
    looked_goes c.args.self.now c.args.kit.now c.args.seats.now new c.args.work.now c.args.work.now c.args.domain told.0
    c.requires.suits c.requires.fits (record { cpu = refl; est = refl; queue = refl }) e.seat c.requires.part.domain_there e.totals e.stakes told.2
    (looks_add_none told.1.0 _ _ (missed_found c.args.context _ told.1.0 told.1.1) told.1.2) c.in-Err.ensures.room (kept_same c.args.self.now c.args.seats.now c.args.work.now) told' c.args.pen.now.log written

pub returns-in-Err-clause-adds : goal.returns-in-Err-clause-adds
returns-in-Err-clause-adds c =
    let told = c.in-Err.ensures.told in
    let work = c.args.work.now in
    record {
      left = (tally_in c.args.domain (tallies_of work c.args.context)).owed;
      adds = is_kept c.in-Err.field-0 (told.0, told.1, told.2) c.add.ensures.totals refl refl;
      tallies = same_owed c.args.domain c.args.context work.tallies.items;
    }
