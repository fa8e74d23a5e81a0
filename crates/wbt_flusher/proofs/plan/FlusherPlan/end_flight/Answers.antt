use Rattle.std.specs.Prelude.{None}
use Rattle.wbt_flusher.proofs.Common.{no_moments, sight}
use Rattle.wbt_flusher.proofs.Going.{went_more, rooms_went}
use Rattle.std.proofs.Common.{◌<◌, ◌∙◌, length, arith}
use Rattle.wbt_flusher.proofs.Held.{counts_in}
use Rattle.wbt_flusher.proofs.plan.FlusherPlan.end_flight.Goals as goal

pub count_written-requires-clause-rooms : goal.count_written-requires-clause-rooms
count_written-requires-clause-rooms c =
    rooms_went c.args.self.now c.args.kit.now no_moments (sight c.args.work.now c.args.seats.now c.args.pen.now.log None) (sight c.owe_batch.new.work c.args.seats.now c.args.pen.now.log None)
    (c.owe_batch.ensures.goes c.args.kit.now c.args.seats.now c.requires.fits no_moments c.args.pen.now.log None) c.requires.rooms

pub add_shares-requires-clause-rooms : goal.add_shares-requires-clause-rooms
add_shares-requires-clause-rooms c =
    let a = c.owe_batch in
    let b = c.count_written in
    let log = c.args.pen.now.log in
    rooms_went c.args.self.now c.args.kit.now no_moments (sight c.args.work.now c.args.seats.now log None) (sight b.new.work b.new.seats log None)
    (went_more c.args.self.now c.args.kit.now no_moments (sight c.args.work.now c.args.seats.now log None) (sight a.new.work c.args.seats.now log None) (sight b.new.work b.new.seats log None)
    (a.ensures.goes c.args.kit.now c.args.seats.now c.requires.fits no_moments log None) (b.ensures.goes no_moments log None)) c.requires.rooms

pub returns-clause-goes : goal.returns-clause-goes
returns-clause-goes c told written =
    let a = c.owe_batch in
    let b = c.count_written in
    let d = c.add_shares in
    let log = c.args.pen.now.log in
    went_more c.args.self.now c.args.kit.now told (sight c.args.work.now c.args.seats.now log written) (sight b.new.work b.new.seats log written) (sight d.new.work d.new.seats d.new.pen.log written)
    (went_more c.args.self.now c.args.kit.now told (sight c.args.work.now c.args.seats.now log written) (sight a.new.work c.args.seats.now log written) (sight b.new.work b.new.seats log written)
    (a.ensures.goes c.args.kit.now c.args.seats.now c.requires.fits told log written) (b.ensures.goes told log written))
    (d.ensures.goes told written)

pub returns-clause-counts : goal.returns-clause-counts
returns-clause-counts c written =
    let a = c.owe_batch in
    let b = c.count_written in
    let d = c.add_shares in
    let k = c.context_of-context.ensures in
    let there : c.context_of-context.result < length c.args.work.now.tallies.items =
    (let long = c.requires.lists.tallies in let low = c.requires.suits.plan_is.contexts c.args.flight.inode c.requires.inode.there in omega arith) in
    counts_in c.args.self.now c.context_of-context.result _ c.args.flight.landed k c.args.work.now a.new.work b.new.work d.new.work c.args.seats.now b.new.seats d.new.seats c.args.pen.now.log d.new.pen.log written
    there a.ensures.owes b.ensures.counts b.ensures.domains b.ensures.tallies d.ensures.adds
    (d.ensures.only_tallies.phase ∙ b.ensures.only_tallies.phase ∙ a.ensures.idle)
    ((λ i. length (d.ensures.only_tallies.batch i).items) ∙ (λ i. length (b.ensures.only_tallies.batch i).items) ∙ a.ensures.batch)
    (let r = a.ensures.rest in
    let x = b.ensures.only_tallies in
    let y = d.ensures.only_tallies in
    record { faults = y.faults ∙ x.faults ∙ r.faults; hard = y.hard ∙ x.hard ∙ r.hard; waiting = y.waiting ∙ x.waiting ∙ r.waiting; some_wait = y.some_wait ∙ x.some_wait ∙ r.some_wait; wheel = y.wheel ∙ x.wheel ∙ r.wheel; places = y.places ∙ x.places ∙ r.places })
    (let x = b.ensures.only_share in
    let y = d.ensures.only_share in
    record { cpu = y.cpu ∙ x.cpu; est = y.est ∙ x.est; queue = y.queue ∙ x.queue })
