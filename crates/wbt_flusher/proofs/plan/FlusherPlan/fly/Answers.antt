use Rattle.std.proofs.Common.{ℕ, List, length, refl, sym, ap, ◌∙◌, subst}
use Rattle.wbt_flusher.proofs.Common.{CpuJournal, with_entry, Went, sight}
use Rattle.wbt_journal.specs.declared.entry.Entry.TheVariants as entry
use Rattle.wbt_flusher.specs.declared.work.Flight.{Flight}
use Rattle.wbt_flusher.specs.declared.work.Phase.TheVariants.{Flying}
use Rattle.wbt_flusher.specs.declared.work.FlusherWork.{FlusherWork}
use Rattle.wbt_flusher.proofs.Handing.{flies_off, takes_off, owes_same, lands_none_yet}
use Rattle.wbt_flusher.proofs.plan.FlusherPlan.fly.Goals as goal

pub returns-clause-goes : goal.returns-clause-goes
returns-clause-goes c kit seats before behind suits fits paid grows told has =
    let was : FlusherWork = c.args.work.now in
    let flight : Flight = record { until = c.args.until; inode = c.args.scan.inode; landed = 0 } in
    let is : FlusherWork = record { phase = Flying flight; batch = was.batch; faults = was.faults; hard = was.hard; waiting = was.waiting; some_wait = was.some_wait; tallies = was.tallies; wheel = was.wheel; places = was.places } in
    subst (λ (l : CpuJournal). Went c.args.self.now kit told (sight was seats c.args.pen.now.log before) (sight is seats l behind)) (sym (c.tell.ensures.log ∙ ap (λ (n : ℕ). with_entry (entry.Batch c.args.self.now.flusher n c.args.now c.args.until) c.args.pen.now.log) (ap (λ (l : List ℕ). length l) c.as_slice.ensures.value)))
    (flies_off c.args.self.now kit told seats c.args.pen.now.log was is c.args.scan fits paid c.requires.phase c.requires.scan c.requires.some refl refl
    (owes_same c.args.self.now was is refl (lands_none_yet c.args.self.now was is c.args.scan flight c.requires.phase refl refl))
    flight c.args.now c.args.until before behind refl refl refl has grows)

pub returns-clause-flies : goal.returns-clause-flies
returns-clause-flies c =
    let flight : Flight = record { until = c.args.until; inode = c.args.scan.inode; landed = 0 } in
    (flight, refl, takes_off c.args.self.now c.args.scan flight c.args.work.now.batch.items c.requires.plan c.requires.scan c.requires.some refl refl)
