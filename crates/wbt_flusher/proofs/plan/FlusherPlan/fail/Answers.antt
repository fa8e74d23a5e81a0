use Rattle.std.proofs.Common.{◌<◌, ℕ, List, length, refl, sym, ap, ◌∙◌, subst}
use Rattle.wbt_flusher.proofs.Common.{CpuJournal, MOST_FAULTS, with_entry, Went, sight}
use Rattle.wbt_journal.specs.declared.entry.Entry.TheVariants as entry
use Rattle.wbt_flusher.specs.declared.work.Phase.TheVariants.{Failed}
use Rattle.wbt_flusher.specs.declared.work.FlusherWork.{FlusherWork}
use Rattle.wbt_flusher.proofs.Handing.{fails_off, owes_same, owes_more, lands_nothing}
use Rattle.wbt_flusher.proofs.plan.FlusherPlan.fail.Goals as goal

pub forget-requires-clause-there : goal.forget-requires-clause-there
forget-requires-clause-there c = subst (λ (k : ℕ). k < length c.args.self.now.contexts) (sym c.context_of.ensures) (c.requires.plan.contexts c.args.scan.inode c.requires.scan.inode.there)

pub returns-clause-goes : goal.returns-clause-goes
returns-clause-goes c kit seats before suits fits paid told =
    let was : FlusherWork = c.args.work.now in
    let mid : FlusherWork = record { phase = Failed; batch = was.batch; faults = MOST_FAULTS; hard = was.hard; waiting = was.waiting; some_wait = was.some_wait; tallies = was.tallies; wheel = was.wheel; places = was.places } in
    let is = c.forget.new.work in
    let o = c.forget.ensures.only_tallies in
    subst (λ (l : CpuJournal). Went c.args.self.now kit told (sight was seats c.args.pen.now.log before) (sight is seats l before)) (sym (c.tell.ensures.log ∙ ap (λ (n : ℕ). with_entry (entry.Fault c.args.self.now.flusher n) c.args.pen.now.log) (ap (λ (l : List ℕ). length l) c.as_slice.ensures.value)))
    (fails_off c.args.self.now kit told seats c.args.pen.now.log was is c.args.scan fits paid c.requires.phase c.requires.scan c.requires.some (λ i. (o.batch i).items) o.wheel
    (owes_more c.args.self.now was mid is (owes_same c.args.self.now was mid refl (lands_nothing c.args.self.now was mid c.args.scan c.requires.phase refl)) c.forget.ensures.less)
    before o.phase c.requires.last o.faults)

pub returns-clause-fails : goal.returns-clause-fails
returns-clause-fails c =
    let was : FlusherWork = c.args.work.now in
    let mid : FlusherWork = record { phase = Failed; batch = was.batch; faults = MOST_FAULTS; hard = was.hard; waiting = was.waiting; some_wait = was.some_wait; tallies = was.tallies; wheel = was.wheel; places = was.places } in
    let o = c.forget.ensures.only_tallies in
    record {
      some = c.requires.some;
      told = c.tell.ensures.log ∙ ap (λ (n : ℕ). with_entry (entry.Fault c.args.self.now.flusher n) c.args.pen.now.log) (ap (λ (l : List ℕ). length l) c.as_slice.ensures.value);
      phase = o.phase;
      batch = o.batch;
      last = c.requires.last;
      faults = o.faults;
      hard = o.hard;
      waiting = o.waiting;
      some_wait = o.some_wait;
      wheel = o.wheel;
      places = o.places;
      less = owes_more c.args.self.now was mid c.forget.new.work
          (owes_same c.args.self.now was mid refl (lands_nothing c.args.self.now was mid c.args.scan c.requires.phase refl)) c.forget.ensures.less;
    }
