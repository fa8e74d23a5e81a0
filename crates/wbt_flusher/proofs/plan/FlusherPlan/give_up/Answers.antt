use Rattle.std.proofs.Common.{◌+◌, ℕ, List, length, refl, sym, ap, ◌∙◌, subst}
use Rattle.wbt_flusher.proofs.Common.{CpuJournal, with_entry, Went, sight}
use Rattle.wbt_journal.specs.declared.entry.Entry.TheVariants as entry
use Rattle.wbt_flusher.specs.declared.work.FlusherWork.{FlusherWork}
use Rattle.wbt_flusher.specs.declared.work.Phase.TheVariants.{Returning}
use Rattle.wbt_flusher.specs.declared.work.Return.{Return}
use Rattle.wbt_flusher.proofs.Handing.{gives_up_off, owes_same, returns_nothing}
use Rattle.wbt_flusher.proofs.plan.FlusherPlan.give_up.Goals as goal

pub returns-clause-goes : goal.returns-clause-goes
returns-clause-goes c kit seats before suits fits paid told =
    let was : FlusherWork = c.args.work.now in
    let giving : Return = record { inode = c.args.scan.inode; returned = 0 } in
    let is : FlusherWork = record { phase = Returning giving; batch = was.batch; faults = was.faults + 1; hard = was.hard; waiting = was.waiting; some_wait = was.some_wait; tallies = was.tallies; wheel = was.wheel; places = was.places } in
    subst (λ (l : CpuJournal). Went c.args.self.now kit told (sight was seats c.args.pen.now.log before) (sight is seats l before)) (sym (c.tell.ensures.log ∙ ap (λ (n : ℕ). with_entry (entry.Fault c.args.self.now.flusher n) c.args.pen.now.log) (ap (λ (l : List ℕ). length l) c.as_slice.ensures.value)))
    (gives_up_off c.args.self.now kit told seats c.args.pen.now.log was is c.args.scan fits paid c.requires.phase c.requires.scan c.requires.some refl refl
    (owes_same c.args.self.now was is refl (returns_nothing c.args.self.now was is c.args.scan giving c.requires.phase refl))
    before giving refl refl c.requires.not_last refl)

pub returns-clause-returns : goal.returns-clause-returns
returns-clause-returns c = record {
  not_last = c.requires.not_last;
  told = c.tell.ensures.log ∙ ap (λ (n : ℕ). with_entry (entry.Fault c.args.self.now.flusher n) c.args.pen.now.log) (ap (λ (l : List ℕ). length l) c.as_slice.ensures.value);
  work = refl;
}
