use Rattle.std.proofs.Common.{◌≡◌, drop, sym, ap, ◌∙◌}
use Rattle.wbt_audit_walk.proofs.Common.{ToldFlusher, ToldPhase}
use Rattle.wbt_journal.specs.Flights.{flying}
use Rattle.wbt_audit_turns.specs.declared.flusher.Phase.{Phase}
use Rattle.wbt_audit_turns.specs.Flown.{told_phase}
use Rattle.wbt_audit_turns.proofs.Flying.{lands, lands_on}
use Rattle.wbt_audit_turns.proofs.flusher.Flusher.land.Goals as goal

pub returns-in-Flying-clause-may : goal.returns-in-Flying-clause-may
returns-in-Flying-clause-may c =
    let pages = drop c.self.inside.done c.self.inside.pages.items in
    let is : c.args.self.now.phase ≡ flying pages = ap (λ (f : ToldFlusher). f.phase) (sym c.self.view_is) ∙ ap (λ (p : Phase). told_phase p pages) c.in-Flying.is in
    c.leave.ensures.may ∙ lands c.args.self.now.phase c.args.page pages is

pub returns-in-Flying-clause-moved : goal.returns-in-Flying-clause-moved
returns-in-Flying-clause-moved c = λ may.
    let pages = drop c.self.inside.done c.self.inside.pages.items in
    let is : c.args.self.now.phase ≡ flying pages = ap (λ (f : ToldFlusher). f.phase) (sym c.self.view_is) ∙ ap (λ (p : Phase). told_phase p pages) c.in-Flying.is in
    let has = rw c.in-Flying.is at c.self.invariant.has_done in
    c.leave.ensures.moved may
    ∙ ap (λ (p : ToldPhase). record c.args.self.now { phase = p }) (lands_on c.args.self.now.phase c.self.inside.pages.items c.self.inside.done is has.0)
