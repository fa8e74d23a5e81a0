use Rattle.std.proofs.Common.{◌≡◌, drop, sym, ap, ◌∙◌}
use Rattle.wbt_audit_walk.proofs.Common.{ToldFlusher, ToldPhase}
use Rattle.wbt_journal.specs.Flights.{returning}
use Rattle.wbt_audit_turns.specs.declared.flusher.Phase.{Phase}
use Rattle.wbt_audit_turns.specs.Flown.{told_phase}
use Rattle.wbt_audit_turns.proofs.Flying.{gives, gives_on}
use Rattle.wbt_audit_turns.proofs.flusher.Flusher.give_back.Goals as goal

pub returns-in-Returning-clause-may : goal.returns-in-Returning-clause-may
returns-in-Returning-clause-may c =
    let pages = drop c.self.inside.done c.self.inside.pages.items in
    let is : c.args.self.now.phase ≡ returning pages = ap (λ (f : ToldFlusher). f.phase) (sym c.self.view_is) ∙ ap (λ (p : Phase). told_phase p pages) c.in-Returning.is in
    c.leave.ensures.may ∙ gives c.args.self.now.phase c.args.page pages is

pub returns-in-Returning-clause-moved : goal.returns-in-Returning-clause-moved
returns-in-Returning-clause-moved c = λ may.
    let pages = drop c.self.inside.done c.self.inside.pages.items in
    let is : c.args.self.now.phase ≡ returning pages = ap (λ (f : ToldFlusher). f.phase) (sym c.self.view_is) ∙ ap (λ (p : Phase). told_phase p pages) c.in-Returning.is in
    let has = rw c.in-Returning.is at c.self.invariant.has_done in
    c.leave.ensures.moved may
    ∙ ap (λ (p : ToldPhase). record c.args.self.now { phase = p }) (gives_on c.args.self.now.phase c.self.inside.pages.items c.self.inside.done is has.0)
