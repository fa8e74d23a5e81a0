use Rattle.std.proofs.Common.{◌≡◌, Some, sym, ap, ◌∙◌, subst, to_z, of_z, to_z-of_z, rules, w64}
use Rattle.wbt_table.proofs.Common.{Counter, Event, ClearDue, Owed, IsPackable, setting, IsTold, OwesFirst}
use Rattle.wbt_table.specs.declared.layout.Layout.{Layout}
use Rattle.wbt_table.specs.declared.state.Due.{Due}
use Rattle.wbt_table.specs.Seat.{due_in, debt_of}
use Rattle.wbt_table.proofs.Calling.{state_here}
use Rattle.wbt_table.proofs.Slots.{none_owed, owes_here, told_here}
use Rattle.wbt_table.proofs.Settling.{keeps_here}
use Rattle.wbt_table.proofs.Paying.{all_pays}
use Rattle.wbt_table.proofs.seat.Throttle.pay.Goals as goal

pub state_of-state-requires : goal.state_of-state-requires
state_of-state-requires g c = let s = c.seat.inside in let h = c.requires.held in
    state_here c.args.self.now.layout s.place.table_id s.place.me s.cpus.items s.lefts.items s.timer c.args.seat.now c.seat.view_is c.requires.seat.layout c.seat.invariant.seat c.args.cpu h.0 h.1

pub returns-in_default : goal.returns-in_default
returns-in_default g c = let s = c.seat.inside in let h = c.requires.held in
    let keeps = keeps_here c.args.self.now.layout s.place.table_id s.place.me s.cpus.items s.lefts.items s.timer c.args.seat.now c.seat.view_is c.requires.seat.layout c.seat.invariant.seat
    c.args.cpu h.0 h.1 c.state_of-state.result.now c.state_of-state.ensures in
    all_pays c.args.self.now.layout c.args.cpu c.args.slot (g.G.Gate.said c.args.gate.now c.args.cpu) c.args.seat.now
    (h.0, h.1, none_owed c.args.self.now.layout c.args.cpu c.args.slot c.state_of-state.result.now h.0 keeps h.2 (sym c.due_in.ensures ∙ c.in_default.is))

pub pay_event-requires-clause-owes : goal.pay_event-requires-clause-owes
pay_event-requires-clause-owes g c = let s = c.seat.inside in let h = c.requires.held in
    let key : Layout = c.args.self.now.layout in
    let keeps = keeps_here c.args.self.now.layout s.place.table_id s.place.me s.cpus.items s.lefts.items s.timer c.args.seat.now c.seat.view_is c.requires.seat.layout c.seat.invariant.seat
    c.args.cpu h.0 h.1 c.state_of-state.result.now c.state_of-state.ensures in
    let owed : Due = c.in-Some.due in
    let is : due_in c.args.slot c.state_of-state.result.now ≡ Some owed = sym c.due_in.ensures ∙ c.in-Some.is in
    let first = owes_here key c.args.cpu c.args.slot c.state_of-state.result.now h.0 keeps h.2 owed is in
    let number : to_z w64 (of_z w64 c.in-Event.event) ≡ c.in-Event.event = to_z-of_z {w = w64} (search rules) in
    (h.0, h.1, subst (λ (o : Owed). OwesFirst key c.args.slot o h.0) (λ i. record { counter = sym c.counter_in-counter.ensures i; debt = (ap debt_of c.in-Event.is ∙ ap Event (sym number)) i }) first)

pub pay_fold-requires-clause-owes : goal.pay_fold-requires-clause-owes
pay_fold-requires-clause-owes g c = let s = c.seat.inside in let h = c.requires.held in
    let key : Layout = c.args.self.now.layout in
    let keeps = keeps_here c.args.self.now.layout s.place.table_id s.place.me s.cpus.items s.lefts.items s.timer c.args.seat.now c.seat.view_is c.requires.seat.layout c.seat.invariant.seat
    c.args.cpu h.0 h.1 c.state_of-state.result.now c.state_of-state.ensures in
    let owed : Due = c.in-Some.due in
    let is : due_in c.args.slot c.state_of-state.result.now ≡ Some owed = sym c.due_in.ensures ∙ c.in-Some.is in
    let first = owes_here key c.args.cpu c.args.slot c.state_of-state.result.now h.0 keeps h.2 owed is in
    let number : to_z w64 (of_z w64 c.in-Fold.delta) ≡ c.in-Fold.delta = to_z-of_z {w = w64} (search rules) in
    let told = subst (λ (z : Counter × Due). IsTold (setting key) z.0 z.1 h.0) (λ i. (sym c.counter_in-counter.ensures i, c.in-Fold.is i)) (told_here key c.args.cpu c.args.slot c.state_of-state.result.now h.0 keeps h.2 owed is) in (
      h.0,
      h.1,
      (
        subst (λ (o : Owed). OwesFirst key c.args.slot o h.0) (λ i. record { counter = sym c.counter_in-counter.ensures i; debt = debt_of (c.in-Fold.is i) }) first,
        told.0 ∙ sym number,
        subst IsPackable (sym number) told.1,
      ),
    )

pub pay_clear-requires-clause-owes : goal.pay_clear-requires-clause-owes
pay_clear-requires-clause-owes g c = let s = c.seat.inside in let h = c.requires.held in
    let key : Layout = c.args.self.now.layout in
    let keeps = keeps_here c.args.self.now.layout s.place.table_id s.place.me s.cpus.items s.lefts.items s.timer c.args.seat.now c.seat.view_is c.requires.seat.layout c.seat.invariant.seat
    c.args.cpu h.0 h.1 c.state_of-state.result.now c.state_of-state.ensures in
    let owed : Due = c.in-Some.due in
    let is : due_in c.args.slot c.state_of-state.result.now ≡ Some owed = sym c.due_in.ensures ∙ c.in-Some.is in
    let first = owes_here key c.args.cpu c.args.slot c.state_of-state.result.now h.0 keeps h.2 owed is in
    let number : to_z w64 (of_z w64 c.in-Clear.folded) ≡ c.in-Clear.folded = to_z-of_z {w = w64} (search rules) in
    (h.0, h.1, subst (λ (o : Owed). OwesFirst key c.args.slot o h.0) (λ i. record { counter = sym c.counter_in-counter.ensures i; debt = (ap debt_of c.in-Clear.is ∙ ap ClearDue (sym number)) i }) first)
