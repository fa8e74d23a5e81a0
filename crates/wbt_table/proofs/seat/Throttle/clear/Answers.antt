use Rattle.std.proofs.Common.{◌≡◌, List, None, refl, sym, ap, ◌∙◌, subst, to_z-of_z}
use Rattle.wbt_table.proofs.Common.{Debt, ClearDue, Owed, to_clear, debt_to, clear, record_after, setting, Shape, put_state, stepped, OwesFirst, OwesLater, with_due}
use Rattle.wbt_table.specs.declared.layout.Layout.{Layout}
use Rattle.wbt_table.proofs.Calling.{state_here, cpu_here, ready_by}
use Rattle.wbt_table.proofs.Slots.{debt_here, owes_later}
use Rattle.wbt_table.proofs.Settling.{clear_slot, held_debts, slot_seat, slot_makes, slot_holds}
use Rattle.wbt_table.proofs.Triples.{kept_by}
use Rattle.wbt_table.proofs.seat.Throttle.clear.Goals as goal
use Rattle.wbt_table.proofs.seat.Throttle.clear.Goals.{After-state_of, After-clear, After-step_slot}

-- the clear is what the record owes first
debt_is : (c : After-state_of) → debt_to c.args.counter c.requires.owes.0.debts ≡ ClearDue c.args.folded
debt_is c = debt_here c.args.self.now.layout c.args.slot c.args.counter (ClearDue c.args.folded) c.requires.owes.0 c.requires.owes.2

-- the layout is the throttle's
same_layout : (c : After-clear) → c.self.inside.words.layout ≡ c.args.self.now.layout
same_layout c = ap (λ (t : Shape). t.layout) c.self.view_is

layout_at : (c : After-clear) → c.args.seat.now.layout ≡ c.self.inside.words.layout
layout_at c = c.requires.seat.layout ∙ sym (same_layout c)

clear_owed : (c : After-clear) → OwesFirst c.self.inside.words.layout c.args.slot (record { counter = c.args.counter; debt = ClearDue c.args.folded }) c.requires.owes.0
clear_owed c = subst (λ (k : Layout). OwesFirst k c.args.slot (record { counter = c.args.counter; debt = ClearDue c.args.folded }) c.requires.owes.0) (sym (same_layout c)) c.requires.owes.2

-- what the code keeps then: nothing is due
keeps_none : (c : After-step_slot) → c.step_slot.new.cpus.items ≡ put_state c.args.cpu (with_due c.args.slot None (stepped c.state_of.result.now)) c.seat.inside.cpus.items
keeps_none c = c.step_slot.ensures c.state_of.result.now c.state_of.ensures

pub state_of-requires : goal.state_of-requires
state_of-requires c = let s = c.seat.inside in let h = c.requires.owes in
    state_here c.args.self.now.layout s.place.table_id s.place.me s.cpus.items s.lefts.items s.timer c.args.seat.now c.seat.view_is c.requires.seat.layout c.seat.invariant.seat c.args.cpu h.0 h.1

pub clear-requires-clause-ready : goal.clear-requires-clause-ready
clear-requires-clause-ready c = let s = c.seat.inside in let h = c.requires.owes in let key : Layout = c.self.inside.words.layout in
    let start = (goal.at.clear-requires-clause-ready c).After-state_of in
    ready_by key s.place.table_id s.place.me s.cpus.items s.lefts.items s.timer c.args.seat.now c.seat.view_is (c.requires.seat.layout ∙ sym (ap (λ (t : Shape). t.layout) c.self.view_is)) c.seat.invariant.seat c.args.cpu h.0 h.1 c.state_of.result.now c.state_of.ensures (clear c.args.cpu c.args.counter) refl record {
      cpu_is = cpu_here key s.place.table_id s.place.me s.cpus.items s.lefts.items s.timer c.args.seat.now c.seat.view_is (c.requires.seat.layout ∙ sym (ap (λ (t : Shape). t.layout) c.self.view_is)) c.seat.invariant.seat c.args.cpu h.0 h.1 c.state_of.result.now c.state_of.ensures;
      clear_owed = debt_is start ∙ ap (λ (z : Debt). ClearDue (to_clear z)) (sym (debt_is start));
    }

pub clear-requires-clause-folded : goal.clear-requires-clause-folded
clear-requires-clause-folded c = let s = c.seat.inside in let h = c.requires.owes in let key : Layout = c.self.inside.words.layout in
    let start = (goal.at.clear-requires-clause-folded c).After-state_of in
    held_debts key s.place.table_id s.place.me s.cpus.items s.lefts.items s.timer c.args.seat.now c.seat.view_is (c.requires.seat.layout ∙ sym (ap (λ (t : Shape). t.layout) c.self.view_is)) c.seat.invariant.seat c.args.cpu h.0 h.1 c.state_of.result.now c.state_of.ensures (λ (l : List Owed). to_clear (debt_to c.args.counter l) ≡ _)
    (ap to_clear (debt_is start) ∙ sym (to_z-of_z c.ranges.folded))

pub step_slot-requires : goal.step_slot-requires
step_slot-requires c = (c.state_of.result.now, c.state_of.ensures)

pub invariant_of-seat : goal.invariant_of-seat
invariant_of-seat c = let s = c.seat.inside in let h = c.requires.owes in let key : Layout = c.self.inside.words.layout in
    let start = (goal.at.invariant_of-seat c).After-clear in
    kept_by key (clear c.args.cpu c.args.counter) c.seat.invariant c.seat.view_is (layout_at start) c.args.cpu c.state_of.result.now c.state_of.ensures refl c.clear.ensures.turned (λ r. refl)
    (slot_seat key s.place.table_id s.place.me s.cpus.items s.lefts.items s.timer c.args.seat.now c.seat.view_is (layout_at start) c.seat.invariant.seat c.args.cpu h.0 h.1 c.state_of.result.now c.state_of.ensures c.clear.new.place.me (clear c.args.cpu c.args.counter) c.clear.result refl c.clear.ensures.turned c.args.slot None c.step_slot.new.cpus.items
    (keeps_none (goal.at.invariant_of-seat c).After-step_slot) c.args.counter (ClearDue c.args.folded) (clear_owed start) (clear_slot key c.args.cpu c.args.slot c.args.counter c.clear.result h.0 c.args.folded (clear_owed start)))

pub returns-clause-made : goal.returns-clause-made
returns-clause-made c = let s = c.seat.inside in let h = c.requires.owes in let key : Layout = c.self.inside.words.layout in
    let start = (goal.at.returns-clause-made c).After-clear in (
      c.clear.result,
      slot_makes key s.place.table_id s.place.me s.cpus.items s.lefts.items s.timer c.args.seat.now c.seat.view_is (layout_at start) c.seat.invariant.seat c.args.cpu h.0 h.1 c.state_of.result.now c.state_of.ensures c.clear.new.place.me (clear c.args.cpu c.args.counter) c.clear.result refl c.clear.ensures.turned c.args.slot None c.step_slot.new.cpus.items
          (keeps_none (goal.at.returns-clause-made c).After-step_slot) c.args.self.now.layout (same_layout start) c.clear.new.place.table_id c.clear.ensures.seat.0,
    )

pub returns-clause-paid : goal.returns-clause-paid
returns-clause-paid c = let s = c.seat.inside in let h = c.requires.owes in let key : Layout = c.self.inside.words.layout in
    let start = (goal.at.returns-clause-paid c).After-clear in
    slot_holds key s.place.table_id s.place.me s.cpus.items s.lefts.items s.timer c.args.seat.now c.seat.view_is (layout_at start) c.seat.invariant.seat c.args.cpu h.0 h.1 c.state_of.result.now c.state_of.ensures c.clear.new.place.me (clear c.args.cpu c.args.counter) c.clear.result refl c.clear.ensures.turned c.args.slot None c.step_slot.new.cpus.items
    (keeps_none (goal.at.returns-clause-paid c).After-step_slot) c.clear.new.place.table_id c.clear.ensures.seat.0
    (OwesLater c.args.slot) (owes_later key c.args.slot c.args.counter (ClearDue c.args.folded) h.0 (clear_owed start) (record_after (setting key) (clear c.args.cpu c.args.counter) c.clear.result h.0) refl)
