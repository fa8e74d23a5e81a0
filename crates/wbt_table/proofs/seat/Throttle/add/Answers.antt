use Rattle.std.proofs.Common.{◌≡◌, ℤ, List, Option, Some, None, unsigned_abs, refl, sym, ap, ◌∙◌, subst, to_z-of_z}
use Rattle.wbt_table.proofs.Common.{Debt, Event, FoldDue, Owed, IsPackable, amount, debt_to, CpuRecord, batch_of, add, own_told, record_after, setting, Shape, put_state, stepped, OwesFirst, OwesLater, with_due}
use Rattle.wbt_table.specs.declared.layout.Layout.{Layout}
use Rattle.wbt_table.specs.declared.state.Due.{Due}
use Rattle.wbt_table.specs.declared.state.Due.TheVariants as due
use Rattle.wbt_table.proofs.Calling.{state_here, cpu_here, ready_by}
use Rattle.wbt_table.proofs.Slots.{debt_here, owes_next, owes_later}
use Rattle.wbt_table.proofs.Settling.{OwnFound, SumIs, summed, sum_of_found, own_found_here, debts_reached, debts_paid, own_reached, reached_slot, paid_slot, batch_is_packable, held_debts, slot_seat, slot_makes, slot_holds}
use Rattle.wbt_table.proofs.Triples.{kept_by}
use Rattle.wbt_table.proofs.seat.Throttle.add.Goals as goal
use Rattle.wbt_table.proofs.seat.Throttle.add.Goals.{After-state_of, After-add-found, After-local_of, After-batch_of, After-step_slot, After-step_slot-2}

-- the event is what the record owes
debt_is : (c : After-state_of) → debt_to c.args.counter c.requires.owes.0.debts ≡ Event c.args.event
debt_is c = debt_here c.args.self.now.layout c.args.slot c.args.counter (Event c.args.event) c.requires.owes.0 c.requires.owes.2

-- and owes first; the layout is the throttle's
same_layout : (c : After-add-found) → c.self.inside.words.layout ≡ c.args.self.now.layout
same_layout c = ap (λ (t : Shape). t.layout) c.self.view_is

layout_at : (c : After-add-found) → c.args.seat.now.layout ≡ c.self.inside.words.layout
layout_at c = c.requires.seat.layout ∙ sym (same_layout c)

event_owed : (c : After-add-found) → OwesFirst c.self.inside.words.layout c.args.slot (record { counter = c.args.counter; debt = Event c.args.event }) c.requires.owes.0
event_owed c = subst (λ (k : Layout). OwesFirst k c.args.slot (record { counter = c.args.counter; debt = Event c.args.event }) c.requires.owes.0) (sym (same_layout c)) c.requires.owes.2

-- the own word that the addition found, and its sum with the event
own_word : (c : After-add-found) → OwnFound (setting c.self.inside.words.layout) c.args.counter c.add-found.result c.requires.owes.0
own_word c = let s = c.seat.inside in let h = c.requires.owes in
    own_found_here c.self.inside.words.layout s.place.table_id s.place.me s.cpus.items s.lefts.items s.timer c.args.seat.now c.seat.view_is (layout_at c) c.seat.invariant.seat c.args.cpu h.0 h.1 c.state_of.result.now c.state_of.ensures
    c.add-found.new.place.me c.args.counter c.add-found.result c.add-found.ensures.turned

sum_is : (c : After-local_of) → unsigned_abs c.args.event ≡ 1 → SumIs c.add-found.result c.local_of.result c.args.event
sum_is c unit = sum_of_found c.add-found.result c.local_of.result c.args.event c.local_of.ensures.value c.local_of.ensures.has_room c.ranges.event unit

-- the batch is the relation's
batch_is : (c : After-batch_of) → c.batch_of.result ≡ batch_of (setting c.self.inside.words.layout) c.args.counter
batch_is c = c.batch_of.ensures

-- what the code keeps: the fold that is due where the batch is reached, else nothing
abbrev fold_due : (local : ℤ) → Option Due
fold_due local = Some (due.Fold local)

keeps_fold : (c : After-step_slot) → c.step_slot.new.cpus.items ≡ put_state c.args.cpu (with_due c.args.slot (fold_due (summed c.local_of.result c.args.event)) (stepped c.state_of.result.now)) c.seat.inside.cpus.items
keeps_fold c = c.step_slot.ensures c.state_of.result.now c.state_of.ensures

keeps_none : (c : After-step_slot-2) → c.step_slot-2.new.cpus.items ≡ put_state c.args.cpu (with_due c.args.slot None (stepped c.state_of.result.now)) c.seat.inside.cpus.items
keeps_none c = c.step_slot-2.ensures c.state_of.result.now c.state_of.ensures

pub state_of-requires : goal.state_of-requires
state_of-requires c = let s = c.seat.inside in let h = c.requires.owes in
    state_here c.args.self.now.layout s.place.table_id s.place.me s.cpus.items s.lefts.items s.timer c.args.seat.now c.seat.view_is c.requires.seat.layout c.seat.invariant.seat c.args.cpu h.0 h.1

pub add-found-requires-clause-ready : goal.add-found-requires-clause-ready
add-found-requires-clause-ready c = let s = c.seat.inside in let h = c.requires.owes in
    let start = (goal.at.add-found-requires-clause-ready c).After-state_of in
    ready_by c.self.inside.words.layout s.place.table_id s.place.me s.cpus.items s.lefts.items s.timer c.args.seat.now c.seat.view_is (c.requires.seat.layout ∙ sym (ap (λ (t : Shape). t.layout) c.self.view_is)) c.seat.invariant.seat c.args.cpu h.0 h.1 c.state_of.result.now c.state_of.ensures (add c.args.cpu c.args.counter) refl record {
      cpu_is = cpu_here c.self.inside.words.layout s.place.table_id s.place.me s.cpus.items s.lefts.items s.timer c.args.seat.now c.seat.view_is (c.requires.seat.layout ∙ sym (ap (λ (t : Shape). t.layout) c.self.view_is)) c.seat.invariant.seat c.args.cpu h.0 h.1 c.state_of.result.now c.state_of.ensures;
      event_owed = debt_is start ∙ ap (λ (z : Debt). Event (amount z)) (sym (debt_is start));
    }

pub add-found-requires-clause-event : goal.add-found-requires-clause-event
add-found-requires-clause-event c = let s = c.seat.inside in let h = c.requires.owes in
    let start = (goal.at.add-found-requires-clause-event c).After-state_of in
    held_debts c.self.inside.words.layout s.place.table_id s.place.me s.cpus.items s.lefts.items s.timer c.args.seat.now c.seat.view_is (c.requires.seat.layout ∙ sym (ap (λ (t : Shape). t.layout) c.self.view_is)) c.seat.invariant.seat c.args.cpu h.0 h.1 c.state_of.result.now c.state_of.ensures (λ (l : List Owed). amount (debt_to c.args.counter l) ≡ _)
    (ap amount (debt_is start) ∙ sym (to_z-of_z c.ranges.event))

pub local_of-requires : goal.local_of-requires
local_of-requires c = let found = own_word (goal.at.local_of-requires c).After-add-found in record { fits = found.fits }

pub overflow_add-local : goal.overflow_add-local
overflow_add-local c =
    let read = (goal.at.overflow_add-local c).After-add-found in
    let found = own_word read in
    let sum = sum_is (goal.at.overflow_add-local c).After-local_of (found.units c.args.event (debt_is (goal.at.overflow_add-local c).After-state_of)) in
    sum.fits

pub step_slot-requires : goal.step_slot-requires
step_slot-requires c = (c.state_of.result.now, c.state_of.ensures)

pub invariant_of-seat : goal.invariant_of-seat
invariant_of-seat c = let s = c.seat.inside in let h = c.requires.owes in
    let read = (goal.at.invariant_of-seat c).After-add-found in
    let found = own_word read in
    let sum = sum_is (goal.at.invariant_of-seat c).After-local_of (found.units c.args.event (debt_is (goal.at.invariant_of-seat c).After-state_of)) in
    kept_by c.self.inside.words.layout (add c.args.cpu c.args.counter) c.seat.invariant c.seat.view_is (layout_at read) c.args.cpu c.state_of.result.now c.state_of.ensures refl c.add-found.ensures.turned (λ r. refl)
    (slot_seat c.self.inside.words.layout s.place.table_id s.place.me s.cpus.items s.lefts.items s.timer c.args.seat.now c.seat.view_is (layout_at read) c.seat.invariant.seat c.args.cpu h.0 h.1 c.state_of.result.now c.state_of.ensures
    c.add-found.new.place.me (add c.args.cpu c.args.counter) c.add-found.result refl c.add-found.ensures.turned c.args.slot (fold_due (summed c.local_of.result c.args.event)) c.step_slot.new.cpus.items (keeps_fold (goal.at.invariant_of-seat c).After-step_slot)
    c.args.counter (Event c.args.event) (event_owed read) (reached_slot c.self.inside.words.layout c.args.cpu c.args.slot c.args.counter c.add-found.result h.0 c.args.event (summed c.local_of.result c.args.event) (event_owed read) sum.value (sym c.unsigned_abs.ensures.value ∙ c.if-unsigned_abs-batch_of.true ∙ batch_is (goal.at.invariant_of-seat c).After-batch_of) found))

pub returns-then-unsigned_abs-batch_of-clause-made : goal.returns-then-unsigned_abs-batch_of-clause-made
returns-then-unsigned_abs-batch_of-clause-made c = let s = c.seat.inside in let h = c.requires.owes in
    let read = (goal.at.returns-then-unsigned_abs-batch_of-clause-made c).After-add-found in (
      c.add-found.result,
      slot_makes c.self.inside.words.layout s.place.table_id s.place.me s.cpus.items s.lefts.items s.timer c.args.seat.now c.seat.view_is (layout_at read) c.seat.invariant.seat c.args.cpu h.0 h.1 c.state_of.result.now c.state_of.ensures
          c.add-found.new.place.me (add c.args.cpu c.args.counter) c.add-found.result refl c.add-found.ensures.turned c.args.slot (fold_due (summed c.local_of.result c.args.event)) c.step_slot.new.cpus.items (keeps_fold (goal.at.returns-then-unsigned_abs-batch_of-clause-made c).After-step_slot) c.args.self.now.layout (same_layout read) c.add-found.new.place.table_id c.add-found.ensures.seat.0,
    )

pub returns-clause-made : goal.returns-clause-made
returns-clause-made c = let s = c.seat.inside in let h = c.requires.owes in
    let read = (goal.at.returns-clause-made c).After-add-found in (
      c.add-found.result,
      slot_makes c.self.inside.words.layout s.place.table_id s.place.me s.cpus.items s.lefts.items s.timer c.args.seat.now c.seat.view_is (layout_at read) c.seat.invariant.seat c.args.cpu h.0 h.1 c.state_of.result.now c.state_of.ensures
          c.add-found.new.place.me (add c.args.cpu c.args.counter) c.add-found.result refl c.add-found.ensures.turned c.args.slot None c.step_slot-2.new.cpus.items (keeps_none (goal.at.returns-clause-made c).After-step_slot-2) c.args.self.now.layout (same_layout read) c.add-found.new.place.table_id c.add-found.ensures.seat.0,
    )

pub returns-then-unsigned_abs-batch_of-clause-due : goal.returns-then-unsigned_abs-batch_of-clause-due
returns-then-unsigned_abs-batch_of-clause-due c = let s = c.seat.inside in let h = c.requires.owes in
    let read = (goal.at.returns-then-unsigned_abs-batch_of-clause-due c).After-add-found in
    let found = own_word read in
    let sum = sum_is (goal.at.returns-then-unsigned_abs-batch_of-clause-due c).After-local_of (found.units c.args.event (debt_is (goal.at.returns-then-unsigned_abs-batch_of-clause-due c).After-state_of)) in
    let key : Layout = c.self.inside.words.layout in
    let local : ℤ = summed c.local_of.result c.args.event in
    let is : unsigned_abs local ≡ batch_of (setting key) c.args.counter = sym c.unsigned_abs.ensures.value ∙ c.if-unsigned_abs-batch_of.true ∙ batch_is (goal.at.returns-then-unsigned_abs-batch_of-clause-due c).After-batch_of in
    let after : CpuRecord = record_after (setting key) (add c.args.cpu c.args.counter) c.add-found.result h.0 in
    let next = owes_next key c.args.slot c.args.counter (Event c.args.event) h.0 (event_owed read) FoldDue after (debts_reached key c.args.cpu c.args.slot c.args.counter c.add-found.result h.0 c.args.event (summed c.local_of.result c.args.event) (event_owed read) sum.value is) in
    slot_holds key s.place.table_id s.place.me s.cpus.items s.lefts.items s.timer c.args.seat.now c.seat.view_is (layout_at read) c.seat.invariant.seat c.args.cpu h.0 h.1 c.state_of.result.now c.state_of.ensures
    c.add-found.new.place.me (add c.args.cpu c.args.counter) c.add-found.result refl c.add-found.ensures.turned c.args.slot (fold_due local) c.step_slot.new.cpus.items (keeps_fold (goal.at.returns-then-unsigned_abs-batch_of-clause-due c).After-step_slot) c.add-found.new.place.table_id c.add-found.ensures.seat.0
    (λ (q : CpuRecord). OwesFirst c.args.self.now.layout c.args.slot (record { counter = c.args.counter; debt = FoldDue }) q
    × (own_told (setting c.args.self.now.layout) c.args.counter q ≡ local) × IsPackable local)
    (subst (λ (k : Layout). OwesFirst k c.args.slot (record { counter = c.args.counter; debt = FoldDue }) after
    × (own_told (setting k) c.args.counter after ≡ local) × IsPackable local) (same_layout read)
    (next, own_reached key c.args.cpu c.args.slot c.args.counter c.add-found.result h.0 c.args.event (summed c.local_of.result c.args.event) (event_owed read) sum.value is found.told, batch_is_packable (setting key) c.args.counter local found.few_cpus is))

pub step_slot-requires-2 : goal.step_slot-requires-2
step_slot-requires-2 c = (c.state_of.result.now, c.state_of.ensures)

pub invariant_of-seat-2 : goal.invariant_of-seat-2
invariant_of-seat-2 c = let s = c.seat.inside in let h = c.requires.owes in
    let read = (goal.at.invariant_of-seat-2 c).After-add-found in
    let found = own_word read in
    let sum = sum_is (goal.at.invariant_of-seat-2 c).After-local_of (found.units c.args.event (debt_is (goal.at.invariant_of-seat-2 c).After-state_of)) in
    kept_by c.self.inside.words.layout (add c.args.cpu c.args.counter) c.seat.invariant c.seat.view_is (layout_at read) c.args.cpu c.state_of.result.now c.state_of.ensures refl c.add-found.ensures.turned (λ r. refl)
    (slot_seat c.self.inside.words.layout s.place.table_id s.place.me s.cpus.items s.lefts.items s.timer c.args.seat.now c.seat.view_is (layout_at read) c.seat.invariant.seat c.args.cpu h.0 h.1 c.state_of.result.now c.state_of.ensures
    c.add-found.new.place.me (add c.args.cpu c.args.counter) c.add-found.result refl c.add-found.ensures.turned c.args.slot None c.step_slot-2.new.cpus.items (keeps_none (goal.at.invariant_of-seat-2 c).After-step_slot-2)
    c.args.counter (Event c.args.event) (event_owed read) (paid_slot c.self.inside.words.layout c.args.cpu c.args.slot c.args.counter c.add-found.result h.0 c.args.event (summed c.local_of.result c.args.event) (event_owed read) sum.value (λ e. c.if-unsigned_abs-batch_of.false (c.unsigned_abs.ensures.value ∙ e ∙ sym (batch_is (goal.at.invariant_of-seat-2 c).After-batch_of)))))

pub returns-clause-paid : goal.returns-clause-paid
returns-clause-paid c = let s = c.seat.inside in let h = c.requires.owes in
    let read = (goal.at.returns-clause-paid c).After-add-found in
    let found = own_word read in
    let sum = sum_is (goal.at.returns-clause-paid c).After-local_of (found.units c.args.event (debt_is (goal.at.returns-clause-paid c).After-state_of)) in
    let key : Layout = c.self.inside.words.layout in
    slot_holds key s.place.table_id s.place.me s.cpus.items s.lefts.items s.timer c.args.seat.now c.seat.view_is (layout_at read) c.seat.invariant.seat c.args.cpu h.0 h.1 c.state_of.result.now c.state_of.ensures
    c.add-found.new.place.me (add c.args.cpu c.args.counter) c.add-found.result refl c.add-found.ensures.turned c.args.slot None c.step_slot-2.new.cpus.items (keeps_none (goal.at.returns-clause-paid c).After-step_slot-2) c.add-found.new.place.table_id c.add-found.ensures.seat.0
    (OwesLater c.args.slot) (owes_later key c.args.slot c.args.counter (Event c.args.event) h.0 (event_owed read)
    (record_after (setting key) (add c.args.cpu c.args.counter) c.add-found.result h.0) (debts_paid key c.args.cpu c.args.slot c.args.counter c.add-found.result h.0 c.args.event (summed c.local_of.result c.args.event) (event_owed read) sum.value (λ e. c.if-unsigned_abs-batch_of.false (c.unsigned_abs.ensures.value ∙ e ∙ sym (batch_is (goal.at.returns-clause-paid c).After-batch_of)))))
