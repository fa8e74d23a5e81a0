use Rattle.std.proofs.Common.{◌≡◌, ℤ, ◌+◌, Option, Some, refl, sym, ap, ◌∙◌, subst, to_z-of_z, w64}
use Rattle.wbt_table.proofs.Common.{FoldDue, ClearDue, CpuRecord, fold, own_told, record_after, setting, Shape, put_state, stepped, OwesFirst, with_due}
use Rattle.wbt_table.specs.declared.layout.Layout.{Layout}
use Rattle.wbt_table.specs.declared.state.Due.{Due}
use Rattle.wbt_table.specs.declared.state.Due.TheVariants as due
use Rattle.wbt_table.proofs.Calling.{state_here, cpu_here, ready_by}
use Rattle.wbt_table.proofs.Slots.{debt_here, owes_next}
use Rattle.wbt_table.proofs.Settling.{fold_slot, held_own, slot_seat, slot_makes, slot_holds}
use Rattle.wbt_table.proofs.Triples.{kept_by}
use Rattle.wbt_table.proofs.seat.Throttle.fold.Goals as goal
use Rattle.wbt_table.proofs.seat.Throttle.fold.Goals.{After-state_of, After-fold-found, After-step_slot}

-- the layout is the throttle's
same_layout : (c : After-fold-found) → c.self.inside.words.layout ≡ c.args.self.now.layout
same_layout c = ap (λ (t : Shape). t.layout) c.self.view_is

layout_at : (c : After-fold-found) → c.args.seat.now.layout ≡ c.self.inside.words.layout
layout_at c = c.requires.seat.layout ∙ sym (same_layout c)

-- the fold is what the record owes first, of the own number that it tells
fold_owed : (c : After-fold-found) → OwesFirst c.self.inside.words.layout c.args.slot (record { counter = c.args.counter; debt = FoldDue }) c.requires.owes.0
fold_owed c = subst (λ (k : Layout). OwesFirst k c.args.slot (record { counter = c.args.counter; debt = FoldDue }) c.requires.owes.0) (sym (same_layout c)) c.requires.owes.2.0

told : (c : After-fold-found) → own_told (setting c.self.inside.words.layout) c.args.counter c.requires.owes.0 ≡ c.args.delta
told c = ap (λ (k : Layout). own_told (setting k) c.args.counter c.requires.owes.0) (same_layout c) ∙ c.requires.owes.2.1

-- what the code keeps then: the clear that is due
abbrev clear_due : (delta : ℤ) → Option Due
clear_due delta = Some (due.Clear delta)

keeps_clear : (c : After-step_slot) → c.step_slot.new.cpus.items ≡ put_state c.args.cpu (with_due c.args.slot (clear_due c.args.delta) (stepped c.state_of.result.now)) c.seat.inside.cpus.items
keeps_clear c = c.step_slot.ensures c.state_of.result.now c.state_of.ensures
    ∙ ap (λ (z : ℤ). put_state c.args.cpu (with_due c.args.slot (clear_due z) (stepped c.state_of.result.now)) c.seat.inside.cpus.items) (to_z-of_z {w = w64} c.ranges.delta)

pub state_of-requires : goal.state_of-requires
state_of-requires c = let s = c.seat.inside in let h = c.requires.owes in
    state_here c.args.self.now.layout s.place.table_id s.place.me s.cpus.items s.lefts.items s.timer c.args.seat.now c.seat.view_is c.requires.seat.layout c.seat.invariant.seat c.args.cpu h.0 h.1

pub fold-found-requires-clause-ready : goal.fold-found-requires-clause-ready
fold-found-requires-clause-ready c = let s = c.seat.inside in let h = c.requires.owes in let key : Layout = c.self.inside.words.layout in
    ready_by key s.place.table_id s.place.me s.cpus.items s.lefts.items s.timer c.args.seat.now c.seat.view_is (c.requires.seat.layout ∙ sym (ap (λ (t : Shape). t.layout) c.self.view_is)) c.seat.invariant.seat c.args.cpu h.0 h.1 c.state_of.result.now c.state_of.ensures (fold c.args.cpu c.args.counter) refl record {
      cpu_is = cpu_here key s.place.table_id s.place.me s.cpus.items s.lefts.items s.timer c.args.seat.now c.seat.view_is (c.requires.seat.layout ∙ sym (ap (λ (t : Shape). t.layout) c.self.view_is)) c.seat.invariant.seat c.args.cpu h.0 h.1 c.state_of.result.now c.state_of.ensures;
      fold_owed = debt_here c.args.self.now.layout c.args.slot c.args.counter FoldDue h.0 h.2.0;
    }

pub fold-found-requires-clause-delta : goal.fold-found-requires-clause-delta
fold-found-requires-clause-delta c = let s = c.seat.inside in let h = c.requires.owes in let key : Layout = c.self.inside.words.layout in
    held_own key s.place.table_id s.place.me s.cpus.items s.lefts.items s.timer c.args.seat.now c.seat.view_is (c.requires.seat.layout ∙ sym (ap (λ (t : Shape). t.layout) c.self.view_is)) c.seat.invariant.seat c.args.cpu h.0 h.1 c.state_of.result.now c.state_of.ensures c.args.counter _
    (ap (λ (k : Layout). own_told (setting k) c.args.counter h.0) (ap (λ (t : Shape). t.layout) c.self.view_is) ∙ h.2.1 ∙ sym (to_z-of_z c.ranges.delta))

pub step_slot-requires : goal.step_slot-requires
step_slot-requires c = (c.state_of.result.now, c.state_of.ensures)

pub invariant_of-seat : goal.invariant_of-seat
invariant_of-seat c = let s = c.seat.inside in let h = c.requires.owes in let key : Layout = c.self.inside.words.layout in
    let start = (goal.at.invariant_of-seat c).After-fold-found in
    kept_by key (fold c.args.cpu c.args.counter) c.seat.invariant c.seat.view_is (layout_at start) c.args.cpu c.state_of.result.now c.state_of.ensures refl c.fold-found.ensures.turned (λ r. refl)
    (slot_seat key s.place.table_id s.place.me s.cpus.items s.lefts.items s.timer c.args.seat.now c.seat.view_is (layout_at start) c.seat.invariant.seat c.args.cpu h.0 h.1 c.state_of.result.now c.state_of.ensures c.fold-found.new.place.me (fold c.args.cpu c.args.counter) c.fold-found.result refl c.fold-found.ensures.turned c.args.slot (clear_due c.args.delta) c.step_slot.new.cpus.items
    (keeps_clear (goal.at.invariant_of-seat c).After-step_slot) c.args.counter FoldDue (fold_owed start) (fold_slot key c.args.cpu c.args.slot c.args.counter c.fold-found.result h.0 c.args.delta (fold_owed start) (told start)))

pub returns-clause-made : goal.returns-clause-made
returns-clause-made c = let s = c.seat.inside in let h = c.requires.owes in let key : Layout = c.self.inside.words.layout in
    let start = (goal.at.returns-clause-made c).After-fold-found in (
      c.fold-found.result,
      (λ i. record { counter = c.args.counter; version = c.version_of.ensures.value i + 1; delta = to_z-of_z {w = w64} c.ranges.delta i }),
      slot_makes key s.place.table_id s.place.me s.cpus.items s.lefts.items s.timer c.args.seat.now c.seat.view_is (layout_at start) c.seat.invariant.seat c.args.cpu h.0 h.1 c.state_of.result.now c.state_of.ensures c.fold-found.new.place.me (fold c.args.cpu c.args.counter) c.fold-found.result refl c.fold-found.ensures.turned c.args.slot (clear_due c.args.delta) c.step_slot.new.cpus.items
          (keeps_clear (goal.at.returns-clause-made c).After-step_slot) c.args.self.now.layout (same_layout start) c.fold-found.new.place.table_id c.fold-found.ensures.seat.0,
    )

pub returns-clause-owes : goal.returns-clause-owes
returns-clause-owes c = let s = c.seat.inside in let h = c.requires.owes in let key : Layout = c.self.inside.words.layout in
    let start = (goal.at.returns-clause-owes c).After-fold-found in
    let after : CpuRecord = record_after (setting key) (fold c.args.cpu c.args.counter) c.fold-found.result h.0 in
    let next = owes_next key c.args.slot c.args.counter FoldDue h.0 (fold_owed start) (ClearDue (own_told (setting key) c.args.counter h.0)) after refl in
    slot_holds key s.place.table_id s.place.me s.cpus.items s.lefts.items s.timer c.args.seat.now c.seat.view_is (layout_at start) c.seat.invariant.seat c.args.cpu h.0 h.1 c.state_of.result.now c.state_of.ensures c.fold-found.new.place.me (fold c.args.cpu c.args.counter) c.fold-found.result refl c.fold-found.ensures.turned c.args.slot (clear_due c.args.delta) c.step_slot.new.cpus.items
    (keeps_clear (goal.at.returns-clause-owes c).After-step_slot) c.fold-found.new.place.table_id c.fold-found.ensures.seat.0
    (OwesFirst c.args.self.now.layout c.args.slot (record { counter = c.args.counter; debt = ClearDue c.args.delta }))
    (subst (λ (z : Layout × ℤ). OwesFirst z.0 c.args.slot (record { counter = c.args.counter; debt = ClearDue z.1 }) after) (λ i. (same_layout start i, told start i)) next)
