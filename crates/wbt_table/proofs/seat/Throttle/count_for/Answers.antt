use Rattle.std.proofs.Common.{◌≡◌, ℕ, refl, sym, ap, ◌∙◌, subst}
use Rattle.wbt_table.proofs.Common.{count, cpu_for, setting, Has, Shape}
use Rattle.wbt_grant.specs.Kinds.{IsWho}
use Rattle.wbt_table.specs.declared.layout.Layout.{Layout}
use Rattle.wbt_table.proofs.Calling.{state_here, record_here, ready_by, quiet_seat, quiet_makes}
use Rattle.wbt_table.proofs.QuietLoads.{count_quiet, newest_found}
use Rattle.wbt_table.proofs.Triples.{kept_by}
use Rattle.wbt_table.proofs.seat.Throttle.count_for.Goals as goal
use Rattle.wbt_table.proofs.seat.Throttle.count_for.Goals.{After-count-found}

-- the layout is the throttle's, and the CPU the one that steps for who loads
same_layout : (c : After-count-found) → c.self.inside.words.layout ≡ c.args.self.now.layout
same_layout c = ap (λ (t : Shape). t.layout) c.self.view_is

layout_at : (c : After-count-found) → c.args.seat.now.layout ≡ c.self.inside.words.layout
layout_at c = c.requires.seat.layout ∙ sym (same_layout c)

steps_for : (c : After-count-found) → c.args.cpu ≡ cpu_for (setting c.self.inside.words.layout) c.args.who
steps_for c = c.requires.its ∙ ap (λ (k : Layout). cpu_for (setting k) c.args.who) (sym (same_layout c))

pub state_of-requires : goal.state_of-requires
state_of-requires c = let s = c.seat.inside in let h = c.requires.held in
    state_here c.args.self.now.layout s.place.table_id s.place.me s.cpus.items s.lefts.items s.timer c.args.seat.now c.seat.view_is c.requires.seat.layout c.seat.invariant.seat c.args.cpu h.0 h.1

pub count-found-requires-clause-named : goal.count-found-requires-clause-named
count-found-requires-clause-named c = refl

pub count-found-requires-clause-ready : goal.count-found-requires-clause-ready
count-found-requires-clause-ready c = let s = c.seat.inside in let h = c.requires.held in
    let key : Layout = c.self.inside.words.layout in
    let same : key ≡ c.args.self.now.layout = ap (λ (t : Shape). t.layout) c.self.view_is in
    let is : c.args.cpu ≡ cpu_for (setting key) c.args.who = c.requires.its ∙ ap (λ (k : Layout). cpu_for (setting k) c.args.who) (sym same) in
    ready_by key s.place.table_id s.place.me s.cpus.items s.lefts.items s.timer c.args.seat.now c.seat.view_is (c.requires.seat.layout ∙ sym same) c.seat.invariant.seat c.args.cpu h.0 h.1 c.state_of.result.now c.state_of.ensures
    (count c.args.who c.args.counter) is (subst (λ (z : Layout). IsWho (setting z) c.args.who) (sym same) c.requires.known)

pub step-requires : goal.step-requires
step-requires c = (c.state_of.result.now, c.state_of.ensures)

pub invariant_of-seat : goal.invariant_of-seat
invariant_of-seat c = let s = c.seat.inside in let h = c.requires.held in let d = (goal.at.invariant_of-seat c).After-count-found in
    kept_by c.self.inside.words.layout (count c.args.who c.args.counter) c.seat.invariant c.seat.view_is (layout_at d) c.args.cpu c.state_of.result.now c.state_of.ensures (steps_for d) c.count-found.ensures.turned (λ r. refl)
    (quiet_seat c.self.inside.words.layout s.place.table_id s.place.me s.cpus.items s.lefts.items s.timer c.args.seat.now c.seat.view_is (layout_at d) c.seat.invariant.seat c.args.cpu h.0 h.1
    c.count-found.new.place.me (count c.args.who c.args.counter) c.count-found.result (steps_for d) c.state_of.result.now c.step.new.cpus.items c.state_of.ensures
    c.count-found.ensures.turned (c.step.ensures c.state_of.result.now c.state_of.ensures) (count_quiet (setting c.self.inside.words.layout) c.args.who c.args.counter c.count-found.result))

pub returns-clause-makes : goal.returns-clause-makes
returns-clause-makes c = let s = c.seat.inside in let h = c.requires.held in let d = (goal.at.returns-clause-makes c).After-count-found in
    quiet_makes c.self.inside.words.layout s.place.table_id s.place.me s.cpus.items s.lefts.items s.timer c.args.seat.now c.seat.view_is (layout_at d) c.seat.invariant.seat c.args.cpu h.0 h.1
    c.count-found.new.place.me (count c.args.who c.args.counter) c.count-found.result (steps_for d) c.state_of.result.now c.step.new.cpus.items c.state_of.ensures
    c.count-found.ensures.turned (c.step.ensures c.state_of.result.now c.state_of.ensures) (count_quiet (setting c.self.inside.words.layout) c.args.who c.args.counter c.count-found.result)
    c.args.self.now.layout (same_layout d) c.count-found.new.place.table_id c.count-found.ensures.seat.0

pub returns-clause-newest : goal.returns-clause-newest
returns-clause-newest c r has = let s = c.seat.inside in let d = (goal.at.returns-clause-newest c).After-count-found in
    let key : Layout = c.self.inside.words.layout in
    let k = record_here key s.place.table_id s.place.me s.cpus.items s.lefts.items s.timer c.args.seat.now c.seat.view_is (layout_at d) c.seat.invariant.seat c.args.cpu r has c.state_of.result.now c.state_of.ensures in
    newest_found key c.args.who c.args.counter c.count-found.result c.state_of.result.now.grants k.record' r s.place.me.0 c.requires.by_cpu k.with_it
    (c.count-found.ensures.turned.found k.record' (subst (λ (i : ℕ). Has s.place.me.0.cpus i k.record') (steps_for d) k.has))
