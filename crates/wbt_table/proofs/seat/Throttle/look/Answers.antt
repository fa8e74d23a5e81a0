use Rattle.std.proofs.Common.{refl, sym, ap, ◌∙◌, arith}
use Rattle.wbt_table.proofs.Common.{look, setting, Shape}
use Rattle.wbt_table.specs.declared.layout.Layout.{Layout}
use Rattle.wbt_table.proofs.Calling.{state_here, record_here, cpu_here, ready_by, quiet_seat, quiet_makes}
use Rattle.wbt_table.proofs.Quiet.{look_quiet}
use Rattle.wbt_table.proofs.Unheld.{held_found}
use Rattle.wbt_table.proofs.Triples.{kept_by, look_triples}
use Rattle.wbt_table.proofs.seat.Throttle.look.Goals as goal

pub state_of-requires : goal.state_of-requires
state_of-requires c = let s = c.seat.inside in let h = c.requires.held in
    state_here c.args.self.now.layout s.place.table_id s.place.me s.cpus.items s.lefts.items s.timer c.args.seat.now c.seat.view_is c.requires.seat.layout c.seat.invariant.seat c.args.cpu h.0 h.1

pub look-found-requires-clause-named : goal.look-found-requires-clause-named
look-found-requires-clause-named c = refl

pub look-found-requires-clause-ready : goal.look-found-requires-clause-ready
look-found-requires-clause-ready c = let s = c.seat.inside in let h = c.requires.held in
    let key : Layout = c.self.inside.words.layout in
    let at = c.requires.seat.layout ∙ sym (ap (λ (t : Shape). t.layout) c.self.view_is) in
    let page = c.requires.page in let same = ap (λ (t : Shape). (setting t.layout).pages) c.self.view_is in
    ready_by key s.place.table_id s.place.me s.cpus.items s.lefts.items s.timer c.args.seat.now c.seat.view_is at c.seat.invariant.seat c.args.cpu h.0 h.1 c.state_of.result.now c.state_of.ensures (look c.args.cpu c.args.page) refl record {
      cpu_is = cpu_here key s.place.table_id s.place.me s.cpus.items s.lefts.items s.timer c.args.seat.now c.seat.view_is at c.seat.invariant.seat c.args.cpu h.0 h.1 c.state_of.result.now c.state_of.ensures;
      page_is = omega arith;
    }

pub step-requires : goal.step-requires
step-requires c = (c.state_of.result.now, c.state_of.ensures)

pub invariant_of-seat : goal.invariant_of-seat
invariant_of-seat c = let s = c.seat.inside in let h = c.requires.held in
    let key : Layout = c.self.inside.words.layout in
    let at = c.requires.seat.layout ∙ sym (ap (λ (t : Shape). t.layout) c.self.view_is) in
    kept_by key (look c.args.cpu c.args.page) c.seat.invariant c.seat.view_is at c.args.cpu c.state_of.result.now c.state_of.ensures refl c.look-found.ensures.turned (λ r. look_triples (setting key) c.args.page c.look-found.result r)
    (quiet_seat key s.place.table_id s.place.me s.cpus.items s.lefts.items s.timer c.args.seat.now c.seat.view_is at c.seat.invariant.seat c.args.cpu h.0 h.1
    c.look-found.new.place.me (look c.args.cpu c.args.page) c.look-found.result refl c.state_of.result.now c.step.new.cpus.items c.state_of.ensures
    c.look-found.ensures.turned (c.step.ensures c.state_of.result.now c.state_of.ensures) (look_quiet (setting key) c.args.page c.look-found.result))

pub returns-clause-makes : goal.returns-clause-makes
returns-clause-makes c = let s = c.seat.inside in let h = c.requires.held in
    let key : Layout = c.self.inside.words.layout in
    let at = c.requires.seat.layout ∙ sym (ap (λ (t : Shape). t.layout) c.self.view_is) in
    quiet_makes key s.place.table_id s.place.me s.cpus.items s.lefts.items s.timer c.args.seat.now c.seat.view_is at c.seat.invariant.seat c.args.cpu h.0 h.1
    c.look-found.new.place.me (look c.args.cpu c.args.page) c.look-found.result refl c.state_of.result.now c.step.new.cpus.items c.state_of.ensures
    c.look-found.ensures.turned (c.step.ensures c.state_of.result.now c.state_of.ensures) (look_quiet (setting key) c.args.page c.look-found.result) c.args.self.now.layout (ap (λ (t : Shape). t.layout) c.self.view_is) c.look-found.new.place.table_id c.look-found.ensures.seat.0

pub returns-clause-under : goal.returns-clause-under
returns-clause-under c r has some = let s = c.seat.inside in
    let key : Layout = c.self.inside.words.layout in
    let at = c.requires.seat.layout ∙ sym (ap (λ (t : Shape). t.layout) c.self.view_is) in
    let k = record_here key s.place.table_id s.place.me s.cpus.items s.lefts.items s.timer c.args.seat.now c.seat.view_is at c.seat.invariant.seat c.args.cpu r has c.state_of.result.now c.state_of.ensures in
    held_found key c.args.cpu c.args.page c.look-found.result c.state_of.result.now.grants k.record' r s.place.me.0 k.with_it (c.look-found.ensures.turned.found k.record' k.has) some
