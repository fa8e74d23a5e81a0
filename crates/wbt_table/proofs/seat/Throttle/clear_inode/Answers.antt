use Rattle.std.proofs.Common.{refl, sym, ap, ◌∙◌}
use Rattle.wbt_table.proofs.Common.{unmark, setting, Shape}
use Rattle.wbt_table.specs.declared.layout.Layout.{Layout}
use Rattle.wbt_table.proofs.Calling.{state_here, cpu_here, ready_by, quiet_seat, quiet_makes}
use Rattle.wbt_table.proofs.QuietMarks.{unmark_quiet}
use Rattle.wbt_table.proofs.Triples.{kept_by}
use Rattle.wbt_table.proofs.seat.Throttle.clear_inode.Goals as goal

pub state_of-requires : goal.state_of-requires
state_of-requires c = let s = c.seat.inside in let h = c.requires.held in
    state_here c.args.self.now.layout s.place.table_id s.place.me s.cpus.items s.lefts.items s.timer c.args.seat.now c.seat.view_is c.requires.seat.layout c.seat.invariant.seat c.args.cpu h.0 h.1

pub unmark-requires-clause-named : goal.unmark-requires-clause-named
unmark-requires-clause-named c = refl

pub unmark-requires-clause-ready : goal.unmark-requires-clause-ready
unmark-requires-clause-ready c = let s = c.seat.inside in let h = c.requires.held in
    let key : Layout = c.self.inside.words.layout in
    let at = c.requires.seat.layout ∙ sym (ap (λ (t : Shape). t.layout) c.self.view_is) in
    ready_by key s.place.table_id s.place.me s.cpus.items s.lefts.items s.timer c.args.seat.now c.seat.view_is at c.seat.invariant.seat c.args.cpu h.0 h.1 c.state_of.result.now c.state_of.ensures (unmark c.args.cpu c.args.inode) refl record {
      cpu_is = cpu_here key s.place.table_id s.place.me s.cpus.items s.lefts.items s.timer c.args.seat.now c.seat.view_is at c.seat.invariant.seat c.args.cpu h.0 h.1 c.state_of.result.now c.state_of.ensures;
    }

pub step-requires : goal.step-requires
step-requires c = (c.state_of.result.now, c.state_of.ensures)

pub invariant_of-seat : goal.invariant_of-seat
invariant_of-seat c = let s = c.seat.inside in let h = c.requires.held in
    let key : Layout = c.self.inside.words.layout in
    let at = c.requires.seat.layout ∙ sym (ap (λ (t : Shape). t.layout) c.self.view_is) in
    kept_by key (unmark c.args.cpu c.args.inode) c.seat.invariant c.seat.view_is at c.args.cpu c.state_of.result.now c.state_of.ensures refl c.unmark.ensures.turned (λ r. refl)
    (quiet_seat key s.place.table_id s.place.me s.cpus.items s.lefts.items s.timer c.args.seat.now c.seat.view_is at c.seat.invariant.seat c.args.cpu h.0 h.1
    c.unmark.new.place.me (unmark c.args.cpu c.args.inode) c.unmark.result refl c.state_of.result.now c.step.new.cpus.items c.state_of.ensures
    c.unmark.ensures.turned (c.step.ensures c.state_of.result.now c.state_of.ensures) (unmark_quiet (setting key) c.args.inode c.unmark.result))

pub returns : goal.returns
returns c = let s = c.seat.inside in let h = c.requires.held in
    let key : Layout = c.self.inside.words.layout in
    let at = c.requires.seat.layout ∙ sym (ap (λ (t : Shape). t.layout) c.self.view_is) in (
      c.unmark.result,
      quiet_makes key s.place.table_id s.place.me s.cpus.items s.lefts.items s.timer c.args.seat.now c.seat.view_is at c.seat.invariant.seat c.args.cpu h.0 h.1
          c.unmark.new.place.me (unmark c.args.cpu c.args.inode) c.unmark.result refl c.state_of.result.now c.step.new.cpus.items c.state_of.ensures
          c.unmark.ensures.turned (c.step.ensures c.state_of.result.now c.state_of.ensures) (unmark_quiet (setting key) c.args.inode c.unmark.result) c.args.self.now.layout (ap (λ (t : Shape). t.layout) c.self.view_is) c.unmark.new.place.table_id c.unmark.ensures.seat.0,
    )
