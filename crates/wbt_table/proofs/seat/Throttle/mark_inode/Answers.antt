use Rattle.std.proofs.Common.{◌≡◌, eqb-true, refl, sym, ap, ◌∙◌, subst}
use Rattle.wbt_table.proofs.Common.{mark, setting, Shape}
use Rattle.wbt_table.specs.declared.layout.Layout.{Layout}
use Rattle.wbt_table.proofs.Calling.{state_here, cpu_here, ready_by, quiet_seat, quiet_makes}
use Rattle.wbt_table.specs.Calls.{OwesInodeNothing, HasNoDirtyPage}
use Rattle.wbt_table.proofs.Cleaning.{number_tells, mark_is_small, clean_here}
use Rattle.wbt_table.proofs.QuietMarks.{mark_quiet}
use Rattle.wbt_table.proofs.Triples.{kept_by}
use Rattle.wbt_table.proofs.seat.Throttle.mark_inode.Goals as goal

pub state_of-requires : goal.state_of-requires
state_of-requires c = let s = c.seat.inside in let h = c.requires.held in
    state_here c.args.self.now.layout s.place.table_id s.place.me s.cpus.items s.lefts.items s.timer c.args.seat.now c.seat.view_is c.requires.seat.layout c.seat.invariant.seat c.args.cpu h.0 h.1

pub mark-found-requires-clause-named : goal.mark-found-requires-clause-named
mark-found-requires-clause-named c = refl

pub mark-found-requires-clause-ready : goal.mark-found-requires-clause-ready
mark-found-requires-clause-ready c = let s = c.seat.inside in let h = c.requires.held in
    let key : Layout = c.self.inside.words.layout in
    let at = c.requires.seat.layout ∙ sym (ap (λ (t : Shape). t.layout) c.self.view_is) in
    ready_by key s.place.table_id s.place.me s.cpus.items s.lefts.items s.timer c.args.seat.now c.seat.view_is at c.seat.invariant.seat c.args.cpu h.0 h.1 c.state_of.result.now c.state_of.ensures (mark c.args.cpu c.args.inode) refl record {
      cpu_is = cpu_here key s.place.table_id s.place.me s.cpus.items s.lefts.items s.timer c.args.seat.now c.seat.view_is at c.seat.invariant.seat c.args.cpu h.0 h.1 c.state_of.result.now c.state_of.ensures;
    }

pub step-requires : goal.step-requires
step-requires c = (c.state_of.result.now, c.state_of.ensures)

pub invariant_of-seat : goal.invariant_of-seat
invariant_of-seat c = let s = c.seat.inside in let h = c.requires.held in
    let key : Layout = c.self.inside.words.layout in
    let at = c.requires.seat.layout ∙ sym (ap (λ (t : Shape). t.layout) c.self.view_is) in
    kept_by key (mark c.args.cpu c.args.inode) c.seat.invariant c.seat.view_is at c.args.cpu c.state_of.result.now c.state_of.ensures refl c.mark-found.ensures.turned (λ r. refl)
    (quiet_seat key s.place.table_id s.place.me s.cpus.items s.lefts.items s.timer c.args.seat.now c.seat.view_is at c.seat.invariant.seat c.args.cpu h.0 h.1
    c.mark-found.new.place.me (mark c.args.cpu c.args.inode) c.mark-found.result refl c.state_of.result.now c.step.new.cpus.items c.state_of.ensures
    c.mark-found.ensures.turned (c.step.ensures c.state_of.result.now c.state_of.ensures) (mark_quiet (setting key) c.args.inode c.mark-found.result))

pub returns-clause-marks : goal.returns-clause-marks
returns-clause-marks c =
    let s = c.seat.inside in let h = c.requires.held in
    let key : Layout = c.self.inside.words.layout in
    let at = c.requires.seat.layout ∙ sym (ap (λ (t : Shape). t.layout) c.self.view_is) in
    let small = mark_is_small key s.place.table_id s.place.me c.mark-found.new.place.me s.cpus.items s.lefts.items s.timer c.args.seat.now c.seat.view_is at c.seat.invariant.seat c.args.cpu h.0 h.1
    c.state_of.result.now c.state_of.ensures c.args.inode c.mark-found.result c.mark-found.ensures.turned in (
      c.mark-found.result,
      number_tells c.mark-found.result c.is_marked.result small c.is_marked.ensures,
      quiet_makes key s.place.table_id s.place.me s.cpus.items s.lefts.items s.timer c.args.seat.now c.seat.view_is at c.seat.invariant.seat c.args.cpu h.0 h.1
          c.mark-found.new.place.me (mark c.args.cpu c.args.inode) c.mark-found.result refl c.state_of.result.now c.step.new.cpus.items c.state_of.ensures
          c.mark-found.ensures.turned (c.step.ensures c.state_of.result.now c.state_of.ensures) (mark_quiet (setting key) c.args.inode c.mark-found.result) c.args.self.now.layout (ap (λ (t : Shape). t.layout) c.self.view_is) c.mark-found.new.place.table_id c.mark-found.ensures.seat.0,
    )

pub returns-clause-clean : goal.returns-clause-clean
returns-clause-clean c all nothing clear =
    let s = c.seat.inside in let h = c.requires.held in
    let key : Layout = c.self.inside.words.layout in
    let at = c.requires.seat.layout ∙ sym (ap (λ (t : Shape). t.layout) c.self.view_is) in
    let same : key ≡ c.args.self.now.layout = ap (λ (t : Shape). t.layout) c.self.view_is in
    let small = mark_is_small key s.place.table_id s.place.me c.mark-found.new.place.me s.cpus.items s.lefts.items s.timer c.args.seat.now c.seat.view_is at c.seat.invariant.seat c.args.cpu h.0 h.1
    c.state_of.result.now c.state_of.ensures c.args.inode c.mark-found.result c.mark-found.ensures.turned in
    let zero' = eqb-true c.mark-found.result 0 (sym (number_tells c.mark-found.result c.is_marked.result small c.is_marked.ensures) ∙ clear) in
    subst (λ (k : Layout). HasNoDirtyPage (setting k) c.args.inode c.args.seat.now) same
    (clean_here key s.place.table_id s.place.me c.mark-found.new.place.me s.cpus.items s.lefts.items s.timer c.args.seat.now c.seat.view_is at c.seat.invariant.seat c.args.cpu h.0 h.1
    c.state_of.result.now c.state_of.ensures c.args.inode c.mark-found.result c.mark-found.ensures.turned
    all (subst (λ (k : Layout). OwesInodeNothing (setting k) c.args.inode c.args.seat.now) (sym same) nothing) zero')
