use Rattle.std.proofs.Common.{refl, sym, ap, ◌∙◌}
use Rattle.wbt_table.proofs.Common.{CpuRecord}
use Rattle.wbt_table.proofs.Keeping.{given_same, given_steps}
use Rattle.wbt_table.proofs.Calling.{state_here, record_here}
use Rattle.wbt_table.proofs.seat.CpuSeat.state.Goals as goal

pub state_of-requires : goal.state_of-requires
state_of-requires c = let s = c.self.inside in let h = c.requires.held in
    state_here c.args.self.now.layout s.place.table_id s.place.me s.cpus.items s.lefts.items s.timer c.args.self.now c.self.view_is refl c.self.invariant.seat c.args.cpu h.0 h.1

pub returns : goal.returns
returns c = let s = c.self.inside in let h = c.requires.held in
    let k = record_here c.args.self.now.layout s.place.table_id s.place.me s.cpus.items s.lefts.items s.timer c.args.self.now c.self.view_is refl c.self.invariant.seat c.args.cpu h.0 h.1 c.state_of.result.now c.state_of.ensures in
    let same = given_same c.state_of.result.now.grants k.record' in (
      h.0,
      h.1,
      (
        k.keeps.steps ∙ sym (given_steps c.state_of.result.now.grants k.record') ∙ ap (λ (r : CpuRecord). r.steps) k.with_it,
        k.keeps.page_steps ∙ sym same.page_steps ∙ ap (λ (r : CpuRecord). r.page_steps) k.with_it,
        ap (λ (r : CpuRecord). r.debts) (sym k.with_it) ∙ same.debts ∙ k.keeps.debts,
      ),
    )
