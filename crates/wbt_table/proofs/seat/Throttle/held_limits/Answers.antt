use Rattle.std.proofs.Common.{◌≡◌, ℕ, List, get_or, sym, ap, ◌∙◌, subst}
use Rattle.wbt_table.proofs.Common.{CpuRecord, DomainLimits, held_of, IsLawful, KeepsTriples, triple_of, setting, Seated}
use Rattle.wbt_table.specs.declared.answer.Triple.{Triple}
use Rattle.wbt_table.specs.declared.layout.Layout.{Layout}
use Rattle.wbt_table.proofs.Calling.{state_here, record_here, cpu_here}
use Rattle.wbt_table.proofs.Triples.{given_triples, triple_kept, triple_lawful}
use Rattle.wbt_table.proofs.seat.Throttle.held_limits.Goals as goal

pub held_at-requires-clause-cpu : goal.held_at-requires-clause-cpu
held_at-requires-clause-cpu c = let s = c.seat.inside in let h = c.requires.held in let key : Layout = c.args.self.now.layout in
    let st = state_here key s.place.table_id s.place.me s.cpus.items s.lefts.items s.timer c.args.seat.now c.seat.view_is c.requires.seat.layout c.seat.invariant.seat c.args.cpu h.0 h.1 in
    cpu_here key s.place.table_id s.place.me s.cpus.items s.lefts.items s.timer c.args.seat.now c.seat.view_is c.requires.seat.layout c.seat.invariant.seat c.args.cpu h.0 h.1 st.0 st.1

pub returns-clause-held : goal.returns-clause-held
returns-clause-held c = let s = c.seat.inside in let h = c.requires.held in let key : Layout = c.args.self.now.layout in
    let st = state_here key s.place.table_id s.place.me s.cpus.items s.lefts.items s.timer c.args.seat.now c.seat.view_is c.requires.seat.layout c.seat.invariant.seat c.args.cpu h.0 h.1 in
    let cpu = cpu_here key s.place.table_id s.place.me s.cpus.items s.lefts.items s.timer c.args.seat.now c.seat.view_is c.requires.seat.layout c.seat.invariant.seat c.args.cpu h.0 h.1 st.0 st.1 in
    let k = record_here key s.place.table_id s.place.me s.cpus.items s.lefts.items s.timer c.args.seat.now c.seat.view_is c.requires.seat.layout c.seat.invariant.seat c.args.cpu h.0 h.1 st.0 st.1 in
    let here : s.place.me.0.layout ≡ key = ap (λ (z : Seated). z.layout) c.seat.view_is ∙ c.requires.seat.layout in
    let kept = subst (λ (z : Layout). KeepsTriples z s.held.triples.items s.place.me.0.cpus) here c.seat.invariant.triples in (
      h.0,
      h.1,
      c.index.ensures ∙ (ap (λ (n : ℕ). get_or s.held.triples.items n c.index.result.now) c.held_at.ensures.value
          ∙ (triple_kept key s.held.triples.items s.place.me.0.cpus c.args.cpu c.args.domain k.record' cpu c.requires.there kept k.has c.index.result.now
          ∙ ap (λ (l : List DomainLimits). triple_of (held_of (setting key) c.args.domain l)) (sym (given_triples st.0.grants k.record') ∙ ap (λ (x : CpuRecord). x.triples) k.with_it))),
    )

pub returns-clause-lawful : goal.returns-clause-lawful
returns-clause-lawful c = let s = c.seat.inside in let h = c.requires.held in let key : Layout = c.args.self.now.layout in
    let st = state_here key s.place.table_id s.place.me s.cpus.items s.lefts.items s.timer c.args.seat.now c.seat.view_is c.requires.seat.layout c.seat.invariant.seat c.args.cpu h.0 h.1 in
    let cpu = cpu_here key s.place.table_id s.place.me s.cpus.items s.lefts.items s.timer c.args.seat.now c.seat.view_is c.requires.seat.layout c.seat.invariant.seat c.args.cpu h.0 h.1 st.0 st.1 in
    let here : s.place.me.0.layout ≡ key = ap (λ (z : Seated). z.layout) c.seat.view_is ∙ c.requires.seat.layout in
    let kept = subst (λ (z : Layout). KeepsTriples z s.held.triples.items s.place.me.0.cpus) here c.seat.invariant.triples in
    subst (λ (t : Triple). IsLawful t.limits) (sym (c.index.ensures ∙ ap (λ (n : ℕ). get_or s.held.triples.items n c.index.result.now) c.held_at.ensures.value))
    (triple_lawful key s.held.triples.items s.place.me.0.cpus c.args.cpu c.args.domain cpu c.requires.there kept c.index.result.now)
