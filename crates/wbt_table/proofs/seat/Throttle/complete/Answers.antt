use Rattle.std.proofs.Common.{◌≡◌, ℕ, ◌<◌, List, negsuc, length, get_or, refl, sym, ap, ◌∙◌, subst, arith}
use Rattle.wbt_table.proofs.Common.{complete, setting, inode_at, no_place, Shape, Seated, Makes, States, put_state, page_stepped, seated, CanComplete, owing_event}
use Rattle.wbt_table.specs.declared.layout.Layout.{Layout}
use Rattle.wbt_table.specs.declared.layout.Place.{Place}
use Rattle.wbt_table.specs.declared.state.CpuState.{CpuState}
use Rattle.wbt_table.proofs.Opening.{lawful_setting}
use Rattle.wbt_table.proofs.Calling.{state_here, step_makes}
use Rattle.wbt_table.proofs.Completing.{page_steps_here, ready_here, complete_seat}
use Rattle.wbt_table.proofs.Triples.{kept_by}
use Rattle.wbt_table.proofs.seat.Throttle.complete.Goals as goal

pub state_of-state-requires : goal.state_of-state-requires
state_of-state-requires c = let s = c.seat.inside in let h = c.requires.may in
    state_here c.args.self.now.layout s.place.table_id s.place.me s.cpus.items s.lefts.items s.timer c.args.seat.now c.seat.view_is c.requires.seat.layout c.seat.invariant.seat c.args.cpu h.0 h.1

pub complete-requires-clause-named : goal.complete-requires-clause-named
complete-requires-clause-named c = refl

pub complete-requires-clause-ready : goal.complete-requires-clause-ready
complete-requires-clause-ready c = let s = c.seat.inside in let h = c.requires.may in
    let key : Layout = c.self.inside.words.layout in
    let same : key ≡ c.args.self.now.layout = ap (λ (t : Shape). t.layout) c.self.view_is in
    let at = c.requires.seat.layout ∙ sym same in
    let can = subst (λ (k : Layout). CanComplete (setting k) c.args.page h.0) (sym same) h.2 in
    let st : CpuState = c.state_of-state.result.now in
    let knows = c.state_of-state.ensures in
    ready_here key s.place.table_id s.place.me s.cpus.items s.lefts.items s.timer c.args.seat.now c.seat.view_is at c.seat.invariant.seat c.args.page c.args.cpu h.0 h.1 can st knows c.if-state-self.false

pub returns-then-state-self-clause-spent : goal.returns-then-state-self-clause-spent
returns-then-state-self-clause-spent c = let s = c.seat.inside in let h = c.requires.may in
    let key : Layout = c.self.inside.words.layout in
    let same : key ≡ c.args.self.now.layout = ap (λ (t : Shape). t.layout) c.self.view_is in
    let at = c.requires.seat.layout ∙ sym same in
    let can = subst (λ (k : Layout). CanComplete (setting k) c.args.page h.0) (sym same) h.2 in
    let st : CpuState = c.state_of-state.result.now in
    let knows = c.state_of-state.ensures in
    let told = page_steps_here key s.place.table_id s.place.me s.cpus.items s.lefts.items s.timer c.args.seat.now c.seat.view_is at c.seat.invariant.seat c.args.page c.args.cpu h.0 h.1 can st knows in
    let less = c.if-state-self.true in let k = ap (λ (l : Layout). l.page_steps) same in (refl, (h.0, h.1, omega arith))

pub returns-clause-had_a_step : goal.returns-clause-had_a_step
returns-clause-had_a_step c = let s = c.seat.inside in let h = c.requires.may in
    let key : Layout = c.self.inside.words.layout in
    let same : key ≡ c.args.self.now.layout = ap (λ (t : Shape). t.layout) c.self.view_is in
    let at = c.requires.seat.layout ∙ sym same in
    let can = subst (λ (k : Layout). CanComplete (setting k) c.args.page h.0) (sym same) h.2 in
    let st : CpuState = c.state_of-state.result.now in
    let knows = c.state_of-state.ensures in
    let told = page_steps_here key s.place.table_id s.place.me s.cpus.items s.lefts.items s.timer c.args.seat.now c.seat.view_is at c.seat.invariant.seat c.args.page c.args.cpu h.0 h.1 can st knows in
    let less = c.if-state-self.false in let k = ap (λ (l : Layout). l.page_steps) same in (h.0, h.1, omega arith)

pub invariant_of-seat : goal.invariant_of-seat
invariant_of-seat c = let s = c.seat.inside in let h = c.requires.may in
    let key : Layout = c.self.inside.words.layout in
    let same : key ≡ c.args.self.now.layout = ap (λ (t : Shape). t.layout) c.self.view_is in
    let at = c.requires.seat.layout ∙ sym same in
    let can = subst (λ (k : Layout). CanComplete (setting k) c.args.page h.0) (sym same) h.2 in
    let st : CpuState = c.state_of-state.result.now in
    let knows = c.state_of-state.ensures in
    let home : c.home_of-context.result ≡ (setting key).home c.args.page = c.home_of-context.ensures
    ∙ ap (λ (l : List Place). (get_or l (inode_at c.args.page l) no_place).context) c.as_slice.ensures in
    let there = (lawful_setting key c.self.invariant).homes c.args.page can.page_is in
    kept_by key (complete c.args.cpu c.args.page) c.seat.invariant c.seat.view_is at c.args.cpu st knows refl c.complete.ensures.turned (λ r. refl)
    (complete_seat key s.place.table_id s.place.me s.cpus.items s.lefts.items s.timer c.args.seat.now c.seat.view_is at c.seat.invariant.seat c.args.page c.args.cpu h.0 h.1 can st knows c.complete.new.place.me c.complete.result c.complete.ensures.turned c.self.invariant c.owe.new.cpus.items c.home_of-context.result
    (c.owe.ensures st knows ∙ (λ i. put_state c.args.cpu (owing_event (setting (sym same i)) c.home_of-context.result (negsuc 0) (page_stepped st)) s.cpus.items)) home
    (subst (λ (m : ℕ). m < length key.contexts) (sym home) there))

pub returns-clause-completed : goal.returns-clause-completed
returns-clause-completed c = let s = c.seat.inside in let h = c.requires.may in
    let key : Layout = c.self.inside.words.layout in
    let same : key ≡ c.args.self.now.layout = ap (λ (t : Shape). t.layout) c.self.view_is in
    let at = c.requires.seat.layout ∙ sym same in
    let can = subst (λ (k : Layout). CanComplete (setting k) c.args.page h.0) (sym same) h.2 in
    let st : CpuState = c.state_of-state.result.now in
    let knows = c.state_of-state.ensures in
    let left : CpuState = owing_event (setting c.args.self.now.layout) c.home_of-context.result (negsuc 0) (page_stepped st) in
    let new : Seated = seated c.complete.new.place.table_id c.complete.new.place.me c.owe.new.cpus.items in (
      c.complete.result,
      subst (λ (k : Layout). Makes (setting k) (complete c.args.cpu c.args.page) c.complete.result c.args.seat.now new) same
          (subst (λ (l : States). Makes (setting key) (complete c.args.cpu c.args.page) c.complete.result c.args.seat.now (seated c.complete.new.place.table_id c.complete.new.place.me l)) (sym (c.owe.ensures st knows))
          (step_makes key s.place.table_id s.place.me s.cpus.items s.lefts.items s.timer c.args.seat.now c.seat.view_is at c.seat.invariant.seat c.args.cpu h.0 h.1 c.complete.new.place.me (complete c.args.cpu c.args.page) c.complete.result refl st left knows
          c.complete.ensures.turned refl
          c.complete.new.place.table_id c.complete.ensures.seat.0)),
    )

pub owe-requires-clause-there : goal.owe-requires-clause-there
owe-requires-clause-there c = let h = c.requires.may in
    let key : Layout = c.self.inside.words.layout in
    let same : key ≡ c.args.self.now.layout = ap (λ (t : Shape). t.layout) c.self.view_is in
    let can = subst (λ (k : Layout). CanComplete (setting k) c.args.page h.0) (sym same) h.2 in
    let home : c.home_of-context.result ≡ (setting key).home c.args.page = c.home_of-context.ensures
    ∙ ap (λ (l : List Place). (get_or l (inode_at c.args.page l) no_place).context) c.as_slice.ensures in
    subst (λ (k : Layout). c.home_of-context.result < length k.contexts) same
    (subst (λ (m : ℕ). m < length key.contexts) (sym home) ((lawful_setting key c.self.invariant).homes c.args.page can.page_is))
