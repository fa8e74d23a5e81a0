use Rattle.std.proofs.Common.{◌≡◌, ℕ, pos, refl, sym, ap, ◌∙◌, subst, arith}
use Rattle.wbt_table.proofs.Common.{dirty, setting, Has, Shape, Seated, Makes, put_state, page_stepped, seated, CanDirty, owing_event}
use Rattle.wbt_table.specs.declared.layout.Layout.{Layout}
use Rattle.wbt_table.specs.declared.layout.Writer.{Writer}
use Rattle.wbt_table.specs.declared.state.CpuState.{CpuState}
use Rattle.wbt_table.proofs.Calling.{state_here}
use Rattle.wbt_table.proofs.Dirtying.{page_steps_here, ready_here, already_seat, fresh_seat, dirty_changes}
use Rattle.wbt_table.proofs.Triples.{kept_by, dirty_triples}
use Rattle.wbt_table.proofs.seat.Throttle.dirty_for.Goals as goal

pub state_of-state-requires : goal.state_of-state-requires
state_of-state-requires c = let s = c.seat.inside in let h = c.requires.may in
    let there : c.args.who.cpu ≡ (setting c.args.self.now.layout).seat c.args.writer = ap (λ (z : Writer). z.cpu) c.requires.who in
    state_here c.args.self.now.layout s.place.table_id s.place.me s.cpus.items s.lefts.items s.timer c.args.seat.now c.seat.view_is c.requires.seat.layout c.seat.invariant.seat c.args.who.cpu h.0
    (subst (λ (n : ℕ). Has c.args.seat.now.cpus n h.0) (sym there) h.1)

pub dirty-found-requires-clause-named : goal.dirty-found-requires-clause-named
dirty-found-requires-clause-named c = refl

pub returns-then-state-self-clause-spent : goal.returns-then-state-self-clause-spent
returns-then-state-self-clause-spent c = let s = c.seat.inside in let h = c.requires.may in
    let key : Layout = c.self.inside.words.layout in
    let same : key ≡ c.args.self.now.layout = ap (λ (t : Shape). t.layout) c.self.view_is in
    let at = c.requires.seat.layout ∙ sym same in
    let cpu : ℕ = c.args.who.cpu in
    let there : cpu ≡ (setting c.args.self.now.layout).seat c.args.writer = ap (λ (z : Writer). z.cpu) c.requires.who in
    let is : cpu ≡ (setting key).seat c.args.writer = there ∙ ap (λ (k : Layout). (setting k).seat c.args.writer) (sym same) in
    let has = subst (λ (n : ℕ). Has c.args.seat.now.cpus n h.0) (sym there) h.1 in
    let can = subst (λ (k : Layout). CanDirty (setting k) c.args.writer c.args.page h.0) (sym same) h.2 in
    let st : CpuState = c.state_of-state.result.now in
    let knows = c.state_of-state.ensures in
    let told = page_steps_here key s.place.table_id s.place.me s.cpus.items s.lefts.items s.timer c.args.seat.now c.seat.view_is at c.seat.invariant.seat c.args.writer c.args.page cpu is h.0 has can st knows in
    let less = c.if-state-self.true in let k = ap (λ (l : Layout). l.page_steps) same in (refl, (h.0, h.1, omega arith))

pub dirty-found-requires-clause-ready : goal.dirty-found-requires-clause-ready
dirty-found-requires-clause-ready c = let s = c.seat.inside in let h = c.requires.may in
    let key : Layout = c.self.inside.words.layout in
    let same : key ≡ c.args.self.now.layout = ap (λ (t : Shape). t.layout) c.self.view_is in
    let at = c.requires.seat.layout ∙ sym same in
    let cpu : ℕ = c.args.who.cpu in
    let there : cpu ≡ (setting c.args.self.now.layout).seat c.args.writer = ap (λ (z : Writer). z.cpu) c.requires.who in
    let is : cpu ≡ (setting key).seat c.args.writer = there ∙ ap (λ (k : Layout). (setting k).seat c.args.writer) (sym same) in
    let has = subst (λ (n : ℕ). Has c.args.seat.now.cpus n h.0) (sym there) h.1 in
    let can = subst (λ (k : Layout). CanDirty (setting k) c.args.writer c.args.page h.0) (sym same) h.2 in
    let st : CpuState = c.state_of-state.result.now in
    let knows = c.state_of-state.ensures in
    ready_here key s.place.table_id s.place.me s.cpus.items s.lefts.items s.timer c.args.seat.now c.seat.view_is at c.seat.invariant.seat c.args.writer c.args.page cpu is h.0 has can st knows c.if-state-self.false

pub returns-then-is_dirty_at-clause-had_a_step : goal.returns-then-is_dirty_at-clause-had_a_step
returns-then-is_dirty_at-clause-had_a_step c = let s = c.seat.inside in let h = c.requires.may in
    let key : Layout = c.self.inside.words.layout in
    let same : key ≡ c.args.self.now.layout = ap (λ (t : Shape). t.layout) c.self.view_is in
    let at = c.requires.seat.layout ∙ sym same in
    let cpu : ℕ = c.args.who.cpu in
    let there : cpu ≡ (setting c.args.self.now.layout).seat c.args.writer = ap (λ (z : Writer). z.cpu) c.requires.who in
    let is : cpu ≡ (setting key).seat c.args.writer = there ∙ ap (λ (k : Layout). (setting k).seat c.args.writer) (sym same) in
    let has = subst (λ (n : ℕ). Has c.args.seat.now.cpus n h.0) (sym there) h.1 in
    let can = subst (λ (k : Layout). CanDirty (setting k) c.args.writer c.args.page h.0) (sym same) h.2 in
    let st : CpuState = c.state_of-state.result.now in
    let knows = c.state_of-state.ensures in
    let told = page_steps_here key s.place.table_id s.place.me s.cpus.items s.lefts.items s.timer c.args.seat.now c.seat.view_is at c.seat.invariant.seat c.args.writer c.args.page cpu is h.0 has can st knows in
    let less = c.if-state-self.false in let k = ap (λ (l : Layout). l.page_steps) same in (h.0, h.1, omega arith)

pub returns-clause-had_a_step : goal.returns-clause-had_a_step
returns-clause-had_a_step c = let s = c.seat.inside in let h = c.requires.may in
    let key : Layout = c.self.inside.words.layout in
    let same : key ≡ c.args.self.now.layout = ap (λ (t : Shape). t.layout) c.self.view_is in
    let at = c.requires.seat.layout ∙ sym same in
    let cpu : ℕ = c.args.who.cpu in
    let there : cpu ≡ (setting c.args.self.now.layout).seat c.args.writer = ap (λ (z : Writer). z.cpu) c.requires.who in
    let is : cpu ≡ (setting key).seat c.args.writer = there ∙ ap (λ (k : Layout). (setting k).seat c.args.writer) (sym same) in
    let has = subst (λ (n : ℕ). Has c.args.seat.now.cpus n h.0) (sym there) h.1 in
    let can = subst (λ (k : Layout). CanDirty (setting k) c.args.writer c.args.page h.0) (sym same) h.2 in
    let st : CpuState = c.state_of-state.result.now in
    let knows = c.state_of-state.ensures in
    let told = page_steps_here key s.place.table_id s.place.me s.cpus.items s.lefts.items s.timer c.args.seat.now c.seat.view_is at c.seat.invariant.seat c.args.writer c.args.page cpu is h.0 has can st knows in
    let less = c.if-state-self.false in let k = ap (λ (l : Layout). l.page_steps) same in (h.0, h.1, omega arith)

pub invariant_of-seat : goal.invariant_of-seat
invariant_of-seat c = let s = c.seat.inside in let h = c.requires.may in
    let key : Layout = c.self.inside.words.layout in
    let same : key ≡ c.args.self.now.layout = ap (λ (t : Shape). t.layout) c.self.view_is in
    let at = c.requires.seat.layout ∙ sym same in
    let cpu : ℕ = c.args.who.cpu in
    let there : cpu ≡ (setting c.args.self.now.layout).seat c.args.writer = ap (λ (z : Writer). z.cpu) c.requires.who in
    let is : cpu ≡ (setting key).seat c.args.writer = there ∙ ap (λ (k : Layout). (setting k).seat c.args.writer) (sym same) in
    let has = subst (λ (n : ℕ). Has c.args.seat.now.cpus n h.0) (sym there) h.1 in
    let can = subst (λ (k : Layout). CanDirty (setting k) c.args.writer c.args.page h.0) (sym same) h.2 in
    let st : CpuState = c.state_of-state.result.now in
    let knows = c.state_of-state.ensures in
    kept_by key (dirty c.args.writer c.args.page) c.seat.invariant c.seat.view_is at cpu st knows is c.dirty-found.ensures.turned (λ r. dirty_triples (setting key) c.args.writer c.args.page c.dirty-found.result r)
    (already_seat key s.place.table_id s.place.me s.cpus.items s.lefts.items s.timer c.args.seat.now c.seat.view_is at c.seat.invariant.seat c.args.writer c.args.page cpu is h.0 has can st knows c.dirty-found.new.place.me c.dirty-found.result c.dirty-found.ensures.turned c.step_page.new.cpus.items (c.step_page.ensures st knows)
    (sym c.is_dirty_at.ensures.in_book ∙ c.if-is_dirty_at.true))

pub invariant_of-seat-2 : goal.invariant_of-seat-2
invariant_of-seat-2 c = let s = c.seat.inside in let h = c.requires.may in
    let key : Layout = c.self.inside.words.layout in
    let same : key ≡ c.args.self.now.layout = ap (λ (t : Shape). t.layout) c.self.view_is in
    let at = c.requires.seat.layout ∙ sym same in
    let cpu : ℕ = c.args.who.cpu in
    let there : cpu ≡ (setting c.args.self.now.layout).seat c.args.writer = ap (λ (z : Writer). z.cpu) c.requires.who in
    let is : cpu ≡ (setting key).seat c.args.writer = there ∙ ap (λ (k : Layout). (setting k).seat c.args.writer) (sym same) in
    let has = subst (λ (n : ℕ). Has c.args.seat.now.cpus n h.0) (sym there) h.1 in
    let can = subst (λ (k : Layout). CanDirty (setting k) c.args.writer c.args.page h.0) (sym same) h.2 in
    let st : CpuState = c.state_of-state.result.now in
    let knows = c.state_of-state.ensures in
    kept_by key (dirty c.args.writer c.args.page) c.seat.invariant c.seat.view_is at cpu st knows is c.dirty-found.ensures.turned (λ r. dirty_triples (setting key) c.args.writer c.args.page c.dirty-found.result r)
    (fresh_seat key s.place.table_id s.place.me s.cpus.items s.lefts.items s.timer c.args.seat.now c.seat.view_is at c.seat.invariant.seat c.args.writer c.args.page cpu is h.0 has can st knows c.dirty-found.new.place.me c.dirty-found.result c.dirty-found.ensures.turned c.self.invariant c.owe.new.cpus.items c.args.who.context c.index_mut.result.now
    (c.owe.ensures st knows ∙ (λ i. put_state cpu (owing_event (setting (sym same i)) c.args.who.context (pos 1) (page_stepped st)) s.cpus.items))
    (ap (λ (z : Writer). z.context) c.requires.who ∙ ap (λ (k : Layout). (setting k).works_in c.args.writer) (sym same))
    c.index_mut.ensures.value (sym c.is_dirty_at.ensures.in_book ∙ c.if-is_dirty_at.false))

pub returns-then-is_dirty_at-clause-dirtied : goal.returns-then-is_dirty_at-clause-dirtied
returns-then-is_dirty_at-clause-dirtied c = let s = c.seat.inside in let h = c.requires.may in
    let key : Layout = c.self.inside.words.layout in
    let same : key ≡ c.args.self.now.layout = ap (λ (t : Shape). t.layout) c.self.view_is in
    let at = c.requires.seat.layout ∙ sym same in
    let cpu : ℕ = c.args.who.cpu in
    let there : cpu ≡ (setting c.args.self.now.layout).seat c.args.writer = ap (λ (z : Writer). z.cpu) c.requires.who in
    let is : cpu ≡ (setting key).seat c.args.writer = there ∙ ap (λ (k : Layout). (setting k).seat c.args.writer) (sym same) in
    let has = subst (λ (n : ℕ). Has c.args.seat.now.cpus n h.0) (sym there) h.1 in
    let can = subst (λ (k : Layout). CanDirty (setting k) c.args.writer c.args.page h.0) (sym same) h.2 in
    let st : CpuState = c.state_of-state.result.now in
    let knows = c.state_of-state.ensures in
    let new : Seated = seated c.dirty-found.new.place.table_id c.dirty-found.new.place.me c.step_page.new.cpus.items in record {
      found = c.dirty-found.result;
      tells = sym c.is_dirty_at.ensures.in_book ∙ c.if-is_dirty_at.true;
      makes = subst (λ (k : Layout). Makes (setting k) (dirty c.args.writer c.args.page) c.dirty-found.result c.args.seat.now new) same
          (dirty_changes key s.place.table_id s.place.me s.cpus.items s.lefts.items s.timer c.args.seat.now c.seat.view_is at c.seat.invariant.seat c.args.writer c.args.page cpu is h.0 has can st knows c.dirty-found.new.place.me c.dirty-found.result c.dirty-found.ensures.turned (page_stepped st) refl c.step_page.new.cpus.items (c.step_page.ensures st knows) c.dirty-found.new.place.table_id c.dirty-found.ensures.seat.0);
    }

pub returns-clause-dirtied : goal.returns-clause-dirtied
returns-clause-dirtied c = let s = c.seat.inside in let h = c.requires.may in
    let key : Layout = c.self.inside.words.layout in
    let same : key ≡ c.args.self.now.layout = ap (λ (t : Shape). t.layout) c.self.view_is in
    let at = c.requires.seat.layout ∙ sym same in
    let cpu : ℕ = c.args.who.cpu in
    let there : cpu ≡ (setting c.args.self.now.layout).seat c.args.writer = ap (λ (z : Writer). z.cpu) c.requires.who in
    let is : cpu ≡ (setting key).seat c.args.writer = there ∙ ap (λ (k : Layout). (setting k).seat c.args.writer) (sym same) in
    let has = subst (λ (n : ℕ). Has c.args.seat.now.cpus n h.0) (sym there) h.1 in
    let can = subst (λ (k : Layout). CanDirty (setting k) c.args.writer c.args.page h.0) (sym same) h.2 in
    let st : CpuState = c.state_of-state.result.now in
    let knows = c.state_of-state.ensures in
    let new : Seated = seated c.dirty-found.new.place.table_id c.dirty-found.new.place.me c.owe.new.cpus.items in record {
      found = c.dirty-found.result;
      tells = sym c.is_dirty_at.ensures.in_book ∙ c.if-is_dirty_at.false;
      makes = subst (λ (k : Layout). Makes (setting k) (dirty c.args.writer c.args.page) c.dirty-found.result c.args.seat.now new) same
          (dirty_changes key s.place.table_id s.place.me s.cpus.items s.lefts.items s.timer c.args.seat.now c.seat.view_is at c.seat.invariant.seat c.args.writer c.args.page cpu is h.0 has can st knows c.dirty-found.new.place.me c.dirty-found.result c.dirty-found.ensures.turned (owing_event (setting c.args.self.now.layout) c.args.who.context (pos 1) (page_stepped st)) refl c.owe.new.cpus.items (c.owe.ensures st knows) c.dirty-found.new.place.table_id c.dirty-found.ensures.seat.0);
    }
