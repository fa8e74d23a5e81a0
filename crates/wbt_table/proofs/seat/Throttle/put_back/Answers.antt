use Rattle.std.proofs.Common.{◌≡◌, ℕ, ◌<◌, List, negsuc, length, get_or, refl, sym, ap, ◌∙◌, subst, arith}
use Rattle.wbt_table.proofs.Common.{back, last_found, CpuRecord, setting, inode_at, no_place, Shape, Makes, put_state, stepped, page_stepped, seated, owing_event}
use Rattle.wbt_table.specs.declared.layout.Layout.{Layout}
use Rattle.wbt_table.specs.declared.layout.Place.{Place}
use Rattle.wbt_table.specs.declared.state.CpuState.{CpuState}
use Rattle.wbt_table.specs.Calls.{CanGiveBack}
use Rattle.wbt_table.proofs.Opening.{lawful_setting}
use Rattle.wbt_table.proofs.Calling.{state_here, record_here}
use Rattle.wbt_table.proofs.Completing.{page_steps_here}
use Rattle.wbt_table.proofs.Paging.{last_given}
use Rattle.wbt_table.proofs.Returning.{ready_here, missed_seat, redirtied_seat, absorbed_seat, back_makes}
use Rattle.wbt_table.proofs.Triples.{kept_by, back_triples}
use Rattle.wbt_table.proofs.seat.Throttle.put_back.Goals as goal

pub state_of-requires : goal.state_of-requires
state_of-requires c = let s = c.seat.inside in let h = c.requires.may in
    state_here c.args.self.now.layout s.place.table_id s.place.me s.cpus.items s.lefts.items s.timer c.args.seat.now c.seat.view_is c.requires.seat.layout c.seat.invariant.seat c.args.cpu h.0 h.1

pub back-second-requires-clause-named : goal.back-second-requires-clause-named
back-second-requires-clause-named c = refl

pub back-second-requires-clause-ready : goal.back-second-requires-clause-ready
back-second-requires-clause-ready c = let s = c.seat.inside in let h = c.requires.may in
    let key : Layout = c.self.inside.words.layout in
    let same : key ≡ c.args.self.now.layout = ap (λ (t : Shape). t.layout) c.self.view_is in
    let at = c.requires.seat.layout ∙ sym same in
    let can = subst (λ (k : Layout). CanGiveBack (setting k) c.args.page c.args.found h.0) (sym same) h.2 in
    let st : CpuState = c.state_of.result.now in
    let knows = c.state_of.ensures in
    ready_here key s.place.table_id s.place.me s.cpus.items s.lefts.items s.timer c.args.seat.now c.seat.view_is at c.seat.invariant.seat c.args.page c.args.found c.args.cpu h.0 h.1 can st knows

pub back-second-requires-clause-found : goal.back-second-requires-clause-found
back-second-requires-clause-found c = let s = c.seat.inside in let h = c.requires.may in
    let key : Layout = c.self.inside.words.layout in
    let same : key ≡ c.args.self.now.layout = ap (λ (t : Shape). t.layout) c.self.view_is in
    let at = c.requires.seat.layout ∙ sym same in
    let can = subst (λ (k : Layout). CanGiveBack (setting k) c.args.page c.args.found h.0) (sym same) h.2 in
    let st : CpuState = c.state_of.result.now in
    let knows = c.state_of.ensures in
    let k = record_here key s.place.table_id s.place.me s.cpus.items s.lefts.items s.timer c.args.seat.now c.seat.view_is at c.seat.invariant.seat c.args.cpu h.0 h.1 st knows in (
      k.record',
      k.has,
      sym (last_given st.grants k.record' (last_found k.record'.last) refl) ∙ ap (λ (z : CpuRecord). last_found z.last) k.with_it ∙ can.found_is,
    )

pub step-requires : goal.step-requires
step-requires c = (c.state_of.result.now, c.state_of.ensures)

pub invariant_of-seat : goal.invariant_of-seat
invariant_of-seat c = let s = c.seat.inside in let h = c.requires.may in
    let key : Layout = c.self.inside.words.layout in
    let same : key ≡ c.args.self.now.layout = ap (λ (t : Shape). t.layout) c.self.view_is in
    let at = c.requires.seat.layout ∙ sym same in
    let can = subst (λ (k : Layout). CanGiveBack (setting k) c.args.page c.args.found h.0) (sym same) h.2 in
    let st : CpuState = c.state_of.result.now in
    let knows = c.state_of.ensures in
    kept_by key (back c.args.cpu c.args.page) c.seat.invariant c.seat.view_is at c.args.cpu st knows refl c.back-second.ensures.turned (λ r. back_triples (setting key) c.args.page c.back-second.result r)
    (missed_seat key s.place.table_id s.place.me s.cpus.items s.lefts.items s.timer c.args.seat.now c.seat.view_is at c.seat.invariant.seat c.args.page c.args.found c.args.cpu h.0 h.1 can st knows c.back-second.new.place.me c.back-second.result c.back-second.ensures.turned c.step.new.cpus.items (c.step.ensures st knows) c.if-second-found.true)

pub returns-then-second-found : goal.returns-then-second-found
returns-then-second-found c = let s = c.seat.inside in let h = c.requires.may in
    let key : Layout = c.self.inside.words.layout in
    let same : key ≡ c.args.self.now.layout = ap (λ (t : Shape). t.layout) c.self.view_is in
    let at = c.requires.seat.layout ∙ sym same in
    let can = subst (λ (k : Layout). CanGiveBack (setting k) c.args.page c.args.found h.0) (sym same) h.2 in
    let st : CpuState = c.state_of.result.now in
    let knows = c.state_of.ensures in
    subst (λ (k : Layout). Makes (setting k) (back c.args.cpu c.args.page) c.back-second.result c.args.seat.now (seated c.back-second.new.place.table_id c.back-second.new.place.me c.step.new.cpus.items)) same
    (back_makes key s.place.table_id s.place.me s.cpus.items s.lefts.items s.timer c.args.seat.now c.seat.view_is at c.seat.invariant.seat c.args.page c.args.found c.args.cpu h.0 h.1 can st knows c.back-second.new.place.me c.back-second.result c.back-second.ensures.turned c.step.new.cpus.items (stepped st) refl (c.step.ensures st knows) c.back-second.new.place.table_id c.back-second.ensures.seat.0)

pub owe-requires-clause-there : goal.owe-requires-clause-there
owe-requires-clause-there c = let h = c.requires.may in
    let key : Layout = c.self.inside.words.layout in
    let same : key ≡ c.args.self.now.layout = ap (λ (t : Shape). t.layout) c.self.view_is in
    let can = subst (λ (k : Layout). CanGiveBack (setting k) c.args.page c.args.found h.0) (sym same) h.2 in
    let home : c.home_of-context.result ≡ (setting key).home c.args.page = c.home_of-context.ensures
    ∙ ap (λ (l : List Place). (get_or l (inode_at c.args.page l) no_place).context) c.as_slice.ensures in
    subst (λ (k : Layout). c.home_of-context.result < length k.contexts) same
    (subst (λ (m : ℕ). m < length key.contexts) (sym home) ((lawful_setting key c.self.invariant).homes c.args.page can.can.page_is))

pub owe-requires-clause-known : goal.owe-requires-clause-known
owe-requires-clause-known c = let s = c.seat.inside in let h = c.requires.may in
    let key : Layout = c.self.inside.words.layout in
    let same : key ≡ c.args.self.now.layout = ap (λ (t : Shape). t.layout) c.self.view_is in
    let at = c.requires.seat.layout ∙ sym same in
    let can = subst (λ (k : Layout). CanGiveBack (setting k) c.args.page c.args.found h.0) (sym same) h.2 in
    let st : CpuState = c.state_of.result.now in
    let knows = c.state_of.ensures in
    let told = page_steps_here key s.place.table_id s.place.me s.cpus.items s.lefts.items s.timer c.args.seat.now c.seat.view_is at c.seat.invariant.seat c.args.page c.args.cpu h.0 h.1 can.can st knows in
    let left = can.step_left in let few = c.self.invariant.few_page_steps in (st, knows, omega arith)

pub invariant_of-seat-then-is_dirty_at : goal.invariant_of-seat-then-is_dirty_at
invariant_of-seat-then-is_dirty_at c = let s = c.seat.inside in let h = c.requires.may in
    let key : Layout = c.self.inside.words.layout in
    let same : key ≡ c.args.self.now.layout = ap (λ (t : Shape). t.layout) c.self.view_is in
    let at = c.requires.seat.layout ∙ sym same in
    let can = subst (λ (k : Layout). CanGiveBack (setting k) c.args.page c.args.found h.0) (sym same) h.2 in
    let st : CpuState = c.state_of.result.now in
    let knows = c.state_of.ensures in
    let home : c.home_of-context.result ≡ (setting key).home c.args.page = c.home_of-context.ensures
    ∙ ap (λ (l : List Place). (get_or l (inode_at c.args.page l) no_place).context) c.as_slice.ensures in
    let there : c.home_of-context.result < length key.contexts = subst (λ (m : ℕ). m < length key.contexts) (sym home) ((lawful_setting key c.self.invariant).homes c.args.page can.can.page_is) in
    let puts : c.owe.new.cpus.items ≡ put_state c.args.cpu (owing_event (setting key) c.home_of-context.result (negsuc 0) (page_stepped st)) s.cpus.items
    = c.owe.ensures st knows ∙ (λ i. put_state c.args.cpu (owing_event (setting (sym same i)) c.home_of-context.result (negsuc 0) (page_stepped st)) s.cpus.items) in
    kept_by key (back c.args.cpu c.args.page) c.seat.invariant c.seat.view_is at c.args.cpu st knows refl c.back-second.ensures.turned (λ r. back_triples (setting key) c.args.page c.back-second.result r)
    (absorbed_seat key s.place.table_id s.place.me s.cpus.items s.lefts.items s.timer c.args.seat.now c.seat.view_is at c.seat.invariant.seat c.args.page c.args.found c.args.cpu h.0 h.1 can st knows c.back-second.new.place.me c.back-second.result c.back-second.ensures.turned c.owe.new.cpus.items c.self.invariant c.home_of-context.result puts home there
    c.if-second-found.false (sym c.is_dirty_at.ensures.in_book ∙ c.if-is_dirty_at.true))

pub returns-then-is_dirty_at : goal.returns-then-is_dirty_at
returns-then-is_dirty_at c = let s = c.seat.inside in let h = c.requires.may in
    let key : Layout = c.self.inside.words.layout in
    let same : key ≡ c.args.self.now.layout = ap (λ (t : Shape). t.layout) c.self.view_is in
    let at = c.requires.seat.layout ∙ sym same in
    let can = subst (λ (k : Layout). CanGiveBack (setting k) c.args.page c.args.found h.0) (sym same) h.2 in
    let st : CpuState = c.state_of.result.now in
    let knows = c.state_of.ensures in
    let home : c.home_of-context.result ≡ (setting key).home c.args.page = c.home_of-context.ensures
    ∙ ap (λ (l : List Place). (get_or l (inode_at c.args.page l) no_place).context) c.as_slice.ensures in
    let there : c.home_of-context.result < length key.contexts = subst (λ (m : ℕ). m < length key.contexts) (sym home) ((lawful_setting key c.self.invariant).homes c.args.page can.can.page_is) in
    let puts : c.owe.new.cpus.items ≡ put_state c.args.cpu (owing_event (setting key) c.home_of-context.result (negsuc 0) (page_stepped st)) s.cpus.items
    = c.owe.ensures st knows ∙ (λ i. put_state c.args.cpu (owing_event (setting (sym same i)) c.home_of-context.result (negsuc 0) (page_stepped st)) s.cpus.items) in
    subst (λ (k : Layout). Makes (setting k) (back c.args.cpu c.args.page) c.back-second.result c.args.seat.now (seated c.back-second.new.place.table_id c.back-second.new.place.me c.owe.new.cpus.items)) same
    (back_makes key s.place.table_id s.place.me s.cpus.items s.lefts.items s.timer c.args.seat.now c.seat.view_is at c.seat.invariant.seat c.args.page c.args.found c.args.cpu h.0 h.1 can st knows c.back-second.new.place.me c.back-second.result c.back-second.ensures.turned c.owe.new.cpus.items (owing_event (setting key) c.home_of-context.result (negsuc 0) (page_stepped st)) refl (puts) c.back-second.new.place.table_id c.back-second.ensures.seat.0)

pub step_page-requires : goal.step_page-requires
step_page-requires c = let s = c.seat.inside in let h = c.requires.may in
    let key : Layout = c.self.inside.words.layout in
    let same : key ≡ c.args.self.now.layout = ap (λ (t : Shape). t.layout) c.self.view_is in
    let at = c.requires.seat.layout ∙ sym same in
    let can = subst (λ (k : Layout). CanGiveBack (setting k) c.args.page c.args.found h.0) (sym same) h.2 in
    let st : CpuState = c.state_of.result.now in
    let knows = c.state_of.ensures in
    let told = page_steps_here key s.place.table_id s.place.me s.cpus.items s.lefts.items s.timer c.args.seat.now c.seat.view_is at c.seat.invariant.seat c.args.page c.args.cpu h.0 h.1 can.can st knows in
    let left = can.step_left in let few = c.self.invariant.few_page_steps in (st, knows, omega arith)

pub invariant_of-seat-2 : goal.invariant_of-seat-2
invariant_of-seat-2 c = let s = c.seat.inside in let h = c.requires.may in
    let key : Layout = c.self.inside.words.layout in
    let same : key ≡ c.args.self.now.layout = ap (λ (t : Shape). t.layout) c.self.view_is in
    let at = c.requires.seat.layout ∙ sym same in
    let can = subst (λ (k : Layout). CanGiveBack (setting k) c.args.page c.args.found h.0) (sym same) h.2 in
    let st : CpuState = c.state_of.result.now in
    let knows = c.state_of.ensures in
    kept_by key (back c.args.cpu c.args.page) c.seat.invariant c.seat.view_is at c.args.cpu st knows refl c.back-second.ensures.turned (λ r. back_triples (setting key) c.args.page c.back-second.result r)
    (redirtied_seat key s.place.table_id s.place.me s.cpus.items s.lefts.items s.timer c.args.seat.now c.seat.view_is at c.seat.invariant.seat c.args.page c.args.found c.args.cpu h.0 h.1 can st knows c.back-second.new.place.me c.back-second.result c.back-second.ensures.turned c.step_page.new.cpus.items (c.step_page.ensures st knows)
    c.if-second-found.false (sym c.is_dirty_at.ensures.in_book ∙ c.if-is_dirty_at.false))

pub returns : goal.returns
returns c = let s = c.seat.inside in let h = c.requires.may in
    let key : Layout = c.self.inside.words.layout in
    let same : key ≡ c.args.self.now.layout = ap (λ (t : Shape). t.layout) c.self.view_is in
    let at = c.requires.seat.layout ∙ sym same in
    let can = subst (λ (k : Layout). CanGiveBack (setting k) c.args.page c.args.found h.0) (sym same) h.2 in
    let st : CpuState = c.state_of.result.now in
    let knows = c.state_of.ensures in
    subst (λ (k : Layout). Makes (setting k) (back c.args.cpu c.args.page) c.back-second.result c.args.seat.now (seated c.back-second.new.place.table_id c.back-second.new.place.me c.step_page.new.cpus.items)) same
    (back_makes key s.place.table_id s.place.me s.cpus.items s.lefts.items s.timer c.args.seat.now c.seat.view_is at c.seat.invariant.seat c.args.page c.args.found c.args.cpu h.0 h.1 can st knows c.back-second.new.place.me c.back-second.result c.back-second.ensures.turned c.step_page.new.cpus.items (page_stepped st) refl (c.step_page.ensures st knows) c.back-second.new.place.table_id c.back-second.ensures.seat.0)
