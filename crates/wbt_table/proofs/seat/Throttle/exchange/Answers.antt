use Rattle.std.proofs.Common.{◌≡◌, ℕ, refl, sym, ap, ◌∙◌, arith}
use Rattle.wbt_table.proofs.Common.{claim, last_found, CpuRecord, bits_at, setting, Shape}
use Rattle.wbt_table.specs.declared.layout.Layout.{Layout}
use Rattle.wbt_book.specs.Book.{is_claimable}
use Rattle.wbt_table.proofs.Calling.{state_here, record_here, cpu_here, ready_by, quiet_seat, quiet_makes}
use Rattle.wbt_table.proofs.Turning.{one_record}
use Rattle.wbt_table.proofs.Paging.{last_given}
use Rattle.wbt_table.proofs.Quiet.{claim_quiet}
use Rattle.wbt_table.proofs.Unheld.{unheld_found}
use Rattle.wbt_table.proofs.Triples.{kept_by, claim_triples}
use Rattle.wbt_table.proofs.seat.Throttle.exchange.Goals as goal

pub state_of-requires : goal.state_of-requires
state_of-requires c = let s = c.seat.inside in let h = c.requires.may in
    state_here c.args.self.now.layout s.place.table_id s.place.me s.cpus.items s.lefts.items s.timer c.args.seat.now c.seat.view_is c.requires.seat.layout c.seat.invariant.seat c.args.cpu h.0 h.1

pub claim-second-requires-clause-named : goal.claim-second-requires-clause-named
claim-second-requires-clause-named c = refl

pub claim-second-requires-clause-ready : goal.claim-second-requires-clause-ready
claim-second-requires-clause-ready c = let s = c.seat.inside in let h = c.requires.may in
    let key : Layout = c.self.inside.words.layout in
    let at = c.requires.seat.layout ∙ sym (ap (λ (t : Shape). t.layout) c.self.view_is) in
    ready_by key s.place.table_id s.place.me s.cpus.items s.lefts.items s.timer c.args.seat.now c.seat.view_is at c.seat.invariant.seat c.args.cpu h.0 h.1 c.state_of.result.now c.state_of.ensures (claim c.args.cpu c.args.page) refl record {
      cpu_is = cpu_here key s.place.table_id s.place.me s.cpus.items s.lefts.items s.timer c.args.seat.now c.seat.view_is at c.seat.invariant.seat c.args.cpu h.0 h.1 c.state_of.result.now c.state_of.ensures;
      page_is = let page = h.2.page_is in let same = ap (λ (t : Shape). (setting t.layout).pages) c.self.view_is in omega arith;
      looked = h.2.looked;
      found_claimable = ap (λ (n : ℕ). is_claimable (bits_at n c.args.page)) h.2.found_is ∙ h.2.claimable;
    }

pub claim-second-requires-clause-found : goal.claim-second-requires-clause-found
claim-second-requires-clause-found c = let s = c.seat.inside in let h = c.requires.may in
    let key : Layout = c.args.self.now.layout in
    let k = record_here key s.place.table_id s.place.me s.cpus.items s.lefts.items s.timer c.args.seat.now c.seat.view_is c.requires.seat.layout c.seat.invariant.seat c.args.cpu h.0 h.1 c.state_of.result.now c.state_of.ensures in (
      k.record',
      k.has,
      sym (last_given c.state_of.result.now.grants k.record' (last_found k.record'.last) refl) ∙ ap (λ (z : CpuRecord). last_found z.last) k.with_it ∙ h.2.found_is,
    )

pub step-requires : goal.step-requires
step-requires c = (c.state_of.result.now, c.state_of.ensures)

pub invariant_of-seat : goal.invariant_of-seat
invariant_of-seat c = let s = c.seat.inside in let h = c.requires.may in
    let key : Layout = c.self.inside.words.layout in
    let at = c.requires.seat.layout ∙ sym (ap (λ (t : Shape). t.layout) c.self.view_is) in
    kept_by key (claim c.args.cpu c.args.page) c.seat.invariant c.seat.view_is at c.args.cpu c.state_of.result.now c.state_of.ensures refl c.claim-second.ensures.turned (λ r. claim_triples c.args.page c.claim-second.result r)
    (quiet_seat key s.place.table_id s.place.me s.cpus.items s.lefts.items s.timer c.args.seat.now c.seat.view_is at c.seat.invariant.seat c.args.cpu h.0 h.1
    c.claim-second.new.place.me (claim c.args.cpu c.args.page) c.claim-second.result refl c.state_of.result.now c.step.new.cpus.items c.state_of.ensures
    c.claim-second.ensures.turned (c.step.ensures c.state_of.result.now c.state_of.ensures) (claim_quiet (setting key) c.args.page c.claim-second.result))

pub returns-clause-makes : goal.returns-clause-makes
returns-clause-makes c = let s = c.seat.inside in let h = c.requires.may in
    let key : Layout = c.self.inside.words.layout in
    let at = c.requires.seat.layout ∙ sym (ap (λ (t : Shape). t.layout) c.self.view_is) in
    quiet_makes key s.place.table_id s.place.me s.cpus.items s.lefts.items s.timer c.args.seat.now c.seat.view_is at c.seat.invariant.seat c.args.cpu h.0 h.1
    c.claim-second.new.place.me (claim c.args.cpu c.args.page) c.claim-second.result refl c.state_of.result.now c.step.new.cpus.items c.state_of.ensures
    c.claim-second.ensures.turned (c.step.ensures c.state_of.result.now c.state_of.ensures) (claim_quiet (setting key) c.args.page c.claim-second.result) c.args.self.now.layout (ap (λ (t : Shape). t.layout) c.self.view_is) c.claim-second.new.place.table_id c.claim-second.ensures.seat.0

pub returns-clause-unheld : goal.returns-clause-unheld
returns-clause-unheld c found r has = let s = c.seat.inside in let h = c.requires.may in
    let key : Layout = c.self.inside.words.layout in
    let at = c.requires.seat.layout ∙ sym (ap (λ (t : Shape). t.layout) c.self.view_is) in
    let k = record_here key s.place.table_id s.place.me s.cpus.items s.lefts.items s.timer c.args.seat.now c.seat.view_is at c.seat.invariant.seat c.args.cpu r has c.state_of.result.now c.state_of.ensures in
    let same : h.0 ≡ r = one_record c.args.seat.now.cpus c.args.cpu h.0 r h.1 has in
    unheld_found key c.args.cpu c.args.page c.claim-second.result c.state_of.result.now.grants k.record' r s.place.me.0 k.with_it
    (found ∙ sym h.2.found_is ∙ ap (λ (z : CpuRecord). last_found z.last) same) (c.claim-second.ensures.turned.found k.record' k.has)
