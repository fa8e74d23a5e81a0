-- A page was given back, or it wasn't: what then is.
use Rattle.std.proofs.Common.{◌≡◌, ℕ, ◌+◌, ◌<◌, ◌≤◌, true, false, [], get_or, refl, sym, ◌∙◌, subst, arith}
use Rattle.wbt_flusher.proofs.Common.{times_in, CpuRecord, same_default, CpuJournal, Seats, record_of, record_is, Goes, no_moments, sight}
use Rattle.wbt_table.specs.declared.answer.Back.{Back}
use Rattle.wbt_run_steps.specs.Backs.{AnswersBack}
use Rattle.wbt_flusher.specs.Answers.{IsBack}
use Rattle.wbt_flusher.specs.declared.work.FlusherWork.{FlusherWork}
use Rattle.wbt_flusher.specs.declared.work.Return.{Return}
use Rattle.wbt_flusher.proofs.Giving.{debts_kept, goes_given, goes_halted, goes_kept_back, is_back, page_held, page_there, return_of}
use Rattle.wbt_flusher.proofs.Going.{goes_nowhere, owes_still, ready_went}
use Rattle.wbt_flusher.proofs.plan.FlusherPlan.give_next.Goals as goal
use Rattle.wbt_run_steps.specs.Kinds.{StepsToGiveBack}
use Rattle.std.specs.Prelude.{None}

pub give_back-requires-clause-may : goal.give_back-requires-clause-may
give_back-requires-clause-may g c =
    let plan = c.args.self.now in
    let kit = c.args.hands.now.kit.now in
    let seats = c.args.seats.now in
    let work = c.args.work.now in
    let ready = c.requires.ready in
    let stands = return_of plan work c.args.giving ready.steady c.requires.phase in
    let h = ready.fits.held in
    let page : c.index-page.result.now ≡ get_or work.batch.items c.args.giving.returned 0 = c.index-page.ensures ∙ same_default work.batch.items c.args.giving.returned c.index-page.result.now 0 stands.some_left in
    let there : get_or work.batch.items c.args.giving.returned 0 < plan.pages = page_there plan kit seats seats c.args.giving c.requires.suits work c.requires.phase stands in
    let same = c.requires.suits.pages_are in
    let at = record_is seats.cpu.cpus plan.cpu h.0 h.1 in
    let held : 1 ≤ times_in (get_or work.batch.items c.args.giving.returned 0) (record_of plan.cpu seats.cpu.cpus).held = page_held plan kit seats seats c.args.giving c.requires.suits work c.requires.phase stands ready.holds in
    let holds : 1 ≤ times_in c.index-page.result.now h.0.held = subst (λ (r : CpuRecord). 1 ≤ times_in c.index-page.result.now r.held) at (subst (λ (p : ℕ). 1 ≤ times_in p (record_of plan.cpu seats.cpu.cpus).held) (sym page) held) in
    (h.0, h.1, record { page_is = omega arith; holds_it = omega arith; owes_none = subst (λ (r : CpuRecord). r.debts ≡ []) at ready.owes_none })

pub returns-in_err-back-clause-goes : goal.returns-in_err-back-clause-goes
returns-in_err-back-clause-goes g c =
    let s = c.in_err-back.ensures.spent in
    subst (λ (z : Seats × CpuJournal). Goes c.args.self.now c.args.hands.now.kit.now c.args.seats.now z.0 c.args.pen.now.log z.1 c.args.work.now c.args.work.now) (λ i. (sym s.0 i, sym s.1 i))
    (λ told written. goes_nowhere c.args.self.now c.args.hands.now.kit.now c.args.seats.now c.requires.ready.fits told c.args.work.now c.args.pen.now.log written)

pub returns-in-Redirtied-clause-goes : goal.returns-in-Redirtied-clause-goes
returns-in-Redirtied-clause-goes g c =
    let plan = c.args.self.now in
    let kit = c.args.hands.now.kit.now in
    let work = c.args.work.now in
    let ready = c.requires.ready in
    let stands = return_of plan work c.args.giving ready.steady c.requires.phase in
    let page : c.index-page.result.now ≡ get_or work.batch.items c.args.giving.returned 0 = c.index-page.ensures ∙ same_default work.batch.items c.args.giving.returned c.index-page.result.now 0 stands.some_left in
    let gives = subst (λ (z : ℕ × Back). AnswersBack kit plan.cpu plan.flusher z.0 (g.G.Gate.said c.args.hands.now.gate.now) z.1 c.args.seats.now c.give_back.new.seats c.args.pen.now.log c.give_back.new.pen.log) (λ i. (page i, c.in-Redirtied.is i)) c.in_ok-back.ensures.answers in
    subst (λ (w : FlusherWork). Goes plan kit c.args.seats.now c.give_back.new.seats c.args.pen.now.log c.give_back.new.pen.log work w) (sym c.pass_back.ensures)
    (goes_given plan kit c.args.seats.now c.give_back.new.seats c.args.giving c.requires.suits work c.requires.phase stands c.args.pen.now.log c.give_back.new.pen.log false gives ready c.in_ok-back.ensures.had_a_step)

pub returns-in-Redirtied-clause-stands : goal.returns-in-Redirtied-clause-stands
returns-in-Redirtied-clause-stands g c =
    let plan = c.args.self.now in
    let kit = c.args.hands.now.kit.now in
    let work = c.args.work.now in
    let ready = c.requires.ready in
    let stands = return_of plan work c.args.giving ready.steady c.requires.phase in
    let page : c.index-page.result.now ≡ get_or work.batch.items c.args.giving.returned 0 = c.index-page.ensures ∙ same_default work.batch.items c.args.giving.returned c.index-page.result.now 0 stands.some_left in
    let gives = subst (λ (z : ℕ × Back). AnswersBack kit plan.cpu plan.flusher z.0 (g.G.Gate.said c.args.hands.now.gate.now) z.1 c.args.seats.now c.give_back.new.seats c.args.pen.now.log c.give_back.new.pen.log) (λ i. (page i, c.in-Redirtied.is i)) c.in_ok-back.ensures.answers in
    let next : Return = record { inode = c.args.giving.inode; returned = c.args.giving.returned + 1 } in
    subst (λ (w : FlusherWork). IsBack plan kit next w c.give_back.new.seats) (sym c.pass_back.ensures)
    (is_back plan kit c.args.seats.now c.give_back.new.seats c.args.giving c.requires.suits work c.requires.phase stands c.args.pen.now.log c.give_back.new.pen.log false gives ready c.in_ok-back.ensures.had_a_step)

pub returns-in-Redirtied-clause-gives : goal.returns-in-Redirtied-clause-gives
returns-in-Redirtied-clause-gives g c written =
    let plan = c.args.self.now in
    let kit = c.args.hands.now.kit.now in
    let work = c.args.work.now in
    let stands = return_of plan work c.args.giving c.requires.ready.steady c.requires.phase in
    record {
      page = c.index-page.result.now;
      within = stands.some_left;
      its_page = c.index-page.ensures ∙ same_default work.batch.items c.args.giving.returned c.index-page.result.now 0 stands.some_left;
      absorbed = false;
      gives = subst (λ (b : Back). AnswersBack kit plan.cpu plan.flusher c.index-page.result.now (g.G.Gate.said c.args.hands.now.gate.now) b c.args.seats.now c.give_back.new.seats c.args.pen.now.log c.give_back.new.pen.log) c.in-Redirtied.is c.in_ok-back.ensures.answers;
      work = c.pass_back.ensures;
    }

pub returns-in-Absorbed-clause-goes : goal.returns-in-Absorbed-clause-goes
returns-in-Absorbed-clause-goes g c =
    let plan = c.args.self.now in
    let kit = c.args.hands.now.kit.now in
    let work = c.args.work.now in
    let ready = c.requires.ready in
    let stands = return_of plan work c.args.giving ready.steady c.requires.phase in
    let page : c.index-page.result.now ≡ get_or work.batch.items c.args.giving.returned 0 = c.index-page.ensures ∙ same_default work.batch.items c.args.giving.returned c.index-page.result.now 0 stands.some_left in
    let gives = subst (λ (z : ℕ × Back). AnswersBack kit plan.cpu plan.flusher z.0 (g.G.Gate.said c.args.hands.now.gate.now) z.1 c.args.seats.now c.give_back.new.seats c.args.pen.now.log c.give_back.new.pen.log) (λ i. (page i, c.in-Absorbed.is i)) c.in_ok-back.ensures.answers in
    subst (λ (w : FlusherWork). Goes plan kit c.args.seats.now c.give_back.new.seats c.args.pen.now.log c.give_back.new.pen.log work w) (sym c.pass_back-in-Absorbed.ensures)
    (goes_given plan kit c.args.seats.now c.give_back.new.seats c.args.giving c.requires.suits work c.requires.phase stands c.args.pen.now.log c.give_back.new.pen.log true gives ready c.in_ok-back.ensures.had_a_step)

pub returns-in-Absorbed-clause-stands : goal.returns-in-Absorbed-clause-stands
returns-in-Absorbed-clause-stands g c =
    let plan = c.args.self.now in
    let kit = c.args.hands.now.kit.now in
    let work = c.args.work.now in
    let ready = c.requires.ready in
    let stands = return_of plan work c.args.giving ready.steady c.requires.phase in
    let page : c.index-page.result.now ≡ get_or work.batch.items c.args.giving.returned 0 = c.index-page.ensures ∙ same_default work.batch.items c.args.giving.returned c.index-page.result.now 0 stands.some_left in
    let gives = subst (λ (z : ℕ × Back). AnswersBack kit plan.cpu plan.flusher z.0 (g.G.Gate.said c.args.hands.now.gate.now) z.1 c.args.seats.now c.give_back.new.seats c.args.pen.now.log c.give_back.new.pen.log) (λ i. (page i, c.in-Absorbed.is i)) c.in_ok-back.ensures.answers in
    let next : Return = record { inode = c.args.giving.inode; returned = c.args.giving.returned + 1 } in
    subst (λ (w : FlusherWork). IsBack plan kit next w c.give_back.new.seats) (sym c.pass_back-in-Absorbed.ensures)
    (is_back plan kit c.args.seats.now c.give_back.new.seats c.args.giving c.requires.suits work c.requires.phase stands c.args.pen.now.log c.give_back.new.pen.log true gives ready c.in_ok-back.ensures.had_a_step)

pub returns-in-Absorbed-clause-gives : goal.returns-in-Absorbed-clause-gives
returns-in-Absorbed-clause-gives g c written =
    let plan = c.args.self.now in
    let kit = c.args.hands.now.kit.now in
    let work = c.args.work.now in
    let stands = return_of plan work c.args.giving c.requires.ready.steady c.requires.phase in
    record {
      page = c.index-page.result.now;
      within = stands.some_left;
      its_page = c.index-page.ensures ∙ same_default work.batch.items c.args.giving.returned c.index-page.result.now 0 stands.some_left;
      absorbed = true;
      gives = subst (λ (b : Back). AnswersBack kit plan.cpu plan.flusher c.index-page.result.now (g.G.Gate.said c.args.hands.now.gate.now) b c.args.seats.now c.give_back.new.seats c.args.pen.now.log c.give_back.new.pen.log) c.in-Absorbed.is c.in_ok-back.ensures.answers;
      work = c.pass_back-in-Absorbed.ensures;
    }

pub returns-in-Missed-clause-goes : goal.returns-in-Missed-clause-goes
returns-in-Missed-clause-goes g c =
    let plan = c.args.self.now in
    let kit = c.args.hands.now.kit.now in
    let work = c.args.work.now in
    let ready = c.requires.ready in
    let stands = return_of plan work c.args.giving ready.steady c.requires.phase in
    let page : c.index-page.result.now ≡ get_or work.batch.items c.args.giving.returned 0 = c.index-page.ensures ∙ same_default work.batch.items c.args.giving.returned c.index-page.result.now 0 stands.some_left in
    let misses = subst (λ (z : ℕ × Back). AnswersBack kit plan.cpu plan.flusher z.0 (g.G.Gate.said c.args.hands.now.gate.now) z.1 c.args.seats.now c.give_back.new.seats c.args.pen.now.log c.give_back.new.pen.log) (λ i. (page i, c.in-Missed.is i)) c.in_ok-back.ensures.answers in
    subst (λ (l : CpuJournal). Goes plan kit c.args.seats.now c.give_back.new.seats c.args.pen.now.log l work work) (sym misses.told)
    (goes_kept_back plan kit c.args.seats.now c.give_back.new.seats c.args.giving c.requires.suits work c.requires.phase stands c.args.pen.now.log _ _ misses.makes misses.kept ready.fits)

pub returns-in-Missed-clause-stands : goal.returns-in-Missed-clause-stands
returns-in-Missed-clause-stands g c =
    let plan = c.args.self.now in
    let kit = c.args.hands.now.kit.now in
    let work = c.args.work.now in
    let old = c.args.seats.now in
    let new = c.give_back.new.seats in
    let ready = c.requires.ready in
    let stands = return_of plan work c.args.giving ready.steady c.requires.phase in
    let page : c.index-page.result.now ≡ get_or work.batch.items c.args.giving.returned 0 = c.index-page.ensures ∙ same_default work.batch.items c.args.giving.returned c.index-page.result.now 0 stands.some_left in
    let misses = subst (λ (z : ℕ × Back). AnswersBack kit plan.cpu plan.flusher z.0 (g.G.Gate.said c.args.hands.now.gate.now) z.1 old new c.args.pen.now.log c.give_back.new.pen.log) (λ i. (page i, c.in-Missed.is i)) c.in_ok-back.ensures.answers in
    let goes = goes_kept_back plan kit old new c.args.giving c.requires.suits work c.requires.phase stands c.args.pen.now.log _ _ misses.makes misses.kept ready.fits in
    let debts = debts_kept plan kit old new c.args.giving c.requires.suits work c.requires.phase stands c.args.pen.now.log _ _ misses.makes misses.kept ready.fits in
    ready_went plan kit no_moments (sight work old c.args.pen.now.log None) (sight work new c.args.pen.now.log None) (goes no_moments None) ready ready.steady (owes_still plan old new debts ready.owes_none)

pub returns-in-Missed-clause-gives : goal.returns-in-Missed-clause-gives
returns-in-Missed-clause-gives g c written =
    let plan = c.args.self.now in
    let kit = c.args.hands.now.kit.now in
    let work = c.args.work.now in
    let stands = return_of plan work c.args.giving c.requires.ready.steady c.requires.phase in
    record {
      page = c.index-page.result.now;
      within = stands.some_left;
      its_page = c.index-page.ensures ∙ same_default work.batch.items c.args.giving.returned c.index-page.result.now 0 stands.some_left;
      first = c.in-Missed.first;
      second = c.in-Missed.second;
      misses = subst (λ (b : Back). AnswersBack kit plan.cpu plan.flusher c.index-page.result.now (g.G.Gate.said c.args.hands.now.gate.now) b c.args.seats.now c.give_back.new.seats c.args.pen.now.log c.give_back.new.pen.log) c.in-Missed.is c.in_ok-back.ensures.answers;
      work = refl;
    }

pub returns-in-Stopped-clause-goes : goal.returns-in-Stopped-clause-goes
returns-in-Stopped-clause-goes g c =
    let plan = c.args.self.now in
    let kit = c.args.hands.now.kit.now in
    let work = c.args.work.now in
    let ready = c.requires.ready in
    let stands = return_of plan work c.args.giving ready.steady c.requires.phase in
    let page : c.index-page.result.now ≡ get_or work.batch.items c.args.giving.returned 0 = c.index-page.ensures ∙ same_default work.batch.items c.args.giving.returned c.index-page.result.now 0 stands.some_left in
    let stops = subst (λ (z : ℕ × Back). AnswersBack kit plan.cpu plan.flusher z.0 (g.G.Gate.said c.args.hands.now.gate.now) z.1 c.args.seats.now c.give_back.new.seats c.args.pen.now.log c.give_back.new.pen.log) (λ i. (page i, c.in-Stopped.is i)) c.in_ok-back.ensures.answers in
    subst (λ (l : CpuJournal). Goes plan kit c.args.seats.now c.give_back.new.seats c.args.pen.now.log l work work) (sym stops.told)
    (goes_halted plan kit c.args.seats.now c.give_back.new.seats c.args.giving c.requires.suits work c.requires.phase stands c.args.pen.now.log stops.made stops.makes ready.fits stops.halts)

pub returns-in-Stopped-clause-gives : goal.returns-in-Stopped-clause-gives
returns-in-Stopped-clause-gives g c written =
    let plan = c.args.self.now in
    let kit = c.args.hands.now.kit.now in
    let work = c.args.work.now in
    let stands = return_of plan work c.args.giving c.requires.ready.steady c.requires.phase in
    record {
      page = c.index-page.result.now;
      within = stands.some_left;
      its_page = c.index-page.ensures ∙ same_default work.batch.items c.args.giving.returned c.index-page.result.now 0 stands.some_left;
      stops = subst (λ (b : Back). AnswersBack kit plan.cpu plan.flusher c.index-page.result.now (g.G.Gate.said c.args.hands.now.gate.now) b c.args.seats.now c.give_back.new.seats c.args.pen.now.log c.give_back.new.pen.log) c.in-Stopped.is c.in_ok-back.ensures.answers;
      work = refl;
    }

-- ---- kinds of steps

pub returns-in-Redirtied-clause-kinds : goal.returns-in-Redirtied-clause-kinds
returns-in-Redirtied-clause-kinds g c = subst (λ (b : Back). StepsToGiveBack c.args.self.now.cpu b c.args.seats.now c.give_back.new.seats) c.in-Redirtied.is c.in_ok-back.ensures.kinds

pub returns-in-Absorbed-clause-kinds : goal.returns-in-Absorbed-clause-kinds
returns-in-Absorbed-clause-kinds g c = subst (λ (b : Back). StepsToGiveBack c.args.self.now.cpu b c.args.seats.now c.give_back.new.seats) c.in-Absorbed.is c.in_ok-back.ensures.kinds

pub returns-in-Missed-clause-kinds : goal.returns-in-Missed-clause-kinds
returns-in-Missed-clause-kinds g c = subst (λ (b : Back). StepsToGiveBack c.args.self.now.cpu b c.args.seats.now c.give_back.new.seats) c.in-Missed.is c.in_ok-back.ensures.kinds

pub returns-in-Stopped-clause-kinds : goal.returns-in-Stopped-clause-kinds
returns-in-Stopped-clause-kinds g c = subst (λ (b : Back). StepsToGiveBack c.args.self.now.cpu b c.args.seats.now c.give_back.new.seats) c.in-Stopped.is c.in_ok-back.ensures.kinds
