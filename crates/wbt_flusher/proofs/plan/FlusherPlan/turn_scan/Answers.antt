use Rattle.wbt_flusher.proofs.Common.{asked_more, no_moments, page_of, MOST_FAULTS, sight, IsPhase, IsSteady, Stepped}
use Rattle.std.proofs.Common.{◌≡◌, ℕ, ◌<◌, List, length, true≢false, inl, inr, arith, ⊎_elim, refl, sym, ap, ◌∙◌, subst}
use Rattle.std.proofs.lemmas.Bool.{cases_lt}
use Rattle.wbt_flusher.specs.declared.work.Phase.{Phase}
use Rattle.wbt_flusher.specs.declared.work.FlusherWork.{FlusherWork}
use Rattle.wbt_flusher.proofs.Ending.{scan_stands, told_none, opens_by, ends_by_after, steps_by}
use Rattle.wbt_flusher.proofs.Going.{owes_still}
use Rattle.wbt_flusher.proofs.Quotas.{one_more, scan_below}
use Rattle.wbt_flusher.specs.Took.{closes, goes_on}
use Rattle.wbt_flusher.specs.Cut.{at_a_page, at_its_mark}
use Rattle.wbt_flusher.specs.Kinds.{StepsToLook}
use Rattle.wbt_flusher.specs.declared.scan.Looked.{Looked}
use Rattle.wbt_flusher.proofs.Turning.{look_cut, turn_looks, turn_scans}
use Rattle.wbt_flusher.proofs.plan.FlusherPlan.turn_scan.Goals as goal

pub returns-in-Missed-clause-ends : goal.returns-in-Missed-clause-ends
returns-in-Missed-clause-ends g c =
    let e = c.claim_next.ensures in
    let written = g.D.Disk.written c.args.disk.now in
    let ready = c.requires.ready in
    record {
      moments = no_moments;
      all_told = told_none (g.C.Clock.told c.args.hands.now.clock.now);
      estimates_none = refl;
      does = steps_by c.args.self.now c.args.hands.now.kit.now no_moments (sight c.args.work.now c.args.seats.now c.args.pen.now.log written) (sight c.claim_next.new.work c.claim_next.new.seats c.claim_next.new.pen.log written)
          (e.goes no_moments written) ready (subst (λ (w : FlusherWork). IsSteady c.args.self.now w) (sym c.in-Missed.ensures.looks) ready.steady)
          (owes_still c.args.self.now c.args.seats.now c.claim_next.new.seats e.debts ready.owes_none);
    }

pub returns-else-not-is_over-clause-asked : goal.returns-else-not-is_over-clause-asked
returns-else-not-is_over-clause-asked g c = asked_more c.args.self.now.cpu (g.G.Gate.said c.args.hands.now.gate.now) c.args.seats.now c.claim_next.new.seats c.close.new.seats c.claim_next.ensures.asked c.close.ensures.asked

pub returns-in-Stopped-clause-ends : goal.returns-in-Stopped-clause-ends
returns-in-Stopped-clause-ends g c = record {
  moments = no_moments;
  all_told = told_none (g.C.Clock.told c.args.hands.now.clock.now);
  estimates_none = refl;
  does = record { went = c.claim_next.ensures.goes no_moments (g.D.Disk.written c.args.disk.now); stands = scan_stands c.claim_next.new.work.phase c.args.scan (ap (λ (w : FlusherWork). w.phase) c.in-Stopped.ensures.looks.0 ∙ c.requires.phase); stopped = c.in-Stopped.ensures.looks.1 };
}

pub returns-then-not-is_over-clause-ends : goal.returns-then-not-is_over-clause-ends
returns-then-not-is_over-clause-ends g c =
    let e = c.claim_next.ensures in
    let plan = c.args.self.now in
    let written = g.D.Disk.written c.args.disk.now in
    let ready = c.requires.ready in
    let scan = c.in-Passed.scan in
    let passes = c.in-Passed.ensures.looks in
    let within : scan.passed < scan.pages = ⊎_elim (λ less. less) (λ past. absurd (true≢false (sym (c.is_over.ensures.1 (inl past)) ∙ c.if-not-is_over.true))) (cases_lt scan.passed scan.pages) in
    let claims = length c.claim_next.new.work.batch.items in
    let below : claims < scan.quota = ⊎_elim (λ less. less) (λ full. absurd (true≢false (sym (c.is_over.ensures.1 (inr full)) ∙ c.if-not-is_over.true))) (cases_lt claims scan.quota) in
    record {
      moments = no_moments;
      all_told = told_none (g.C.Clock.told c.args.hands.now.clock.now);
      estimates_none = refl;
      does = steps_by plan c.args.hands.now.kit.now no_moments (sight c.args.work.now c.args.seats.now c.args.pen.now.log written) (sight c.claim_next.new.work c.claim_next.new.seats c.claim_next.new.pen.log written)
          (e.goes no_moments written) ready
          (record { lists = e.lists; phase = subst (λ (p : Phase). IsPhase plan c.claim_next.new.work.batch.items p) (sym passes.phase) (passes.stands, within, below); few_faults = subst (λ (n : ℕ). n < MOST_FAULTS) (sym passes.faults) ready.steady.few_faults })
          (owes_still plan c.args.seats.now c.claim_next.new.seats e.debts ready.owes_none);
    }

pub claim_next-requires-clause-below : goal.claim_next-requires-clause-below
claim_next-requires-clause-below g c = scan_below c.args.self.now c.args.work.now c.args.scan c.requires.ready.steady c.requires.phase

pub close-requires-clause-open : goal.close-requires-clause-open
close-requires-clause-open g c =
    let e = c.claim_next.ensures in
    opens_by c.args.self.now c.args.hands.now.kit.now c.args.scan c.in-Passed.scan c.args.seats.now c.claim_next.new.seats c.args.work.now c.claim_next.new.work c.args.pen.now.log c.claim_next.new.pen.log
    c.requires.ready e.goes e.lists c.in-Passed.ensures.looks e.debts

pub returns-else-not-is_over-clause-ends : goal.returns-else-not-is_over-clause-ends
returns-else-not-is_over-clause-ends g c =
    let e = c.claim_next.ensures in
    let written = g.D.Disk.written c.args.disk.now in
    ends_by_after c.args.self.now c.args.hands.now.kit.now (g.C.Clock.told c.args.hands.now.clock.now) (g.G.Gate.said c.args.hands.now.gate.now) _ c.close.result
    (sight c.args.work.now c.args.seats.now c.args.pen.now.log written) (sight c.claim_next.new.work c.claim_next.new.seats c.claim_next.new.pen.log written) (sight c.close.new.work c.close.new.seats c.close.new.pen.log (g.D.Disk.written c.close.new.disk))
    (λ moments. e.goes moments written) c.close.ensures.ends

pub returns-then-not-is_over-clause-scans : goal.returns-then-not-is_over-clause-scans
returns-then-not-is_over-clause-scans g c is =
    goes_on c.in-Passed.scan (c.in-Passed.ensures.page (g.D.Disk.written c.args.disk.now)) (λ over. true≢false (sym (c.is_over.ensures.1 over) ∙ c.if-not-is_over.true))

pub returns-else-not-is_over-clause-scans : goal.returns-else-not-is_over-clause-scans
returns-else-not-is_over-clause-scans g c is =
    let written = g.D.Disk.written c.args.disk.now in
    closes c.in-Passed.scan (sight c.claim_next.new.work c.claim_next.new.seats c.claim_next.new.pen.log written) (c.in-Passed.ensures.page written) (c.is_over.ensures.0 c.if-not-is_over.false) (c.close.ensures.closes is)

pub returns-in-Stopped-clause-halts : goal.returns-in-Stopped-clause-halts
returns-in-Stopped-clause-halts g c is = at_a_page (c.in-Stopped.ensures.page (g.D.Disk.written c.args.disk.now))

pub returns-else-not-is_over-clause-halts : goal.returns-else-not-is_over-clause-halts
returns-else-not-is_over-clause-halts g c is =
    let written = g.D.Disk.written c.args.disk.now in
    let h = c.close.ensures.halts is in
    at_its_mark c.in-Passed.scan (sight c.claim_next.new.work c.claim_next.new.seats c.claim_next.new.pen.log written) (c.in-Passed.ensures.page written) (c.is_over.ensures.0 c.if-not-is_over.false) h.0 h.1

pub returns-else-not-is_over-clause-fails : goal.returns-else-not-is_over-clause-fails
returns-else-not-is_over-clause-fails g c is =
    let written = g.D.Disk.written c.args.disk.now in
    record {
      next = c.in-Passed.scan;
      looked = sight c.claim_next.new.work c.claim_next.new.seats c.claim_next.new.pen.log written;
      page = c.in-Passed.ensures.page written;
      over = c.is_over.ensures.0 c.if-not-is_over.false;
      closes = c.close.ensures.fails is;
    }

-- ---- the quota

pub returns-in-Missed-clause-within : goal.returns-in-Missed-clause-within
returns-in-Missed-clause-within g c =
    let below = scan_below c.args.self.now c.args.work.now c.args.scan c.requires.ready.steady c.requires.phase in
    let same : length c.claim_next.new.work.batch.items ≡ length c.args.work.now.batch.items = ap (λ (w : FlusherWork). length w.batch.items) c.in-Missed.ensures.looks in omega arith

pub returns-in-Stopped-clause-within : goal.returns-in-Stopped-clause-within
returns-in-Stopped-clause-within g c =
    let below = scan_below c.args.self.now c.args.work.now c.args.scan c.requires.ready.steady c.requires.phase in
    let same : length c.claim_next.new.work.batch.items ≡ length c.args.work.now.batch.items = ap (λ (w : FlusherWork). length w.batch.items) c.in-Stopped.ensures.looks.0 in omega arith

pub returns-then-not-is_over-clause-within : goal.returns-then-not-is_over-clause-within
returns-then-not-is_over-clause-within g c =
    let below = scan_below c.args.self.now c.args.work.now c.args.scan c.requires.ready.steady c.requires.phase in
    let more = one_more c.args.work.now.batch.items c.claim_next.new.work.batch.items (page_of c.args.scan) c.in-Passed.ensures.looks.batch in omega arith

pub returns-else-not-is_over-clause-within : goal.returns-else-not-is_over-clause-within
returns-else-not-is_over-clause-within g c =
    let below = scan_below c.args.self.now c.args.work.now c.args.scan c.requires.ready.steady c.requires.phase in
    let more = one_more c.args.work.now.batch.items c.claim_next.new.work.batch.items (page_of c.args.scan) c.in-Passed.ensures.looks.batch in
    let same : length c.close.new.work.batch.items ≡ length c.claim_next.new.work.batch.items = ap (λ (l : List ℕ). length l) c.close.ensures.batch in omega arith

-- ---- kinds of steps

pub returns-in-Missed-clause-kinds : goal.returns-in-Missed-clause-kinds
returns-in-Missed-clause-kinds g c =
    turn_looks c.args.self.now.cpu c.args.self.now.domains Stepped c.args.seats.now c.claim_next.new.seats
    (subst (λ (x : Looked). StepsToLook c.args.self.now.cpu x c.args.seats.now c.claim_next.new.seats) c.in-Missed.is c.claim_next.ensures.kinds)

pub returns-in-Stopped-clause-kinds : goal.returns-in-Stopped-clause-kinds
returns-in-Stopped-clause-kinds g c =
    look_cut c.args.self.now.cpu c.args.self.now.domains c.args.seats.now c.claim_next.new.seats
    (subst (λ (x : Looked). StepsToLook c.args.self.now.cpu x c.args.seats.now c.claim_next.new.seats) c.in-Stopped.is c.claim_next.ensures.kinds)

pub returns-then-not-is_over-clause-kinds : goal.returns-then-not-is_over-clause-kinds
returns-then-not-is_over-clause-kinds g c =
    turn_looks c.args.self.now.cpu c.args.self.now.domains Stepped c.args.seats.now c.claim_next.new.seats
    (subst (λ (x : Looked). StepsToLook c.args.self.now.cpu x c.args.seats.now c.claim_next.new.seats) c.in-Passed.is c.claim_next.ensures.kinds)

pub returns-else-not-is_over-clause-kinds : goal.returns-else-not-is_over-clause-kinds
returns-else-not-is_over-clause-kinds g c =
    turn_scans c.args.self.now.cpu c.args.self.now.domains c.close.result c.args.seats.now c.claim_next.new.seats c.close.new.seats
    (subst (λ (x : Looked). StepsToLook c.args.self.now.cpu x c.args.seats.now c.claim_next.new.seats) c.in-Passed.is c.claim_next.ensures.kinds) c.close.ensures.kinds
