use Rattle.std.proofs.Common.{false, subst, sym}
use Rattle.wbt_flusher.proofs.Common.{IsWithinQuota, no_moments, sight}
use Rattle.wbt_flusher.specs.declared.work.Phase.{Phase}
use Rattle.wbt_kit.proofs.Common.{HasRisen}
use Rattle.wbt_flusher.specs.Cut as cut
use Rattle.wbt_flusher.specs.Took as took
use Rattle.wbt_flusher.proofs.Cutting.{no_fault}
use Rattle.wbt_flusher.proofs.Ending.{answers_risen, ends_at_once, ends_undone, returning_answers}
use Rattle.wbt_flusher.proofs.Faulting.{not_last}
use Rattle.wbt_flusher.proofs.flusher.Flusher.turn_on.Goals as goal

pub returns-in-Idle-clause-answers : goal.returns-in-Idle-clause-answers
returns-in-Idle-clause-answers g c =
    let written = g.D.Disk.written c.args.self.now.disk in
    answers_risen c.args.self.now.plan c.args.hands.now.kit.now c.args.drain (g.C.Clock.told c.args.hands.now.clock.now) (g.G.Gate.said c.args.hands.now.gate.now)
    (HasRisen (g.D.Disk.faults c.args.self.now.disk) (g.D.Disk.faults c.args.self.now.disk)) c.turn_rest.result
    (sight c.args.self.now.work c.args.seats.now c.args.pen.now.log written) (sight c.turn_rest.new.work c.turn_rest.new.seats c.turn_rest.new.pen.log written) (c.turn_rest.ensures.answers written)

pub returns-in-Flying-clause-answers : goal.returns-in-Flying-clause-answers
returns-in-Flying-clause-answers g c =
    let written = g.D.Disk.written c.args.self.now.disk in
    answers_risen c.args.self.now.plan c.args.hands.now.kit.now c.args.drain (g.C.Clock.told c.args.hands.now.clock.now) (g.G.Gate.said c.args.hands.now.gate.now)
    (HasRisen (g.D.Disk.faults c.args.self.now.disk) (g.D.Disk.faults c.args.self.now.disk)) c.turn_fly.result
    (sight c.args.self.now.work c.args.seats.now c.args.pen.now.log written) (sight c.turn_fly.new.work c.turn_fly.new.seats c.turn_fly.new.pen.log written) (c.turn_fly.ensures.answers c.args.drain written)

pub returns-in-Idle-clause-fails : goal.returns-in-Idle-clause-fails
returns-in-Idle-clause-fails g c is =
    let written = g.D.Disk.written c.args.self.now.disk in
    absurd (no_fault c.args.self.now.plan c.args.hands.now.kit.now c.args.drain (g.C.Clock.told c.args.hands.now.clock.now) (g.G.Gate.said c.args.hands.now.gate.now) c.turn_rest.result
    (sight c.args.self.now.work c.args.seats.now c.args.pen.now.log written) (sight c.turn_rest.new.work c.turn_rest.new.seats c.turn_rest.new.pen.log written) is (c.turn_rest.ensures.answers written))

pub returns-in-Flying-clause-fails : goal.returns-in-Flying-clause-fails
returns-in-Flying-clause-fails g c is =
    let written = g.D.Disk.written c.args.self.now.disk in
    absurd (no_fault c.args.self.now.plan c.args.hands.now.kit.now c.args.drain (g.C.Clock.told c.args.hands.now.clock.now) (g.G.Gate.said c.args.hands.now.gate.now) c.turn_fly.result
    (sight c.args.self.now.work c.args.seats.now c.args.pen.now.log written) (sight c.turn_fly.new.work c.turn_fly.new.seats c.turn_fly.new.pen.log written) is (c.turn_fly.ensures.answers c.args.drain written))

pub returns-in-Idle-clause-halts : goal.returns-in-Idle-clause-halts
returns-in-Idle-clause-halts g c is = c.turn_rest.ensures.halts is (g.D.Disk.written c.args.self.now.disk)

pub returns-in-Scanning-clause-halts : goal.returns-in-Scanning-clause-halts
returns-in-Scanning-clause-halts g c is = cut.scans c.in-Scanning.scan c.in-Scanning.is (c.turn_scan.ensures.halts is)

pub returns-in-Flying-clause-halts : goal.returns-in-Flying-clause-halts
returns-in-Flying-clause-halts g c is = c.turn_fly.ensures.halts is c.args.drain (g.D.Disk.written c.args.self.now.disk)

pub returns-in-Flying-clause-spends : goal.returns-in-Flying-clause-spends
returns-in-Flying-clause-spends g c is = c.turn_fly.ensures.spends is (g.D.Disk.written c.args.self.now.disk)

-- ---- the quota

pub returns-in-Idle-clause-within_quota : goal.returns-in-Idle-clause-within_quota
returns-in-Idle-clause-within_quota g c = subst (λ (p : Phase). IsWithinQuota p c.turn_rest.new.work.batch.items) (sym c.in-Idle.is) tt

pub returns-in-Scanning-clause-within_quota : goal.returns-in-Scanning-clause-within_quota
returns-in-Scanning-clause-within_quota g c = subst (λ (p : Phase). IsWithinQuota p c.turn_scan.new.work.batch.items) (sym c.in-Scanning.is) c.turn_scan.ensures.within

pub returns-in-Flying-clause-within_quota : goal.returns-in-Flying-clause-within_quota
returns-in-Flying-clause-within_quota g c = subst (λ (p : Phase). IsWithinQuota p c.turn_fly.new.work.batch.items) (sym c.in-Flying.is) tt

-- ---- nothing to do

pub returns-in-Idle-clause-waits : goal.returns-in-Idle-clause-waits
returns-in-Idle-clause-waits g c n u is = c.turn_rest.ensures.waits n u is (g.D.Disk.written c.args.self.now.disk)

pub returns-in-Idle-clause-done : goal.returns-in-Idle-clause-done
returns-in-Idle-clause-done g c is = c.turn_rest.ensures.done is (g.D.Disk.written c.args.self.now.disk)

pub returns-in-Scanning-clause-waits : goal.returns-in-Scanning-clause-waits
returns-in-Scanning-clause-waits g c n u is =
    let by = c.turn_scan.ensures.ends in
    absurd (ends_at_once c.args.self.now.plan c.args.hands.now.kit.now false by.moments (g.G.Gate.said c.args.hands.now.gate.now) (HasRisen (g.D.Disk.faults c.args.self.now.disk) (g.D.Disk.faults c.turn_scan.new.disk)) c.turn_scan.result
    (sight c.args.self.now.work c.args.seats.now c.args.pen.now.log (g.D.Disk.written c.args.self.now.disk))
    (sight c.turn_scan.new.work c.turn_scan.new.seats c.turn_scan.new.pen.log (g.D.Disk.written c.turn_scan.new.disk)) n u by.does is)

pub returns-in-Scanning-clause-done : goal.returns-in-Scanning-clause-done
returns-in-Scanning-clause-done g c is =
    let by = c.turn_scan.ensures.ends in
    absurd (ends_undone c.args.self.now.plan c.args.hands.now.kit.now by.moments (g.G.Gate.said c.args.hands.now.gate.now) (HasRisen (g.D.Disk.faults c.args.self.now.disk) (g.D.Disk.faults c.turn_scan.new.disk)) c.turn_scan.result
    (sight c.args.self.now.work c.args.seats.now c.args.pen.now.log (g.D.Disk.written c.args.self.now.disk))
    (sight c.turn_scan.new.work c.turn_scan.new.seats c.turn_scan.new.pen.log (g.D.Disk.written c.turn_scan.new.disk)) by.does is)

pub returns-in-Flying-clause-waits : goal.returns-in-Flying-clause-waits
returns-in-Flying-clause-waits g c n u is = c.turn_fly.ensures.waits n u is (g.D.Disk.written c.args.self.now.disk)

pub returns-in-Flying-clause-done : goal.returns-in-Flying-clause-done
returns-in-Flying-clause-done g c is = absurd (c.turn_fly.ensures.undone is)

-- ---- a batch that is given back

pub returns-in-Returning-clause-answers : goal.returns-in-Returning-clause-answers
returns-in-Returning-clause-answers g c =
    let written = g.D.Disk.written c.args.self.now.disk in
    let told = g.C.Clock.told c.args.hands.now.clock.now in
    let old = sight c.args.self.now.work c.args.seats.now c.args.pen.now.log written in
    let t = c.turn_return in
    let new = sight t.new.work t.new.seats t.new.pen.log written in
    answers_risen c.args.self.now.plan c.args.hands.now.kit.now c.args.drain told (g.G.Gate.said c.args.hands.now.gate.now)
    (HasRisen (g.D.Disk.faults c.args.self.now.disk) (g.D.Disk.faults c.args.self.now.disk)) t.result old new
    (returning_answers c.args.self.now.plan c.args.hands.now.kit.now c.args.drain told (g.G.Gate.said c.args.hands.now.gate.now) t.result old new c.in-Returning.giving c.in-Returning.is (t.ensures.ends c.args.drain no_moments written))

pub returns-in-Returning-clause-took : goal.returns-in-Returning-clause-took
returns-in-Returning-clause-took g c is = took.returns (record { giving = c.in-Returning.giving; phase = c.in-Returning.is; page = c.turn_return.ensures.returns is (g.D.Disk.written c.args.self.now.disk) })

pub returns-in-Returning-clause-halts : goal.returns-in-Returning-clause-halts
returns-in-Returning-clause-halts g c is = cut.returns c.in-Returning.giving c.in-Returning.is (c.turn_return.ensures.halts is (g.D.Disk.written c.args.self.now.disk))

pub returns-in-Returning-clause-fails : goal.returns-in-Returning-clause-fails
returns-in-Returning-clause-fails g c is =
    let written = g.D.Disk.written c.args.self.now.disk in
    let told = g.C.Clock.told c.args.hands.now.clock.now in
    let old = sight c.args.self.now.work c.args.seats.now c.args.pen.now.log written in
    let t = c.turn_return in
    let new = sight t.new.work t.new.seats t.new.pen.log written in
    absurd (no_fault c.args.self.now.plan c.args.hands.now.kit.now c.args.drain told (g.G.Gate.said c.args.hands.now.gate.now) t.result old new is
    (returning_answers c.args.self.now.plan c.args.hands.now.kit.now c.args.drain told (g.G.Gate.said c.args.hands.now.gate.now) t.result old new c.in-Returning.giving c.in-Returning.is (t.ensures.ends c.args.drain no_moments written)))

pub returns-in-Returning-clause-spends : goal.returns-in-Returning-clause-spends
returns-in-Returning-clause-spends g c is = c.turn_return.ensures.spends is (g.D.Disk.written c.args.self.now.disk)

pub returns-in-Returning-clause-waits : goal.returns-in-Returning-clause-waits
returns-in-Returning-clause-waits g c n u is =
    let t = c.turn_return in
    let written = g.D.Disk.written c.args.self.now.disk in
    absurd (ends_at_once c.args.self.now.plan c.args.hands.now.kit.now false no_moments (g.G.Gate.said c.args.hands.now.gate.now) ⊥ t.result (sight c.args.self.now.work c.args.seats.now c.args.pen.now.log written)
    (sight t.new.work t.new.seats t.new.pen.log written) n u (t.ensures.ends false no_moments written) is)

pub returns-in-Returning-clause-done : goal.returns-in-Returning-clause-done
returns-in-Returning-clause-done g c is =
    let t = c.turn_return in
    let written = g.D.Disk.written c.args.self.now.disk in
    absurd (ends_undone c.args.self.now.plan c.args.hands.now.kit.now no_moments (g.G.Gate.said c.args.hands.now.gate.now) ⊥ t.result (sight c.args.self.now.work c.args.seats.now c.args.pen.now.log written)
    (sight t.new.work t.new.seats t.new.pen.log written) (t.ensures.ends false no_moments written) is)

-- ---- faults

pub returns-in-Idle-clause-eighth : goal.returns-in-Idle-clause-eighth
returns-in-Idle-clause-eighth g c =
    let written = g.D.Disk.written c.args.self.now.disk in
    not_last c.turn_rest.result c.args.self.now.work.faults c.turn_rest.new.work.faults
    (λ is. no_fault c.args.self.now.plan c.args.hands.now.kit.now c.args.drain (g.C.Clock.told c.args.hands.now.clock.now) (g.G.Gate.said c.args.hands.now.gate.now) c.turn_rest.result
    (sight c.args.self.now.work c.args.seats.now c.args.pen.now.log written) (sight c.turn_rest.new.work c.turn_rest.new.seats c.turn_rest.new.pen.log written) is (c.turn_rest.ensures.answers written))
    c.turn_rest.ensures.faults c.requires.ready.steady.few_faults

pub returns-in-Flying-clause-eighth : goal.returns-in-Flying-clause-eighth
returns-in-Flying-clause-eighth g c =
    let written = g.D.Disk.written c.args.self.now.disk in
    not_last c.turn_fly.result c.args.self.now.work.faults c.turn_fly.new.work.faults
    (λ is. no_fault c.args.self.now.plan c.args.hands.now.kit.now c.args.drain (g.C.Clock.told c.args.hands.now.clock.now) (g.G.Gate.said c.args.hands.now.gate.now) c.turn_fly.result
    (sight c.args.self.now.work c.args.seats.now c.args.pen.now.log written) (sight c.turn_fly.new.work c.turn_fly.new.seats c.turn_fly.new.pen.log written) is (c.turn_fly.ensures.answers c.args.drain written))
    c.turn_fly.ensures.faults c.requires.ready.steady.few_faults

pub returns-in-Returning-clause-eighth : goal.returns-in-Returning-clause-eighth
returns-in-Returning-clause-eighth g c =
    let written = g.D.Disk.written c.args.self.now.disk in
    let told = g.C.Clock.told c.args.hands.now.clock.now in
    let old = sight c.args.self.now.work c.args.seats.now c.args.pen.now.log written in
    let t = c.turn_return in
    let new = sight t.new.work t.new.seats t.new.pen.log written in
    not_last t.result c.args.self.now.work.faults t.new.work.faults
    (λ is. no_fault c.args.self.now.plan c.args.hands.now.kit.now c.args.drain told (g.G.Gate.said c.args.hands.now.gate.now) t.result old new is
    (returning_answers c.args.self.now.plan c.args.hands.now.kit.now c.args.drain told (g.G.Gate.said c.args.hands.now.gate.now) t.result old new c.in-Returning.giving c.in-Returning.is (t.ensures.ends c.args.drain no_moments written)))
    t.ensures.faults c.requires.ready.steady.few_faults
