use Rattle.std.proofs.Common.{true, false, refl, sym, ap, ◌∙◌, subst, inl}
use Rattle.wbt_flusher.proofs.Common.{Seats, Paper, no_moments, list_by, sight}
use Rattle.wbt_flusher.specs.Ageing.{TakesAny}
use Rattle.wbt_flusher.specs.Cut.{FindsNothing, LosesLast}
use Rattle.wbt_flusher.specs.Took.{TakesLast}
use Rattle.wbt_flusher.specs.declared.work.FlusherWork.{FlusherWork}
use Rattle.wbt_flusher.proofs.Deciding.{idle_listed, ready_listed}
use Rattle.wbt_flusher.proofs.Ending.{ends_after, ends_undone}
use Rattle.wbt_flusher.proofs.plan.FlusherPlan.take_last.Goals as goal

pub take_queued-requires-clause-ready : goal.take_queued-requires-clause-ready
take_queued-requires-clause-ready g c =
    let plan = c.args.self.now in
    let kit = c.args.hands.now.kit.now in
    let was = c.args.work.now in
    let seats = c.args.seats.now in
    let t = c.take_first in
    let fits = c.requires.ready.fits in
    let goes = t.ensures.goes kit seats fits in
    let ready = ready_listed 0 plan kit seats seats c.args.pen.now.log t.new.pen.log was t.new.work (λ told written has. goes told written) t.ensures.only_wheel t.ensures.lists refl c.requires.ready in
    ready

pub take_queued-requires-clause-idle : goal.take_queued-requires-clause-idle
take_queued-requires-clause-idle g c = idle_listed c.args.work.now c.take_first.new.work c.take_first.ensures.only_wheel c.requires.idle

pub take_queued-requires-clause-empty : goal.take_queued-requires-clause-empty
take_queued-requires-clause-empty g c = let none = c.in-None.ensures.none in ap list_by none.1 ∙ none.0

pub begin_waiting-requires-clause-ready : goal.begin_waiting-requires-clause-ready
begin_waiting-requires-clause-ready g c =
    let plan = c.args.self.now in
    let kit = c.args.hands.now.kit.now in
    let was = c.args.work.now in
    let seats = c.args.seats.now in
    let t = c.take_first in
    let fits = c.requires.ready.fits in
    let goes = t.ensures.goes kit seats fits in
    let ready = ready_listed 0 plan kit seats seats c.args.pen.now.log t.new.pen.log was t.new.work (λ told written has. goes told written) t.ensures.only_wheel t.ensures.lists refl c.requires.ready in
    ready

pub begin_waiting-requires-clause-idle : goal.begin_waiting-requires-clause-idle
begin_waiting-requires-clause-idle g c = idle_listed c.args.work.now c.take_first.new.work c.take_first.ensures.only_wheel c.requires.idle

pub returns-in-None-clause-ends : goal.returns-in-None-clause-ends
returns-in-None-clause-ends g c moments written =
    let plan = c.args.self.now in
    let kit = c.args.hands.now.kit.now in
    let was = c.args.work.now in
    let seats = c.args.seats.now in
    let t = c.take_first in
    let fits = c.requires.ready.fits in
    let goes = t.ensures.goes kit seats fits in
    let q = c.take_queued in
    ends_after plan kit moments (g.G.Gate.said c.args.hands.now.gate.now) (sight was seats c.args.pen.now.log written) (sight t.new.work seats t.new.pen.log written) (sight q.new.work q.new.seats q.new.pen.log written)
    (goes moments written) true ⊥ q.result (q.ensures.ends moments written)

pub returns-in-None-clause-takes : goal.returns-in-None-clause-takes
returns-in-None-clause-takes g c is written =
    let none = c.in-None.ensures.none in
    let q = c.take_queued in
    subst (λ (z : FlusherWork × Paper). TakesLast c.args.self.now c.args.hands.now.kit.now (sight z.0 c.args.seats.now z.1.log written) (sight q.new.work q.new.seats q.new.pen.log written))
    (λ i. (none.1 i, none.2 i)) (q.ensures.takes is written)

pub returns-in-None-clause-halts : goal.returns-in-None-clause-halts
returns-in-None-clause-halts g c is written =
    let none = c.in-None.ensures.none in
    let q = c.take_queued in
    subst (λ (z : FlusherWork × Paper). LosesLast c.args.self.now (sight z.0 c.args.seats.now z.1.log written) (sight q.new.work q.new.seats q.new.pen.log written))
    (λ i. (none.1 i, none.2 i)) (q.ensures.halts is written)

pub returns-in-None-clause-done : goal.returns-in-None-clause-done
returns-in-None-clause-done g c is written =
    let none = c.in-None.ensures.none in
    let q = c.take_queued in
    subst (λ (z : FlusherWork × Paper). FindsNothing c.args.self.now (sight z.0 c.args.seats.now z.1.log written) (sight q.new.work q.new.seats q.new.pen.log written))
    (λ i. (none.1 i, none.2 i)) (q.ensures.done is written)

pub returns-in-None-clause-faults : goal.returns-in-None-clause-faults
returns-in-None-clause-faults g c = c.take_queued.ensures.faults ∙ ap (λ (w : FlusherWork). w.faults) c.take_first.ensures.only_wheel

pub returns-in-Some-clause-ends : goal.returns-in-Some-clause-ends
returns-in-Some-clause-ends g c moments written =
    let plan = c.args.self.now in
    let kit = c.args.hands.now.kit.now in
    let was = c.args.work.now in
    let seats = c.args.seats.now in
    let t = c.take_first in
    let fits = c.requires.ready.fits in
    let goes = t.ensures.goes kit seats fits in
    let b = c.begin_waiting in
    let log = t.new.pen.log in
    ends_after plan kit moments (g.G.Gate.said c.args.hands.now.gate.now) (sight was seats c.args.pen.now.log written) (sight t.new.work seats log written) (sight b.new.work b.new.seats log written)
    (goes moments written) true ⊥ b.result (b.ensures.ends true moments log written)

pub returns-in-Some-clause-takes : goal.returns-in-Some-clause-takes
returns-in-Some-clause-takes g c is written =
    let t = c.take_first in
    inl (record {
      inode = c.in-Some.inode;
      taken = sight t.new.work c.args.seats.now t.new.pen.log written;
      takes = c.in-Some.ensures.takes.1 c.args.seats.now written;
      begins = c.begin_waiting.ensures.begins is t.new.pen.log written;
      log = refl;
    })

pub returns-in-Some-clause-halts : goal.returns-in-Some-clause-halts
returns-in-Some-clause-halts g c is written =
    let t = c.take_first in
    let stays = c.begin_waiting.ensures.halts is in
    inl (record {
      inode = c.in-Some.inode;
      takes = subst (λ (z : FlusherWork × Seats). TakesAny c.args.self.now c.in-Some.inode (sight c.args.work.now c.args.seats.now c.args.pen.now.log written) (sight z.0 z.1 t.new.pen.log written))
          (λ i. (sym stays.0 i, sym stays.1 i)) (c.in-Some.ensures.takes.1 c.args.seats.now written);
    })

pub returns-in-Some-clause-done : goal.returns-in-Some-clause-done
returns-in-Some-clause-done g c is written =
    let t = c.take_first in
    let b = c.begin_waiting in
    absurd (ends_undone c.args.self.now c.args.hands.now.kit.now no_moments (g.G.Gate.said c.args.hands.now.gate.now) ⊥ b.result (sight t.new.work c.args.seats.now t.new.pen.log written) (sight b.new.work b.new.seats t.new.pen.log written)
    (b.ensures.ends false no_moments t.new.pen.log written) is)

pub returns-in-Some-clause-faults : goal.returns-in-Some-clause-faults
returns-in-Some-clause-faults g c = c.begin_waiting.ensures.faults ∙ ap (λ (w : FlusherWork). w.faults) c.take_first.ensures.only_wheel
