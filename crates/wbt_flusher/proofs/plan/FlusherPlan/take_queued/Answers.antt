use Rattle.wbt_flusher.proofs.Common.{asked_more, asked_none, Seats, Stepped, Done, no_moments, list_by, sight, MayTake}
use Rattle.std.proofs.Common.{true, false, refl, sym, ap, ◌∙◌, subst, inl, inr}
use Rattle.wbt_queue.specs.Passes as queue
use Rattle.wbt_flusher.specs.declared.work.FlusherWork.{FlusherWork}
use Rattle.wbt_flusher.proofs.Ending.{idles, ready_queue, ends_after, ends_undone}
use Rattle.wbt_flusher.proofs.Keeping.{queue_quiet}
use Rattle.wbt_flusher.proofs.Marks.{idle_bare}
use Rattle.wbt_flusher.proofs.Cutting.{loses}
use Rattle.wbt_flusher.proofs.Turning.{no_take, still_before}
use Rattle.wbt_flusher.proofs.plan.FlusherPlan.take_queued.Goals as goal

pub begin_taken-requires-clause-ready : goal.begin_taken-requires-clause-ready
begin_taken-requires-clause-ready g c = ready_queue c.args.self.now c.args.hands.now.kit.now c.args.work.now c.args.seats.now c.take.new.seats c.requires.ready c.take.ensures.fits c.take.ensures.only_queue c.take.ensures.device

pub returns-then-work-clause-asked : goal.returns-then-work-clause-asked
returns-then-work-clause-asked g c = asked_none c.args.self.now.cpu (g.G.Gate.said c.args.hands.now.gate.now) c.args.seats.now c.take.new.seats c.take.ensures.only_queue.cpu

pub returns-else-work-clause-asked : goal.returns-else-work-clause-asked
returns-else-work-clause-asked g c = asked_none c.args.self.now.cpu (g.G.Gate.said c.args.hands.now.gate.now) c.args.seats.now c.take.new.seats c.take.ensures.only_queue.cpu

pub returns-in-Some-clause-asked : goal.returns-in-Some-clause-asked
returns-in-Some-clause-asked g c =
    asked_more c.args.self.now.cpu (g.G.Gate.said c.args.hands.now.gate.now) c.args.seats.now c.take.new.seats c.begin_taken.new.seats
    (asked_none c.args.self.now.cpu (g.G.Gate.said c.args.hands.now.gate.now) c.args.seats.now c.take.new.seats c.take.ensures.only_queue.cpu) c.begin_taken.ensures.asked

pub returns-then-work-clause-ends : goal.returns-then-work-clause-ends
returns-then-work-clause-ends g c moments written =
    let plan = c.args.self.now in
    let kit = c.args.hands.now.kit.now in
    let was = c.args.work.now in
    let old = c.args.seats.now in
    let mid = c.take.new.seats in
    let log = c.args.pen.now.log in
    let t = c.take.ensures in
    let e = c.be_idle.ensures in
    let ready = ready_queue plan kit was old mid c.requires.ready t.fits t.only_queue t.device in
    ends_after plan kit moments (g.G.Gate.said c.args.hands.now.gate.now) (sight was old log written) (sight was mid log written) (sight c.be_idle.new.work mid log written)
    (queue_quiet plan kit old mid t.fits t.only_queue t.device moments was log written) true ⊥ Stepped
    (idles plan kit mid was c.be_idle.new.work 0 false moments log written ready c.requires.idle.batch e.phase e.lists
    (e.goes kit mid t.fits (idle_bare plan was mid c.requires.idle) moments log written))

pub returns-else-work-clause-ends : goal.returns-else-work-clause-ends
returns-else-work-clause-ends g c moments written =
    let plan = c.args.self.now in
    let kit = c.args.hands.now.kit.now in
    let was = c.args.work.now in
    let old = c.args.seats.now in
    let mid = c.take.new.seats in
    let log = c.args.pen.now.log in
    let t = c.take.ensures in
    let e = c.be_idle.ensures in
    let ready = ready_queue plan kit was old mid c.requires.ready t.fits t.only_queue t.device in
    ends_after plan kit moments (g.G.Gate.said c.args.hands.now.gate.now) (sight was old log written) (sight was mid log written) (sight c.be_idle.new.work mid log written)
    (queue_quiet plan kit old mid t.fits t.only_queue t.device moments was log written) true ⊥ Done
    (record {
      steps = idles plan kit mid was c.be_idle.new.work 0 false moments log written ready c.requires.idle.batch e.phase e.lists
          (e.goes kit mid t.fits (idle_bare plan was mid c.requires.idle) moments log written);
      in_drain = refl;
      idle = record { until = 0; kept = false; phase = ap (λ (w : FlusherWork). w.phase) e.phase; batch = ap (λ (w : FlusherWork). w.batch.items) e.phase ∙ c.requires.idle.batch };
      none_wait = c.if-work.false;
      none_listed = ap list_by e.phase ∙ c.requires.empty;
      empty = c.in-None.ensures.empty;
      whole = c.in-None.ensures.whole;
    })

pub returns-in-Some-clause-ends : goal.returns-in-Some-clause-ends
returns-in-Some-clause-ends g c moments written =
    let plan = c.args.self.now in
    let kit = c.args.hands.now.kit.now in
    let was = c.args.work.now in
    let old = c.args.seats.now in
    let mid = c.take.new.seats in
    let log = c.args.pen.now.log in
    let t = c.take.ensures in
    ends_after plan kit moments (g.G.Gate.said c.args.hands.now.gate.now) (sight was old log written) (sight was mid log written) (sight c.begin_taken.new.work c.begin_taken.new.seats log written)
    (queue_quiet plan kit old mid t.fits t.only_queue t.device moments was log written) true ⊥ c.begin_taken.result (c.begin_taken.ensures.ends true moments log written)

pub returns-then-work-clause-takes : goal.returns-then-work-clause-takes
returns-then-work-clause-takes g c is written =
    let none = c.in-None.ensures in
    let e = c.be_idle.ensures in
    inr (inr (
      sym (ap (λ (w : FlusherWork). w.some_wait) e.phase) ∙ c.if-work.true,
      c.requires.empty,
      record {
        empty = subst (λ (s : Seats). queue.Held 0 (queue.known_of c.args.self.now.device s.queue)) none.same none.empty;
        seats = none.same;
        told = refl;
        work = e.phase;
      },
    ))

pub returns-else-work-clause-done : goal.returns-else-work-clause-done
returns-else-work-clause-done g c is written =
    let none = c.in-None.ensures in
    let e = c.be_idle.ensures in
    record {
      none_wait = sym (ap (λ (w : FlusherWork). w.some_wait) e.phase) ∙ c.if-work.false;
      none_listed = c.requires.empty;
      finds = record {
        empty = subst (λ (s : Seats). queue.Held 0 (queue.known_of c.args.self.now.device s.queue)) none.same none.empty;
        seats = none.same;
        told = refl;
        work = e.phase;
      };
    }

pub returns-in-Some-clause-takes : goal.returns-in-Some-clause-takes
returns-in-Some-clause-takes g c is written = inr (inl (
  c.requires.empty,
  record {
    inode = c.in-Some.inode;
    told = refl;
    between = c.take.new.seats;
    only = c.take.ensures.only_queue;
    taken = c.in-Some.ensures.taken;
    comes = c.begin_taken.ensures.takes is c.args.pen.now.log written;
  },
))

pub returns-in-Some-clause-halts : goal.returns-in-Some-clause-halts
returns-in-Some-clause-halts g c is written =
    let b = c.begin_taken in
    inr (c.requires.empty, loses c.args.self.now c.in-Some.inode c.args.seats.now c.take.new.seats b.new.seats c.args.work.now b.new.work c.args.pen.now.log written c.in-Some.ensures.taken c.take.ensures.only_queue (b.ensures.halts is))

pub returns-in-Some-clause-done : goal.returns-in-Some-clause-done
returns-in-Some-clause-done g c is written =
    let b = c.begin_taken in
    let log = c.args.pen.now.log in
    absurd (ends_undone c.args.self.now c.args.hands.now.kit.now no_moments (g.G.Gate.said c.args.hands.now.gate.now) ⊥ b.result (sight c.args.work.now c.take.new.seats log written) (sight b.new.work b.new.seats log written)
    (b.ensures.ends false no_moments log written) is)

-- ---- kinds of steps

pub returns-then-work-clause-kinds : goal.returns-then-work-clause-kinds
returns-then-work-clause-kinds g c = no_take c.args.self.now.cpu c.args.seats.now c.take.new.seats c.take.ensures.only_queue.cpu

pub returns-else-work-clause-kinds : goal.returns-else-work-clause-kinds
returns-else-work-clause-kinds g c = no_take c.args.self.now.cpu c.args.seats.now c.take.new.seats c.take.ensures.only_queue.cpu

pub returns-in-Some-clause-kinds : goal.returns-in-Some-clause-kinds
returns-in-Some-clause-kinds g c = still_before c.args.self.now.cpu MayTake c.args.seats.now c.take.new.seats c.begin_taken.new.seats c.take.ensures.only_queue.cpu c.begin_taken.ensures.kinds
