use Rattle.wbt_flusher.proofs.Common.{asked_more, asked_none, Stepped, sight, MayTake}
use Rattle.std.proofs.Common.{false}
use Rattle.wbt_flusher.proofs.Ending.{idles, ready_queue, ends_after}
use Rattle.wbt_flusher.proofs.Keeping.{queue_quiet}
use Rattle.wbt_flusher.proofs.Marks.{idle_bare}
use Rattle.wbt_flusher.proofs.Cutting.{loses}
use Rattle.wbt_flusher.proofs.Turning.{no_take, still_before}
use Rattle.wbt_flusher.proofs.plan.FlusherPlan.take_or_rest.Goals as goal

pub begin_taken-requires-clause-ready : goal.begin_taken-requires-clause-ready
begin_taken-requires-clause-ready g c = ready_queue c.args.self.now c.args.hands.now.kit.now c.args.work.now c.args.seats.now c.take.new.seats c.requires.ready c.take.ensures.fits c.take.ensures.only_queue c.take.ensures.device

pub returns-in-None-clause-asked : goal.returns-in-None-clause-asked
returns-in-None-clause-asked g c = asked_none c.args.self.now.cpu (g.G.Gate.said c.args.hands.now.gate.now) c.args.seats.now c.take.new.seats c.take.ensures.only_queue.cpu

pub returns-in-Some-clause-asked : goal.returns-in-Some-clause-asked
returns-in-Some-clause-asked g c =
    asked_more c.args.self.now.cpu (g.G.Gate.said c.args.hands.now.gate.now) c.args.seats.now c.take.new.seats c.begin_taken.new.seats
    (asked_none c.args.self.now.cpu (g.G.Gate.said c.args.hands.now.gate.now) c.args.seats.now c.take.new.seats c.take.ensures.only_queue.cpu) c.begin_taken.ensures.asked

pub returns-in-None-clause-ends : goal.returns-in-None-clause-ends
returns-in-None-clause-ends g c moments log written =
    let plan = c.args.self.now in
    let kit = c.args.hands.now.kit.now in
    let was = c.args.work.now in
    let old = c.args.seats.now in
    let mid = c.take.new.seats in
    let t = c.take.ensures in
    let e = c.be_idle.ensures in
    let ready = ready_queue plan kit was old mid c.requires.ready t.fits t.only_queue t.device in
    ends_after plan kit moments (g.G.Gate.said c.args.hands.now.gate.now) (sight was old log written) (sight was mid log written) (sight c.be_idle.new.work mid log written)
    (queue_quiet plan kit old mid t.fits t.only_queue t.device moments was log written) false ⊥ Stepped
    (idles plan kit mid was c.be_idle.new.work c.args.until false moments log written ready c.requires.idle.batch e.phase e.lists
    (e.goes kit mid t.fits (idle_bare plan was mid c.requires.idle) moments log written))

pub returns-in-Some-clause-ends : goal.returns-in-Some-clause-ends
returns-in-Some-clause-ends g c moments log written =
    let plan = c.args.self.now in
    let kit = c.args.hands.now.kit.now in
    let was = c.args.work.now in
    let old = c.args.seats.now in
    let mid = c.take.new.seats in
    let t = c.take.ensures in
    ends_after plan kit moments (g.G.Gate.said c.args.hands.now.gate.now) (sight was old log written) (sight was mid log written) (sight c.begin_taken.new.work c.begin_taken.new.seats log written)
    (queue_quiet plan kit old mid t.fits t.only_queue t.device moments was log written) false ⊥ c.begin_taken.result (c.begin_taken.ensures.ends false moments log written)

pub returns-in-Some-clause-halts : goal.returns-in-Some-clause-halts
returns-in-Some-clause-halts g c is log written =
    let b = c.begin_taken in
    loses c.args.self.now c.in-Some.inode c.args.seats.now c.take.new.seats b.new.seats c.args.work.now b.new.work log written c.in-Some.ensures.taken c.take.ensures.only_queue (b.ensures.halts is)

pub returns-in-None-clause-kinds : goal.returns-in-None-clause-kinds
returns-in-None-clause-kinds g c = no_take c.args.self.now.cpu c.args.seats.now c.take.new.seats c.take.ensures.only_queue.cpu

pub returns-in-Some-clause-kinds : goal.returns-in-Some-clause-kinds
returns-in-Some-clause-kinds g c = still_before c.args.self.now.cpu MayTake c.args.seats.now c.take.new.seats c.begin_taken.new.seats c.take.ensures.only_queue.cpu c.begin_taken.ensures.kinds
