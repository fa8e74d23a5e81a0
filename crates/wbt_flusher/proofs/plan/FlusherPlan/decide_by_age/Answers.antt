use Rattle.wbt_flusher.proofs.Common.{asked_more, asked_none, Waiting, Seats, Stepped, HasWheel, WasTold, sight, MayTake}
use Rattle.std.proofs.Common.{◌+◌, Option, false, refl, sym, ap, ◌∙◌, subst, inl, inr}
use Rattle.wbt_rules.specs.declared.moments.TheConstants.{FLUSHER_REST}
use Rattle.wbt_flusher.specs.Ageing.{NoticesAll, TakesByAge}
use Rattle.wbt_flusher.specs.declared.work.FlusherWork.{FlusherWork}
use Rattle.wbt_flusher.specs.declared.work.Phase.TheVariants.{Idle}
use Rattle.wbt_flusher.proofs.Ageing.{told_now, wheel_told}
use Rattle.wbt_flusher.proofs.Deciding.{at_inode}
use Rattle.wbt_flusher.proofs.Ending.{ends_after, idles}
use Rattle.wbt_flusher.proofs.Marks.{idle_bare}
use Rattle.wbt_flusher.proofs.Turning.{no_take, still_before}
use Rattle.wbt_flusher.proofs.plan.FlusherPlan.decide_by_age.Goals as goal

pub notice_all-requires-clause-lists : goal.notice_all-requires-clause-lists
notice_all-requires-clause-lists g c =
    let lists = c.requires.ready.steady.lists in
    record {
      proper = lists.proper;
      tallies = lists.tallies;
      waiting = lists.waiting;
      none_wait = lists.none_wait;
      wheel = subst (λ (w : Option Waiting). HasWheel c.args.self.now w) (sym c.tell_wheel.ensures.told) (wheel_told c.args.self.now c.args.now c.args.work.now.wheel lists.wheel);
      places = lists.places;
    }

pub notice_all-requires-clause-told : goal.notice_all-requires-clause-told
notice_all-requires-clause-told g c = subst (λ (w : Option Waiting). WasTold c.args.now w) (sym c.tell_wheel.ensures.told) (told_now c.args.now c.args.work.now.wheel)

pub begin_waiting-requires-clause-ready : goal.begin_waiting-requires-clause-ready
begin_waiting-requires-clause-ready g c =
    let plan = c.args.self.now in
    let kit = c.args.hands.now.kit.now in
    let n = c.notice_all in
    let t = c.take_by_age in
    let at = at_inode c.args.now plan kit c.args.seats.now n.new.seats c.args.pen.now.log n.new.pen.log c.args.work.now c.tell_wheel.new.wheel n.new.work c.requires.ready c.requires.idle
    c.tell_wheel.ensures.told n.ensures.goes n.ensures.only_wheel n.ensures.only_queue t.new.pen.log t.new.work (t.ensures.goes kit n.new.seats n.ensures.fits) t.ensures.only_wheel t.ensures.lists in
    at.ready

pub begin_waiting-requires-clause-idle : goal.begin_waiting-requires-clause-idle
begin_waiting-requires-clause-idle g c =
    let plan = c.args.self.now in
    let kit = c.args.hands.now.kit.now in
    let n = c.notice_all in
    let t = c.take_by_age in
    let at = at_inode c.args.now plan kit c.args.seats.now n.new.seats c.args.pen.now.log n.new.pen.log c.args.work.now c.tell_wheel.new.wheel n.new.work c.requires.ready c.requires.idle
    c.tell_wheel.ensures.told n.ensures.goes n.ensures.only_wheel n.ensures.only_queue t.new.pen.log t.new.work (t.ensures.goes kit n.new.seats n.ensures.fits) t.ensures.only_wheel t.ensures.lists in
    at.idle

pub returns-in-None-clause-asked : goal.returns-in-None-clause-asked
returns-in-None-clause-asked g c = asked_none c.args.self.now.cpu (g.G.Gate.said c.args.hands.now.gate.now) c.args.seats.now c.notice_all.new.seats c.notice_all.ensures.only_queue.cpu

pub returns-in-None-clause-ends : goal.returns-in-None-clause-ends
returns-in-None-clause-ends g c moments written has =
    let plan = c.args.self.now in
    let kit = c.args.hands.now.kit.now in
    let n = c.notice_all in
    let t = c.take_by_age in
    let at = at_inode c.args.now plan kit c.args.seats.now n.new.seats c.args.pen.now.log n.new.pen.log c.args.work.now c.tell_wheel.new.wheel n.new.work c.requires.ready c.requires.idle
    c.tell_wheel.ensures.told n.ensures.goes n.ensures.only_wheel n.ensures.only_queue t.new.pen.log t.new.work (t.ensures.goes kit n.new.seats n.ensures.fits) t.ensures.only_wheel t.ensures.lists in
    let e = c.be_idle.ensures in
    let log = t.new.pen.log in
    ends_after plan kit moments (g.G.Gate.said c.args.hands.now.gate.now) (sight c.args.work.now c.args.seats.now c.args.pen.now.log written) (sight t.new.work n.new.seats log written) (sight c.be_idle.new.work n.new.seats log written)
    (at.goes moments written has) false ⊥ Stepped
    (idles plan kit n.new.seats t.new.work c.be_idle.new.work (c.args.now + FLUSHER_REST) false moments log written at.ready at.idle.batch e.phase e.lists
    (e.goes kit n.new.seats n.ensures.fits (idle_bare plan t.new.work n.new.seats at.idle) moments log written))

pub returns-in-None-clause-decides : goal.returns-in-None-clause-decides
returns-in-None-clause-decides g c is written =
    let plan = c.args.self.now in
    let n = c.notice_all in
    let none = c.in-None.ensures.none in
    record {
      noticed = sight n.new.work n.new.seats n.new.pen.log written;
      notices = record {
        notices = subst (λ (w : Option Waiting). NoticesAll plan c.args.now (sight (record c.args.work.now { wheel = w }) c.args.seats.now c.args.pen.now.log written) (sight n.new.work n.new.seats n.new.pen.log written))
            c.tell_wheel.ensures.told (n.ensures.notices written);
      };
      does = inr (record {
        none_due = none.0;
        none_over = none.1;
        seats = refl;
        log = none.3;
        work = c.be_idle.ensures.phase ∙ ap (λ (w : FlusherWork). record w { phase = Idle (c.args.now + FLUSHER_REST) false }) none.2;
      });
    }

pub returns-in-None-clause-faults : goal.returns-in-None-clause-faults
returns-in-None-clause-faults g c =
    let plan = c.args.self.now in
    let kit = c.args.hands.now.kit.now in
    let n = c.notice_all in
    let t = c.take_by_age in
    let at = at_inode c.args.now plan kit c.args.seats.now n.new.seats c.args.pen.now.log n.new.pen.log c.args.work.now c.tell_wheel.new.wheel n.new.work c.requires.ready c.requires.idle
    c.tell_wheel.ensures.told n.ensures.goes n.ensures.only_wheel n.ensures.only_queue t.new.pen.log t.new.work (t.ensures.goes kit n.new.seats n.ensures.fits) t.ensures.only_wheel t.ensures.lists in
    ap (λ (w : FlusherWork). w.faults) c.be_idle.ensures.phase ∙ ap (λ (w : FlusherWork). w.faults) at.only

pub returns-in-Some-clause-asked : goal.returns-in-Some-clause-asked
returns-in-Some-clause-asked g c =
    asked_more c.args.self.now.cpu (g.G.Gate.said c.args.hands.now.gate.now) c.args.seats.now c.notice_all.new.seats c.begin_waiting.new.seats
    (asked_none c.args.self.now.cpu (g.G.Gate.said c.args.hands.now.gate.now) c.args.seats.now c.notice_all.new.seats c.notice_all.ensures.only_queue.cpu) c.begin_waiting.ensures.asked

pub returns-in-Some-clause-ends : goal.returns-in-Some-clause-ends
returns-in-Some-clause-ends g c moments written has =
    let plan = c.args.self.now in
    let kit = c.args.hands.now.kit.now in
    let n = c.notice_all in
    let t = c.take_by_age in
    let at = at_inode c.args.now plan kit c.args.seats.now n.new.seats c.args.pen.now.log n.new.pen.log c.args.work.now c.tell_wheel.new.wheel n.new.work c.requires.ready c.requires.idle
    c.tell_wheel.ensures.told n.ensures.goes n.ensures.only_wheel n.ensures.only_queue t.new.pen.log t.new.work (t.ensures.goes kit n.new.seats n.ensures.fits) t.ensures.only_wheel t.ensures.lists in
    let b = c.begin_waiting in
    let log = t.new.pen.log in
    ends_after plan kit moments (g.G.Gate.said c.args.hands.now.gate.now) (sight c.args.work.now c.args.seats.now c.args.pen.now.log written) (sight t.new.work n.new.seats log written) (sight b.new.work b.new.seats log written)
    (at.goes moments written has) false ⊥ b.result (b.ensures.ends false moments log written)

pub returns-in-Some-clause-decides : goal.returns-in-Some-clause-decides
returns-in-Some-clause-decides g c is written =
    let plan = c.args.self.now in
    let n = c.notice_all in
    let t = c.take_by_age in
    record {
      noticed = sight n.new.work n.new.seats n.new.pen.log written;
      notices = record {
        notices = subst (λ (w : Option Waiting). NoticesAll plan c.args.now (sight (record c.args.work.now { wheel = w }) c.args.seats.now c.args.pen.now.log written) (sight n.new.work n.new.seats n.new.pen.log written))
            c.tell_wheel.ensures.told (n.ensures.notices written);
      };
      does = inl (record {
        inode = c.in-Some.inode;
        taken = sight t.new.work n.new.seats t.new.pen.log written;
        takes = c.in-Some.ensures.takes.1 n.new.seats written;
        begins = c.begin_waiting.ensures.begins is t.new.pen.log written;
        log = refl;
      });
    }

pub returns-in-Some-clause-halts : goal.returns-in-Some-clause-halts
returns-in-Some-clause-halts g c is written =
    let plan = c.args.self.now in
    let n = c.notice_all in
    let t = c.take_by_age in
    let b = c.begin_waiting in
    let stays = b.ensures.halts is in
    record {
      noticed = sight n.new.work n.new.seats n.new.pen.log written;
      notices = record {
        notices = subst (λ (w : Option Waiting). NoticesAll plan c.args.now (sight (record c.args.work.now { wheel = w }) c.args.seats.now c.args.pen.now.log written) (sight n.new.work n.new.seats n.new.pen.log written))
            c.tell_wheel.ensures.told (n.ensures.notices written);
      };
      inode = c.in-Some.inode;
      takes = subst (λ (z : FlusherWork × Seats). TakesByAge plan c.args.now c.args.over c.in-Some.inode (sight n.new.work n.new.seats n.new.pen.log written) (sight z.0 z.1 t.new.pen.log written))
          (λ i. (sym stays.0 i, sym stays.1 i)) (c.in-Some.ensures.takes.1 n.new.seats written);
    }

pub returns-in-Some-clause-faults : goal.returns-in-Some-clause-faults
returns-in-Some-clause-faults g c =
    let plan = c.args.self.now in
    let kit = c.args.hands.now.kit.now in
    let n = c.notice_all in
    let t = c.take_by_age in
    let at = at_inode c.args.now plan kit c.args.seats.now n.new.seats c.args.pen.now.log n.new.pen.log c.args.work.now c.tell_wheel.new.wheel n.new.work c.requires.ready c.requires.idle
    c.tell_wheel.ensures.told n.ensures.goes n.ensures.only_wheel n.ensures.only_queue t.new.pen.log t.new.work (t.ensures.goes kit n.new.seats n.ensures.fits) t.ensures.only_wheel t.ensures.lists in
    c.begin_waiting.ensures.faults ∙ ap (λ (w : FlusherWork). w.faults) at.only

-- ---- kinds of steps

pub returns-in-None-clause-kinds : goal.returns-in-None-clause-kinds
returns-in-None-clause-kinds g c = no_take c.args.self.now.cpu c.args.seats.now c.notice_all.new.seats c.notice_all.ensures.only_queue.cpu

pub returns-in-Some-clause-kinds : goal.returns-in-Some-clause-kinds
returns-in-Some-clause-kinds g c = still_before c.args.self.now.cpu MayTake c.args.seats.now c.notice_all.new.seats c.begin_waiting.new.seats c.notice_all.ensures.only_queue.cpu c.begin_waiting.ensures.kinds
