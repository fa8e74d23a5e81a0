use Rattle.std.proofs.Common.{◌≡◌, ℕ, refl, sym, subst, arith}
use Rattle.wbt_flusher.proofs.Common.{NoticesBefore, sight}
use Rattle.wbt_flusher.specs.Ageing.{all_there_were, as_many_as_may_be}
use Rattle.wbt_flusher.proofs.Ageing.{notices_more, queue_more, wheel_more}
use Rattle.wbt_flusher.proofs.Going.{at_more, goes_nowhere}
use Rattle.wbt_flusher.proofs.Keeping.{queue_quiet}
use Rattle.wbt_flusher.proofs.plan.FlusherPlan.notice_all.Goals as goal

pub notices-init : goal.notices-init
notices-init g c = record {
  goes = λ told written has. goes_nowhere c.args.self.now c.args.hands.now.kit.now c.args.seats.now c.requires.fits told c.args.work.now c.args.pen.now.log written;
  fits = c.requires.fits;
  lists = c.requires.lists;
  told = c.requires.told;
  only_queue = record { cpu = refl; share = refl; est = refl };
  only_wheel = refl;
  notices = λ written. refl;
  room = omega arith;
}

pub notices-preserved : goal.notices-preserved
notices-preserved g c =
    let plan = c.args.self.now in
    let kit = c.args.hands.now.kit.now in
    let l = c.notices in
    let t = c.take in
    let n = c.notice in
    let room = l.invariant.room in
    let more = n.ensures.room in
    record {
      goes = at_more c.args.now plan kit c.args.seats.now l.seats t.new.seats c.args.pen.now.log l.pen.log n.new.pen.log c.args.work.now l.work n.new.work l.invariant.goes
          (at_more c.args.now plan kit l.seats t.new.seats t.new.seats l.pen.log l.pen.log n.new.pen.log l.work l.work n.new.work
          (λ told written has. queue_quiet plan kit l.seats t.new.seats t.ensures.fits t.ensures.only_queue t.ensures.device told l.work l.pen.log written)
          (n.ensures.goes kit t.new.seats t.ensures.fits));
      fits = t.ensures.fits;
      lists = n.ensures.lists;
      told = n.ensures.told;
      only_queue = queue_more c.args.seats.now l.seats t.new.seats l.invariant.only_queue t.ensures.only_queue;
      only_wheel = wheel_more c.args.work.now l.work n.new.work l.invariant.only_wheel n.ensures.only_wheel;
      notices = λ written. notices_more plan c.args.now l.counter (sight c.args.work.now c.args.seats.now c.args.pen.now.log written) (sight l.work l.seats l.pen.log written)
          (sight n.new.work t.new.seats n.new.pen.log written) (l.invariant.notices written)
          (record { inode = c.in-Some.inode; only = t.ensures.only_queue; taken = c.in-Some.ensures.taken; notices = n.ensures.notices });
      room = omega arith;
    }

pub returns-in-None : goal.returns-in-None
returns-in-None g c =
    let plan = c.args.self.now in
    let kit = c.args.hands.now.kit.now in
    let l = c.notices in
    let t = c.take in
    let room = l.invariant.room in
    let less = c.notices-test.true in
    record {
      goes = at_more c.args.now plan kit c.args.seats.now l.seats t.new.seats c.args.pen.now.log l.pen.log l.pen.log c.args.work.now l.work l.work l.invariant.goes
          (λ told written has. queue_quiet plan kit l.seats t.new.seats t.ensures.fits t.ensures.only_queue t.ensures.device told l.work l.pen.log written);
      fits = t.ensures.fits;
      lists = l.invariant.lists;
      told = l.invariant.told;
      only_queue = queue_more c.args.seats.now l.seats t.new.seats l.invariant.only_queue t.ensures.only_queue;
      only_wheel = l.invariant.only_wheel;
      notices = λ written. all_there_were l.counter less
          (subst (λ s. NoticesBefore plan c.args.now l.counter (sight c.args.work.now c.args.seats.now c.args.pen.now.log written) (sight l.work s l.pen.log written)) (sym c.in-None.ensures.same) (l.invariant.notices written))
          c.in-None.ensures.empty;
      room = omega arith;
    }

pub returns : goal.returns
returns g c =
    let l = c.notices in
    let room = l.invariant.room in
    let past = c.notices-test.false in
    let all : l.counter ≡ 64 = omega arith in
    record {
      goes = l.invariant.goes;
      fits = l.invariant.fits;
      lists = l.invariant.lists;
      told = l.invariant.told;
      only_queue = l.invariant.only_queue;
      only_wheel = l.invariant.only_wheel;
      notices = λ written. as_many_as_may_be (subst (λ (n : ℕ). NoticesBefore c.args.self.now c.args.now n (sight c.args.work.now c.args.seats.now c.args.pen.now.log written) (sight l.work l.seats l.pen.log written)) all (l.invariant.notices written));
      room = omega arith;
    }
