use Rattle.std.proofs.Common.{◌≡◌, ℕ, ◌≤◌, ◌+◌, Option}
use Rattle.wbt_flusher.proofs.Common.{OnlyQueue, NoticesBefore, WasTold, GoesAt, Fits, sight, HasLists}
use Rattle.wbt_rules.specs.declared.age.TheConstants.{MOST_NOTICED}
use Rattle.wbt_flusher.proofs.plan.FlusherPlan.notice_all.Given as goal

abbrev pub invariant-notices : goal.invariant-notices
invariant-notices g l = record {
  goes : GoesAt l.now l.self l.hands.kit.now l.initial.seats l.seats l.initial.pen.log l.pen.log l.initial.work l.work;
  fits : Fits l.self l.hands.kit.now l.seats;
  lists : HasLists l.self l.work;
  told : WasTold l.now l.work.wheel;
  only_queue : OnlyQueue l.initial.seats l.seats;
  only_wheel : l.work ≡ record l.initial.work { wheel = l.work.wheel };
  notices : (written : Option ℕ) → NoticesBefore l.self l.now l.counter (sight l.initial.work l.initial.seats l.initial.pen.log written) (sight l.work l.seats l.pen.log written);
  room : MOST_NOTICED + 1 ≤ l.pen.room + l.counter;
}
