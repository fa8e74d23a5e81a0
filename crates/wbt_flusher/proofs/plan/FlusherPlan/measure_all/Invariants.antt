use Rattle.std.proofs.Common.{ℕ, ◌≤◌, ◌+◌, length, Option}
use Rattle.wbt_flusher.proofs.Common.{GoesAt, Fits, KeepsDebts, MeasuresBefore, sight, HasLists, OnlyTallies, AreCounts, AskedBeforeEach, Steps}
use Rattle.wbt_flusher.proofs.plan.FlusherPlan.measure_all.Given as goal

abbrev pub invariant-loop-context : goal.invariant-loop-context
invariant-loop-context g l = record {
  goes : GoesAt l.now l.self l.hands.kit.now l.initial.seats l.seats l.initial.pen.log l.pen.log l.initial.work l.work;
  fits : Fits l.self l.hands.kit.now l.seats;
  lists : HasLists l.self l.work;
  debts : KeepsDebts l.self l.initial.seats l.seats;
  only : OnlyTallies l.initial.work l.work;
  room : length l.self.contexts ≤ l.pen.room + l.context;
  left : l.initial.pen.room ≤ l.pen.room + l.context;
  estimates : length l.self.contexts ≤ l.pen.estimates + l.context;
  measures : (written : Option ℕ) → MeasuresBefore l.self l.hands.kit.now l.now l.global l.context (sight l.initial.work l.initial.seats l.initial.pen.log written) (sight l.work l.seats l.pen.log written);
  asked : AskedBeforeEach l.self.cpu (g.G.Gate.said l.hands.gate.now) l.initial.seats l.seats;
  kinds : Steps l.self.cpu AreCounts l.initial.seats l.seats;
}
