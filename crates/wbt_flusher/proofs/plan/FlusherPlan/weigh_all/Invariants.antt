use Rattle.std.proofs.Common.{ℕ, Option}
use Rattle.wbt_flusher.proofs.Common.{CpuJournal, GoesKept, Fits, KeepsDebts, sight, HasLists, OnlyTallies, WeighsBefore, AreCounts, AskedBeforeEach, Steps}
use Rattle.wbt_flusher.proofs.plan.FlusherPlan.weigh_all.Given as goal

abbrev pub invariant-loop-context : goal.invariant-loop-context
invariant-loop-context g l = record {
  goes : GoesKept l.self l.hands.kit.now l.initial.seats l.seats l.initial.work l.work;
  fits : Fits l.self l.hands.kit.now l.seats;
  lists : HasLists l.self l.work;
  debts : KeepsDebts l.self l.initial.seats l.seats;
  only : OnlyTallies l.initial.work l.work;
  weighs : (log : CpuJournal) (written : Option ℕ) → WeighsBefore l.self l.hands.kit.now l.context l.over (sight l.initial.work l.initial.seats log written) (sight l.work l.seats log written);
  asked : AskedBeforeEach l.self.cpu (g.G.Gate.said l.hands.gate.now) l.initial.seats l.seats;
  kinds : Steps l.self.cpu AreCounts l.initial.seats l.seats;
}
