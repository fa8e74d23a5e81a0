use Rattle.std.proofs.Common.{◌-◌}
use Rattle.wbt_flusher.proofs.Common.{GoesQuiet, Fits, KeepsDebts, ReadOthers, AskedBeforeEach}
use Rattle.wbt_run_steps.specs.Kinds.{StepsAs}
use Rattle.wbt_turns.specs.Words.{loads}
use Rattle.wbt_flusher.proofs.plan.FlusherPlan.test_others.Given as goal

abbrev pub invariant-loop-domain : goal.invariant-loop-domain
invariant-loop-domain g l = record {
  goes : GoesQuiet l.self l.hands.kit.now l.initial.seats l.seats;
  fits : Fits l.self l.hands.kit.now l.seats;
  debts : KeepsDebts l.self l.initial.seats l.seats;
  others : ReadOthers l.self l.domain l.global l.over l.initial.seats l.seats;
  asked : AskedBeforeEach l.self.cpu (g.G.Gate.said l.hands.gate.now) l.initial.seats l.seats;
  kinds : StepsAs l.self.cpu (loads (l.domain - 1)) l.initial.seats l.seats;
}
