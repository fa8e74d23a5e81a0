use Rattle.std.proofs.Common.{inl, inr, ap, refl, ◌∙◌, rules}
use Rattle.wbt_run_worker.proofs.Common.{Known}
use Rattle.wbt_run_worker.proofs.Speaking.{timer_looked, timer_more}
use Rattle.wbt_run_worker.proofs.Ticks.{ready_still, ticks_now}
use Rattle.wbt_run_worker.proofs.TimerTurns.{looked_once, no_turn}
use Rattle.wbt_run_worker.proofs.ticking.TimerWorker.tick_once.Goals as goal

pub returns-then-is_quiet-clause-ticks : goal.returns-then-is_quiet-clause-ticks
returns-then-is_quiet-clause-ticks g c = ticks_now (g.C.Clock.told c.args.hands.now.clock.now) c.args.self.now.side c.args.seats.now c.args.self.now.log.items

pub returns-then-is_quiet-clause-speaks : goal.returns-then-is_quiet-clause-speaks
returns-then-is_quiet-clause-speaks g c = timer_looked c.args.condition.now.signals c.args.self.now.refused c.is_quiet.result c.args.self.now.voice c.is_quiet.new.voice c.requires.voice c.is_quiet.ensures.quiet

pub returns-then-is_quiet-clause-turns : goal.returns-then-is_quiet-clause-turns
returns-then-is_quiet-clause-turns g c = no_turn (g.C.Clock.told c.args.hands.now.clock.now) (g.G.Gate.said c.args.hands.now.gate.now) c.args.hands.now.kit.now c.args.self.now (record c.args.self.now { voice = c.is_quiet.new.voice }) c.args.seats.now c.args.seats.now
    refl refl refl (ap (λ (v : Known). v.rings) c.is_quiet.ensures.quiet)
    (inl (ap (λ (v : Known). v.quiet) c.is_quiet.ensures.quiet ∙ search rules))

pub returns-then-self-clause-ticks : goal.returns-then-self-clause-ticks
returns-then-self-clause-ticks g c = ticks_now (g.C.Clock.told c.args.hands.now.clock.now) c.args.self.now.side c.args.seats.now c.args.self.now.log.items

pub returns-then-self-clause-speaks : goal.returns-then-self-clause-speaks
returns-then-self-clause-speaks g c = timer_looked c.args.condition.now.signals c.args.self.now.refused c.is_quiet.result c.args.self.now.voice c.is_quiet.new.voice c.requires.voice c.is_quiet.ensures.quiet

pub returns-then-self-clause-turns : goal.returns-then-self-clause-turns
returns-then-self-clause-turns g c = no_turn (g.C.Clock.told c.args.hands.now.clock.now) (g.G.Gate.said c.args.hands.now.gate.now) c.args.hands.now.kit.now c.args.self.now (record c.args.self.now { voice = c.is_quiet.new.voice }) c.args.seats.now c.args.seats.now
    refl refl refl (ap (λ (v : Known). v.rings) c.is_quiet.ensures.quiet)
    (inr (search rules))

pub take_turn-turn-requires-clause-voice : goal.take_turn-turn-requires-clause-voice
take_turn-turn-requires-clause-voice g c = ap (λ (v : Known). v.signals) c.is_quiet.ensures.quiet ∙ c.requires.voice

pub returns-clause-ready : goal.returns-clause-ready
returns-clause-ready g c = λ trace was. ready_still (g.C.Clock.told c.args.hands.now.clock.now) c.args.hands.now.kit.now trace c.args.self.now.side c.take_turn-turn.new.self.side
    c.args.seats.now c.take_turn-turn.new.seats c.args.self.now.log.items c.take_turn-turn.new.self.log.items c.take_turn-turn.ensures.ticks c.take_turn-turn.ensures.may was

pub returns-clause-turns : goal.returns-clause-turns
returns-clause-turns g c = looked_once (g.C.Clock.told c.args.hands.now.clock.now) (g.G.Gate.said c.args.hands.now.gate.now) c.args.hands.now.kit.now c.args.self.now c.take_turn-turn.new.self c.args.seats.now c.take_turn-turn.new.seats
    c.is_quiet.new.voice c.take_turn-turn.result (search rules) (ap (λ (v : Known). v.rings) c.is_quiet.ensures.quiet) c.take_turn-turn.ensures.turn

pub returns-clause-speaks : goal.returns-clause-speaks
returns-clause-speaks g c = timer_more c.args.condition.now.signals c.args.self.now.refused c.args.self.now.refused c.take_turn-turn.new.self.refused c.args.self.now.voice c.is_quiet.new.voice c.take_turn-turn.new.self.voice
    (timer_looked c.args.condition.now.signals c.args.self.now.refused c.is_quiet.result c.args.self.now.voice c.is_quiet.new.voice c.requires.voice c.is_quiet.ensures.quiet) c.take_turn-turn.ensures.speaks
