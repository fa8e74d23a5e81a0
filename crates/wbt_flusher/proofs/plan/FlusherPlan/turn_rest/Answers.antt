use Rattle.wbt_flusher.proofs.Common.{asked_none, here, wait_of, Moments, no_moments, sight, Resting}
use Rattle.std.proofs.Common.{Bool, true, false, true≢false, [], ◌∷◌, refl, sym, ◌∙◌, subst, inl, inr}
use Rattle.wbt_flusher.specs.Answers.{Ends}
use Rattle.wbt_flusher.proofs.Ending.{ends_at_once, ends_undone, answers_by, told_none, come_by, come_dropped, wait_kept, rests_here, and_left, and_not_right}
use Rattle.wbt_flusher.specs.Took.{drains, tests}
use Rattle.wbt_flusher.specs.Cut as cut
use Rattle.wbt_flusher.proofs.Turning.{turn_rests, turn_takes}
use Rattle.wbt_flusher.proofs.plan.FlusherPlan.turn_rest.Goals as goal

pub returns-then-dropped-clause-answers : goal.returns-then-dropped-clause-answers
returns-then-dropped-clause-answers g c written =
    let told = g.C.Clock.told c.args.hands.now.clock.now in
    let t = c.take_last in
    let was = sight c.args.work.now c.args.seats.now c.args.pen.now.log written in
    let is = sight t.new.work t.new.seats t.new.pen.log written in
    let drains = and_left c.args.drain c.args.kept (sym c.is_dropped-dropped.ensures ∙ c.if-dropped.true) in
    answers_by c.args.self.now c.args.hands.now.kit.now c.args.drain told (g.G.Gate.said c.args.hands.now.gate.now) ⊥ t.result was is no_moments (told_none told) (λ drain. refl)
    (come_dropped told c.args.drain c.args.work.now.phase c.args.until c.args.kept c.is_dropped-dropped.result c.requires.phase c.is_dropped-dropped.ensures c.if-dropped.true)
    (subst (λ (b : Bool). Ends c.args.self.now c.args.hands.now.kit.now b no_moments (g.G.Gate.said c.args.hands.now.gate.now) ⊥ t.result was is) (sym drains) (t.ensures.ends no_moments written))

pub returns-then-now-until-clause-asked : goal.returns-then-now-until-clause-asked
returns-then-now-until-clause-asked g c = asked_none c.args.self.now.cpu (g.G.Gate.said c.args.hands.now.gate.now) c.args.seats.now c.args.seats.now refl

pub returns-then-now-until-clause-answers : goal.returns-then-now-until-clause-answers
returns-then-now-until-clause-answers g c written =
    rests_here c.args.self.now c.args.hands.now.kit.now c.args.drain (g.C.Clock.told c.args.hands.now.clock.now) c.told_moment-now.result c.args.until c.args.work.now c.args.seats.now c.args.pen.now.log written c.requires.ready
    c.told_moment-now.ensures.told (sym (wait_kept c.args.drain c.args.work.now.phase c.args.until c.args.kept c.is_dropped-dropped.result c.requires.phase c.is_dropped-dropped.ensures c.if-dropped.false)) c.if-now-until.true

pub returns-then-drain-clause-answers : goal.returns-then-drain-clause-answers
returns-then-drain-clause-answers g c written =
    let told = g.C.Clock.told c.args.hands.now.clock.now in
    let t = c.take_last-then-drain in
    let was = sight c.args.work.now c.args.seats.now c.args.pen.now.log written in
    let is = sight t.new.work t.new.seats t.new.pen.log written in
    answers_by c.args.self.now c.args.hands.now.kit.now c.args.drain told (g.G.Gate.said c.args.hands.now.gate.now) ⊥ t.result was is no_moments (told_none told) (λ drain. refl)
    (come_by told (wait_of c.args.drain c.args.work.now.phase) c.args.until c.told_moment-now.result
    (wait_kept c.args.drain c.args.work.now.phase c.args.until c.args.kept c.is_dropped-dropped.result c.requires.phase c.is_dropped-dropped.ensures c.if-dropped.false) c.told_moment-now.ensures.told c.if-now-until.false)
    (subst (λ (b : Bool). Ends c.args.self.now c.args.hands.now.kit.now b no_moments (g.G.Gate.said c.args.hands.now.gate.now) ⊥ t.result was is) (sym c.if-drain.true) (t.ensures.ends no_moments written))

pub returns-clause-answers : goal.returns-clause-answers
returns-clause-answers g c written =
    let told = g.C.Clock.told c.args.hands.now.clock.now in
    let t = c.turn_idle in
    let was = sight c.args.work.now c.args.seats.now c.args.pen.now.log written in
    let is = sight t.new.work t.new.seats t.new.pen.log written in
    let now = c.told_moment-now.result in
    let moments : Moments = record { batches = []; estimates = now ∷ [] } in
    answers_by c.args.self.now c.args.hands.now.kit.now c.args.drain told (g.G.Gate.said c.args.hands.now.gate.now) ⊥ t.result was is moments (record { batches = tt; estimates = (c.told_moment-now.ensures.told, tt) })
    (λ drain. absurd (true≢false (sym drain ∙ c.if-drain.false)))
    (come_by told (wait_of c.args.drain c.args.work.now.phase) c.args.until now
    (wait_kept c.args.drain c.args.work.now.phase c.args.until c.args.kept c.is_dropped-dropped.result c.requires.phase c.is_dropped-dropped.ensures c.if-dropped.false) c.told_moment-now.ensures.told c.if-now-until.false)
    (subst (λ (b : Bool). Ends c.args.self.now c.args.hands.now.kit.now b moments (g.G.Gate.said c.args.hands.now.gate.now) ⊥ t.result was is) (sym c.if-drain.false) (t.ensures.ends moments written (here now [])))

pub returns-then-dropped-clause-took : goal.returns-then-dropped-clause-took
returns-then-dropped-clause-took g c is written = drains (record {
  in_drain = and_left c.args.drain c.args.kept (sym c.is_dropped-dropped.ensures ∙ c.if-dropped.true);
  until = c.args.until;
  kept = c.args.kept;
  phase = c.requires.phase;
  come = inl (and_not_right c.args.drain c.args.kept (sym c.is_dropped-dropped.ensures ∙ c.if-dropped.true));
  takes = c.take_last.ensures.takes is written;
})

pub returns-then-drain-clause-took : goal.returns-then-drain-clause-took
returns-then-drain-clause-took g c is written = drains (record {
  in_drain = c.if-drain.true;
  until = c.args.until;
  kept = c.args.kept;
  phase = c.requires.phase;
  come = inr (c.told_moment-now.result, c.told_moment-now.ensures.told, c.if-now-until.false);
  takes = c.take_last-then-drain.ensures.takes is written;
})

pub returns-clause-took : goal.returns-clause-took
returns-clause-took g c is written = tests (record {
  outside = c.if-drain.false;
  until = c.args.until;
  kept = c.args.kept;
  phase = c.requires.phase;
  now = c.told_moment-now.result;
  was_told = c.told_moment-now.ensures.told;
  come = c.if-now-until.false;
  tests = c.turn_idle.ensures.tests is written;
})

pub returns-then-dropped-clause-halts : goal.returns-then-dropped-clause-halts
returns-then-dropped-clause-halts g c is written =
    cut.drains (and_left c.args.drain c.args.kept (sym c.is_dropped-dropped.ensures ∙ c.if-dropped.true)) c.args.until c.args.kept c.requires.phase
    (inl (and_not_right c.args.drain c.args.kept (sym c.is_dropped-dropped.ensures ∙ c.if-dropped.true))) (c.take_last.ensures.halts is written)

pub returns-then-drain-clause-halts : goal.returns-then-drain-clause-halts
returns-then-drain-clause-halts g c is written =
    cut.drains c.if-drain.true c.args.until c.args.kept c.requires.phase (inr (c.told_moment-now.result, c.told_moment-now.ensures.told, c.if-now-until.false))
    (c.take_last-then-drain.ensures.halts is written)

pub returns-clause-halts : goal.returns-clause-halts
returns-clause-halts g c is written =
    cut.tests c.if-drain.false c.args.until c.args.kept c.requires.phase c.told_moment-now.result c.told_moment-now.ensures.told c.if-now-until.false (c.turn_idle.ensures.halts is written)

-- ---- nothing to do

pub returns-then-dropped-clause-waits : goal.returns-then-dropped-clause-waits
returns-then-dropped-clause-waits g c n u is written =
    absurd (ends_at_once c.args.self.now c.args.hands.now.kit.now true no_moments (g.G.Gate.said c.args.hands.now.gate.now) ⊥ c.take_last.result (sight c.args.work.now c.args.seats.now c.args.pen.now.log written)
    (sight c.take_last.new.work c.take_last.new.seats c.take_last.new.pen.log written) n u (c.take_last.ensures.ends no_moments written) is)

pub returns-then-dropped-clause-done : goal.returns-then-dropped-clause-done
returns-then-dropped-clause-done g c is written = c.take_last.ensures.done is written

pub returns-then-drain-clause-waits : goal.returns-then-drain-clause-waits
returns-then-drain-clause-waits g c n u is written =
    absurd (ends_at_once c.args.self.now c.args.hands.now.kit.now true no_moments (g.G.Gate.said c.args.hands.now.gate.now) ⊥ c.take_last-then-drain.result (sight c.args.work.now c.args.seats.now c.args.pen.now.log written)
    (sight c.take_last-then-drain.new.work c.take_last-then-drain.new.seats c.take_last-then-drain.new.pen.log written) n u (c.take_last-then-drain.ensures.ends no_moments written) is)

pub returns-then-drain-clause-done : goal.returns-then-drain-clause-done
returns-then-drain-clause-done g c is written = c.take_last-then-drain.ensures.done is written

pub returns-clause-waits : goal.returns-clause-waits
returns-clause-waits g c n u is written =
    let now = c.told_moment-now.result in
    let moments : Moments = record { batches = []; estimates = now ∷ [] } in
    absurd (ends_at_once c.args.self.now c.args.hands.now.kit.now false moments (g.G.Gate.said c.args.hands.now.gate.now) ⊥ c.turn_idle.result (sight c.args.work.now c.args.seats.now c.args.pen.now.log written)
    (sight c.turn_idle.new.work c.turn_idle.new.seats c.turn_idle.new.pen.log written) n u (c.turn_idle.ensures.ends moments written (here now [])) is)

pub returns-clause-done : goal.returns-clause-done
returns-clause-done g c is written =
    let now = c.told_moment-now.result in
    let moments : Moments = record { batches = []; estimates = now ∷ [] } in
    absurd (ends_undone c.args.self.now c.args.hands.now.kit.now moments (g.G.Gate.said c.args.hands.now.gate.now) ⊥ c.turn_idle.result (sight c.args.work.now c.args.seats.now c.args.pen.now.log written)
    (sight c.turn_idle.new.work c.turn_idle.new.seats c.turn_idle.new.pen.log written) (c.turn_idle.ensures.ends moments written (here now [])) is)

-- ---- kinds of steps

pub returns-then-dropped-clause-kinds : goal.returns-then-dropped-clause-kinds
returns-then-dropped-clause-kinds g c = turn_takes c.args.self.now.cpu c.args.self.now.domains c.take_last.result c.args.seats.now c.take_last.new.seats c.take_last.ensures.kinds

pub returns-then-now-until-clause-kinds : goal.returns-then-now-until-clause-kinds
returns-then-now-until-clause-kinds g c = turn_rests c.args.self.now.cpu c.args.self.now.domains (Resting c.told_moment-now.result c.args.until) c.args.seats.now c.args.seats.now refl

pub returns-then-drain-clause-kinds : goal.returns-then-drain-clause-kinds
returns-then-drain-clause-kinds g c =
    let t = c.take_last-then-drain in
    turn_takes c.args.self.now.cpu c.args.self.now.domains t.result c.args.seats.now t.new.seats t.ensures.kinds
