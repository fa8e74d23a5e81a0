use Rattle.std.proofs.Common.{◌≡◌, inl, inr, true≢false, sym, ◌∙◌, arith}
use Rattle.std.proofs.lemmas.Result.{IfOk-weaker, on_ok_weaker}
use Rattle.wbt_forecast_run.specs.Run as spec
use Rattle.wbt_forecast.proofs.foretell.foretell.Goals as goal

pub returns-then-is_ended-clause-told : goal.returns-then-is_ended-clause-told
returns-then-is_ended-clause-told g c =
    on_ok_weaker c.finish.result
    (λ told. told c.loop-move._move (g.K.Sink.held c.args.sink.now) c.loop-move.invariant.telling (inl (sym c.is_ended.ensures ∙ c.if-is_ended.true)))
    c.finish.ensures.told

pub returns-then-is_ended-clause-ending : goal.returns-then-is_ended-clause-ending
returns-then-is_ended-clause-ending g c =
    IfOk-weaker c.finish.result _ (λ ending. ending ≡ (spec.forecast c.args.trace.now c.args.every).ending)
    (λ ending told. told c.loop-move._move (g.K.Sink.held c.args.sink.now) c.loop-move.invariant.telling (inl (sym c.is_ended.ensures ∙ c.if-is_ended.true)))
    c.finish.ensures.ending

pub returns-then-is_ended-clause-part : goal.returns-then-is_ended-clause-part
returns-then-is_ended-clause-part g c = λ bad.
    c.finish.ensures.part bad c.loop-move._move (g.K.Sink.held c.args.sink.now) c.loop-move.invariant.telling (inl (sym c.is_ended.ensures ∙ c.if-is_ended.true))

pub returns-in_err-tell_move-clause-part : goal.returns-in_err-tell_move-clause-part
returns-in_err-tell_move-clause-part g c = λ bad.
    c.in_err-tell_move.ensures.part (λ ok. true≢false (sym ok)) c.loop-move._move (g.K.Sink.held c.args.sink.now) (omega arith) c.loop-move.invariant.telling

pub loop-move-preserved : goal.loop-move-preserved
loop-move-preserved g c = record {
  telling = c.in_ok-tell_move.ensures.told c.loop-move._move (g.K.Sink.held c.args.sink.now) (omega arith) c.loop-move.invariant.telling;
  later = omega (arith, c.in_ok-tell_move.ensures.later, c.loop-move.invariant.later);
}

pub returns-clause-told : goal.returns-clause-told
returns-clause-told g c =
    on_ok_weaker c.finish-2.result
    (λ told. told c.loop-move._move (g.K.Sink.held c.args.sink.now) c.loop-move.invariant.telling (inr (omega arith)))
    c.finish-2.ensures.told

pub returns-clause-ending : goal.returns-clause-ending
returns-clause-ending g c =
    IfOk-weaker c.finish-2.result _ (λ ending. ending ≡ (spec.forecast c.args.trace.now c.args.every).ending)
    (λ ending told. told c.loop-move._move (g.K.Sink.held c.args.sink.now) c.loop-move.invariant.telling (inr (omega arith)))
    c.finish-2.ensures.ending

pub returns-clause-part : goal.returns-clause-part
returns-clause-part g c = λ bad.
    c.finish-2.ensures.part bad c.loop-move._move (g.K.Sink.held c.args.sink.now) c.loop-move.invariant.telling (inr (omega arith))
