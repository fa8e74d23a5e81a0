use Rattle.std.proofs.Common.{◌≡◌, ℕ, ◌+◌, ◌-◌, List, [], ◌∷◌, ◌++◌, length, take, drop, replicate, sym, ◌∙◌, ap, subst, arith, length-drop}
use Rattle.std.proofs.lemmas.List.{take_all}
use Rattle.wbt_replay_order.proofs.Common.{StepEntry, no_step, steps_of}
use Rattle.wbt_forecast_rows.specs.Small.{AreSmall}
use Rattle.wbt_forecast_rows.specs.Tally.{after_steps}
use Rattle.wbt_forecast_rows.specs.declared.tally.TheConstants.{MOST_TOLD}
use Rattle.wbt_forecast.proofs.Telling.Lists.{first_steps, last_steps, one_more, small_less, steps_none, steps_on}
use Rattle.wbt_forecast.proofs.counting.count_steps.Goals as goal

pub returns-then-more-kept-clause-value : goal.returns-then-more-kept-clause-value
returns-then-more-kept-clause-value c =
    let m = c.args.steps.now in
    let kept = c.kept-kept.result.now in
    let more = c.args.made - c.args.counted in
    let from = length kept - more in
    let is : more ≡ length (steps_of m) - c.args.counted = omega (arith, c.requires.made) in
    let long = ap (λ (l : List StepEntry). length l) c.kept-kept.ensures in
    let all : take (length kept - from) (drop from kept) ≡ drop from kept =
    take_all (length kept - from) (drop from kept) (omega (arith, length-drop from kept)) in
    let same : drop from kept ≡ drop (length m.kept - more) m.kept = ap (λ (l : List StepEntry). drop (length l - more) l) c.kept-kept.ensures in
    c.count_steps.ensures.value
    ∙ ap (λ (l : List StepEntry). after_steps c.args.trace.now l c.args.interval.now)
    (all ∙ (same ∙ last_steps m c.args.counted more is (omega (arith, c.requires.made, c.requires.counted)) (omega (arith, long, c.if-more-kept.true))))

pub returns-then-more-kept-clause-small : goal.returns-then-more-kept-clause-small
returns-then-more-kept-clause-small c = λ most small.
    let kept = c.kept-kept.result.now in
    let more = c.args.made - c.args.counted in
    let from = length kept - more in
    let all : take (length kept - from) (drop from kept) ≡ drop from kept =
    take_all (length kept - from) (drop from kept) (omega (arith, length-drop from kept)) in
    let long = ap (λ (l : List StepEntry). length l) all in
    let same : most + length (take (length kept - from) (drop from kept)) ≡ most + more =
    omega (arith, long, length-drop from kept, c.if-more-kept.true) in
    subst (λ (n : ℕ). AreSmall n c.count_steps.new.self) same (c.count_steps.ensures.small most small)

pub loop-step-init : goal.loop-step-init
loop-step-init c =
    let t = c.args.interval.now in
    let none : 0 ≡ length c.kept-kept.result.now - length c.kept-kept.result.now = omega arith in
    record {
      value = sym (steps_none c.args.trace.now t) ∙ ap (λ (n : ℕ). after_steps c.args.trace.now (replicate n no_step) t) none;
      small = λ most small. (
          let same : most ≡ most + (length c.kept-kept.result.now - length c.kept-kept.result.now) = omega arith in
          subst (λ (n : ℕ). AreSmall n t) same small
          );
    }

pub count_steps-requires-in-loop-step-clause-small : goal.count_steps-requires-in-loop-step-clause-small
count_steps-requires-in-loop-step-clause-small c =
    let done = c.loop-step._step - length c.kept-kept.result.now in
    small_less (c.requires.small.0 + done) MOST_TOLD c.loop-step.interval
    (omega (arith, c.requires.small.2, c.loop-step-test.true))
    (c.loop-step.invariant.small c.requires.small.0 c.requires.small.1)

pub loop-step-preserved : goal.loop-step-preserved
loop-step-preserved c =
    let t = c.args.interval.now in
    let long = length c.kept-kept.result.now in
    let done = c.loop-step._step - long in
    let next : done + 1 ≡ c.loop-step._step + 1 - long = omega (arith, c.loop-step.auto._step) in
    record {
      value = c.count_steps-in-loop-step.ensures.value
          ∙ (ap (after_steps c.args.trace.now (no_step ∷ [])) c.loop-step.invariant.value
          ∙ (steps_on c.args.trace.now (replicate done no_step) (no_step ∷ []) t
          ∙ ap (λ (l : List StepEntry). after_steps c.args.trace.now l t) (one_more done ∙ ap (λ (n : ℕ). replicate n no_step) next)));
      small = λ most small. (
          let same : most + done + 1 ≡ most + (c.loop-step._step + 1 - long) = omega (arith, next) in
          subst (λ (n : ℕ). AreSmall n c.count_steps-in-loop-step.new.self) same
          (c.count_steps-in-loop-step.ensures.small (most + done) (c.loop-step.invariant.small most small))
          );
    }

pub count_steps-requires-2-clause-small : goal.count_steps-requires-2-clause-small
count_steps-requires-2-clause-small c =
    let done = c.loop-step._step - length c.kept-kept.result.now in
    small_less (c.requires.small.0 + done) MOST_TOLD c.loop-step.interval
    (omega (arith, c.requires.small.2, c.loop-step.auto._step-end, c.if-more-kept.false))
    (c.loop-step.invariant.small c.requires.small.0 c.requires.small.1)

pub returns-clause-value : goal.returns-clause-value
returns-clause-value c =
    let m = c.args.steps.now in
    let t = c.args.interval.now in
    let kept = c.kept-kept.result.now in
    let more = c.args.made - c.args.counted in
    let is : more ≡ length (steps_of m) - c.args.counted = omega (arith, c.requires.made) in
    let long = ap (λ (l : List StepEntry). length l) c.kept-kept.ensures in
    let done : c.loop-step._step - length kept ≡ more - length m.kept =
    omega (arith, long, c.loop-step-test.false, c.loop-step.auto._step-end, c.if-more-kept.false) in
    c.count_steps-2.ensures.value
    ∙ (ap (after_steps c.args.trace.now kept) c.loop-step.invariant.value
    ∙ (steps_on c.args.trace.now (replicate (c.loop-step._step - length kept) no_step) kept t
    ∙ ap (λ (l : List StepEntry). after_steps c.args.trace.now l t)
    (ap (λ (n : ℕ). replicate n no_step ++ kept) done
    ∙ (ap (λ (l : List StepEntry). replicate (more - length m.kept) no_step ++ l) c.kept-kept.ensures
    ∙ first_steps m c.args.counted more is (omega (arith, c.requires.made, c.requires.counted)) (omega (arith, long, c.if-more-kept.false))))))

pub returns-clause-small : goal.returns-clause-small
returns-clause-small c = λ most small.
    let long = length c.kept-kept.result.now in
    let done = c.loop-step._step - long in
    let same : most + done + long ≡ most + (c.args.made - c.args.counted) =
    omega (arith, c.loop-step-test.false, c.loop-step.auto._step, c.loop-step.auto._step-end, c.if-more-kept.false) in
    subst (λ (n : ℕ). AreSmall n c.count_steps-2.new.self) same
    (c.count_steps-2.ensures.small (most + done) (c.loop-step.invariant.small most small))
