use Rattle.std.proofs.Common.{◌≡◌, ◌+◌, ◌-◌, ◌^◌, false, sym, ◌∙◌, ap, subst, arith}
use Rattle.wbt_replay_order.proofs.Common.{State, seen, advance, is_ended, run, HasRoom, Sound}
use Rattle.wbt_replay_order.proofs.Growth.Runs.{run_ended, run_more, run_none}
use Rattle.wbt_replay.proofs.Ordering.Keeping.{sound_kept}
use Rattle.wbt_replay.proofs.order.run.Goals as goal

pub returns-then-is_ended : goal.returns-then-is_ended
returns-then-is_ended c =
    sym (run_ended c.args.trace.now (2 ^ 40 - c.loop.counter) (seen c.loop.machine) (sym c.is_ended.ensures ∙ c.if-is_ended.true)) ∙ c.loop.invariant.same

pub loop-preserved : goal.loop-preserved
loop-preserved c =
    let trace = c.args.trace.now in
    let n = c.loop.counter in
    let before = seen c.loop.machine in
    let next : seen c.advance.new.machine ≡ advance trace before = c.in_ok-advance.ensures in
    let more : is_ended before ≡ false = sym c.is_ended.ensures ∙ c.if-is_ended.false in
    let kept = sound_kept trace before c.requires.facts c.loop.invariant.sound c.loop.invariant.room more in
    record {
      same = ap (λ (s : State). run trace (2 ^ 40 - (n + 1)) s) next
          ∙ sym (run_more trace (2 ^ 40 - n) (2 ^ 40 - (n + 1)) before (omega (arith, c.loop-test.true)) more) ∙ c.loop.invariant.same;
      sound = subst (Sound trace) (sym next) kept.0;
      room = subst (HasRoom trace) (sym next) kept.1;
    }

pub returns : goal.returns
returns c = sym (run_none c.args.trace.now (2 ^ 40 - c.loop.counter) (seen c.loop.machine) (omega (arith, c.loop-test.false))) ∙ c.loop.invariant.same
