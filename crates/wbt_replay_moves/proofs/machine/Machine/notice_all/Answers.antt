use Rattle.std.proofs.Common.{length, ap, subst, sym, ◌∙◌, arith}
use Rattle.wbt_replay_moves.specs.Definition.State.{State}
use Rattle.wbt_replay_moves.specs.Kept.Fit.{NoticesFit}
use Rattle.wbt_replay_moves.specs.Seen.{seen}
use Rattle.wbt_replay_moves.proofs.Ageing.{next_fits, next_cpus, notices_end, notices_go}
use Rattle.wbt_replay_moves.proofs.machine.Machine.notice_all.Goals as goal

pub loop-preserved : goal.loop-preserved
loop-preserved c =
    let s = seen c.loop.self in
    let t = seen c.notice_next.new.self in
    let is = c.in_ok-notice_next.ensures in
    record {
      same = notices_go c.args.trace.now c.args.cpu c.args.flusher c.args.since 64 c.loop.counter c.loop-test.true s t is ∙ c.loop.invariant.same;
      cpu = omega (arith, c.loop.invariant.cpu, ap (λ (x : State). length x.cpus) is, next_cpus c.args.trace.now c.args.cpu c.args.flusher c.args.since s);
      fits = subst (NoticesFit c.args.trace.now c.args.flusher c.args.since) (sym is) (next_fits c.args.trace.now c.args.cpu c.args.flusher c.args.since s c.loop.invariant.fits);
    }

pub returns : goal.returns
returns c =
    let past = c.loop-test.false in
    sym (notices_end c.args.trace.now c.args.cpu c.args.flusher c.args.since 64 c.loop.counter (omega arith) (seen c.loop.self)) ∙ c.loop.invariant.same
