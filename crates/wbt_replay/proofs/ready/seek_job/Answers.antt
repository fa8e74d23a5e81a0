use Rattle.std.proofs.Common.{◌≡◌, ℕ, List, ◌+◌, ◌-◌, ◌<◌, true, false, length, get_or, sym, ◌∙◌, ap, arith}
use Rattle.std.proofs.lemmas.List.{get_or_default}
use Rattle.wbt_replay_order.proofs.Common.{seen, ReplayJob, after, is_nothing, job_at, job_turn, seek_job}
use Rattle.wbt_replay_moves.specs.declared.state.ReplayJob.TheVariants as job
use Rattle.wbt_replay.proofs.Ordering.Seeking.{after_below, job_hit, job_miss, job_none}
use Rattle.wbt_replay.proofs.ready.seek_job.Goals as goal

pub returns-then-not-is_nothing : goal.returns-then-not-is_nothing
returns-then-not-is_nothing c =
    let s = seen c.args.machine.now in
    let at = c.args.at.now in
    let list = c.as_slice-jobs.result.now in
    let is : list ≡ at.jobs = c.as_slice-jobs.ensures in
    let many : length list ≡ length at.jobs = ap length is in
    let less : c.loop.place < length at.jobs = c.loop.invariant.there (omega (arith, c.loop-test.true, many)) in
    let turn : c.job_turn-found.result ≡ job_turn at s c.loop.place (job_at c.loop.place at) =
    c.job_turn-found.ensures ∙ ap (job_turn at s c.loop.place) (sym (ap (λ (l : List ReplayJob). get_or l c.loop.place job.Writer) (sym is) ∙ get_or_default list c.loop.place job.Writer _ (omega (arith, less, many)))) in
    let yes : is_nothing (job_turn at s c.loop.place (job_at c.loop.place at)) ≡ false =
    ap is_nothing (sym turn) ∙ sym c.is_nothing.ensures ∙ c.if-not-is_nothing.true in
    turn ∙ sym (job_hit at s (length at.jobs - c.loop.counter) c.loop.place (omega (arith, c.loop-test.true, many)) yes) ∙ c.loop.invariant.same

pub loop-preserved : goal.loop-preserved
loop-preserved c =
    let s = seen c.args.machine.now in
    let at = c.args.at.now in
    let list = c.as_slice-jobs.result.now in
    let is : list ≡ at.jobs = c.as_slice-jobs.ensures in
    let many : length list ≡ length at.jobs = ap length is in
    let next = c.after-place.ensures ∙ ap (λ (n : ℕ). after n c.loop.place) many in
    let less : c.loop.place < length at.jobs = c.loop.invariant.there (omega (arith, c.loop-test.true, many)) in
    let turn : c.job_turn-found.result ≡ job_turn at s c.loop.place (job_at c.loop.place at) =
    c.job_turn-found.ensures ∙ ap (job_turn at s c.loop.place) (sym (ap (λ (l : List ReplayJob). get_or l c.loop.place job.Writer) (sym is) ∙ get_or_default list c.loop.place job.Writer _ (omega (arith, less, many)))) in
    let no : is_nothing (job_turn at s c.loop.place (job_at c.loop.place at)) ≡ true =
    ap is_nothing (sym turn) ∙ sym c.is_nothing.ensures ∙ c.if-not-is_nothing.false in
    record {
      same = ap (seek_job at s (length at.jobs - (c.loop.counter + 1))) next
          ∙ sym (job_miss at s (length at.jobs - c.loop.counter) (length at.jobs - (c.loop.counter + 1)) c.loop.place (omega (arith, c.loop-test.true, many)) no)
          ∙ c.loop.invariant.same;
      there = λ some. omega (arith, next, after_below (length at.jobs) c.loop.place some);
    }

pub returns : goal.returns
returns c =
    let at = c.args.at.now in
    let list = c.as_slice-jobs.result.now in
    let is : list ≡ at.jobs = c.as_slice-jobs.ensures in
    let many : length list ≡ length at.jobs = ap length is in
    sym (job_none at (seen c.args.machine.now) (length at.jobs - c.loop.counter) c.loop.place (omega (arith, c.loop-test.false, many))) ∙ c.loop.invariant.same
