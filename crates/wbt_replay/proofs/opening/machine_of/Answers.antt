use Rattle.std.proofs.Common.{List, length, replicate, false, [], refl, ◌∙◌, ap}
use Rattle.wbt_limits.specs.Thresholds.{ratelimit_pages_of}
use Rattle.wbt_limits.specs.declared.domain.Pair.{Pair}
use Rattle.wbt_replay_order.proofs.Common.{pages_in, Device, FlusherLine, Inode, ReplayTask, steps_of}
use Rattle.wbt_replay_order.specs.Definition.Opening.{running_of}
use Rattle.wbt_replay.proofs.Ordering.Firsts.{opening_is}
use Rattle.wbt_replay.proofs.opening.machine_of.Goals as goal

pub returns : goal.returns
returns c =
    let trace = c.args.trace.now in
    opening_is trace _ refl
    (c.in_ok-new.ensures.count ∙ c.pages_of-pages.ensures ∙ ap pages_in c.as_slice.ensures)
    c.in_ok-new.ensures.clean
    (c.ratelimit_pages.ensures.value ∙ ap (λ (p : Pair). ratelimit_pages_of p.thresh trace.cpus) c.thresholds_at-thresh.ensures)
    c.in_ok-first_domains.ensures
    c.in_ok-first_contexts.ensures
    (c.in_ok-filled.ensures ∙ ap (λ (l : List Inode). replicate (length l) false) c.as_slice-3.ensures)
    (c.in_ok-no_queues.ensures ∙ ap (λ (l : List Device). replicate (length l) []) c.as_slice-4.ensures)
    c.in_ok-tasks.ensures
    c.in_ok-first_flushers.ensures
    c.in_ok-first_cpus.ensures
    (c.running_of-running.ensures ∙ ap (λ (l : List ReplayTask). running_of l) (c.as_slice-2.ensures.value ∙ c.in_ok-tasks.ensures))
    (ap (λ (l : List FlusherLine). length l) c.as_slice-5.ensures)
    refl refl
    c.in_ok-first_orders.ensures
    refl
    c.in_ok-first_timer.ensures
    (ap steps_of c.new-2.ensures)
    refl
