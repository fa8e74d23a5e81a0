use Rattle.std.proofs.Common.{◌+◌, ◌<◌, ◌++◌, length, take, drop, get_or, refl, ◌∙◌, arith}
use Rattle.wbt_replay_order.proofs.Common.{ReplayWork, rest_of}
use Rattle.wbt_replay_moves.specs.declared.state.ReplayWork.TheVariants as work
use Rattle.wbt_forecast.proofs.Turning.{sum_all, sum_next, sum_to, turned_all, turned_first, turned_more, turned_none}
use Rattle.wbt_forecast.proofs.ticks.works_left.Goals as goal

abbrev none : ReplayWork
none = work.Rest 0

pub loop-work-init : goal.loop-work-init
loop-work-init c = record { turns = turned_none c.args.works.now; counts = refl }

pub overflow_add-ticks : goal.overflow_add-ticks
overflow_add-ticks c =
    let xs = c.args.works.now in
    let i = c.loop-work._work in
    let less : i < length xs = omega arith in
    let told = c.in_ok-more.ensures (get_or xs i none) (drop (i + 1) xs ++ take i xs) (c.loop-work.invariant.turns ∙ turned_first xs i none less) in
    omega (arith, told.0, c.loop-work.invariant.counts, sum_to rest_of xs i none less, c.requires)

pub loop-work-preserved : goal.loop-work-preserved
loop-work-preserved c =
    let xs = c.args.works.now in
    let i = c.loop-work._work in
    let less : i < length xs = omega arith in
    let told = c.in_ok-more.ensures (get_or xs i none) (drop (i + 1) xs ++ take i xs) (c.loop-work.invariant.turns ∙ turned_first xs i none less) in
    record {
      turns = told.1 ∙ turned_more xs i none less;
      counts = omega (arith, told.0, c.loop-work.invariant.counts, sum_next rest_of xs i none less);
    }

pub returns-clause-answer : goal.returns-clause-answer
returns-clause-answer c =
    let xs = c.args.works.now in
    c.loop-work.invariant.counts ∙ sum_all rest_of xs c.loop-work._work (omega arith)

pub returns-clause-same : goal.returns-clause-same
returns-clause-same c =
    let xs = c.args.works.now in
    c.loop-work.invariant.turns ∙ turned_all xs c.loop-work._work (omega arith)
