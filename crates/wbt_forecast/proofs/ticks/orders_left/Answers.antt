use Rattle.std.proofs.Common.{◌+◌, ◌<◌, ◌++◌, length, take, drop, get_or, refl, ◌∙◌, arith}
use Rattle.wbt_replay_order.proofs.Common.{Stretch, ticks_of}
use Rattle.wbt_replay_moves.specs.declared.state.Stretch.TheVariants as stretch
use Rattle.wbt_forecast.proofs.Turning.{sum_all, sum_next, sum_to, turned_all, turned_first, turned_more, turned_none}
use Rattle.wbt_forecast.proofs.ticks.orders_left.Goals as goal

abbrev none : Stretch
none = stretch.Tick 0

pub loop-line-init : goal.loop-line-init
loop-line-init c = record { turns = turned_none c.args.orders.now; counts = refl }

pub overflow_add-ticks : goal.overflow_add-ticks
overflow_add-ticks c =
    let xs = c.args.orders.now in
    let i = c.loop-line._line in
    let less : i < length xs = omega arith in
    let told = c.in_ok-more.ensures (get_or xs i none) (drop (i + 1) xs ++ take i xs) (c.loop-line.invariant.turns ∙ turned_first xs i none less) in
    omega (arith, told.0, c.loop-line.invariant.counts, sum_to ticks_of xs i none less, c.requires)

pub loop-line-preserved : goal.loop-line-preserved
loop-line-preserved c =
    let xs = c.args.orders.now in
    let i = c.loop-line._line in
    let less : i < length xs = omega arith in
    let told = c.in_ok-more.ensures (get_or xs i none) (drop (i + 1) xs ++ take i xs) (c.loop-line.invariant.turns ∙ turned_first xs i none less) in
    record {
      turns = told.1 ∙ turned_more xs i none less;
      counts = omega (arith, told.0, c.loop-line.invariant.counts, sum_next ticks_of xs i none less);
    }

pub returns-clause-answer : goal.returns-clause-answer
returns-clause-answer c =
    let xs = c.args.orders.now in
    c.loop-line.invariant.counts ∙ sum_all ticks_of xs c.loop-line._line (omega arith)

pub returns-clause-same : goal.returns-clause-same
returns-clause-same c =
    let xs = c.args.orders.now in
    c.loop-line.invariant.turns ∙ turned_all xs c.loop-line._line (omega arith)
