use Rattle.std.proofs.Common.{◌+◌, ◌*◌, length, take, subst, sym, All, arith}
use Rattle.wbt_forecast_rows.specs.Small.{IsSmallContext}
use Rattle.wbt_forecast_rows.specs.declared.tally.TheConstants.{MOST_TOLD}
use Rattle.wbt_forecast_rows.proofs.Looping.{contexts_end, contexts_first, contexts_next, front_is_short}
use Rattle.wbt_forecast_rows.proofs.Smalls.{contexts_less, contexts_small}
use Rattle.wbt_forecast_rows.proofs.contexts.count_entries.Goals as goal

pub loop-entry-init : goal.loop-entry-init
loop-entry-init c = contexts_first c.args.trace.now c.args.tallies.now

pub count_entry-requires-clause-small : goal.count_entry-requires-clause-small
count_entry-requires-clause-small c =
    let entries = c.args.entries.now in
    let i = c.loop-entry.entry-index in
    let short = front_is_short i entries MOST_TOLD c.requires.few in
    contexts_less (MOST_TOLD + length (take i entries)) (2 * MOST_TOLD) c.loop-entry.tallies (omega (arith, short))
    (subst (All (IsSmallContext (MOST_TOLD + length (take i entries)))) (sym c.loop-entry.invariant)
    (contexts_small c.args.trace.now (take i entries) MOST_TOLD c.args.tallies.now c.requires.small))

pub loop-entry-preserved : goal.loop-entry-preserved
loop-entry-preserved c =
    contexts_next c.args.trace.now c.args.entries.now c.loop-entry.entry-index _ c.args.tallies.now c.loop-entry.tallies c.count_entry.new.tallies (omega arith)
    c.loop-entry.invariant c.count_entry.ensures

pub returns-clause-small : goal.returns-clause-small
returns-clause-small c = λ most all.
    let entries = c.args.entries.now in
    subst (All (IsSmallContext (most + length entries)))
    (sym (contexts_end c.args.trace.now entries c.loop-entry.entry-index c.args.tallies.now c.loop-entry.tallies (omega arith) c.loop-entry.invariant))
    (contexts_small c.args.trace.now entries most c.args.tallies.now all)
