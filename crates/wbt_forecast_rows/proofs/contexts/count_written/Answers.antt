use Rattle.std.proofs.Common.{◌∙◌, arith, sym}
use Rattle.wbt_forecast_rows.proofs.Looping.{written_at, written_none, written_past}
use Rattle.wbt_forecast_rows.proofs.contexts.count_written.Goals as goal

pub returns-then-place-tallies : goal.returns-then-place-tallies
returns-then-place-tallies c = λ flusher.
    written_at c.args.trace.now flusher c.args.page c.args.tallies.now c.in-Some.context _ (sym c.context_of_page.ensures ∙ c.in-Some.is) (omega arith)

pub returns-else-place-tallies : goal.returns-else-place-tallies
returns-else-place-tallies c = λ flusher.
    written_past c.args.trace.now flusher c.args.page c.args.tallies.now c.in-Some.context (sym c.context_of_page.ensures ∙ c.in-Some.is) (omega arith)

pub returns-in_default : goal.returns-in_default
returns-in_default c = λ flusher.
    written_none c.args.trace.now flusher c.args.page c.args.tallies.now (sym c.context_of_page.ensures ∙ c.in_default.is)
