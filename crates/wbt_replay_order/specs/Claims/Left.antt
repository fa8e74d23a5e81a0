-- The pages that the journal tells as left.
use Rattle.std.specs.Prelude.{◌≡◌, ℕ, ◌<◌}
use Rattle.wbt_trace.specs.Sofar.{pages_in}
use Rattle.wbt_trace.specs.declared.trace.Trace.{Trace}
use Rattle.wbt_counter.specs.Sums.{one_if}
use Rattle.wbt_journal.specs.Leaves.{left_dirty, left_writeback}
use Rattle.wbt_replay_order.specs.Definition.Run.{last_state, journal_of}

-- Each page of the trace stands in the list once as dirty where the book has it so at the end, and else not; likewise as under
-- writeback.
pub record TellsLeft (trace : Trace) : Type 0 where
  pub dirty : (p : ℕ) → p < pages_in trace.inodes → left_dirty p (journal_of trace).left ≡ one_if ((last_state trace).book p).dirty
  pub writeback : (p : ℕ) → p < pages_in trace.inodes → left_writeback p (journal_of trace).left ≡ one_if ((last_state trace).book p).writeback
