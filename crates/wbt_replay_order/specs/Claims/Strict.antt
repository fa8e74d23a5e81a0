-- What the lines of strict devices claim: the most pages that each such context had, and that they are within its bound.
use Rattle.std.specs.Prelude.{◌≡◌, ℕ, ◌<◌, ◌≤◌, true, length, Contains, All}
use Rattle.wbt_grant.specs.State.{context_count}
use Rattle.wbt_journal.specs.declared.journal.StrictLine.{StrictLine}
use Rattle.wbt_rules.specs.Strict.{is_strict}
use Rattle.wbt_trace.specs.declared.trace.Trace.{Trace}
use Rattle.wbt_replay_order.specs.Definition.Run.{state_at, last_state, journal_of}
use Rattle.wbt_replay_order.specs.Definition.Strict.{line_for}
use Rattle.wbt_replay_order.specs.Claims.Setting.{setting_of}

-- a context's exact count by the book after so many moves: its dirty pages and those under writeback
abbrev pub exact_pages : (trace : Trace) (moves context : ℕ) → ℕ
exact_pages trace moves context = context_count (setting_of trace) (state_at trace moves).book context

-- A line tells the greatest exact count of its context: at no moment of the run did the context have more pages, and at some as many.
-- They are within the line's bound.
pub record IsWithin (trace : Trace) (line : StrictLine) : Type 0 where
  pub context : line.context < length trace.contexts
  pub strict : is_strict trace line.context ≡ true
  pub at_most : (moves : ℕ) → exact_pages trace moves line.context ≤ line.most
  pub reached : (moves : ℕ) × (exact_pages trace moves line.context ≡ line.most)
  pub bounded : line.most ≤ line.bound

-- So is each line, and each context of a strict device has its line.
pub record StaysWithinStrict (trace : Trace) : Type 0 where
  pub lines : All (IsWithin trace) (journal_of trace).strict
  pub each : (context : ℕ) → context < length trace.contexts → is_strict trace context ≡ true
      → Contains (journal_of trace).strict (line_for trace (last_state trace).steps (last_state trace).cpus context)
