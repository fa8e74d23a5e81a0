-- How the tasks of a trace begin: one pass over its actions gives each task its first one and the pages that it writes.
use Rattle.std.specs.Prelude.{◌≡◌, ℕ, ◌+◌, ◌*◌, ◌<◌, ◌≤◌, ◌⊎◌, ◌==◌, ◌&&◌, not, Bool, false, true, cond, Some, length, drop, slice_get}
use Rattle.wbt_journal.specs.Machine.{pages_of_task, rests_after, rests_last}
use Rattle.wbt_num.specs.declared.most.TheConstants.{MOST_PAGES, MOST_WRITERS}
use Rattle.wbt_trace.specs.declared.trace.Action.{Action}
use Rattle.wbt_trace.specs.declared.trace.Action.TheVariants.{Write, Rest}
use Rattle.wbt_trace.specs.declared.trace.Trace.{Trace}
use Rattle.wbt_writer.specs.Ahead.{Skips, by_of, pages_from}
use Rattle.wbt_writer.specs.declared.task.TaskPlace.{TaskPlace}

-- a task of which no action was seen, of so many
abbrev pub new_task : (own : Bool) (actions : ℕ) → TaskPlace
new_task own actions = record {
  own = own;
  at = actions;
  done = 0;
  written = 0;
  todo = 0;
  rests_last = false;
  since = 0;
  ended = false;
  rest = 0;
  writer = MOST_WRITERS;
  context = 0;
}

-- it stands at the first of its actions
abbrev pub first_action_from : (now at actions : ℕ) → ℕ
first_action_from now at actions = cond (now == actions) at now

-- with an action of its own more
abbrev pub seen_more : (x : TaskPlace) (at actions : ℕ) (action : Action) → TaskPlace
seen_more x at actions (Write by inode from pages) = record x { at = first_action_from x.at at actions; todo = x.todo + pages; rests_last = false }
seen_more x at actions (Rest by ticks) = record x { at = first_action_from x.at at actions; rests_last = true }

-- a task without pages has ended, but for one that rests last
abbrev pub begun : (x : TaskPlace) → TaskPlace
begun x = record x { ended = not x.rests_last && (x.todo == 0) }

-- it stands at its first action, and before such a one after all that were seen
abbrev pub StandsFirst : (trace : Trace) (task i at : ℕ) → Type 0
StandsFirst trace task i at = ((at ≡ length trace.actions) × Skips task 0 i trace.actions)
    ⊎ ((at < length trace.actions) × (Skips task 0 at trace.actions × ((action : Action) → slice_get trace.actions at ≡ Some action → by_of action ≡ task)))

-- the task once so many actions were seen
pub record HasSeen (trace : Trace) (own : Bool) (task i : ℕ) (x : TaskPlace) : Type 0 where
  pub plain : x ≡ record (new_task own (length trace.actions)) { at = x.at; todo = x.todo; rests_last = x.rests_last }
  pub todo : x.todo + length (pages_from trace task i) ≡ length (pages_of_task trace task)
  pub few : x.todo ≤ i * MOST_PAGES
  pub rests : rests_after task x.rests_last (drop i trace.actions) ≡ rests_last trace task
  pub stands : StandsFirst trace task i x.at
