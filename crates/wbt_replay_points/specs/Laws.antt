-- What is shown of the journal of a run that is in range, follows the step relation and ends.
use Rattle.std.specs.Prelude.{◌≡◌}
use Rattle.wbt_trace.specs.Lawful.{IsLawful}
use Rattle.wbt_trace.specs.declared.trace.Trace.{Trace}
use Rattle.wbt_journal.specs.Lawful as law
use Rattle.wbt_journal.specs.declared.journal.Ending.TheVariants as ending
use Rattle.wbt_replay_order.specs.Claims.Bound.{HasEnded, IsBounded, IsBoundedCloser, IsCounted, PrintsBound}
use Rattle.wbt_replay_order.specs.Claims.Complete.{CompletesAll}
use Rattle.wbt_replay_order.specs.Claims.Decided.{AreDecided}
use Rattle.wbt_replay_order.specs.Claims.Path.{IsFollowed}
use Rattle.wbt_replay_order.specs.Claims.Strict.{StaysWithinStrict}
use Rattle.wbt_replay_order.specs.Definition.Run.{journal_of}
use Rattle.wbt_replay_order.specs.Kept.InRange.{StaysInRange}

-- the run is in range, follows the step relation, and ends
pub record RunsWell (trace : Trace) : Type 0 where
  pub stays : StaysInRange trace
  pub followed : IsFollowed trace
  pub ended : HasEnded trace

-- the journal of a lawful trace's run is legal
abbrev pub JournalsAreLegal : Type 0
JournalsAreLegal = (trace : Trace) → IsLawful trace → RunsWell trace → law.IsLegal trace (journal_of trace)

-- the journal of a run that isn't spent is lawful
abbrev pub JournalsAreLawful : Type 0
JournalsAreLawful = (trace : Trace) → IsLawful trace → RunsWell trace → CompletesAll trace
    → ((journal_of trace).ending ≡ ending.Spent → ⊥) → law.IsLawful trace (journal_of trace)

-- each check of a run decides by the control law
abbrev pub ChecksDecideByTheLaw : Type 0
ChecksDecideByTheLaw = (trace : Trace) → IsLawful trace → RunsWell trace → AreDecided trace

-- each domain's printed count is exact and within its bound
abbrev pub CountsAreBounded : Type 0
CountsAreBounded = (trace : Trace) → IsLawful trace → RunsWell trace → IsCounted trace × PrintsBound trace × IsBounded (journal_of trace)
    × IsBoundedCloser trace

-- each context of a strict device stays within its bound
abbrev pub StrictContextsAreBounded : Type 0
StrictContextsAreBounded = (trace : Trace) → IsLawful trace → RunsWell trace → StaysWithinStrict trace
