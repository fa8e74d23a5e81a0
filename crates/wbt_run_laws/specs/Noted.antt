-- Turns with what they note of shares and estimates, and with what their checks decide.
use Rattle.std.specs.Prelude.{◌≡◌, ℕ, IfSome, List, [], ◌++◌, Contains}
use Rattle.wbt_estimate.specs.declared.estimate.Estimate.{Estimate}
use Rattle.wbt_published.specs.Known.{first_in, note_of}
use Rattle.wbt_published.specs.declared.known.Known.{Known}
use Rattle.wbt_rules.specs.First.{first_estimates}
use Rattle.wbt_trace.specs.declared.trace.Trace.{Trace}
use Rattle.wbt_journal.specs.Checks.{IsInRange, asked_by, task_numbers}
use Rattle.wbt_journal.specs.Effects.{effect}
use Rattle.wbt_journal.specs.Items.{Item, begins, tells}
use Rattle.wbt_journal.specs.Side.{Event, item, ends, Side, side_after}
use Rattle.wbt_journal.specs.Told.{Told}
use Rattle.wbt_journal.specs.Walk.{Along}
use Rattle.wbt_journal.specs.declared.entry.CheckEntry.{CheckEntry}
use Rattle.wbt_run_laws.specs.Notes.{Notes, SharesGrew, EstimatesGrew}
use Rattle.wbt_run_laws.specs.Shown.{Shown, WriterTurn, FlusherTurn, Since}

-- a check decides on numbers in range, by an estimate of its context that was read, and names its version
pub record DecidesByRead (trace : Trace) (opened : ℕ) (known : Known) (s : Side) (check : CheckEntry) : Type 0 where
  pub estimate : Estimate
  pub named : estimate.version ≡ check.estimate
  pub was_read : Contains known.reads (note_of estimate)
  pub first : estimate.version ≡ 0 → estimate ≡ first_in (first_estimates trace opened) check.context
  pub in_range : IsInRange check estimate (task_numbers trace s check)
  pub decision : check.decision ≡ asked_by trace s check estimate

-- an item's check decides by an estimate that was read
abbrev pub DecidesItem : (trace : Trace) (opened : ℕ) (known : ℕ → Known) (s : Side) (i : Item) → Type 0
DecidesItem trace opened known s (begins cpu) = Unit {0}
DecidesItem trace opened known s (tells cpu entry) = IfSome (effect entry).check (λ (check : CheckEntry). DecidesByRead trace opened (known check.context) s check)

-- an event's check decides by an estimate that was read
abbrev pub DecidesAlong : (trace : Trace) (opened : ℕ) (known : ℕ → Known) (s : Side) (event : Event) → Type 0
DecidesAlong trace opened known s (item i) = DecidesItem trace opened known s i
DecidesAlong trace opened known s (ends task) = Unit {0}

-- each check among these events decides so
abbrev pub AreDecided : (trace : Trace) (opened : ℕ) (known : ℕ → Known) (s : Side) (events : List Event) → Type 0
AreDecided trace opened known s events = Along (DecidesAlong trace opened known) (side_after trace opened) s events

-- a turn of the CPU's writers, with what it notes and what its checks decide
pub record NotedWriterTurn (trace : Trace) (opened cpu : ℕ) (added : List Told) (old new : Shown) (before behind : Notes) : Type 0 where
  pub turn : WriterTurn trace opened cpu added old new
  pub shares : SharesGrew cpu added before behind
  pub estimates : EstimatesGrew (first_estimates trace opened) cpu added before behind
  pub decided : AreDecided trace opened behind.estimates old.side turn.side.events

-- a turn of one of the CPU's flushers, with what it notes
pub record NotedFlusherTurn (trace : Trace) (opened cpu flusher : ℕ) (added : List Told) (old new : Shown) (before behind : Notes) : Type 0 where
  pub turn : FlusherTurn trace opened cpu flusher added old new
  pub shares : SharesGrew cpu added before behind
  pub estimates : EstimatesGrew (first_estimates trace opened) cpu added before behind

-- any turns of the CPU, one after another
pub record NotedSince (trace : Trace) (opened cpu : ℕ) (added : List Told) (old new : Shown) (before behind : Notes) : Type 0 where
  pub since : Since trace opened cpu added old new
  pub shares : SharesGrew cpu added before behind
  pub estimates : EstimatesGrew (first_estimates trace opened) cpu added before behind
  pub decided : AreDecided trace opened behind.estimates old.side since.side.events

-- ---- laws

-- a single turn of the CPU's writers counts as turns of the CPU
abbrev pub NotedWriterTurnIsSince : Type 0
NotedWriterTurnIsSince = (trace : Trace) (opened cpu : ℕ) (added : List Told) (old new : Shown) (before behind : Notes)
    → NotedWriterTurn trace opened cpu added old new before behind → NotedSince trace opened cpu added old new before behind

-- a single turn of one of its flushers counts as turns of the CPU
abbrev pub NotedFlusherTurnIsSince : Type 0
NotedFlusherTurnIsSince = (trace : Trace) (opened cpu flusher : ℕ) (added : List Told) (old new : Shown) (before behind : Notes)
    → NotedFlusherTurn trace opened cpu flusher added old new before behind → NotedSince trace opened cpu added old new before behind

-- without a turn all stays as it is
abbrev pub NotedNow : Type 0
NotedNow = (trace : Trace) (opened cpu : ℕ) (shown : Shown) (notes : Notes) → NotedSince trace opened cpu [] shown shown notes notes

-- turns compose, one stretch of them after another
abbrev pub NotedMore : Type 0
NotedMore = (trace : Trace) (opened cpu : ℕ) (a b : List Told) (old mid new : Shown) (before between behind : Notes)
    → NotedSince trace opened cpu a old mid before between → NotedSince trace opened cpu b mid new between behind
    → NotedSince trace opened cpu (a ++ b) old new before behind
