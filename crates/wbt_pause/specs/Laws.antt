-- What holds of every decision, whatever its reads, estimate, writer and moment.
use Rattle.std.specs.Prelude.{ℕ, ◌≡◌, ◌≢◌, ◌+◌, ◌≤◌, ◌↔◌}
use Rattle.wbt_num.specs.Limits.{IsLawful}
use Rattle.wbt_estimate.specs.declared.estimate.Estimate.{Estimate}
use Rattle.wbt_pause.specs.declared.decision.Decision.{Decision}
use Rattle.wbt_pause.specs.declared.decision.Kind.TheVariants.{Free, Go, Wait}
use Rattle.wbt_pause.specs.declared.reads.Reads.{Reads}
use Rattle.wbt_pause.specs.declared.reads.Task.{Task}
use Rattle.wbt_pause.specs.Claims.{ChecksWithinRoot, GoesOn, HasToWait, IsCalm, MayBeGranted, PausesAsDue}
use Rattle.wbt_pause.specs.Decision.{decision_of}
use Rattle.wbt_pause.specs.Pauses.{longest_pause}
use Rattle.wbt_pause.specs.Reads.{EachDomain}

-- a writer pauses at most as long as the longest pause of its context
abbrev pub PausesWithinLongest : Type 0
PausesWithinLongest = (reads : Reads) (estimate : Estimate) (task : Task) (now : ℕ)
    → (decision_of reads estimate task now).pause ≤ longest_pause reads.wb_dirty estimate.avg

-- and no longest pause is longer than 200 ticks
abbrev pub LongestWithin200 : Type 0
LongestWithin200 = (wb_dirty avg : ℕ) → longest_pause wb_dirty avg ≤ 200

-- where no domain is above its freerun the writer goes on at once, with a page at least
abbrev pub CalmGoesOn : Type 0
CalmGoesOn = (reads : Reads) (estimate : Estimate) (task : Task) (now : ℕ) → 1 ≤ reads.cap → IsCalm reads
    → GoesOn (decision_of reads estimate task now)

-- whoever doesn't wait may be granted pages on these very reads, 1 to cap of them
abbrev pub GrantedUnlessWaiting : Type 0
GrantedUnlessWaiting = (reads : Reads) (estimate : Estimate) (task : Task) (now : ℕ) → 1 ≤ reads.cap
    → EachDomain (λ domain. IsLawful domain.limits) reads → (decision_of reads estimate task now).kind ≢ Wait
    → MayBeGranted reads (decision_of reads estimate task now)

-- a writer waits exactly where it has to
abbrev pub WaitsExactly : Type 0
WaitsExactly = (reads : Reads) (estimate : Estimate) (task : Task) (now : ℕ)
    → ((decision_of reads estimate task now).kind ≡ Wait) ↔ HasToWait reads estimate

-- and has no page left then
abbrev pub WaitingHasNone : Type 0
WaitingHasNone = (reads : Reads) (estimate : Estimate) (task : Task) (now : ℕ)
    → (decision_of reads estimate task now).kind ≡ Wait → (decision_of reads estimate task now).left ≡ 0

-- whatever is decided, at most cap pages are left, and one at least to whoever doesn't wait
abbrev pub LeavesWithinCap : Type 0
LeavesWithinCap = (reads : Reads) (estimate : Estimate) (task : Task) (now : ℕ) → 1 ≤ reads.cap
    → let decision : Decision = decision_of reads estimate task now in
    (decision.left ≤ reads.cap) × (decision.kind ≢ Wait → 1 ≤ decision.left)

-- and the writer counts no more pages than before
abbrev pub CountsNoMore : Type 0
CountsNoMore = (reads : Reads) (estimate : Estimate) (task : Task) (now : ℕ)
    → (decision_of reads estimate task now).task.nr_dirtied ≤ task.nr_dirtied

-- a free writer checks again within the root of what is free below the threshold of each domain, or after a page
abbrev pub FreeChecksWithinRoot : Type 0
FreeChecksWithinRoot = (reads : Reads) (estimate : Estimate) (task : Task) (now : ℕ)
    → (decision_of reads estimate task now).kind ≡ Free → ChecksWithinRoot reads (decision_of reads estimate task now)

-- a writer that goes on after a pause makes as much of it as the longest, and what is left over moves its moment on
abbrev pub CutPauseMovesOn : Type 0
CutPauseMovesOn = (reads : Reads) (estimate : Estimate) (task : Task) (now : ℕ)
    → (decision_of reads estimate task now).kind ≡ Go → 1 ≤ (decision_of reads estimate task now).pause
    → PausesAsDue reads estimate task now (decision_of reads estimate task now)

-- for any other its pause counts as ended when it ends
abbrev pub OtherPausesEnd : Type 0
OtherPausesEnd = (reads : Reads) (estimate : Estimate) (task : Task) (now : ℕ) → (decision_of reads estimate task now).kind ≢ Go
    → (decision_of reads estimate task now).task.paused_when ≡ now + (decision_of reads estimate task now).pause
