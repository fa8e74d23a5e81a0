-- What the clauses of a decision say.
use Rattle.std.specs.Prelude.{ℕ, ◌≡◌, ◌+◌, ◌-◌, ◌*◌, ◌<◌, ◌≤◌, ◌⊎◌, min, true, false, Some, ℤ, pos}
use Rattle.wbt_counter.specs.Batch.{stat_error}
use Rattle.wbt_counter.specs.Through.{lets_through}
use Rattle.wbt_limits.specs.Limits.{freerun}
use Rattle.wbt_estimate.specs.declared.estimate.Estimate.{Estimate}
use Rattle.wbt_pause.specs.declared.decision.Decision.{Decision}
use Rattle.wbt_pause.specs.declared.decision.Kind.TheVariants.{Free}
use Rattle.wbt_pause.specs.declared.rule.Rule.{Rule}
use Rattle.wbt_pause.specs.declared.reads.Reads.{Reads}
use Rattle.wbt_pause.specs.declared.reads.Task.{Task}
use Rattle.wbt_pause.specs.Decision.{due_pause, least_ratio, period_of, rate_of}
use Rattle.wbt_pause.specs.Pauses.{longest_pause}
use Rattle.wbt_pause.specs.Reads.{EachDomain, SomeDomain}

-- no domain's reading is above its freerun
abbrev pub IsCalm : (reads : Reads) → Type 0
IsCalm reads = EachDomain (λ domain. domain.dirty ≤ freerun domain.limits) reads

-- the writer goes on at once
pub record GoesOn (decision : Decision) : Type 0 where
  pub free : decision.kind ≡ Free
  pub at_once : decision.pause ≡ 0
  pub pages : 1 ≤ decision.left

-- what a grant of pages needs of the reads: each domain lets the writer through, by its hard limit or by the error
abbrev pub LetsThrough : (reads : Reads) → Type 0
LetsThrough reads = EachDomain
    (λ domain. lets_through (stat_error reads.cpus) (Some domain.limits.hard) (Some domain.dirty) (Some reads.wb_dirty) ≡ true)
    reads

-- and of the decision: 1 to cap pages
pub record MayBeGranted (reads : Reads) (decision : Decision) : Type 0 where
  pub through : LetsThrough reads
  pub pages : (1 ≤ decision.left) × (decision.left ≤ reads.cap)

-- where a writer has to wait: some domain is above freerun, the task may dirty nothing, and the context has more pages
-- than its reading may be off
pub record HasToWait (reads : Reads) (estimate : Estimate) : Type 0 where
  pub above : SomeDomain (λ domain. freerun domain.limits < domain.dirty) reads
  pub no_rate : rate_of (least_ratio reads estimate) estimate ≡ 0
  pub more_than_error : stat_error reads.cpus < reads.wb_dirty

-- where a rule makes a writer of a context wait: it isn't free, may dirty nothing, and the context has more pages than its
-- reading may be off
pub record RuleMakesWait (rule : Rule) (wb_dirty cpus : ℕ) (estimate : Estimate) : Type 0 where
  pub not_free : rule.free ≡ false
  pub no_rate : rate_of rule.ratio estimate ≡ 0
  pub more_than_error : stat_error cpus < wb_dirty

-- one page, or so many that their square is free
abbrev pub IsWithinRoot : (pages free : ℕ) → Type 0
IsWithinRoot pages free = (pages ≡ 1) ⊎ (pages * pages ≤ free)

-- a free writer counts anew, and checks again within the root of what is free below each domain's threshold
pub record ChecksWithinRoot (reads : Reads) (decision : Decision) : Type 0 where
  pub anew : decision.task.nr_dirtied ≡ 0
  pub root : EachDomain (λ domain. IsWithinRoot decision.task.nr_dirtied_pause (domain.limits.thresh - domain.dirty)) reads

-- the pause that is due to a writer at a position ratio: negative where it took longer than what it dirtied takes at its rate
abbrev pub pause_due : (ratio : ℕ) (estimate : Estimate) (task : Task) (now : ℕ) → ℤ
pause_due ratio estimate task now = due_pause (period_of (rate_of ratio estimate) task) task.paused_when now

-- A writer that goes on after a pause makes of the pause that is due as much as the longest. What is left over moves on the moment at
-- which its pause counts as ended, by the longest at most.
pub record PausesAtRate (ratio wb_dirty : ℕ) (estimate : Estimate) (task : Task) (now : ℕ) (decision : Decision) : Type 0 where
  pub due : ℕ
  pub is_due : pause_due ratio estimate task now ≡ pos due
  pub cut : decision.pause ≡ min due (longest_pause wb_dirty estimate.avg)
  pub left_over : decision.task.paused_when ≡ now + decision.pause
      + min (due - longest_pause wb_dirty estimate.avg) (longest_pause wb_dirty estimate.avg)

-- the smaller ratio of the domains is meant
abbrev pub PausesAsDue : (reads : Reads) (estimate : Estimate) (task : Task) (now : ℕ) (decision : Decision) → Type 0
PausesAsDue reads estimate task now decision = PausesAtRate (least_ratio reads estimate) reads.wb_dirty estimate task now decision
