-- What a check decides.
use Rattle.std.specs.Prelude.{ℕ, ◌+◌, ◌-◌, ◌*◌, ◌/◌, ◌^◌, min, max, Bool, false, ◌&&◌, ◌==◌, nat_lt, nat_le, if◌then◌else◌, ℤ, pos, neg_ℤ, ◌-ℤ◌, int_lt, unsigned_abs}
use Rattle.wbt_counter.specs.Batch.{stat_error}
use Rattle.wbt_limits.specs.Limits.{freerun}
use Rattle.wbt_position.specs.declared.ratio.DomainRead.{DomainRead}
use Rattle.wbt_position.specs.Position.{position_ratio}
use Rattle.wbt_estimate.specs.declared.estimate.Estimate.{Estimate}
use Rattle.wbt_pause.specs.declared.decision.Decision.{Decision}
use Rattle.wbt_pause.specs.declared.decision.Kind.{Kind}
use Rattle.wbt_pause.specs.declared.decision.Kind.TheVariants.{Exempt, Free, Go, Wait}
use Rattle.wbt_pause.specs.declared.rule.Rule.{Rule}
use Rattle.wbt_pause.specs.declared.pauses.MinPause.{MinPause}
use Rattle.wbt_pause.specs.declared.reads.Reads.{Reads}
use Rattle.wbt_pause.specs.declared.reads.Task.{Task}
use Rattle.wbt_pause.specs.Pauses.{least_pause, longest_pause, poll_pages}
use Rattle.wbt_pause.specs.Reads.{every_domain, least_of, some_domain}

-- what is left of the allowance, from 1 to cap; nothing for a writer that waits
abbrev pub left_of : (kind : Kind) (task : Task) (cap : ℕ) → ℕ
left_of Wait task cap = 0
left_of _ task cap = min (max 1 (task.nr_dirtied_pause - task.nr_dirtied)) cap

-- the mark of the writer's context, where it is over: none of a writer that is free
abbrev pub exceeded_of : (kind : Kind) (over : Bool) → Bool
exceeded_of Free over = false
exceeded_of _ over = over

-- a decision: pages left and the exceeded mark follow from the kind, the writer's new numbers and the rule
unfoldable pub decided : (rule : Rule) (cap : ℕ) (kind : Kind) (pause : ℕ) (task : Task) → Decision
decided rule cap kind pause task = record {
  kind = kind;
  pause = pause;
  left = left_of kind task cap;
  task = task;
  exceeded = exceeded_of kind rule.over;
}

-- a free writer counts anew, with the rule's allowance
abbrev pub free_task : (poll now : ℕ) → Task
free_task poll now = record { nr_dirtied = 0; nr_dirtied_pause = poll; paused_when = now }

-- for any other the position ratio, in 1024ths of the rate limit, decides how many pages a second it may dirty
unfoldable pub rate_of : (ratio : ℕ) (estimate : Estimate) → ℕ
rate_of ratio estimate = estimate.ratelimit * ratio / 2 ^ 10

-- none: the longest pause. A context that has no more pages than its reading may be off is exempt, any other waits
abbrev pub kind_at_rest : (wb_dirty cpus : ℕ) → Kind
kind_at_rest wb_dirty cpus = if nat_le wb_dirty (stat_error cpus) then Exempt else Wait

-- the writer's numbers after a pause from a moment on
abbrev pub paused : (from pause pages : ℕ) → Task
paused from pause pages = record { nr_dirtied = 0; nr_dirtied_pause = pages; paused_when = from + pause }

-- some: ticks that the pages dirtied since the last pause take at this rate
abbrev pub period_of : (rate : ℕ) (task : Task) → ℕ
period_of rate task = 1000 * task.nr_dirtied / rate

-- what is left of them since the last pause, if there was one; negative where the writer took longer
abbrev pub due_pause : (period paused_when now : ℕ) → ℤ
due_pause period paused_when now =
    if paused_when == 0 then pos period else pos period -ℤ (pos now -ℤ pos paused_when)

-- The writer's numbers where it isn't worth a pause: a second and more behind, it starts anew; else the period counts as
-- paused; and where none passed, a full allowance grows.
abbrev pub unpaused : (due : ℤ) (period now : ℕ) (task : Task) → Task
unpaused due period now task =
    if int_lt due (neg_ℤ (pos 1000)) then record task { nr_dirtied = 0; paused_when = now }
    else if nat_lt 0 period then record task { nr_dirtied = 0; paused_when = task.paused_when + period }
    else if nat_le task.nr_dirtied_pause task.nr_dirtied then record task { nr_dirtied_pause = task.nr_dirtied_pause + task.nr_dirtied }
    else task

-- a pause is cut at the longest, and begins later by what was cut, but not by more than the longest
unfoldable pub cut_decision : (rule : Rule) (cap due longest pages now : ℕ) → Decision
cut_decision rule cap due longest pages now =
    if nat_lt longest due then decided rule cap Go longest (paused (now + min (due - longest) longest) longest pages)
    else decided rule cap Go due (paused now due pages)

-- no pause where it would be shorter than the least
unfoldable pub go_decision : (rule : Rule) (cap rate longest : ℕ) (least : MinPause) (task : Task) (now : ℕ) → Decision
go_decision rule cap rate longest least task now =
    let period : ℕ = period_of rate task in
    let due : ℤ = due_pause period task.paused_when now in
    if int_lt due (pos least.pause) then decided rule cap Go 0 (unpaused due period now task)
    else cut_decision rule cap (unsigned_abs due) longest least.pages now

-- where the writer isn't free
unfoldable pub throttled : (rule : Rule) (wb_dirty cpus cap : ℕ) (estimate : Estimate) (task : Task) (now : ℕ) → Decision
throttled rule wb_dirty cpus cap estimate task now =
    let rate : ℕ = rate_of rule.ratio estimate in
    let longest : ℕ = longest_pause wb_dirty estimate.avg in
    let least : MinPause = least_pause longest estimate.avg estimate.ratelimit rate in
    if rate == 0 then decided rule cap (kind_at_rest wb_dirty cpus) longest (paused now longest least.pages)
    else go_decision rule cap rate longest least task now

-- the decision by a rule
abbrev pub finished : (rule : Rule) (wb_dirty cpus cap : ℕ) (estimate : Estimate) (task : Task) (now : ℕ) → Decision
finished rule wb_dirty cpus cap estimate task now =
    if rule.free then decided rule cap Free 0 (free_task rule.poll now)
    else throttled rule wb_dirty cpus cap estimate task now

-- whether a domain is not above its freerun
abbrev pub is_free : (domain : DomainRead) → Bool
is_free domain = nat_le domain.dirty (freerun domain.limits)

-- whether the writer is over both thresholds, its context's and the domain's
abbrev pub is_over : (wb_dirty : ℕ) (domain : DomainRead) → Bool
is_over wb_dirty domain = nat_lt domain.wb_thresh wb_dirty && nat_lt domain.limits.thresh domain.dirty

-- the smaller position ratio decides
abbrev pub least_ratio : (reads : Reads) (estimate : Estimate) → ℕ
least_ratio reads estimate = least_of (λ domain. position_ratio domain reads.wb_dirty estimate.avg) reads

-- Writers are free where no domain is above its freerun, and then check again after the least poll interval. A context is over where it
-- is in some domain.
abbrev pub domain_rule : (reads : Reads) (estimate : Estimate) → Rule
domain_rule reads estimate = record {
  free = every_domain is_free reads;
  poll = least_of (λ domain. poll_pages domain.limits.thresh domain.dirty) reads;
  ratio = least_ratio reads estimate;
  over = some_domain (is_over reads.wb_dirty) reads;
}

-- the decision
unfoldable pub decision_of : (reads : Reads) (estimate : Estimate) (task : Task) (now : ℕ) → Decision
decision_of reads estimate task now =
    finished (domain_rule reads estimate) reads.wb_dirty reads.cpus reads.cap estimate task now
