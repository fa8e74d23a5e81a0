-- What a check decides in a context of a strict device, and in any other.
use Rattle.std.specs.Prelude.{ℕ, max, Bool, true, false, ◌&&◌, nat_lt, nat_le}
use Rattle.std.specs.Option.{option_map_or}
use Rattle.wbt_estimate.specs.declared.estimate.Estimate.{Estimate}
use Rattle.wbt_pause.specs.Decision.{decision_of, exceeded_of, finished, is_over}
use Rattle.wbt_pause.specs.Pauses.{poll_pages}
use Rattle.wbt_pause.specs.Reads.{every_domain, least_of, some_domain}
use Rattle.wbt_pause.specs.declared.decision.Decision.{Decision}
use Rattle.wbt_pause.specs.declared.decision.Kind.{Kind}
use Rattle.wbt_pause.specs.declared.reads.Reads.{Reads}
use Rattle.wbt_pause.specs.declared.reads.Task.{Task}
use Rattle.wbt_pause.specs.declared.rule.Rule.{Rule}
use Rattle.wbt_position.specs.declared.ratio.DomainRead.{DomainRead}
use Rattle.wbt_strict.specs.Position.{context_middle, strict_ratio}

-- Whether a context has at most half of its threshold and its background threshold in a domain. The domain's hard limit is asked for
-- besides, so that whoever is let through may be granted pages.
abbrev pub is_strictly_free : (wb_dirty : ℕ) (domain : DomainRead) → Bool
is_strictly_free wb_dirty domain = nat_le wb_dirty (context_middle domain) && nat_le domain.dirty domain.limits.hard

-- Everything that other contexts take of the domain a strict one takes of its own part of it: where its writers are free, how soon they
-- then check again, how fast they go else, and when it is over.
abbrev pub strict_rule : (reads : Reads) → Rule
strict_rule reads = record {
  free = every_domain (is_strictly_free reads.wb_dirty) reads;
  poll = least_of (λ domain. poll_pages domain.wb_thresh reads.wb_dirty) reads;
  ratio = least_of (λ domain. strict_ratio domain reads.wb_dirty) reads;
  over = some_domain (λ domain. nat_lt domain.wb_thresh reads.wb_dirty) reads;
}

-- what a check decides in a context of a strict device, at a moment in ticks
abbrev pub strict_decision : (reads : Reads) (estimate : Estimate) (task : Task) (now : ℕ) → Decision
strict_decision reads estimate task now = finished (strict_rule reads) reads.wb_dirty reads.cpus reads.cap estimate task now

unfoldable pub decision_for : (strict : Bool) (reads : Reads) (estimate : Estimate) (task : Task) (now : ℕ) → Decision
decision_for true reads estimate task now = strict_decision reads estimate task now
decision_for false reads estimate task now = decision_of reads estimate task now

-- whether the context is over
abbrev pub is_over_for : (strict : Bool) (reads : Reads) → Bool
is_over_for true reads = (strict_rule reads).over
is_over_for false reads = some_domain (is_over reads.wb_dirty) reads

-- the mark of its context
unfoldable pub exceeded_for : (strict : Bool) (kind : Kind) (reads : Reads) → Bool
exceeded_for strict kind reads = exceeded_of kind (is_over_for strict reads)

-- the greatest of the context's thresholds that a check reads
abbrev pub greatest_part : (reads : Reads) → ℕ
greatest_part reads = option_map_or (λ cgroup. max reads.global.wb_thresh cgroup.wb_thresh) reads.cgroup reads.global.wb_thresh
