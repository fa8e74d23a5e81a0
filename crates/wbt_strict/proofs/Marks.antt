-- The mark of a decision follows from its kind and from what was read.
use Rattle.std.proofs.Common.{◌≡◌, ℕ, Bool, true, false}
use Rattle.wbt_estimate.specs.declared.estimate.Estimate.{Estimate}
use Rattle.wbt_pause.proofs.Finishing as by_rule
use Rattle.wbt_pause.specs.Decision.{decision_of, domain_rule}
use Rattle.wbt_pause.specs.declared.reads.Reads.{Reads}
use Rattle.wbt_pause.specs.declared.reads.Task.{Task}
use Rattle.wbt_strict.specs.Decision.{decision_for, exceeded_for, strict_rule}

pub exceeded_is : (strict : Bool) (reads : Reads) (estimate : Estimate) (task : Task) (now : ℕ)
    → (decision_for strict reads estimate task now).exceeded ≡ exceeded_for strict (decision_for strict reads estimate task now).kind reads
unfolding decision_for exceeded_for decision_of
exceeded_is true reads estimate task now = by_rule.marks (strict_rule reads) reads.wb_dirty reads.cpus reads.cap estimate task now
exceeded_is false reads estimate task now = by_rule.marks (domain_rule reads estimate) reads.wb_dirty reads.cpus reads.cap estimate task now
