use Rattle.std.proofs.Common.{◌≡◌, drop}
use Rattle.wbt_rules.specs.Thresholds.{avail_among}
use Rattle.wbt_rules.proofs.limits.avail_at.Given as goal

abbrev pub invariant-loop-line : goal.invariant-loop-line
invariant-loop-line l = avail_among l.now l.pages (drop l.line-index l.avail) ≡ avail_among l.now 0 l.avail
