-- A context's part of a domain's threshold that is read for it is at most the threshold.
use Rattle.std.proofs.Common.{◌≡◌, ℕ, ◌≤◌, sym, subst}
use Rattle.wbt_counter.specs.History.{at_least_zero}
use Rattle.wbt_journal.specs.Checks.{domain_read}
use Rattle.wbt_journal.specs.declared.entry.DomainLine.{DomainLine}
use Rattle.wbt_position.specs.declared.ratio.DomainRead.{DomainRead}
use Rattle.wbt_rules.proofs.Parts.{part_is_within}
use Rattle.wbt_rules.specs.Things.{context_at, device_at}
use Rattle.wbt_trace.specs.Sofar.{least_shares}
use Rattle.wbt_trace.specs.declared.trace.Trace.{Trace}

pub read_is_within : (trace : Trace) (context : ℕ) (line : DomainLine) (read : DomainRead) → read ≡ domain_read trace context line
    → (device_at trace (context_at trace context).device).max ≤ 100 → read.wb_thresh ≤ read.limits.thresh
read_is_within trace context line read is most =
    subst (λ (r : DomainRead). r.wb_thresh ≤ r.limits.thresh) (sym is)
    (part_is_within (device_at trace (context_at trace context).device) (least_shares trace.devices) line.limits line.share (at_least_zero line.count.value) most)
