-- What is read of a domain for a context.
use Rattle.std.specs.Prelude.{ℕ}
use Rattle.wbt_num.specs.declared.limits.Limits.{Limits}
use Rattle.wbt_flex.specs.declared.share.Fraction.{Fraction}
use Rattle.wbt_limits.specs.Context.{context_threshold}
use Rattle.wbt_position.specs.declared.ratio.DomainRead.{DomainRead}
use Rattle.wbt_trace.specs.declared.trace.Device.{Device}

-- the limits, the pages that the domain's count reads, and the context's part of the threshold by its fraction, between the shares
-- of its device
abbrev pub part_read : (device : Device) (least : ℕ) (limits : Limits) (share : Fraction) (dirty : ℕ) → DomainRead
part_read device least limits share dirty = record {
  limits = limits;
  dirty = dirty;
  wb_thresh = context_threshold limits.thresh share.num share.den least device.min device.max;
}
