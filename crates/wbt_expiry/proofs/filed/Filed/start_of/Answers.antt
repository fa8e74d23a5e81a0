use Rattle.std.proofs.Common.{◌<◌, ℕ, sym, subst}
use Rattle.wbt_expiry.proofs.SlotOrder.{span_positive}
use Rattle.wbt_expiry.proofs.filed.Filed.start_of.Goals as goal

pub nonzero_div-result : goal.nonzero_div-result
nonzero_div-result c = subst (λ (n : ℕ). 0 < n) (sym c.span_of.ensures) (span_positive c.args.level c.requires.level)
