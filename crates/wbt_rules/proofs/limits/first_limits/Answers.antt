use Rattle.std.proofs.Common.{sym, subst}
use Rattle.wbt_num.specs.Limits.{IsLawful}
use Rattle.wbt_limits.specs.declared.domain.Pair.{Pair}
use Rattle.wbt_rules.specs.Thresholds.{limits_at_first}
use Rattle.wbt_rules.proofs.Firsts.{first_lawful}
use Rattle.wbt_rules.proofs.limits.first_limits.Goals as goal

pub returns-clause-lawful : goal.returns-clause-lawful
returns-clause-lawful c =
    subst (λ (p : Pair). IsLawful (limits_at_first p)) (sym c.thresholds_at-thresh.ensures) (first_lawful c.args.trace.now c.args.moment c.args.domain)
