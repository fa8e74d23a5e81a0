use Rattle.std.proofs.Common.{All, List, sym, subst}
use Rattle.wbt_kit.proofs.Common.{Estimate}
use Rattle.wbt_published.specs.Known.{IsFirst}
use Rattle.wbt_kit.proofs.Laid.{firsts_fit}
use Rattle.wbt_kit.proofs.kit.make_published.Goals as goal

pub make-requires-clause-firsts : goal.make-requires-clause-firsts
make-requires-clause-firsts c =
    subst (λ (l : List Estimate). All IsFirst l) (sym c.in_ok-firsts.ensures) (firsts_fit c.args.trace.now c.args.now c.requires.lawful c.requires.moment)
