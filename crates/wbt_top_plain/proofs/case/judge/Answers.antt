use Rattle.wbt_top_plain.proofs.Meaning.{means}
use Rattle.wbt_top_plain.proofs.case.judge.Goals as goal

pub returns-in-Ok-clause-means : goal.returns-in-Ok-clause-means
returns-in-Ok-clause-means g c = λ other. means c.lawful_verdicts_are_right.ensures c.broken_verdicts_are_right.ensures c.args.case.now.trace c.args.case.now.journal c.requires.plain
