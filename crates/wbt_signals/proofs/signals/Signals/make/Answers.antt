use Rattle.wbt_signals.proofs.Keeping.{opened}
use Rattle.wbt_signals.proofs.signals.Signals.make.Goals as goal

pub of_words-requires : goal.of_words-requires
of_words-requires c = opened c.args.writers
