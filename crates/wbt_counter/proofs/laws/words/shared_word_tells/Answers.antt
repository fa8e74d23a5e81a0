use Rattle.wbt_counter.proofs.WordLaws.{shared_word_tells}
use Rattle.wbt_counter.proofs.laws.words.shared_word_tells.Goals as goal

pub returns : goal.returns
returns c = shared_word_tells
