use Rattle.std.proofs.Common.{◌≡◌, ℕ, ◌<◌, get_or}
use Rattle.wbt_journal.specs.Word.{word_text}
use Rattle.wbt_journal.specs.declared.word.Word.TheVariants as word
use Rattle.wbt_journal_reader.specs.declared.word.TheConstants.{WORDS}
use Rattle.wbt_journal_reader.proofs.word.word_of.Given as goal

abbrev pub invariant-loop-i : goal.invariant-loop-i
invariant-loop-i l = (j : ℕ) → j < l.i → l.text ≡ word_text (get_or WORDS j word.Timer) → ⊥
