use Rattle.std.proofs.Common.{sym, ◌∙◌, ap, arith}
use Rattle.wbt_journal.specs.Word.{word_text}
use Rattle.wbt_journal_reader.proofs.Words.{place_of, place_in, at_place}
use Rattle.wbt_journal_reader.proofs.word.word_of.Goals as goal

pub returns-clause-none : goal.returns-clause-none
returns-clause-none c = λ w is.
    c.loop-i.invariant (place_of w) (omega (arith, place_in w, c.loop-i-test.false)) (is ∙ ap word_text (sym (at_place w)))
