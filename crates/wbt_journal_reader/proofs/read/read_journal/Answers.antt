use Rattle.std.proofs.Common.{◌<◌, ◌^◌, length, arith}
use Rattle.wbt_journal_reader.proofs.Faults.{plain_of, text_of, exact_of, first_of}
use Rattle.wbt_journal_reader.proofs.read.read_journal.Goals as goal

pub returns-in-Ok-clause-plain : goal.returns-in-Ok-clause-plain
returns-in-Ok-clause-plain c = plain_of c.args.text.now c.in-Ok.answer c.in-Ok.ensures.told

pub returns-in-Ok-clause-text : goal.returns-in-Ok-clause-text
returns-in-Ok-clause-text c = text_of c.args.text.now c.in-Ok.answer c.in-Ok.ensures.told

pub returns-in-Ok-clause-exact : goal.returns-in-Ok-clause-exact
returns-in-Ok-clause-exact c = exact_of c.args.text.now c.in-Ok.answer c.in-Ok.ensures.exact

pub returns-in-Ok-clause-first : goal.returns-in-Ok-clause-first
returns-in-Ok-clause-first c = let short : length c.args.text.now < 2 ^ 63 = omega arith in first_of c.args.text.now c.in-Ok.answer short c.in-Ok.ensures.told
