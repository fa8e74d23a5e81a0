use Rattle.std.proofs.Common.{◌∙◌, ap}
use Rattle.wbt_journal_reader.specs.RowOf.{row_from}
use Rattle.wbt_journal_reader.proofs.Lines.{some_row, no_row, no_fields}
use Rattle.wbt_journal_reader.proofs.read.row_in.Goals as goal

pub returns-in-None-clause-none : goal.returns-in-None-clause-none
returns-in-None-clause-none c = no_fields c.args.text.now (rw c.in-None.is at c.in_ok-fields_of.ensures.none)

pub returns-in-Some-clause-found : goal.returns-in-Some-clause-found
returns-in-Some-clause-found c =
    some_row c.args.text.now c.in-Some.fields.items c.row_from.result (rw c.in-Some.is at c.in_ok-fields_of.ensures.found) (c.row_from.ensures ∙ ap row_from c.as_slice.ensures.value)

pub returns-in-Some-clause-none : goal.returns-in-Some-clause-none
returns-in-Some-clause-none c =
    no_row c.args.text.now c.in-Some.fields.items c.row_from.result (rw c.in-Some.is at c.in_ok-fields_of.ensures.found) (c.row_from.ensures ∙ ap row_from c.as_slice.ensures.value)
