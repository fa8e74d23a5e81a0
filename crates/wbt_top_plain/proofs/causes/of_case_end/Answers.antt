use Rattle.std.proofs.Common.{◌≡◌, ◌∙◌, ap}
use Rattle.wbt_journal_reader.specs.declared.read.JournalFault.TheVariants.{BadLine}
use Rattle.wbt_top_plain.specs.declared.causes.CaseEnd.TheVariants.{BadTrace, BadJournal}
use Rattle.wbt_top_plain.proofs.causes.of_case_end.Goals as goal

pub returns-in-BadTrace-clause-bad_trace : goal.returns-in-BadTrace-clause-bad_trace
returns-in-BadTrace-clause-bad_trace c = λ told. (
  (λ is. let both = (c.of_fault.ensures.bad_trace told).0 is in (both.0, c.in-BadTrace.is ∙ ap BadTrace both.1)),
  (λ both. let at : c.args.end ≡ BadTrace told = both.1 in let same : c.in-BadTrace.fault ≡ told = cc in (c.of_fault.ensures.bad_trace told).1 (both.0, same)),
)

pub returns-in-BadJournal-clause-bad_journal : goal.returns-in-BadJournal-clause-bad_journal
returns-in-BadJournal-clause-bad_journal c = λ line. (
  (λ is. c.in-BadJournal.is ∙ ap BadJournal ((c.of_journal_fault.ensures.bad_journal line).0 is)),
  (λ is. let at : c.args.end ≡ BadJournal (BadLine line) = is in let same : c.in-BadJournal.fault ≡ BadLine line = cc in (c.of_journal_fault.ensures.bad_journal line).1 same),
)
