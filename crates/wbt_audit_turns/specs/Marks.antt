-- The one field of a decision that no line of a journal tells, its mark: a journal with the marks that its lines call for has the faults of
-- the journal without them, but where it is judged what checks decide and when they are due.
use Rattle.std.specs.Prelude.{◌≡◌}
use Rattle.wbt_trace.specs.declared.trace.Trace.{Trace}
use Rattle.wbt_journal.specs.declared.journal.Journal.{Journal}
use Rattle.wbt_journal.specs.Checks.{with_mark, with_marks}
use Rattle.wbt_journal.specs.Items.{Item, begins, tells}
use Rattle.wbt_journal.specs.Told.{Told, wrote, folded, checked, claimed, batch, done, share, estimated, fault, gave_back, noticed, aged, took}
use Rattle.wbt_journal.specs.Verdict.{folds_fault, counts_fault, triples_fault, fractions_fault, estimates_fault, timers_fault, waits_fault, pages_fault, ledger_fault, flights_fault, bound_fault, ending_fault}

-- an entry and an item with the mark that its line calls for
abbrev pub marked : (trace : Trace) (entry : Told) → Told
marked trace (checked check) = checked (with_mark trace check)
marked trace (wrote task page fresh) = wrote task page fresh
marked trace (folded fold) = folded fold
marked trace (claimed flusher page) = claimed flusher page
marked trace (batch flusher pages now until) = batch flusher pages now until
marked trace (done flusher page) = done flusher page
marked trace (share domain context n) = share domain context n
marked trace (estimated est) = estimated est
marked trace (fault flusher pages) = fault flusher pages
marked trace (gave_back flusher page absorbed) = gave_back flusher page absorbed
marked trace (noticed flusher inode since) = noticed flusher inode since
marked trace (aged flusher inode due now) = aged flusher inode due now
marked trace (took flusher inode) = took flusher inode

-- an item with the mark that its line calls for
abbrev pub marked_item : (trace : Trace) (item : Item) → Item
marked_item trace (begins cpu) = begins cpu
marked_item trace (tells cpu entry) = tells cpu (marked trace entry)

-- the faults of these points are the same with marks and without
pub record FaultsStay (trace : Trace) (j : Journal) : Type 0 where
  pub folds : folds_fault trace (with_marks trace j) ≡ folds_fault trace j
  pub counts : counts_fault trace (with_marks trace j) ≡ counts_fault trace j
  pub triples : triples_fault (with_marks trace j) ≡ triples_fault j
  pub fractions : fractions_fault trace (with_marks trace j) ≡ fractions_fault trace j
  pub estimates : estimates_fault trace (with_marks trace j) ≡ estimates_fault trace j
  pub timer : timers_fault trace (with_marks trace j) ≡ timers_fault trace j
  pub waits : waits_fault trace (with_marks trace j) ≡ waits_fault trace j
  pub writes : pages_fault trace (with_marks trace j) ≡ pages_fault trace j
  pub ledger : ledger_fault trace (with_marks trace j) ≡ ledger_fault trace j
  pub flights : flights_fault trace (with_marks trace j) ≡ flights_fault trace j
  pub bounded : bound_fault trace (with_marks trace j) ≡ bound_fault trace j
  pub ending : ending_fault trace (with_marks trace j) ≡ ending_fault trace j

-- so it is for each journal
abbrev pub MarksChangeNoOther : Type 0
MarksChangeNoOther = (trace : Trace) (j : Journal) → FaultsStay trace j
