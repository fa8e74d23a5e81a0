-- What is left in a closed throttle.
use Rattle.std.specs.Prelude.{◌≡◌, ℕ, ◌<◌, List}
use Rattle.wbt_book.specs.Book.{Book}
use Rattle.wbt_book.specs.PageWords.{bits_at}
use Rattle.wbt_grant.specs.declared.record.CpuRecord.{CpuRecord}
use Rattle.wbt_grant.specs.declared.record.TimerRecord.{TimerRecord}
use Rattle.wbt_table.specs.Census.{Closes, Counted, word_at}
use Rattle.wbt_table.specs.Layout.{setting, page_at}
use Rattle.wbt_trace.specs.declared.trace.Trace.{Trace}
use Rattle.wbt_journal.specs.Machine.{pages}
use Rattle.wbt_journal.specs.declared.journal.Left.{Left}
use Rattle.wbt_run_laws.specs.Closed.{Closed}
use Rattle.wbt_run_laws.specs.Throttle.{IsThrottleOf, left_from}
use Rattle.wbt_kit.specs.Kit.{HasCpu, HasTimer}
use Rattle.wbt_kit.specs.declared.kit.Seats.{Seats}

-- the book that the words of a closed throttle tell
abbrev pub book_of : (census : Counted) → Book
book_of census = λ page. bits_at (word_at census (page_at page)) page

-- A closed throttle tells of a run what `Closed` asks: the last records are those of its state, which holds, and left is what its words
-- leave.
abbrev pub ClosesRun : Type 0
ClosesRun = (trace : Trace) (seats : Seats) (census : Counted) (records : (cpu : ℕ) → CpuRecord) (held : TimerRecord) (left : List Left)
    → (closes : Closes seats.cpu census) → IsThrottleOf trace (setting seats.cpu.layout) → ((cpu : ℕ) → cpu < trace.cpus → HasCpu cpu (records cpu) seats)
    → HasTimer held seats → left ≡ left_from (book_of census) 0 (pages trace) → Closed trace (setting seats.cpu.layout) closes.state records held left
