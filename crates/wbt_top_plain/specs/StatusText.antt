-- What a status prints, and its exit code.
use Rattle.std.specs.Prelude.{ℕ, List, ◌++◌, codes}
use Rattle.std.specs.Fmt.{decimal}
use Rattle.wbt_trace_text.specs.declared.fault.Missing.TheVariants as missing
use Rattle.wbt_trace_text.specs.declared.fault.TraceFault.TheVariants as fault
use Rattle.wbt_top_plain.specs.declared.status.Status.{Status}
use Rattle.wbt_top_plain.specs.declared.status.Status.TheVariants.{Good, BadWords, BadTrace, BadJournal, Unsettled, Unlawful, ReadFault, WriteFault, DiskFault, NoMemory, Spent, TooLong}

-- the sentence of a status
abbrev pub status_text : (status : Status) → List ℕ
status_text Good = codes "wbsim: ok"
status_text BadWords = codes "wbsim: usage: wbsim replay, check, law, run, audit, bulk N or forecast EVERY"
status_text (BadTrace (fault.BadLine line)) = codes "wbsim: line " ++ decimal line ++ codes ": bad line"
status_text (BadTrace (fault.UnknownName line)) = codes "wbsim: line " ++ decimal line ++ codes ": unknown name"
status_text (BadTrace (fault.Twice line)) = codes "wbsim: line " ++ decimal line ++ codes ": given twice"
status_text (BadTrace (fault.OutOfRange line)) = codes "wbsim: line " ++ decimal line ++ codes ": out of range"
status_text (BadTrace (fault.Limit line)) = codes "wbsim: line " ++ decimal line ++ codes ": too many"
status_text (BadTrace (fault.Missing missing.Cpus)) = codes "wbsim: missing cpus"
status_text (BadTrace (fault.Missing missing.Avail)) = codes "wbsim: missing avail"
status_text (BadTrace (fault.Missing missing.Flusher)) = codes "wbsim: missing flusher"
status_text (BadTrace fault.NoMemory) = codes "wbsim: no memory"
status_text (BadJournal line) = codes "wbsim: journal line " ++ decimal line ++ codes ": bad line"
status_text Unsettled = codes "wbsim: unsettled"
status_text Unlawful = codes "wbsim: unlawful"
status_text ReadFault = codes "wbsim: read fault"
status_text WriteFault = codes "wbsim: write fault"
status_text DiskFault = codes "wbsim: disk fault"
status_text NoMemory = codes "wbsim: no memory"
status_text Spent = codes "wbsim: spent"
status_text TooLong = codes "wbsim: input too long"

-- the exit code of a status
abbrev pub code_of : (status : Status) → ℕ
code_of Good = 0
code_of BadWords = 1
code_of (BadTrace fault) = 2
code_of (BadJournal line) = 10
code_of Unsettled = 12
code_of Unlawful = 11
code_of ReadFault = 3
code_of WriteFault = 4
code_of DiskFault = 5
code_of NoMemory = 6
code_of Spent = 7
code_of TooLong = 8
