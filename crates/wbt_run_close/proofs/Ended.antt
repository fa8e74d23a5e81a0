-- A journal whose parts are known.
use Rattle.std.proofs.Common.{◌≡◌, List, Result, Ok, sym, subst}
use Rattle.std.specs.Result.{IfOk}
use Rattle.wbt_run_worker.proofs.Common.{CpuJournal, Ending, TimerEntry}
use Rattle.wbt_kit.proofs.Common.{Left}
use Rattle.wbt_journal.specs.declared.journal.Journal.{Journal}
use Rattle.wbt_run_drain.specs.Laws.{journal_of}

pub of_parts : {E : Type 0} (P : Journal → Type 0) (result : Result Journal E) (logs logs' : List CpuJournal) (timer timer' : List TimerEntry) (left left' : List Left) (ended : Ending)
    → result ≡ Ok (journal_of logs' timer' left' ended) → logs' ≡ logs → timer' ≡ timer → left' ≡ left → P (journal_of logs timer left ended) → IfOk result P
of_parts P result logs logs' timer timer' left left' ended is same_logs same_timer same_left holds =
    subst (λ (r : Result Journal _). IfOk r P) (sym is)
    (subst (λ (x : List CpuJournal). P (journal_of x timer' left' ended)) (sym same_logs)
    (subst (λ (x : List TimerEntry). P (journal_of logs x left' ended)) (sym same_timer)
    (subst (λ (x : List Left). P (journal_of logs timer x ended)) (sym same_left) holds)))
