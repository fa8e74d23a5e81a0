-- The disks that were given back have written just what the logs handed over, and failed as often as the logs tell at least.
use Rattle.std.proofs.Common.{◌≡◌, ℕ, ◌≤◌, Bool, false, List, Option, Some, None, Result, Ok, Err, refl, sym, subst, arith}
use Rattle.std.specs.Option.{IfSome}
use Rattle.std.specs.Result.{IfOk}
use Rattle.wbt_run_worker.proofs.Common.{HasRisenBy, Grows, CpuJournal, Ending, TimerEntry}
use Rattle.wbt_kit.proofs.Common.{MOST_FAULTS}
use Rattle.wbt_journal.specs.declared.journal.Ending.TheVariants as ending
use Rattle.wbt_run_worker.specs.declared.side.CpuSide.{CpuSide}
use Rattle.wbt_run_drain.specs.Ends.{EndingIs}
use Rattle.wbt_run_drain.specs.Teams.{faults_told, handed_over}
use Rattle.wbt_run_first.specs.Back.{NotFallen}
use Rattle.wbt_run_close.specs.declared.closing.Worked.{Worked}
use Rattle.wbt_run_first.proofs.Giving.{risen_less, risen_since}

grows_by : (handed : ℕ) (by a b c : Option ℕ) → IfSome by (λ total. total ≡ handed) → Grows (Some 0) a b → Grows by b c → Grows (Some handed) a c
grows_by handed by a b None told one two = tt
grows_by handed by a b (Some total) told one two =
    let first = subst (λ (o : Option ℕ). Grows (Some 0) a o) two.3 one in
    let none : first.0 ≡ 0 = subst (λ (o : Option ℕ). IfSome o (λ n. n ≡ 0)) first.2 refl in
    let all : two.0 ≡ handed = subst (λ (o : Option ℕ). IfSome o (λ n. n ≡ handed)) two.2 told in
    (handed, first.1, refl, first.3, let e = first.4 in let f = two.4 in omega (arith, none, all))

pub handed_back : {E : Type 0} (result : Result Worked E) (logs : List CpuJournal) (timer : List TimerEntry) (by a b c : Option ℕ)
    → IfOk result (λ worked. (worked.cpus ≡ logs) × (worked.timer ≡ timer)) → IfSome by (λ total. total ≡ handed_over logs) → Grows (Some 0) a b → Grows by b c
    → IfOk result (λ worked. Grows (Some (handed_over worked.cpus)) a c)
handed_back (Ok worked) logs timer by a b c told is one two =
    subst (λ (l : List CpuJournal). Grows (Some (handed_over l)) a c) (sym told.0) (grows_by (handed_over logs) by a b c is one two)
handed_back (Err e) logs timer by a b c told is one two = tt

-- ---- faults

pub faults_back : {E : Type 0} (result : Result Worked E) (logs : List CpuJournal) (timer : List TimerEntry) (count a b c : ℕ)
    → IfOk result (λ worked. (worked.cpus ≡ logs) × (worked.timer ≡ timer)) → HasRisenBy (faults_told logs) 0 count → NotFallen a b → HasRisenBy count b c
    → IfOk result (λ worked. HasRisenBy (faults_told worked.cpus) a c)
faults_back (Ok worked) logs timer count a b c told counted fallen risen =
    subst (λ (l : List CpuJournal). HasRisenBy (faults_told l) a c) (sym told.0) (risen_since (faults_told logs) count a b c fallen counted risen)
faults_back (Err e) logs timer count a b c told counted fallen risen = tt

-- where a run is faulted, by as many as a flusher may have
pub eight_back : {D E : Type 0} (result : Result Worked E) (sides : List (CpuSide D)) (refused : Bool) (told count a b c : ℕ)
    → IfOk result (λ worked. EndingIs sides (Ok worked.ending) × (refused ≡ false)) → (EndingIs sides (Ok ending.Faulted) → MOST_FAULTS ≤ told)
    → HasRisenBy told 0 count → NotFallen a b → HasRisenBy count b c → IfOk result (λ worked. worked.ending ≡ ending.Faulted → HasRisenBy MOST_FAULTS a c)
eight_back {D} {E} (Ok worked) sides refused told count a b c ends eight counted fallen risen = λ is.
    risen_less MOST_FAULTS told a c (eight (subst (λ (e : Ending). EndingIs sides (Ok e)) is ends.0)) (risen_since told count a b c fallen counted risen)
eight_back {D} {E} (Err e) sides refused told count a b c ends eight counted fallen risen = tt

-- ---- what is said of a run that is done

pub done_back : {D E : Type 0} (result : Result Worked E) (sides : List (CpuSide D)) (refused : Bool) (Said : Type 0)
    → IfOk result (λ worked. EndingIs sides (Ok worked.ending) × (refused ≡ false)) → (EndingIs sides (Ok ending.Done) → refused ≡ false → Said)
    → IfOk result (λ worked. worked.ending ≡ ending.Done → Said)
done_back {D} {E} (Ok worked) sides refused Said ends says = λ is. says (subst (λ (e : Ending). EndingIs sides (Ok e)) is ends.0) ends.1
done_back {D} {E} (Err e) sides refused Said ends says = tt
