-- What a CPU owes to counters is paid, and told.
use Rattle.std.proofs.Common.{ℕ, Bool, List, subst}
use Rattle.wbt_kit.proofs.Common.{Fold, CpuRecord, setting, HasCounter, Has, Changes, has_changed, Each, CpuJournal, AreSeatsOf}
use Rattle.wbt_table.specs.Calls.{Comes, SettlesLogged}
use Rattle.wbt_table.specs.declared.answer.Settled.{Settled as Answer}
use Rattle.wbt_run_laws.specs.Grew.{Grew}
use Rattle.wbt_kit.specs.declared.kit.Kit.{Kit}
use Rattle.wbt_kit.specs.declared.kit.Seats.{Seats}
use Rattle.wbt_run_steps.specs.Debts.{AreOnce}
use Rattle.wbt_run_steps.specs.Gate.{AskedBeforeEach}
use Rattle.wbt_run_steps.specs.Kinds.{StepsToPay}
use Rattle.wbt_run_steps.specs.Pens.{with_fold}
use Rattle.wbt_run_steps.specs.Records.{OnlyCpu}
use Rattle.wbt_run_steps.specs.Steps.{AreOwed, Settled, tells_folds}
use Rattle.wbt_run_steps.proofs.Changing.{record_is, seats_stay}
use Rattle.wbt_run_steps.proofs.Gating.{asked_each}
use Rattle.wbt_run_steps.proofs.Ordering.{settled_order}
use Rattle.wbt_run_steps.proofs.Payments.{steps_paid}
use Rattle.wbt_run_steps.proofs.Settling.{AreOf, in_order, settled_paid}
use Rattle.wbt_run_steps.proofs.Telling.{folds_logged}

pub record Settles' (cpu : ℕ) (kit : Kit) (said : ℕ → ℕ → Bool → Type 0) (all : Bool) (old new : Seats) (before behind : CpuJournal) : Type 0 where
  pub seats : AreSeatsOf kit new
  pub settled : Settled cpu kit said all old new before behind
  pub asked : AskedBeforeEach cpu said old new
  pub kinds : StepsToPay cpu all old new

pub settles : (cpu : ℕ) (kit : Kit) (said : ℕ → ℕ → Bool → Type 0) (answer : Answer) (old new : Seats) (before : CpuJournal) → AreSeatsOf kit old
    → (held : (r : CpuRecord) × Has old.cpu.cpus cpu r) → OnlyCpu old new → AreOwed cpu kit old
    → Comes cpu (SettlesLogged (setting kit.throttle.layout) cpu (said cpu) answer old.cpu new.cpu) old.cpu new.cpu
    → Settles' cpu kit said answer.all old new before (with_fold answer.third (with_fold answer.second (with_fold answer.first before)))
settles cpu kit said answer old new before seats held only owed comes =
    let r = held.0 in
    let has = held.1 in
    let to = comes.cpus r has in
    let r' = to.0 in
    let by = to.1.0 in
    let change : Changes cpu (λ (q : CpuRecord). r') old.cpu new.cpu = record { table = comes.table; layout = comes.layout; timer = comes.timer; cpus = λ q hasq. to.2 } in
    let P = HasCounter kit.throttle.layout in
    let owed' : AreOf P r.debts = subst (λ (q : CpuRecord). AreOf P q.debts) (record_is old.cpu.cpus cpu r has) owed.there in
    let once : AreOnce r.debts = subst (λ (q : CpuRecord). AreOnce q.debts) (record_is old.cpu.cpus cpu r has) owed.once in
    let both = settled_paid P (setting kit.throttle.layout) cpu (said cpu) answer r r' by owed' in
    let paid = both.0 in
    let folds = in_order answer in
    record {
      seats = seats_stay kit cpu (λ (q : CpuRecord). r') old new r seats has change only;
      settled = record {
        was = r;
        is = r';
        had = has;
        becomes = change;
        only = only;
        folds = folds;
        logged = folds_logged answer before;
        grew = subst (λ (fs : List Fold). Grew (tells_folds fs) r r') both.1 paid.grew;
        there = subst (λ (fs : List Fold). Each (λ (f : Fold). P f.counter) fs) both.1 paid.of;
        stays = paid.stays;
        order = settled_order (setting kit.throttle.layout) cpu (said cpu) answer r r' by once;
        paid = by.all_paid;
        stopped = by.stopped;
      };
      asked = asked_each cpu said (setting kit.throttle.layout) by.made r r' old new has (has_changed cpu (λ (q : CpuRecord). r') old.cpu new.cpu r change has) by.becomes by.asked;
      kinds = steps_paid (setting kit.throttle.layout) cpu (said cpu) answer old new r r' has once by to.1.1;
    }
