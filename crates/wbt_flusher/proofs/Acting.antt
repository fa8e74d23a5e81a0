-- What single calls did: those that make steps of the CPU, those on shares, and those on estimates.
use Rattle.std.proofs.Common.{zero, suc, ◌≡◌, ◌≢◌, ℕ, ◌+◌, ◌<◌, ◌≤◌, ◌⊎◌, Bool, true, false, List, [], length, Some, inl, inr, ⊎_elim, sym, refl, ap, ◌∙◌, subst, arith, eqb, eq-eqb, ne_eqb, true≢false}
use Rattle.std.specs.Prelude.{sum_by}
use Rattle.std.proofs.lemmas.Bool.{cases_lt, cond-true, cond-false}
use mathlib.Core.Logic.{dite}
use native.Mathlib.Decide.{ℕ_discrete}
use Rattle.wbt_flusher.proofs.Common.{times_in, times, room_of, CpuRecord, Grows, Estimate, Has, Scan, Trace, Load, Each, added_to, Told, CpuJournal, IsPlain, Grew, Logged, NotedFlusherTurn, SharesGrew, IsOwn, IsOfFlusher, Flew, FliesInTurn, flusher_after, by_nothing, Gathered, Worker, longer_none, logged_nothing, untold_grows, walked_none, Kit, Seats, IsApart, record_of, record_is, Moments, IsTimed, handed, Did, Works, IsWork, Sight, sight, record_in, phase_by, flusher_in, pages_in, pages_by, shown_of, notes_of, notes_by, OwesRescan, OwesMark, completions, is_completion, all_completions, owing, owing_total, list_by, Waited}
use Rattle.wbt_fraction.specs.Several as fraction
use Rattle.wbt_published.specs.Passes as est
use Rattle.wbt_rules.specs.Places.{page_at}
use Rattle.wbt_journal.specs.Flights as flights
use Rattle.wbt_run_laws.specs.Notes.{Notes, EstimatesGrew}
use Rattle.wbt_run_laws.proofs.Moving.{plain_estimates}
use Rattle.wbt_flusher.specs.Did.{Quiet}
use Rattle.wbt_flusher.specs.Sights.{flusher_by, shown_by}
use Rattle.wbt_flusher.specs.declared.plan.FlusherPlan.{FlusherPlan}
use Rattle.wbt_flusher.specs.declared.work.Phase.{Phase}
use Rattle.wbt_flusher.specs.declared.work.Phase.TheVariants.{Idle, Scanning, Flying, Returning, Failed}
use Rattle.wbt_flusher.specs.declared.work.FlusherWork.{FlusherWork}
use Rattle.wbt_flusher.proofs.Changing.{Changed}
use Rattle.wbt_flusher.proofs.Noting.{shares_by, grows_none}
use Rattle.wbt_flusher.proofs.Waiting.{list_kept}
use Rattle.wbt_run_laws.specs.Shown.{ShownFlusher}

-- ---- what the flusher owes itself is known

-- the page is one of the first so many of a scan, which hasn't passed it
abbrev AheadBelow : (scan : Scan) (page n : ℕ) → Type 0
AheadBelow scan page n = (k : ℕ) × (scan.passed ≤ k) × (k < n) × (page_at scan.first scan.pages scan.start k ≡ page)

ahead_or : (scan : Scan) (page n : ℕ) → AheadBelow scan page n ⊎ (AheadBelow scan page n → ⊥)
ahead_or scan page zero = inr (λ own. let less = own.2 in absurd (omega arith))
ahead_or scan page (suc n) = ⊎_elim
    (λ own. inl (own.0, own.1, (let less = own.2 in omega arith), own.3))
    (λ none. dite (ℕ_discrete (page_at scan.first scan.pages scan.start n) page)
    (λ is. ⊎_elim (λ before. inr (λ own. let from = own.1 in let less = own.2 in absurd (omega arith))) (λ from. inl (n, from, omega arith, is)) (cases_lt n scan.passed))
    (λ other. inr (λ own. ⊎_elim (λ less. none (own.0, own.1, less, own.3))
    (λ past. let less = own.2 in let same : own.0 ≡ n = omega arith in other (subst (λ (k : ℕ). page_at scan.first scan.pages scan.start k ≡ page) same own.3))
    (cases_lt own.0 n))))
    (ahead_or scan page n)

pub rescan_or : (plan : FlusherPlan) (phase : Phase) (page : ℕ) → OwesRescan plan phase page ⊎ (OwesRescan plan phase page → ⊥)
rescan_or plan (Idle until kept) page = inr (λ own. own)
rescan_or plan (Flying flight) page = inr (λ own. own)
rescan_or plan (Returning giving) page = inr (λ own. own)
rescan_or plan Failed page = inr (λ own. own)
rescan_or plan (Scanning scan) page = ahead_or scan page scan.pages

pub mark_or : (phase : Phase) (inode : ℕ) → OwesMark phase inode ⊎ (OwesMark phase inode → ⊥)
mark_or (Idle until kept) inode = inr (λ own. own)
mark_or (Flying flight) inode = inr (λ own. own)
mark_or (Returning giving) inode = dite (ℕ_discrete inode giving.inode) (λ same. inl same) (λ other. inr (λ own. other own))
mark_or Failed inode = inr (λ own. own)
mark_or (Scanning scan) inode = by scan.noted refl
  where
    by : (noted : Bool) → noted ≡ scan.noted → OwesMark (Scanning scan) inode ⊎ (OwesMark (Scanning scan) inode → ⊥)
    by false is = inr (λ own. true≢false (sym own.0 ∙ sym is))
    by true is = ⊎_elim (λ less. inr (λ own. let same = own.1 in absurd (omega arith)))
        (λ from. ⊎_elim (λ more. inr (λ own. let same = own.1 in absurd (omega arith))) (λ to. inl (sym is, omega arith)) (cases_lt scan.inode inode))
        (cases_lt inode scan.inode)

-- ---- what is told of the flusher

-- the flusher with a phase
abbrev pub told_as : (phase : flights.ToldPhase) (faults : ℕ) → flights.ToldFlusher
told_as phase faults = record { phase = phase; faults = faults }

pub same_flusher : (was is : FlusherWork) → phase_by is.batch.items is.phase ≡ phase_by was.batch.items was.phase → is.faults ≡ was.faults → flusher_by is ≡ flusher_by was
same_flusher was is phase faults = λ i. told_as (phase i) (faults i)

-- where the phases before and after a walk are known
pub flew_as : (flusher : ℕ) (added : List Told) (old new : Sight) (before behind : flights.ToldPhase) → phase_by old.work.batch.items old.work.phase ≡ before → phase_by new.work.batch.items new.work.phase ≡ behind → new.work.faults ≡ old.work.faults
    → Flew flusher (told_as before old.work.faults) added (told_as behind old.work.faults) → Flew flusher (flusher_in old) added (flusher_in new)
flew_as flusher added old new before behind was is faults flew =
    subst (λ (z : flights.ToldFlusher × flights.ToldFlusher). Flew flusher z.0 added z.1)
    (λ i. (told_as (sym was i) old.work.faults, told_as (sym is i) (sym faults i))) flew

-- ---- one call

-- what a call says of the record of the flusher's CPU
pub record OnRecord (plan : FlusherPlan) (added : List Told) (old new : Sight) (was is : CpuRecord) : Type 0 where
  pub grew : Grew added was is
  pub writers : is.writers ≡ was.writers
  pub held : (page : ℕ) → times_in page is.held + times_in page (pages_in old) ≡ times_in page was.held + times_in page (pages_in new)
  pub rescans : (page : ℕ) → 1 ≤ times_in page is.owed_rescans
      → OwesRescan plan new.work.phase page ⊎ ((1 ≤ times_in page was.owed_rescans) × (OwesRescan plan old.work.phase page → ⊥))
  pub marks : (inode : ℕ) → 1 ≤ times_in inode is.owed_marks
      → OwesMark new.work.phase inode ⊎ ((1 ≤ times_in inode was.owed_marks) × (OwesMark old.work.phase inode → ⊥))
  pub completed : all_completions new.seats.cpu.cpus + completions was ≡ all_completions old.seats.cpu.cpus + completions is
  pub owing_is : (domain : ℕ) → domain < plan.domains → owing plan domain new.work + completions was ≤ owing plan domain old.work + completions is
  pub total_is : (context : ℕ) → context < length plan.contexts → owing_total plan context new.work + completions was ≤ owing_total plan context old.work + completions is

-- and of what is told. It adds nothing to shares, and publishes nothing
pub record Act (plan : FlusherPlan) (kit : Kit) (told : Moments) (old new : Sight) : Type 0 where
  pub added : List Told
  pub of_flusher : Each (IsOfFlusher plan.flusher) added
  pub plain : Each IsPlain added
  pub adds_none : (domain context : ℕ) → added_to domain context added ≡ 0
  pub logged : Logged added old.log new.log
  pub own : (trace : Trace) → IsWork trace plan kit → Each (IsOwn trace plan.cpu) added
  pub moments : Each (IsTimed told) added
  pub pages : Grows (Some (sum_by handed added)) old.written new.written
  pub flew : Flew plan.flusher (flusher_in old) added (flusher_in new)
  pub waited : (trace : Trace) → IsWork trace plan kit → Waited trace plan.flusher (list_by old.work) added (list_by new.work)
  pub apart : IsApart plan.cpu old.seats.cpu new.seats.cpu
  pub on_record : OnRecord plan added old new (record_in plan old) (record_in plan new)
  pub share : new.seats.share ≡ old.seats.share
  pub est : new.seats.est ≡ old.seats.est

-- a flusher among those that its CPU shows
module _ (plan : FlusherPlan) (base : Worker) where
  pub own_flusher_is : (s : Sight) → (shown_of plan base s).flushers plan.flusher ≡ shown_by s.work
  own_flusher_is s = cond-true (eqb plan.flusher plan.flusher) (shown_by s.work) (base.shown.flushers plan.flusher) (eq-eqb plan.flusher plan.flusher refl)

  pub others_stay : (old new : Sight) (g : ℕ) → g ≢ plan.flusher → (shown_of plan base new).flushers g ≡ (shown_of plan base old).flushers g
  others_stay old new g other = cond-false (eqb g plan.flusher) (shown_by new.work) (base.shown.flushers g) (ne_eqb g plan.flusher other)
      ∙ sym (cond-false (eqb g plan.flusher) (shown_by old.work) (base.shown.flushers g) (ne_eqb g plan.flusher other))

  pub own_flew : (old new : Sight) (added : List Told) → Flew plan.flusher (flusher_in old) added (flusher_in new)
      → Flew plan.flusher ((shown_of plan base old).flushers plan.flusher).told added ((shown_of plan base new).flushers plan.flusher).told
  own_flew old new added flew = subst (λ (z : ShownFlusher × ShownFlusher). Flew plan.flusher z.0.told added z.1.told) (λ i. (sym (own_flusher_is old) i, sym (own_flusher_is new) i)) flew

  pub own_waited : (trace : Trace) (old new : Sight) (added : List Told) → Waited trace plan.flusher (list_by old.work) added (list_by new.work)
      → Waited trace plan.flusher ((shown_of plan base old).flushers plan.flusher).waits added ((shown_of plan base new).flushers plan.flusher).waits
  own_waited trace old new added waited = subst (λ (z : ShownFlusher × ShownFlusher). Waited trace plan.flusher z.0.waits added z.1.waits) (λ i. (sym (own_flusher_is old) i, sym (own_flusher_is new) i)) waited

module _ (plan : FlusherPlan) (kit : Kit) (told : Moments) (old new : Sight) (act : Act plan kit told old new) where
  notes_stay : (base : Worker) → notes_of base new ≡ notes_of base old
  notes_stay base = ap (λ (z : fraction.Seats × est.Seats). notes_by base z.0 z.1) (λ i. (act.share i, act.est i))

  notes_told : (base : Worker) → SharesGrew plan.cpu act.added (notes_of base old) (notes_of base new) × EstimatesGrew kit.published.firsts plan.cpu act.added (notes_of base old) (notes_of base new)
  notes_told base = subst (λ (n : Notes). SharesGrew plan.cpu act.added (notes_of base old) n × EstimatesGrew kit.published.firsts plan.cpu act.added (notes_of base old) n) (sym (notes_stay base)) (
    shares_by plan.flusher plan.cpu act.added (notes_of base old) (notes_of base old) act.of_flusher (λ domain context. refl) (λ domain. longer_none ((notes_of base old).shares domain))
        (λ domain context. let none = act.adds_none domain context in omega arith) (λ domain. refl),
    plain_estimates kit.published.firsts plan.cpu act.added (notes_of base old) (notes_of base old) act.plain (λ context. refl),
  )

  turn_told : (trace : Trace) → IsWork trace plan kit → (base : Worker)
      → NotedFlusherTurn trace kit.published.moment plan.cpu plan.flusher act.added (shown_of plan base old) (shown_of plan base new) (notes_of base old) (notes_of base new)
  turn_told trace is base = record {
    turn = record {
      grew = act.on_record.grew;
      flew = own_flew plan base old new act.added act.flew;
      waited = own_waited plan base trace old new act.added (act.waited trace is);
      own = act.own trace is;
      of_flusher = act.of_flusher;
      firsts_stay = refl;
      others_stay = others_stay plan base old new;
      side_stays = refl;
      written_stays = λ task. refl;
    };
    shares = (notes_told base).0;
    estimates = subst (λ (l : List Estimate). EstimatesGrew l plan.cpu act.added (notes_of base old) (notes_of base new)) is.firsts (notes_told base).1;
  }

  pub did_act : Did plan kit told old new
  did_act = record {
    added = act.added;
    logged = act.logged;
    turn = turn_told;
    moments = act.moments;
    pages = act.pages;
    apart = act.apart;
    writers = act.on_record.writers;
    held = act.on_record.held;
    rescans = act.on_record.rescans;
    marks = act.on_record.marks;
    rooms = λ domain is.
        let same = ap (λ (s : fraction.Seats). fraction.room_in domain s.domains) act.share in
        let completed = act.on_record.completed in
        let owes = act.on_record.owing_is domain is in omega arith;
    totals = λ context is.
        let same = ap (λ (s : fraction.Seats). room_of context s.totals.rooms) act.share in
        let completed = act.on_record.completed in
        let owes = act.on_record.total_is context is in omega arith;
    stakes = λ domain. ap (λ (s : fraction.Seats). fraction.stakes_in domain s.domains) act.share;
    total_stakes = ap (λ (s : fraction.Seats). s.totals.stakes) act.share;
  }

-- the record of a CPU that is held, before and after
pub on_cpu : (plan : FlusherPlan) (added : List Told) (old new : Sight) (was is : CpuRecord) → Has old.seats.cpu.cpus plan.cpu was → Has new.seats.cpu.cpus plan.cpu is
    → OnRecord plan added old new was is → OnRecord plan added old new (record_in plan old) (record_in plan new)
on_cpu plan added old new was is had has on =
    subst (λ (z : CpuRecord × CpuRecord). OnRecord plan added old new z.0 z.1)
    (λ i. (sym (record_is old.seats.cpu.cpus plan.cpu was had) i, sym (record_is new.seats.cpu.cpus plan.cpu is has) i)) on

-- ---- loads, and other steps that no entry tells

pub record Untold (plan : FlusherPlan) (old new : Seats) : Type 0 where
  pub was : CpuRecord
  pub is : CpuRecord
  pub has : Has old.cpu.cpus plan.cpu was
  pub changed : Changed plan.cpu was is old.cpu new.cpu
  pub loads : List Load
  pub gathered : Gathered loads was is
  pub share : new.share ≡ old.share
  pub est : new.est ≡ old.est
  pub queue : new.queue ≡ old.queue
  pub writers : is.writers ≡ was.writers
  pub held : is.held ≡ was.held
  pub rescans : is.owed_rescans ≡ was.owed_rescans
  pub marks : is.owed_marks ≡ was.owed_marks

pub quiet_by : (plan : FlusherPlan) (kit : Kit) (old new : Seats) → Untold plan old new → Quiet plan kit old new
quiet_by plan kit old new by told work log written =
    let s = sight work old log written in
    let t = sight work new log written in
    let events = ap (times is_completion) by.gathered.events in
    did_act plan kit told s t (record {
      added = [];
      of_flusher = tt;
      plain = tt;
      adds_none = λ domain context. refl;
      logged = logged_nothing log;
      own = λ trace is. tt;
      moments = tt;
      pages = grows_none written;
      flew = walked_none (FliesInTurn plan.flusher) (flusher_after plan.flusher) (flusher_in s);
      waited = λ trace is. list_kept trace plan.flusher [] (list_by work) (list_by work) tt refl;
      apart = by.changed.apart;
      share = by.share;
      est = by.est;
      on_record = on_cpu plan [] s t by.was by.is by.has by.changed.has (record {
        grew = untold_grows by.loads by.was by.is by.gathered;
        writers = by.writers;
        held = λ page. let same = ap (times_in page) by.held in omega arith;
        rescans = λ page owes. ⊎_elim (λ own. inl own)
            (λ other. inr (subst (λ (l : List ℕ). 1 ≤ times_in page l) by.rescans owes, other)) (rescan_or plan work.phase page);
        marks = λ inode owes. ⊎_elim (λ own. inl own)
            (λ other. inr (subst (λ (l : List ℕ). 1 ≤ times_in inode l) by.marks owes, other)) (mark_or work.phase inode);
        completed = by.changed.completed;
        owing_is = λ domain is. omega arith;
        total_is = λ context is. omega arith;
      });
    })

-- ---- calls that change only what the flusher keeps

pub record Kept (plan : FlusherPlan) (seats : Seats) (was is : FlusherWork) : Type 0 where
  pub phase : phase_by is.batch.items is.phase ≡ phase_by was.batch.items was.phase
  pub faults : is.faults ≡ was.faults
  pub waits : list_by is ≡ list_by was
  pub held : (page : ℕ) → times_in page (pages_by is.batch.items is.phase) ≡ times_in page (pages_by was.batch.items was.phase)
  pub rescans : (page : ℕ) → 1 ≤ times_in page (record_of plan.cpu seats.cpu.cpus).owed_rescans → OwesRescan plan was.phase page → OwesRescan plan is.phase page
  pub marks : (inode : ℕ) → 1 ≤ times_in inode (record_of plan.cpu seats.cpu.cpus).owed_marks → OwesMark was.phase inode → OwesMark is.phase inode
  pub owing_is : (domain : ℕ) → domain < plan.domains → owing plan domain is ≤ owing plan domain was
  pub total_is : (context : ℕ) → context < length plan.contexts → owing_total plan context is ≤ owing_total plan context was

pub works_by : (plan : FlusherPlan) (kit : Kit) (seats : Seats) (log : CpuJournal) (was is : FlusherWork) → Kept plan seats was is → Works plan kit seats seats log log was is
works_by plan kit seats log was is kept told written =
    let s = sight was seats log written in
    let t = sight is seats log written in
    did_act plan kit told s t (record {
      added = [];
      of_flusher = tt;
      plain = tt;
      adds_none = λ domain context. refl;
      logged = logged_nothing log;
      own = λ trace work. tt;
      moments = tt;
      pages = grows_none written;
      flew = subst (λ (p : flights.ToldFlusher). Flew plan.flusher (flusher_in s) [] p) (sym (same_flusher was is kept.phase kept.faults)) (walked_none (FliesInTurn plan.flusher) (flusher_after plan.flusher) (flusher_in s));
      waited = λ trace work. list_kept trace plan.flusher [] (list_by was) (list_by is) tt kept.waits;
      apart = record { others = λ c r other has. has; no_more = λ c r other has. has; timer = refl; layout = refl };
      share = refl;
      est = refl;
      on_record = record {
        grew = by_nothing (record_in plan s);
        writers = refl;
        held = λ page. let same = kept.held page in omega arith;
        rescans = λ page owes. ⊎_elim (λ own. inl (kept.rescans page owes own)) (λ other. inr (owes, other)) (rescan_or plan was.phase page);
        marks = λ inode owes. ⊎_elim (λ own. inl (kept.marks inode owes own)) (λ other. inr (owes, other)) (mark_or was.phase inode);
        completed = refl;
        owing_is = λ domain there. let less = kept.owing_is domain there in omega arith;
        total_is = λ context there. let less = kept.total_is context there in omega arith;
      };
    })
