-- Seats stay fit for the flusher where one part of them changes, and what single steps of its CPU are.
use Rattle.std.proofs.Common.{◌≡◌, ℕ, inl, inr, List, [], ◌∷◌, sym, refl, ap, ◌∙◌, subst}
use Rattle.wbt_flusher.proofs.Common.{Counter, Domain, count, record_after, CpuRecord, Load, known_of, setting, Has, Changes, Triple, Cpu, Gathered, steps_grow, Kit, Seats, record_is, DomainLoad, OnlyCpu, GoesQuiet, Fits, KeepsDebts, Suits}
use Rattle.wbt_kit.proofs.Common.{version_in, Count, NoneAhead, whole_load}
use Rattle.wbt_published.specs.Passes as est
use Rattle.wbt_table.specs.Calls.{record_of as made_of}
use Rattle.wbt_run_laws.specs.Steps.{load_made}
use Rattle.wbt_run_steps.proofs.Held.{cut_gathers, cut_leaves, load_gathers}
use Rattle.wbt_run_steps.specs.Loads.{HoldsLoader, LoadsCount, LoadsDomain, LoadsLimits, LoadsPart, LoadsSome}
use Rattle.wbt_run_steps.proofs.Changing.{seats_stay}
use Rattle.wbt_flusher.specs.declared.plan.FlusherPlan.{FlusherPlan}
use Rattle.wbt_flusher.proofs.Going.{goes_quiet, quiet_more}
use Rattle.wbt_flusher.proofs.Changing.{changed}

pub fits_cpu : (plan : FlusherPlan) (kit : Kit) (old new : Seats) (f : CpuRecord → CpuRecord) → Fits plan kit old → Changes plan.cpu f old.cpu new.cpu → OnlyCpu old new → Fits plan kit new
fits_cpu plan kit old new f fits change only =
    let r = fits.held.0 in
    let has = fits.held.1 in
    record {
      seats_are = seats_stay kit plan.cpu f old new r fits.seats_are has change only;
      held = (f r, (changed plan.cpu f old.cpu new.cpu r change has).has);
      publishes = λ context measured. ap (λ (s : est.Seats). (known_of context s).publishes) only.est ∙ fits.publishes context measured;
    }

-- a step of the flusher's CPU that no entry tells
pub record GivesQuiet (plan : FlusherPlan) (kit : Kit) (old new : Seats) : Type 0 where
  pub fits : Fits plan kit new
  pub goes : GoesQuiet plan kit old new
  pub debts : KeepsDebts plan old new

pub keeps_debts : (plan : FlusherPlan) (old new : Seats) (f : CpuRecord → CpuRecord) (r : CpuRecord) → Has old.cpu.cpus plan.cpu r → Changes plan.cpu f old.cpu new.cpu → (f r).debts ≡ r.debts → KeepsDebts plan old new
keeps_debts plan old new f r has change same =
    ap (λ (q : CpuRecord). q.debts) (record_is new.cpu.cpus plan.cpu (f r) (changed plan.cpu f old.cpu new.cpu r change has).has)
    ∙ same ∙ sym (ap (λ (q : CpuRecord). q.debts) (record_is old.cpu.cpus plan.cpu r has))

pub may_load : (plan : FlusherPlan) (kit : Kit) (seats : Seats) → Suits plan kit → Fits plan kit seats → HoldsLoader kit (Cpu plan.cpu) seats
may_load plan kit seats suits fits = record { no_timer = refl; held = (suits.cpu, fits.held) }

module _ (plan : FlusherPlan) (kit : Kit) (old new : Seats) (fits : Fits plan kit old) where
  -- the record that it makes, and of which this is kept
  pub gives_quiet : (f : CpuRecord → CpuRecord) (loads : List Load) → Changes plan.cpu f old.cpu new.cpu → OnlyCpu old new
      → (x : CpuRecord) → f fits.held.0 ≡ x → Gathered loads fits.held.0 (f fits.held.0)
      → x.writers ≡ fits.held.0.writers → x.held ≡ fits.held.0.held → x.owed_rescans ≡ fits.held.0.owed_rescans → x.owed_marks ≡ fits.held.0.owed_marks → x.debts ≡ fits.held.0.debts → GivesQuiet plan kit old new
  gives_quiet f loads change only x is gathered writers held rescans marks debts =
      let r = fits.held.0 in
      let has = fits.held.1 in
      let fits' = fits_cpu plan kit old new f fits change only in
      record {
        fits = fits';
        goes = goes_quiet plan kit old new (record {
          was = r;
          is = f r;
          has = has;
          changed = changed plan.cpu f old.cpu new.cpu r change has;
          loads = loads;
          gathered = gathered;
          share = only.share;
          est = only.est;
          queue = only.queue;
          writers = ap (λ (q : CpuRecord). q.writers) is ∙ writers;
          held = ap (λ (q : CpuRecord). q.held) is ∙ held;
          rescans = ap (λ (q : CpuRecord). q.owed_rescans) is ∙ rescans;
          marks = ap (λ (q : CpuRecord). q.owed_marks) is ∙ marks;
        }) fits';
        debts = keeps_debts plan old new f r has change (ap (λ (q : CpuRecord). q.debts) is ∙ debts);
      }

  -- loads
  pub loaded_limits : (domain : ℕ) (t : Triple) → LoadsLimits kit plan.cpu (Cpu plan.cpu) domain t old new → GivesQuiet plan kit old new
  loaded_limits domain t loads =
      let set' = setting kit.throttle.layout in
      let r = fits.held.0 in
      let f = made_of set' (whole_load (Cpu plan.cpu) plan.cpu domain loads.first loads.thresh loads.second) in
      gives_quiet f [] loads.makes.becomes loads.makes.only (f r) refl (load_gathers set' (Cpu plan.cpu) plan.cpu domain loads.first loads.thresh loads.second r) refl refl refl refl refl

  -- where that was stopped
  loaded_some : (domain : ℕ) → LoadsSome kit plan.cpu domain old new → GivesQuiet plan kit old new
  loaded_some domain some =
      let set' = setting kit.throttle.layout in
      let r = fits.held.0 in
      let f = made_of set' some.made in
      let leaves = cut_leaves set' plan.cpu domain some.made r some.cut in
      gives_quiet f [] some.makes.becomes some.makes.only (f r) refl (cut_gathers set' plan.cpu domain some.made r some.cut) leaves.writers leaves.held leaves.rescans leaves.marks leaves.debts

  pub loaded_count : (x : Counter) (c : Count) → LoadsCount kit (Cpu plan.cpu) x c old new → GivesQuiet plan kit old new
  loaded_count x c loads =
      let set' = setting kit.throttle.layout in
      let r = fits.held.0 in
      let f = record_after set' (count (Cpu plan.cpu) x) loads.found in
      let newest : NoneAhead (version_in loads.found) x r = subst (λ (v : ℕ). NoneAhead v x r) (ap (λ (k : Count). k.version) loads.is_found) (loads.newest r fits.held.1) in
      gives_quiet f (load_made x loads.found ∷ []) loads.makes.changes loads.only (f r) refl
      ((steps_grow set' loads.found r).counts (Cpu plan.cpu) x newest) refl refl refl refl refl

module _ (plan : FlusherPlan) (kit : Kit) (domain : ℕ) (old new : Seats) (fits : Fits plan kit old) where
  pub loaded_domain : (load : DomainLoad) → LoadsDomain kit plan.cpu (Cpu plan.cpu) domain load old new → GivesQuiet plan kit old new
  loaded_domain load loads =
      let a = loaded_limits plan kit old loads.between fits domain (record { version = load.version; limits = load.limits }) loads.limits in
      let b = loaded_count plan kit loads.between new a.fits (Domain domain) load.count loads.count in
      record { fits = b.fits; goes = quiet_more plan kit old loads.between new a.goes b.goes; debts = b.debts ∙ a.debts }

  -- where the gate stopped it
  pub loaded_part : LoadsPart kit plan.cpu (Cpu plan.cpu) domain old new → GivesQuiet plan kit old new
  loaded_part (inl some) = loaded_some plan kit old new fits domain some
  loaded_part (inr some) = loaded_limits plan kit old new fits domain some.0 some.1
