-- What was settled was paid by folds, which are told.
use Rattle.std.proofs.Common.{◌≡◌, ℕ, Bool, true, false, List, refl, sym, ap, ◌∙◌, subst}
use Rattle.wbt_writer.proofs.Common.{CpuRecord, Each, Told, CpuJournal, HasCounter, Has, Trace, Kit, Seats, IsStopped, record_is, Grew, Logged, AreAt, Fits, OwesNothing, record_in, OnTable}
use Rattle.wbt_kit.proofs.Common.{Fold, AreSeatsOf, has_changed}
use Rattle.wbt_run_steps.specs.Steps.{Settled, tells_folds}
use Rattle.wbt_run_steps.proofs.Changing.{apart_changed}
use Rattle.wbt_run_steps.proofs.Telling.{each_fold_of}
use Rattle.wbt_writer.specs.Settles.{IsFoldAt}
use Rattle.wbt_writer.specs.declared.work.WriterWork.{WriterWork}

-- folds were made, and told as the record got them
pub record Pays (cpu : ℕ) (kit : Kit) (old new : Seats) (before behind : CpuJournal) : Type 0 where
  pub added : List Told
  pub logged : Logged added before behind
  pub folds : Each (IsFoldAt kit) added
  pub grew : Grew added (record_in cpu old) (record_in cpu new)
  pub on : OnTable cpu old new
  pub held : (record_in cpu new).held ≡ (record_in cpu old).held
  pub marks : (record_in cpu new).owed_marks ≡ (record_in cpu old).owed_marks
  pub rescans : (record_in cpu new).owed_rescans ≡ (record_in cpu old).owed_rescans
  pub writers : (record_in cpu new).writers ≡ (record_in cpu old).writers
  pub page_steps : (record_in cpu new).page_steps ≡ (record_in cpu old).page_steps

module _ (cpu : ℕ) (kit : Kit) (said : ℕ → ℕ → Bool → Type 0) (all : Bool) (old new : Seats) (before behind : CpuJournal) (s : Settled cpu kit said all old new before behind) where
  has_now : Has new.cpu.cpus cpu s.is
  has_now = has_changed cpu (λ (q : CpuRecord). s.is) old.cpu new.cpu s.was s.becomes s.had

  was_is : record_in cpu old ≡ s.was
  was_is = record_is old.cpu.cpus cpu s.was s.had

  now_is : record_in cpu new ≡ s.is
  now_is = record_is new.cpu.cpus cpu s.is has_now

  pub fits_paid : AreSeatsOf kit new → Fits cpu kit new
  fits_paid seats = record { seats_are = seats; held = (s.is, has_now) }

  pub at_paid : (trace : Trace) (work : WriterWork) → AreAt trace cpu kit work old → AreSeatsOf kit new → AreAt trace cpu kit work new
  at_paid trace work at seats = record { is_work = at.is_work; suits = at.suits; its = at.its; fits = fits_paid seats }

  pub pays : Pays cpu kit old new before behind
  pays = record {
    added = tells_folds s.folds;
    logged = s.logged;
    folds = each_fold_of (IsFoldAt kit) (λ (f : Fold). HasCounter kit.throttle.layout f.counter) (λ f there. record { fold = f; told = refl; counter = there }) s.folds s.there;
    grew = subst (λ (z : CpuRecord × CpuRecord). Grew (tells_folds s.folds) z.0 z.1) (λ i. (sym was_is i, sym now_is i)) s.grew;
    on = record { apart = apart_changed cpu (λ (q : CpuRecord). s.is) old.cpu new.cpu s.was s.becomes s.had; share = s.only.share; est = s.only.est; queue = s.only.queue };
    held = ap (λ (r : CpuRecord). r.held) now_is ∙ s.stays.held ∙ ap (λ (r : CpuRecord). r.held) (sym was_is);
    marks = ap (λ (r : CpuRecord). r.owed_marks) now_is ∙ s.stays.marks ∙ ap (λ (r : CpuRecord). r.owed_marks) (sym was_is);
    rescans = ap (λ (r : CpuRecord). r.owed_rescans) now_is ∙ s.stays.rescans ∙ ap (λ (r : CpuRecord). r.owed_rescans) (sym was_is);
    writers = ap (λ (r : CpuRecord). r.writers) now_is ∙ s.stays.writers ∙ ap (λ (r : CpuRecord). r.writers) (sym was_is);
    page_steps = ap (λ (r : CpuRecord). r.page_steps) now_is ∙ s.stays.page_steps ∙ ap (λ (r : CpuRecord). r.page_steps) (sym was_is);
  }

  pub paid_all : all ≡ true → OwesNothing cpu new
  paid_all is = ap (λ (r : CpuRecord). r.debts) now_is ∙ s.paid is

  pub stopped : all ≡ false → IsStopped cpu said new
  stopped is = (s.is, has_now, s.stopped is)
