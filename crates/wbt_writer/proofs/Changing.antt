-- A step of the CPU changes its record, and nothing else of the seats.
use Rattle.std.proofs.Common.{◌≡◌, ℕ, refl, sym, ap, ◌∙◌, subst}
use Rattle.wbt_writer.proofs.Common.{CpuRecord, Has, Seated, Changes, Kit, Seats, OnlyCpu, apart_more, record_is, Fits, record_in, OnTable}
use Rattle.wbt_kit.proofs.Common.{has_changed}
use Rattle.wbt_run_steps.specs.Records.{IsApart}
use Rattle.wbt_run_steps.proofs.Changing.{apart_changed, seats_stay}

pub apart_same : (c : ℕ) (old new : Seated) → new ≡ old → IsApart c old new
apart_same c old new same = record {
  others = λ d q other has. subst (λ (s : Seated). Has s.cpus d q) (sym same) has;
  no_more = λ d q other has. subst (λ (s : Seated). Has s.cpus d q) same has;
  timer = ap (λ (s : Seated). s.timer) same;
  layout = ap (λ (s : Seated). s.layout) same;
}

-- ---- what a step of the CPU makes of seats

pub record Changed (cpu : ℕ) (kit : Kit) (f : CpuRecord → CpuRecord) (old new : Seats) : Type 0 where
  pub fits : Fits cpu kit new
  pub on : OnTable cpu old new
  pub becomes : record_in cpu new ≡ f (record_in cpu old)

pub changed : (cpu : ℕ) (kit : Kit) (f : CpuRecord → CpuRecord) (old new : Seats) → Fits cpu kit old → OnlyCpu old new → Changes cpu f old.cpu new.cpu → Changed cpu kit f old new
changed cpu kit f old new fits only change =
    let r = fits.held.0 in
    let has = fits.held.1 in
    let has_now = has_changed cpu f old.cpu new.cpu r change has in
    record {
      fits = record {
        seats_are = seats_stay kit cpu f old new r fits.seats_are has change only;
        held = (f r, has_now);
      };
      on = record { apart = apart_changed cpu f old.cpu new.cpu r change has; share = only.share; est = only.est; queue = only.queue };
      becomes = record_is new.cpu.cpus cpu (f r) has_now ∙ ap f (sym (record_is old.cpu.cpus cpu r has));
    }

-- one table call after another
pub on_more : (cpu : ℕ) (old mid new : Seats) → OnTable cpu old mid → OnTable cpu mid new → OnTable cpu old new
on_more cpu old mid new p q = record {
  apart = apart_more cpu old.cpu mid.cpu new.cpu p.apart q.apart;
  share = q.share ∙ p.share;
  est = q.est ∙ p.est;
  queue = q.queue ∙ p.queue;
}

pub on_same : (cpu : ℕ) (seats : Seats) → OnTable cpu seats seats
on_same cpu seats = record { apart = apart_same cpu seats.cpu seats.cpu refl; share = refl; est = refl; queue = refl }
