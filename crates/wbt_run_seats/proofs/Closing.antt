-- A throttle of one writer, whose page is dirtied before it is closed.
use Rattle.std.proofs.Common.{◌≡◌, ℕ, zero, suc, ◌<◌, [], ◌∷◌, replicate, Some, refl, sym, ap, ◌∙◌, subst, arith}
use Rattle.wbt_kit.proofs.Common.{no_record, CpuRecord, CanDirty, HoldsAll, setting, Cpus, Has, Holds, put_record, Seated, Changes, Layout}
use Rattle.wbt_table.specs.Calls.{IsFirst}

abbrev pub one_writer : Layout
one_writer = record {
  cpus = 1;
  cap = 32;
  firsts = record { thresh = 100; bg = 50; hard = 100 } ∷ [];
  contexts = 0 ∷ [];
  inodes = record { context = 0; first = 0; pages = 3 } ∷ [];
  writers = record { cpu = 0; context = 0 } ∷ [];
  page_steps = 8;
}

pub may_dirty : (seat : Seated) → IsFirst seat → seat.layout ≡ one_writer → Holds seat.cpus ((setting one_writer).seat 0) (CanDirty (setting one_writer) 0 1)
may_dirty seat first is = (
  no_record,
  subst (λ (l : Cpus). Has l 0 no_record) (sym (first.cpus ∙ ap (λ (l : Layout). replicate l.cpus (Some no_record)) is)) refl,
  record { writer_is = omega arith; page_is = omega arith; its_context = refl; some_left = omega arith; owes_none = refl },
)

pub first_holds_all : (seat : Seated) → IsFirst seat → seat.layout ≡ one_writer → HoldsAll seat
first_holds_all seat first is = record {
  cpus = λ i less. (no_record, subst (λ (l : Cpus). Has l i no_record) (sym (first.cpus ∙ ap (λ (l : Layout). replicate l.cpus (Some no_record)) is)) (at i (omega (arith, less, ap (λ (l : Layout). l.cpus) is))));
  timer = (_, first.timer);
}
  where
    at : (i : ℕ) → i < 1 → Has (replicate 1 (Some no_record)) i no_record
    at zero less = refl
    at (suc i) less = absurd (omega arith)

pub changed_holds_all : (f : CpuRecord → CpuRecord) (old new : Seated) → IsFirst old → old.layout ≡ one_writer → Changes 0 f old new → HoldsAll new
changed_holds_all f old new first is change =
    let cpus = first.cpus ∙ ap (λ (l : Layout). replicate l.cpus (Some no_record)) is in
    let had : Has old.cpus 0 no_record = subst (λ (l : Cpus). Has l 0 no_record) (sym cpus) refl in
    let now = change.cpus no_record had ∙ ap (λ (l : Cpus). put_record 0 (f no_record) l) cpus in
    record {
      cpus = λ i less. (f no_record, subst (λ (l : Cpus). Has l i (f no_record)) (sym now) (at i (omega (arith, less, ap (λ (l : Layout). l.cpus) (change.layout ∙ is)))));
      timer = (_, change.timer ∙ first.timer);
    }
  where
    at : (i : ℕ) → i < 1 → Has (put_record 0 (f no_record) (replicate 1 (Some no_record))) i (f no_record)
    at zero less = refl
    at (suc i) less = absurd (omega arith)
