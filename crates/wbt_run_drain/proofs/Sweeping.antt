-- What the sweep finds.
use Rattle.std.proofs.Common.{◌≡◌, ℕ, zero, suc, ◌<◌, ap, ◌∙◌, refl, subst, arith}
use Rattle.wbt_run_worker.proofs.Common.{absorbs, completes, dirties, times, times_in, one_if, total, total_same, deeds_of, CpuRecord}
use Rattle.wbt_book.specs.Ledger.{PageLedger}
use Rattle.wbt_run_drain.specs.Cleaned.{CleanIsCleaned}

none_in_all : (n : ℕ) (f : ℕ → ℕ) → ((i : ℕ) → i < n → f i ≡ 0) → total n f ≡ 0
none_in_all zero f none = refl
none_in_all (suc n) f none = let rest = none_in_all n f (λ i less. none i (omega arith)) in let last = none n (omega arith) in omega arith

pub clean_is_cleaned : CleanIsCleaned
clean_is_cleaned trace kit last seats inode page of held found less its free =
    let s = found.state in
    let even = subst (λ (n : ℕ). PageLedger n page (s.book page) (λ i. deeds_of (s.cpu i))) of.cpus (found.rule.ledger.each_page page) in
    let no_bit : one_if (s.book page).dirty ≡ 0 = ap one_if (found.clean page less its) in
    let a = total_same trace.cpus (λ i. times (dirties page) (s.cpu i).events) (λ i. times (dirties page) (last i).held.events)
    (λ i there. ap (λ (r : CpuRecord). times (dirties page) r.events) (found.records.cpus i (last i).held (held i there))) in
    let b = total_same trace.cpus (λ i. times (completes page) (s.cpu i).events) (λ i. times (completes page) (last i).held.events)
    (λ i there. ap (λ (r : CpuRecord). times (completes page) r.events) (found.records.cpus i (last i).held (held i there))) in
    let c = total_same trace.cpus (λ i. times (absorbs page) (s.cpu i).events) (λ i. times (absorbs page) (last i).held.events)
    (λ i there. ap (λ (r : CpuRecord). times (absorbs page) r.events) (found.records.cpus i (last i).held (held i there))) in
    let none : total trace.cpus (λ i. times_in page (s.cpu i).held) ≡ 0 = none_in_all trace.cpus (λ i. times_in page (s.cpu i).held)
    (λ i there. ap (λ (r : CpuRecord). times_in page r.held) (found.records.cpus i (last i).held (held i there)) ∙ free i there) in
    let d = even.dirtyings in let e = even.claimings in let f = even.one_holder in
    omega arith
