-- What is counted for the bound of a domain, piece by piece.
use Rattle.std.proofs.Common.{◌≡◌, ℕ, zero, suc, ◌<◌, ◌≤◌, Bool, true, false, ◌&&◌, nat_le, Some, None, List, refl, sym, ap, ◌∙◌, arith, ◌⊎◌, inl, inr}
use Rattle.std.proofs.lemmas.Bool.{cases_eq}
use Rattle.wbt_audit_walk.proofs.Common.{Trace, Left, TimerEntry, is_bounded, domains, unless}
use Rattle.wbt_journal.specs.Leaves.{count_of, bound_of}

and_false : (a b : Bool) → b ≡ false → (a && b) ≡ false
and_false true b q = q
and_false false b q = refl

first_false : (a b : Bool) → a ≡ false → (a && b) ≡ false
first_false a b p = rw p

-- one domain that isn't
by_case : (trace : Trace) (entries : List TimerEntry) (left : List Left) (n domains : ℕ) → nat_le (count_of trace n left) (bound_of trace entries n) ≡ false
    → ((n ≡ domains → ⊥) → is_bounded trace entries left domains ≡ false) → (n ≡ domains) ⊎ (n ≡ domains → ⊥) → is_bounded trace entries left (suc domains) ≡ false
by_case trace entries left n domains here before (inl e) =
    first_false (nat_le (count_of trace domains left) (bound_of trace entries domains)) (is_bounded trace entries left domains)
    (ap (λ (k : ℕ). nat_le (count_of trace k left) (bound_of trace entries k)) (sym e) ∙ here)
by_case trace entries left n domains here before (inr e) =
    and_false (nat_le (count_of trace domains left) (bound_of trace entries domains)) (is_bounded trace entries left domains) (before e)

pub unbounded : (trace : Trace) (entries : List TimerEntry) (left : List Left) (n domains : ℕ) → n < domains
    → nat_le (count_of trace n left) (bound_of trace entries n) ≡ false → is_bounded trace entries left domains ≡ false
unbounded trace entries left n zero low here = absurd (omega arith)
unbounded trace entries left n (suc domains) low here =
    by_case trace entries left n domains here (λ e. unbounded trace entries left n domains (omega arith) here) (cases_eq n domains)

unless_false : (test : Bool) (line at : ℕ) → test ≡ false → line ≡ at → Some line ≡ unless test at
unless_false test line at is same = rw is (ap (λ (n : ℕ). Some n) same)

unless_true : (test : Bool) (at : ℕ) → test ≡ true → None ≡ unless test at
unless_true test at is = rw is

pub exceeded : (trace : Trace) (entries : List TimerEntry) (left : List Left) (n count line at : ℕ) → count ≡ domains trace → n < count
    → nat_le (count_of trace n left) (bound_of trace entries n) ≡ false → line ≡ at → Some line ≡ unless (is_bounded trace entries left (domains trace)) at
exceeded trace entries left n count line at is low here same =
    unless_false (is_bounded trace entries left (domains trace)) line at (unbounded trace entries left n (domains trace) (omega (arith, is, low)) here) same

pub stands : (trace : Trace) (entries : List TimerEntry) (left : List Left) (n count at : ℕ) → count ≡ domains trace → count ≤ n → n ≤ count
    → is_bounded trace entries left n ≡ true → None ≡ unless (is_bounded trace entries left (domains trace)) at
stands trace entries left n count at is past few bounded =
    let end : n ≡ domains trace = omega (arith, is, past, few) in
    unless_true (is_bounded trace entries left (domains trace)) at (ap (is_bounded trace entries left) (sym end) ∙ bounded)
