-- Devices and their flushers.
use Rattle.std.proofs.Common.{◌≡◌, ℕ, suc, zero, ◌<◌, Bool, true, false, ◌&&◌, List, refl, sym, ◌∙◌, ap, arith, inl, inr}
use Rattle.std.proofs.lemmas.Bool.{cases_eq}
use Rattle.wbt_trace.specs.Lawful.{has_flusher}
use Rattle.wbt_trace_text.specs.Reading.{have_flushers}
use Rattle.wbt_trace.specs.declared.trace.FlusherLine.{FlusherLine}

and_false : (b : Bool) → (b && false) ≡ false
and_false true = refl
and_false false = refl

-- where one device lacks a flusher, not each has one
pub one_lacks : (n d : ℕ) (flushers : List FlusherLine) → d < n → has_flusher d flushers ≡ false → have_flushers n flushers ≡ false
one_lacks zero d flushers less lacks = absurd (omega arith)
one_lacks (suc n) d flushers less lacks = elim (cases_eq d n) [
  | inl same ↦ ap (λ (b : Bool). have_flushers n flushers && b) (ap (λ (k : ℕ). has_flusher k flushers) (sym same) ∙ lacks) ∙ and_false (have_flushers n flushers)
  | inr other ↦ ap (λ (b : Bool). b && has_flusher n flushers) (one_lacks n d flushers (omega arith) lacks)
]
