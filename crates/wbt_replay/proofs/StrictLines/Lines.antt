-- The lines, one context after another.
use Rattle.std.proofs.Common.{◌≡◌, ℕ, zero, suc, ◌+◌, ◌<◌, true, false, List, [], ◌∷◌, ◌++◌, refl, sym, ◌∙◌, ap, arith}
use Rattle.std.proofs.lemmas.Bool.{cond-true, cond-false}
use Rattle.wbt_replay_order.proofs.Common.{is_strict, Trace, StepEntry, Cpu, most_pages, part_used}
use Rattle.wbt_journal.specs.declared.journal.StrictLine.{StrictLine}
use Rattle.wbt_replay_order.specs.Definition.Strict.{bound_with, line_for, lines_of}

module _ (trace : Trace) (steps : List StepEntry) (cpus : List Cpu) where
  pub lines_with : (n : ℕ) → is_strict trace n ≡ true → lines_of trace steps cpus (suc n) ≡ lines_of trace steps cpus n ++ line_for trace steps cpus n ∷ []
  lines_with n strict = cond-true (is_strict trace n) (lines_of trace steps cpus n ++ line_for trace steps cpus n ∷ []) (lines_of trace steps cpus n) strict

  pub lines_without : (n : ℕ) → is_strict trace n ≡ false → lines_of trace steps cpus (suc n) ≡ lines_of trace steps cpus n
  lines_without n other = cond-false (is_strict trace n) (lines_of trace steps cpus n ++ line_for trace steps cpus n ∷ []) (lines_of trace steps cpus n) other

  -- no line where no context is one of a strict device
  pub no_lines : (n : ℕ) → ((k : ℕ) → k < n → is_strict trace k ≡ false) → lines_of trace steps cpus n ≡ []
  no_lines zero none = refl
  no_lines (suc n) none = lines_without n (none n (omega arith)) ∙ no_lines n (λ k less. none k (omega (arith, less)))

  -- ---- the next context of a list, with its line or without one

  module _ (k : ℕ) (old new : List StrictLine) (before : old ≡ lines_of trace steps cpus k) where
    next : suc k ≡ k + 1
    next = omega arith

    pub told_next : (most bound part : ℕ) → is_strict trace k ≡ true → most ≡ most_pages k steps → bound ≡ bound_with trace k part → part ≡ part_used trace k cpus
        → new ≡ old ++ (record { context = k; most = most; bound = bound }) ∷ [] → new ≡ lines_of trace steps cpus (k + 1)
    told_next most bound part strict most_is bound_is part_is new_is =
        new_is
        ∙ ap (λ (l : List StrictLine). l ++ (record { context = k; most = most; bound = bound }) ∷ []) before
        ∙ ap (λ (n : ℕ). lines_of trace steps cpus k ++ (record { context = k; most = n; bound = bound }) ∷ []) most_is
        ∙ ap (λ (n : ℕ). lines_of trace steps cpus k ++ (record { context = k; most = most_pages k steps; bound = n }) ∷ []) (bound_is ∙ ap (bound_with trace k) part_is)
        ∙ sym (lines_with k strict) ∙ ap (lines_of trace steps cpus) next

    pub untold_next : is_strict trace k ≡ false → new ≡ old → new ≡ lines_of trace steps cpus (k + 1)
    untold_next other same = same ∙ before ∙ sym (lines_without k other) ∙ ap (lines_of trace steps cpus) next
