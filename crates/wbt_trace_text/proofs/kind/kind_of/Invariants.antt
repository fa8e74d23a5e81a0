use Rattle.std.proofs.Common.{◌≡◌, ◌∷◌, ◌++◌, [], ℕ, ◌<◌, get_or}
use Rattle.wbt_trace_text.specs.Lines.{kind_text}
use Rattle.wbt_trace_text.specs.declared.kind.Kind.TheVariants as kind
use Rattle.wbt_trace_text.specs.declared.kind.TheConstants.{KINDS}
use Rattle.wbt_trace_text.proofs.kind.kind_of.Given as goal

abbrev pub invariant-loop-i : goal.invariant-loop-i
invariant-loop-i l = (j : ℕ) → j < l.i → l.front ≡ kind_text (get_or KINDS j kind.Cpus) ++ 32 ∷ [] → ⊥
