use Rattle.std.proofs.Common.{◌≡◌, ◌++◌, List, ℕ, length}
use Rattle.wbt_text.specs.Numbers.{AreNumbers}
use Rattle.wbt_text.proofs.digits.numbers.Given as goal

abbrev pub invariant-fields : goal.invariant-fields
invariant-fields l = record {
  on : (ms : List ℕ) → AreNumbers l.rest ms → AreNumbers l.text (l.found.items ++ ms);
  only : (ns : List ℕ) → AreNumbers l.text ns → (ms : List ℕ) × AreNumbers l.rest ms × (ns ≡ l.found.items ++ ms);
}

abbrev pub decreases-fields : goal.decreases-fields
decreases-fields l = length l.rest
