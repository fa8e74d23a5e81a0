-- The line behind all items.
use Rattle.std.proofs.Common.{◌≡◌, ℕ, ◌+◌, List, [], ap, ◌∙◌, arith}
use Rattle.std.specs.List.{sum_by}
use Rattle.std.proofs.lemmas.List.Sums.{sum_by-cons}
use Rattle.wbt_audit_walk.proofs.Common.{Item, item_size, rest, item_of, Shows}
use Rattle.wbt_audit_walk.specs.declared.walk.Step.{Step}
use Rattle.wbt_audit_walk.specs.declared.walk.Walk.{Walk}

-- a step leaves it as it is
pub line_behind : (old : Walk) (step : Step) (new : Walk) → Shows old step new
    → new.line + sum_by item_size (rest new) ≡ old.line + sum_by item_size (rest old)
line_behind old step new shown =
    let sum : sum_by item_size (rest old) ≡ item_size (item_of step) + sum_by item_size (rest new)
    = ap (λ (items : List Item). sum_by item_size items) shown.item ∙ sum_by-cons item_size (item_of step) (rest new) in
    let next = shown.next_line in omega arith

-- at the end it is the walk's line
pub line_end : (line whole : ℕ) (items : List Item) → items ≡ [] → line + sum_by item_size items ≡ whole → line ≡ whole
line_end line whole items none is =
    let sum : sum_by item_size items ≡ 0 = ap (λ (l : List Item). sum_by item_size l) none in omega arith
