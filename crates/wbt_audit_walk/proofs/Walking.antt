-- A walk of a point, step by step.
use Rattle.std.proofs.Common.{◌≡◌, ℕ, ◌+◌, ◌<◌, Option, Some, None, List, [], ◌∷◌, length, ap, sym, ◌∙◌, arith}
use Rattle.wbt_audit_walk.proofs.Common.{Item, item_size, first_fault, Judges, Goes, rest, item_of, Shows}
use Rattle.wbt_audit_walk.specs.declared.walk.Step.{Step}
use Rattle.wbt_audit_walk.specs.declared.walk.Walk.{Walk}

-- each step is nearer to the end
pub nearer : (old : Walk) (step : Step) (new : Walk) → Shows old step new → length (rest new) < length (rest old)
nearer old step new shows = rw shows.item (omega arith)

module _ {S : Type 0} (fault : S → Item → Option ℕ) (next : S → Item → S) where
  -- it begins with all items, of which none has been judged
  pub begins_walk : (kept : S → Type 0) (s : S) (walk : Walk) (line : ℕ) (items : List Item) → kept s → walk.line ≡ line → rest walk ≡ items
      → Goes fault next kept (first_fault fault next item_size line s items) walk
  begins_walk kept s walk line items keeps at all = record { so_far = s; keeps = keeps; to_come = rw (at, all) }

  -- the first item is at fault, or what comes after it tells the fault
  first_is : (line : ℕ) (s : S) (item : Item) (more : List Item) (found : Option ℕ) → fault s item ≡ found
      → first_fault fault next item_size line s (item ∷ more) ≡ elim found [ None ↦ first_fault fault next item_size (line + item_size item) (next s item) more | Some at ↦ Some (line + at) ]
  first_is line s item more found is =
      ap (λ (f : Option ℕ). elim f [ None ↦ first_fault fault next item_size (line + item_size item) (next s item) more | Some at ↦ Some (line + at) ]) is

  pub step_on : (before after : S → Type 0) (whole : Option ℕ) (old : Walk) (step : Step) (new : Walk) (found : Option ℕ) → Goes fault next before whole old
      → Shows old step new → Judges fault next before after (item_of step) found → found ≡ None → Goes fault next after whole new
  step_on before after whole old step new found goes shows judges none =
      let judged = judges goes.so_far goes.keeps in record {
        so_far = next goes.so_far (item_of step);
        keeps = judged.goes_on none;
        to_come = rw shows.next_line (sym (first_is old.line goes.so_far (item_of step) (rest new) None (judged.answer ∙ none)) ∙ ap (first_fault fault next item_size old.line goes.so_far) (sym shows.item) ∙ goes.to_come);
      }

  pub stops_at : (before after : S → Type 0) (whole : Option ℕ) (old : Walk) (step : Step) (new : Walk) (at : ℕ) → Goes fault next before whole old
      → Shows old step new → Judges fault next before after (item_of step) (Some at) → Some (step.line + at) ≡ whole
  stops_at before after whole old step new at goes shows judges =
      let judged = judges goes.so_far goes.keeps in
      rw shows.line (sym (first_is old.line goes.so_far (item_of step) (rest new) (Some at) judged.answer) ∙ ap (first_fault fault next item_size old.line goes.so_far) (sym shows.item) ∙ goes.to_come)

  pub ends_walk : (before : S → Type 0) (whole : Option ℕ) (walk : Walk) → Goes fault next before whole walk → rest walk ≡ [] → None ≡ whole
  ends_walk before whole walk goes none = ap (first_fault fault next item_size walk.line goes.so_far) (sym none) ∙ goes.to_come
