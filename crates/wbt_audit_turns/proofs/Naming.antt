-- Estimates by context and version.
use Rattle.std.proofs.Common.{◌≡◌, ℕ, zero, suc, ◌+◌, List, [], ◌∷◌, ◌++◌, map, flat_map, refl, sym, ap, ◌∙◌, append_assoc}
use Rattle.std.specs.Prelude.{slice_get}
use Rattle.wbt_audit_walk.proofs.Common.{Estimate, CpuJournal, Journal, nth_estimate, estimate_in, estimates_of, Item, tells, items_from, items_of, all_told, Told, told}
use Rattle.wbt_audit_turns.specs.Sides.{estimates_in}

pub nth_is : (version : ℕ) (xs : List Estimate) → slice_get xs version ≡ nth_estimate version xs
nth_is version [] = refl
nth_is zero (x ∷ xs) = refl
nth_is (suc version) (x ∷ xs) = nth_is version xs

flat_append : (context : ℕ) (xs ys : List Item) → flat_map (estimates_in context) (xs ++ ys) ≡ flat_map (estimates_in context) xs ++ flat_map (estimates_in context) ys
flat_append context [] ys = refl
flat_append context (x ∷ xs) ys = ap (λ (rest : List Estimate). estimates_in context x ++ rest) (flat_append context xs ys)
    ∙ sym (append_assoc (estimates_in context x) (flat_map (estimates_in context) xs) (flat_map (estimates_in context) ys))

told_append : (context : ℕ) (xs ys : List Told) → flat_map (estimate_in context) (xs ++ ys) ≡ flat_map (estimate_in context) xs ++ flat_map (estimate_in context) ys
told_append context [] ys = refl
told_append context (x ∷ xs) ys = ap (λ (rest : List Estimate). estimate_in context x ++ rest) (told_append context xs ys)
    ∙ sym (append_assoc (estimate_in context x) (flat_map (estimate_in context) xs) (flat_map (estimate_in context) ys))

of_part : (context cpu : ℕ) (part : List Told) → flat_map (estimates_in context) (map (tells cpu) part) ≡ flat_map (estimate_in context) part
of_part context cpu [] = refl
of_part context cpu (entry ∷ part) = ap (λ (rest : List Estimate). estimate_in context entry ++ rest) (of_part context cpu part)

of_parts : (context cpu : ℕ) (parts : List CpuJournal) → flat_map (estimates_in context) (items_from cpu (map told parts)) ≡ flat_map (estimate_in context) (flat_map told parts)
of_parts context cpu [] = refl
of_parts context cpu (part ∷ parts) =
    flat_append context (map (tells cpu) (told part)) (items_from (cpu + 1) (map told parts))
    ∙ (λ i. of_part context cpu (told part) i ++ of_parts context (cpu + 1) parts i)
    ∙ sym (told_append context (told part) (flat_map told parts))

-- a context's estimates are those that the items tell
pub all_are : (context : ℕ) (j : Journal) → flat_map (estimates_in context) (items_of j) ≡ estimates_of context (all_told j)
all_are context j = of_parts context 0 j.cpus

-- one item more was put, and is no longer to come
pub one_put : (context : ℕ) (old new : List Estimate) (items more : List Item) (item : Item) → items ≡ item ∷ more → new ≡ old ++ estimates_in context item
    → new ++ flat_map (estimates_in context) more ≡ old ++ flat_map (estimates_in context) items
one_put context old new items more item is put =
    ap (λ (xs : List Estimate). xs ++ flat_map (estimates_in context) more) put
    ∙ append_assoc old (estimates_in context item) (flat_map (estimates_in context) more)
    ∙ ap (λ (xs : List Item). old ++ flat_map (estimates_in context) xs) (sym is)
