-- What a walk tells of the whole journal.
use Rattle.std.proofs.Common.{◌≡◌, ℕ, ◌+◌, List, [], ◌∷◌, ◌++◌, map, flat_map, Option, Some, None, refl, ap, sym, ◌∙◌, append_assoc, append-nil}
use Rattle.std.proofs.lemmas.Grind.{flat_map-append}
use Rattle.wbt_audit_walk.proofs.Common.{Item, begins, tells, items_from, items_of, all_told, Told, told, CpuJournal, Journal, told_by, rest, told_in, Shows}
use Rattle.wbt_audit_walk.specs.declared.act.Act.{Act}
use Rattle.wbt_audit_walk.specs.declared.walk.Step.{Step}
use Rattle.wbt_audit_walk.specs.declared.walk.Walk.{Walk}
use Rattle.wbt_audit_walk.specs.Walks.{item_by}

told_in-append : (xs ys : List Item) → told_in (xs ++ ys) ≡ told_in xs ++ told_in ys
told_in-append [] ys = refl
told_in-append (begins cpu ∷ xs) ys = told_in-append xs ys
told_in-append (tells cpu entry ∷ xs) ys = ap (λ es. entry ∷ es) (told_in-append xs ys)

told_in-map : (cpu : ℕ) (part : List Told) → told_in (map (tells cpu) part) ≡ part
told_in-map cpu [] = refl
told_in-map cpu (entry ∷ part) = ap (λ es. entry ∷ es) (told_in-map cpu part)

told_in-parts : (cpu : ℕ) (parts : List CpuJournal) → told_in (items_from cpu (map told parts)) ≡ flat_map told parts
told_in-parts cpu [] = refl
told_in-parts cpu (part ∷ parts) =
    told_in-append (map (tells cpu) (told part)) (items_from (cpu + 1) (map told parts))
    ∙ ap (λ es. es ++ told_in (items_from (cpu + 1) (map told parts))) (told_in-map cpu (told part))
    ∙ ap (λ es. told part ++ es) (told_in-parts (cpu + 1) parts)

pub told_in-items : (j : Journal) → told_in (items_of j) ≡ all_told j
told_in-items j = told_in-parts 0 j.cpus

told_in-step : (cpu : ℕ) (act : Option Act) (more : List Item) → told_in (item_by cpu act ∷ more) ≡ told_by act ++ told_in more
told_in-step cpu None more = refl
told_in-step cpu (Some act) more = refl

pub told_in-shown : (old : Walk) (step : Step) (new : Walk) → Shows old step new → told_in (rest old) ≡ told_by step.act ++ told_in (rest new)
told_in-shown old step new shows = ap told_in shows.item ∙ told_in-step step.cpu step.act (rest new)

-- what is gathered of entries, one step further
pub gathered : {A : Type 0} (f : Told → List A) (so_far more whole : List A) (old : Walk) (step : Step) (new : Walk) → Shows old step new
    → so_far ++ flat_map f (told_in (rest old)) ≡ whole → more ≡ so_far ++ flat_map f (told_by step.act) → more ++ flat_map f (told_in (rest new)) ≡ whole
gathered f so_far more whole old step new shows before is =
    ap (λ xs. xs ++ flat_map f (told_in (rest new))) is
    ∙ append_assoc so_far (flat_map f (told_by step.act)) (flat_map f (told_in (rest new)))
    ∙ ap (λ xs. so_far ++ xs) (sym (flat_map-append f (told_by step.act) (told_in (rest new))))
    ∙ ap (λ es. so_far ++ flat_map f es) (sym (told_in-shown old step new shows))
    ∙ before

-- at the end all is gathered
pub all_gathered : {A : Type 0} (f : Told → List A) (so_far whole : List A) (items : List Item) → so_far ++ flat_map f (told_in items) ≡ whole → items ≡ []
    → so_far ≡ whole
all_gathered f so_far whole items before none =
    sym (append-nil so_far) ∙ ap (λ is. so_far ++ flat_map f (told_in is)) (sym none) ∙ before
