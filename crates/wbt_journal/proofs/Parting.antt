-- Walks of all items, and what holds of each of them, part by part.
use Rattle.std.proofs.Common.{◌≡◌, ℕ, ◌+◌, List, [], ◌∷◌, ◌++◌, map, sym, subst}
use Rattle.wbt_journal.specs.Each.{Each}
use Rattle.wbt_journal.specs.Items.{Item, begins, tells, items_from}
use Rattle.wbt_journal.specs.Lawful.{EachPart}
use Rattle.wbt_journal.specs.Laws.{OfPart}
use Rattle.wbt_journal.specs.Told.{Told}
use Rattle.wbt_journal.specs.Walk.{Along, after}

pub along_split : {S A : Type 0} (Ok : S → A → Type 0) (next : S → A → S) (s : S) (xs ys : List A) → Along Ok next s (xs ++ ys) → Along Ok next s xs × Along Ok next (after next s xs) ys
along_split Ok next s [] ys along = (tt, along)
along_split Ok next s (x ∷ xs) ys along = let rest = along_split Ok next (next s x) xs ys along.1 in ((along.0, rest.0), rest.1)

pub along_more : {S A : Type 0} (Ok : S → A → Type 0) (next : S → A → S) (s : S) (xs ys : List A) → Along Ok next s xs → Along Ok next (after next s xs) ys → Along Ok next s (xs ++ ys)
along_more Ok next s [] ys first second = second
along_more Ok next s (x ∷ xs) ys first second = (first.0, along_more Ok next (next s x) xs ys first.1 second)

-- a walk that begins anew with each part
pub parts_there : {S : Type 0} (Ok : S → Item → Type 0) (next : S → Item → S) (start : S) → ((s : S) (cpu : ℕ) → next s (begins cpu) ≡ start)
    → (s : S) (cpu : ℕ) (parts : List (List Told)) → Along Ok next s (items_from cpu parts) → EachPart (OfPart Ok next start) cpu parts
parts_there Ok next start anew s cpu [] along = tt
parts_there Ok next start anew s cpu (part ∷ parts) along =
    let split = along_split Ok next (next s (begins cpu)) (map (tells cpu) part) (items_from (cpu + 1) parts) along.1 in (
      subst (λ t. Along Ok next t (map (tells cpu) part)) (anew s cpu) split.0,
      parts_there Ok next start anew (after next (next s (begins cpu)) (map (tells cpu) part)) (cpu + 1) parts split.1,
    )

pub parts_back : {S : Type 0} (Ok : S → Item → Type 0) (next : S → Item → S) (start : S) → ((s : S) (cpu : ℕ) → next s (begins cpu) ≡ start) → ((s : S) (cpu : ℕ) → Ok s (begins cpu))
    → (s : S) (cpu : ℕ) (parts : List (List Told)) → EachPart (OfPart Ok next start) cpu parts → Along Ok next s (items_from cpu parts)
parts_back Ok next start anew silent s cpu [] each = tt
parts_back Ok next start anew silent s cpu (part ∷ parts) each = (
  silent s cpu,
  along_more Ok next (next s (begins cpu)) (map (tells cpu) part) (items_from (cpu + 1) parts)
      (subst (λ t. Along Ok next t (map (tells cpu) part)) (sym (anew s cpu)) each.0)
      (parts_back Ok next start anew silent (after next (next s (begins cpu)) (map (tells cpu) part)) (cpu + 1) parts each.1),
)

-- ---- what holds of each item

each_split : {A : Type 0} (P : A → Type 0) (xs ys : List A) → Each P (xs ++ ys) → Each P xs × Each P ys
each_split P [] ys all = (tt, all)
each_split P (x ∷ xs) ys all = let rest = each_split P xs ys all.1 in ((all.0, rest.0), rest.1)

each_more : {A : Type 0} (P : A → Type 0) (xs ys : List A) → Each P xs → Each P ys → Each P (xs ++ ys)
each_more P [] ys first second = second
each_more P (x ∷ xs) ys first second = (first.0, each_more P xs ys first.1 second)

pub each_there : (P : Item → Type 0) (cpu : ℕ) (parts : List (List Told)) → Each P (items_from cpu parts) → EachPart (λ of part. Each P (map (tells of) part)) cpu parts
each_there P cpu [] all = tt
each_there P cpu (part ∷ parts) all = let split = each_split P (map (tells cpu) part) (items_from (cpu + 1) parts) all.1 in (split.0, each_there P (cpu + 1) parts split.1)

pub each_back : (P : Item → Type 0) → ((cpu : ℕ) → P (begins cpu)) → (cpu : ℕ) (parts : List (List Told)) → EachPart (λ of part. Each P (map (tells of) part)) cpu parts → Each P (items_from cpu parts)
each_back P silent cpu [] each = tt
each_back P silent cpu (part ∷ parts) each = (silent cpu, each_more P (map (tells cpu) part) (items_from (cpu + 1) parts) each.0 (each_back P silent (cpu + 1) parts each.1))

-- ---- facts of each part

pub each_part : (P Q : ℕ → List Told → Type 0) → ((cpu : ℕ) (part : List Told) → P cpu part → Q cpu part) → (cpu : ℕ) (parts : List (List Told)) → EachPart P cpu parts → EachPart Q cpu parts
each_part P Q gives cpu [] each = tt
each_part P Q gives cpu (part ∷ parts) each = (gives cpu part each.0, each_part P Q gives (cpu + 1) parts each.1)

pub both_parts : (P Q : ℕ → List Told → Type 0) (cpu : ℕ) (parts : List (List Told)) → EachPart P cpu parts → EachPart Q cpu parts → EachPart (λ of part. P of part × Q of part) cpu parts
both_parts P Q cpu [] first second = tt
both_parts P Q cpu (part ∷ parts) first second = ((first.0, second.0), both_parts P Q (cpu + 1) parts first.1 second.1)
