-- Checks along a part's entries, with the ends of tasks among them or without.
use Rattle.std.proofs.Common.{◌≡◌, ℕ, true, false, List, [], ◌∷◌, map, refl, sym, ◌∙◌, ap, subst}
use Rattle.wbt_trace.specs.declared.trace.Trace.{Trace}
use Rattle.wbt_journal.specs.declared.journal.Ending.{Ending}
use Rattle.wbt_journal.specs.Checks.{Decides, Stands, StandsItem, NoneDue}
use Rattle.wbt_journal.specs.Items.{Item, tells, items_from}
use Rattle.wbt_journal.specs.Lawful.{EachPart, DecidesEvent, items_among, ChecksAlong, HasChecks}
use Rattle.wbt_journal.specs.Laws.{RestersAreAlone, OfPart}
use Rattle.wbt_journal.specs.Pages.{PagesAreNext, writes_after}
use Rattle.wbt_journal.specs.Side.{Event, item, ends, Side, first_side, side_after, side_after_item}
use Rattle.wbt_journal.specs.Told.{Told}
use Rattle.wbt_journal.specs.Walk.{Along, after}
use Rattle.wbt_journal.proofs.Parting.{parts_there, parts_back, each_part, both_parts}
use Rattle.wbt_journal.proofs.Resting.{by_entries}

-- ---- entries as events

items_again : (xs : List Item) → items_among (map item xs) ≡ xs
items_again [] = refl
items_again (x ∷ xs) = ap (λ rest. x ∷ rest) (items_again xs)

decide_there : (trace : Trace) (opened : ℕ) (all : List Told) (s : Side) (xs : List Item) → Along (Decides trace opened all) (side_after_item trace opened) s xs
    → Along (DecidesEvent trace opened all) (side_after trace opened) s (map item xs)
decide_there trace opened all s [] along = tt
decide_there trace opened all s (x ∷ xs) along = (along.0, decide_there trace opened all (side_after_item trace opened s x) xs along.1)

stand_there : (trace : Trace) (opened : ℕ) (s : Side) (xs : List Item) → Along (StandsItem trace) (side_after_item trace opened) s xs → Along (Stands trace) (side_after trace opened) s (map item xs)
stand_there trace opened s [] along = tt
stand_there trace opened s (x ∷ xs) along = (along.0, stand_there trace opened (side_after_item trace opened s x) xs along.1)

after_same : (trace : Trace) (opened : ℕ) (s : Side) (xs : List Item) → after (side_after trace opened) s (map item xs) ≡ after (side_after_item trace opened) s xs
after_same trace opened s [] = refl
after_same trace opened s (x ∷ xs) = after_same trace opened (side_after_item trace opened s x) xs

-- ---- a part's checks, by its entries alone

pub record ByEntries (trace : Trace) (opened : ℕ) (all : List Told) (end : Ending) (cpu : ℕ) (part : List Told) : Type 0 where
  pub decide : OfPart (Decides trace opened all) (side_after_item trace opened) (first_side trace) cpu part
  pub stand : OfPart (StandsItem trace) (side_after_item trace opened) (first_side trace) cpu part
  pub none_missing : NoneDue end (after (side_after_item trace opened) (first_side trace) (map (tells cpu) part))

checks_there : (trace : Trace) (opened : ℕ) (all : List Told) (end : Ending) (cpu : ℕ) (part : List Told) → ByEntries trace opened all end cpu part → HasChecks trace opened all end cpu part
checks_there trace opened all end cpu part by =
    let xs : List Item = map (tells cpu) part in (
      map item xs,
      record {
        are = items_again xs;
        decide = decide_there trace opened all (first_side trace) xs by.decide;
        stand = stand_there trace opened (first_side trace) xs by.stand;
        none_missing = subst (NoneDue end) (sym (after_same trace opened (first_side trace) xs)) by.none_missing;
      },
    )

-- and where each task that rests last has its CPU alone, from the entries with the ends among them
checks_back : (trace : Trace) (opened : ℕ) (all : List Told) (end : Ending) → RestersAreAlone trace → (cpu : ℕ) (part : List Told)
    → HasChecks trace opened all end cpu part × OfPart (PagesAreNext trace) writes_after [] cpu part → ByEntries trace opened all end cpu part
checks_back trace opened all end resters cpu part has =
    let along : ChecksAlong trace opened all end cpu part has.0.0 = has.0.1 in
    let judged = by_entries trace opened cpu resters all end part has.0.0 along.are along.decide along.stand along.none_missing has.1 in
    record { decide = judged.decide; stand = judged.stand; none_missing = judged.none }

-- ---- of all parts

pub all_there : (trace : Trace) (opened : ℕ) (all : List Told) (end : Ending) (cpu : ℕ) (parts : List (List Told))
    → Along (Decides trace opened all) (side_after_item trace opened) (first_side trace) (items_from cpu parts)
    → Along (StandsItem trace) (side_after_item trace opened) (first_side trace) (items_from cpu parts)
    → EachPart (λ of part. NoneDue end (after (side_after_item trace opened) (first_side trace) (map (tells of) part))) cpu parts
    → EachPart (HasChecks trace opened all end) cpu parts
all_there trace opened all end cpu parts decide stand none =
    let next = side_after_item trace opened in
    let start = first_side trace in
    let D : ℕ → List Told → Type 0 = OfPart (Decides trace opened all) next start in
    let T : ℕ → List Told → Type 0 = OfPart (StandsItem trace) next start in
    let N : ℕ → List Told → Type 0 = λ of part. NoneDue end (after next start (map (tells of) part)) in
    let P : ℕ → List Told → Type 0 = λ of part. T of part × N of part in
    each_part (λ of part. D of part × P of part) (HasChecks trace opened all end)
    (λ of part all_of. checks_there trace opened all end of part (record { decide = all_of.0; stand = all_of.1.0; none_missing = all_of.1.1 }))
    cpu parts
    (both_parts D P cpu parts (parts_there (Decides trace opened all) next start (λ s of. refl) start cpu parts decide)
    (both_parts T N cpu parts (parts_there (StandsItem trace) next start (λ s of. refl) start cpu parts stand) none))

pub all_back : (trace : Trace) (opened : ℕ) (all : List Told) (end : Ending) → RestersAreAlone trace → (cpu : ℕ) (parts : List (List Told)) → EachPart (HasChecks trace opened all end) cpu parts
    → EachPart (OfPart (PagesAreNext trace) writes_after []) cpu parts → EachPart (ByEntries trace opened all end) cpu parts
all_back trace opened all end resters cpu parts each pages =
    each_part (λ of part. HasChecks trace opened all end of part × OfPart (PagesAreNext trace) writes_after [] of part) (ByEntries trace opened all end) (checks_back trace opened all end resters) cpu parts
    (both_parts (HasChecks trace opened all end) (OfPart (PagesAreNext trace) writes_after []) cpu parts each pages)

pub decides_back : (trace : Trace) (opened : ℕ) (all : List Told) (end : Ending) (cpu : ℕ) (parts : List (List Told)) → EachPart (ByEntries trace opened all end) cpu parts
    → Along (Decides trace opened all) (side_after_item trace opened) (first_side trace) (items_from cpu parts)
decides_back trace opened all end cpu parts each =
    parts_back (Decides trace opened all) (side_after_item trace opened) (first_side trace) (λ s of. refl) (λ s of. tt) (first_side trace) cpu parts
    (each_part (ByEntries trace opened all end) (OfPart (Decides trace opened all) (side_after_item trace opened) (first_side trace)) (λ of part by. by.decide) cpu parts each)

pub stands_back : (trace : Trace) (opened : ℕ) (all : List Told) (end : Ending) (cpu : ℕ) (parts : List (List Told)) → EachPart (ByEntries trace opened all end) cpu parts
    → Along (StandsItem trace) (side_after_item trace opened) (first_side trace) (items_from cpu parts)
stands_back trace opened all end cpu parts each =
    parts_back (StandsItem trace) (side_after_item trace opened) (first_side trace) (λ s of. refl) (λ s of. tt) (first_side trace) cpu parts
    (each_part (ByEntries trace opened all end) (OfPart (StandsItem trace) (side_after_item trace opened) (first_side trace)) (λ of part by. by.stand) cpu parts each)

pub missing_back : (trace : Trace) (opened : ℕ) (all : List Told) (end : Ending) (cpu : ℕ) (parts : List (List Told)) → EachPart (ByEntries trace opened all end) cpu parts
    → EachPart (λ of part. NoneDue end (after (side_after_item trace opened) (first_side trace) (map (tells of) part))) cpu parts
missing_back trace opened all end cpu parts each =
    each_part (ByEntries trace opened all end) (λ of part. NoneDue end (after (side_after_item trace opened) (first_side trace) (map (tells of) part))) (λ of part by. by.none_missing) cpu parts each
