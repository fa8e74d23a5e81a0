-- What a CPU's part of the journal tells, with one more entry at its end.
use Rattle.std.proofs.Common.{◌≡◌, ℕ, List, [], ◌∷◌, ◌++◌, map, refl, ap, ◌∙◌}
use Rattle.std.proofs.lemmas.List.{append-nil}
use Rattle.wbt_replay_order.proofs.Common.{Fold, Reading, Event, DomainLimits, reads_of, CheckEntry, Entry, limits_of, flat_append, events_with, events_told, folds_with, folds_told, founds_with, founds_told, readings_with, readings_told, triples_told}

pub events_more : (older : List Event) (entries : List Entry) (e : Entry) → events_told older (entries ++ e ∷ []) ≡ events_with e (events_told older entries)
events_more older [] e = refl
events_more older (x ∷ entries) e = events_more (events_with x older) entries e

pub folds_more : (older : List Fold) (entries : List Entry) (e : Entry) → folds_told older (entries ++ e ∷ []) ≡ folds_with e (folds_told older entries)
folds_more older [] e = refl
folds_more older (x ∷ entries) e = folds_more (folds_with x older) entries e

pub founds_more : (older : List ℕ) (entries : List Entry) (e : Entry) → founds_told older (entries ++ e ∷ []) ≡ founds_with e (founds_told older entries)
founds_more older [] e = refl
founds_more older (x ∷ entries) e = founds_more (founds_with x older) entries e

pub readings_more : (older : List Reading) (checks : List CheckEntry) (c : CheckEntry) → readings_told older (checks ++ c ∷ []) ≡ readings_with c (readings_told older checks)
readings_more older [] c = refl
readings_more older (x ∷ checks) c = readings_more (readings_with x older) checks c

pub triples_more : (checks : List CheckEntry) (c : CheckEntry) → triples_told (checks ++ c ∷ []) ≡ triples_told checks ++ map limits_of (reads_of c)
triples_more checks c =
    flat_append (λ (check : CheckEntry). map limits_of (reads_of check)) checks (c ∷ [])
    ∙ ap (λ (l : List DomainLimits). triples_told checks ++ l) (append-nil (map limits_of (reads_of c)))
