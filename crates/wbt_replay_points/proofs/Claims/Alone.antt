-- What the entries of a CPU's part tell, with the checks and estimates that they name.
use Rattle.std.proofs.Common.{◌≡◌, ℕ, List, [], ◌∷◌, ◌++◌, flat_map, Option, Some, None, refl, sym, ap, ◌∙◌}
use Rattle.std.specs.List.{slice_get}
use Rattle.wbt_replay_order.proofs.Common.{Told, one_checked, one_estimated, told_entry, CheckEntry, Entry, EstEntry, onto}
use Rattle.wbt_journal.specs.Told.{checked, estimated}
use Rattle.wbt_journal.specs.declared.entry.Entry.TheVariants as entry
use Rattle.wbt_replay_order.specs.Claims.Path.{told_onto, told_with}

-- where checks and estimates tell nothing, entries tell as much without them
module _ {A : Type 0} (tells : Told → List A) (no_check : (check : CheckEntry) → tells (checked check) ≡ []) (no_estimate : (est : EstEntry) → tells (estimated est) ≡ [])
    (checks : List CheckEntry) (ests : List EstEntry) where
  abbrev all : (entries : List Entry) → List Told
  all entries = flat_map (told_entry checks ests) entries

  check_tells : (which : Option CheckEntry) (more : List Told) (older : List A) → onto tells (one_checked which ++ more) older ≡ onto tells more older
  check_tells None more older = refl
  check_tells (Some check) more older = ap (λ (l : List A). onto tells more (l ++ older)) (no_check check)

  estimate_tells : (which : Option EstEntry) (more : List Told) (older : List A) → onto tells (one_estimated which ++ more) older ≡ onto tells more older
  estimate_tells None more older = refl
  estimate_tells (Some est) more older = ap (λ (l : List A). onto tells more (l ++ older)) (no_estimate est)

  pub told_alone : (older : List A) (entries : List Entry) → told_onto tells older entries ≡ onto tells (all entries) older
  told_alone older [] = refl
  told_alone older (entry.Check place ∷ entries) = told_alone older entries ∙ sym (check_tells (slice_get checks place) (all entries) older)
  told_alone older (entry.Est place ∷ entries) = told_alone older entries ∙ sym (estimate_tells (slice_get ests place) (all entries) older)
  told_alone older (entry.Write task page fresh ∷ entries) = told_alone (told_with tells (entry.Write task page fresh) older) entries
  told_alone older (entry.Folded fold ∷ entries) = told_alone (told_with tells (entry.Folded fold) older) entries
  told_alone older (entry.Claimed flusher page ∷ entries) = told_alone (told_with tells (entry.Claimed flusher page) older) entries
  told_alone older (entry.Batch flusher pages now until ∷ entries) = told_alone (told_with tells (entry.Batch flusher pages now until) older) entries
  told_alone older (entry.Done flusher page ∷ entries) = told_alone (told_with tells (entry.Done flusher page) older) entries
  told_alone older (entry.Share domain context n ∷ entries) = told_alone (told_with tells (entry.Share domain context n) older) entries
  told_alone older (entry.Fault flusher pages ∷ entries) = told_alone (told_with tells (entry.Fault flusher pages) older) entries
  told_alone older (entry.Back flusher page absorbed ∷ entries) = told_alone (told_with tells (entry.Back flusher page absorbed) older) entries
  told_alone older (entry.Noticed flusher inode since ∷ entries) = told_alone (told_with tells (entry.Noticed flusher inode since) older) entries
  told_alone older (entry.Aged flusher inode due now ∷ entries) = told_alone (told_with tells (entry.Aged flusher inode due now) older) entries
  told_alone older (entry.Taken flusher inode ∷ entries) = told_alone (told_with tells (entry.Taken flusher inode) older) entries
