-- No pass that a caller holds was taken in by another.
use Rattle.std.proofs.Common.{◌≡◌, ℕ, ◌<◌, false, List, [], ◌∷◌, Option, Some, None, Result, Ok, Err, IfOk, IfErr, IfSome, IfNone, map, length, get_or, set, sym, refl, ap, ◌∙◌, subst}
use Rattle.std.proofs.lemmas.List.{get_or-map, length-map, map-set}
use Rattle.std.proofs.lemmas.List.Elements.{All-map, All-set, All-cons, All-head, All-tail, All-nil}
use Rattle.crossbeam_queue.specs.Passes.{Pass, view}
use Rattle.wbt_queue.specs.declared.known.Known.{Known}
use Rattle.wbt_queue.specs.Known.{opening, newcomer, accompanied, knows_both}
use Rattle.wbt_queue.specs.Order.{HasPut, HasTaken}
use Rattle.wbt_queue.specs.Passes.{known_by, AreHere, all_joined}

abbrev IsHere : (known : Known) → Type 0
IsHere known = known.gone ≡ false

pub here_at : (places : List (Pass ℕ Known)) (i : ℕ) (old : Pass ℕ Known) → AreHere (known_by places) → i < length places → old ≡ get_or places i old → IsHere (view old)
here_at places i old here low at =
    subst IsHere (get_or-map view places i old opening low ∙ ap view (sym at)) (here i opening (subst (λ (n : ℕ). i < n) (sym (length-map places view)) low))

pub here_first : (sizes : List ℕ) → AreHere (map (λ _. opening) sizes)
here_first sizes = All-map IsHere (λ (_ : ℕ). opening) sizes (λ i d low. refl)

pub here_left : (known : List Known) → AreHere known → AreHere (map accompanied known)
here_left known here = All-map IsHere accompanied known here

pub here_new : (known : List Known) → AreHere known → AreHere (map newcomer known)
here_new known here = All-map IsHere newcomer known here

pub here_joined : (into from : List Known) → AreHere into → AreHere (all_joined into from)
here_joined [] from here = All-nil IsHere
here_joined (one ∷ more) [] here = here
here_joined (one ∷ more) (other ∷ others) here =
    All-cons IsHere (knows_both one other) (all_joined more others) (All-head IsHere one more here) (here_joined more others (All-tail IsHere one more here))

pub here_set : (places : List (Pass ℕ Known)) (i : ℕ) (new : Pass ℕ Known) → AreHere (known_by places) → IsHere (view new) → AreHere (known_by (set places i new))
here_set places i new here is = subst AreHere (sym (map-set view places i new)) (All-set IsHere (known_by places) i (view new) is here)

pub here_put : {A B : Type 0} (r : Result A B) (old new : Known) (inode : ℕ) (F : Type 0) → IfOk r (λ _. HasPut old inode new) → IfErr r (λ _. (new ≡ old) × F) → IsHere old → IsHere new
here_put (Ok a) old new inode F put full here = ap (λ (k : Known). k.gone) put.0 ∙ here
here_put (Err b) old new inode F put full here = ap (λ (k : Known). k.gone) full.0 ∙ here

pub here_taken : (r : Option ℕ) (old new : Known) (F : Type 0) → IfSome r (λ inode. HasTaken old inode new) → IfNone r ((new ≡ old) × F) → IsHere old → IsHere new
here_taken None old new F taken empty here = ap (λ (k : Known). k.gone) empty.0 ∙ here
here_taken (Some inode) old new F taken empty here = ap (λ (k : Known). k.gone) taken.0 ∙ here
