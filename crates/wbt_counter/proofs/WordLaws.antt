-- What additions make of words.
use Rattle.std.proofs.Common.{◌≡◌, ℕ, suc, ◌*◌, ◌^◌, ◌<◌, ◌≤◌, length, ℤ, pos, negsuc, ◌≤ℤ◌, ◌+ℤ◌, ◌-ℤ◌, unsigned_abs, ap, ◌∙◌, subst, sym, arith}
use Rattle.std.proofs.lemmas.Int.{ints}
use Rattle.wbt_counter.specs.declared.record.Debt.{Debt}
use Rattle.wbt_counter.specs.declared.record.Debt.TheVariants.{Free, Event}
use Rattle.wbt_counter.specs.Word.{IsPackable, packed, own_word}
use Rattle.wbt_counter.specs.Addends.{HasRoom, local_in, addend_of, fold_addend, word_plus, word_minus}
use Rattle.wbt_counter.specs.History.{sum_of}
use Rattle.wbt_counter.specs.Account.{InBatch}
use Rattle.wbt_counter.specs.WordLaws.{FoldAdds, FoldFollows, OwnAdds, OwnTakes, OwnEmpties, SharedWordFits, OwnWordFits, SharedWordTells, OwnWordHolds, OwnWordTells, OwnIsNear, NearHasRoom}

-- numbers that are moved up so that none is below zero
moved : (z : ℤ) (n : ℕ) → pos 0 ≤ℤ (z +ℤ pos n) → pos (unsigned_abs (z +ℤ pos n)) ≡ z +ℤ pos n
moved z n low = omega (arith, ints)

-- a change is added, and taken, as a whole
plus_wraps : (word word' : ℕ) (change : ℤ) → word < 2 ^ 64 → word' < 2 ^ 64 → pos word' ≡ pos word +ℤ change
    → word_plus word (addend_of change) ≡ word'
plus_wraps word word' (pos n) fits fits' is = omega (arith, ints)
plus_wraps word word' (negsuc n) fits fits' is = omega (arith, ints)

minus_wraps : (word word' : ℕ) (change : ℤ) → word < 2 ^ 64 → word' < 2 ^ 64 → pos word' ≡ pos word -ℤ change
    → word_minus word (addend_of change) ≡ word'
minus_wraps word word' (pos n) fits fits' is = omega (arith, ints)
minus_wraps word word' (negsuc n) fits fits' is = omega (arith, ints)

packed_is : (version : ℕ) (count : ℤ) → IsPackable count
    → pos (packed version count) ≡ pos (version * 2 ^ 24) +ℤ (count +ℤ pos (2 ^ 23))
packed_is version count fits =
    let low = fits.not_too_low in let is = moved count (2 ^ 23) (omega (arith, ints)) in omega (arith, ints)

pub shared_word_fits : SharedWordFits
shared_word_fits version count less fits =
    let high = fits.not_too_high in let is = packed_is version count fits in omega (arith, ints)

pub fold_adds : FoldAdds
fold_adds version sum delta less fits fits' =
    let is = packed_is version sum fits in
    let is' = packed_is (suc version) (sum +ℤ delta) fits' in
    plus_wraps (packed version sum) (packed (suc version) (sum +ℤ delta)) (pos (2 ^ 24) +ℤ delta)
    (shared_word_fits version sum (omega arith) fits) (shared_word_fits (suc version) (sum +ℤ delta) less fits') (omega (arith, ints))

pub fold_follows : FoldFollows
fold_follows folds i delta less fits fits' =
    let sum : ℤ = sum_of folds in
    let turned : sum +ℤ delta ≡ delta +ℤ sum = omega (arith, ints) in
    subst (λ (z : ℤ). word_plus (packed (length folds) sum) (fold_addend delta) ≡ packed (suc (length folds)) z) turned
    (fold_adds (length folds) sum delta less fits (subst IsPackable (sym turned) fits'))

own_is : (local : ℤ) → HasRoom local → pos (own_word local) ≡ local +ℤ pos (2 ^ 32)
own_is local room = let low = room.not_too_low in moved local (2 ^ 32) (omega (arith, ints))

pub own_word_fits : OwnWordFits
own_word_fits local room = let high = room.not_too_high in let is = own_is local room in omega (arith, ints)

pub own_adds : OwnAdds
own_adds local change room room' =
    let is = own_is local room in
    let is' = own_is (local +ℤ change) room' in
    let fits = own_word_fits local room in
    let fits' = own_word_fits (local +ℤ change) room' in
    plus_wraps (own_word local) (own_word (local +ℤ change)) change (omega arith) (omega arith) (omega (arith, ints))

pub own_takes : OwnTakes
own_takes local taken room room' =
    let is = own_is local room in
    let is' = own_is (local -ℤ taken) room' in
    let fits = own_word_fits local room in
    let fits' = own_word_fits (local -ℤ taken) room' in
    minus_wraps (own_word local) (own_word (local -ℤ taken)) taken (omega arith) (omega arith) (omega (arith, ints))

pub own_empties : OwnEmpties
own_empties local room =
    let none : local -ℤ local ≡ pos 0 = omega (arith, ints) in
    let zero_room : HasRoom (pos 0) = record { not_too_low = omega (arith, ints); not_too_high = omega (arith, ints) } in
    own_takes local local room (subst HasRoom (sym none) zero_room) ∙ ap own_word none

pub shared_word_tells : SharedWordTells
shared_word_tells version version' count count' fits fits' same =
    let low = fits.not_too_low in
    let high = fits.not_too_high in
    let low' = fits'.not_too_low in
    let high' = fits'.not_too_high in
    let is = packed_is version count fits in
    let is' = packed_is version' count' fits' in (omega (arith, ints), omega (arith, ints))

pub own_word_holds : OwnWordHolds
own_word_holds local room = let is = own_is local room in omega (arith, ints)

pub own_word_tells : OwnWordTells
own_word_tells local local' room room' same = sym (own_word_holds local room) ∙ (ap local_in same ∙ own_word_holds local' room')

in_batch_near : (batch : ℕ) (local : ℤ) (debt : Debt) → InBatch batch local debt → unsigned_abs local ≤ batch
in_batch_near batch local Free near = omega arith
in_batch_near batch local (Event a) near = let below = near.0 in omega arith
in_batch_near batch local _ near = grind (arith, ints)

pub own_is_near : OwnIsNear
own_is_near batch cpus exact folds own accounts counter i = in_batch_near batch (own i) (accounts i).owes (counter.in_batch i)

pub near_has_room : NearHasRoom
near_has_room batch local small near = record { not_too_low = omega (arith, ints); not_too_high = omega (arith, ints) }
