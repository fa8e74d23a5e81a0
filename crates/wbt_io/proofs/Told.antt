-- What is told of a source and of a sink over several calls.
use Rattle.std.proofs.Common.{◌≡◌, ℕ, ◌+◌, ◌<◌, ◌≤◌, IfSome, arith, length-append, List, ◌++◌, length, take, drop, Option, Some, None, refl, sym, ◌∙◌, ap, append_assoc, take-append-drop}
use Rattle.std.proofs.lemmas.List.{take_at, drop-drop}
use Rattle.std.specs.Io.KnownBytes.{prepend_known, append_known}
use Rattle.wbt_io.specs.Told.{Loses}

pub prepend_known-append : (xs ys : List ℕ) (o : Option (List ℕ)) → prepend_known xs (prepend_known ys o) ≡ prepend_known (xs ++ ys) o
prepend_known-append xs ys None = refl
prepend_known-append xs ys (Some zs) = ap Some (sym (append_assoc xs ys zs))

pub append_known-append : (o : Option (List ℕ)) (xs ys : List ℕ) → append_known (append_known o xs) ys ≡ append_known o (xs ++ ys)
append_known-append None xs ys = refl
append_known-append (Some zs) xs ys = ap Some (append_assoc zs xs ys)

-- what was taken in two calls is taken from the front
pub loses_more : (count : ℕ) (a b c : Option (List ℕ)) (xs ys : List ℕ) → a ≡ prepend_known xs b → b ≡ prepend_known ys c → length xs + length ys ≡ count → Loses count a c
loses_more count a b c xs ys first second long =
    (xs ++ ys, first ∙ ap (prepend_known xs) second ∙ prepend_known-append xs ys c, length-append xs ys ∙ long)

-- bytes that were taken were there
pub loses_some : (most : ℕ) (before now : Option (List ℕ)) → Loses (most + 1) before now → IfSome before (λ left. most < length left)
loses_some most None now lost = tt
loses_some most (Some left) None lost = absurd (cc lost.1)
loses_some most (Some left) (Some more) lost =
    let same : left ≡ lost.0 ++ more = cc lost.1 in
    omega (arith, lost.2, ap length same, length-append lost.0 more)

-- where all the bytes were read, they were as many
pub all_read : (most : ℕ) (before : Option (List ℕ)) (bytes : List ℕ) → IfSome before (λ left. bytes ≡ left) → length bytes ≤ most → IfSome before (λ left. most < length left → ⊥)
all_read most None bytes all few = tt
all_read most (Some left) bytes all few = λ many. omega (arith, ap length all, few, many)

-- the next bytes, copied to the front of a buffer, and those after them
pub front_and_rest : (bytes copied rest : List ℕ) (at count : ℕ) → copied ≡ take count (drop at bytes) → length copied ≡ count → drop at bytes ≡ take count (copied ++ rest) ++ drop (at + count) bytes
front_and_rest bytes copied rest at count is long =
    sym (take-append-drop count (drop at bytes)) ∙ ap (λ l. l ++ drop count (drop at bytes)) (sym (take_at copied rest count long ∙ is)) ∙ ap (λ l. take count (copied ++ rest) ++ l) (drop-drop count at bytes)
