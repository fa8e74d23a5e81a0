-- The first writes, and one more.
use Rattle.std.proofs.Common.{◌≡◌, ◌+◌, ◌++◌, ◌∙◌, ℕ, zero, suc, List, [], ◌∷◌, ap, sym, arith}
use Rattle.std.specs.List.{range_with_len}
use Rattle.failing_disks.specs.Failing.{first_writes}

last_of_range : (a n : ℕ) → range_with_len a (suc n) ≡ range_with_len a n ++ (a + n) ∷ []
last_of_range a zero = let same : a ≡ a + 0 = omega arith in ap (λ (k : ℕ). k ∷ []) same
last_of_range a (suc n) =
    let same : a + 1 + n ≡ a + suc n = omega arith in
    ap (λ (l : List ℕ). a ∷ l) (last_of_range (a + 1) n)
    ∙ ap (λ (k : ℕ). a ∷ (range_with_len (a + 1) n ++ k ∷ [])) same

pub one_write_more : (count : ℕ) → first_writes count ++ (count + 1) ∷ [] ≡ first_writes (count + 1)
one_write_more count =
    let same : count + 1 ≡ 1 + count = omega arith in
    let next : suc count ≡ count + 1 = omega arith in
    ap (λ (k : ℕ). first_writes count ++ k ∷ []) same ∙ sym (last_of_range 1 count) ∙ ap first_writes next
