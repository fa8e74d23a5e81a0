-- Sums over CPUs, as the code has them.
use Rattle.std.proofs.Common.{◌≡◌, ℕ, suc, ◌+◌, ℤ, ◌+ℤ◌, ◌-ℤ◌, ap, ◌∙◌, arith}
use Rattle.wbt_counter.specs.Sums.{total_ℤ}

-- one summand more
one_more : (n : ℕ) (f : ℕ → ℤ) (sum : ℤ) → sum ≡ total_ℤ n f → sum +ℤ f n ≡ total_ℤ (n + 1) f
one_more n f sum is = let e : suc n ≡ n + 1 = omega arith in ap (λ (z : ℤ). z +ℤ f n) is ∙ ap (λ (m : ℕ). total_ℤ m f) e

pub counted_on : (n : ℕ) (f : ℕ → ℤ) (back sum told number result : ℤ) → back ≡ result → result ≡ sum +ℤ told → told ≡ number → number ≡ f n → sum ≡ total_ℤ n f
    → back ≡ total_ℤ (n + 1) f
counted_on n f back sum told number result is adds tells names so_far = is ∙ adds ∙ ap (λ (z : ℤ). sum +ℤ z) (tells ∙ names) ∙ one_more n f sum so_far

-- the sums of all of n, which are as many as m
pub all_counted : (n m : ℕ) (f g h : ℕ → ℤ) (back shared value local events clears result : ℤ) → back ≡ result → result ≡ ((shared +ℤ local) +ℤ events) -ℤ clears → shared ≡ value
    → local ≡ total_ℤ n f → events ≡ total_ℤ n g → clears ≡ total_ℤ n h → n ≡ m → back ≡ ((value +ℤ total_ℤ m f) +ℤ total_ℤ m g) -ℤ total_ℤ m h
all_counted n m f g h back shared value local events clears result is adds tells a b c same = is ∙ adds
    ∙ (λ i. ((tells i +ℤ a i) +ℤ b i) -ℤ c i) ∙ (λ i. ((value +ℤ total_ℤ (same i) f) +ℤ total_ℤ (same i) g) -ℤ total_ℤ (same i) h)
