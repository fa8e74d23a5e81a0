-- Two answers of which the same is said are the same.
use Rattle.std.specs.Prelude.{◌≡◌, ◌↔◌, Bool, true, false, IsTrue}
use Rattle.std.proofs.Common.{sym, refl, ◌∙◌, true≢false}

-- two answers that are both a third one
pub both_are : (a b c : Bool) → a ≡ c → b ≡ c → a ≡ b
both_are a b c x y = x ∙ sym y

-- two answers that are both true exactly where the same thing holds
pub both_tell : (a b : Bool) (P : Type 0) → (IsTrue a ↔ P) → (IsTrue b ↔ P) → a ≡ b
both_tell true true P x y = refl
both_tell false false P x y = refl
both_tell true false P x y = absurd (true≢false (sym (y.1 (x.0 refl))))
both_tell false true P x y = absurd (true≢false (sym (x.1 (y.0 refl))))
