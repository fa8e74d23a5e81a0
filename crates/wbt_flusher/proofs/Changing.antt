-- The record of one CPU changes in a seat.
use Rattle.std.proofs.Common.{◌≡◌, ℕ, zero, suc, ◌+◌, [], ◌∷◌, Option, Some, None, sym, refl, ap, ◌∙◌, subst, arith}
use mathlib.Core.Option.{some-injective, some-ne-none}
use Rattle.wbt_flusher.proofs.Common.{CpuRecord, Cpus, Has, Seated, Changes, IsApart, completions, all_completions, held_cpus}
use Rattle.wbt_kit.proofs.Common.{put_record, has_changed}
use Rattle.wbt_run_steps.proofs.Changing.{apart_changed}

-- what the seat has after the change
pub record Changed (c : ℕ) (r r' : CpuRecord) (old new : Seated) : Type 0 where
  pub has : Has new.cpus c r'
  pub apart : IsApart c old new
  pub completed : all_completions new.cpus + completions r ≡ all_completions old.cpus + completions r'
  pub as_many : held_cpus new.cpus ≡ held_cpus old.cpus

completed_put : (cpus : Cpus) (c : ℕ) (r r' : CpuRecord) → Has cpus c r → all_completions (put_record c r' cpus) + completions r ≡ all_completions cpus + completions r'
completed_put [] c r r' has = absurd (some-ne-none (Some r) (sym has))
completed_put (x ∷ xs) zero r r' has =
    let is = some-injective x (Some r) has in
    subst (λ (y : Option CpuRecord). all_completions (Some r' ∷ xs) + completions r ≡ all_completions (y ∷ xs) + completions r') (sym is) (omega arith)
completed_put (None ∷ xs) (suc c) r r' has = completed_put xs c r r' has
completed_put (Some q ∷ xs) (suc c) r r' has = let rest = completed_put xs c r r' has in omega arith

many_put : (cpus : Cpus) (c : ℕ) (r r' : CpuRecord) → Has cpus c r → held_cpus (put_record c r' cpus) ≡ held_cpus cpus
many_put [] c r r' has = refl
many_put (x ∷ xs) zero r r' has =
    let is = some-injective x (Some r) has in
    subst (λ (y : Option CpuRecord). held_cpus (Some r' ∷ xs) ≡ held_cpus (y ∷ xs)) (sym is) refl
many_put (None ∷ xs) (suc c) r r' has = many_put xs c r r' has
many_put (Some q ∷ xs) (suc c) r r' has = let rest = many_put xs c r r' has in omega arith

pub changed : (c : ℕ) (f : CpuRecord → CpuRecord) (old new : Seated) (r : CpuRecord) → Changes c f old new → Has old.cpus c r → Changed c r (f r) old new
changed c f old new r change has =
    let cpus = change.cpus r has in
    record {
      has = has_changed c f old new r change has;
      apart = apart_changed c f old new r change has;
      completed = subst (λ (l : Cpus). all_completions l + completions r ≡ all_completions old.cpus + completions (f r)) (sym cpus) (completed_put old.cpus c r (f r) has);
      as_many = ap held_cpus cpus ∙ many_put old.cpus c r (f r) has;
    }
