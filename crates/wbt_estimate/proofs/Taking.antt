-- An estimate is the fold over the samples that are taken.
use Rattle.std.proofs.Common.{◌≡◌, ℕ, ◌+◌, ◌-◌, ◌≤◌, true, false, cond, ltb, List, [], ◌∷◌, fold, length, unwrap_or, Some, None, refl, ap, ◌∙◌, arith}
use Rattle.std.proofs.lemmas.Bool.Decides.{nat_tests}
use Rattle.wbt_estimate.specs.declared.estimate.TheConstants.{ESTIMATE_AGE}
use Rattle.wbt_estimate.specs.declared.estimate.Estimate.{Estimate}
use Rattle.wbt_estimate.specs.declared.estimate.Sample.{Sample}
use Rattle.wbt_estimate.specs.Estimate.{elapsed_since, estimate_after, update_of, updated}
use Rattle.wbt_estimate.specs.Laws.{ApartAreTaken, FoldsTaken, TakenAreApart, VersionsCount}
use Rattle.wbt_estimate.specs.Samples.{AreApart, taken}

pub folds_taken : FoldsTaken
unfolding estimate_after update_of taken updated
folds_taken start [] = refl
folds_taken start (sample ∷ samples) =
    elim (ltb (elapsed_since start sample) ESTIMATE_AGE) as (λ b. estimate_after (unwrap_or (cond b None (Some (updated start sample))) start) samples
    ≡ fold updated start (elim b [ true ↦ taken start.at samples | false ↦ sample ∷ taken sample.now samples ])) [
      | true ↦ folds_taken start samples
      | false ↦ folds_taken (updated start sample) samples
    ]

pub taken_are_apart : TakenAreApart
unfolding taken AreApart
taken_are_apart since [] = tt
taken_are_apart since (sample ∷ samples) =
    elim (ltb (sample.now - since) ESTIMATE_AGE) as (λ b. (b ≡ false → ESTIMATE_AGE ≤ sample.now - since)
    → AreApart since (elim b [ true ↦ taken since samples | false ↦ sample ∷ taken sample.now samples ])) [
      | true ↦ λ is. taken_are_apart since samples
      | false ↦ λ is. (is refl, taken_are_apart sample.now samples)
    ] (λ t. grind (arith, nat_tests))

late : (n : ℕ) → ESTIMATE_AGE ≤ n → ltb n ESTIMATE_AGE ≡ false
late n h = grind (arith, nat_tests)

pub apart_are_taken : ApartAreTaken
unfolding taken AreApart
apart_are_taken since [] apart = refl
apart_are_taken since (sample ∷ samples) apart =
    rw (late (sample.now - since) apart.0, taken) (ap (λ rest. sample ∷ rest) (apart_are_taken sample.now samples apart.1))

versions_fold : (start : Estimate) (samples : List Sample) → (fold updated start samples).version ≡ start.version + length samples
unfolding updated
versions_fold start [] = omega arith
versions_fold start (sample ∷ samples) =
    let more : (fold updated (updated start sample) samples).version ≡ (updated start sample).version + length samples = versions_fold (updated start sample) samples in
    omega arith

pub versions_count : VersionsCount
versions_count start samples =
    ap (λ (e : Estimate). e.version) (folds_taken start samples) ∙ versions_fold start (taken start.at samples)
