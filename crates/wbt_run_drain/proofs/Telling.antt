-- What a flusher tells in the drain: no check and no estimate, at moments that were told.
use Rattle.std.proofs.Common.{◌≡◌, ℕ, List, [], Contains, Option, Some, None, IfSome, refl, subst, arith}
use Rattle.wbt_flusher.specs.Answers.{AreTold}
use Rattle.wbt_run_worker.proofs.Common.{Moments, waited_at, Each, Flight, Wait, effect, moment_of, Told, CheckEntry, EstEntry, IsOfFlusher, if_none, if_weaker, IsTold}
use Rattle.wbt_flusher.specs.Did.{IsTimed}
use Rattle.wbt_run_laws.specs.Elsewhere.{IsPlain}
use Rattle.wbt_run_worker.proofs.Lists.{each_and, has_it}

-- nothing is among none
none_among : (xs : List ℕ) (x : ℕ) → xs ≡ [] → Contains xs x → ⊥
none_among xs x none has = let there = subst (λ (l : List ℕ). Contains l x) none has in let low = there.1 in absurd (omega arith)

-- a part of which nothing can hold isn't there
none_by : {A : Type 0} (P : A → Type 0) → ((x : A) → P x → ⊥) → (part : Option A) → IfSome part P → part ≡ None
none_by P never None holds = refl
none_by P never (Some x) holds = absurd (never x holds)

plain_one : (moments : Moments) → moments.estimates ≡ [] → (number : ℕ) (entry : Told) → IsOfFlusher number entry → IsTimed moments entry → IsPlain entry
plain_one moments none number entry of timed = record {
  no_check = of.no_check;
  no_estimate = none_by (λ (est : EstEntry). Contains moments.estimates est.estimate.at) (λ est. none_among moments.estimates est.estimate.at none) (effect entry).estimate timed.estimate;
}

pub all_plain : (moments : Moments) (number : ℕ) (added : List Told) → moments.estimates ≡ [] → Each (IsOfFlusher number) added → Each (IsTimed moments) added
    → Each IsPlain added
all_plain moments number added none of timed = each_and (IsOfFlusher number) (IsTimed moments) IsPlain (plain_one moments none number) added of timed

told_one : (told : ℕ → Type 0) (moments : Moments) → AreTold told moments → (number : ℕ) (entry : Told) → IsOfFlusher number entry → IsTimed moments entry → IsTold told entry
told_one told moments all number entry of timed = record {
  check = if_none (λ (check : CheckEntry). told check.now) (effect entry).check of.no_check;
  batch = if_weaker (λ (flight : Flight). IfSome (moment_of flight.move) (λ now. Contains moments.batches now)) (λ (flight : Flight). IfSome (moment_of flight.move) told)
      (λ flight. if_weaker (λ now. Contains moments.batches now) told (λ now. has_it told moments.batches now all.batches) (moment_of flight.move)) (effect entry).flight timed.batch;
  estimate = if_weaker (λ (est : EstEntry). Contains moments.estimates est.estimate.at) (λ (est : EstEntry). told est.estimate.at)
      (λ est. has_it told moments.estimates est.estimate.at all.estimates) (effect entry).estimate timed.estimate;
  wait = if_weaker (λ (wait : Wait). IfSome (waited_at wait.move) (λ now. Contains moments.estimates now)) (λ (wait : Wait). IfSome (waited_at wait.move) told)
      (λ wait. if_weaker (λ now. Contains moments.estimates now) told (λ now. has_it told moments.estimates now all.estimates) (waited_at wait.move)) (effect entry).wait timed.wait;
}

pub all_told : (told : ℕ → Type 0) (moments : Moments) (number : ℕ) (added : List Told) → AreTold told moments → Each (IsOfFlusher number) added → Each (IsTimed moments) added
    → Each (IsTold told) added
all_told told moments number added all of timed = each_and (IsOfFlusher number) (IsTimed moments) (IsTold told) (told_one told moments all number) added of timed
