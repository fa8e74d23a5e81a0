-- Passes to the queues after a join, and those that went and came back.
use Rattle.std.proofs.Common.{◌≡◌, ℕ, zero, suc, ◌+◌, ◌<◌, List, [], ◌∷◌, ◌++◌, length, map, get_or, replicate, refl, ap, ◌∙◌, arith, append_assoc}
use Rattle.std.proofs.lemmas.List.{length-map}
use Rattle.wbt_kit.proofs.Common.{accompanied, newcomer, nothing, Seats}
use Rattle.wbt_queue.specs.Known.{opening, knows_both}
use Rattle.wbt_queue.specs.Passes.{all_joined}
use Rattle.wbt_queue.specs.declared.known.Known.{Known}
use Rattle.wbt_queue.specs.declared.known.Part.{Part}
use Rattle.wbt_kit.proofs.Lengths.{parts_long}
use Rattle.wbt_run_seats.specs.Parts.{IsSameQueue}

pub parts_at : (one other : List Known) (i : ℕ) → i < length one → i < length other → get_or (all_joined one other) i opening ≡ knows_both (get_or one i opening) (get_or other i opening)
parts_at [] other i h g = absurd (omega arith)
parts_at (x ∷ xs) [] i h g = absurd (omega arith)
parts_at (x ∷ xs) (y ∷ ys) zero h g = refl
parts_at (x ∷ xs) (y ∷ ys) (suc i) h g = parts_at xs ys i (omega arith) (omega arith)

-- a newcomer that comes back brings an empty part, where there is a queue
back_own : (old : List Known) (xs : List Known) (i : ℕ) → length xs ≡ length old → (get_or (all_joined xs (map newcomer old)) i opening).own ≡ (get_or xs i opening).own
back_own [] [] i long = refl
back_own [] (x ∷ xs) i long = absurd (omega arith)
back_own (o ∷ old) [] i long = absurd (omega arith)
back_own (o ∷ old) (x ∷ xs) zero long = refl
back_own (o ∷ old) (x ∷ xs) (suc i) long = back_own old xs i (omega arith)

back_joined : (old : List Known) (xs : List Known) (i : ℕ) → length xs ≡ length old
    → (n : ℕ) × ((get_or (all_joined xs (map newcomer old)) i opening).joined ≡ (get_or xs i opening).joined ++ replicate n nothing)
back_joined [] [] i long = (0, refl)
back_joined [] (x ∷ xs) i long = absurd (omega arith)
back_joined (o ∷ old) [] i long = absurd (omega arith)
back_joined (o ∷ old) (x ∷ xs) zero long = (1, refl)
back_joined (o ∷ old) (x ∷ xs) (suc i) long = back_joined old xs i (omega arith)

gone_own : (known : List Known) (i : ℕ) → (get_or (map accompanied known) i opening).own ≡ (get_or known i opening).own
gone_own [] i = refl
gone_own (k ∷ known) zero = refl
gone_own (k ∷ known) (suc i) = gone_own known i

gone_joined : (known : List Known) (i : ℕ) → (get_or (map accompanied known) i opening).joined ≡ (get_or known i opening).joined
gone_joined [] i = refl
gone_joined (k ∷ known) zero = refl
gone_joined (k ∷ known) (suc i) = gone_joined known i

both_nothing : (m n : ℕ) → replicate m nothing ++ replicate n nothing ≡ replicate (m + n) nothing
both_nothing zero n = ap (λ (k : ℕ). replicate k nothing) (omega arith)
both_nothing (suc m) n = let next : suc (m + n) ≡ suc m + n = omega arith in
    ap (λ (l : List Part). nothing ∷ l) (both_nothing m n) ∙ ap (λ (k : ℕ). replicate k nothing) next

-- a pass from which others went and came back, when one more comes back
pub queue_back : (old mid new : Seats) → IsSameQueue (record old { known = map accompanied old.known }) mid
    → new ≡ record mid { known = all_joined mid.known (map newcomer old.known) } → IsSameQueue old new
queue_back old mid new same is =
    let long : length mid.known ≡ length old.known = same.many ∙ length-map old.known accompanied in
    let come = map newcomer old.known in
    record {
      names = ap (λ (s : Seats). s.names) is ∙ same.names;
      many = ap (λ (s : Seats). length s.known) is ∙ parts_long mid.known come ∙ long;
      own = λ device. ap (λ (s : Seats). (get_or s.known device opening).own) is ∙ back_own old.known mid.known device long ∙ same.own device ∙ gone_own old.known device;
      joined = λ device.
          let before = same.joined device in
          let back = back_joined old.known mid.known device long in (
            before.0 + back.0,
            ap (λ (s : Seats). (get_or s.known device opening).joined) is ∙ back.1
                ∙ ap (λ (l : List Part). l ++ replicate back.0 nothing) (before.1 ∙ ap (λ (l : List Part). l ++ replicate before.0 nothing) (gone_joined old.known device))
                ∙ append_assoc (get_or old.known device opening).joined (replicate before.0 nothing) (replicate back.0 nothing)
                ∙ ap (λ (l : List Part). (get_or old.known device opening).joined ++ l) (both_nothing before.0 back.0),
          );
    }
