-- Seats at several domains, the first so many of them joined.
use Rattle.std.proofs.Common.{◌≡◌, ℕ, zero, suc, ◌+◌, ◌<◌, List, [], ◌∷◌, length, get_or, set, sym, refl, ap, ◌∙◌, subst, arith}
use Rattle.wbt_fraction.specs.Seat.{Seated, Shape}
use Rattle.wbt_fraction.specs.Several.{Fits, IsJoined, AllJoined, no_seat, no_shape}
use Rattle.wbt_fraction.proofs.Fitting.{fits_length}

unfoldable pub Joining : (count : ℕ) (old from now rest : List Seated) → Type 0
Joining zero old from now rest = (now ≡ old) × (rest ≡ from)
Joining (suc count) (o ∷ old) (f ∷ from) (n ∷ now) rest = IsJoined o f n × Joining count old from now rest
Joining (suc count) _ _ _ _ = ⊥

pub record Next (xs : List Shape) (old from now : List Seated) (i : ℕ) (x : Seated) : Type 0 where
  pub less : i < length xs
  pub long : length now ≡ length xs
  pub mine : (get_or now i no_seat).table ≡ (get_or xs i no_shape).table
  pub theirs : x.table ≡ (get_or xs i no_shape).table

next_later : (y : Shape) (o f n : Seated) (xs : List Shape) (old from now : List Seated) (i : ℕ) (x : Seated) → Next xs old from now i x → Next (y ∷ xs) (o ∷ old) (f ∷ from) (n ∷ now) (suc i) x
next_later y o f n xs old from now i x t = record {
  less = let h = t.less in omega arith;
  long = ap suc t.long;
  mine = t.mine;
  theirs = t.theirs;
}

next_here : (xs : List Shape) (old : List Seated) (x : Seated) (rest : List Seated) → Fits xs old → Fits xs (x ∷ rest) → Next xs old (x ∷ rest) old 0 x
next_here [] old x rest a b = absurd b
next_here (y ∷ xs) [] x rest a b = absurd a
next_here (y ∷ xs) (o ∷ old) x rest a b = record {
  less = omega arith;
  long = fits_length (y ∷ xs) (o ∷ old) a;
  mine = a.0;
  theirs = b.0;
}

next_of : (i : ℕ) (xs : List Shape) (old from now rest : List Seated) (x : Seated) → Joining i old from now (x ∷ rest) → Fits xs old → Fits xs from → Next xs old from now i x
unfolding Joining
next_of zero xs old from now rest x j a b =
    subst (λ (z : List Seated × List Seated). Next xs old z.0 z.1 0 x) (λ i. (j.1 i, sym j.0 i))
    (next_here xs old x rest a (subst (Fits xs) (sym j.1) b))
next_of (suc i) xs [] from now rest x j a b = absurd j
next_of (suc i) xs (o ∷ old) [] now rest x j a b = absurd j
next_of (suc i) xs (o ∷ old) (f ∷ from) [] rest x j a b = absurd j
next_of (suc i) [] (o ∷ old) (f ∷ from) (n ∷ now) rest x j a b = absurd a
next_of (suc i) (y ∷ xs) (o ∷ old) (f ∷ from) (n ∷ now) rest x j a b =
    next_later y o f n xs old from now i x (next_of i xs old from now rest x j.1 a.1 b.1)

-- the same, where the next is the first of what is left
pub next_at : (i : ℕ) (xs : List Shape) (old from now left rest : List Seated) (x : Seated) → left ≡ x ∷ rest → Joining i old from now left → Fits xs old → Fits xs from → Next xs old from now i x
next_at i xs old from now left rest x is j = next_of i xs old from now rest x (subst (λ (l : List Seated). Joining i old from now l) is j)

one_joined : (old from now rest : List Seated) (x n : Seated) → now ≡ old → x ∷ rest ≡ from → 0 < length old → IsJoined (get_or now 0 no_seat) x n → Joining 1 old from (set now 0 n) rest
unfolding Joining
one_joined [] from now rest x n a b h is = absurd (omega arith)
one_joined (o ∷ old) from now rest x n a b h is =
    subst (λ (l : List Seated). Joining 1 (o ∷ old) l (set now 0 n) rest) b
    (subst (λ (l : List Seated). Joining 1 (o ∷ old) (x ∷ rest) (set l 0 n) rest) (sym a)
    (subst (λ (l : List Seated). IsJoined (get_or l 0 no_seat) x n) a is, (refl, refl)))

pub joined_next : (i : ℕ) (old from now rest : List Seated) (x n : Seated) → Joining i old from now (x ∷ rest) → i < length old → IsJoined (get_or now i no_seat) x n
    → Joining (i + 1) old from (set now i n) rest
unfolding Joining
joined_next zero old from now rest x n j less is = one_joined old from now rest x n j.0 j.1 less is
joined_next (suc i) [] from now rest x n j less is = absurd j
joined_next (suc i) (o ∷ old) [] now rest x n j less is = absurd j
joined_next (suc i) (o ∷ old) (f ∷ from) [] rest x n j less is = absurd j
joined_next (suc i) (o ∷ old) (f ∷ from) (m ∷ now) rest x n j less is =
    let next : suc (i + 1) ≡ suc i + 1 = omega arith in
    subst (λ k. Joining k (o ∷ old) (f ∷ from) (m ∷ set now i n) rest) next
    (j.0, joined_next i old from now rest x n j.1 (omega arith) is)

empty : (old : List Seated) → length old ≡ 0 → AllJoined old [] old
empty [] h = tt
empty (o ∷ old) h = absurd (omega arith)

all_none : (old from now : List Seated) → now ≡ old → [] ≡ from → length old ≡ length from → AllJoined old from now
all_none old from now a b long =
    let none : length from ≡ 0 = ap length (sym b) in
    subst (λ (z : List Seated × List Seated). AllJoined old z.0 z.1) (λ i. (b i, sym a i)) (empty old (long ∙ none))

pub all_joined : (i : ℕ) (old from now : List Seated) → Joining i old from now [] → length old ≡ length from → AllJoined old from now
unfolding Joining
all_joined zero old from now j long = all_none old from now j.0 j.1 long
all_joined (suc i) [] from now j long = absurd j
all_joined (suc i) (o ∷ old) [] now j long = absurd j
all_joined (suc i) (o ∷ old) (f ∷ from) [] j long = absurd j
all_joined (suc i) (o ∷ old) (f ∷ from) (n ∷ now) j long = (j.0, all_joined i old from now j.1 (omega arith))

pub joined_fits : (xs : List Shape) (old from now : List Seated) → Fits xs old → AllJoined old from now → Fits xs now
joined_fits [] [] [] [] a j = tt
joined_fits [] [] [] (n ∷ now) a j = absurd j
joined_fits [] [] (f ∷ from) now a j = absurd j
joined_fits [] (o ∷ old) from now a j = absurd a
joined_fits (x ∷ xs) [] from now a j = absurd a
joined_fits (x ∷ xs) (o ∷ old) [] now a j = absurd j
joined_fits (x ∷ xs) (o ∷ old) (f ∷ from) [] a j = absurd j
joined_fits (x ∷ xs) (o ∷ old) (f ∷ from) (n ∷ now) a j = (j.0.table ∙ a.0, joined_fits xs old from now a.1 j.1)

pub none_left : (l : List Seated) → length l ≡ 0 → l ≡ []
none_left [] h = refl
none_left (x ∷ l) h = absurd (omega arith)
