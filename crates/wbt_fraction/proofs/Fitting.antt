-- Seats at several domains, read and changed at one place, and the first so many of them split.
use Rattle.std.proofs.Common.{◌≡◌, ℕ, zero, suc, ◌+◌, ◌-◌, ◌^◌, ◌<◌, ◌≤◌, List, [], ◌∷◌, ◌++◌, length, map, replicate, get_or, set, sym, refl, ap, ◌∙◌, subst, arith}
use Rattle.std.proofs.lemmas.List.Elements.{All-append, All-cons, All-nil}
use Rattle.wbt_fraction.specs.History.{no_trail, fresh_trail}
use Rattle.wbt_fraction.specs.Seat.{Seated, Shape}
use Rattle.wbt_fraction.specs.Several.{Fits, HasRoom, AllFirst, Shared, parts_of, left_of, right_of, no_seat, no_shape}

pub fits_length : (xs : List Shape) (ys : List Seated) → Fits xs ys → length ys ≡ length xs
fits_length [] [] h = refl
fits_length [] (y ∷ ys) h = absurd h
fits_length (x ∷ xs) [] h = absurd h
fits_length (x ∷ xs) (y ∷ ys) h = ap suc (fits_length xs ys h.1)

pub default_of : {A : Type 0} (l : List A) (i : ℕ) (a b : A) → i < length l → get_or l i a ≡ get_or l i b
default_of [] i a b h = absurd (omega arith)
default_of (x ∷ xs) zero a b h = refl
default_of (x ∷ xs) (suc i) a b h = default_of xs i a b (omega arith)

pub read_at : {A : Type 0} (l m : List A) (i : ℕ) (x d : A) → x ≡ get_or l i x → l ≡ m → i < length m → x ≡ get_or m i d
read_at l m i x d at same h = at ∙ ap (λ k. get_or k i x) same ∙ default_of m i x d h

pub fits_at : (xs : List Shape) (ys : List Seated) (i : ℕ) → Fits xs ys → i < length xs → (get_or ys i no_seat).table ≡ (get_or xs i no_shape).table
fits_at [] ys i h less = absurd (omega arith)
fits_at (x ∷ xs) [] i h less = absurd h
fits_at (x ∷ xs) (y ∷ ys) zero h less = h.0
fits_at (x ∷ xs) (y ∷ ys) (suc i) h less = fits_at xs ys i h.1 (omega arith)

pub fits_set : (xs : List Shape) (ys : List Seated) (i : ℕ) (s : Seated) → Fits xs ys → i < length xs → s.table ≡ (get_or ys i no_seat).table → Fits xs (set ys i s)
fits_set [] ys i s h less same = absurd (omega arith)
fits_set (x ∷ xs) [] i s h less same = absurd h
fits_set (x ∷ xs) (y ∷ ys) zero s h less same = (same ∙ h.0, h.1)
fits_set (x ∷ xs) (y ∷ ys) (suc i) s h less same = (h.0, fits_set xs ys i s h.1 (omega arith) same)

pub fits_more : (xs : List Shape) (ys : List Seated) (x : Shape) (y : Seated) → Fits xs ys → y.table ≡ x.table → Fits (xs ++ x ∷ []) (ys ++ y ∷ [])
fits_more [] [] x y h same = (same, tt)
fits_more [] (b ∷ bs) x y h same = absurd h
fits_more (a ∷ more) [] x y h same = absurd h
fits_more (a ∷ more) (b ∷ bs) x y h same = (h.0, fits_more more bs x y h.1 same)

abbrev IsFirst : Seated → Type 0
IsFirst s = (s.notes ≡ []) × (s.stakes ≡ 2 ^ 32) × (s.room ≡ 2 ^ 39) × (s.trail ≡ no_trail)

pub first_more : (ys : List Seated) (y : Seated) → AllFirst ys → (y.notes ≡ []) × (y.stakes ≡ 2 ^ 32) × (y.room ≡ 2 ^ 39) × (y.trail ≡ no_trail) → AllFirst (ys ++ y ∷ [])
first_more ys y h e = All-append IsFirst ys (y ∷ []) h (All-cons IsFirst y [] e (All-nil IsFirst))

pub first_room : (ys : List Seated) → AllFirst ys → HasRoom ys
first_room ys h k d low = let f = h k d low in let a = f.1 in let b = f.2 in (omega arith, omega arith)

unfoldable pub split_first : (count : ℕ) → List Seated → List Seated
split_first zero ys = ys
split_first (suc count) [] = []
split_first (suc count) (y ∷ ys) = left_of y ∷ split_first count ys

unfoldable pub rights : (count : ℕ) → List Seated → List Seated
rights zero ys = []
rights (suc count) [] = []
rights (suc count) (y ∷ ys) = right_of y ∷ rights count ys

pub split_next : (i : ℕ) (ys : List Seated) → i < length ys → get_or (split_first i ys) i no_seat ≡ get_or ys i no_seat
unfolding split_first
split_next zero ys h = refl
split_next (suc i) [] h = absurd (omega arith)
split_next (suc i) (y ∷ ys) h = split_next i ys (omega arith)

pub split_more : (i : ℕ) (ys : List Seated) → i < length ys → set (split_first i ys) i (left_of (get_or ys i no_seat)) ≡ split_first (i + 1) ys
unfolding split_first
split_more zero [] h = absurd (omega arith)
split_more zero (y ∷ ys) h = refl
split_more (suc i) [] h = absurd (omega arith)
split_more (suc i) (y ∷ ys) h =
    let next : suc (i + 1) ≡ suc i + 1 = omega arith in
    subst (λ n. left_of y ∷ set (split_first i ys) i (left_of (get_or ys i no_seat)) ≡ split_first n (y ∷ ys)) next
    (ap (λ (l : List Seated). left_of y ∷ l) (split_more i ys (omega arith)))

pub rights_more : (i : ℕ) (ys : List Seated) → i < length ys → rights i ys ++ right_of (get_or ys i no_seat) ∷ [] ≡ rights (i + 1) ys
unfolding rights
rights_more zero [] h = absurd (omega arith)
rights_more zero (y ∷ ys) h = refl
rights_more (suc i) [] h = absurd (omega arith)
rights_more (suc i) (y ∷ ys) h =
    let next : suc (i + 1) ≡ suc i + 1 = omega arith in
    subst (λ n. right_of y ∷ (rights i ys ++ right_of (get_or ys i no_seat) ∷ []) ≡ rights n (y ∷ ys)) next
    (ap (λ (l : List Seated). right_of y ∷ l) (rights_more i ys (omega arith)))

pub split_length : (i : ℕ) (ys : List Seated) → length (split_first i ys) ≡ length ys
unfolding split_first
split_length zero ys = refl
split_length (suc i) [] = refl
split_length (suc i) (y ∷ ys) = ap suc (split_length i ys)

pub rights_length : (i : ℕ) (ys : List Seated) → i ≤ length ys → length (rights i ys) ≡ i
unfolding rights
rights_length zero ys h = refl
rights_length (suc i) [] h = absurd (omega arith)
rights_length (suc i) (y ∷ ys) h = ap suc (rights_length i ys (omega arith))

-- where the first so many are split, the next is as it was
pub split_mine : (l ys : List Seated) (i : ℕ) (x : Seated) → l ≡ split_first i ys → x ≡ get_or l i x → i < length ys → x ≡ get_or ys i no_seat
split_mine l ys i x is at less =
    let same = split_length i ys in
    read_at l (split_first i ys) i x no_seat at is (omega arith) ∙ split_next i ys less

pub within : (xs : List Shape) (ys : List Seated) (i end : ℕ) → Fits xs ys → end ≡ length xs → i < end → i < length ys
within xs ys i end fits is less = let long = fits_length xs ys fits in omega arith

pub split_all : (i : ℕ) (ys : List Seated) → i ≡ length ys → split_first i ys ≡ map left_of ys
unfolding split_first
split_all zero [] h = refl
split_all zero (y ∷ ys) h = absurd (omega arith)
split_all (suc i) [] h = refl
split_all (suc i) (y ∷ ys) h = ap (λ (l : List Seated). left_of y ∷ l) (split_all i ys (omega arith))

pub rights_all : (i : ℕ) (ys : List Seated) → i ≡ length ys → rights i ys ≡ map right_of ys
unfolding rights
rights_all zero [] h = refl
rights_all zero (y ∷ ys) h = absurd (omega arith)
rights_all (suc i) [] h = refl
rights_all (suc i) (y ∷ ys) h = ap (λ (l : List Seated). right_of y ∷ l) (rights_all i ys (omega arith))

pub lefts_fit : (xs : List Shape) (ys : List Seated) → Fits xs ys → Fits xs (map left_of ys)
lefts_fit [] [] h = tt
lefts_fit [] (y ∷ ys) h = absurd h
lefts_fit (x ∷ xs) [] h = absurd h
lefts_fit (x ∷ xs) (y ∷ ys) h = (h.0, lefts_fit xs ys h.1)

pub rights_fit : (xs : List Shape) (ys : List Seated) → Fits xs ys → Fits xs (map right_of ys)
rights_fit [] [] h = tt
rights_fit [] (y ∷ ys) h = absurd h
rights_fit (x ∷ xs) [] h = absurd h
rights_fit (x ∷ xs) (y ∷ ys) h = (h.0, rights_fit xs ys h.1)

pub room_at : (ys : List Seated) (i : ℕ) → HasRoom ys → i < length ys → (2 ≤ (get_or ys i no_seat).stakes) × (2 ^ 33 ≤ (get_or ys i no_seat).room)
room_at ys i h less = h i no_seat less

pub is_left : (s t : Seated) → t.table ≡ s.table → t.notes ≡ s.notes → t.stakes ≡ s.stakes - 1 → t.room ≡ s.room - 2 ^ 33 → t.trail ≡ s.trail → t ≡ left_of s
is_left s t a b c d e = λ i. record { table = a i; notes = b i; trail = e i; stakes = c i; room = d i }

pub is_right : (s t : Seated) → t.table ≡ s.table → t.notes ≡ [] → t.stakes ≡ 1 → t.room ≡ 2 ^ 33 → t.trail ≡ fresh_trail s.trail → t ≡ right_of s
is_right s t a b c d e = λ i. record { table = a i; notes = b i; trail = e i; stakes = c i; room = d i }

pub replicate_more : (i n : ℕ) → replicate i n ++ n ∷ [] ≡ replicate (i + 1) n
replicate_more zero n = refl
replicate_more (suc i) n =
    let next : suc (i + 1) ≡ suc i + 1 = omega arith in
    subst (λ k. n ∷ (replicate i n ++ n ∷ []) ≡ replicate k n) next (ap (λ (l : List ℕ). n ∷ l) (replicate_more i n))

first_is : (a b : ℕ) (l m : List ℕ) → a ∷ l ≡ b ∷ m → a ≡ b
first_is a b l m e = cc

rest_is : (a b : ℕ) (l m : List ℕ) → a ∷ l ≡ b ∷ m → l ≡ m
rest_is a b l m e = cc

pub replicate_at : (n i x : ℕ) → i < n → get_or (replicate n x) i 0 ≡ x
replicate_at zero i x h = absurd (omega arith)
replicate_at (suc n) zero x h = refl
replicate_at (suc n) (suc i) x h = replicate_at n i x (omega arith)

pub parts_at : (xs : List Shape) (i n : ℕ) → parts_of xs ≡ replicate (length xs) n → i < length xs → (get_or xs i no_shape).parts ≡ n
parts_at [] i n e h = absurd (omega arith)
parts_at (x ∷ xs) zero n e h = first_is x.parts n (parts_of xs) (replicate (length xs) n) e
parts_at (x ∷ xs) (suc i) n e h = parts_at xs i n (rest_is x.parts n (parts_of xs) (replicate (length xs) n) e) (omega arith)

-- a context of the shares has a part in each domain of them
pub share_there : (inside outside : Shared) → inside ≡ outside → parts_of inside.domains ≡ replicate (length inside.domains) (length inside.homes)
    → (d wb : ℕ) → d < length outside.domains → wb < length outside.homes → wb < (get_or inside.domains d no_shape).parts
share_there inside outside is parts d wb low less =
    let domains = ap (λ (s : Shared). length s.domains) is in
    let homes = ap (λ (s : Shared). length s.homes) is in
    let here : d < length inside.domains = omega arith in
    subst (λ n. wb < n) (sym (parts_at inside.domains d (length inside.homes) parts here)) (omega arith)
