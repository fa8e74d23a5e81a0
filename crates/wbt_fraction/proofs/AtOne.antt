-- A call on the seat at one domain, seen from the seats at all of them.
use Rattle.std.proofs.Common.{◌≡◌, ℕ, zero, suc, ◌-◌, ◌<◌, List, [], ◌∷◌, length, get_or, set, cond, eqb, Result, Ok, Err, MatchResult, sym, refl, ap, ◌∙◌, subst, arith, eq-eqb, ne_eqb}
use mathlib.Core.Logic.{dite}
use native.Mathlib.Decide.{ℕ_discrete}
use Rattle.std.proofs.lemmas.List.{get_or-set_same, get_or-set_other}
use Rattle.wbt_fraction.specs.declared.domain.note.Note.{Note}
use Rattle.wbt_fraction.specs.declared.domain.words.Again.{Again}
use Rattle.wbt_fraction.specs.Seat.{Seated, Shape, Adds, Missed, Looks}
use Rattle.wbt_fraction.specs.Several.{Fits, Changes, KeepsRooms, TakesRoom, no_seat, no_shape}
use Rattle.wbt_fraction.proofs.Fitting.{fits_length, fits_at, fits_set, read_at}

kept_at : {X : Type 0} (f : Seated → X) (ys : List Seated) (i : ℕ) (mid : Seated) → f mid ≡ f (get_or ys i no_seat)
    → (d : ℕ) → f (get_or (set ys i mid) d no_seat) ≡ f (get_or ys d no_seat)
kept_at f [] i mid same d = refl
kept_at f (y ∷ ys) zero mid same zero = same
kept_at f (y ∷ ys) zero mid same (suc d) = refl
kept_at f (y ∷ ys) (suc i) mid same zero = refl
kept_at f (y ∷ ys) (suc i) mid same (suc d) = kept_at f ys i mid same d

taken_at : (ys : List Seated) (i n : ℕ) (mid : Seated) → i < length ys → mid.room ≡ (get_or ys i no_seat).room - n
    → (d : ℕ) → (get_or (set ys i mid) d no_seat).room ≡ (get_or ys d no_seat).room - cond (eqb d i) n 0
taken_at ys i n mid less same d = dite (ℕ_discrete d i)
    (λ e. subst (λ j. (get_or (set ys i mid) j no_seat).room ≡ (get_or ys j no_seat).room - cond (eqb j i) n 0) (sym e)
    (let here = ap (λ (s : Seated). s.room) (get_or-set_same ys i mid no_seat less) in let all = ap (λ b. cond b n 0) (eq-eqb i i refl) in omega arith))
    (λ ne. let there = ap (λ (s : Seated). s.room) (get_or-set_other ys i d mid no_seat ne) in let none = ap (λ b. cond b n 0) (ne_eqb d i ne) in omega arith)

-- the list l inside the seats is ys, and the call takes its item x at d, and leaves mid there
module _ (xs : List Shape) (ys l : List Seated) (d : ℕ) (fits : Fits xs ys) (less : d < length xs) (is : l ≡ ys) where
  in_seats : d < length ys
  in_seats = let long = fits_length xs ys fits in omega arith

  pub in_items : d < length l
  in_items = let long = in_seats in let same = ap length is in omega arith

  module _ (x : Seated) (at : x ≡ get_or l d x) where
    mine : x ≡ get_or ys d no_seat
    mine = read_at l ys d x no_seat at is in_seats

    pub meets : (zs : List Shape) (z : Shape) → z ≡ get_or zs d z → zs ≡ xs → x.table ≡ z.table
    meets zs z at_z zs_is = ap (λ (s : Seated). s.table) mine ∙ fits_at xs ys d fits less ∙ sym (ap (λ (s : Shape). s.table) (read_at zs xs d z no_shape at_z zs_is less))

    pub still_fits : (mid : Seated) → mid.table ≡ x.table → Fits xs (set l d mid)
    still_fits mid same = subst (λ (k : List Seated). Fits xs (set k d mid)) (sym is) (fits_set xs ys d mid fits less (same ∙ ap (λ (s : Seated). s.table) mine))

    pub changes : (so : Seated → Seated → Type 0) (mid : Seated) → so x mid → Changes d so ys (set l d mid)
    changes so mid told = (mid, subst (λ (s : Seated). so s mid) mine told, ap (λ (k : List Seated). set k d mid) is)

    pub keeps : {X : Type 0} (f : Seated → X) (mid : Seated) → f mid ≡ f x → (e : ℕ) → f (get_or (set l d mid) e no_seat) ≡ f (get_or ys e no_seat)
    keeps f mid same e = ap (λ (k : List Seated). f (get_or (set k d mid) e no_seat)) is ∙ kept_at f ys d mid (same ∙ ap f mine) e

    takes : (n : ℕ) (mid : Seated) → mid.room ≡ x.room - n → TakesRoom d n ys (set l d mid)
    takes n mid same e = ap (λ (k : List Seated). (get_or (set k d mid) e no_seat).room) is ∙ taken_at ys d n mid in_seats (same ∙ ap (λ (s : Seated). s.room - n) mine) e

    pub room_after : {A : Type 0} (result : Result A Again) (part n : ℕ) (mid : Seated)
        → MatchResult result (λ _. Adds part n x mid) (λ again. (more : List Note) × Missed part again more × Looks more x mid)
        → MatchResult result (λ _. TakesRoom d n ys (set l d mid)) (λ _. KeepsRooms ys (set l d mid))
    room_after (Ok a) part n mid told = takes n mid told.room
    room_after (Err again) part n mid told = keeps (λ s. s.room) mid told.2.room
