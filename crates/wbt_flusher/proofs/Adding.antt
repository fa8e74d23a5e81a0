-- What calls on shares note of the domains, as a flusher's turn tells it.
use Rattle.std.proofs.Common.{◌≡◌, ◌≢◌, ℕ, suc, ◌+◌, ◌<◌, Bool, true, false, cond, eqb, ◌&&◌, List, [], ◌∷◌, length, sym, refl, ap, ◌∙◌, subst, arith, eq-eqb, ne_eqb, get_or-set_same, get_or-set_other}
use Rattle.std.specs.Prelude.{slice_index_or, slice_set}
use mathlib.Core.Logic.{dite}
use native.Mathlib.Decide.{ℕ_discrete}
use Rattle.wbt_flusher.proofs.Common.{begun, added_at, no_seat, Each, added_to, Told, share, Longer, SharesGrew, IsOfFlusher, Worker, longer_none, notes_by}
use Rattle.wbt_kit.proofs.Common.{fits_length}
use Rattle.wbt_fraction.specs.Sums.{total as weigh}
use Rattle.wbt_fraction.specs.Seat.{Seated, Shape}
use Rattle.wbt_fraction.specs.Several as fraction
use Rattle.wbt_published.specs.Passes as est
use Rattle.wbt_run_laws.specs.Calls.{NotesGrew}
use Rattle.wbt_flusher.proofs.Noting.{shares_by}

-- ---- one domain of a seat

module _ (old new : List Seated) (domain : ℕ) (mid : Seated) (there : domain < length old) (is : new ≡ slice_set old domain mid) where
  at_it : slice_index_or new domain no_seat ≡ mid
  at_it = ap (λ (l : List Seated). slice_index_or l domain no_seat) is ∙ get_or-set_same old domain mid no_seat there

  elsewhere : (d : ℕ) → d ≢ domain → slice_index_or new d no_seat ≡ slice_index_or old d no_seat
  elsewhere d other = ap (λ (l : List Seated). slice_index_or l d no_seat) is ∙ get_or-set_other old domain d mid no_seat other

  -- what holds of the domain that changed, and of those that stay
  pub each_domain : (P : ℕ → Seated → Seated → Type 0) → P domain (slice_index_or old domain no_seat) mid
      → ((d : ℕ) → d ≢ domain → P d (slice_index_or old d no_seat) (slice_index_or old d no_seat)) → (d : ℕ) → P d (slice_index_or old d no_seat) (slice_index_or new d no_seat)
  each_domain P here others d = dite (ℕ_discrete d domain)
      (λ same. subst (λ (n : ℕ). P n (slice_index_or old n no_seat) (slice_index_or new n no_seat)) (sym same)
      (subst (λ (s : Seated). P domain (slice_index_or old domain no_seat) s) (sym at_it) here))
      (λ other. subst (λ (s : Seated). P d (slice_index_or old d no_seat) s) (sym (elsewhere d other)) (others d other))

-- entries that tell what one domain got
module _ (flusher cpu : ℕ) (base : Worker) (old new : fraction.Seats) (pass : est.Seats) (domain : ℕ) (mid : Seated) (added : List Told) (amount : ℕ → ℕ)
    (there : domain < length old.domains) (is : new.domains ≡ slice_set old.domains domain mid) (of : Each (IsOfFlusher flusher) added)
    (grew : NotesGrew amount (slice_index_or old.domains domain no_seat).notes mid.notes)
    (tells : (context : ℕ) → added_to domain context added ≡ amount context)
    (tells_none : (d : ℕ) → d ≢ domain → (context : ℕ) → added_to d context added ≡ 0) where
  pub shares_told : SharesGrew cpu added (notes_by base old pass) (notes_by base new pass)
  shares_told = shares_by flusher cpu added (notes_by base old pass) (notes_by base new pass) of (λ d context. refl)
      (each_domain old.domains new.domains domain mid there is (λ d s t. Longer s.notes t.notes) grew.longer (λ d other. longer_none (slice_index_or old.domains d no_seat).notes))
      (each_domain old.domains new.domains domain mid there is (λ d s t. (context : ℕ) → weigh (added_at (suc context)) t.notes ≡ weigh (added_at (suc context)) s.notes + added_to d context added)
      (λ context. let adds = grew.adds context in let told = tells context in omega arith)
      (λ d other context. let none = tells_none d other context in omega arith))
      (each_domain old.domains new.domains domain mid there is (λ d s t. begun t.notes ≡ begun s.notes) grew.begins_none (λ d other. refl))

-- ---- what a share's entry tells

and_true : (b : Bool) → (true && b) ≡ b
and_true b = refl

and_false : (a b : Bool) → a ≡ false → (a && b) ≡ false
and_false a b none = ap (λ (c : Bool). c && b) none

pub told_here : (domain context n k : ℕ) → added_to domain k (share domain context n ∷ []) ≡ cond (eqb context k) n 0
told_here domain context n k =
    let same : cond (eqb domain domain && eqb context k) n 0 ≡ cond (eqb context k) n 0 = ap (λ (a : Bool). cond (a && eqb context k) n 0) (eq-eqb domain domain refl) in omega arith

pub told_elsewhere : (domain context n d : ℕ) → d ≢ domain → (k : ℕ) → added_to d k (share domain context n ∷ []) ≡ 0
told_elsewhere domain context n d other k =
    let none : cond (eqb domain d && eqb context k) n 0 ≡ 0 = ap (λ (a : Bool). cond (a && eqb context k) n 0) (ne_eqb domain d (λ same. other (sym same))) in omega arith

pub in_seats : (shapes : List Shape) (seats : List Seated) (domain : ℕ) → fraction.Fits shapes seats → domain < length shapes → domain < length seats
in_seats shapes seats domain fits less = let long = fits_length shapes seats fits in omega arith
