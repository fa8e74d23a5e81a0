-- Notes of shares that come together: those of one CPU more, and those of a turn that is taken as its CPU's.
use Rattle.std.proofs.Common.{◌≡◌, ◌≢◌, ℕ, zero, suc, ◌+◌, ◌<◌, List, [], ◌∷◌, ◌++◌, length, get_or, Contains, refl, sym, ap, ◌∙◌, subst, arith, length-append}
use Rattle.std.proofs.lemmas.List.Elements.{Contains-append_left, Contains-append_right}
use mathlib.Core.Logic.{dite}
use native.Mathlib.Decide.{ℕ_discrete}
use Rattle.wbt_kit.proofs.Common.{put, total_change, begun, Note, Trace}
use Rattle.wbt_counter.proofs.Sums.{put_same, put_other}
use Rattle.wbt_fraction.specs.Sums.{total as weigh}
use Rattle.wbt_fraction.specs.declared.domain.note.Note.TheVariants.{Found, Added, Period}
use Rattle.wbt_fraction.proofs.Sums.{total_append}
use Rattle.wbt_run_laws.specs.Elsewhere.{with_shares}
use Rattle.wbt_run_laws.specs.Notes.{Notes}
use Rattle.wbt_kit.specs.declared.kit.Seats.{Seats}
use Rattle.wbt_run_seats.specs.Gathered.{SharesGathered, AreNotesOf}
use Rattle.wbt_run_seats.specs.Parts.{noted}
use Rattle.wbt_run_seats.specs.Together.{notes_with}

-- ---- periods

pub begun_append : (more older : List Note) → begun (more ++ older) ≡ begun more ++ begun older
unfolding begun
begun_append [] older = refl
begun_append (Found at word ∷ more) older = begun_append more older
begun_append (Added at word n ∷ more) older = begun_append more older
begun_append (Period word k ∷ more) older = ap (λ (l : List (ℕ × ℕ)). (word, k) ∷ l) (begun_append more older)

pub none_begun : begun [] ≡ []
unfolding begun
none_begun = refl

pub no_weight : (h : Note → ℕ) → weigh h [] ≡ 0
unfolding weigh
no_weight h = refl

no_items : {A : Type 0} (xs : List A) → length xs ≡ 0 → xs ≡ []
no_items [] is = refl
no_items (x ∷ xs) is = absurd (omega arith)

pub nothing_more : {A : Type 0} (xs ys : List A) → xs ++ ys ≡ ys → xs ≡ []
nothing_more xs ys is = no_items xs (let long = length-append xs ys in let same = ap (λ (l : List _). length l) is in omega arith)

-- ---- shares

module _ (trace : Trace) (notes : ℕ → Notes) where
  -- one CPU more
  pub shares_more : (cpus : ℕ) (timer all : (domain : ℕ) → List Note) (more : (domain : ℕ) → List Note) → SharesGathered trace cpus notes timer all
      → ((domain : ℕ) → (notes cpus).shares domain ≡ more domain) → ((domain : ℕ) → begun (more domain) ≡ [])
      → SharesGathered trace (suc cpus) notes timer (λ domain. more domain ++ all domain)
  shares_more cpus timer all more before are none = record {
    weights = λ domain low h.
        let both = total_append h (more domain) (all domain) in
        let was = before.weights domain low h in
        let mine = ap (λ (l : List Note). weigh h l) (are domain) in
        omega arith;
    have = λ cpu domain less low note has. dite (ℕ_discrete cpu cpus)
        (λ last. Contains-append_left (more domain) (all domain) note
        (subst (λ (l : List Note). Contains l note) (are domain) (subst (λ (k : ℕ). Contains ((notes k).shares domain) note) last has)))
        (λ other. Contains-append_right (more domain) (all domain) note (before.have cpu domain (let q : cpu ≢ cpus = other in omega arith) low note has));
    begun_are = λ domain low. begun_append (more domain) (all domain) ∙ ap (λ (l : List (ℕ × ℕ)). l ++ begun (all domain)) (none domain) ∙ before.begun_are domain low;
  }

-- where the notes are those of nobody but the timer
pub shares_first : (trace : Trace) (notes : ℕ → Notes) (timer : (domain : ℕ) → List Note) → SharesGathered trace 0 notes timer timer
shares_first trace notes timer = record {
  weights = λ domain low h. omega arith;
  have = λ cpu domain less. absurd (omega arith);
  begun_are = λ domain low. refl;
}

-- the notes of parts, one after another
pub shares_along : (trace : Trace) (notes : ℕ → Notes) (publisher : (context : ℕ) → ℕ) (timer : (domain : ℕ) → List Note) (parts : List Seats) (cpus : ℕ) (all : (domain : ℕ) → List Note)
    → SharesGathered trace cpus notes timer all → ((n : ℕ) (other : Seats) → n < length parts → AreNotesOf trace publisher (cpus + n) (notes (cpus + n)) (get_or parts n other))
    → SharesGathered trace (cpus + length parts) notes timer (λ domain. notes_with domain parts (all domain))
shares_along trace notes publisher timer [] cpus all before each = subst (λ (n : ℕ). SharesGathered trace n notes timer all) (omega arith) before
shares_along trace notes publisher timer (part ∷ parts) cpus all before each =
    let first : AreNotesOf trace publisher cpus (notes cpus) part = subst (λ (n : ℕ). AreNotesOf trace publisher n (notes n) part) (let n : cpus + 0 ≡ cpus = omega arith in n) (each 0 part (omega arith)) in
    subst (λ (n : ℕ). SharesGathered trace n notes timer (λ domain. notes_with domain (part ∷ parts) (all domain))) (omega arith)
    (shares_along trace notes publisher timer parts (suc cpus) (λ domain. noted part.share domain ++ all domain)
    (shares_more trace notes cpus timer all (λ domain. noted part.share domain) before first.shares (λ domain. ap begun (sym (first.shares domain)) ∙ first.begins_none domain))
    (λ n other less. subst (λ (k : ℕ). AreNotesOf trace publisher k (notes k) (get_or parts n other)) (omega arith) (each (suc n) other (omega arith))))

-- ---- turns on gathered seats

-- what one CPU has then, and what all have
module _ (notes : ℕ → Notes) (cpu : ℕ) (more : (domain : ℕ) → List Note) where
  abbrev pub moved : ℕ → Notes
  moved = put notes cpu (with_shares (notes cpu) more)

  pub moved_here : (domain : ℕ) → (moved cpu).shares domain ≡ more domain ++ (notes cpu).shares domain
  moved_here domain = ap (λ (n : Notes). n.shares domain) (put_same notes cpu (with_shares (notes cpu) more))

  pub moved_else : (k : ℕ) → k ≢ cpu → moved k ≡ notes k
  moved_else k other = put_other notes cpu (with_shares (notes cpu) more) k other

  pub moved_known : (k context : ℕ) → (moved k).estimates context ≡ (notes k).estimates context
  moved_known k context = dite (ℕ_discrete k cpu)
      (λ same. subst (λ (n : ℕ). (moved n).estimates context ≡ (notes n).estimates context) (sym same) (ap (λ (n : Notes). n.estimates context) (put_same notes cpu (with_shares (notes cpu) more))))
      (λ other. ap (λ (n : Notes). n.estimates context) (moved_else k other))

pub shares_moved : (trace : Trace) (cpus cpu : ℕ) (notes : ℕ → Notes) (timer all more new : (domain : ℕ) → List Note) → SharesGathered trace cpus notes timer all → cpu < cpus
    → ((domain : ℕ) → new domain ≡ more domain ++ all domain) → ((domain : ℕ) → begun (more domain) ≡ []) → SharesGathered trace cpus (moved notes cpu more) timer new
shares_moved trace cpus cpu notes timer all more new before less is none = record {
  weights = λ domain low h.
      let same = ap (λ (l : List Note). weigh h l) (is domain) in
      let both = total_append h (more domain) (all domain) in
      let was = before.weights domain low h in
      let here = ap (λ (l : List Note). weigh h l) (moved_here notes cpu more domain) in
      let split = total_append h (more domain) ((notes cpu).shares domain) in
      let change = total_change cpus (λ k. weigh h ((moved notes cpu more k).shares domain)) (λ k. weigh h ((notes k).shares domain)) cpu less
      (λ k other. ap (λ (n : Notes). weigh h (n.shares domain)) (moved_else notes cpu more k other)) in
      omega arith;
  have = λ k domain low there note has. subst (λ (l : List Note). Contains l note) (sym (is domain)) (dite (ℕ_discrete k cpu)
      (λ same. either domain note (before.have cpu domain less there note) (subst (λ (l : List Note). Contains l note) (moved_here notes cpu more domain) (subst (λ (n : ℕ). Contains ((moved notes cpu more n).shares domain) note) same has)))
      (λ other. Contains-append_right (more domain) (all domain) note (before.have k domain low there note (subst (λ (n : Notes). Contains (n.shares domain) note) (moved_else notes cpu more k other) has))));
  begun_are = λ domain low. ap begun (is domain) ∙ begun_append (more domain) (all domain) ∙ ap (λ (l : List (ℕ × ℕ)). l ++ begun (all domain)) (none domain) ∙ before.begun_are domain low;
}
  where
    in_either : (xs ys zs : List Note) (note : Note) → (Contains ys note → Contains zs note) → Contains (xs ++ ys) note → Contains (xs ++ zs) note
    in_either [] ys zs note was has = was has
    in_either (x ∷ xs) ys zs note was (zero, low, e) = (zero, omega arith, e)
    in_either (x ∷ xs) ys zs note was (suc k, low, e) =
        let rest = in_either xs ys zs note was (k, omega arith, e) in
        Contains-append_right (x ∷ []) (xs ++ zs) note rest

    either : (domain : ℕ) (note : Note) → (Contains ((notes cpu).shares domain) note → Contains (all domain) note) → Contains (more domain ++ (notes cpu).shares domain) note
        → Contains (more domain ++ all domain) note
    either domain note was has = in_either (more domain) ((notes cpu).shares domain) (all domain) note was has
