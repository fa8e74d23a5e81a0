-- The history of all operations: who has which of them, through splits and joins.
use Rattle.std.proofs.Common.{◌≡◌, ◌≢◌, ◌⊎◌, inl, inr, ⊎_elim, ℕ, zero, suc, ◌<◌, ◌≤◌, ◌==◌, ltb, cond, List, [], ◌∷◌, ◌++◌, length, sym, refl, ap, ◌∙◌, subst, arith, eq-eqb, ne_eqb, lt-ltb, le-ltb}
use Rattle.std.proofs.lemmas.Bool.{cond-true, cond-false}
use mathlib.Core.Option.{some, some-injective, some-ne-none}
use mathlib.Core.Logic.{dite}
use native.Mathlib.Decide.{ℕ_discrete}
use lib.ListN.{get_elem?}
use Rattle.wbt_signals.specs.declared.rule.Note.{Note}
use Rattle.wbt_signals.specs.History.{AreOwned, IsHistory, IsPart, Owned, history_of, merged, notes_of, put_note}

-- ---- whose it is

pub mine : (id : ℕ) (one : Owned) (older : List Owned) → one.owner ≡ id → notes_of id (one ∷ older) ≡ one.note ∷ notes_of id older
mine id one older e = cond-true (one.owner == id) (one.note ∷ notes_of id older) (notes_of id older) (eq-eqb one.owner id e)

pub not_mine : (id : ℕ) (one : Owned) (older : List Owned) → one.owner ≢ id → notes_of id (one ∷ older) ≡ notes_of id older
not_mine id one older ne = cond-false (one.owner == id) (one.note ∷ notes_of id older) (notes_of id older) (ne_eqb one.owner id ne)

pub owned_more : (voices more : ℕ) (past : List Owned) → voices ≤ more → AreOwned voices past → AreOwned more past
owned_more voices more [] less owned = tt
owned_more voices more (one ∷ older) less owned = ((let here = owned.0 in omega arith), owned_more voices more older less owned.1)

-- a voice that isn't there yet has nothing
pub none_yet : (voices id : ℕ) (past : List Owned) → voices ≤ id → AreOwned voices past → notes_of id past ≡ []
none_yet voices id [] less owned = refl
none_yet voices id (one ∷ older) less owned =
    not_mine id one older (λ e. let here = owned.0 in omega (arith, here, e)) ∙ none_yet voices id older less owned.1

-- a voice's are part of all
part_more : (notes past : List Note) (one : Note) → IsPart notes past → IsPart notes (one ∷ past)
part_more [] past one part = tt
part_more (note ∷ notes) past one part = inl part

pub is_part : (id : ℕ) (past : List Owned) → IsPart (notes_of id past) (history_of past)
is_part id [] = tt
is_part id (one ∷ older) = dite (ℕ_discrete one.owner id)
    (λ e. subst (λ (l : List Note). IsPart l (history_of (one ∷ older))) (sym (mine id one older e)) (inr (refl, is_part id older)))
    (λ n. subst (λ (l : List Note). IsPart l (history_of (one ∷ older))) (sym (not_mine id one older n))
    (part_more (notes_of id older) (history_of older) one.note (is_part id older)))

some_is_not_none : (note : Note) (notes : List Note) → note ∷ notes ≡ [] → ⊥
some_is_not_none note notes e = let none = ap (λ (l : List Note). length l) e in omega arith

-- where no other has any, one voice has all
pub has_all : (voices id : ℕ) (past : List Owned) → AreOwned voices past → ((j : ℕ) → j < voices → j ≢ id → notes_of j past ≡ []) → notes_of id past ≡ history_of past
has_all voices id [] owned none = refl
has_all voices id (one ∷ older) owned none = dite (ℕ_discrete one.owner id)
    (λ e. mine id one older e ∙ ap (λ (l : List Note). one.note ∷ l) (has_all voices id older owned.1
    (λ j less ne. sym (not_mine j one older (λ same. ne (sym same ∙ e))) ∙ none j less ne)))
    (λ n. absurd (some_is_not_none one.note (notes_of one.owner older) (sym (mine one.owner one older refl) ∙ none one.owner owned.0 n)))

-- ---- two voices' together

abbrev AllBelow : (place : ℕ) (notes : List Note) → Type 0
AllBelow place [] = Unit {0}
AllBelow place (note ∷ older) = (note.place < place) × AllBelow place older

below_more : (place more : ℕ) (notes : List Note) → place ≤ more → AllBelow place notes → AllBelow more notes
below_more place more [] less below = tt
below_more place more (note ∷ older) less below = ((let here = below.0 in omega arith), below_more place more older less below.1)

all_below : (workers id : ℕ) (past : List Owned) → IsHistory workers (history_of past) → AllBelow (length (history_of past)) (notes_of id past)
all_below workers id [] law = tt
all_below workers id (one ∷ older) law =
    let n : ℕ = length (history_of older) in
    let rest = below_more n (suc n) (notes_of id older) (omega arith) (all_below workers id older law.2) in
    dite (ℕ_discrete one.owner id)
    (λ e. subst (λ (l : List Note). AllBelow (suc n) l) (sym (mine id one older e)) ((let here = law.0 in omega (arith, here)), rest))
    (λ ne. subst (λ (l : List Note). AllBelow (suc n) l) (sym (not_mine id one older ne)) rest)

put_first : (note : Note) (notes : List Note) → AllBelow note.place notes → put_note note notes ≡ note ∷ notes
put_first note [] below = refl
put_first note (one ∷ older) below = cond-true (ltb one.place note.place) (note ∷ one ∷ older) (one ∷ put_note note older) (lt-ltb one.place note.place below.0)

merged_next : (note : Note) (notes others : List Note) → AllBelow note.place notes → merged notes (note ∷ others) ≡ note ∷ merged notes others
merged_next note [] others below = refl
merged_next note (one ∷ older) others below =
    ap (λ (l : List Note). put_note one l) (merged_next note older others below.1)
    ∙ cond-false (ltb note.place one.place) (one ∷ note ∷ merged older others) (note ∷ put_note one (merged older others))
    (le-ltb note.place one.place (let here = below.0 in omega arith))

-- ---- one voice's become another's

abbrev heir : (other id owner : ℕ) → ℕ
heir other id owner = cond (owner == other) id owner

abbrev pub handed : (other id : ℕ) (past : List Owned) → List Owned
handed other id [] = []
handed other id (one ∷ older) = record { owner = heir other id one.owner; note = one.note } ∷ handed other id older

pub handed_history : (other id : ℕ) (past : List Owned) → history_of (handed other id past) ≡ history_of past
handed_history other id [] = refl
handed_history other id (one ∷ older) = ap (λ (l : List Note). one.note ∷ l) (handed_history other id older)

heir_is : (other id owner : ℕ) → owner ≡ other → heir other id owner ≡ id
heir_is other id owner e = cond-true (owner == other) id owner (eq-eqb owner other e)

heir_stays : (other id owner : ℕ) → owner ≢ other → heir other id owner ≡ owner
heir_stays other id owner ne = cond-false (owner == other) id owner (ne_eqb owner other ne)

pub handed_owned : (voices other id : ℕ) (past : List Owned) → id < voices → AreOwned voices past → AreOwned voices (handed other id past)
handed_owned voices other id [] less owned = tt
handed_owned voices other id (one ∷ older) less owned = (
  dite (ℕ_discrete one.owner other)
      (λ e. subst (λ (n : ℕ). n < voices) (sym (heir_is other id one.owner e)) less)
      (λ ne. subst (λ (n : ℕ). n < voices) (sym (heir_stays other id one.owner ne)) owned.0),
  handed_owned voices other id older less owned.1,
)

module _ (other id : ℕ) (apart : other ≢ id) where
  abbrev given : (one : Owned) → Owned
  given one = record { owner = heir other id one.owner; note = one.note }

  pub handed_spent : (past : List Owned) → notes_of other (handed other id past) ≡ []
  handed_spent [] = refl
  handed_spent (one ∷ older) = dite (ℕ_discrete one.owner other)
      (λ e. not_mine other (given one) (handed other id older) (λ same. apart (sym same ∙ heir_is other id one.owner e)) ∙ handed_spent older)
      (λ ne. not_mine other (given one) (handed other id older) (λ same. ne (sym (heir_stays other id one.owner ne) ∙ same)) ∙ handed_spent older)

  pub handed_else : (j : ℕ) (past : List Owned) → j ≢ id → j ≢ other → notes_of j (handed other id past) ≡ notes_of j past
  handed_else j [] not_id not_other = refl
  handed_else j (one ∷ older) not_id not_other =
      let rest = handed_else j older not_id not_other in
      dite (ℕ_discrete one.owner other)
      (λ e. not_mine j (given one) (handed other id older) (λ same. not_id (sym same ∙ heir_is other id one.owner e)) ∙ rest
      ∙ sym (not_mine j one older (λ same. not_other (sym same ∙ e))))
      (λ ne. let stays = heir_stays other id one.owner ne in
      dite (ℕ_discrete one.owner j)
      (λ is. mine j (given one) (handed other id older) (stays ∙ is) ∙ ap (λ (l : List Note). one.note ∷ l) rest ∙ sym (mine j one older is))
      (λ no. not_mine j (given one) (handed other id older) (λ same. no (sym stays ∙ same)) ∙ rest ∙ sym (not_mine j one older no)))

  pub handed_here : (workers : ℕ) (past : List Owned) → IsHistory workers (history_of past)
      → merged (notes_of id past) (notes_of other past) ≡ notes_of id (handed other id past)
  handed_here workers [] law = refl
  handed_here workers (one ∷ older) law =
      let rest = handed_here workers older law.2 in
      let mine_older : List Note = notes_of id older in
      let its_older : List Note = notes_of other older in
      let n : ℕ = length (history_of older) in
      let place : one.note.place ≡ n = law.0 in
      dite (ℕ_discrete one.owner other)
      (λ e.
      let not_id : one.owner ≢ id = λ same. apart (sym e ∙ same) in
      ap (λ (l : List Note). merged l (notes_of other (one ∷ older))) (not_mine id one older not_id)
      ∙ ap (λ (l : List Note). merged mine_older l) (mine other one older e)
      ∙ merged_next one.note mine_older its_older (subst (λ (k : ℕ). AllBelow k mine_older) (sym place) (all_below workers id older law.2))
      ∙ ap (λ (l : List Note). one.note ∷ l) rest
      ∙ sym (mine id (given one) (handed other id older) (heir_is other id one.owner e)))
      (λ ne. let stays = heir_stays other id one.owner ne in
      dite (ℕ_discrete one.owner id)
      (λ is.
      let after : List Owned = handed other id older in
      let long : length (history_of after) ≡ n = ap (λ (l : List Note). length l) (handed_history other id older) in
      let law' : IsHistory workers (history_of after) = subst (λ (l : List Note). IsHistory workers l) (sym (handed_history other id older)) law.2 in
      let low : AllBelow one.note.place (notes_of id after) = subst (λ (k : ℕ). AllBelow k (notes_of id after)) (long ∙ sym place) (all_below workers id after law') in
      ap (λ (l : List Note). merged l (notes_of other (one ∷ older))) (mine id one older is)
      ∙ ap (λ (l : List Note). put_note one.note (merged mine_older l)) (not_mine other one older ne)
      ∙ ap (λ (l : List Note). put_note one.note l) rest
      ∙ put_first one.note (notes_of id after) low
      ∙ sym (mine id (given one) after (stays ∙ is)))
      (λ no.
      ap (λ (l : List Note). merged l (notes_of other (one ∷ older))) (not_mine id one older no)
      ∙ ap (λ (l : List Note). merged mine_older l) (not_mine other one older ne)
      ∙ rest
      ∙ sym (not_mine id (given one) (handed other id older) (λ same. no (sym stays ∙ same)))))

-- ---- lists of views

module _ {A : Type 0} where
  pub at_end : (l : List A) (a b : A) (j : ℕ) → get_elem? (l ++ a ∷ []) j ≡ some b → (get_elem? l j ≡ some b) ⊎ ((j ≡ length l) × (a ≡ b))
  at_end [] a b zero e = inr (refl, some-injective a b e)
  at_end [] a b (suc j) e = absurd (some-ne-none b (sym e))
  at_end (x ∷ xs) a b zero e = inl e
  at_end (x ∷ xs) a b (suc j) e = ⊎_elim (λ here. inl here) (λ last. inr (ap suc last.0, last.1)) (at_end xs a b j e)

  pub some_at : (l : List A) (j : ℕ) → j < length l → (a : A) × (get_elem? l j ≡ some a)
  some_at [] j less = absurd (omega arith)
  some_at (x ∷ xs) zero less = (x, refl)
  some_at (x ∷ xs) (suc j) less = some_at xs j (omega arith)

  pub is_there : (l : List A) (j : ℕ) (a : A) → get_elem? l j ≡ some a → j < length l
  is_there [] j a at = absurd (some-ne-none a (sym at))
  is_there (x ∷ xs) zero a at = omega arith
  is_there (x ∷ xs) (suc j) a at = let rest = is_there xs j a at in omega arith
