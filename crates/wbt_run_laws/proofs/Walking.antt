-- Walks over one turn after another.
use Rattle.std.proofs.Common.{◌≡◌, ℕ, List, [], ◌∷◌, ◌++◌, sym, refl, ap, ◌∙◌, subst}
use Rattle.std.proofs.lemmas.List.{map-append}
use Rattle.wbt_run_laws.proofs.Common.{Each, Item, tells, Told, Along, after, along_more, items_told, Walks}
use Rattle.wbt_run_laws.specs.Walks.{Walked}

module _ {S A : Type 0} (next : S → A → S) where
  pub after_append : (s : S) (xs ys : List A) → after next s (xs ++ ys) ≡ after next (after next s xs) ys
  after_append s [] ys = refl
  after_append s (x ∷ xs) ys = after_append (next s x) xs ys

module _ {S A : Type 0} (Ok : S → A → Type 0) (next : S → A → S) where
  pub walked_none : (s : S) → Walked Ok next s [] s
  walked_none s = record { allowed = tt; reached = refl }

  pub walked_more : (old mid new : S) (xs ys : List A) → Walked Ok next old xs mid → Walked Ok next mid ys new → Walked Ok next old (xs ++ ys) new
  walked_more old mid new xs ys p q = record {
    allowed = along_more Ok next old xs ys p.allowed (subst (λ (s : S). Along Ok next s ys) (sym p.reached) q.allowed);
    reached = after_append next old xs ys ∙ ap (λ (s : S). after next s ys) p.reached ∙ q.reached;
  }

  -- items that a walk doesn't see
  abbrev pub IsSilent : A → Type 0
  IsSilent a = (s : S) → Ok s a × (next s a ≡ s)

  pub walked_silent : (s : S) (xs : List A) → Each IsSilent xs → Walked Ok next s xs s
  walked_silent s [] silent = record { allowed = tt; reached = refl }
  walked_silent s (x ∷ xs) silent =
      let rest = walked_silent s xs silent.1 in
      let first = silent.0 s in
      record {
        allowed = (first.0, subst (λ (t : S). Along Ok next t xs) (sym first.1) rest.allowed);
        reached = ap (λ (t : S). after next t xs) first.1 ∙ rest.reached;
      }

module _ {O S A : Type 0} (stands : O → S → Type 0) (Ok : S → A → Type 0) (next : S → A → S) where
  pub walks_none : (o : O) → Walks stands Ok next o [] o
  walks_none o = record { allowed = λ s st. tt; reached = λ s st. st }

  pub walks_more : (old mid new : O) (xs ys : List A) → Walks stands Ok next old xs mid → Walks stands Ok next mid ys new → Walks stands Ok next old (xs ++ ys) new
  walks_more old mid new xs ys p q = record {
    allowed = λ s st. along_more Ok next s xs ys (p.allowed s st) (q.allowed (after next s xs) (p.reached s st));
    reached = λ s st. subst (λ (t : S). stands new t) (sym (after_append next s xs ys)) (q.reached (after next s xs) (p.reached s st));
  }

  pub walks_silent : (old new : O) (xs : List A) → Each (IsSilent Ok next) xs → ((s : S) → stands old s → stands new s) → Walks stands Ok next old xs new
  walks_silent old new xs silent same = record {
    allowed = λ s st. (walked_silent Ok next s xs silent).allowed;
    reached = λ s st. subst (λ (t : S). stands new t) (sym (walked_silent Ok next s xs silent).reached) (same s st);
  }

-- of entries as items
module _ {O S : Type 0} (stands : O → S → Type 0) (Ok : S → Item → Type 0) (next : S → Item → S) (cpu : ℕ) where
  pub told_more : (old mid new : O) (a b : List Told) → Walks stands Ok next old (items_told cpu a) mid → Walks stands Ok next mid (items_told cpu b) new
      → Walks stands Ok next old (items_told cpu (a ++ b)) new
  told_more old mid new a b p q = subst (λ (items : List Item). Walks stands Ok next old items new) (sym (map-append (tells cpu) a b))
      (walks_more stands Ok next old mid new (items_told cpu a) (items_told cpu b) p q)

-- what each item of a walk needs, weakened
pub along_weaker : {S A : Type 0} (P Q : S → A → Type 0) (next : S → A → S) → ((s : S) (a : A) → P s a → Q s a) → (s : S) (xs : List A) → Along P next s xs → Along Q next s xs
along_weaker P Q next h s [] along = tt
along_weaker P Q next h s (x ∷ xs) along = (h s x along.0, along_weaker P Q next h (next s x) xs along.1)

-- and what it gives of each item by itself
pub along_each : {S A : Type 0} (P : S → A → Type 0) (Q : A → Type 0) (next : S → A → S) → ((s : S) (a : A) → P s a → Q a) → (s : S) (xs : List A) → Along P next s xs → Each Q xs
along_each P Q next h s [] along = tt
along_each P Q next h s (x ∷ xs) along = (h s x along.0, along_each P Q next h (next s x) xs along.1)

-- what holds of items anywhere
pub along_any : {S A : Type 0} (P : S → A → Type 0) (next : S → A → S) (s : S) (xs : List A) → Each (λ x. (t : S) → P t x) xs → Along P next s xs
along_any P next s [] any = tt
along_any P next s (x ∷ xs) any = (any.0 s, along_any P next (next s x) xs any.1)
