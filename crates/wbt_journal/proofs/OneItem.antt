-- The items of one part of a journal are fixed by their lines.
use Rattle.std.proofs.Common.{◌≡◌, ℕ, List, [], ◌∷◌, ◌++◌, flat_map, refl, sym, ◌∙◌, ap, append_assoc}
use Rattle.wbt_journal.specs.declared.word.Word.{Word}
use Rattle.wbt_journal.specs.declared.word.Word.TheVariants as word
use Rattle.wbt_journal.specs.Line.{Line}
use Rattle.wbt_journal.specs.Each.{Each}

-- the part of a journal's text in which a line with this first word stands
abbrev pub place : Word → ℕ
place word.Timer = 0
place word.Limits = 1
place word.Period = 1
place word.Cpu = 2
place word.Write = 3
place word.Fold = 3
place word.Read = 3
place word.Count = 3
place word.Check = 3
place word.Claim = 3
place word.Batch = 3
place word.Done = 3
place word.Share = 3
place word.Est = 3
place word.Fault = 3
place word.Back = 3
place word.Notice = 3
place word.Age = 3
place word.Take = 3
place word.Left = 4
place word.Strict = 6
place other = 5

abbrev pub first_place : List Line → ℕ
first_place [] = 5
first_place (l ∷ ls) = place l.word

-- how items stand in lines: an item's lines begin in their part, and fix the item and what follows
pub record Stands {A : Type 0} (here : ℕ) (lines : A → List Line) (P : A → Type 0) : Type 0 where
  pub begins : (a : A) (r : List Line) → first_place (lines a ++ r) ≡ here
  pub once : (a b : A) (r s : List Line) → P a → P b → lines a ++ r ≡ lines b ++ s → (a ≡ b) × (r ≡ s)

more : {A : Type 0} (lines : A → List Line) (x : A) (xs : List A) (r : List Line) → flat_map lines (x ∷ xs) ++ r ≡ lines x ++ (flat_map lines xs ++ r)
more lines x xs r = append_assoc (lines x) (flat_map lines xs) r

pub items_once : {A : Type 0} (here : ℕ) (lines : A → List Line) (P : A → Type 0) (stands : Stands here lines P) (xs ys : List A) (r s : List Line) → Each P xs → Each P ys
    → (first_place r ≡ here → ⊥) → (first_place s ≡ here → ⊥) → flat_map lines xs ++ r ≡ flat_map lines ys ++ s → (xs ≡ ys) × (r ≡ s)
items_once here lines P stands [] [] r s p q other another is = (refl, is)
items_once here lines P stands [] (y ∷ ys) r s p q other another is =
    absurd (other (ap first_place (is ∙ more lines y ys s) ∙ stands.begins y (flat_map lines ys ++ s)))
items_once here lines P stands (x ∷ xs) [] r s p q other another is =
    absurd (another (ap first_place (sym is ∙ more lines x xs r) ∙ stands.begins x (flat_map lines xs ++ r)))
items_once here lines P stands (x ∷ xs) (y ∷ ys) r s p q other another is =
    let first = stands.once x y (flat_map lines xs ++ r) (flat_map lines ys ++ s) p.0 q.0 (sym (more lines x xs r) ∙ is ∙ more lines y ys s) in
    let rest = items_once here lines P stands xs ys r s p.1 q.1 other another first.1 in
    ((λ i. first.0 i ∷ rest.0 i), rest.1)
