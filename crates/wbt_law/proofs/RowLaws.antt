-- A line at its place is read in one way, and holds no line feed.
use Rattle.std.proofs.Common.{◌≡◌, ◌⊎◌, inl, inr, refl, ℕ, List, ◌∷◌, ◌++◌, sym, ◌∙◌, ap, subst, arith, length}
use Rattle.wbt_text.specs.Cut.{Without}
use Rattle.wbt_text.specs.Numbers.{AreNumbers}
use Rattle.wbt_text.specs.Reading.{IsClear}
use Rattle.wbt_text.proofs.Cuts.{cut_once, no_cut, without_append, from_lacks}
use Rattle.wbt_text.proofs.Deciding.{same_text, IsCut, cut_or_not, SomeNumbers, numbers_or_not, SomeLine}
use Rattle.wbt_text.proofs.Spaces.{numbers_once, are_no_feed}
use Rattle.wbt_law.specs.Reading.{laws}
use Rattle.wbt_law.specs.Rows.{word_at, IsRow}
use Rattle.wbt_law.specs.declared.input.Draft.{Draft}
use Rattle.wbt_law.specs.declared.place.Place.{Place}
use Rattle.wbt_law.specs.declared.place.Place.TheVariants.{Cpus, Cap, Now, Task, Estimate, Context, Global, Cgroup, Over}

-- no word holds a space
word_no_space : (place : Place) → Without 32 (word_at place)
word_no_space Cpus = from_lacks 32 (word_at Cpus) refl
word_no_space Cap = from_lacks 32 (word_at Cap) refl
word_no_space Now = from_lacks 32 (word_at Now) refl
word_no_space Task = from_lacks 32 (word_at Task) refl
word_no_space Estimate = from_lacks 32 (word_at Estimate) refl
word_no_space Context = from_lacks 32 (word_at Context) refl
word_no_space Global = from_lacks 32 (word_at Global) refl
word_no_space Cgroup = from_lacks 32 (word_at Cgroup) refl
word_no_space Over = from_lacks 32 (word_at Over) refl

-- no word holds a line feed
word_no_feed : (place : Place) → Without 10 (word_at place)
word_no_feed Cpus = from_lacks 10 (word_at Cpus) refl
word_no_feed Cap = from_lacks 10 (word_at Cap) refl
word_no_feed Now = from_lacks 10 (word_at Now) refl
word_no_feed Task = from_lacks 10 (word_at Task) refl
word_no_feed Estimate = from_lacks 10 (word_at Estimate) refl
word_no_feed Context = from_lacks 10 (word_at Context) refl
word_no_feed Global = from_lacks 10 (word_at Global) refl
word_no_feed Cgroup = from_lacks 10 (word_at Cgroup) refl
word_no_feed Over = from_lacks 10 (word_at Over) refl

pub row_no_feed : (place : Place) (text ns : List ℕ) → IsRow place text ns → Without 10 text
row_no_feed place text ns is =
    subst (Without 10) (sym is.1) (without_append 10 (word_at place) (32 ∷ is.0) (word_no_feed place) ((λ same. absurd (omega (arith, same))), are_no_feed is.0 ns is.2))

-- what is cut at the first space is the word and its numbers
pub row_parts : (place : Place) (text front rest ns : List ℕ) → text ≡ front ++ 32 ∷ rest → Without 32 front → IsRow place text ns → (front ≡ word_at place) × AreNumbers rest ns
row_parts place text front rest ns split no_space is =
    let once = cut_once 32 front (word_at place) rest is.0 no_space (word_no_space place) (sym split ∙ is.1) in
    (once.0, subst (λ (r : List ℕ). AreNumbers r ns) (sym once.1) is.2)

pub row_once : (place : Place) (text ms ns : List ℕ) → IsRow place text ms → IsRow place text ns → ms ≡ ns
row_once place text ms ns a b =
    let parts = row_parts place text (word_at place) a.0 ns a.1 (word_no_space place) b in
    numbers_once a.0 ms ns a.2 parts.1

pub clear : IsClear laws
clear = record { once = λ s text k l a b. row_once s.place text k l a b; no_feed = λ s text ns is. row_no_feed s.place text ns is }

-- whether a text is that of a line at its place can be told
pub row_or_not : (s : Draft) (text : List ℕ) → SomeLine laws s text ⊎ ((ns : List ℕ) → IsRow s.place text ns → ⊥)
row_or_not s text = by_cut (cut_or_not 32 text)
  where
    by_parts : (cut : IsCut 32 text) → (cut.front ≡ word_at s.place) ⊎ (cut.front ≡ word_at s.place → ⊥) → SomeNumbers cut.rest ⊎ ((ns : List ℕ) → AreNumbers cut.rest ns → ⊥) → SomeLine laws s text ⊎ ((ns : List ℕ) → IsRow s.place text ns → ⊥)
    by_parts cut (inr other) some = inr (λ ns is. other (row_parts s.place text cut.front cut.rest ns cut.is cut.without is).0)
    by_parts cut (inl same) (inr none) = inr (λ ns is. none ns (row_parts s.place text cut.front cut.rest ns cut.is cut.without is).1)
    by_parts cut (inl same) (inl some) = inl (record { l = some.ns; is = (cut.rest, cut.is ∙ ap (λ (f : List ℕ). f ++ 32 ∷ cut.rest) same, some.are) })

    by_cut : IsCut 32 text ⊎ Without 32 text → SomeLine laws s text ⊎ ((ns : List ℕ) → IsRow s.place text ns → ⊥)
    by_cut (inl cut) = by_parts cut (same_text cut.front (word_at s.place)) (numbers_or_not (length cut.rest) cut.rest (omega arith))
    by_cut (inr none) = inr (λ ns is. no_cut 32 text (word_at s.place) is.0 none is.1)
