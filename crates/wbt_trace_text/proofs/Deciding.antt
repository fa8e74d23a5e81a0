-- Whether a text is that of a line can be told.
use Rattle.std.proofs.Common.{◌≡◌, ◌⊎◌, inl, inr, ℕ, zero, suc, ◌<◌, List, [], ◌∷◌, ◌++◌, length, get_or, Option, Some, None, IfSome, IfNone, refl, sym, ◌∙◌, ap, arith}
use Rattle.wbt_text.specs.Numbers.{AreNumbers}
use Rattle.wbt_text.proofs.Deciding.{same_text, IsFront, front_at, SomeNumbers, numbers_or_not, SomeLine}
use Rattle.wbt_trace_text.specs.Lines.{kind_text, line_from, IsLine}
use Rattle.wbt_trace_text.specs.Reading.{traces}
use Rattle.wbt_trace.specs.Sofar.{Sofar}
use Rattle.wbt_trace_text.specs.declared.kind.Kind.{Kind}
use Rattle.wbt_trace_text.specs.declared.kind.Kind.TheVariants as kind
use Rattle.wbt_trace_text.specs.declared.kind.TheConstants.{KINDS}
use Rattle.wbt_trace_text.specs.declared.line.Line.{Line}
use Rattle.wbt_trace_text.proofs.KindLaws.{place_of, place_in, at_place}
use Rattle.wbt_trace_text.proofs.LineLaws.{line_parts, line_found, line_none}

-- ---- a kind

record SomeKind (word : List ℕ) : Type 0 where
  pub k : Kind
  pub is : word ≡ kind_text k ++ 32 ∷ []

kind_in : (word : List ℕ) (ks : List Kind) → SomeKind word ⊎ ((j : ℕ) → j < length ks → word ≡ kind_text (get_or ks j kind.Cpus) ++ 32 ∷ [] → ⊥)
kind_in word [] = inr (λ j less. absurd (omega arith))
kind_in word (k ∷ ks) = by_head (same_text word (kind_text k ++ 32 ∷ [])) (kind_in word ks)
  where
    by_head : (word ≡ kind_text k ++ 32 ∷ []) ⊎ (word ≡ kind_text k ++ 32 ∷ [] → ⊥) → SomeKind word ⊎ ((j : ℕ) → j < length ks → word ≡ kind_text (get_or ks j kind.Cpus) ++ 32 ∷ [] → ⊥)
        → SomeKind word ⊎ ((j : ℕ) → j < length (k ∷ ks) → word ≡ kind_text (get_or (k ∷ ks) j kind.Cpus) ++ 32 ∷ [] → ⊥)
    by_head (inl same) more = inl (record { k = k; is = same })
    by_head (inr other) (inl some) = inl some
    by_head (inr other) (inr none) = inr by_place
      where
        by_place : (j : ℕ) → j < length (k ∷ ks) → word ≡ kind_text (get_or (k ∷ ks) j kind.Cpus) ++ 32 ∷ [] → ⊥
        by_place zero less is = other is
        by_place (suc j) less is = none j (omega arith) is

kind_or_not : (word : List ℕ) → SomeKind word ⊎ ((k : Kind) → word ≡ kind_text k ++ 32 ∷ [] → ⊥)
kind_or_not word = by_table (kind_in word KINDS)
  where
    by_table : SomeKind word ⊎ ((j : ℕ) → j < length KINDS → word ≡ kind_text (get_or KINDS j kind.Cpus) ++ 32 ∷ [] → ⊥) → SomeKind word ⊎ ((k : Kind) → word ≡ kind_text k ++ 32 ∷ [] → ⊥)
    by_table (inl some) = inl some
    by_table (inr none) = inr (λ k is. none (place_of k) (place_in k) (is ∙ ap (λ (j : Kind). kind_text j ++ 32 ∷ []) (sym (at_place k))))

-- ---- a line

pub line_or_not : (s : Sofar) (text : List ℕ) → SomeLine traces s text ⊎ ((l : Line) → IsLine text l → ⊥)
line_or_not s text = let f = front_at text in by_kind f (kind_or_not f.front) (numbers_or_not (length f.rest) f.rest (omega arith))
  where
    by_line : (f : IsFront text) (k : Kind) (ns : List ℕ) (r : Option Line) → IfSome r (λ l. IsLine text l) → IfNone r ((l : Line) → IsLine text l → ⊥) → SomeLine traces s text ⊎ ((l : Line) → IsLine text l → ⊥)
    by_line f k ns (Some l) is none = inl (record { l = l; is = is })
    by_line f k ns None is none = inr none

    by_kind : (f : IsFront text) → SomeKind f.front ⊎ ((k : Kind) → f.front ≡ kind_text k ++ 32 ∷ [] → ⊥) → SomeNumbers f.rest ⊎ ((ns : List ℕ) → AreNumbers f.rest ns → ⊥) → SomeLine traces s text ⊎ ((l : Line) → IsLine text l → ⊥)
    by_kind f (inr none) numbers = inr (λ l is. none _ (line_parts text f.front f.rest l f.is f.none f.begins is).0)
    by_kind f (inl some) (inr none) = inr (λ l is. none _ (line_parts text f.front f.rest l f.is f.none f.begins is).1)
    by_kind f (inl some) (inl numbers) =
        by_line f some.k numbers.ns (line_from some.k numbers.ns) (line_found (line_from some.k numbers.ns) some.k numbers.ns text f.front f.rest refl f.is some.is numbers.are) (line_none (line_from some.k numbers.ns) some.k numbers.ns text f.front f.rest refl f.is f.none f.begins some.is numbers.are)
