-- The lines of a kind with numbers.
use Rattle.std.proofs.Common.{◌≡◌, ℕ, List, [], ◌∷◌, ◌++◌, Option, Some, None, refl, sym, ◌∙◌, ap, subst, arith, IfSome, IfNone, append_assoc}
use Rattle.wbt_text.specs.Cut.{Without, HasNoDigit, BeginsWithDigit}
use Rattle.wbt_text.specs.Numbers.{AreNumbers}
use Rattle.wbt_text.specs.Reading.{IsClear}
use Rattle.wbt_text.proofs.Cuts.{front_once, space_off, without_append}
use Rattle.wbt_text.proofs.Spaces.{numbers_once, numbers_begin, are_no_feed}
use Rattle.wbt_trace_text.specs.Lines.{kind_text, kind_of, numbers_of, line_from, of_one, of_two, of_three, of_four, IsLine}
use Rattle.wbt_trace_text.specs.Reading.{traces}
use Rattle.wbt_trace_text.specs.declared.kind.Kind.{Kind}
use Rattle.wbt_trace_text.specs.declared.kind.Kind.TheVariants as kind
use Rattle.wbt_trace_text.specs.declared.line.Line.{Line}
use Rattle.wbt_trace_text.specs.declared.line.Line.TheVariants as line
use Rattle.wbt_trace_text.proofs.KindLaws.{kind_no_digit, kind_no_feed, kind_once}

some_once : {A : Type 0} (a b : A) → Some a ≡ Some b → a ≡ b
some_once a b is = cc

line_again : (l : Line) → line_from (kind_of l) (numbers_of l) ≡ Some l
line_again (line.Cpus a) = refl
line_again (line.Cap a) = refl
line_again (line.DirtyRatio a) = refl
line_again (line.BackgroundRatio a) = refl
line_again (line.DirtyBytes a) = refl
line_again (line.BackgroundBytes a) = refl
line_again (line.Avail a b) = refl
line_again (line.Device a b c d) = refl
line_again (line.Strict a) = refl
line_again (line.Chunk a b) = refl
line_again (line.Cyclic a) = refl
line_again (line.Cgroup a b c) = refl
line_again (line.Context a b c) = refl
line_again (line.Expire a b) = refl
line_again (line.Estimate a b c d) = refl
line_again (line.Inode a b c) = refl
line_again (line.Task a b) = refl
line_again (line.Pace a b c) = refl
line_again (line.Flusher a b c) = refl
line_again (line.Write a b c d) = refl
line_again (line.Rest a b) = refl
line_again (line.Order a b) = refl
line_again (line.OrderTimer a) = refl
line_again (line.Tick a) = refl
line_again (line.Halt a) = refl

-- what a line of a kind with numbers is
abbrev Made : Kind → List ℕ → Option Line → Type 0
Made k ns None = Unit {0}
Made k ns (Some l) = (kind_of l ≡ k) × (numbers_of l ≡ ns)

made_of_one : (k : Kind) (a : ℕ) → Made k (a ∷ []) (of_one k a)
made_of_one kind.Cpus a = (refl, refl)
made_of_one kind.Cap a = (refl, refl)
made_of_one kind.DirtyRatio a = (refl, refl)
made_of_one kind.BackgroundRatio a = (refl, refl)
made_of_one kind.DirtyBytes a = (refl, refl)
made_of_one kind.BackgroundBytes a = (refl, refl)
made_of_one kind.Avail a = tt
made_of_one kind.Device a = tt
made_of_one kind.Strict a = (refl, refl)
made_of_one kind.Chunk a = tt
made_of_one kind.Cyclic a = (refl, refl)
made_of_one kind.Cgroup a = tt
made_of_one kind.Context a = tt
made_of_one kind.Expire a = tt
made_of_one kind.Estimate a = tt
made_of_one kind.Inode a = tt
made_of_one kind.Task a = tt
made_of_one kind.Pace a = tt
made_of_one kind.Flusher a = tt
made_of_one kind.Write a = tt
made_of_one kind.Rest a = tt
made_of_one kind.Order a = tt
made_of_one kind.OrderTimer a = (refl, refl)
made_of_one kind.Tick a = (refl, refl)
made_of_one kind.Halt a = (refl, refl)

made_of_two : (k : Kind) (a b : ℕ) → Made k (a ∷ b ∷ []) (of_two k a b)
made_of_two kind.Cpus a b = tt
made_of_two kind.Cap a b = tt
made_of_two kind.DirtyRatio a b = tt
made_of_two kind.BackgroundRatio a b = tt
made_of_two kind.DirtyBytes a b = tt
made_of_two kind.BackgroundBytes a b = tt
made_of_two kind.Avail a b = (refl, refl)
made_of_two kind.Device a b = tt
made_of_two kind.Strict a b = tt
made_of_two kind.Chunk a b = (refl, refl)
made_of_two kind.Cyclic a b = tt
made_of_two kind.Cgroup a b = tt
made_of_two kind.Context a b = tt
made_of_two kind.Expire a b = (refl, refl)
made_of_two kind.Estimate a b = tt
made_of_two kind.Inode a b = tt
made_of_two kind.Task a b = (refl, refl)
made_of_two kind.Pace a b = tt
made_of_two kind.Flusher a b = tt
made_of_two kind.Write a b = tt
made_of_two kind.Rest a b = (refl, refl)
made_of_two kind.Order a b = (refl, refl)
made_of_two kind.OrderTimer a b = tt
made_of_two kind.Tick a b = tt
made_of_two kind.Halt a b = tt

made_of_three : (k : Kind) (a b c : ℕ) → Made k (a ∷ b ∷ c ∷ []) (of_three k a b c)
made_of_three kind.Cpus a b c = tt
made_of_three kind.Cap a b c = tt
made_of_three kind.DirtyRatio a b c = tt
made_of_three kind.BackgroundRatio a b c = tt
made_of_three kind.DirtyBytes a b c = tt
made_of_three kind.BackgroundBytes a b c = tt
made_of_three kind.Avail a b c = tt
made_of_three kind.Device a b c = tt
made_of_three kind.Strict a b c = tt
made_of_three kind.Chunk a b c = tt
made_of_three kind.Cyclic a b c = tt
made_of_three kind.Cgroup a b c = (refl, refl)
made_of_three kind.Context a b c = (refl, refl)
made_of_three kind.Expire a b c = tt
made_of_three kind.Estimate a b c = tt
made_of_three kind.Inode a b c = (refl, refl)
made_of_three kind.Task a b c = tt
made_of_three kind.Pace a b c = (refl, refl)
made_of_three kind.Flusher a b c = (refl, refl)
made_of_three kind.Write a b c = tt
made_of_three kind.Rest a b c = tt
made_of_three kind.Order a b c = tt
made_of_three kind.OrderTimer a b c = tt
made_of_three kind.Tick a b c = tt
made_of_three kind.Halt a b c = tt

made_of_four : (k : Kind) (a b c d : ℕ) → Made k (a ∷ b ∷ c ∷ d ∷ []) (of_four k a b c d)
made_of_four kind.Cpus a b c d = tt
made_of_four kind.Cap a b c d = tt
made_of_four kind.DirtyRatio a b c d = tt
made_of_four kind.BackgroundRatio a b c d = tt
made_of_four kind.DirtyBytes a b c d = tt
made_of_four kind.BackgroundBytes a b c d = tt
made_of_four kind.Avail a b c d = tt
made_of_four kind.Device a b c d = (refl, refl)
made_of_four kind.Strict a b c d = tt
made_of_four kind.Chunk a b c d = tt
made_of_four kind.Cyclic a b c d = tt
made_of_four kind.Cgroup a b c d = tt
made_of_four kind.Context a b c d = tt
made_of_four kind.Expire a b c d = tt
made_of_four kind.Estimate a b c d = (refl, refl)
made_of_four kind.Inode a b c d = tt
made_of_four kind.Task a b c d = tt
made_of_four kind.Pace a b c d = tt
made_of_four kind.Flusher a b c d = tt
made_of_four kind.Write a b c d = (refl, refl)
made_of_four kind.Rest a b c d = tt
made_of_four kind.Order a b c d = tt
made_of_four kind.OrderTimer a b c d = tt
made_of_four kind.Tick a b c d = tt
made_of_four kind.Halt a b c d = tt

line_made : (k : Kind) (ns : List ℕ) → Made k ns (line_from k ns)
line_made k [] = tt
line_made k (a ∷ []) = made_of_one k a
line_made k (a ∷ b ∷ []) = made_of_two k a b
line_made k (a ∷ b ∷ c ∷ []) = made_of_three k a b c
line_made k (a ∷ b ∷ c ∷ d ∷ []) = made_of_four k a b c d
line_made k (a ∷ b ∷ c ∷ d ∷ e ∷ ns) = tt

pub line_no_feed : (text : List ℕ) (l : Line) → IsLine text l → Without 10 text
line_no_feed text l is =
    subst (Without 10) (sym is.1) (without_append 10 (kind_text (kind_of l)) (32 ∷ is.0) (kind_no_feed (kind_of l)) ((λ same. absurd (omega (arith, same))), are_no_feed is.0 (numbers_of l) is.2))

-- a text in two parts, the second of which begins with the first digit, is that of a line of its front's kind
pub line_parts : (text front rest : List ℕ) (l : Line) → text ≡ front ++ rest → HasNoDigit front → BeginsWithDigit rest → IsLine text l → (front ≡ kind_text (kind_of l) ++ 32 ∷ []) × AreNumbers rest (numbers_of l)
line_parts text front rest l whole no_digit begins is =
    let d = numbers_begin is.0 (numbers_of l) is.2 in
    let same : front ++ rest ≡ (kind_text (kind_of l) ++ 32 ∷ []) ++ (d.0 ∷ d.1) =
    sym whole ∙ is.1 ∙ ap (λ (r : List ℕ). kind_text (kind_of l) ++ 32 ∷ r) d.2 ∙ sym (append_assoc (kind_text (kind_of l)) (32 ∷ []) (d.0 ∷ d.1)) in
    let once = front_once front (kind_text (kind_of l) ++ 32 ∷ []) rest d.0 d.1 no_digit (kind_no_digit (kind_of l)) begins d.3 same in
    (once.0, subst (λ (r : List ℕ). AreNumbers r (numbers_of l)) (d.2 ∙ sym once.1) is.2)

pub line_once : (text : List ℕ) (a b : Line) → IsLine text a → IsLine text b → a ≡ b
line_once text a b x y =
    let d = numbers_begin x.0 (numbers_of a) x.2 in
    let begins : BeginsWithDigit x.0 = subst BeginsWithDigit (sym d.2) d.3 in
    let whole : text ≡ (kind_text (kind_of a) ++ 32 ∷ []) ++ x.0 = x.1 ∙ sym (append_assoc (kind_text (kind_of a)) (32 ∷ []) x.0) in
    let parts = line_parts text (kind_text (kind_of a) ++ 32 ∷ []) x.0 b whole (kind_no_digit (kind_of a)) begins y in
    let kinds = kind_once (kind_of a) (kind_of b) (space_off (kind_text (kind_of a)) (kind_text (kind_of b)) parts.0) in
    let ns = numbers_once x.0 (numbers_of a) (numbers_of b) x.2 parts.1 in
    some_once a b (sym (line_again a) ∙ (λ i. line_from (kinds i) (ns i)) ∙ line_again b)

pub line_found : (r : Option Line) (k : Kind) (ns text front rest : List ℕ) → r ≡ line_from k ns → text ≡ front ++ rest → front ≡ kind_text k ++ 32 ∷ [] → AreNumbers rest ns → IfSome r (λ l. IsLine text l)
line_found r k ns text front rest is whole of_kind are = by_made r (subst (Made k ns) (sym is) (line_made k ns))
  where
    by_made : (r : Option Line) → Made k ns r → IfSome r (λ l. IsLine text l)
    by_made None made = tt
    by_made (Some l) made = (
      rest,
      whole ∙ ap (λ (f : List ℕ). f ++ rest) (of_kind ∙ ap (λ (j : Kind). kind_text j ++ 32 ∷ []) (sym made.0)) ∙ append_assoc (kind_text (kind_of l)) (32 ∷ []) rest,
      subst (AreNumbers rest) (sym made.1) are,
    )

pub line_none : (r : Option Line) (k : Kind) (ns text front rest : List ℕ) → r ≡ line_from k ns → text ≡ front ++ rest → HasNoDigit front → BeginsWithDigit rest → front ≡ kind_text k ++ 32 ∷ [] → AreNumbers rest ns → IfNone r ((l : Line) → IsLine text l → ⊥)
line_none (Some l) k ns text front rest is whole no_digit begins of_kind are = tt
line_none None k ns text front rest is whole no_digit begins of_kind are = λ l line.
    let parts = line_parts text front rest l whole no_digit begins line in
    let kinds = kind_once k (kind_of l) (space_off (kind_text k) (kind_text (kind_of l)) (sym of_kind ∙ parts.0)) in
    let same = numbers_once rest ns (numbers_of l) are parts.1 in
    let made : None ≡ Some l = is ∙ (λ i. line_from (kinds i) (same i)) ∙ line_again l in
    cc

pub clear : IsClear traces
clear = record { once = λ s text k l a b. line_once text k l a b; no_feed = λ s text l is. line_no_feed text l is }
