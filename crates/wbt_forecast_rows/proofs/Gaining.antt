-- Lists that grow at their ends, and what is counted of what they gained.
use Rattle.std.proofs.Common.{◌≡◌, ℕ, List, [], ◌∷◌, ◌++◌, length, drop, refl, sym, ap, ◌∙◌, append_assoc, append-nil}
use Rattle.std.proofs.Math.Seq.{drop-append_seam}
use Rattle.wbt_forecast_rows.specs.Between.{gained, all_gained, HasGrown, HaveGrown}

-- ---- one list

pub gained_more : {A : Type 0} (a b c : List A) → HasGrown a b → HasGrown b c → gained a c ≡ gained a b ++ gained b c
gained_more a b c first second =
    let whole : c ≡ a ++ (gained a b ++ gained b c) =
    sym second ∙ ap (λ front. front ++ gained b c) (sym first) ∙ append_assoc a (gained a b) (gained b c) in
    ap (drop (length a)) whole ∙ drop-append_seam a (gained a b ++ gained b c)

pub grown_more : {A : Type 0} (a b c : List A) → HasGrown a b → HasGrown b c → HasGrown a c
grown_more a b c first second =
    ap (λ back. a ++ back) (gained_more a b c first second)
    ∙ sym (append_assoc a (gained a b) (gained b c)) ∙ ap (λ front. front ++ gained b c) first ∙ second

pub gained_none : {A : Type 0} (a : List A) → gained a a ≡ []
gained_none a = ap (drop (length a)) (sym (append-nil a)) ∙ drop-append_seam a []

pub grown_none : {A : Type 0} (a : List A) → HasGrown a a
grown_none a = ap (λ back. a ++ back) (gained_none a) ∙ append-nil a

-- ---- several lists

pub all_gained_none : {A : Type 0} (befores : List (List A)) → all_gained befores befores ≡ []
all_gained_none [] = refl
all_gained_none (a ∷ befores) = ap (λ front. front ++ all_gained befores befores) (gained_none a) ∙ all_gained_none befores

pub have_grown_none : {A : Type 0} (befores : List (List A)) → HaveGrown befores befores
have_grown_none [] = tt
have_grown_none (a ∷ befores) = (grown_none a, have_grown_none befores)

pub have_grown_more : {A : Type 0} (befores mids afters : List (List A)) → HaveGrown befores mids → HaveGrown mids afters → HaveGrown befores afters
have_grown_more [] [] [] first second = tt
have_grown_more [] [] (c ∷ afters) first second = second
have_grown_more [] (b ∷ mids) afters first second = absurd first
have_grown_more (a ∷ befores) [] afters first second = absurd first
have_grown_more (a ∷ befores) (b ∷ mids) [] first second = absurd second
have_grown_more (a ∷ befores) (b ∷ mids) (c ∷ afters) first second = (grown_more a b c first.0 second.0, have_grown_more befores mids afters first.1 second.1)

-- what is counted of lists, by a sum or a greatest number
pub record IsCounted {A : Type 0} (m : List A → ℕ) (op : ℕ → ℕ → ℕ) : Type 0 where
  pub joined : (xs ys : List A) → m (xs ++ ys) ≡ op (m xs) (m ys)
  pub swapped : (a b c d : ℕ) → op (op a b) (op c d) ≡ op (op a c) (op b d)

pub all_counted : {A : Type 0} (m : List A → ℕ) (op : ℕ → ℕ → ℕ) → IsCounted m op → (befores mids afters : List (List A)) → HaveGrown befores mids → HaveGrown mids afters
    → m (all_gained befores afters) ≡ op (m (all_gained befores mids)) (m (all_gained mids afters))
all_counted m op is [] [] [] first second = is.joined [] []
all_counted m op is [] [] (c ∷ afters) first second = absurd second
all_counted m op is [] (b ∷ mids) afters first second = absurd first
all_counted m op is (a ∷ befores) [] afters first second = absurd first
all_counted m op is (a ∷ befores) (b ∷ mids) [] first second = absurd second
all_counted m op is (a ∷ befores) (b ∷ mids) (c ∷ afters) first second =
    is.joined (gained a c) (all_gained befores afters)
    ∙ ap (λ (n : ℕ). op n (m (all_gained befores afters))) (ap m (gained_more a b c first.0 second.0) ∙ is.joined (gained a b) (gained b c))
    ∙ ap (op (op (m (gained a b)) (m (gained b c)))) (all_counted m op is befores mids afters first.1 second.1)
    ∙ is.swapped (m (gained a b)) (m (gained b c)) (m (all_gained befores mids)) (m (all_gained mids afters))
    ∙ sym (ap (λ (n : ℕ). op n (m (gained b c ++ all_gained mids afters))) (is.joined (gained a b) (all_gained befores mids))
    ∙ ap (op (op (m (gained a b)) (m (all_gained befores mids)))) (is.joined (gained b c) (all_gained mids afters)))
