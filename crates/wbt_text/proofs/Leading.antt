-- Lines that lead through a text, and that its answer is one.
use Rattle.std.proofs.Common.{◌≡◌, ◌≢◌, Bool, false, ◌==◌, ◌⊎◌, inl, inr, ℕ, ◌+◌, ◌≤◌, suc, List, [], ◌∷◌, ◌++◌, length, Result, Ok, Err, IfOk, refl, zero-add, sym, ◌∙◌, ap, subst, arith, length-append}
use Rattle.wbt_text.specs.Cut.{Without}
use Rattle.wbt_text.specs.Reading.{Format, Lead, Ends, HasAnswer, EachHasOne, IsClear, Tells}
use Rattle.wbt_text.proofs.Cuts.{cut_once, no_cut}

not_empty : (f r : List ℕ) (x : ℕ) → [] ≡ f ++ x ∷ r → ⊥
not_empty [] r x is = cc
not_empty (y ∷ ys) r x is = cc

-- ---- reading a text line by line

-- a text that isn't found empty has bytes
pub has_bytes : (b : Bool) (xs : List ℕ) → b ≡ (length xs == 0) → b ≡ false → xs ≢ []
has_bytes b [] is no_bytes = λ same. cc (is, no_bytes)
has_bytes b (x ∷ xs) is no_bytes = λ same. cc

-- so many lines have led to this state and this rest
pub record Reached {S L R A : Type 0} (format : Format S L R A) (start : S) (text : List ℕ) (count : ℕ) (s : S) (rest : List ℕ) : Type 0 where
  pub lines : List L
  pub lead : Lead format lines start text s rest
  pub many : length lines ≡ count
  pub few : count + length rest ≤ length text

pub begin : {S L R A : Type 0} (format : Format S L R A) (start : S) (text : List ℕ) → Reached format start text 0 start text
begin format start text = record { lines = []; lead = (refl, refl); many = refl; few = omega arith }

-- one line more
lead_push : {S L R A : Type 0} (format : Format S L R A) (ls : List L) (s : S) (text : List ℕ) (t u : S) (rest first more : List ℕ) (l : L) → Lead format ls s text t rest → rest ≡ first ++ 10 ∷ more → format.spells t first l → format.accept l t ≡ Ok u → Lead format (ls ++ l ∷ []) s text u more
lead_push {S} format [] s text t u rest first more l lead split is on =
    (first, more, u, lead.1 ∙ split, subst (λ (d : S). format.spells d first l) (sym lead.0) is, ap (format.accept l) lead.0 ∙ on, (refl, refl))
lead_push format (k ∷ ks) s text t u rest first more l lead split is on =
    (lead.0, lead.1, lead.2, lead.3, lead.4, lead.5, lead_push format ks lead.2 lead.1 t u rest first more l lead.6 split is on)

pub further : {S L R A : Type 0} (format : Format S L R A) (start : S) (text : List ℕ) (count : ℕ) (s u : S) (rest first more : List ℕ) (l : L) → Reached format start text count s rest → rest ≡ first ++ 10 ∷ more → format.spells s first l → format.accept l s ≡ Ok u → Reached format start text (count + 1) u more
further format start text count s u rest first more l reached split is on = record {
  lines = reached.lines ++ l ∷ [];
  lead = lead_push format reached.lines start text s u rest first more l reached.lead split is on;
  many = omega (arith, length-append reached.lines (l ∷ []), reached.many);
  few = omega (arith, reached.few, ap length split, length-append first (10 ∷ more));
}

ends_here : {S L R A : Type 0} (format : Format S L R A) (start : S) (text : List ℕ) (count : ℕ) (s : S) (rest : List ℕ) (answer : A) → Reached format start text count s rest → Ends format count s rest answer → HasAnswer format start text answer
ends_here format start text count s rest answer reached ends =
    (reached.lines, s, rest, reached.lead, subst (λ (n : ℕ). Ends format n s rest answer) (sym reached.many) ends)

-- Reading ends: the text is over,
pub ends_whole : {S L R A : Type 0} (format : Format S L R A) (start : S) (text : List ℕ) (count : ℕ) (s : S) (rest : List ℕ) → Reached format start text count s rest → rest ≡ [] → HasAnswer format start text (format.ended count s)
ends_whole format start text count s rest reached over = ends_here format start text count s rest _ reached (inl (over, refl))

-- or no line feed comes,
pub ends_uncut : {S L R A : Type 0} (format : Format S L R A) (start : S) (text : List ℕ) (count : ℕ) (s : S) (rest : List ℕ) → Reached format start text count s rest → rest ≢ [] → Without 10 rest → HasAnswer format start text (format.unread (count + 1))
ends_uncut format start text count s rest reached some none =
    ends_here format start text count s rest _ reached (inr (inl (some, (λ first more l split is. no_cut 10 rest first more none split), refl)))

-- or what comes up to a line feed is no line,
pub ends_unread : {S L R A : Type 0} (format : Format S L R A) (start : S) (text : List ℕ) (count : ℕ) (s : S) (rest first more : List ℕ) → IsClear format → Reached format start text count s rest → rest ≡ first ++ 10 ∷ more → Without 10 first → ((l : L) → format.spells s first l → ⊥) → HasAnswer format start text (format.unread (count + 1))
ends_unread format start text count s rest first more clear reached split feed none = ends_here format start text count s rest _ reached (inr (inl (
  (λ empty. not_empty first more 10 (sym empty ∙ split)),
  (λ other others l parts is.
      let once = cut_once 10 first other more others feed (clear.no_feed s other l is) (sym split ∙ parts) in
      none l (subst (λ (t : List ℕ). format.spells s t l) (sym once.0) is)),
  refl,
)))

-- or the line that comes is refused.
pub ends_refused : {S L R A : Type 0} (format : Format S L R A) (start : S) (text : List ℕ) (count : ℕ) (s : S) (rest first more : List ℕ) (l : L) (why : R) → Reached format start text count s rest → rest ≡ first ++ 10 ∷ more → format.spells s first l → format.accept l s ≡ Err why → HasAnswer format start text (format.refused (count + 1) why)
ends_refused format start text count s rest first more l why reached split is off =
    ends_here format start text count s rest _ reached (inr (inr (first, more, l, why, split, is, off, refl)))

-- ---- the answer is one

-- the line at the front of a text is one, and so is what follows it
record Same {L : Type 0} (f r : List ℕ) (k : L) (g s : List ℕ) (l : L) : Type 0 where
  pub first : f ≡ g
  pub more : r ≡ s
  pub line : k ≡ l

same_line : {S L R A : Type 0} (format : Format S L R A) → IsClear format → (at : S) (text f r g s : List ℕ) (k l : L) → text ≡ f ++ 10 ∷ r → text ≡ g ++ 10 ∷ s → format.spells at f k → format.spells at g l → Same f r k g s l
same_line format clear at text f r g s k l a b x y =
    let once = cut_once 10 f g r s (clear.no_feed at f k x) (clear.no_feed at g l y) (sym a ∙ b) in
    record { first = once.0; more = once.1; line = clear.once at f k l x (subst (λ (t : List ℕ). format.spells at t l) (sym once.0) y) }

ok_once : {S R : Type 0} (s t : S) (r : Result S R) → r ≡ Ok s → r ≡ Ok t → s ≡ t
ok_once s t r a b = cc (a, b)

err_once : {S R : Type 0} (x y : R) (r : Result S R) → r ≡ Err x → r ≡ Err y → x ≡ y
err_once x y r a b = cc (a, b)

not_both : {S R : Type 0} (s : S) (x : R) (r : Result S R) → r ≡ Ok s → r ≡ Err x → ⊥
not_both s x r a b = cc (a, b)

-- reading doesn't end where a line is taken
goes_on : {S L R A : Type 0} (format : Format S L R A) → IsClear format → (count : ℕ) (s u : S) (text first more : List ℕ) (l : L) (answer : A) → text ≡ first ++ 10 ∷ more → format.spells s first l → format.accept l s ≡ Ok u → Ends format count s text answer → ⊥
goes_on format clear count s u text first more l answer split is on (inl whole) = not_empty first more 10 (sym whole.0 ∙ split)
goes_on format clear count s u text first more l answer split is on (inr (inl none)) = none.1 first more l split is
goes_on {S} {L} format clear count s u text first more l answer split is on (inr (inr x)) =
    let same = same_line format clear s text first more x.0 x.1 l x.2 split x.4 is x.5 in
    not_both u x.3 (format.accept l s) on (ap (λ (k : L). format.accept k s) same.line ∙ x.6)

-- reading ends in one way
ends_once : {S L R A : Type 0} (format : Format S L R A) → IsClear format → (count : ℕ) (s : S) (text : List ℕ) (a b : A) → Ends format count s text a → Ends format count s text b → a ≡ b
ends_once format clear count s text a b (inl x) (inl y) = x.1 ∙ sym y.1
ends_once format clear count s text a b (inl x) (inr (inl y)) = absurd (y.0 x.0)
ends_once format clear count s text a b (inl x) (inr (inr y)) = absurd (not_empty y.0 y.1 10 (sym x.0 ∙ y.4))
ends_once format clear count s text a b (inr (inl x)) (inl y) = absurd (x.0 y.0)
ends_once format clear count s text a b (inr (inl x)) (inr (inl y)) = x.2 ∙ sym y.2
ends_once format clear count s text a b (inr (inl x)) (inr (inr y)) = absurd (x.1 y.0 y.1 y.2 y.4 y.5)
ends_once format clear count s text a b (inr (inr x)) (inl y) = absurd (not_empty x.0 x.1 10 (sym y.0 ∙ x.4))
ends_once format clear count s text a b (inr (inr x)) (inr (inl y)) = absurd (y.1 x.0 x.1 x.2 x.4 x.5)
ends_once {S} {L} {R} format clear count s text a b (inr (inr x)) (inr (inr y)) =
    let same = same_line format clear s text x.0 x.1 y.0 y.1 x.2 y.2 x.4 y.4 x.5 y.5 in
    let why : x.3 ≡ y.3 = err_once x.3 y.3 (format.accept x.2 s) x.6 (ap (λ (k : L). format.accept k s) same.line ∙ y.6) in
    x.7 ∙ ap (λ (w : R). format.refused (count + 1) w) why ∙ sym y.7

-- lines that lead nowhere leave the state and the text
stays : {S L R A : Type 0} (format : Format S L R A) (count : ℕ) (s : S) (text : List ℕ) (t : S) (rest : List ℕ) (a : A) → (s ≡ t) × (text ≡ rest) → Ends format (count + 0) t rest a → Ends format (count + 0) s text a
stays {S} format count s text t rest a lead ends =
    subst (λ (r : List ℕ). Ends format (count + 0) s r a) (sym lead.1) (subst (λ (q : S). Ends format (count + 0) q rest a) (sym lead.0) ends)

-- lines that lead through a text to its end are one list
answer_once : {S L R A : Type 0} (format : Format S L R A) → IsClear format → (count : ℕ) (ks ls : List L) (s : S) (text : List ℕ) (t u : S) (rest more : List ℕ) (a b : A)
    → Lead format ks s text t rest → Ends format (count + length ks) t rest a → Lead format ls s text u more → Ends format (count + length ls) u more b → a ≡ b
answer_once format clear count [] [] s text t u rest more a b x xe y ye =
    ends_once format clear (count + 0) s text a b (stays format count s text t rest a x xe) (stays format count s text u more b y ye)
answer_once format clear count [] (l ∷ ls) s text t u rest more a b x xe y ye =
    absurd (goes_on format clear (count + 0) s y.2 text y.0 y.1 l a y.3 y.4 y.5 (stays format count s text t rest a x xe))
answer_once format clear count (k ∷ ks) [] s text t u rest more a b x xe y ye =
    absurd (goes_on format clear (count + 0) s x.2 text x.0 x.1 k b x.3 x.4 x.5 (stays format count s text u more b y ye))
answer_once {S} {L} format clear count (k ∷ ks) (l ∷ ls) s text t u rest more a b x xe y ye =
    let same = same_line format clear s text x.0 x.1 y.0 y.1 k l x.3 y.3 x.4 y.4 in
    let states : x.2 ≡ y.2 = ok_once x.2 y.2 (format.accept k s) x.5 (ap (λ (j : L). format.accept j s) same.line ∙ y.5) in
    let next : Lead format ls x.2 x.1 u more = subst (λ (q : S). Lead format ls q x.1 u more) (sym states) (subst (λ (r : List ℕ). Lead format ls y.2 r u more) (sym same.more) y.6) in
    let xs : Ends format ((count + 1) + length ks) t rest a = subst (λ (n : ℕ). Ends format n t rest a) (one_more count (length ks)) xe in
    let ys : Ends format ((count + 1) + length ls) u more b = subst (λ (n : ℕ). Ends format n u more b) (one_more count (length ls)) ye in
    answer_once format clear (count + 1) ks ls x.2 x.1 t u rest more a b x.6 xs next ys
  where
    one_more : (c n : ℕ) → c + suc n ≡ (c + 1) + n
    one_more c n = omega arith

pub one_answer : {S L R A : Type 0} (format : Format S L R A) (start : S) → IsClear format → EachHasOne format start
one_answer format start clear = λ text one other a b.
    answer_once format clear 0 a.0 b.0 start text a.1 b.1 a.2 b.2 one other a.3 (subst (λ (n : ℕ). Ends format n a.1 a.2 one) (sym (zero-add (length a.0))) a.4) b.3 (subst (λ (n : ℕ). Ends format n b.1 b.2 other) (sym (zero-add (length b.0))) b.4)

-- what was read is any answer that the text has
pub told_exact : {S L R A : Type 0} (format : Format S L R A) (start : S) → IsClear format → (no_memory : A) (text : List ℕ) (read answer : A) → Tells format start no_memory text read → HasAnswer format start text answer → (read ≡ no_memory) ⊎ (read ≡ answer)
told_exact format start clear no_memory text read answer (inl none) is = inl none
told_exact format start clear no_memory text read answer (inr told) is = inr (one_answer format start clear text read answer told is)

-- what was read without want of anything is the one answer
pub read_exact : {S L R A E : Type 0} (format : Format S L R A) (start : S) → IsClear format → (text : List ℕ) (read : Result A E) → IfOk read (λ answer. HasAnswer format start text answer)
    → IfOk read (λ is_read. (answer : A) → HasAnswer format start text answer → is_read ≡ answer)
read_exact format start clear text (Ok read) told = λ answer is. one_answer format start clear text read answer told is
read_exact format start clear text (Err want) told = tt
