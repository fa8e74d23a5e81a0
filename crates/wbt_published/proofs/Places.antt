-- Estimates at the places of their versions, and what is said of each pass where one changes.
use Rattle.std.proofs.Common.{◌≡◌, ◌≢◌, ℕ, zero, suc, ◌<◌, ◌≤◌, ◌⊎◌, List, [], ◌∷◌, ◌++◌, length, set, All, sym, refl, ap, ◌∙◌, subst, inl, inr, ⊎_elim, arith, Bool, cond, eqb, ne_eqb, length-append}
use mathlib.Core.Option.{some, some-injective, some-ne-none}
use lib.ListN.{get_elem?}
use Rattle.std.proofs.lemmas.List.Elements.{All-append, All-cons, All-nil}
use Rattle.atomic_table.proofs.Lists.{at_set, at_longer, at_last}
use Rattle.wbt_estimate.specs.declared.estimate.Estimate.{Estimate}
use Rattle.wbt_estimate.specs.Estimate.{IsSound, first_at}
use Rattle.wbt_published.specs.declared.known.Known.{Known}
use Rattle.wbt_published.specs.Known.{first_one, note_of}
use Rattle.wbt_published.specs.Publishing.{IsRising, IsAmong}

pub in_range : {A : Type 0} (l : List A) (i : ℕ) (a : A) → get_elem? l i ≡ some a → i < length l
in_range [] i a e = absurd (some-ne-none a (sym e))
in_range (x ∷ xs) zero a e = omega arith
in_range (x ∷ xs) (suc i) a e = let h = in_range xs i a e in omega arith

pub at_last_or : {A : Type 0} (l : List A) (a b : A) (i : ℕ) → get_elem? (l ++ a ∷ []) i ≡ some b → (get_elem? l i ≡ some b) ⊎ ((i ≡ length l) × (a ≡ b))
at_last_or [] a b zero e = inr (refl, some-injective a b e)
at_last_or [] a b (suc i) e = absurd (some-ne-none b (sym e))
at_last_or (x ∷ xs) a b zero e = inl e
at_last_or (x ∷ xs) a b (suc i) e = ⊎_elim (λ (h : get_elem? xs i ≡ some b). inl h) (λ (t : (i ≡ length xs) × (a ≡ b)). inr (ap suc t.0, t.1)) (at_last_or xs a b i e)

pub each_set : (F : ℕ → Known → Type 0) (views : List Known) (pass : ℕ) (new : Known) → F pass new → ((j : ℕ) (u : Known) → j ≢ pass → get_elem? views j ≡ some u → F j u) → (j : ℕ) (u : Known) → get_elem? (set views pass new) j ≡ some u → F j u
each_set F views pass new here others j u e = ⊎_elim (λ (t : (j ≡ pass) × (new ≡ u)). subst (λ (z : ℕ × Known). F z.0 z.1) (λ i. (sym t.0 i, t.1 i)) here)
    (λ (t : (j ≢ pass) × (get_elem? views j ≡ some u)). others j u t.0 t.1) (at_set views pass j new u e)

pub first_version : (now : ℕ) → (first_at now).version ≡ 0
unfolding first_at
first_version now = refl

pub note_first : (first : Estimate) → first.version ≡ 0 → note_of first ≡ first_one
note_first first is = ap (λ (n : ℕ). cond (eqb n 0) first_one first) is

pub note_other : (e : Estimate) → e.version ≢ 0 → note_of e ≡ e
note_other e n = ap (λ (b : Bool). cond b first_one e) (ne_eqb e.version 0 n)

-- the newest of all stands last
pub last_version : (all before : List Estimate) (e : Estimate) → all ≡ before ++ e ∷ [] → IsRising all → (e.version ≡ length before) × IsAmong all e
last_version all before e is r = let there : get_elem? all (length before) ≡ some e = ap (λ (l : List Estimate). get_elem? l (length before)) is ∙ at_last before e (length before) refl in let v = r.by_version (length before) e there in
    (v, ap (λ (n : ℕ). get_elem? all n) v ∙ there)

-- none is newer than the newest
pub not_newer : (all before : List Estimate) (e d : Estimate) → all ≡ before ++ e ∷ [] → IsRising all → IsAmong all d → d.version ≤ e.version
not_newer all before e d is r among = let v = (last_version all before e is r).0 in let low = in_range all d.version d among in let n = ap length is in let m = length-append before (e ∷ []) in omega arith

pub rising_more : (all : List Estimate) (e : Estimate) → IsRising all → e.version ≡ length all → IsSound e → IsRising (all ++ e ∷ [])
rising_more all e r v sound = record {
  first = at_longer all (e ∷ []) 0 first_one r.first;
  by_version = λ place d there. ⊎_elim (λ (old : get_elem? all place ≡ some d). r.by_version place d old) (λ (new : (place ≡ length all) × (e ≡ d)). ap (λ (x : Estimate). x.version) (sym new.1) ∙ v ∙ sym new.0) (at_last_or all e d place there);
  sound = λ place d there. ⊎_elim (λ (old : get_elem? all place ≡ some d). r.sound place d old) (λ (new : (place ≡ length all) × (e ≡ d)). subst IsSound new.1 sound) (at_last_or all e d place there);
}

pub among_more : (all notes : List Estimate) (e : Estimate) → All (IsAmong all) notes → All (IsAmong (all ++ e ∷ [])) notes
among_more all notes e known k d low = at_longer all (e ∷ []) _ _ (known k d low)

pub All-snoc : (P : Estimate → Type 0) (xs : List Estimate) (x : Estimate) → All P xs → P x → All P (xs ++ x ∷ [])
All-snoc P xs x all p = All-append P xs (x ∷ []) all (All-cons P x [] p (All-nil P))
