-- What is added for each context in each domain, entry by entry.
use Rattle.std.proofs.Common.{◌≡◌, ℕ, ◌+◌, ◌*◌, ◌<◌, true, false, ◌==◌, ◌&&◌, if◌then◌else◌, Option, Some, None, Result, Ok, Err, OnOk, List, [], ◌∷◌, ◌++◌, length, get_or, replicate, refl, ap, sym, subst, ◌∙◌, arith, tests, ◌⊎◌, inl, inr, append-nil, add-zero}
use Rattle.std.proofs.lemmas.Bool.{cases_eq}
use Rattle.std.proofs.lemmas.Grind.{get_or-set_at}
use Rattle.std.proofs.lemmas.List.{length-replicate, get_or-replicate, length-set, get_or-set_other}
use Rattle.std.proofs.lemmas.List.Sums.{sum_by-append, sum_by-cons}
use Rattle.wbt_audit_walk.proofs.Common.{effect, of_part, added_to, Told}
use Rattle.wbt_journal.specs.Effects.{Share}
use Rattle.wbt_journal.specs.Reads.{added_by}
use Rattle.wbt_audit_reads.specs.Sharing.{AreAdded, added_at, one_added, pair_by, with_share}
use Rattle.wbt_audit_walk.specs.declared.places.Places.{Places}
use Rattle.wbt_audit_walk.proofs.Placing.{pairs_apart}

is_eq : (p q : ℕ) → p ≡ q → (p == q) ≡ true
is_eq p q e = grind (arith, tests, e)

is_apart : (p q : ℕ) → (p ≡ q → ⊥) → (p == q) ≡ false
is_apart p q e = grind (arith, tests, e)

-- what a share adds for a pair
abbrev share_to : (domain context : ℕ) (share : Option Share) → ℕ
share_to domain context share = of_part 0 (λ (s : Share). if s.domain == domain && s.context == context then s.n else 0) share

added_more : (domain context : ℕ) (entries : List Told) (entry : Told) → added_to domain context (entries ++ entry ∷ []) ≡ added_to domain context entries + added_by domain context entry
added_more domain context entries entry =
    sum_by-append (added_by domain context) entries (entry ∷ []) ∙ ap (λ n. added_to domain context entries + n) (sum_by-cons (added_by domain context) entry [] ∙ add-zero (added_by domain context entry))

module _ (places : Places) (entries : List Told) (sums : List ℕ) (are : AreAdded places entries sums) where
  nothing_more : (domain context p : ℕ) → pair_by places domain context ≡ Some p → (more : ℕ) → more ≡ 0 → get_or sums p 0 ≡ (added_to domain context entries + more)
  nothing_more domain context p there more none =
      are.each domain context p there ∙ (sym (add-zero (added_to domain context entries)) ∙ ap (λ n. added_to domain context entries + n) (sym none))

  at_pair : (share : Share) (domain context p q : ℕ) → pair_by places domain context ≡ Some p → pair_by places share.domain share.context ≡ Some q
      → (p ≡ q) ⊎ (p ≡ q → ⊥) → get_or (one_added q share.n sums) p 0 ≡ (added_to domain context entries + share_to domain context (Some share))
  at_pair share domain context p q there here (inl e) =
      let same = (pairs_apart places.domains places.contexts).apart (domain, context) (share.domain, share.context) p q there here in
      get_or-set_at sums q p ((get_or sums q 0 + share.n)) 0 e (are.room share.domain share.context q here)
      ∙ ap (λ r. (get_or sums r 0 + share.n)) (sym e)
      ∙ ap (λ a. (a + share.n)) (are.each domain context p there)
      ∙ ap (λ b. (added_to domain context entries + (if b then share.n else 0))) (sym (same ∙ is_eq p q e))
  at_pair share domain context p q there here (inr apart) =
      let same = (pairs_apart places.domains places.contexts).apart (domain, context) (share.domain, share.context) p q there here in
      get_or-set_other sums q p ((get_or sums q 0 + share.n)) 0 apart
      ∙ nothing_more domain context p there (share_to domain context (Some share)) (ap (λ b. if b then share.n else 0) (same ∙ is_apart p q apart))

  by_place : (share : Share) (domain context p : ℕ) (place : Option ℕ) → pair_by places domain context ≡ Some p → pair_by places share.domain share.context ≡ place
      → get_or (added_at place share.n sums) p 0 ≡ (added_to domain context entries + share_to domain context (Some share))
  by_place share domain context p None there here =
      nothing_more domain context p there (share_to domain context (Some share))
      (ap (λ b. if b then share.n else 0) ((pairs_apart places.domains places.contexts).other (domain, context) (share.domain, share.context) p there here))
  by_place share domain context p (Some q) there here = at_pair share domain context p q there here (cases_eq p q)

  by_share : (share : Option Share) (domain context p : ℕ) → pair_by places domain context ≡ Some p
      → get_or (with_share places share sums) p 0 ≡ (added_to domain context entries + share_to domain context share)
  by_share None domain context p there = nothing_more domain context p there 0 refl
  by_share (Some share) domain context p there = by_place share domain context p (pair_by places share.domain share.context) there refl

  room_at : (place : Option ℕ) (n : ℕ) → length (added_at place n sums) ≡ length sums
  room_at None n = refl
  room_at (Some p) n = length-set sums p ((get_or sums p 0 + n))

  room_by : (share : Option Share) → length (with_share places share sums) ≡ length sums
  room_by None = refl
  room_by (Some share) = room_at (pair_by places share.domain share.context) share.n

  pub added_on : (entry : Told) (new : List ℕ) (share : Option Share) → share ≡ (effect entry).share → new ≡ with_share places share sums
      → AreAdded places (entries ++ entry ∷ []) new
  added_on entry new share is new_is = record {
    room = λ domain context p there. subst (λ n. p < n) (sym (ap length new_is ∙ room_by share)) (are.room domain context p there);
    each = λ domain context p there.
        ap (λ ss. get_or ss p 0) new_is
        ∙ by_share share domain context p there
        ∙ ap (λ s. (added_to domain context entries + share_to domain context s)) is
        ∙ (sym (added_more domain context entries entry));
  }

  pub added_none : AreAdded places (entries ++ []) sums
  added_none = subst (λ es. AreAdded places es sums) (sym (append-nil entries)) are

pub added_first : (places : Places) (sums : List ℕ) → sums ≡ replicate (places.domains * places.contexts) 0 → AreAdded places [] sums
added_first places sums is = record {
  room = λ domain context p there.
      subst (λ n. p < n) (sym (ap length is ∙ length-replicate {A = ℕ} (places.domains * places.contexts) 0)) ((pairs_apart places.domains places.contexts).within (domain, context) p there);
  each = λ domain context p there.
      ap (λ ss. get_or ss p 0) is
      ∙ get_or-replicate {A = ℕ} (places.domains * places.contexts) p 0 0 ((pairs_apart places.domains places.contexts).within (domain, context) p there);
}

pub on_ok : {A E P Q : Type 0} (r : Result A E) → (P → Q) → OnOk r P → OnOk r Q
on_ok (Ok a) f p = f p
on_ok (Err e) f p = p
