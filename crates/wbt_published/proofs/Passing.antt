-- Splits and joins keep the rule: at most one pass has the right to publish.
use Rattle.std.proofs.Common.{◌≡◌, ◌≢◌, ℕ, ◌≤◌, ◌⊎◌, Bool, true, false, true≢false, cond, ◌||◌, List, length, set, All, sym, refl, ap, ◌∙◌, subst, inl, inr, ⊎_elim, arith, le_refl}
use mathlib.Core.Option.{some}
use lib.ListN.{get_elem?}
use Rattle.std.proofs.lemmas.List.Elements.{All-nil, All-append}
use Rattle.crossbeam_utils.specs.Register.{Forks, Merges}
use Rattle.atomic_table.proofs.Lists.{set_again, set_else}
use Rattle.wbt_estimate.specs.declared.estimate.Estimate.{Estimate}
use Rattle.wbt_published.specs.declared.known.Known.{Known}
use Rattle.wbt_published.specs.declared.rule.Stored.{Stored}
use Rattle.wbt_published.specs.Known.{spent, reader, without_right, with_right, knows_both}
use Rattle.wbt_published.specs.Publishing.{IsAmong, Knows, IsPublished}
use Rattle.wbt_published.proofs.Places.{at_last_or, each_set}

either_bool : (b : Bool) → (b ≡ true) ⊎ (b ≡ false)
either_bool true = inl refl
either_bool false = inr refl

-- a new pass that doesn't publish, where the old one keeps what it knows
pub keeps : (pass : ℕ) (known : Known) → Forks IsPublished pass known known (reader known)
keeps pass known x views s at = record {
  all = s.all;
  before = s.before;
  newest = s.newest;
  rising = s.rising;
  publisher = s.publisher;
  knows = λ j u there. ⊎_elim (λ (old : get_elem? (set views pass known) j ≡ some u). s.knows j u (ap (λ (l : List Known). get_elem? l j) (sym (set_again views pass known at)) ∙ old))
      (λ (new : (j ≡ length (set views pass known)) × (reader known ≡ u)). subst (Knows s.all x s.publisher j) new.1 (record { publishes = λ p. absurd (true≢false (sym p)); read = All-nil (IsAmong s.all); seen = (s.knows pass known at).seen }))
      (at_last_or (set views pass known) (reader known) u j there);
}

-- the right to publish, where the old pass has it, goes to the new one
module _ (pass : ℕ) (known left right : Known) (none_left : left.publishes ≡ false) (same_right : right.publishes ≡ known.publishes) (same_all : right.all ≡ known.all)
    (left_notes : (P : Estimate → Type 0) → All P known.reads → All P left.reads) (right_notes : (P : Estimate → Type 0) → All P known.reads → All P right.reads) (left_seen : left.seen ≤ known.seen) (right_seen : right.seen ≤ known.seen) where
  hands : Forks IsPublished pass known left right
  hands x views s at = let own = s.knows pass known at in let last : ℕ = length (set views pass left) in let publisher : ℕ = cond known.publishes last s.publisher in record {
    all = s.all;
    before = s.before;
    newest = s.newest;
    rising = s.rising;
    publisher = publisher;
    knows = λ j u there. ⊎_elim
        (λ (old : get_elem? (set views pass left) j ≡ some u). each_set (Knows s.all x publisher) views pass left
        (record { publishes = λ p. absurd (true≢false (sym p ∙ none_left)); read = left_notes (IsAmong s.all) own.read; seen = let a = own.seen in omega arith })
        (λ j u n was. let o = s.knows j u was in record {
          publishes = λ p. let q = o.publishes p in ⊎_elim (λ (yes : known.publishes ≡ true). absurd (n (q.0 ∙ sym (own.publishes yes).0))) (λ (no_right : known.publishes ≡ false). (q.0 ∙ sym (ap (λ (b : Bool). cond b last s.publisher) no_right), q.1)) (either_bool known.publishes);
          read = o.read;
          seen = o.seen;
        }) j u old)
        (λ (new : (j ≡ last) × (right ≡ u)). subst (Knows s.all x publisher j) new.1 (record {
          publishes = λ p. let yes : known.publishes ≡ true = sym same_right ∙ p in (new.0 ∙ sym (ap (λ (b : Bool). cond b last s.publisher) yes), same_all ∙ (own.publishes yes).1);
          read = right_notes (IsAmong s.all) own.read;
          seen = let a = own.seen in omega arith;
        }))
        (at_last_or (set views pass left) right u j there);
  }

pub hands_right : (pass : ℕ) (known : Known) → Forks IsPublished pass known (without_right known) (with_right known)
hands_right pass known = hands pass known (without_right known) (with_right known) refl refl refl (λ P all. all) (λ P all. All-nil P) (le_refl known.seen) (le_refl known.seen)

pub hands_whole : (pass : ℕ) (known : Known) → Forks IsPublished pass known spent known
hands_whole pass known = hands pass known spent known refl refl refl (λ P all. All-nil P) (λ P all. all) (let h : 0 ≤ known.seen = omega arith in h) (le_refl known.seen)

module _ (x : Stored) (views : List Known) (s : IsPublished x views) (pass other : ℕ) (one two : Known) (at : get_elem? views pass ≡ some one) (apart : other ≢ pass) (there : get_elem? (set views pass (knows_both one two)) other ≡ some two) where
  abbrev publisher : ℕ
  publisher = cond two.publishes pass s.publisher

  mine : Knows s.all x s.publisher pass one
  mine = s.knows pass one at

  theirs : Knows s.all x s.publisher other two
  theirs = s.knows other two (sym (set_else views pass other (knows_both one two) apart) ∙ there)

  -- at most one of two different passes publishes
  not_both : one.publishes ≡ true → two.publishes ≡ false
  not_both p = ⊎_elim (λ (q : two.publishes ≡ true). absurd (apart ((theirs.publishes q).0 ∙ sym (mine.publishes p).0))) (λ (q : two.publishes ≡ false). q) (either_bool two.publishes)

  right_now : (a b : Bool) → one.publishes ≡ a → two.publishes ≡ b → (a || b) ≡ true → (pass ≡ publisher) × (cond two.publishes two.all one.all ≡ s.all)
  right_now true b p q h = let m = mine.publishes p in (m.0 ∙ sym (ap (λ (c : Bool). cond c pass s.publisher) (not_both p)), ap (λ (c : Bool). cond c two.all one.all) (not_both p) ∙ m.1)
  right_now false true p q h = (sym (ap (λ (c : Bool). cond c pass s.publisher) q), ap (λ (c : Bool). cond c two.all one.all) q ∙ (theirs.publishes q).1)
  right_now false false p q h = absurd (true≢false (sym h))

  together : Knows s.all x publisher pass (knows_both one two)
  together = record {
    publishes = λ h. right_now one.publishes two.publishes refl refl h;
    read = All-append (IsAmong s.all) one.reads two.reads mine.read theirs.read;
    seen = let a = mine.seen in let b = theirs.seen in omega arith;
  }

  third : (j : ℕ) (u : Known) → j ≢ other → Knows s.all x s.publisher j u → Knows s.all x publisher j u
  third j u n o = record {
    publishes = λ p. let q = o.publishes p in ⊎_elim (λ (yes : two.publishes ≡ true). absurd (n (q.0 ∙ sym (theirs.publishes yes).0))) (λ (no_right : two.publishes ≡ false). (q.0 ∙ sym (ap (λ (b : Bool). cond b pass s.publisher) no_right), q.1)) (either_bool two.publishes);
    read = o.read;
    seen = o.seen;
  }

  joined_rule : IsPublished x (set (set views pass (knows_both one two)) other spent)
  joined_rule = record {
    all = s.all;
    before = s.before;
    newest = s.newest;
    rising = s.rising;
    publisher = publisher;
    knows = each_set (Knows s.all x publisher) (set views pass (knows_both one two)) other spent
        (record { publishes = λ p. absurd (true≢false (sym p)); read = All-nil (IsAmong s.all); seen = omega arith })
        (λ j u n now. each_set (λ i k. i ≢ other → Knows s.all x publisher i k) views pass (knows_both one two) (λ _. together) (λ i k _ was m. third i k m (s.knows i k was)) j u now n);
  }

pub merges : (pass : ℕ) (one : Known) (other : ℕ) (two : Known) → Merges IsPublished pass one other two (knows_both one two) spent
merges pass one other two x views s at apart there = joined_rule x views s pass other one two at apart there
