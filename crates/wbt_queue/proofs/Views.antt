-- What holds of the passes' parts and entries where one pass changes what it did itself.
use Rattle.std.proofs.Common.{◌≡◌, ◌≢◌, ℕ, zero, suc, ◌<◌, ◌⊎◌, true, List, [], ◌∷◌, ◌++◌, length, set, sym, refl, ap, ◌∙◌, subst, inl, inr, ⊎_elim, arith, length-set}
use mathlib.Core.Logic.{dite}
use mathlib.Core.Option.{some, some-injective, some-ne-none}
use native.Mathlib.Decide.{ℕ_discrete}
use lib.ListN.{get_elem?}
use Rattle.atomic_table.proofs.Lists.{at_set, set_here, set_else, at_snoc}
use Rattle.wbt_queue.specs.declared.known.Part.{Part}
use Rattle.wbt_queue.specs.declared.known.Known.{Known}
use Rattle.wbt_queue.specs.Known.{parts_of}
use Rattle.wbt_queue.specs.Order.{Entry, HasPart, AllKnown}
use Rattle.wbt_queue.proofs.Entries.{entry_of}

pub in_range : {A : Type 0} (l : List A) (i : ℕ) (a : A) → get_elem? l i ≡ some a → i < length l
in_range [] i a e = absurd (some-ne-none a (sym e))
in_range (x ∷ xs) zero a e = omega arith
in_range (x ∷ xs) (suc i) a e = let h = in_range xs i a e in omega arith

-- a pass that is alone is the only one, and nothing came to it by joins
abbrev pub Lone : (views : List Known) → Type 0
Lone views = (pass : ℕ) (known : Known) → get_elem? views pass ≡ some known → known.alone ≡ true → (length views ≡ 1) × (known.joined ≡ [])

module _ (views : List Known) (pass : ℕ) (old new : Known) (at : get_elem? views pass ≡ some old) (joined : new.joined ≡ old.joined) where
  pub now_at : get_elem? (set views pass new) pass ≡ some new
  now_at = set_here views pass new (in_range views pass old at)

  part_there : (part : ℕ) (what : Part) → get_elem? (parts_of old) part ≡ some what → (now : Part) × (get_elem? (parts_of new) part ≡ some now)
  part_there zero what e = (new.own, refl)
  part_there (suc k) what e = (what, ap (λ (l : List Part). get_elem? l k) joined ∙ e)

  pub known_after : (entries : List Entry) → AllKnown views entries → AllKnown (set views pass new) entries
  known_after entries all place entry there = let t = all place entry there in let what : Part = t.0 in let known : Known = t.1.0 in dite (ℕ_discrete entry.pass pass)
      (λ same. let is : known ≡ old = some-injective known old (sym t.1.1 ∙ ap (λ (n : ℕ). get_elem? views n) same ∙ at) in
      let now = part_there entry.part what (subst (λ (k : Known). get_elem? (parts_of k) entry.part ≡ some what) is t.1.2) in
      (now.0, (new, ap (λ (n : ℕ). get_elem? (set views pass new) n) same ∙ now_at, now.1)))
      (λ other. (what, (known, set_else views pass entry.pass new other ∙ t.1.1, t.1.2)))

  pub known_with : (inode : ℕ) (entries : List Entry) → AllKnown views entries → AllKnown (set views pass new) (entries ++ entry_of pass 0 inode ∷ [])
  known_with inode entries all place entry there = ⊎_elim (λ (before : get_elem? entries place ≡ some entry). known_after entries all place entry before)
      (λ (is : entry_of pass 0 inode ≡ entry). subst (λ (e : Entry). (what : Part) × HasPart (set views pass new) e.pass e.part what) is (new.own, (new, now_at, refl)))
      (at_snoc entries (entry_of pass 0 inode) entry place there)

  behind_first : (part : ℕ) (what : Part) → part ≢ 0 → get_elem? (parts_of new) part ≡ some what → get_elem? (parts_of old) part ≡ some what
  behind_first zero what n e = absurd (n refl)
  behind_first (suc k) what n e = ap (λ (l : List Part). get_elem? l k) (sym joined) ∙ e

  -- what is said of each part is said of the new one, and of the others as before
  pub told_after : (Says : ℕ → ℕ → Part → Type 0) → Says pass 0 new.own → ((j k : ℕ) (what : Part) → (j ≢ pass) ⊎ (k ≢ 0) → HasPart views j k what → Says j k what)
      → (j k : ℕ) (what : Part) → HasPart (set views pass new) j k what → Says j k what
  told_after Says own others j k what t = ⊎_elim
      (λ (m : (j ≡ pass) × (new ≡ t.0)). let there : get_elem? (parts_of new) k ≡ some what = subst (λ (known : Known). get_elem? (parts_of known) k ≡ some what) (sym m.1) t.2 in dite (ℕ_discrete k 0)
      (λ z. let is : new.own ≡ what = some-injective new.own what (sym (ap (λ (n : ℕ). get_elem? (parts_of new) n) z) ∙ there) in subst (λ (n : ℕ × (ℕ × Part)). Says n.0 n.1.0 n.1.1) (λ i. (sym m.0 i, (sym z i, is i))) own)
      (λ n. subst (λ (p : ℕ). Says p k what) (sym m.0) (others pass k what (inr n) (old, at, behind_first k what n there))))
      (λ (m : (j ≢ pass) × (get_elem? views j ≡ some t.0)). others j k what (inl m.0) (t.0, m.1, t.2))
      (at_set views pass j new t.0 t.1)

  pub lone_after : new.alone ≡ old.alone → Lone views → Lone (set views pass new)
  lone_after same lone j known there alone = ⊎_elim
      (λ (m : (j ≡ pass) × (new ≡ known)). let was = lone pass old at (sym same ∙ ap (λ (k : Known). k.alone) m.1 ∙ alone) in
      (length-set views pass new ∙ was.0, ap (λ (k : Known). k.joined) (sym m.1) ∙ joined ∙ was.1))
      (λ (m : (j ≢ pass) × (get_elem? views j ≡ some known)). let was = lone j known m.1 alone in (length-set views pass new ∙ was.0, was.1))
      (at_set views pass j new known there)
