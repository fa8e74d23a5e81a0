-- The empty queue, each put, each take and each split keep the rule.
use Rattle.std.proofs.Common.{◌≡◌, ◌≢◌, ℕ, zero, suc, ◌⊎◌, false, true≢false, List, [], ◌∷◌, ◌++◌, length, set, sym, refl, ap, ◌∙◌, subst, inl, inr, ⊎_elim, arith, append_assoc}
use mathlib.Core.List.{map-append}
use mathlib.Core.Option.{some, some-injective, some-ne-none}
use lib.ListN.{get_elem?}
use Rattle.crossbeam_queue.specs.Fifo.{Pushes, Pops, Forks, Learns}
use Rattle.atomic_table.proofs.Lists.{at_longer, at_set}
use Rattle.wbt_queue.specs.declared.known.Part.{Part}
use Rattle.wbt_queue.specs.declared.known.Known.{Known}
use Rattle.wbt_queue.specs.Known.{nothing, opening, newcomer, accompanied, parts_of, after_put, after_take}
use Rattle.wbt_queue.specs.Order.{Entry, inodes_of, those_of, AllKnown, Tells, IsInOrder, Waits, HasPut, HasTaken}
use Rattle.wbt_queue.proofs.Stakes.{staked_first, staked_put, staked_take, staked_split, whole_knows}
use Rattle.wbt_queue.proofs.Entries.{entry_of, those-mine, those-others, those-none, those-all}
use Rattle.wbt_queue.proofs.Views.{in_range, Lone, now_at, known_after, known_with, told_after, lone_after}

-- a list of one element has it, and nothing more
only : {A : Type 0} (a b : A) (i : ℕ) → get_elem? (a ∷ []) i ≡ some b → (i ≡ 0) × (a ≡ b)
only a b zero e = (refl, some-injective a b e)
only a b (suc i) e = absurd (some-ne-none b (sym e))

-- the part of a pass that did nothing
idle : (part : ℕ) (what : Part) → get_elem? (nothing ∷ []) part ≡ some what → (what.puts ≡ []) × (what.takes ≡ [])
idle part what e = let is = (only nothing what part e).1 in (ap (λ (p : Part). p.puts) (sym is), ap (λ (p : Part). p.takes) (sym is))

pub opens : IsInOrder [] (opening ∷ [])
opens = record {
  puts = [];
  takes = [];
  first_in_first_out = refl;
  told = λ pass part what t. let is : opening ≡ t.0 = (only opening t.0 pass t.1).1 in let h = idle part what (subst (λ (known : Known). get_elem? (parts_of known) part ≡ some what) (sym is) t.2) in (sym h.0, sym h.1);
  puts_known = λ place entry there. absurd (some-ne-none entry (sym there));
  takes_known = λ place entry there. absurd (some-ne-none entry (sym there));
  lone = λ pass known there alone. (refl, ap (λ (k : Known). k.joined) (sym (only opening known pass there).1));
  staked = staked_first;
}

-- a pass that is alone owns each entry
own_all : (views : List Known) (pass : ℕ) (known : Known) → get_elem? views pass ≡ some known → length views ≡ 1 → known.joined ≡ [] → (entries : List Entry) → AllKnown views entries → those_of pass 0 entries ≡ inodes_of entries
own_all views pass known at one nobody entries all = those-all pass 0 entries (λ i e there. let t = all i e there in let a = in_range views pass known at in let b = in_range views e.pass t.1.0 t.1.1 in
    let same : pass ≡ e.pass = omega arith in let is : t.1.0 ≡ known = some-injective t.1.0 known (sym t.1.1 ∙ ap (λ (n : ℕ). get_elem? views n) (sym same) ∙ at) in
    let first = only known.own t.0 e.part (ap (λ (l : List Part). get_elem? (known.own ∷ l) e.part) (sym nobody) ∙ subst (λ (k : Known). get_elem? (parts_of k) e.part ≡ some t.0) is t.1.2) in
    (same, sym first.0))

pub learns : (pass : ℕ) (known : Known) → Learns IsInOrder pass known (Waits known)
learns pass known items views s at = record {
  pass = pass;
  puts = s.puts;
  takes = s.takes;
  first_in_first_out = s.first_in_first_out;
  told = λ part what e. s.told pass part what (known, at, e);
  lone = λ alone. let l = s.lone pass known at alone in let own = s.told pass 0 known.own (known, at, refl) in
      sym own.0 ∙ own_all views pass known at l.0 l.1 s.puts s.puts_known ∙ s.first_in_first_out ∙ ap (λ (m : List ℕ). m ++ items) (sym (own_all views pass known at l.0 l.1 s.takes s.takes_known) ∙ own.1);
  views = views;
  among = at;
  of_all = (s, refl, refl);
  whole = whole_knows items views s.puts s.takes pass known s.staked s.first_in_first_out at;
}

pub puts_keep : (size pass : ℕ) (known : Known) (inode : ℕ) → known.gone ≡ false → Pushes IsInOrder size pass known inode (HasPut known inode)
puts_keep size pass known inode here items views room s at = let new : Known = after_put inode known in let own = s.told pass 0 known.own (known, at, refl) in
    let kept : IsInOrder (items ++ inode ∷ []) (set views pass new) = record {
      puts = s.puts ++ entry_of pass 0 inode ∷ [];
      takes = s.takes;
      first_in_first_out = map-append (λ (e : Entry). e.inode) s.puts (entry_of pass 0 inode ∷ []) ∙ ap (λ (l : List ℕ). l ++ inode ∷ []) s.first_in_first_out ∙ append_assoc (inodes_of s.takes) items (inode ∷ []);
      told = told_after views pass known new at refl (λ j k what. Tells (s.puts ++ entry_of pass 0 inode ∷ []) s.takes j k what)
          (those-mine pass 0 inode s.puts ∙ ap (λ (l : List ℕ). l ++ inode ∷ []) own.0, own.1)
          (λ j k what n t. let was = s.told j k what t in (those-others j k s.puts (entry_of pass 0 inode) n ∙ was.0, was.1));
      puts_known = known_with views pass known new at refl inode s.puts s.puts_known;
      takes_known = known_after views pass known new at refl s.takes s.takes_known;
      lone = lone_after views pass known new at refl refl s.lone;
      staked = staked_put views s.puts s.takes pass known inode at here s.staked;
    } in (new, kept, (refl, items, learns pass new (items ++ inode ∷ []) (set views pass new) kept (now_at views pass known new at refl)))

pub takes_keep : (pass : ℕ) (known : Known) → known.gone ≡ false → Pops IsInOrder pass known (HasTaken known)
takes_keep pass known here inode items views s at = let new : Known = after_take inode known in let own = s.told pass 0 known.own (known, at, refl) in (
  new,
  record {
    puts = s.puts;
    takes = s.takes ++ entry_of pass 0 inode ∷ [];
    first_in_first_out = s.first_in_first_out ∙ sym (append_assoc (inodes_of s.takes) (inode ∷ []) items) ∙ ap (λ (l : List ℕ). l ++ items) (sym (map-append (λ (e : Entry). e.inode) s.takes (entry_of pass 0 inode ∷ [])));
    told = told_after views pass known new at refl (λ j k what. Tells s.puts (s.takes ++ entry_of pass 0 inode ∷ []) j k what)
        (own.0, those-mine pass 0 inode s.takes ∙ ap (λ (l : List ℕ). l ++ inode ∷ []) own.1)
        (λ j k what n t. let was = s.told j k what t in (was.0, those-others j k s.takes (entry_of pass 0 inode) n ∙ was.1));
    puts_known = known_after views pass known new at refl s.puts s.puts_known;
    takes_known = known_with views pass known new at refl inode s.takes s.takes_known;
    lone = lone_after views pass known new at refl refl s.lone;
    staked = staked_take views s.puts s.takes pass known inode at here s.staked;
  },
  (refl, items, learns pass known (inode ∷ items) views s at),
)

-- the last of a longer list, or one before it
at_last_or : {A : Type 0} (l : List A) (a b : A) (i : ℕ) → get_elem? (l ++ a ∷ []) i ≡ some b → (get_elem? l i ≡ some b) ⊎ ((i ≡ length l) × (a ≡ b))
at_last_or [] a b zero e = inr (refl, some-injective a b e)
at_last_or [] a b (suc i) e = absurd (some-ne-none b (sym e))
at_last_or (x ∷ xs) a b zero e = inl e
at_last_or (x ∷ xs) a b (suc i) e = ⊎_elim (λ (h : get_elem? xs i ≡ some b). inl h) (λ (t : (i ≡ length xs) × (a ≡ b)). inr (ap suc t.0, t.1)) (at_last_or xs a b i e)

module _ (items : List ℕ) (views : List Known) (s : IsInOrder items views) (pass : ℕ) (known : Known) (at : get_elem? views pass ≡ some known) where
  abbrev before : List Known
  before = set views pass (accompanied known)

  still : (entries : List Entry) → AllKnown views entries → AllKnown before entries
  still entries all = known_after views pass known (accompanied known) at refl entries all

  longer : (entries : List Entry) → AllKnown views entries → AllKnown (before ++ newcomer known ∷ []) entries
  longer entries all place entry there = let t = still entries all place entry there in (t.0, (t.1.0, at_longer before (newcomer known ∷ []) entry.pass t.1.0 t.1.1, t.1.2))

  not_new : (pass part : ℕ) (entries : List Entry) → AllKnown views entries → pass ≡ length before → those_of pass part entries ≡ []
  not_new pass part entries all last = those-none pass part entries (λ i e there. let t = still entries all i e there in let h = in_range before e.pass t.1.0 t.1.1 in let far : pass ≢ e.pass = λ z. omega arith in inl far)

  not_alone : Lone (before ++ newcomer known ∷ [])
  not_alone j k there alone = ⊎_elim
      (λ (old : get_elem? before j ≡ some k). ⊎_elim
      (λ (m : (j ≡ pass) × (accompanied known ≡ k)). absurd (true≢false (sym alone ∙ ap (λ (x : Known). x.alone) (sym m.1))))
      (λ (m : (j ≢ pass) × (get_elem? views j ≡ some k)). let l = s.lone j k m.1 alone in let one = l.0 in let a = in_range views j k m.1 in let b = in_range views pass known at in let n = m.0 in absurd (n (let h : j ≡ pass = omega arith in h)))
      (at_set views pass j (accompanied known) k old))
      (λ (new : (j ≡ length before) × (newcomer known ≡ k)). absurd (true≢false (sym alone ∙ ap (λ (x : Known). x.alone) (sym new.1))))
      (at_last_or before (newcomer known) k j there)

  which : (half : Known) (j : ℕ) → get_elem? (before ++ newcomer known ∷ []) j ≡ some half → (accompanied known ≡ half) ⊎ ((newcomer known ≡ half) ⊎ (get_elem? views j ≡ some half))
  which half j there = ⊎_elim
      (λ (old : get_elem? before j ≡ some half). ⊎_elim (λ (m : (j ≡ pass) × (accompanied known ≡ half)). inl m.1) (λ (m : (j ≢ pass) × (get_elem? views j ≡ some half)). inr (inr m.1)) (at_set views pass j (accompanied known) half old))
      (λ (new : (j ≡ length before) × (newcomer known ≡ half)). inr (inl new.1))
      (at_last_or before (newcomer known) half j there)

  split_rule : IsInOrder items (before ++ newcomer known ∷ [])
  split_rule = record {
    puts = s.puts;
    takes = s.takes;
    first_in_first_out = s.first_in_first_out;
    told = λ j k what t. ⊎_elim
        (λ (old : get_elem? before j ≡ some t.0). told_after views pass known (accompanied known) at refl (Tells s.puts s.takes) (s.told pass 0 known.own (known, at, refl)) (λ j k what n h. s.told j k what h) j k what (t.0, old, t.2))
        (λ (new : (j ≡ length before) × (newcomer known ≡ t.0)). let h = idle k what (subst (λ (x : Known). get_elem? (parts_of x) k ≡ some what) (sym new.1) t.2) in
        (not_new j k s.puts s.puts_known new.0 ∙ sym h.0, not_new j k s.takes s.takes_known new.0 ∙ sym h.1))
        (at_last_or before (newcomer known) t.0 j t.1);
    puts_known = longer s.puts s.puts_known;
    takes_known = longer s.takes s.takes_known;
    lone = not_alone;
    staked = staked_split views s.puts s.takes pass known at s.staked which;
  }

pub forks : (pass : ℕ) (known : Known) → Forks IsInOrder pass known (accompanied known) (newcomer known)
forks pass known items views s at = split_rule items views s pass known at
