-- A join keeps the rule: the other pass's entries stand behind the parts that the one pass had.
use Rattle.std.proofs.Common.{◌≡◌, ◌≢◌, ℕ, zero, suc, ◌+◌, ◌<◌, ◌⊎◌, Bool, true≢false, cond, eqb, List, [], ◌∷◌, ◌++◌, map, length, set, sym, refl, ap, ◌∙◌, subst, inl, inr, ⊎_elim, arith, eq-eqb, ne_eqb}
use mathlib.Core.Logic.{dite}
use mathlib.Core.Option.{some, some-injective, some-ne-none}
use native.Mathlib.Decide.{ℕ_discrete}
use lib.ListN.{get_elem?}
use Rattle.crossbeam_queue.specs.Fifo.{Merges}
use Rattle.atomic_table.proofs.Lists.{at_set, set_here, set_else, at_longer}
use Rattle.wbt_queue.specs.declared.known.Part.{Part}
use Rattle.wbt_queue.specs.declared.known.Known.{Known}
use Rattle.wbt_queue.specs.Known.{nothing, taken_in, parts_of, knows_both}
use Rattle.wbt_queue.specs.Order.{Entry, stands_in, those_of, HasPart, AllKnown, Tells, IsInOrder}
use Rattle.wbt_queue.proofs.Entries.{entry_of, stands-same, stands-other, those-none, inodes-map, those-map, at_map}
use Rattle.wbt_queue.proofs.Stakes.{staked_join}
use Rattle.wbt_queue.proofs.Views.{in_range, Lone}

-- an entry of the other pass becomes one of this pass, behind this many parts
moved : (other pass parts : ℕ) (entry : Entry) → Entry
moved other pass parts entry = cond (eqb entry.pass other) (entry_of pass (parts + entry.part) entry.inode) entry

moved-hit : (other pass parts : ℕ) (entry : Entry) → entry.pass ≡ other → moved other pass parts entry ≡ entry_of pass (parts + entry.part) entry.inode
unfolding moved
moved-hit other pass parts entry is = ap (λ (b : Bool). cond b (entry_of pass (parts + entry.part) entry.inode) entry) (eq-eqb entry.pass other is)

moved-miss : (other pass parts : ℕ) (entry : Entry) → entry.pass ≢ other → moved other pass parts entry ≡ entry
unfolding moved
moved-miss other pass parts entry n = ap (λ (b : Bool). cond b (entry_of pass (parts + entry.part) entry.inode) entry) (ne_eqb entry.pass other n)

moved-inode : (other pass parts : ℕ) (entry : Entry) → (moved other pass parts entry).inode ≡ entry.inode
moved-inode other pass parts entry = dite (ℕ_discrete entry.pass other) (λ h. ap (λ (e : Entry). e.inode) (moved-hit other pass parts entry h)) (λ n. ap (λ (e : Entry). e.inode) (moved-miss other pass parts entry n))

-- a place in two lists, one behind the other

in_either : (l m : List Part) (k : ℕ) (what : Part) → get_elem? (l ++ m) k ≡ some what → ((k < length l) × (get_elem? l k ≡ some what)) ⊎ ((d : ℕ) × (k ≡ length l + d) × (get_elem? m d ≡ some what))
in_either [] m k what e = inr (k, omega arith, e)
in_either (x ∷ xs) m zero what e = inl (omega arith, e)
in_either (x ∷ xs) m (suc k) what e = ⊎_elim (λ (t : (k < length xs) × (get_elem? xs k ≡ some what)). inl (let h = t.0 in omega arith, t.1))
    (λ (t : (d : ℕ) × (k ≡ length xs + d) × (get_elem? m d ≡ some what)). inr (t.0, (let h = t.1 in omega arith), t.2)) (in_either xs m k what e)

behind : (l m : List Part) (d : ℕ) (what : Part) → get_elem? m d ≡ some what → get_elem? (l ++ m) (length l + d) ≡ some what
behind [] m d what e = ap (λ (n : ℕ). get_elem? m n) (let h : length {A = Part} [] + d ≡ d = omega arith in h) ∙ e
behind (x ∷ xs) m d what e = ap (λ (n : ℕ). get_elem? (x ∷ (xs ++ m)) n) (let h : suc (length xs) + d ≡ suc (length xs + d) = omega arith in h) ∙ behind xs m d what e

idle_part : (part : ℕ) (what : Part) → get_elem? (nothing ∷ []) part ≡ some what → (what.puts ≡ []) × (what.takes ≡ [])
idle_part zero what e = let is = some-injective nothing what e in (ap (λ (p : Part). p.puts) (sym is), ap (λ (p : Part). p.takes) (sym is))
idle_part (suc k) what e = absurd (some-ne-none what (sym e))

module _ (items : List ℕ) (views : List Known) (s : IsInOrder items views) (pass other : ℕ) (v w : Known) (at : get_elem? views pass ≡ some v) (apart : other ≢ pass) (there : get_elem? (set views pass (knows_both v w)) other ≡ some w) where
  abbrev parts : ℕ
  parts = length (parts_of v)

  abbrev f : Entry → Entry
  f = moved other pass parts

  abbrev after : List Known
  after = set (set views pass (knows_both v w)) other taken_in

  other_was : get_elem? views other ≡ some w
  other_was = sym (set_else views pass other (knows_both v w) apart) ∙ there

  both_at : get_elem? after pass ≡ some (knows_both v w)
  both_at = set_else (set views pass (knows_both v w)) other pass taken_in (λ e. apart (sym e)) ∙ set_here views pass (knows_both v w) (in_range views pass v at)

  -- each entry stands in a part of what the passes know now

  abbrev Stands : (entry : Entry) → Type 0
  Stands entry = (what : Part) × HasPart after entry.pass entry.part what

  came : (d : Entry) (what : Part) (u : Known) → d.pass ≡ other → get_elem? views d.pass ≡ some u → get_elem? (parts_of u) d.part ≡ some what → Stands (f d)
  came d what u h was in_it = let is : u ≡ w = some-injective u w (sym was ∙ ap (λ (k : ℕ). get_elem? views k) h ∙ other_was) in
      subst Stands (sym (moved-hit other pass parts d h)) (what, (knows_both v w, both_at, behind (parts_of v) (parts_of w) d.part what (subst (λ (x : Known). get_elem? (parts_of x) d.part ≡ some what) is in_it)))

  stayed : (d : Entry) (what : Part) (u : Known) → d.pass ≢ other → get_elem? views d.pass ≡ some u → get_elem? (parts_of u) d.part ≡ some what → Stands (f d)
  stayed d what u n was in_it = subst Stands (sym (moved-miss other pass parts d n)) (dite (ℕ_discrete d.pass pass)
      (λ h. let is : u ≡ v = some-injective u v (sym was ∙ ap (λ (k : ℕ). get_elem? views k) h ∙ at) in
      (what, (knows_both v w, ap (λ (k : ℕ). get_elem? after k) h ∙ both_at, at_longer (parts_of v) (parts_of w) d.part what (subst (λ (x : Known). get_elem? (parts_of x) d.part ≡ some what) is in_it))))
      (λ g. (what, (u, set_else (set views pass (knows_both v w)) other d.pass taken_in n ∙ set_else views pass d.pass (knows_both v w) g ∙ was, in_it))))

  known_moved : (entries : List Entry) → AllKnown views entries → AllKnown after (map f entries)
  known_moved entries all i entry e = let m = at_map f entries i entry e in let d : Entry = m.0 in let t = all i d m.1 in
      subst Stands m.2 (dite (ℕ_discrete d.pass other) (λ h. came d t.0 t.1.0 h t.1.1 t.1.2) (λ n. stayed d t.0 t.1.0 n t.1.1 t.1.2))

  -- what each part says

  test_hit : (j k : ℕ) (e : Entry) → e.pass ≡ other → stands_in j k (f e) ≡ stands_in j k (entry_of pass (parts + e.part) e.inode)
  test_hit j k e h = ap (stands_in j k) (moved-hit other pass parts e h)

  test_miss : (j k : ℕ) (e : Entry) → e.pass ≢ other → stands_in j k (f e) ≡ stands_in j k e
  test_miss j k e n = ap (stands_in j k) (moved-miss other pass parts e n)

  -- an entry of this pass lies in one of its parts
  within : (e : Entry) → e.pass ≡ pass → (what : Part) × HasPart views e.pass e.part what → e.part < parts
  within e is t = let same : t.1.0 ≡ v = some-injective t.1.0 v (sym t.1.1 ∙ ap (λ (k : ℕ). get_elem? views k) is ∙ at) in
      in_range (parts_of v) e.part t.0 (subst (λ (x : Known). get_elem? (parts_of x) e.part ≡ some t.0) same t.1.2)

  -- a part that was known before says what it said
  stays : (j k : ℕ) (entries : List Entry) → j ≢ other → (j ≡ pass → k < parts) → those_of j k (map f entries) ≡ those_of j k entries
  stays j k entries n low = those-map j k j k f (moved-inode other pass parts) entries (λ i e _. dite (ℕ_discrete e.pass other)
      (λ h. test_hit j k e h ∙ stands-other j k (entry_of pass (parts + e.part) e.inode) (dite (ℕ_discrete j pass) (λ g. let l = low g in let far : k ≢ parts + e.part = λ z. omega arith in inr far) (λ g. inl g)) ∙ sym (stands-other j k e (inl (λ z. n (z ∙ h)))))
      (λ h. test_miss j k e h))

  -- a part that came says what it said of the other pass
  comes : (d : ℕ) (entries : List Entry) → AllKnown views entries → those_of pass (parts + d) (map f entries) ≡ those_of other d entries
  comes d entries all = those-map pass (parts + d) other d f (moved-inode other pass parts) entries (λ i e ate. dite (ℕ_discrete e.pass other)
      (λ h. test_hit pass (parts + d) e h ∙ dite (ℕ_discrete d e.part)
      (λ g. stands-same pass (parts + d) (entry_of pass (parts + e.part) e.inode) refl (ap (λ (x : ℕ). parts + x) g) ∙ sym (stands-same other d e (sym h) g))
      (λ g. let far : parts + d ≢ parts + e.part = λ z. g (omega arith) in stands-other pass (parts + d) (entry_of pass (parts + e.part) e.inode) (inr far) ∙ sym (stands-other other d e (inr g))))
      (λ h. test_miss pass (parts + d) e h ∙ stands-other pass (parts + d) e (dite (ℕ_discrete e.pass pass) (λ g. let l = within e g (all i e ate) in let far : parts + d ≢ e.part = λ z. omega arith in inr far) (λ g. inl (λ z. g (sym z))))
      ∙ sym (stands-other other d e (inl (λ z. h (sym z))))))

  -- the other pass has no entry any more
  gone : (k : ℕ) (entries : List Entry) → those_of other k (map f entries) ≡ []
  gone k entries = those-none other k (map f entries) (λ i e ate. let m = at_map f entries i e ate in let d : Entry = m.0 in
      let far : other ≢ (f d).pass = dite (ℕ_discrete d.pass other) (λ h. λ z. apart (z ∙ ap (λ (x : Entry). x.pass) (moved-hit other pass parts d h))) (λ h. λ z. h (sym (z ∙ ap (λ (x : Entry). x.pass) (moved-miss other pass parts d h)))) in
      inl (subst (λ (x : Entry). other ≢ x.pass) m.2 far))

  told_both : (k : ℕ) (what : Part) → get_elem? (parts_of v ++ parts_of w) k ≡ some what → Tells (map f s.puts) (map f s.takes) pass k what
  told_both k what e = ⊎_elim
      (λ (z : (k < parts) × (get_elem? (parts_of v) k ≡ some what)). let old = s.told pass k what (v, at, z.1) in
      (stays pass k s.puts (λ e. apart (sym e)) (λ _. z.0) ∙ old.0, stays pass k s.takes (λ e. apart (sym e)) (λ _. z.0) ∙ old.1))
      (λ (z : (d : ℕ) × (k ≡ parts + d) × (get_elem? (parts_of w) d ≡ some what)). let old = s.told other z.0 what (w, other_was, z.2) in
      subst (λ (a : ℕ). Tells (map f s.puts) (map f s.takes) pass a what) (sym z.1) (comes z.0 s.puts s.puts_known ∙ old.0, comes z.0 s.takes s.takes_known ∙ old.1))
      (in_either (parts_of v) (parts_of w) k what e)

  told_now : (j k : ℕ) (what : Part) → HasPart after j k what → Tells (map f s.puts) (map f s.takes) j k what
  told_now j k what t = ⊎_elim
      (λ (x : (j ≡ other) × (taken_in ≡ t.0)). let h = idle_part k what (subst (λ (u : Known). get_elem? (parts_of u) k ≡ some what) (sym x.1) t.2) in
      subst (λ (a : ℕ). Tells (map f s.puts) (map f s.takes) a k what) (sym x.0) (gone k s.puts ∙ sym h.0, gone k s.takes ∙ sym h.1))
      (λ (x : (j ≢ other) × (get_elem? (set views pass (knows_both v w)) j ≡ some t.0)). ⊎_elim
      (λ (y : (j ≡ pass) × (knows_both v w ≡ t.0)). subst (λ (a : ℕ). Tells (map f s.puts) (map f s.takes) a k what) (sym y.0) (told_both k what (subst (λ (u : Known). get_elem? (parts_of u) k ≡ some what) (sym y.1) t.2)))
      (λ (y : (j ≢ pass) × (get_elem? views j ≡ some t.0)). let old = s.told j k what (t.0, y.1, t.2) in
      (stays j k s.puts x.0 (λ e. absurd (y.0 e)) ∙ old.0, stays j k s.takes x.0 (λ e. absurd (y.0 e)) ∙ old.1))
      (at_set views pass j (knows_both v w) t.0 x.1))
      (at_set (set views pass (knows_both v w)) other j taken_in t.0 t.1)

  not_alone : Lone after
  not_alone j k e alone = ⊎_elim
      (λ (x : (j ≡ other) × (taken_in ≡ k)). absurd (true≢false (sym alone ∙ ap (λ (u : Known). u.alone) (sym x.1))))
      (λ (x : (j ≢ other) × (get_elem? (set views pass (knows_both v w)) j ≡ some k)). ⊎_elim
      (λ (y : (j ≡ pass) × (knows_both v w ≡ k)). absurd (true≢false (sym alone ∙ ap (λ (u : Known). u.alone) (sym y.1))))
      (λ (y : (j ≢ pass) × (get_elem? views j ≡ some k)). let one = (s.lone j k y.1 alone).0 in let a = in_range views j k y.1 in let b = in_range views pass v at in let n = y.0 in absurd (n (let h : j ≡ pass = omega arith in h)))
      (at_set views pass j (knows_both v w) k x.1))
      (at_set (set views pass (knows_both v w)) other j taken_in k e)

  joined_rule : IsInOrder items after
  joined_rule = record {
    puts = map f s.puts;
    takes = map f s.takes;
    first_in_first_out = inodes-map f (moved-inode other pass parts) s.puts ∙ s.first_in_first_out ∙ ap (λ (l : List ℕ). l ++ items) (sym (inodes-map f (moved-inode other pass parts) s.takes));
    told = told_now;
    puts_known = known_moved s.puts s.puts_known;
    takes_known = known_moved s.takes s.takes_known;
    lone = not_alone;
    staked = staked_join views s.puts s.takes pass other v w at apart there s.staked (map f s.puts) (map f s.takes) (inodes-map f (moved-inode other pass parts) s.puts) (inodes-map f (moved-inode other pass parts) s.takes);
  }

pub merges : (pass : ℕ) (v : Known) (other : ℕ) (w : Known) → Merges IsInOrder pass v other w (knows_both v w) taken_in
merges pass v other w items views s at apart there = joined_rule items views s pass other v w at apart there
