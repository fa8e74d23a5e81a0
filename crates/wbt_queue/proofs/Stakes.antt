-- Who has all stakes knows all: sums over what all passes know, where one pass changes, is split or takes in another.
use Rattle.std.proofs.Common.{◌≡◌, ◌≢◌, ℕ, zero, suc, ◌+◌, ◌-◌, ◌^◌, ◌<◌, ◌≤◌, ◌⊎◌, true, false, true≢false, List, [], ◌∷◌, ◌++◌, set, sum_by, sym, refl, ap, ap₂, ◌∙◌, subst, inl, inr, ⊎_elim, arith, append_assoc}
use Rattle.std.proofs.lemmas.List.Sums.{sum_by-cons, sum_by-append, sum_by_push}
use mathlib.Core.List.{map-append}
use mathlib.Core.Option.{some, some-injective, some-ne-none}
use lib.ListN.{get_elem?}
use Rattle.atomic_table.proofs.Lists.{at_set, set_else}
use Rattle.wbt_queue.specs.declared.known.Part.{Part}
use Rattle.wbt_queue.specs.declared.known.Known.{Known}
use Rattle.wbt_queue.specs.Known.{opening, newcomer, accompanied, handed, knows_both, taken_in, parts_of, after_put, after_take, puts_of, takes_of, puts_by, takes_by}
use Rattle.wbt_queue.specs.Order.{Entry, inodes_of, all_stakes, IsPoor, AreStaked, AreLeft}
use Rattle.wbt_queue.proofs.Entries.{entry_of}

-- ---- sums over a list in which one item becomes another

module _ {V : Type 0} where
  pub sum_set : (f : V → ℕ) (views : List V) (id : ℕ) (v w : V) → get_elem? views id ≡ some v → sum_by f (set views id w) + f v ≡ sum_by f views + f w
  sum_set f [] id v w at = absurd (some-ne-none v (sym at))
  sum_set f (x ∷ xs) zero v w at =
      let same : f x ≡ f v = ap f (some-injective x v at) in
      omega (arith, sum_by-cons f x xs, sum_by-cons f w xs)
  sum_set f (x ∷ xs) (suc id) v w at =
      let rest = sum_set f xs id v w at in
      omega (arith, sum_by-cons f x xs, sum_by-cons f x (set xs id w))

  -- one item became two
  parted : (f : V → ℕ) (views : List V) (id : ℕ) (v left right : V) → get_elem? views id ≡ some v
      → sum_by f (set views id left ++ right ∷ []) + f v ≡ sum_by f views + f left + f right
  parted f views id v left right at =
      let one = sum_set f views id v left at in
      let two = sum_by_push f (set views id left) right in
      omega arith

  -- of two items one got all, and the other was left with nothing
  merged : (f : V → ℕ) (views : List V) (id other : ℕ) (v w both spent : V) → get_elem? views id ≡ some v → get_elem? (set views id both) other ≡ some w
      → sum_by f (set (set views id both) other spent) + f w + f v ≡ sum_by f views + f both + f spent
  merged f views id other v w both spent at there =
      let one = sum_set f views id v both at in
      let two = sum_set f (set views id both) other w spent there in
      omega arith

  one_of : (g : V → ℕ) (views : List V) (id : ℕ) (v : V) → get_elem? views id ≡ some v → g v ≤ sum_by g views
  one_of g [] id v at = absurd (some-ne-none v (sym at))
  one_of g (x ∷ xs) zero v at =
      let same : g x ≡ g v = ap g (some-injective x v at) in
      omega (arith, sum_by-cons g x xs)
  one_of g (x ∷ xs) (suc id) v at =
      let rest = one_of g xs id v at in
      omega (arith, sum_by-cons g x xs)

  all_zero : (g f : V → ℕ) (views : List V) → ((j : ℕ) (v : V) → get_elem? views j ≡ some v → g v ≡ 0 → f v ≡ 0) → sum_by g views ≡ 0 → sum_by f views ≡ 0
  all_zero g f [] idle none = refl
  all_zero g f (x ∷ xs) idle none =
      let parts = sum_by-cons g x xs in
      let empty : g x ≡ 0 = omega arith in
      let less : sum_by g xs ≡ 0 = omega arith in
      let here = idle 0 x refl empty in
      let rest = all_zero g f xs (λ j v at. idle (suc j) v at) less in
      omega (arith, sum_by-cons f x xs)

  -- where one has the whole of one sum, and who has nothing of it has nothing of the other, it has the whole of the other
  only_mine : (g f : V → ℕ) (views : List V) (id : ℕ) (v : V) → ((j : ℕ) (u : V) → get_elem? views j ≡ some u → g u ≡ 0 → f u ≡ 0) → get_elem? views id ≡ some v
      → sum_by g views ≤ g v → sum_by f views ≡ f v
  only_mine g f [] id v idle at most = absurd (some-ne-none v (sym at))
  only_mine g f (x ∷ xs) zero v idle at most =
      let is = some-injective x v at in
      let mine : g x ≡ g v = ap g is in
      let same : f x ≡ f v = ap f is in
      let parts = sum_by-cons g x xs in
      let less : sum_by g xs ≡ 0 = omega arith in
      let rest = all_zero g f xs (λ j u there. idle (suc j) u there) less in
      omega (arith, sum_by-cons f x xs)
  only_mine g f (x ∷ xs) (suc id) v idle at most =
      let parts = sum_by-cons g x xs in
      let one = one_of g xs id v at in
      let empty : g x ≡ 0 = omega arith in
      let here = idle 0 x refl empty in
      let rest = only_mine g f xs id v (λ j u there. idle (suc j) u there) at (omega arith) in
      omega (arith, sum_by-cons f x xs)

-- ---- what a pass knows in all

abbrev stakes_of : (known : Known) → ℕ
stakes_of known = known.stakes

abbrev puts_weigh : (weight : ℕ → ℕ) (known : Known) → ℕ
puts_weigh weight known = sum_by weight (puts_by known)

abbrev takes_weigh : (weight : ℕ → ℕ) (known : Known) → ℕ
takes_weigh weight known = sum_by weight (takes_by known)

puts-append : (l m : List Part) → puts_of (l ++ m) ≡ puts_of l ++ puts_of m
puts-append [] m = refl
puts-append (x ∷ xs) m = ap (λ (k : List ℕ). x.puts ++ k) (puts-append xs m) ∙ sym (append_assoc x.puts (puts_of xs) (puts_of m))

takes-append : (l m : List Part) → takes_of (l ++ m) ≡ takes_of l ++ takes_of m
takes-append [] m = refl
takes-append (x ∷ xs) m = ap (λ (k : List ℕ). x.takes ++ k) (takes-append xs m) ∙ sym (append_assoc x.takes (takes_of xs) (takes_of m))

puts-both : (v w : Known) → puts_by (knows_both v w) ≡ puts_by v ++ puts_by w
puts-both v w = puts-append (parts_of v) (parts_of w)

takes-both : (v w : Known) → takes_by (knows_both v w) ≡ takes_by v ++ takes_by w
takes-both v w = takes-append (parts_of v) (parts_of w)

weighs-both : (weight : ℕ → ℕ) (all one two : List ℕ) → all ≡ one ++ two → sum_by weight all ≡ sum_by weight one + sum_by weight two
weighs-both weight all one two is = ap (sum_by weight) is ∙ sum_by-append weight one two

-- one number more among what it did itself
weighs-more : (weight : ℕ → ℕ) (own rest : List ℕ) (inode : ℕ) → sum_by weight ((own ++ inode ∷ []) ++ rest) ≡ sum_by weight (own ++ rest) + weight inode
weighs-more weight own rest inode =
    let a = sum_by-append weight (own ++ inode ∷ []) rest in
    let b = sum_by_push weight own inode in
    let c = sum_by-append weight own rest in
    omega arith

entry-more : (weight : ℕ → ℕ) (pass part inode : ℕ) (entries : List Entry) → sum_by weight (inodes_of (entries ++ entry_of pass part inode ∷ [])) ≡ sum_by weight (inodes_of entries) + weight inode
entry-more weight pass part inode entries = ap (sum_by weight) (map-append (λ (e : Entry). e.inode) entries (entry_of pass part inode ∷ [])) ∙ sum_by_push weight (inodes_of entries) inode

-- ---- the first pass

first_is : (known : Known) (pass : ℕ) → get_elem? (opening ∷ []) pass ≡ some known → opening ≡ known
first_is known zero e = some-injective opening known e
first_is known (suc i) e = absurd (some-ne-none known (sym e))

pub staked_first : AreStaked (opening ∷ []) [] []
staked_first = record {
  most = (let all : all_stakes (opening ∷ []) ≡ 2 ^ 32 = refl in omega arith);
  poor = λ pass known there none. let is = ap stakes_of (first_is known pass there) in let all : stakes_of opening ≡ 2 ^ 32 = refl in absurd (omega arith);
  all_puts = λ weight. refl;
  all_takes = λ weight. refl;
}

-- ---- a pass that puts or takes

module _ (views : List Known) (puts takes : List Entry) (pass : ℕ) (old new : Known) (at : get_elem? views pass ≡ some old) (s : AreStaked views puts takes) where
  same_stakes : new.stakes ≡ old.stakes → all_stakes (set views pass new) ≡ all_stakes views
  same_stakes same = let all = sum_set stakes_of views pass old new at in omega arith

  still_poor : old.gone ≡ false → new.stakes ≡ old.stakes → (j : ℕ) (known : Known) → get_elem? (set views pass new) j ≡ some known → known.stakes ≡ 0 → IsPoor (set views pass new) known
  still_poor here same j known there none =
      let all = same_stakes same in
      ⊎_elim
      (λ (m : (j ≡ pass) × (new ≡ known)). let stakes = ap stakes_of m.1 in ⊎_elim
      (λ (lost : all_stakes views < 2 ^ 32). inl (omega arith))
      (λ (not : (old.gone ≡ true) × (puts_by old ≡ []) × (takes_by old ≡ [])). absurd (true≢false (sym not.0 ∙ here)))
      (s.poor pass old at (omega arith)))
      (λ (m : (j ≢ pass) × (get_elem? views j ≡ some known)). ⊎_elim
      (λ (lost : all_stakes views < 2 ^ 32). inl (omega arith))
      (λ (its : (known.gone ≡ true) × (puts_by known ≡ []) × (takes_by known ≡ [])). inr its)
      (s.poor j known m.1 none))
      (at_set views pass j new known there)

pub staked_put : (views : List Known) (puts takes : List Entry) (pass : ℕ) (old : Known) (inode : ℕ) → get_elem? views pass ≡ some old → old.gone ≡ false → AreStaked views puts takes
    → AreStaked (set views pass (after_put inode old)) (puts ++ entry_of pass 0 inode ∷ []) takes
staked_put views puts takes pass old inode at here s = let new : Known = after_put inode old in record {
  most = (let same = same_stakes views puts takes pass old new at s refl in let most = s.most in omega arith);
  poor = still_poor views puts takes pass old new at s here refl;
  all_puts = λ weight.
      let all = sum_set (puts_weigh weight) views pass old new at in
      let more = weighs-more weight old.own.puts (puts_of old.joined) inode in
      let was = s.all_puts weight in
      let entries = entry-more weight pass 0 inode puts in
      omega arith;
  all_takes = λ weight.
      let all = sum_set (takes_weigh weight) views pass old new at in
      let same : takes_weigh weight new ≡ takes_weigh weight old = refl in
      let was = s.all_takes weight in
      omega arith;
}

pub staked_take : (views : List Known) (puts takes : List Entry) (pass : ℕ) (old : Known) (inode : ℕ) → get_elem? views pass ≡ some old → old.gone ≡ false → AreStaked views puts takes
    → AreStaked (set views pass (after_take inode old)) puts (takes ++ entry_of pass 0 inode ∷ [])
staked_take views puts takes pass old inode at here s = let new : Known = after_take inode old in record {
  most = (let same = same_stakes views puts takes pass old new at s refl in let most = s.most in omega arith);
  poor = still_poor views puts takes pass old new at s here refl;
  all_puts = λ weight.
      let all = sum_set (puts_weigh weight) views pass old new at in
      let same : puts_weigh weight new ≡ puts_weigh weight old = refl in
      let was = s.all_puts weight in
      omega arith;
  all_takes = λ weight.
      let all = sum_set (takes_weigh weight) views pass old new at in
      let more = weighs-more weight old.own.takes (takes_of old.joined) inode in
      let was = s.all_takes weight in
      let entries = entry-more weight pass 0 inode takes in
      omega arith;
}

-- ---- a split

hands_no_more : (stakes : ℕ) → (stakes - 1) + handed stakes ≤ stakes
hands_no_more zero = omega arith
hands_no_more (suc zero) = omega arith
hands_no_more (suc (suc more)) = omega arith

loses_one : (stakes : ℕ) → stakes ≡ 1 → (stakes - 1) + handed stakes ≡ 0
loses_one zero e = absurd (omega arith)
loses_one (suc zero) e = refl
loses_one (suc (suc more)) e = absurd (omega arith)

handed_none : (stakes : ℕ) → handed stakes ≡ 0 → (stakes ≡ 0) ⊎ (stakes ≡ 1)
handed_none zero e = inl refl
handed_none (suc zero) e = inr refl
handed_none (suc (suc more)) e = absurd (omega arith)

kept_none : (stakes : ℕ) → stakes - 1 ≡ 0 → (stakes ≡ 0) ⊎ (stakes ≡ 1)
kept_none zero e = inl refl
kept_none (suc zero) e = inr refl
kept_none (suc (suc more)) e = absurd (omega arith)

module _ (views : List Known) (puts takes : List Entry) (pass : ℕ) (v : Known) (at : get_elem? views pass ≡ some v) (s : AreStaked views puts takes) where
  abbrev split_views : List Known
  split_views = set views pass (accompanied v) ++ newcomer v ∷ []

  split_stakes : all_stakes split_views + v.stakes ≡ all_stakes views + (v.stakes - 1) + handed v.stakes
  split_stakes = parted stakes_of views pass v (accompanied v) (newcomer v) at

  fewer : all_stakes split_views ≤ all_stakes views
  fewer = let all = split_stakes in let most = hands_no_more v.stakes in omega arith

  -- who has no stake after the split comes of a pass with one at most: the one is lost then
  poor_half : (half : Known) → half.gone ≡ v.gone → ((puts_by v ≡ []) → puts_by half ≡ []) → ((takes_by v ≡ []) → takes_by half ≡ []) → (v.stakes ≡ 0) ⊎ (v.stakes ≡ 1) → IsPoor split_views half
  poor_half half same no_puts no_takes (inl none) = ⊎_elim
      (λ (lost : all_stakes views < 2 ^ 32). let less = fewer in inl (omega arith))
      (λ (its : (v.gone ≡ true) × (puts_by v ≡ []) × (takes_by v ≡ [])). inr (same ∙ its.0, no_puts its.1, no_takes its.2))
      (s.poor pass v at none)
  poor_half half same no_puts no_takes (inr one) = let all = split_stakes in let lost = loses_one v.stakes one in let most = s.most in inl (omega arith)

  pub staked_split : ((half : Known) (j : ℕ) → get_elem? split_views j ≡ some half → (accompanied v ≡ half) ⊎ (newcomer v ≡ half) ⊎ (get_elem? views j ≡ some half)) → AreStaked split_views puts takes
  staked_split which = record {
    most = (let less = fewer in let most = s.most in omega arith);
    poor = λ j known there none. ⊎_elim
        (λ (m : accompanied v ≡ known). subst (IsPoor split_views) m (poor_half (accompanied v) refl (λ e. e) (λ e. e) (kept_none v.stakes (ap stakes_of m ∙ none))))
        (λ (m : (newcomer v ≡ known) ⊎ (get_elem? views j ≡ some known)). ⊎_elim
        (λ (n : newcomer v ≡ known). subst (IsPoor split_views) n (poor_half (newcomer v) refl (λ _. refl) (λ _. refl) (handed_none v.stakes (ap stakes_of n ∙ none))))
        (λ (n : get_elem? views j ≡ some known). ⊎_elim
        (λ (lost : all_stakes views < 2 ^ 32). let less = fewer in inl (omega arith))
        (λ (its : (known.gone ≡ true) × (puts_by known ≡ []) × (takes_by known ≡ [])). inr its)
        (s.poor j known n none)) m)
        (which known j there);
    all_puts = λ weight.
        let all = parted (puts_weigh weight) views pass v (accompanied v) (newcomer v) at in
        let left : puts_weigh weight (accompanied v) ≡ puts_weigh weight v = refl in
        let new : puts_weigh weight (newcomer v) ≡ 0 = refl in
        let was = s.all_puts weight in
        omega arith;
    all_takes = λ weight.
        let all = parted (takes_weigh weight) views pass v (accompanied v) (newcomer v) at in
        let left : takes_weigh weight (accompanied v) ≡ takes_weigh weight v = refl in
        let new : takes_weigh weight (newcomer v) ≡ 0 = refl in
        let was = s.all_takes weight in
        omega arith;
  }

-- ---- a join

module _ (views : List Known) (puts takes : List Entry) (pass other : ℕ) (v w : Known) (at : get_elem? views pass ≡ some v) (apart : other ≢ pass) (there : get_elem? (set views pass (knows_both v w)) other ≡ some w) (s : AreStaked views puts takes) where
  abbrev joined_views : List Known
  joined_views = set (set views pass (knows_both v w)) other taken_in

  joined_stakes : all_stakes joined_views ≡ all_stakes views
  joined_stakes =
      let all = merged stakes_of views pass other v w (knows_both v w) taken_in at there in
      let both : stakes_of (knows_both v w) ≡ v.stakes + w.stakes = refl in
      let none : stakes_of taken_in ≡ 0 = refl in
      omega arith

  other_was : get_elem? views other ≡ some w
  other_was = sym (set_else views pass other (knows_both v w) apart) ∙ there

  lost_still : (known : Known) → all_stakes views < 2 ^ 32 → IsPoor joined_views known
  lost_still known lost = let same = joined_stakes in inl (omega arith)

  empty-both : (all one two : List ℕ) → all ≡ one ++ two → one ≡ [] → two ≡ [] → all ≡ []
  empty-both all one two is a b = is ∙ ap₂ (λ (l m : List ℕ). l ++ m) a b

  poor_both : v.stakes + w.stakes ≡ 0 → IsPoor joined_views (knows_both v w)
  poor_both none = ⊎_elim (lost_still (knows_both v w))
      (λ (a : (v.gone ≡ true) × (puts_by v ≡ []) × (takes_by v ≡ [])). ⊎_elim (lost_still (knows_both v w))
      (λ (b : (w.gone ≡ true) × (puts_by w ≡ []) × (takes_by w ≡ [])).
      inr (a.0, empty-both (puts_by (knows_both v w)) (puts_by v) (puts_by w) (puts-both v w) a.1 b.1, empty-both (takes_by (knows_both v w)) (takes_by v) (takes_by w) (takes-both v w) a.2 b.2))
      (s.poor other w other_was (omega arith)))
      (s.poor pass v at (omega arith))

  -- `puts'` and `takes'` are the entries under their new owners
  pub staked_join : (puts' takes' : List Entry) → inodes_of puts' ≡ inodes_of puts → inodes_of takes' ≡ inodes_of takes → AreStaked joined_views puts' takes'
  staked_join puts' takes' same_puts same_takes = record {
    most = (let same = joined_stakes in let most = s.most in omega arith);
    poor = λ j known is_at none. ⊎_elim
        (λ (x : (j ≡ other) × (taken_in ≡ known)). subst (IsPoor joined_views) x.1 (inr (refl, refl, refl)))
        (λ (x : (j ≢ other) × (get_elem? (set views pass (knows_both v w)) j ≡ some known)). ⊎_elim
        (λ (y : (j ≡ pass) × (knows_both v w ≡ known)). subst (IsPoor joined_views) y.1 (poor_both (ap stakes_of y.1 ∙ none)))
        (λ (y : (j ≢ pass) × (get_elem? views j ≡ some known)). ⊎_elim (lost_still known)
        (λ (its : (known.gone ≡ true) × (puts_by known ≡ []) × (takes_by known ≡ [])). inr its)
        (s.poor j known y.1 none))
        (at_set views pass j (knows_both v w) known x.1))
        (at_set (set views pass (knows_both v w)) other j taken_in known is_at);
    all_puts = λ weight.
        let all = merged (puts_weigh weight) views pass other v w (knows_both v w) taken_in at there in
        let both : puts_weigh weight (knows_both v w) ≡ puts_weigh weight v + puts_weigh weight w = weighs-both weight (puts_by (knows_both v w)) (puts_by v) (puts_by w) (puts-both v w) in
        let none : puts_weigh weight taken_in ≡ 0 = refl in
        let was = s.all_puts weight in
        let same = ap (sum_by weight) same_puts in
        omega arith;
    all_takes = λ weight.
        let all = merged (takes_weigh weight) views pass other v w (knows_both v w) taken_in at there in
        let both : takes_weigh weight (knows_both v w) ≡ takes_weigh weight v + takes_weigh weight w = weighs-both weight (takes_by (knows_both v w)) (takes_by v) (takes_by w) (takes-both v w) in
        let none : takes_weigh weight taken_in ≡ 0 = refl in
        let was = s.all_takes weight in
        let same = ap (sum_by weight) same_takes in
        omega arith;
  }

-- ---- what a pass with all stakes knows

no_weight : (weight : ℕ → ℕ) (numbers : List ℕ) → numbers ≡ [] → sum_by weight numbers ≡ 0
no_weight weight numbers none = ap (sum_by weight) none

pub whole_knows : (items : List ℕ) (views : List Known) (puts takes : List Entry) (pass : ℕ) (known : Known) → AreStaked views puts takes → inodes_of puts ≡ inodes_of takes ++ items
    → get_elem? views pass ≡ some known → known.stakes ≡ 2 ^ 32 → AreLeft known items
whole_knows items views puts takes pass known s fifo at all weight =
    let most : all_stakes views ≤ known.stakes = (let m = s.most in omega arith) in
    let mine = only_mine stakes_of (puts_weigh weight) views pass known (λ j u there none. nothing j u there none (λ (h : puts_by u ≡ []) (g : takes_by u ≡ []). no_weight weight (puts_by u) h)) at most in
    let taken = only_mine stakes_of (takes_weigh weight) views pass known (λ j u there none. nothing j u there none (λ (h : puts_by u ≡ []) (g : takes_by u ≡ []). no_weight weight (takes_by u) g)) at most in
    let puts_are = s.all_puts weight in
    let takes_are = s.all_takes weight in
    let order = weighs-both weight (inodes_of puts) (inodes_of takes) items fifo in
    omega arith
  where
    nothing : {P : Type 0} (j : ℕ) (u : Known) → get_elem? views j ≡ some u → u.stakes ≡ 0 → ((puts_by u ≡ []) → (takes_by u ≡ []) → P) → P
    nothing j u there none use_it = ⊎_elim
        (λ (lost : all_stakes views < 2 ^ 32). let least = one_of stakes_of views pass known at in absurd (omega arith))
        (λ (its : (u.gone ≡ true) × (puts_by u ≡ []) × (takes_by u ≡ [])). use_it its.1 its.2)
        (s.poor j u there none)
