-- Each write of a task is by a writer that has a number, in a context that there is.
use Rattle.std.proofs.Common.{◌≡◌, ℕ, zero, suc, ◌+◌, ◌<◌, ◌≤◌, Bool, true, false, ◌&&◌, ◌||◌, cond, eqb, List, [], ◌∷◌, ◌++◌, length, get_or, Some, refl, sym, ap, ◌∙◌, subst, arith, eq-eqb, true≢false, count_by}
use Rattle.std.specs.Prelude.{slice_get}
use Rattle.std.proofs.lemmas.Bool.{cond_both}
use Rattle.std.proofs.lemmas.List.Elements.{All-get_or}
use Rattle.std.proofs.lemmas.List.Sums.{sum_by-cons}
use Rattle.wbt_writer.proofs.Common.{all_writers, number_from, number_of, IsLawful, inode_at, Action, Write, Rest, Inode, Trace, no_name}
use Rattle.wbt_kit.proofs.Laid.{IsPair, writers_in_range}
use Rattle.wbt_trace.specs.Lawful.{writers_after, writers_of}
use Rattle.wbt_trace.specs.WriterList.{is_writer, with_writer}
use Rattle.wbt_trace.specs.declared.writers.Writer.{Writer}
use Rattle.wbt_trace.proofs.InOrder.{counts_stay}

abbrev is_pair : (task context : ℕ) (w : Writer) → Bool
is_pair task context w = eqb w.task task && eqb w.context context

abbrev one_if : (b : Bool) → ℕ
one_if true = 1
one_if false = 0

counted : (test : Writer → Bool) (w : Writer) (more : List Writer) → count_by test (w ∷ more) ≡ one_if (test w) + count_by test more
counted test w more = sum_by-cons (λ (x : Writer). cond (test x) 1 0) w more ∙ ap (λ (n : ℕ). n + count_by test more) (one (test w))
  where
    one : (b : Bool) → cond b 1 0 ≡ one_if b
    one true = refl
    one false = refl

-- ---- a pair that stands among writers

any_counts : (task context : ℕ) (ws : List Writer) → is_writer task context ws ≡ true → 1 ≤ count_by (is_pair task context) ws
any_counts task context [] is = absurd (true≢false (sym is))
any_counts task context (w ∷ ws) is = by (any_counts task context ws) (is_pair task context w) refl is
  where
    by : (is_writer task context ws ≡ true → 1 ≤ count_by (is_pair task context) ws) → (b : Bool) → is_pair task context w ≡ b → (b || is_writer task context ws) ≡ true → 1 ≤ count_by (is_pair task context) (w ∷ ws)
    by more true at found = let c = counted (is_pair task context) w ws in let o : one_if (is_pair task context w) ≡ 1 = ap one_if at in omega arith
    by more false at found = let c = counted (is_pair task context) w ws in let rest = more found in omega arith

counts_number : (task context k : ℕ) (ws : List Writer) → 1 ≤ count_by (is_pair task context) ws → number_from task context k ws < k + length ws
counts_number task context k [] some = absurd (omega arith)
counts_number task context k (w ∷ ws) some = cond_both (is_pair task context w) k (number_from task context (k + 1) ws) (λ (n : ℕ). n < k + length (w ∷ ws))
    (λ is. omega arith)
    (λ not. let c = counted (is_pair task context) w ws in let o : one_if (is_pair task context w) ≡ 0 = ap one_if not in
    let rest = counts_number task context (k + 1) ws (omega arith) in omega arith)

-- ---- each write's pair stands there

still : (task context : ℕ) (ws more : List Writer) → is_writer task context ws ≡ true → is_writer task context (ws ++ more) ≡ true
still task context [] more is = absurd (true≢false (sym is))
still task context (w ∷ ws) more is = by (still task context ws more) (is_pair task context w) is
  where
    by : (is_writer task context ws ≡ true → is_writer task context (ws ++ more) ≡ true) → (b : Bool) → (b || is_writer task context ws) ≡ true → (b || is_writer task context (ws ++ more)) ≡ true
    by rest true found = refl
    by rest false found = rest found

behind : (task context : ℕ) (ws : List Writer) → is_writer task context (ws ++ (record { task = task; context = context }) ∷ []) ≡ true
behind task context [] = ap (λ (b : Bool). (b && eqb context context) || false) (eq-eqb task task refl) ∙ ap (λ (b : Bool). b || false) (eq-eqb context context refl)
behind task context (w ∷ ws) = by (behind task context ws) (is_pair task context w)
  where
    by : is_writer task context (ws ++ (record { task = task; context = context }) ∷ []) ≡ true → (b : Bool) → (b || is_writer task context (ws ++ (record { task = task; context = context }) ∷ [])) ≡ true
    by rest true = refl
    by rest false = rest

stays_with : (task context other at : ℕ) (ws : List Writer) → is_writer task context ws ≡ true → is_writer task context (with_writer other at ws) ≡ true
stays_with task context other at ws is = cond_both (is_writer other at ws) ws (ws ++ (record { task = other; context = at }) ∷ []) (λ (l : List Writer). is_writer task context l ≡ true)
    (λ known. is) (λ new. still task context ws ((record { task = other; context = at }) ∷ []) is)

puts : (task context : ℕ) (ws : List Writer) → is_writer task context (with_writer task context ws) ≡ true
puts task context ws = cond_both (is_writer task context ws) ws (ws ++ (record { task = task; context = context }) ∷ []) (λ (l : List Writer). is_writer task context l ≡ true)
    (λ known. known) (λ new. behind task context ws)

stays : (task context : ℕ) (ws : List Writer) (inodes : List Inode) (actions : List Action) → is_writer task context ws ≡ true → is_writer task context (writers_after ws inodes actions) ≡ true
stays task context ws inodes [] is = is
stays task context ws inodes (Write other inode from pages ∷ actions) is =
    stays task context (with_writer other (inode_at inode inodes).context ws) inodes actions (stays_with task context other (inode_at inode inodes).context ws is)
stays task context ws inodes (Rest other ticks ∷ actions) is = stays task context ws inodes actions is

some_is : (a b : Action) → Some a ≡ Some b → a ≡ b
some_is a b e = cc

stands : (task inode from pages k : ℕ) (ws : List Writer) (inodes : List Inode) (actions : List Action) → slice_get actions k ≡ Some (Write task inode from pages)
    → is_writer task (inode_at inode inodes).context (writers_after ws inodes actions) ≡ true
stands task inode from pages k ws inodes [] is = absurd cc
stands task inode from pages zero ws inodes (a ∷ actions) is =
    subst (λ (b : Action). is_writer task (inode_at inode inodes).context (writers_after ws inodes (b ∷ actions)) ≡ true) (sym (some_is a (Write task inode from pages) is))
    (stays task (inode_at inode inodes).context (with_writer task (inode_at inode inodes).context ws) inodes actions (puts task (inode_at inode inodes).context ws))
stands task inode from pages (suc k) ws inodes (Write other at of many ∷ actions) is =
    stands task inode from pages k (with_writer other (inode_at at inodes).context ws) inodes actions is
stands task inode from pages (suc k) ws inodes (Rest other ticks ∷ actions) is = stands task inode from pages k ws inodes actions is

module _ (trace : Trace) (lawful : IsLawful trace) where
  -- the writer of a write has a number
  pub its_number : (task inode from pages k : ℕ) → slice_get trace.actions k ≡ Some (Write task inode from pages) → number_of trace task (inode_at inode trace.inodes).context < length (all_writers trace)
  its_number task inode from pages k is =
      let context : ℕ = (inode_at inode trace.inodes).context in
      let any = any_counts task context (writers_of trace.inodes trace.actions) (stands task inode from pages k [] trace.inodes trace.actions is) in
      let same = counts_stay (length trace.tasks) (length trace.contexts) trace.inodes trace.actions lawful.within.inodes.each lawful.within.actions (is_pair task context) in
      let some : 1 ≤ count_by (is_pair task context) (all_writers trace) = omega arith in
      let low : number_from task context 0 (all_writers trace) < 0 + length (all_writers trace) = counts_number task context 0 (all_writers trace) some in omega arith

  -- the task and the context of a writer are there
  pub its_pair : (n : ℕ) → n < length (all_writers trace) → IsPair (length trace.tasks) (length trace.contexts) (get_or (all_writers trace) n no_name)
  its_pair n less = All-get_or (IsPair (length trace.tasks) (length trace.contexts)) (all_writers trace) n no_name less
      (writers_in_range 0 (length trace.tasks) (length trace.tasks) (length trace.contexts) (writers_of trace.inodes trace.actions) (omega arith))
