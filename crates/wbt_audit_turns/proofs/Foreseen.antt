-- A task's plan, action by action.
use Rattle.std.proofs.Common.{◌≡◌, ◌≢◌, ℕ, zero, suc, ◌+◌, ◌<◌, ◌⊎◌, inl, inr, Bool, true, false, eqb, List, [], ◌∷◌, ◌++◌, length, flat_map, get_or, set, refl, sym, ap, ◌∙◌, arith, length-append, eq-eqb, ne_eqb}
use Rattle.std.proofs.lemmas.Bool.{cond-true, cond-false, cases_eq}
use Rattle.std.proofs.lemmas.List.{get_or-set_same, get_or-set_other}
use Rattle.wbt_audit_walk.proofs.Common.{inode_at, Action, Inode, numbers, pages_of_action, rests_after}
use Rattle.wbt_trace.specs.declared.trace.Action.TheVariants as action
use Rattle.wbt_audit_turns.specs.Plans.{by_of, seen_more}
use Rattle.wbt_audit_turns.specs.Sides.{no_plan}
use Rattle.wbt_audit_turns.specs.declared.machine.TaskPlan.{TaskPlan}

many : (from count : ℕ) → length (numbers from count) ≡ count
many from zero = refl
many from (suc count) = ap suc (many (from + 1) count)

own_pages : (inodes : List Inode) (plan : TaskPlan) (task : ℕ) (a : Action) → by_of a ≡ task → (seen_more plan a).pages ≡ plan.pages + length (pages_of_action inodes task a)
own_pages inodes plan task (action.Write by inode from count) own =
    sym (ap (λ (xs : List ℕ). plan.pages + length xs) (cond-true (eqb by task) (numbers ((inode_at inode inodes).first + from) count) [] (eq-eqb by task own))
    ∙ ap (λ (n : ℕ). plan.pages + n) (many ((inode_at inode inodes).first + from) count))
own_pages inodes plan task (action.Rest by ticks) own = omega arith

other_pages : (inodes : List Inode) (task : ℕ) (a : Action) → by_of a ≢ task → pages_of_action inodes task a ≡ []
other_pages inodes task (action.Write by inode from count) other = cond-false (eqb by task) (numbers ((inode_at inode inodes).first + from) count) [] (ne_eqb by task other)
other_pages inodes task (action.Rest by ticks) other = refl

own_rest : (plan : TaskPlan) (task : ℕ) (a : Action) (more : List Action) → by_of a ≡ task → rests_after task (seen_more plan a).rests_last more ≡ rests_after task plan.rests_last (a ∷ more)
own_rest plan task (action.Write by inode from count) more own = ap (λ (b : Bool). rests_after task b more) (sym (cond-true (eqb by task) false plan.rests_last (eq-eqb by task own)))
own_rest plan task (action.Rest by ticks) more own = ap (λ (b : Bool). rests_after task b more) (sym (cond-true (eqb by task) true plan.rests_last (eq-eqb by task own)))

other_rest : (so_far : Bool) (task : ℕ) (a : Action) (more : List Action) → by_of a ≢ task → rests_after task so_far more ≡ rests_after task so_far (a ∷ more)
other_rest so_far task (action.Write by inode from count) more other = ap (λ (b : Bool). rests_after task b more) (sym (cond-false (eqb by task) false so_far (ne_eqb by task other)))
other_rest so_far task (action.Rest by ticks) more other = ap (λ (b : Bool). rests_after task b more) (sym (cond-false (eqb by task) true so_far (ne_eqb by task other)))

module _ (inodes : List Inode) (plans : List TaskPlan) (a : Action) (more : List Action) (new : TaskPlan) (there : by_of a < length plans) (is : new ≡ seen_more (get_or plans (by_of a) no_plan) a) where
  abbrev now : List TaskPlan
  now = set plans (by_of a) new

  pub pages_seen : (task : ℕ) → (get_or now task no_plan).pages + length (flat_map (pages_of_action inodes task) more)
      ≡ (get_or plans task no_plan).pages + length (flat_map (pages_of_action inodes task) (a ∷ more))
  pages_seen task = by (cases_eq (by_of a) task)
    where
      by : (by_of a ≡ task) ⊎ (by_of a ≢ task) → (get_or now task no_plan).pages + length (flat_map (pages_of_action inodes task) more)
          ≡ (get_or plans task no_plan).pages + length (flat_map (pages_of_action inodes task) (a ∷ more))
      by (inl own) =
          let at : get_or now task no_plan ≡ new = ap (λ (k : ℕ). get_or now k no_plan) (sym own) ∙ get_or-set_same plans (by_of a) new no_plan there in
          let was : get_or plans (by_of a) no_plan ≡ get_or plans task no_plan = ap (λ (k : ℕ). get_or plans k no_plan) own in
          let counts : (get_or now task no_plan).pages ≡ (get_or plans task no_plan).pages + length (pages_of_action inodes task a) =
          ap (λ (p : TaskPlan). p.pages) (at ∙ is ∙ ap (λ (p : TaskPlan). seen_more p a) was) ∙ own_pages inodes (get_or plans task no_plan) task a own in
          omega (arith, counts, length-append (pages_of_action inodes task a) (flat_map (pages_of_action inodes task) more))
      by (inr other) =
          let at : get_or now task no_plan ≡ get_or plans task no_plan = get_or-set_other plans (by_of a) task new no_plan (λ e. other (sym e)) in
          (λ i. (at i).pages + length (flat_map (pages_of_action inodes task) more))
          ∙ ap (λ (xs : List ℕ). (get_or plans task no_plan).pages + length (xs ++ flat_map (pages_of_action inodes task) more)) (sym (other_pages inodes task a other))

  pub rests_seen : (task : ℕ) → rests_after task (get_or now task no_plan).rests_last more ≡ rests_after task (get_or plans task no_plan).rests_last (a ∷ more)
  rests_seen task = by (cases_eq (by_of a) task)
    where
      by : (by_of a ≡ task) ⊎ (by_of a ≢ task) → rests_after task (get_or now task no_plan).rests_last more ≡ rests_after task (get_or plans task no_plan).rests_last (a ∷ more)
      by (inl own) =
          let at : get_or now task no_plan ≡ new = ap (λ (k : ℕ). get_or now k no_plan) (sym own) ∙ get_or-set_same plans (by_of a) new no_plan there in
          let was : get_or plans (by_of a) no_plan ≡ get_or plans task no_plan = ap (λ (k : ℕ). get_or plans k no_plan) own in
          ap (λ (p : TaskPlan). rests_after task p.rests_last more) (at ∙ is ∙ ap (λ (p : TaskPlan). seen_more p a) was) ∙ own_rest (get_or plans task no_plan) task a more own
      by (inr other) =
          let at : get_or now task no_plan ≡ get_or plans task no_plan = get_or-set_other plans (by_of a) task new no_plan (λ e. other (sym e)) in
          (λ i. rests_after task (at i).rests_last more) ∙ other_rest (get_or plans task no_plan).rests_last task a more other
