use Rattle.std.proofs.Common.{◌≡◌, ◌<◌, ℕ, ◌++◌, [], List, take, drop, length, flat_map, get_or, sym, ap, ◌∙◌, subst, arith}
use Rattle.std.proofs.lemmas.List.{with_items_is}
use Rattle.wbt_audit_walk.proofs.Common.{Estimate, Shows, item_of, rest}
use Rattle.wbt_audit_turns.specs.Sides.{estimates_in}
use Rattle.wbt_audit_walk.specs.Walks.{Went}
use Rattle.wbt_audit_turns.proofs.Naming.{all_are, one_put}
use Rattle.wbt_audit_walk.proofs.Walking.{nearer}
use Rattle.wbt_audit_turns.proofs.named.Named.make.Goals as goal

pub loop-of_contexts-init : goal.loop-of_contexts-init
loop-of_contexts-init c = record {
  long = c.in_ok-of_contexts.ensures.long;
  each = λ context less.
      ap (λ (xs : List Estimate). xs ++ flat_map (estimates_in context) (rest c.in_ok-walk.walk)) (c.in_ok-of_contexts.ensures.empty context less)
      ∙ ap (flat_map (estimates_in context)) c.in_ok-walk.ensures.items ∙ all_are context c.args.journal.now;
}

pub loop-of_contexts-preserved : goal.loop-of_contexts-preserved
loop-of_contexts-preserved c =
    let inv = c.loop-of_contexts.invariant in
    let lists = c.loop-of_contexts.of_contexts in
    let put = c.in_ok-put.ensures in
    let was : c.deref_mut.result.now ≡ lists.items = c.deref_mut.ensures.value in
    let long : length c.put.new.lists ≡ length lists.items = put.long ∙ ap length was in
    let is : take lists.len (c.put.new.lists ++ drop (length c.put.new.lists) lists.items) ≡ c.put.new.lists = with_items_is lists c.put.new.lists (let len = c.deref_mut.ensures.len in omega (arith, long, put.long, len)) in
    let shows : Shows c.loop-of_contexts.walk c.in-Some.step c.next.new.self = subst (Went c.loop-of_contexts.walk c.next.new.self) c.in-Some.is c.in_ok-step.ensures in
    record {
      long = ap length is ∙ long ∙ inv.long;
      each = λ context less.
          ap (λ (xs : List (List Estimate)). get_or xs context [] ++ flat_map (estimates_in context) (rest c.next.new.self)) is
          ∙ one_put context (get_or lists.items context []) (get_or c.put.new.lists context []) (rest c.loop-of_contexts.walk) (rest c.next.new.self) (item_of c.in-Some.step) shows.item
          (put.each context (subst (λ (n : ℕ). context < n) (sym (ap length was ∙ inv.long)) less) ∙ ap (λ (xs : List (List Estimate)). get_or xs context [] ++ estimates_in context (item_of c.in-Some.step)) was)
          ∙ inv.each context less;
    }

pub loop-of_contexts-smaller : goal.loop-of_contexts-smaller
loop-of_contexts-smaller c = nearer c.loop-of_contexts.walk c.in-Some.step c.next.new.self (subst (Went c.loop-of_contexts.walk c.next.new.self) c.in-Some.is c.in_ok-step.ensures)
