use Rattle.std.proofs.Common.{◌≡◌, [], length, ℕ, ◌<◌, ◌∷◌, ◌++◌, set, sym, ap, ◌∙◌, subst, refl, arith, add-one, append_assoc, length-append}
use Rattle.std.proofs.lemmas.List.{length-map}
use Rattle.crossbeam_queue.specs.Passes.{view}
use Rattle.wbt_queue.specs.Passes.{ring_names, known_by}
use Rattle.wbt_queue.proofs.Rows.{fits, as_long, place_name, ring_name}
use Rattle.wbt_queue.proofs.Turns.{Merged, merged_first, merged_next, merged_last, at_turn}
use Rattle.wbt_queue.proofs.each.merge_each.Goals as goal

pub loop-other-init : goal.loop-other-init
loop-other-init c = let g = c.into_iter-other-iterator.ensures.into_iter_gives in (merged_first _ _ c.args.places.now.items c.requires.places.0.0 c.requires.places.0.1, g.0, refl)

pub offset_bounds-rings-device : goal.offset_bounds-rings-device
offset_bounds-rings-device c = let inv = c.loop-other.invariant in let s = c.in-Some.ensures.steps in let turn = at_turn c.next.new.self.rest.items c.in-Some.other c.loop-other.yielded c.args.others.items c.loop-other.device (ap (λ l. c.loop-other.yielded ++ l) (sym s.0) ∙ inv.1) inv.2 in
    let low = turn.1 in let long = as_long place_name ring_name c.args.others.items c.args.rings.now c.requires.places.1.0 in let w = c.well_formed.0.1 in omega arith

pub bounds-rings-device : goal.bounds-rings-device
bounds-rings-device c = let inv = c.loop-other.invariant in let s = c.in-Some.ensures.steps in let turn = at_turn c.next.new.self.rest.items c.in-Some.other c.loop-other.yielded c.args.others.items c.loop-other.device (ap (λ l. c.loop-other.yielded ++ l) (sym s.0) ∙ inv.1) inv.2 in
    let low = turn.1 in let long = as_long place_name ring_name c.args.others.items c.args.rings.now c.requires.places.1.0 in omega arith

pub index_mut-requires : goal.index_mut-requires
index_mut-requires c = let inv = c.loop-other.invariant in let s = c.in-Some.ensures.steps in let turn = at_turn c.next.new.self.rest.items c.in-Some.other c.loop-other.yielded c.args.others.items c.loop-other.device (ap (λ l. c.loop-other.yielded ++ l) (sym s.0) ∙ inv.1) inv.2 in
    let low = turn.1 in let long = as_long place_name ring_name c.args.others.items c.args.rings.now c.requires.places.1.0 in let len = c.loop-other.places.ok.0 in let long' = as_long place_name ring_name c.loop-other.places.items c.args.rings.now inv.0.of_queues in omega arith

pub merge-requires : goal.merge-requires
merge-requires c = let inv = c.loop-other.invariant in let s = c.in-Some.ensures.steps in let turn = at_turn c.next.new.self.rest.items c.in-Some.other c.loop-other.yielded c.args.others.items c.loop-other.device (ap (λ l. c.loop-other.yielded ++ l) (sym s.0) ∙ inv.1) inv.2 in
    let low = turn.1 in let long = as_long place_name ring_name c.args.others.items c.args.rings.now c.requires.places.1.0 in
    let m = inv.0 in let low' : c.loop-other.device < length c.args.rings.now = omega arith in
    let mine = fits c.args.rings.now c.loop-other.places.items c.loop-other.device m.of_queues low' c.index-rings-device.result c.index_mut.result.now m.rest c.index-rings-device.is c.index_mut.ensures.value in
    let theirs = fits c.args.rings.now c.args.others.items c.loop-other.device c.requires.places.1.0 low' c.index-rings-device.result c.in-Some.other c.requires.places.1.1 c.index-rings-device.is turn.0 in (mine, theirs)

pub overflow_add-device : goal.overflow_add-device
overflow_add-device c = let g = c.into_iter-other-iterator.ensures.into_iter_gives in let a = g.1 in let b = g.2 in let len = c.args.others.ok.0 in
    let inv = c.loop-other.invariant in let s = c.in-Some.ensures.steps in let turn = at_turn c.next.new.self.rest.items c.in-Some.other c.loop-other.yielded c.args.others.items c.loop-other.device (ap (λ l. c.loop-other.yielded ++ l) (sym s.0) ∙ inv.1) inv.2 in
    let low = turn.1 in let long = len in omega arith

pub loop-other-preserved : goal.loop-other-preserved
loop-other-preserved c = let inv = c.loop-other.invariant in let s = c.in-Some.ensures.steps in let turn = at_turn c.next.new.self.rest.items c.in-Some.other c.loop-other.yielded c.args.others.items c.loop-other.device (ap (λ l. c.loop-other.yielded ++ l) (sym s.0) ∙ inv.1) inv.2 in
    let low = turn.1 in let long = as_long place_name ring_name c.args.others.items c.args.rings.now c.requires.places.1.0 in
    let m = inv.0 in let low' : c.loop-other.device < length c.args.rings.now = omega arith in
    let mine = fits c.args.rings.now c.loop-other.places.items c.loop-other.device m.of_queues low' c.index-rings-device.result c.index_mut.result.now m.rest c.index-rings-device.is c.index_mut.ensures.value in
    let theirs = fits c.args.rings.now c.args.others.items c.loop-other.device c.requires.places.1.0 low' c.index-rings-device.result c.in-Some.other c.requires.places.1.1 c.index-rings-device.is turn.0 in
    let same = c.merge.ensures.same in let names = length-map c.args.rings.now ring_name in
    let known = length-map c.args.places.now.items view ∙ as_long place_name ring_name c.args.places.now.items c.args.rings.now c.requires.places.0.0 ∙ sym names in
    let next = merged_next (ring_names c.args.rings.now) (known_by c.args.places.now.items) c.loop-other.device c.loop-other.places.items c.args.others.items c.index_mut.result.now c.merge.new.place c.in-Some.other m
    (let h : c.loop-other.device < length (ring_names c.args.rings.now) = omega arith in h) known (let h : length c.args.others.items ≡ length (ring_names c.args.rings.now) = omega arith in h) c.index_mut.ensures.value turn.0
    (same.0, same.2 ∙ mine.1, c.merge.ensures.told) in (
      subst (λ (n : ℕ). Merged (ring_names c.args.rings.now) (known_by c.args.places.now.items) (known_by c.args.others.items) n (set c.loop-other.places.items c.loop-other.device c.merge.new.place)) (sym (add-one c.loop-other.device)) next,
      append_assoc c.loop-other.yielded (c.in-Some.other ∷ []) c.next.new.self.rest.items ∙ ap (λ l. c.loop-other.yielded ++ l) (sym s.0) ∙ inv.1,
      (let d = inv.2 in omega (arith, length-append c.loop-other.yielded (c.in-Some.other ∷ []))),
    )

pub returns-clause-places : goal.returns-clause-places
returns-clause-places c = let m = c.loop-other.invariant.0 in (m.of_queues, m.rest)

pub returns-clause-known : goal.returns-clause-known
returns-clause-known c = let inv = c.loop-other.invariant in let end = c.in-None.ensures.steps.0 in let len = c.loop-other.other-iterator.rest.ok.0 in let d = inv.2 in let whole = ap length inv.1 in let both = length-append c.loop-other.yielded c.loop-other.other-iterator.rest.items in
    let long = as_long place_name ring_name c.args.others.items c.args.rings.now c.requires.places.1.0 in let names = length-map c.args.rings.now ring_name in
    let known = length-map c.args.places.now.items view ∙ as_long place_name ring_name c.args.places.now.items c.args.rings.now c.requires.places.0.0 ∙ sym names in
    merged_last (ring_names c.args.rings.now) (known_by c.args.places.now.items) (known_by c.args.others.items) c.loop-other.device c.loop-other.places.items inv.0 (let h : c.loop-other.device ≡ length (ring_names c.args.rings.now) = omega arith in h) known
