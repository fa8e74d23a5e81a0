use Rattle.std.proofs.Common.{ℕ, suc, ◌<◌, ◌≤◌, length, set, sym, ◌∙◌, subst, arith, add-one}
use Rattle.std.proofs.lemmas.List.{length-map}
use Rattle.crossbeam_queue.specs.Passes.{view}
use Rattle.wbt_queue.specs.Passes.{ring_names, known_by}
use Rattle.wbt_queue.proofs.Rows.{fits, as_long, place_name, ring_name}
use Rattle.wbt_queue.proofs.Turns.{Forked, forked_first, forked_next, forked_last, forked_count}
use Rattle.wbt_queue.proofs.each.fork_each.Goals as goal

pub loop-device-init : goal.loop-device-init
loop-device-init c = let new = c.requires.new in (subst (λ l. Forked (ring_names c.args.rings.now) (known_by c.args.places.now.items) 0 c.args.places.now.items l) (sym new.0) (forked_first _ c.args.places.now.items c.requires.places.0 c.requires.places.1), new.1)

pub fork-place-requires : goal.fork-place-requires
fork-place-requires c = let f = c.loop-device.invariant.0 in fits c.args.rings.now c.loop-device.places.items c.loop-device.device f.of_queues c.loop-device-test.true c.index-rings-device.result c.index_mut.result.now f.rest c.index-rings-device.is c.index_mut.ensures.value

pub push_reserved-requires : goal.push_reserved-requires
push_reserved-requires c = let inv = c.loop-device.invariant in let low = c.loop-device-test.true in let names = length-map c.args.rings.now ring_name in let len = c.loop-device.new.ok.0 in
    let count = forked_count _ _ _ _ _ inv.0 (let h : c.loop-device.device ≤ length (ring_names c.args.rings.now) = omega arith in h) in let room = inv.1 in omega arith

pub loop-device-preserved : goal.loop-device-preserved
loop-device-preserved c = let inv = c.loop-device.invariant in let low = c.loop-device-test.true in let names = length-map c.args.rings.now ring_name in let same = c.fork-place.ensures.same in let told = c.fork-place.ensures.told in
    let at_rest = (fits c.args.rings.now c.loop-device.places.items c.loop-device.device inv.0.of_queues low c.index-rings-device.result c.index_mut.result.now inv.0.rest c.index-rings-device.is c.index_mut.ensures.value) in
    let long = length-map c.args.places.now.items view ∙ as_long place_name ring_name c.args.places.now.items c.args.rings.now c.requires.places.0 ∙ sym names in
    let next = forked_next (ring_names c.args.rings.now) (known_by c.args.places.now.items) c.loop-device.device c.loop-device.places.items c.loop-device.new.items c.index_mut.result.now c.fork-place.new.place c.fork-place.result inv.0
    (let h : c.loop-device.device < length (ring_names c.args.rings.now) = omega arith in h) long c.index_mut.ensures.value (same.0.0, same.0.2 ∙ at_rest.1, told.0) (same.1.0 ∙ sym at_rest.0, same.1.1, told.1) in (
      subst (λ (n : ℕ). Forked (ring_names c.args.rings.now) (known_by c.args.places.now.items) n (set c.loop-device.places.items c.loop-device.device c.fork-place.new.place) c.push_reserved.new.self.items) (sym (add-one c.loop-device.device))
          (subst (λ l. Forked (ring_names c.args.rings.now) (known_by c.args.places.now.items) (suc c.loop-device.device) (set c.loop-device.places.items c.loop-device.device c.fork-place.new.place) l) (sym c.push_reserved.ensures.items) next),
      subst (λ n. length c.args.rings.now ≤ n) (sym c.push_reserved.ensures.capacity) inv.1,
    )

pub returns-clause-places : goal.returns-clause-places
returns-clause-places c = let f = c.loop-device.invariant.0 in let end = c.loop-device-test.false in let most = c.loop-device.auto.device-end in let names = length-map c.args.rings.now ring_name in
    let long = length-map c.args.places.now.items view ∙ as_long place_name ring_name c.args.places.now.items c.args.rings.now c.requires.places.0 ∙ sym names in
    let last = forked_last (ring_names c.args.rings.now) _ _ _ _ f (let h : length (ring_names c.args.rings.now) ≤ c.loop-device.device = omega arith in h) (let h : c.loop-device.device ≤ length (ring_names c.args.rings.now) = omega arith in h) long in
    ((f.of_queues, f.rest), (last.1, f.new_rest))

pub returns-clause-known : goal.returns-clause-known
returns-clause-known c = let f = c.loop-device.invariant.0 in let end = c.loop-device-test.false in let most = c.loop-device.auto.device-end in let names = length-map c.args.rings.now ring_name in
    let long = length-map c.args.places.now.items view ∙ as_long place_name ring_name c.args.places.now.items c.args.rings.now c.requires.places.0 ∙ sym names in
    (forked_last (ring_names c.args.rings.now) _ _ _ _ f (let h : length (ring_names c.args.rings.now) ≤ c.loop-device.device = omega arith in h) (let h : c.loop-device.device ≤ length (ring_names c.args.rings.now) = omega arith in h) long).0

pub returns-clause-new : goal.returns-clause-new
returns-clause-new c = let f = c.loop-device.invariant.0 in let end = c.loop-device-test.false in let most = c.loop-device.auto.device-end in let names = length-map c.args.rings.now ring_name in
    let long = length-map c.args.places.now.items view ∙ as_long place_name ring_name c.args.places.now.items c.args.rings.now c.requires.places.0 ∙ sym names in
    (forked_last (ring_names c.args.rings.now) _ _ _ _ f (let h : length (ring_names c.args.rings.now) ≤ c.loop-device.device = omega arith in h) (let h : c.loop-device.device ≤ length (ring_names c.args.rings.now) = omega arith in h) long).2
