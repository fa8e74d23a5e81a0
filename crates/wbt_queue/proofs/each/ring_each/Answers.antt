use Rattle.std.proofs.Common.{◌≤◌, [], length, ℕ, ◌∷◌, ◌++◌, suc, sym, subst, arith, add-one}
use Rattle.wbt_queue.proofs.Turns.{Made, made_first, made_next, made_last, made_count}
use Rattle.wbt_queue.proofs.each.ring_each.Goals as goal

pub loop-size-init : goal.loop-size-init
loop-size-init c = let r = c.requires.rings in let p = c.requires.places in (subst (λ l. Made c.args.sizes.now 0 l c.args.places.items) (sym r.0) (subst (λ l. Made c.args.sizes.now 0 [] l) (sym p.0) (made_first c.args.sizes.now)), r.1, p.1)

pub push_reserved-requires : goal.push_reserved-requires
push_reserved-requires c = let inv = c.loop-size.invariant in let low = c.loop-size-test.true in let a = inv.1 in let len = c.loop-size.rings.ok.0 in
    let count = (made_count c.args.sizes.now c.loop-size.size-index c.loop-size.rings.items c.loop-size.places.items inv.0 (omega arith)).0 in omega arith

pub push_reserved-requires-in-loop-size : goal.push_reserved-requires-in-loop-size
push_reserved-requires-in-loop-size c = let inv = c.loop-size.invariant in let low = c.loop-size-test.true in let a = inv.2 in let len = c.loop-size.places.ok.0 in
    let count = (made_count c.args.sizes.now c.loop-size.size-index c.loop-size.rings.items c.loop-size.places.items inv.0 (omega arith)).1 in omega arith

pub loop-size-preserved : goal.loop-size-preserved
loop-size-preserved c = let inv = c.loop-size.invariant in let made = c.in_ok-ring.ensures in
    let next = made_next c.args.sizes.now c.loop-size.size-index c.loop-size.rings.items c.loop-size.places.items c.in_ok-ring.ring c.in_ok-ring.place inv.0 c.loop-size-test.true made.0 (made.1.0, made.1.1, made.2) in (
      subst (λ (n : ℕ). Made c.args.sizes.now n c.push_reserved.new.self.items c.push_reserved-in-loop-size.new.self.items) (sym (add-one c.loop-size.size-index))
          (subst (λ l. Made c.args.sizes.now (suc c.loop-size.size-index) l c.push_reserved-in-loop-size.new.self.items) (sym c.push_reserved.ensures.items)
          (subst (λ l. Made c.args.sizes.now (suc c.loop-size.size-index) (c.loop-size.rings.items ++ c.in_ok-ring.ring ∷ []) l) (sym c.push_reserved-in-loop-size.ensures.items) next)),
      subst (λ n. length c.args.sizes.now ≤ n) (sym c.push_reserved.ensures.capacity) inv.1,
      subst (λ n. length c.args.sizes.now ≤ n) (sym c.push_reserved-in-loop-size.ensures.capacity) inv.2,
    )

pub returns-clause-sizes : goal.returns-clause-sizes
returns-clause-sizes c = (made_last c.args.sizes.now c.loop-size.size-index c.loop-size.rings.items c.loop-size.places.items c.loop-size.invariant.0 c.loop-size-test.false).0

pub returns-clause-places : goal.returns-clause-places
returns-clause-places c = let m = c.loop-size.invariant.0 in (m.of_queues, m.rest)

pub returns-clause-known : goal.returns-clause-known
returns-clause-known c = (made_last c.args.sizes.now c.loop-size.size-index c.loop-size.rings.items c.loop-size.places.items c.loop-size.invariant.0 c.loop-size-test.false).1
