-- The place of the device changes as its queue's call says, and the others stay.
use Rattle.std.proofs.Common.{◌≡◌, ℕ, [], sym, ap, ◌∙◌, subst, IfOk}
use Rattle.std.proofs.lemmas.Result.{IfOk-weaker, IfErr-weaker}
use Rattle.std.proofs.lemmas.List.Elements.{All-set}
use Rattle.crossbeam_queue.specs.Passes.{Pass, view}
use Rattle.wbt_queue.specs.declared.known.Known.{Known}
use Rattle.wbt_queue.specs.Known.{after_put}
use Rattle.wbt_queue.specs.Order.{HasPut}
use Rattle.wbt_queue.specs.Passes.{Held, known_of, size_of}
use Rattle.wbt_queue.proofs.Here.{here_at, here_set, here_put}
use Rattle.wbt_queue.proofs.Whole.{whole_leaves}
use Rattle.wbt_queue.proofs.Rows.{same_names, ring_there, place_there, fits, size_at, knew, knows, changed, unchanged}
use Rattle.wbt_queue.proofs.queues.Queues.put.Goals as goal

pub put_in-requires-clause-queue : goal.put_in-requires-clause-queue
put_in-requires-clause-queue g c = let low = ring_there c.self.inside.rings.items c.pass.inside.places.items c.args.self.now c.args.pass.now c.args.device c.self.view_is c.pass.view_is c.requires.pass c.requires.device in
    fits c.self.inside.rings.items c.pass.inside.places.items c.args.device (same_names c.self.inside.rings.items c.pass.inside.places.items c.args.self.now c.args.pass.now c.args.device c.self.view_is c.pass.view_is c.requires.pass c.requires.device) low
    c.index.result.now c.index_mut.result.now c.pass.invariant.0 c.index.ensures c.index_mut.ensures.value

pub returns-clause-put : goal.returns-clause-put
returns-clause-put g c = let there = place_there c.self.inside.rings.items c.pass.inside.places.items c.args.self.now c.args.pass.now c.args.device c.self.view_is c.pass.view_is c.requires.pass c.requires.device in
    let old = c.index_mut.result.now in let new = c.put_in.new.place in let xs = c.pass.inside.places.items in let i = c.args.device in let at = c.index_mut.ensures.value in let is = c.pass.view_is in
    subst (λ (k : Known × Known). IfOk c.put_in.result (λ _. HasPut k.0 c.args.inode k.1)) (λ z. (sym (knew c.args.pass.now xs is i old new there at) z, sym (knows c.args.pass.now xs is i old new there at) z)) c.put_in.ensures.put

pub returns-clause-others : goal.returns-clause-others
returns-clause-others g c = let there = place_there c.self.inside.rings.items c.pass.inside.places.items c.args.self.now c.args.pass.now c.args.device c.self.view_is c.pass.view_is c.requires.pass c.requires.device in
    let old = c.index_mut.result.now in let new = c.put_in.new.place in let xs = c.pass.inside.places.items in let i = c.args.device in let at = c.index_mut.ensures.value in let is = c.pass.view_is in
    IfOk-weaker c.put_in.result (λ _. HasPut (view old) c.args.inode (view new)) _ (λ _ h. changed c.args.pass.now xs is i old new there at c.put_in.ensures.same.0 (after_put c.args.inode) h.0) c.put_in.ensures.put

pub returns-clause-full : goal.returns-clause-full
returns-clause-full g c = let low = ring_there c.self.inside.rings.items c.pass.inside.places.items c.args.self.now c.args.pass.now c.args.device c.self.view_is c.pass.view_is c.requires.pass c.requires.device in
    let there = place_there c.self.inside.rings.items c.pass.inside.places.items c.args.self.now c.args.pass.now c.args.device c.self.view_is c.pass.view_is c.requires.pass c.requires.device in
    let old = c.index_mut.result.now in let new = c.put_in.new.place in let xs = c.pass.inside.places.items in let i = c.args.device in let at = c.index_mut.ensures.value in let is = c.pass.view_is in
    IfErr-weaker c.put_in.result (λ _. (view new ≡ view old) × Held c.index.result.now.cap (view old)) _
    (λ _ h. (
      unchanged c.args.pass.now xs is i old new there at c.put_in.ensures.same.0 h.0,
      subst (λ (k : ℕ × Known). Held k.0 k.1) (λ z. (sym (ap (size_of i) (sym c.self.view_is) ∙ size_at c.self.inside.rings.items i c.index.result.now low c.index.ensures) z, sym (knew c.args.pass.now xs is i old new there at) z)) h.1,
    ))
    c.put_in.ensures.full

pub returns-clause-whole : goal.returns-clause-whole
returns-clause-whole g c = let low = ring_there c.self.inside.rings.items c.pass.inside.places.items c.args.self.now c.args.pass.now c.args.device c.self.view_is c.pass.view_is c.requires.pass c.requires.device in
    let there = place_there c.self.inside.rings.items c.pass.inside.places.items c.args.self.now c.args.pass.now c.args.device c.self.view_is c.pass.view_is c.requires.pass c.requires.device in
    let old = c.index_mut.result.now in let new = c.put_in.new.place in let xs = c.pass.inside.places.items in let i = c.args.device in let at = c.index_mut.ensures.value in let is = c.pass.view_is in
    IfErr-weaker c.put_in.result (λ _. (view new ≡ view old) × Held c.index.result.now.cap (view old)) _
    (λ _ h. whole_leaves (size_of i c.args.self.now) (known_of i c.args.pass.now)
    (subst (λ (k : ℕ × Known). Held k.0 k.1) (λ z. (sym (ap (size_of i) (sym c.self.view_is) ∙ size_at c.self.inside.rings.items i c.index.result.now low c.index.ensures) z, sym (knew c.args.pass.now xs is i old new there at) z)) h.1))
    c.put_in.ensures.full

pub put_in-requires-clause-here : goal.put_in-requires-clause-here
put_in-requires-clause-here g c = let there = place_there c.self.inside.rings.items c.pass.inside.places.items c.args.self.now c.args.pass.now c.args.device c.self.view_is c.pass.view_is c.requires.pass c.requires.device in
    here_at c.pass.inside.places.items c.args.device c.index_mut.result.now c.pass.invariant.1 there c.index_mut.ensures.value

pub invariant_of-pass : goal.invariant_of-pass
invariant_of-pass g c = let low = ring_there c.self.inside.rings.items c.pass.inside.places.items c.args.self.now c.args.pass.now c.args.device c.self.view_is c.pass.view_is c.requires.pass c.requires.device in
    let there = place_there c.self.inside.rings.items c.pass.inside.places.items c.args.self.now c.args.pass.now c.args.device c.self.view_is c.pass.view_is c.requires.pass c.requires.device in
    let home = fits c.self.inside.rings.items c.pass.inside.places.items c.args.device (same_names c.self.inside.rings.items c.pass.inside.places.items c.args.self.now c.args.pass.now c.args.device c.self.view_is c.pass.view_is c.requires.pass c.requires.device) low
    c.index.result.now c.index_mut.result.now c.pass.invariant.0 c.index.ensures c.index_mut.ensures.value in
    let here = here_at c.pass.inside.places.items c.args.device c.index_mut.result.now c.pass.invariant.1 there c.index_mut.ensures.value in (
      All-set (λ (p : Pass ℕ Known). p.me.1 ≡ []) c.pass.inside.places.items c.args.device c.put_in.new.place (c.put_in.ensures.same.2 ∙ home.1) c.pass.invariant.0,
      here_set c.pass.inside.places.items c.args.device c.put_in.new.place c.pass.invariant.1 (here_put c.put_in.result (view c.index_mut.result.now) (view c.put_in.new.place) c.args.inode (Held c.index.result.now.cap (view c.index_mut.result.now)) c.put_in.ensures.put c.put_in.ensures.full here),
    )
