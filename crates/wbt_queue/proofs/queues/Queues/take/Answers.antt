-- The place of the device changes as its queue's call says, and the others stay.
use Rattle.std.proofs.Common.{◌≡◌, ℕ, [], sym, ◌∙◌, subst}
use Rattle.std.proofs.lemmas.List.Elements.{All-set}
use Rattle.crossbeam_queue.specs.Passes.{Pass, view}
use Rattle.wbt_queue.specs.declared.known.Known.{Known}
use Rattle.wbt_queue.specs.Known.{after_take}
use Rattle.wbt_queue.specs.Order.{HasTaken}
use Rattle.wbt_queue.specs.Passes.{Held, known_of}
use Rattle.wbt_queue.proofs.Here.{here_at, here_set, here_taken}
use Rattle.wbt_queue.proofs.Whole.{whole_taken}
use Rattle.wbt_queue.proofs.Rows.{same_names, ring_there, place_there, fits, some_weaker, none_weaker, knew, knows, changed, unchanged}
use Rattle.wbt_queue.proofs.queues.Queues.take.Goals as goal

pub take_of-requires-clause-queue : goal.take_of-requires-clause-queue
take_of-requires-clause-queue g c = let low = ring_there c.self.inside.rings.items c.pass.inside.places.items c.args.self.now c.args.pass.now c.args.device c.self.view_is c.pass.view_is c.requires.pass c.requires.device in
    fits c.self.inside.rings.items c.pass.inside.places.items c.args.device (same_names c.self.inside.rings.items c.pass.inside.places.items c.args.self.now c.args.pass.now c.args.device c.self.view_is c.pass.view_is c.requires.pass c.requires.device) low
    c.index.result.now c.index_mut.result.now c.pass.invariant.0 c.index.ensures c.index_mut.ensures.value

pub returns-clause-taken : goal.returns-clause-taken
returns-clause-taken g c = let there = place_there c.self.inside.rings.items c.pass.inside.places.items c.args.self.now c.args.pass.now c.args.device c.self.view_is c.pass.view_is c.requires.pass c.requires.device in
    let old = c.index_mut.result.now in let new = c.take_of.new.place in let xs = c.pass.inside.places.items in let i = c.args.device in let at = c.index_mut.ensures.value in let is = c.pass.view_is in
    some_weaker c.take_of.result (λ inode. HasTaken (view old) inode (view new)) _ (λ inode h. subst (λ (k : Known × Known). HasTaken k.0 inode k.1) (λ z. (sym (knew c.args.pass.now xs is i old new there at) z, sym (knows c.args.pass.now xs is i old new there at) z)) h) c.take_of.ensures.taken

pub returns-clause-others : goal.returns-clause-others
returns-clause-others g c = let there = place_there c.self.inside.rings.items c.pass.inside.places.items c.args.self.now c.args.pass.now c.args.device c.self.view_is c.pass.view_is c.requires.pass c.requires.device in
    let old = c.index_mut.result.now in let new = c.take_of.new.place in let xs = c.pass.inside.places.items in let i = c.args.device in let at = c.index_mut.ensures.value in let is = c.pass.view_is in
    some_weaker c.take_of.result (λ inode. HasTaken (view old) inode (view new)) _ (λ inode h. changed c.args.pass.now xs is i old new there at c.take_of.ensures.same.0 (after_take inode) h.0) c.take_of.ensures.taken

pub returns-clause-empty : goal.returns-clause-empty
returns-clause-empty g c = let there = place_there c.self.inside.rings.items c.pass.inside.places.items c.args.self.now c.args.pass.now c.args.device c.self.view_is c.pass.view_is c.requires.pass c.requires.device in
    let old = c.index_mut.result.now in let new = c.take_of.new.place in let xs = c.pass.inside.places.items in let i = c.args.device in let at = c.index_mut.ensures.value in let is = c.pass.view_is in
    none_weaker c.take_of.result ((view new ≡ view old) × Held 0 (view old)) _
    (λ h. (unchanged c.args.pass.now xs is i old new there at c.take_of.ensures.same.0 h.0, subst (λ (k : Known). Held 0 k) (sym (knew c.args.pass.now xs is i old new there at)) h.1))
    c.take_of.ensures.empty

pub returns-clause-whole : goal.returns-clause-whole
returns-clause-whole g c = let there = place_there c.self.inside.rings.items c.pass.inside.places.items c.args.self.now c.args.pass.now c.args.device c.self.view_is c.pass.view_is c.requires.pass c.requires.device in
    let old = c.index_mut.result.now in let new = c.take_of.new.place in let xs = c.pass.inside.places.items in let i = c.args.device in let at = c.index_mut.ensures.value in let is = c.pass.view_is in
    none_weaker c.take_of.result ((view new ≡ view old) × Held 0 (view old)) _
    (λ h. whole_taken (known_of i c.args.pass.now) (subst (λ (k : Known). Held 0 k) (sym (knew c.args.pass.now xs is i old new there at)) h.1))
    c.take_of.ensures.empty

pub take_of-requires-clause-here : goal.take_of-requires-clause-here
take_of-requires-clause-here g c = let there = place_there c.self.inside.rings.items c.pass.inside.places.items c.args.self.now c.args.pass.now c.args.device c.self.view_is c.pass.view_is c.requires.pass c.requires.device in
    here_at c.pass.inside.places.items c.args.device c.index_mut.result.now c.pass.invariant.1 there c.index_mut.ensures.value

pub invariant_of-pass : goal.invariant_of-pass
invariant_of-pass g c = let low = ring_there c.self.inside.rings.items c.pass.inside.places.items c.args.self.now c.args.pass.now c.args.device c.self.view_is c.pass.view_is c.requires.pass c.requires.device in
    let there = place_there c.self.inside.rings.items c.pass.inside.places.items c.args.self.now c.args.pass.now c.args.device c.self.view_is c.pass.view_is c.requires.pass c.requires.device in
    let home = fits c.self.inside.rings.items c.pass.inside.places.items c.args.device (same_names c.self.inside.rings.items c.pass.inside.places.items c.args.self.now c.args.pass.now c.args.device c.self.view_is c.pass.view_is c.requires.pass c.requires.device) low
    c.index.result.now c.index_mut.result.now c.pass.invariant.0 c.index.ensures c.index_mut.ensures.value in
    let here = here_at c.pass.inside.places.items c.args.device c.index_mut.result.now c.pass.invariant.1 there c.index_mut.ensures.value in (
      All-set (λ (p : Pass ℕ Known). p.me.1 ≡ []) c.pass.inside.places.items c.args.device c.take_of.new.place (c.take_of.ensures.same.2 ∙ home.1) c.pass.invariant.0,
      here_set c.pass.inside.places.items c.args.device c.take_of.new.place c.pass.invariant.1 (here_taken c.take_of.result (view c.index_mut.result.now) (view c.take_of.new.place) (Held 0 (view c.index_mut.result.now)) c.take_of.ensures.taken c.take_of.ensures.empty here),
    )
