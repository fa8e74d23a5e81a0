-- The place of the context changes as its cell's call says, and the others stay.
use Rattle.std.proofs.Common.{◌<◌, length, sym, ap, ◌∙◌, subst}
use Rattle.std.proofs.lemmas.List.{length-map}
use Rattle.wbt_published.specs.Known.{after_publish}
use Rattle.wbt_published.proofs.Rows.{in_places, fits, changed}
use Rattle.wbt_published.proofs.published.Published.publish.Goals as goal

pub publish-requires-clause-cell : goal.publish-requires-clause-cell
publish-requires-clause-cell g c = let low : c.args.wb < length c.self.inside.cells.items = subst (λ n. c.args.wb < n) (ap (λ q. length q.names) (sym c.self.view_is) ∙ length-map c.self.inside.cells.items _) c.requires.context in
    fits c.self.inside.cells.items c.pass.inside.places.items c.args.wb (ap (λ p. p.names) c.pass.view_is ∙ c.requires.pass ∙ sym (ap (λ q. q.names) c.self.view_is)) low c.index.result.now c.index_mut.result.now c.index.ensures c.index_mut.ensures.value

pub returns : goal.returns
returns g c = let low : c.args.wb < length c.self.inside.cells.items = subst (λ n. c.args.wb < n) (ap (λ q. length q.names) (sym c.self.view_is) ∙ length-map c.self.inside.cells.items _) c.requires.context in
    let there = in_places c.self.inside.cells.items c.pass.inside.places.items c.args.wb (ap (λ p. p.names) c.pass.view_is ∙ c.requires.pass ∙ sym (ap (λ q. q.names) c.self.view_is)) low in
    changed c.args.pass.now c.pass.inside.places.items c.pass.view_is c.args.wb c.index_mut.result.now c.publish.new.self there c.index_mut.ensures.value c.publish.ensures.same (after_publish c.args.estimate) c.publish.ensures.published
