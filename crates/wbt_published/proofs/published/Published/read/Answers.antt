-- The place of the context changes as its cell's call says, and the others stay.
use Rattle.std.proofs.Common.{◌≡◌, ◌<◌, ◌≤◌, true, All, length, sym, ap, ◌∙◌, subst}
use Rattle.std.proofs.lemmas.List.{length-map}
use Rattle.wbt_estimate.specs.declared.estimate.Estimate.{Estimate}
use Rattle.wbt_published.specs.declared.known.Known.{Known}
use Rattle.wbt_published.specs.Publishing.{IsNewest}
use Rattle.wbt_published.specs.Known.{after_read, note_of}
use Rattle.wbt_published.proofs.Rows.{in_places, fits, knew, changed}
use Rattle.wbt_published.proofs.published.Published.read.Goals as goal

pub read-found-requires : goal.read-found-requires
read-found-requires g c = let low : c.args.wb < length c.self.inside.cells.items = subst (λ n. c.args.wb < n) (ap (λ q. length q.names) (sym c.self.view_is) ∙ length-map c.self.inside.cells.items _) c.requires.context in
    fits c.self.inside.cells.items c.pass.inside.places.items c.args.wb (ap (λ p. p.names) c.pass.view_is ∙ c.requires.pass ∙ sym (ap (λ q. q.names) c.self.view_is)) low c.index.result.now c.index_mut.result.now c.index.ensures c.index_mut.ensures.value

pub returns-clause-noted : goal.returns-clause-noted
returns-clause-noted g c = let low : c.args.wb < length c.self.inside.cells.items = subst (λ n. c.args.wb < n) (ap (λ q. length q.names) (sym c.self.view_is) ∙ length-map c.self.inside.cells.items _) c.requires.context in
    let there = in_places c.self.inside.cells.items c.pass.inside.places.items c.args.wb (ap (λ p. p.names) c.pass.view_is ∙ c.requires.pass ∙ sym (ap (λ q. q.names) c.self.view_is)) low in
    let is = knew c.args.pass.now c.pass.inside.places.items c.pass.view_is c.args.wb c.index_mut.result.now c.read-found.new.self there c.index_mut.ensures.value in let read = c.read-found.ensures.read in
    changed c.args.pass.now c.pass.inside.places.items c.pass.view_is c.args.wb c.index_mut.result.now c.read-found.new.self there c.index_mut.ensures.value c.read-found.ensures.same (after_read (note_of c.dated.result))
    (read.noted ∙ ap (λ e. after_read e c.index_mut.result.now.known) (sym c.dated.ensures.note))

pub returns-clause-fresh : goal.returns-clause-fresh
returns-clause-fresh g c = let low : c.args.wb < length c.self.inside.cells.items = subst (λ n. c.args.wb < n) (ap (λ q. length q.names) (sym c.self.view_is) ∙ length-map c.self.inside.cells.items _) c.requires.context in
    let there = in_places c.self.inside.cells.items c.pass.inside.places.items c.args.wb (ap (λ p. p.names) c.pass.view_is ∙ c.requires.pass ∙ sym (ap (λ q. q.names) c.self.view_is)) low in
    let is = knew c.args.pass.now c.pass.inside.places.items c.pass.view_is c.args.wb c.index_mut.result.now c.read-found.new.self there c.index_mut.ensures.value in let read = c.read-found.ensures.read in
    subst (λ (k : Known). (k.seen ≤ c.dated.result.version) × All (λ (note : Estimate). note.version ≤ c.dated.result.version) k.reads) (sym is)
    (subst (λ n. (c.index_mut.result.now.known.seen ≤ n) × All (λ (note : Estimate). note.version ≤ n) c.index_mut.result.now.known.reads) (sym c.dated.ensures.version) (read.fresh, read.fresh_notes))

pub returns-clause-newest : goal.returns-clause-newest
returns-clause-newest g c = let low : c.args.wb < length c.self.inside.cells.items = subst (λ n. c.args.wb < n) (ap (λ q. length q.names) (sym c.self.view_is) ∙ length-map c.self.inside.cells.items _) c.requires.context in
    let there = in_places c.self.inside.cells.items c.pass.inside.places.items c.args.wb (ap (λ p. p.names) c.pass.view_is ∙ c.requires.pass ∙ sym (ap (λ q. q.names) c.self.view_is)) low in
    let is = knew c.args.pass.now c.pass.inside.places.items c.pass.view_is c.args.wb c.index_mut.result.now c.read-found.new.self there c.index_mut.ensures.value in let read = c.read-found.ensures.read in
    subst (λ (k : Known). k.publishes ≡ true → IsNewest k (note_of c.dated.result)) (sym is) (subst (λ (e : Estimate). c.index_mut.result.now.known.publishes ≡ true → IsNewest c.index_mut.result.now.known e) (sym c.dated.ensures.note) read.newest)
