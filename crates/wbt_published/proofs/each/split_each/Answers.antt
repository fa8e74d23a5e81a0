use Rattle.std.proofs.Common.{ℕ, suc, ◌<◌, ◌≤◌, length, set, sym, ◌∙◌, subst, arith, add-one}
use Rattle.std.proofs.lemmas.List.{length-map}
use Rattle.wbt_published.specs.Passes.{cell_names, known_by}
use Rattle.wbt_published.proofs.Rows.{fits, as_long, seat_name, seat_known, cell_name}
use Rattle.wbt_published.proofs.Turns.{Handed, handed_next, handed_last}
use Rattle.wbt_published.proofs.each.split_each.Goals as goal

pub split-place-requires : goal.split-place-requires
split-place-requires c = let f = c.loop-context.invariant.0 in fits c.args.cells.now c.loop-context.places.items c.loop-context.context f.of_cells c.loop-context-test.true c.index-cells-context.result c.index_mut.result.now c.index-cells-context.is c.index_mut.ensures.value

pub loop-context-preserved : goal.loop-context-preserved
loop-context-preserved c = let inv = c.loop-context.invariant in let low = c.loop-context-test.true in let names = length-map c.args.cells.now cell_name in let owned = c.requires.owners in
    let long = length-map c.args.places.now.items seat_known ∙ as_long seat_name cell_name c.args.places.now.items c.args.cells.now c.requires.names ∙ sym names in
    let next = handed_next (cell_names c.args.cells.now) c.args.owners.now c.args.cpu (known_by c.args.places.now.items) c.loop-context.context c.loop-context.places.items c.loop-context.new.items c.index_mut.result.now c.split-place.new.self c.split-place.result inv.0
    (let h : c.loop-context.context < length (cell_names c.args.cells.now) = omega arith in h) long (owned ∙ sym names) c.index_mut.ensures.value c.split-place.ensures.names c.split-place.ensures.old c.split-place.ensures.new in (
      subst (λ (n : ℕ). Handed (cell_names c.args.cells.now) c.args.owners.now c.args.cpu (known_by c.args.places.now.items) n (set c.loop-context.places.items c.loop-context.context c.split-place.new.self) c.push_reserved.new.self.items) (sym (add-one c.loop-context.context))
          (subst (λ l. Handed (cell_names c.args.cells.now) c.args.owners.now c.args.cpu (known_by c.args.places.now.items) (suc c.loop-context.context) (set c.loop-context.places.items c.loop-context.context c.split-place.new.self) l) (sym c.push_reserved.ensures.items) next),
      subst (λ n. length c.args.cells.now ≤ n) (sym c.push_reserved.ensures.capacity) inv.1,
    )

pub returns-clause-names : goal.returns-clause-names
returns-clause-names c = let f = c.loop-context.invariant.0 in let end = c.loop-context-test.false in let most = c.loop-context.auto.context-end in let names = length-map c.args.cells.now cell_name in
    let long = length-map c.args.places.now.items seat_known ∙ as_long seat_name cell_name c.args.places.now.items c.args.cells.now c.requires.names ∙ sym names in
    let last = handed_last (cell_names c.args.cells.now) _ _ _ _ _ _ f (let h : length (cell_names c.args.cells.now) ≤ c.loop-context.context = omega arith in h) (let h : c.loop-context.context ≤ length (cell_names c.args.cells.now) = omega arith in h) long (c.requires.owners ∙ sym names) in
    (f.of_cells, last.1)

pub returns-clause-old : goal.returns-clause-old
returns-clause-old c = let f = c.loop-context.invariant.0 in let end = c.loop-context-test.false in let most = c.loop-context.auto.context-end in let names = length-map c.args.cells.now cell_name in
    let long = length-map c.args.places.now.items seat_known ∙ as_long seat_name cell_name c.args.places.now.items c.args.cells.now c.requires.names ∙ sym names in
    let last = handed_last (cell_names c.args.cells.now) _ _ _ _ _ _ f (let h : length (cell_names c.args.cells.now) ≤ c.loop-context.context = omega arith in h) (let h : c.loop-context.context ≤ length (cell_names c.args.cells.now) = omega arith in h) long (c.requires.owners ∙ sym names) in
    last.0

pub returns-clause-new : goal.returns-clause-new
returns-clause-new c = let f = c.loop-context.invariant.0 in let end = c.loop-context-test.false in let most = c.loop-context.auto.context-end in let names = length-map c.args.cells.now cell_name in
    let long = length-map c.args.places.now.items seat_known ∙ as_long seat_name cell_name c.args.places.now.items c.args.cells.now c.requires.names ∙ sym names in
    let last = handed_last (cell_names c.args.cells.now) _ _ _ _ _ _ f (let h : length (cell_names c.args.cells.now) ≤ c.loop-context.context = omega arith in h) (let h : c.loop-context.context ≤ length (cell_names c.args.cells.now) = omega arith in h) long (c.requires.owners ∙ sym names) in
    last.2
