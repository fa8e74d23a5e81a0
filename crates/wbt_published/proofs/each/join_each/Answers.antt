use Rattle.std.proofs.Common.{◌≡◌, [], length, ℕ, ◌<◌, ◌∷◌, ◌++◌, set, sym, ap, ◌∙◌, subst, arith, add-one, append_assoc, length-append}
use Rattle.std.proofs.lemmas.List.{length-map}
use Rattle.wbt_published.specs.Passes.{cell_names, known_by}
use Rattle.wbt_published.proofs.Rows.{fits, as_long, seat_name, seat_known, cell_name}
use Rattle.wbt_published.proofs.Turns.{Merged, merged_next, merged_last, at_turn}
use Rattle.wbt_published.proofs.each.join_each.Goals as goal

pub offset_bounds-cells-context : goal.offset_bounds-cells-context
offset_bounds-cells-context g c = let inv = c.loop-other.invariant in let s = c.in-Some.ensures.steps in let turn = at_turn c.next.new.self.rest.items c.in-Some.other c.loop-other.yielded c.args.others.items c.loop-other.context (ap (λ l. c.loop-other.yielded ++ l) (sym s.0) ∙ inv.1) inv.2 in
    let low = turn.1 in let long = as_long seat_name cell_name c.args.others.items c.args.cells.now c.requires.names.1 in let w = c.well_formed.1.0.1 in omega arith

pub bounds-cells-context : goal.bounds-cells-context
bounds-cells-context g c = let inv = c.loop-other.invariant in let s = c.in-Some.ensures.steps in let turn = at_turn c.next.new.self.rest.items c.in-Some.other c.loop-other.yielded c.args.others.items c.loop-other.context (ap (λ l. c.loop-other.yielded ++ l) (sym s.0) ∙ inv.1) inv.2 in
    let low = turn.1 in let long = as_long seat_name cell_name c.args.others.items c.args.cells.now c.requires.names.1 in omega arith

pub index_mut-requires : goal.index_mut-requires
index_mut-requires g c = let inv = c.loop-other.invariant in let s = c.in-Some.ensures.steps in let turn = at_turn c.next.new.self.rest.items c.in-Some.other c.loop-other.yielded c.args.others.items c.loop-other.context (ap (λ l. c.loop-other.yielded ++ l) (sym s.0) ∙ inv.1) inv.2 in
    let low = turn.1 in let long = as_long seat_name cell_name c.args.others.items c.args.cells.now c.requires.names.1 in let len = c.loop-other.places.ok.0 in let long' = as_long seat_name cell_name c.loop-other.places.items c.args.cells.now inv.0.of_cells in omega arith

pub join-requires : goal.join-requires
join-requires g c = let inv = c.loop-other.invariant in let s = c.in-Some.ensures.steps in let turn = at_turn c.next.new.self.rest.items c.in-Some.other c.loop-other.yielded c.args.others.items c.loop-other.context (ap (λ l. c.loop-other.yielded ++ l) (sym s.0) ∙ inv.1) inv.2 in
    let low = turn.1 in let long = as_long seat_name cell_name c.args.others.items c.args.cells.now c.requires.names.1 in
    let m = inv.0 in let low' : c.loop-other.context < length c.args.cells.now = omega arith in (
      fits c.args.cells.now c.loop-other.places.items c.loop-other.context m.of_cells low' c.index-cells-context.result c.index_mut.result.now c.index-cells-context.is c.index_mut.ensures.value,
      fits c.args.cells.now c.args.others.items c.loop-other.context c.requires.names.1 low' c.index-cells-context.result c.in-Some.other c.index-cells-context.is turn.0,
    )

pub overflow_add-context : goal.overflow_add-context
overflow_add-context g c = let g = c.into_iter-other-iterator.ensures.into_iter_gives in let a = g.1 in let b = g.2 in let len = c.args.others.ok.0 in
    let inv = c.loop-other.invariant in let s = c.in-Some.ensures.steps in let turn = at_turn c.next.new.self.rest.items c.in-Some.other c.loop-other.yielded c.args.others.items c.loop-other.context (ap (λ l. c.loop-other.yielded ++ l) (sym s.0) ∙ inv.1) inv.2 in
    let low = turn.1 in let long = len in omega arith

pub loop-other-preserved : goal.loop-other-preserved
loop-other-preserved g c = let inv = c.loop-other.invariant in let s = c.in-Some.ensures.steps in let turn = at_turn c.next.new.self.rest.items c.in-Some.other c.loop-other.yielded c.args.others.items c.loop-other.context (ap (λ l. c.loop-other.yielded ++ l) (sym s.0) ∙ inv.1) inv.2 in
    let low = turn.1 in let long = as_long seat_name cell_name c.args.others.items c.args.cells.now c.requires.names.1 in
    let m = inv.0 in let low' : c.loop-other.context < length c.args.cells.now = omega arith in let names = length-map c.args.cells.now cell_name in
    let known = length-map c.args.places.now.items seat_known ∙ as_long seat_name cell_name c.args.places.now.items c.args.cells.now c.requires.names.0 ∙ sym names in
    let next = merged_next (cell_names c.args.cells.now) (known_by c.args.places.now.items) c.loop-other.context c.loop-other.places.items c.args.others.items c.index_mut.result.now c.join.new.self c.in-Some.other m
    (let h : c.loop-other.context < length (cell_names c.args.cells.now) = omega arith in h) known (let h : length c.args.others.items ≡ length (cell_names c.args.cells.now) = omega arith in h) c.index_mut.ensures.value turn.0
    c.join.ensures.name c.join.ensures.known in (
      subst (λ (n : ℕ). Merged (cell_names c.args.cells.now) (known_by c.args.places.now.items) (known_by c.args.others.items) n (set c.loop-other.places.items c.loop-other.context c.join.new.self)) (sym (add-one c.loop-other.context)) next,
      append_assoc c.loop-other.yielded (c.in-Some.other ∷ []) c.next.new.self.rest.items ∙ ap (λ l. c.loop-other.yielded ++ l) (sym s.0) ∙ inv.1,
      (let d = inv.2 in omega (arith, length-append c.loop-other.yielded (c.in-Some.other ∷ []))),
    )

pub returns-clause-known : goal.returns-clause-known
returns-clause-known g c = let inv = c.loop-other.invariant in let end = c.in-None.ensures.steps.0 in let len = c.loop-other.other-iterator.rest.ok.0 in let d = inv.2 in let whole = ap length inv.1 in let both = length-append c.loop-other.yielded c.loop-other.other-iterator.rest.items in
    let long = as_long seat_name cell_name c.args.others.items c.args.cells.now c.requires.names.1 in let names = length-map c.args.cells.now cell_name in
    let known = length-map c.args.places.now.items seat_known ∙ as_long seat_name cell_name c.args.places.now.items c.args.cells.now c.requires.names.0 ∙ sym names in
    let others = length-map c.args.others.items seat_known ∙ long ∙ sym names in
    merged_last (cell_names c.args.cells.now) (known_by c.args.places.now.items) (known_by c.args.others.items) c.loop-other.context c.loop-other.places.items inv.0 (let h : c.loop-other.context ≡ length (cell_names c.args.cells.now) = omega arith in h) known others
