use Rattle.std.proofs.Common.{◌≡◌, ◌≤◌, [], ℕ, ◌∷◌, ◌++◌, replicate, suc, sym, ap, ◌∙◌, subst, arith, add-one}
use Rattle.wbt_published.specs.Known.{opening}
use Rattle.wbt_published.proofs.Turns.{Made, made_first, made_next, made_count}
use Rattle.wbt_published.proofs.each.open_each.Goals as goal

pub loop-context-init : goal.loop-context-init
loop-context-init c = let r = c.requires.cells in let p = c.requires.places in (subst (λ l. Made 0 l c.args.places.items) (sym r.0) (subst (λ l. Made 0 [] l) (sym p.0) made_first), r.1, p.1)

pub push_reserved-requires : goal.push_reserved-requires
push_reserved-requires c = let inv = c.loop-context.invariant in let low = c.loop-context-test.true in let a = inv.1 in let len = c.loop-context.cells.ok.0 in let count = inv.0.count in omega arith

pub push_reserved-requires-in-loop-context : goal.push_reserved-requires-in-loop-context
push_reserved-requires-in-loop-context c = let inv = c.loop-context.invariant in let low = c.loop-context-test.true in let a = inv.2 in let len = c.loop-context.places.ok.0 in
    let count = made_count c.loop-context._context c.loop-context.cells.items c.loop-context.places.items inv.0 in omega arith

pub loop-context-preserved : goal.loop-context-preserved
loop-context-preserved c = let inv = c.loop-context.invariant in let made = c.in_ok-cell.ensures in
    let next = made_next c.loop-context._context c.loop-context.cells.items c.loop-context.places.items c.in_ok-cell.cell c.in_ok-cell.place inv.0 made.0 made.1 in (
      subst (λ (n : ℕ). Made n c.push_reserved.new.self.items c.push_reserved-in-loop-context.new.self.items) (sym (add-one c.loop-context._context))
          (subst (λ l. Made (suc c.loop-context._context) l c.push_reserved-in-loop-context.new.self.items) (sym c.push_reserved.ensures.items)
          (subst (λ l. Made (suc c.loop-context._context) (c.loop-context.cells.items ++ c.in_ok-cell.cell ∷ []) l) (sym c.push_reserved-in-loop-context.ensures.items) next)),
      subst (λ n. c.args.contexts ≤ n) (sym c.push_reserved.ensures.capacity) inv.1,
      subst (λ n. c.args.contexts ≤ n) (sym c.push_reserved-in-loop-context.ensures.capacity) inv.2,
    )

pub returns-clause-cells : goal.returns-clause-cells
returns-clause-cells c = let m = c.loop-context.invariant.0 in let n = m.count in let end = c.loop-context-test.false in let most = c.loop-context.auto in omega arith

pub returns-clause-names : goal.returns-clause-names
returns-clause-names c = c.loop-context.invariant.0.of_cells

pub returns-clause-known : goal.returns-clause-known
returns-clause-known c = let end = c.loop-context-test.false in let most = c.loop-context.auto in c.loop-context.invariant.0.known ∙ ap (λ n. replicate n opening) (let h : c.loop-context._context ≡ c.args.contexts = omega arith in h)
