use Rattle.std.proofs.Common.{ℕ, ◌+◌, ◌*◌, ◌<◌, sym, subst}
use Rattle.wbt_table.specs.declared.words.Offsets.{Offsets}
use Rattle.wbt_table.proofs.Common.{limits_from}
use Rattle.wbt_table.proofs.Places.{own_inside}
use Rattle.wbt_table.proofs.words.Words.own_at.Goals as goal

pub returns-clause-inside : goal.returns-clause-inside
returns-clause-inside c = let placed = c.args.self.now.placed in let number = c.number.ensures.value in
    let inside = own_inside c.args.self.now.layout c.args.counter c.args.cpu c.requires.there c.requires.cpu in
    subst (λ (z : Offsets × ℕ). z.0.own + (c.args.cpu * z.0.stride + z.1) < limits_from c.args.self.now.layout) (λ i. (sym placed i, sym number i)) inside
