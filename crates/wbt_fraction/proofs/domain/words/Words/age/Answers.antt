use Rattle.std.proofs.Common.{◌≡◌, ℕ, suc, ◌+◌, eqb, subst, arith}
use mathlib.Core.Option.{none}
use prog.Atomic.{either}
use Rattle.atomic_table.specs.Table.{Allows, step}
use Rattle.wbt_fraction.specs.Rule.{Kept}
use Rattle.wbt_fraction.specs.Steps.{Aged}
use Rattle.wbt_fraction.proofs.Allowed.{ages}
use Rattle.wbt_fraction.proofs.domain.words.Words.age.Goals as goal

pub compare_exchange-requires : goal.compare_exchange-requires
compare_exchange-requires c = let t = c.args.self.now.table.shared in let p = c.args.place.now in let key = t.key in let slots : ℕ = t.table_id.slots in let wide = c.args.self.now.wide in let is = c.args.self.now.key in (
  c.requires.seat,
  omega arith,
  subst (λ (i : ℕ). Allows (Kept key) slots p.id p.me i (λ n. either (eqb n c.args.old) c.args.new n) (Aged (step slots i c.args.old c.args.new none) p.me)) (let e : suc c.args.part ≡ c.args.part + 1 = omega arith in e) (ages key slots p.id p.me c.requires.stake c.args.part c.args.old c.args.new c.args.period (omega arith) c.requires.new c.requires.later c.requires.reached),
)
