use Rattle.std.proofs.Common.{◌≡◌, ℕ, suc, ◌+◌, ◌^◌, ◌%◌, subst, arith}
use mathlib.Core.Option.{none}
use Rattle.atomic_table.specs.Table.{Allows, step}
use Rattle.wbt_fraction.specs.Rule.{Kept}
use Rattle.wbt_fraction.specs.Steps.{PartAdded}
use Rattle.wbt_fraction.proofs.Allowed.{adds_part}
use Rattle.wbt_fraction.proofs.domain.words.Words.add_part.Goals as goal

pub fetch_add-requires : goal.fetch_add-requires
fetch_add-requires c = let t = c.args.self.now.table.shared in let p = c.args.place.now in let key = t.key in let slots : ℕ = t.table_id.slots in let wide = c.args.self.now.wide in let is = c.args.self.now.key in (
  c.requires.seat,
  omega arith,
  subst (λ (i : ℕ). Allows (Kept key) slots p.id p.me i (λ w. (w + c.args.n) % 2 ^ 64) (PartAdded (step slots i c.args.n 0 none) p.me)) (let e : suc c.args.part ≡ c.args.part + 1 = omega arith in e) (adds_part key slots p.id p.me c.requires.stake c.args.part c.args.n (omega arith) c.requires.room),
)
