use Rattle.std.proofs.Common.{ℕ, ◌+◌, arith}
use Rattle.wbt_fraction.proofs.Allowed.{loads}
use Rattle.wbt_fraction.proofs.domain.words.Words.load_part.Goals as goal

pub load-requires : goal.load-requires
load-requires c = let t = c.args.self.now.table.shared in let p = c.args.place.now in let key = t.key in let slots : ℕ = t.table_id.slots in let wide = c.args.self.now.wide in let is = c.args.self.now.key in (
  c.requires.seat,
  omega arith,
  loads key slots p.id p.me c.requires.stake (c.args.part + 1) (omega arith),
)
