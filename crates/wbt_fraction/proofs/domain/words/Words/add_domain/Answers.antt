use Rattle.std.proofs.Common.{ℕ, arith}
use Rattle.wbt_fraction.proofs.Allowed.{adds_domain}
use Rattle.wbt_fraction.proofs.domain.words.Words.add_domain.Goals as goal

pub fetch_add-requires : goal.fetch_add-requires
fetch_add-requires c = let t = c.args.self.now.table.shared in let p = c.args.place.now in let key = t.key in let slots : ℕ = t.table_id.slots in let wide = c.args.self.now.wide in let is = c.args.self.now.key in (
  c.requires.seat,
  omega arith,
  adds_domain key slots p.id p.me c.requires.stake c.args.n (omega arith) c.requires.room,
)
