use Rattle.std.proofs.Common.{ℕ, eqb, cond, subst, arith}
use Rattle.wbt_fraction.specs.declared.domain.note.Note.TheVariants.{Found, Period}
use Rattle.wbt_fraction.specs.History.{Makes}
use Rattle.wbt_fraction.proofs.Answering.{begun_gap}
use Rattle.wbt_fraction.proofs.Allowed.{begins}
use Rattle.wbt_fraction.proofs.domain.words.Words.begin.Goals as goal

pub compare_exchange-requires : goal.compare_exchange-requires
compare_exchange-requires c = let t = c.args.self.now.table.shared in let p = c.args.place.now in let key = t.key in let slots : ℕ = t.table_id.slots in let wide = c.args.self.now.wide in let is = c.args.self.now.key in (
  c.requires.seat,
  omega arith,
  let m = c.requires.may in begins key slots p.id p.me c.requires.stake c.args.old c.args.new c.args.k (omega arith) c.requires.new m.0 m.1 m.2,
)

pub returns-clause-made : goal.returns-clause-made
returns-clause-made c =
    let r : ℕ = c.compare_exchange.result in
    subst (λ (k : ℕ). Makes (cond (eqb r c.args.old) (Period r k) (Found 0 r)) (cond (eqb r c.args.old) c.args.new r) c.args.place.now.me.0.trail c.compare_exchange.new.seat.me.0.trail)
    (begun_gap c.args.old c.args.new c.args.k c.requires.new) c.compare_exchange.ensures.2.0
