use Rattle.std.proofs.Common.{arith}
use Rattle.wbt_signals.proofs.Keeping.{rings}
use Rattle.wbt_signals.proofs.words.Words.ring.Goals as goal

pub store-requires : goal.store-requires
store-requires c =
    let t = c.args.self.now.table.shared in
    let three = c.args.self.now.three in
    (c.requires.seat, omega arith, rings t.key t.table_id.slots c.args.place.now.id c.args.place.now.me c.requires.stake)
