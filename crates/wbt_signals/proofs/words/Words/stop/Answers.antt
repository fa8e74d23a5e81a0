use Rattle.std.proofs.Common.{arith}
use Rattle.wbt_signals.proofs.Keeping.{stops}
use Rattle.wbt_signals.proofs.words.Words.stop.Goals as goal

pub fetch_sub-requires : goal.fetch_sub-requires
fetch_sub-requires c =
    let t = c.args.self.now.table.shared in
    let three = c.args.self.now.three in
    (c.requires.seat, omega arith, stops t.key t.table_id.slots c.args.place.now.id c.args.place.now.me c.requires.stake c.requires.writes)
