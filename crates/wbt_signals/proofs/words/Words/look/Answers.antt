use Rattle.std.proofs.Common.{arith}
use Rattle.wbt_signals.proofs.Keeping.{looks}
use Rattle.wbt_signals.proofs.words.Words.look.Goals as goal

pub load-requires : goal.load-requires
load-requires c =
    let t = c.args.self.now.table.shared in
    let three = c.args.self.now.three in
    (c.requires.seat, omega arith, looks t.key t.table_id.slots c.args.place.now.id c.args.place.now.me c.requires.stake)
