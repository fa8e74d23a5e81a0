use Rattle.std.proofs.Common.{arith}
use Rattle.wbt_fraction.proofs.Counting.{in_reach, loads}
use Rattle.wbt_fraction.proofs.total.words.Counters.load.Goals as goal

pub load-requires : goal.load-requires
load-requires c =
    let t = c.args.self.now.table.shared in
    let reach = in_reach t.key t.table_id.words c.args.self.now.contexts c.args.at c.args.self.now.key c.args.self.now.wide c.requires.at in
    let word = reach.0 in
    (c.requires.seat, omega arith, loads t.key t.table_id.slots c.args.place.now.id c.args.place.now.me c.requires.stake c.args.at reach.1)
