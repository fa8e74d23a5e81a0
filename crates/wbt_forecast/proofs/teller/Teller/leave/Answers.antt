use Rattle.std.proofs.Common.{◌+◌}
use Rattle.wbt_forecast.proofs.Telling.Keeping.{takes_more}
use Rattle.wbt_forecast.proofs.Telling.Laws.{laws}
use Rattle.wbt_forecast.proofs.Telling.Steps.{part_leaving}
use Rattle.wbt_forecast.proofs.Telling.Turns.{leaves_on, leaves_part, leaves_row, leaves_sent}
use Rattle.wbt_forecast.proofs.teller.Teller.leave.Goals as goal

pub count_in-requires-clause-room : goal.count_in-requires-clause-room
count_in-requires-clause-room g c =
    let trace = c.args.trace.now in
    let told = c.requires.leaves.1 in
    let leaves = told.leaving in
    takes_more trace (laws trace c.requires.lawful) leaves.first leaves.mid (told.moves + 1) c.args.self.now leaves.keeps

pub put_interval-requires : goal.put_interval-requires
put_interval-requires g c =
    let trace = c.args.trace.now in
    let told = c.requires.leaves.1 in
    record {
      fits = leaves_row trace (laws trace c.requires.lawful) c.requires.leaves.0 told.moves c.args.number told.start (g.K.Sink.held c.args.sink.now) c.args.self.now
          told.leaving c.count_in.new.self c.count_in.ensures;
    }

pub returns-in_err-put_interval-clause-part : goal.returns-in_err-put_interval-clause-part
returns-in_err-put_interval-clause-part g c = λ bad every moves start leaves.
    let trace = c.args.trace.now in
    part_leaving trace (laws trace c.requires.lawful) every moves c.args.number start (g.K.Sink.held c.args.sink.now) c.args.self.now leaves

pub returns-then-len-lt-PIECE-clause-told : goal.returns-then-len-lt-PIECE-clause-told
returns-then-len-lt-PIECE-clause-told g c = λ every moves start leaves.
    let trace = c.args.trace.now in
    leaves_on trace (laws trace c.requires.lawful) every moves c.args.number start (g.K.Sink.held c.args.sink.now) c.args.self.now leaves
    c.count_in.new.self c.count_in.ensures c.put_interval.new.self c.begin_interval.new.self c.in_ok-put_interval.ensures c.begin_interval.ensures

pub returns-in_err-send-clause-part : goal.returns-in_err-send-clause-part
returns-in_err-send-clause-part g c = λ bad every moves start leaves.
    let trace = c.args.trace.now in
    leaves_part trace (laws trace c.requires.lawful) every moves c.args.number start (g.K.Sink.held c.args.sink.now) c.args.self.now leaves
    c.count_in.new.self c.count_in.ensures c.put_interval.new.self c.begin_interval.new.self c.in_ok-put_interval.ensures c.begin_interval.ensures
    (g.K.Sink.held c.send.new.sink) c.in_err-send.ensures.err

pub returns-clause-told : goal.returns-clause-told
returns-clause-told g c = λ every moves start leaves.
    let trace = c.args.trace.now in
    leaves_sent trace (laws trace c.requires.lawful) every moves c.args.number start (g.K.Sink.held c.args.sink.now) c.args.self.now leaves
    c.count_in.new.self c.count_in.ensures c.put_interval.new.self c.begin_interval.new.self c.in_ok-put_interval.ensures c.begin_interval.ensures
    c.send.new.self (g.K.Sink.held c.send.new.sink) c.in_ok-send.ensures.ok c.in_ok-send.ensures.gone c.in_ok-send.ensures.others
