use Rattle.wbt_forecast.proofs.Telling.Keeping.{takes_more}
use Rattle.wbt_forecast.proofs.Telling.Laws.{laws}
use Rattle.wbt_forecast.proofs.Telling.Steps.{part_now}
use Rattle.wbt_forecast.proofs.Telling.Turns.{ends_part, ends_sent, ends_so, last_row}
use Rattle.wbt_forecast.proofs.teller.Teller.finish.Goals as goal

pub count_in-requires-clause-room : goal.count_in-requires-clause-room
count_in-requires-clause-room g c =
    let trace = c.args.trace.now in
    let tells = c.requires.tells.telling in
    takes_more trace (laws trace c.requires.lawful) tells.first tells.mid c.requires.tells.moves c.args.self.now tells.keeps

pub put_interval-requires : goal.put_interval-requires
put_interval-requires g c =
    let trace = c.args.trace.now in
    let tells = c.requires.tells in
    record {
      fits = last_row trace (laws trace c.requires.lawful) c.args.every tells.moves tells.start (g.K.Sink.held c.args.sink.now) c.args.self.now c.count_in.new.self
          tells.telling c.count_in.ensures;
    }

pub returns-in_err-put_interval-clause-part : goal.returns-in_err-put_interval-clause-part
returns-in_err-put_interval-clause-part g c = λ bad moves start tells over.
    let trace = c.args.trace.now in
    part_now trace (laws trace c.requires.lawful) c.args.every moves start (g.K.Sink.held c.args.sink.now) c.args.self.now tells

pub returns-in_err-ending-clause-part : goal.returns-in_err-ending-clause-part
returns-in_err-ending-clause-part g c = λ bad moves start tells over.
    let trace = c.args.trace.now in
    part_now trace (laws trace c.requires.lawful) c.args.every moves start (g.K.Sink.held c.args.sink.now) c.args.self.now tells

pub returns-in_err-send-clause-part : goal.returns-in_err-send-clause-part
returns-in_err-send-clause-part g c = λ bad moves start tells over.
    let trace = c.args.trace.now in
    ends_part trace (laws trace c.requires.lawful) c.args.every moves start (g.K.Sink.held c.args.sink.now) c.args.self.now tells over
    c.count_in.new.self c.count_in.ensures c.put_interval.new.self c.in_ok-put_interval.ensures c.put_ending.new.self.text.items c.in_ok-ending.ensures.text
    (g.K.Sink.held c.send.new.sink) c.in_err-send.ensures.err

pub returns-clause-told : goal.returns-clause-told
returns-clause-told g c = λ moves start tells over.
    let trace = c.args.trace.now in
    ends_sent trace (laws trace c.requires.lawful) c.args.every moves start (g.K.Sink.held c.args.sink.now) c.args.self.now tells over
    c.count_in.new.self c.count_in.ensures c.put_interval.new.self c.in_ok-put_interval.ensures c.put_ending.new.self.text.items c.in_ok-ending.ensures.text
    (g.K.Sink.held c.send.new.sink) c.in_ok-send.ensures.ok

pub returns-clause-ending : goal.returns-clause-ending
returns-clause-ending g c = λ moves start tells over.
    let trace = c.args.trace.now in
    ends_so trace (laws trace c.requires.lawful) c.args.every moves start (g.K.Sink.held c.args.sink.now) c.args.self.now tells over
    c.count_in.new.self c.count_in.ensures c.put_interval.new.self c.in_ok-put_interval.ensures c.in_ok-ending.ending c.in_ok-ending.ensures.ending
