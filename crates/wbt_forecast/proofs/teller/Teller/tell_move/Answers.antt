use Rattle.std.proofs.lemmas.Result.{on_ok_weaker}
use Rattle.wbt_replay_order.proofs.Facts.Facts.{facts}
use Rattle.wbt_forecast.proofs.Telling.Laws.{laws}
use Rattle.wbt_forecast.proofs.Telling.Steps.{part_now}
use Rattle.wbt_forecast.proofs.Telling.Turns.{goes_on, move_counts, move_takes, moves_counted, moves_off, moves_on}
use Rattle.wbt_forecast.proofs.teller.Teller.tell_move.Goals as goal

pub move_on-requires-clause-facts : goal.move_on-requires-clause-facts
move_on-requires-clause-facts g c = facts c.args.trace.now c.requires.lawful

pub returns-in_err-move_on-clause-part : goal.returns-in_err-move_on-clause-part
returns-in_err-move_on-clause-part g c = λ bad moves start less tells.
    let trace = c.args.trace.now in
    part_now trace (laws trace c.requires.lawful) c.args.every moves start (g.K.Sink.held c.args.sink.now) c.args.self.now tells

pub leave-requires-clause-leaves : goal.leave-requires-clause-leaves
leave-requires-clause-leaves g c =
    let trace = c.args.trace.now in
    let tells = c.requires.tells in
    let held = g.K.Sink.held c.args.sink.now in
    let less = goes_on trace (laws trace c.requires.lawful) c.args.every tells.moves tells.start held c.args.self.now tells.telling c.requires.going in (
      c.args.every,
      record {
        moves = tells.moves;
        start = tells.start;
        leaving = moves_off trace (laws trace c.requires.lawful) c.args.every tells.moves tells.start held c.args.self.now c.move_on.new.self less tells.telling
            c.in_ok-move_on.ensures.state c.in_ok-move_on.ensures.others c.if-has_left.ensures;
      },
    )

pub returns-then-has_left-clause-told : goal.returns-then-has_left-clause-told
returns-then-has_left-clause-told g c =
    let trace = c.args.trace.now in
    on_ok_weaker c.leave.result
    (λ told moves start less tells. told c.args.every moves start
    (moves_off trace (laws trace c.requires.lawful) c.args.every moves start (g.K.Sink.held c.args.sink.now) c.args.self.now c.move_on.new.self less tells
    c.in_ok-move_on.ensures.state c.in_ok-move_on.ensures.others c.if-has_left.ensures))
    c.leave.ensures.told

pub returns-then-has_left-clause-part : goal.returns-then-has_left-clause-part
returns-then-has_left-clause-part g c = λ bad moves start less tells.
    let trace = c.args.trace.now in
    c.leave.ensures.part bad c.args.every moves start
    (moves_off trace (laws trace c.requires.lawful) c.args.every moves start (g.K.Sink.held c.args.sink.now) c.args.self.now c.move_on.new.self less tells
    c.in_ok-move_on.ensures.state c.in_ok-move_on.ensures.others c.if-has_left.ensures)

pub returns-then-kept-lt-MOST_KEPT-clause-told : goal.returns-then-kept-lt-MOST_KEPT-clause-told
returns-then-kept-lt-MOST_KEPT-clause-told g c = λ moves start less tells.
    let trace = c.args.trace.now in
    moves_on trace (laws trace c.requires.lawful) c.args.every moves start (g.K.Sink.held c.args.sink.now) c.args.self.now c.move_on.new.self less tells
    c.in_ok-move_on.ensures.state c.in_ok-move_on.ensures.others c.if-has_left.ensures

pub count_in-requires-clause-counted : goal.count_in-requires-clause-counted
count_in-requires-clause-counted g c =
    let trace = c.args.trace.now in
    let tells = c.requires.tells in
    let held = g.K.Sink.held c.args.sink.now in
    let less = goes_on trace (laws trace c.requires.lawful) c.args.every tells.moves tells.start held c.args.self.now tells.telling c.requires.going in
    move_counts trace (laws trace c.requires.lawful) c.args.every tells.moves tells.start held c.args.self.now c.move_on.new.self less tells.telling
    c.in_ok-move_on.ensures.state c.in_ok-move_on.ensures.others

pub count_in-requires-clause-room : goal.count_in-requires-clause-room
count_in-requires-clause-room g c =
    let trace = c.args.trace.now in
    let tells = c.requires.tells in
    let held = g.K.Sink.held c.args.sink.now in
    let less = goes_on trace (laws trace c.requires.lawful) c.args.every tells.moves tells.start held c.args.self.now tells.telling c.requires.going in
    move_takes trace (laws trace c.requires.lawful) c.args.every tells.moves tells.start held c.args.self.now c.move_on.new.self less tells.telling
    c.in_ok-move_on.ensures.state c.in_ok-move_on.ensures.others

pub returns-clause-told : goal.returns-clause-told
returns-clause-told g c = λ moves start less tells.
    let trace = c.args.trace.now in
    moves_counted trace (laws trace c.requires.lawful) c.args.every moves start (g.K.Sink.held c.args.sink.now) c.args.self.now c.move_on.new.self less tells
    c.in_ok-move_on.ensures.state c.in_ok-move_on.ensures.others c.count_in.new.self c.count_in.ensures c.if-has_left.ensures
