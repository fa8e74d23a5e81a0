use Rattle.wbt_forecast.proofs.Telling.Keeping.{keeps_first}
use Rattle.wbt_forecast.proofs.Telling.Laws.{laws}
use Rattle.wbt_forecast.proofs.Telling.Steps.{tells_first}
use Rattle.wbt_forecast.proofs.foretell.forecast.Goals as goal

pub foretell-requires-clause-telling : goal.foretell-requires-clause-telling
foretell-requires-clause-telling g c =
    let trace = c.args.trace.now in
    let teller = c.in-Ok.teller in
    let e = c.in-Ok.ensures in
    tells_first trace c.args.every (g.K.Sink.held c.args.sink.now) teller
    (keeps_first trace (laws trace c.requires.lawful) teller e.machine e.round e.bases e.small e.interval e.totals e.counted e.before)
    e.text
