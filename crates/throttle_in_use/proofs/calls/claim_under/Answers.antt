use Rattle.std.proofs.Common.{subst}
use Rattle.wbt_table.specs.declared.answer.Claim.{Claim}
use Rattle.wbt_table.specs.Layout.{setting}
use Rattle.wbt_table.specs.Calls.{Claims}
use Rattle.wbt_table.proofs.Trying.{claims_keep, claims_mine}
use Rattle.throttle_in_use.proofs.calls.claim_under.Goals as goal

pub returns-clause-seat : goal.returns-clause-seat
returns-clause-seat g c = claims_keep c.args.throttle.now (setting c.args.throttle.now.layout) c.args.cpu c.args.page (g.G.Gate.said c.args.gate.now c.args.cpu) c.claim.result c.args.seat.now c.claim.new.seat c.requires.seat c.claim.ensures

pub returns-clause-mine : goal.returns-clause-mine
returns-clause-mine g c is = claims_mine c.args.throttle.now (setting c.args.throttle.now.layout) c.args.cpu c.args.page (g.G.Gate.said c.args.gate.now c.args.cpu) c.args.seat.now c.claim.new.seat c.requires.seat
    (subst (λ (a : Claim). Claims (setting c.args.throttle.now.layout) c.args.cpu c.args.page (g.G.Gate.said c.args.gate.now c.args.cpu) a c.args.seat.now c.claim.new.seat) is c.claim.ensures)
