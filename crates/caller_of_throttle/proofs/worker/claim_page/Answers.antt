use Rattle.std.proofs.Common.{subst}
use Rattle.wbt_table.specs.declared.answer.Claim.{Claim}
use Rattle.wbt_table.specs.Layout.{setting}
use Rattle.wbt_table.specs.Calls.{Claims}
use Rattle.wbt_table.proofs.Trying.{claims_mine}
use Rattle.caller_of_throttle.proofs.Working.{worked_claims}
use Rattle.caller_of_throttle.proofs.worker.claim_page.Goals as goal

pub returns-clause-worked : goal.returns-clause-worked
returns-clause-worked g c = worked_claims c.args.throttle.now c.args.cpu (setting c.args.throttle.now.layout) c.args.page (g.G.Gate.said c.args.gate.now c.args.cpu) c.claim.result c.args.seat.now c.claim.new.seat c.requires.seat c.claim.ensures

pub returns-clause-mine : goal.returns-clause-mine
returns-clause-mine g c is = claims_mine c.args.throttle.now (setting c.args.throttle.now.layout) c.args.cpu c.args.page (g.G.Gate.said c.args.gate.now c.args.cpu) c.args.seat.now c.claim.new.seat c.requires.seat
    (subst (λ (a : Claim). Claims (setting c.args.throttle.now.layout) c.args.cpu c.args.page (g.G.Gate.said c.args.gate.now c.args.cpu) a c.args.seat.now c.claim.new.seat) is c.claim.ensures)
