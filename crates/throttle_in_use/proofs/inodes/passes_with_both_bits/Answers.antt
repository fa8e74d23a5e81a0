use Rattle.std.proofs.Common.{◌≡◌, true, true≢false, sym, eqb-true}
use Rattle.wbt_table.specs.Layout.{setting}
use Rattle.wbt_table.proofs.Trying.{claims_keep}
use Rattle.wbt_table.proofs.InFlight.{passing_owes}
use Rattle.throttle_in_use.proofs.inodes.passes_with_both_bits.Goals as goal

pub returns-in-NotDirty-clause-seat : goal.returns-in-NotDirty-clause-seat
returns-in-NotDirty-clause-seat c = claims_keep c.args.throttle.now (setting c.args.throttle.now.layout) c.args.cpu c.args.page (λ n b. b ≡ true) c.claim.result c.args.seat.now c.claim.new.seat c.requires.seat c.claim.ensures

pub returns-in-NotDirty-clause-owed : goal.returns-in-NotDirty-clause-owed
returns-in-NotDirty-clause-owed c is = passing_owes c.args.throttle.now c.args.throttle.now.layout c.args.cpu c.args.page (λ n b. b ≡ true) c.in-NotDirty.word c.args.seat.now c.claim.new.seat c.requires.seat
    c.in-NotDirty.ensures (eqb-true c.in-NotDirty.word 3 is)

pub returns-in_default : goal.returns-in_default
returns-in_default c = record {
  seat = claims_keep c.args.throttle.now (setting c.args.throttle.now.layout) c.args.cpu c.args.page (λ n b. b ≡ true) c.claim.result c.args.seat.now c.claim.new.seat c.requires.seat c.claim.ensures;
  owed = λ e. absurd (true≢false (sym e));
}
