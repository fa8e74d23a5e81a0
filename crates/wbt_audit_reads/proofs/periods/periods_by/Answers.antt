use Rattle.std.proofs.Common.{ℕ, List, [], ◌∷◌, length, ◌∙◌, ap}
use Rattle.std.proofs.lemmas.List.{length-replicate, take_all}
use Rattle.wbt_audit_walk.proofs.Common.{periods_from, row_of}
use Rattle.wbt_audit_reads.proofs.Perioded.{periods_first, periods_on}
use Rattle.wbt_audit_reads.proofs.periods.periods_by.Goals as goal

pub loop-entry-init : goal.loop-entry-init
loop-entry-init c =
    let places = c.args.places in
    let one : List ℕ = 0 ∷ [] in record {
      room = ap length c.in_ok-periods.ensures ∙ length-replicate places.domains one;
      are = λ domain p is. ap (λ m. row_of m p) c.in_ok-periods.ensures ∙ periods_first places domain p is;
    }

pub loop-entry-preserved : goal.loop-entry-preserved
loop-entry-preserved c =
    let made = periods_on c.args.places _ c.args.timer.now c.loop-entry.periods c.begin.new.periods c.loop-entry.entry-index c.in_ok-begin.ensures
    c.loop-entry-test.true c.loop-entry.invariant.room c.loop-entry.invariant.are in
    record { room = made.0; are = made.1 }

pub returns-clause-are : goal.returns-clause-are
returns-clause-are c = λ domain p is.
    c.loop-entry.invariant.are domain p is ∙ ap (periods_from domain 0) (take_all c.loop-entry.entry-index c.args.timer.now c.loop-entry-test.false)
