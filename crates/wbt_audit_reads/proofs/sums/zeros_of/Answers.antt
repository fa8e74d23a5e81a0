use Rattle.std.proofs.Common.{◌+◌, ℤ, pos, List, [], ◌∷◌, replicate, length, ◌∙◌, ap}
use Rattle.std.proofs.lemmas.List.{length-replicate, take_all}
use Rattle.wbt_audit_walk.proofs.Common.{of_counter, row_of}
use Rattle.wbt_audit_reads.proofs.Summed.{zeros_first, zeros_on}
use Rattle.wbt_audit_reads.proofs.sums.zeros_of.Goals as goal

pub loop-fold-init : goal.loop-fold-init
loop-fold-init c =
    let places = c.args.places in
    let one : List ℤ = pos 0 ∷ [] in
    let are = c.in_ok-sums.ensures ∙ ap (λ n. replicate n one) c.counters.ensures in record {
      room = ap length are ∙ length-replicate (places.domains + places.contexts) one;
      zeros = λ x p is. ap (λ m. row_of m p) are ∙ zeros_first places x p is;
    }

pub loop-fold-preserved : goal.loop-fold-preserved
loop-fold-preserved c =
    let made = zeros_on c.args.places _ c.args.folds.now c.loop-fold.sums c.add_zero.new.sums c.loop-fold.fold-index c.in_ok-add_zero.ensures
    c.loop-fold-test.true c.loop-fold.invariant.room c.loop-fold.invariant.zeros in
    record { room = made.0; zeros = made.1 }

pub returns : goal.returns
returns c = λ x p is.
    c.loop-fold.invariant.zeros x p is
    ∙ ap (λ folds. replicate (1 + length (of_counter x folds)) (pos 0)) (take_all c.loop-fold.fold-index c.args.folds.now c.loop-fold-test.false)
