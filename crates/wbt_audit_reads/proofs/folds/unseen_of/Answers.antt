use Rattle.std.proofs.Common.{◌+◌, Bool, false, List, [], replicate, length, ◌∙◌, ap}
use Rattle.std.proofs.lemmas.List.{length-replicate, take_all}
use Rattle.wbt_audit_walk.proofs.Common.{of_counter, row_of}
use Rattle.wbt_audit_reads.proofs.Folded.{none_made, made_on}
use Rattle.wbt_audit_reads.proofs.folds.unseen_of.Goals as goal

pub loop-fold-init : goal.loop-fold-init
loop-fold-init c =
    let places = c.args.places in
    let none : List Bool = [] in
    let are = c.in_ok-versions.ensures ∙ ap (λ n. replicate n none) c.counters.ensures in record {
      room = ap length are ∙ length-replicate (places.domains + places.contexts) none;
      none = λ x p is. ap (λ m. row_of m p) are ∙ none_made places x p is;
    }

pub loop-fold-preserved : goal.loop-fold-preserved
loop-fold-preserved c =
    let made = made_on c.args.places _ c.args.folds.now c.loop-fold.versions c.add_version.new.versions c.loop-fold.fold-index c.in_ok-add_version.ensures
    c.loop-fold-test.true c.loop-fold.invariant.room c.loop-fold.invariant.none in
    record { room = made.0; none = made.1 }

pub returns : goal.returns
returns c = λ x p is.
    c.loop-fold.invariant.none x p is ∙ ap (λ folds. replicate (length (of_counter x folds)) false) (take_all c.loop-fold.fold-index c.args.folds.now c.loop-fold-test.false)
