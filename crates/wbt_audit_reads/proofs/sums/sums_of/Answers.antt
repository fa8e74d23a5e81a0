use Rattle.wbt_audit_reads.proofs.Summed.{parts_first}
use Rattle.wbt_audit_reads.proofs.sums.sums_of.Goals as goal

pub returns : goal.returns
returns c =
    let places = c.args.places in
    let folds = c.args.folds.now in
    c.in_ok-add_up_all.ensures folds (c.in_ok-add_folds.ensures (parts_first places folds c.in_ok-sums.sums c.in_ok-sums.ensures))
