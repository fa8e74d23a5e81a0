use Rattle.std.proofs.Common.{◌==◌, ap, ◌∙◌}
use Rattle.std.specs.List.{list_any}
use Rattle.std.proofs.lemmas.List.Sorted.{searched}
use Rattle.wbt_audit_reads.proofs.Perioded.{found_is}
use Rattle.wbt_audit_reads.proofs.periods.has_period.Goals as goal

pub returns : goal.returns
returns c = λ rising.
    let periods = c.args.periods.now in
    c.is_ok.ensures.value
    ∙ found_is c.from.result periods c.binary_search.result (searched periods c.from.result c.binary_search.result c.binary_search.ensures.position rising)
    ∙ ap (λ x. list_any (λ p. p == x) periods) c.from.ensures
