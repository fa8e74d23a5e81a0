use Rattle.std.proofs.Common.{sym, ap, ◌∙◌}
use Rattle.wbt_audit_walk.proofs.Common.{told_entry, told_of, told_by}
use Rattle.wbt_audit_walk.proofs.Picking.{first_told}
use Rattle.wbt_audit_walk.proofs.walk.first_act.Goals as goal

pub returns-in-Some : goal.returns-in-Some
returns-in-Some c = first_told (told_entry c.args.checks.now c.args.estimates.now) c.args.entries.now c.loop-place.place _ (told_of c.in-Some.act) c.loop-place-test.true c.loop-place.invariant (sym c.of.ensures ∙ ap told_by c.in-Some.is)
