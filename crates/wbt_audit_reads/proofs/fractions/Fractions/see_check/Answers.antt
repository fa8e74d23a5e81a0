use Rattle.std.proofs.Common.{[], ◌∷◌}
use Rattle.wbt_audit_walk.proofs.Common.{cgroup_reads}
use Rattle.wbt_journal.specs.Reads.{periods_read}
use Rattle.wbt_audit_reads.proofs.Fractioned.{saw_both}
use Rattle.wbt_audit_reads.proofs.fractions.Fractions.see_check.Goals as goal

pub returns : goal.returns
returns c =
    let check = c.args.check.now in
    saw_both c.args.self.now c.see_cgroup.new.self c.see.new.self (periods_read check.context (cgroup_reads check.cgroup)) (periods_read check.context (check.global ∷ []))
    c.see_cgroup.ensures c.see.ensures
