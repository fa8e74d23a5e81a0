use Rattle.std.proofs.Common.{[], ◌∷◌}
use Rattle.wbt_audit_walk.proofs.Common.{cgroup_reads}
use Rattle.wbt_audit_reads.proofs.Tripled.{saw_both}
use Rattle.wbt_audit_reads.proofs.triples.Triples.see_check.Goals as goal

pub returns : goal.returns
returns c =
    let check = c.args.check.now in
    saw_both c.args.self.now c.see_cgroup.new.self c.see.new.self (cgroup_reads check.cgroup) (check.global ∷ []) c.see_cgroup.ensures c.see.ensures
