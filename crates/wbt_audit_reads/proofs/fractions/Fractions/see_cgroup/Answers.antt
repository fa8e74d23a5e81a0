use Rattle.wbt_audit_reads.proofs.fractions.Fractions.see_cgroup.Goals as goal

pub returns-in-Some : goal.returns-in-Some
returns-in-Some c = rw c.in-Some.is c.see.ensures
