use Rattle.std.proofs.Common.{[], ◌∷◌, ◌++◌, subst}
use Rattle.wbt_audit_walk.proofs.Common.{cgroup_reads, read_loads}
use Rattle.wbt_journal.specs.Counts.{load_of_read, versions_of}
use Rattle.wbt_audit_reads.specs.Counting.{Sees, context_load, one_version}
use Rattle.wbt_audit_reads.proofs.Counted.{all_versions, saw_both}
use Rattle.wbt_audit_reads.proofs.counts.Counts.see_check.Goals as goal

pub returns : goal.returns
returns c =
    let check = c.args.check.now in
    let load = context_load check in
    let of_context = one_version load.counter load.count.version in
    let of_cgroup = versions_of (read_loads (cgroup_reads check.cgroup)) in
    let of_global = versions_of (load_of_read check.global ∷ []) in
    subst (Sees c.args.self.now c.see_read.new.self) (all_versions check.global check.cgroup load)
    (saw_both c.args.self.now c.see_cgroup.new.self c.see_read.new.self (of_cgroup ++ of_context) of_global
    (saw_both c.args.self.now c.see.new.self c.see_cgroup.new.self of_context of_cgroup c.see.ensures c.see_cgroup.ensures) c.see_read.ensures)
