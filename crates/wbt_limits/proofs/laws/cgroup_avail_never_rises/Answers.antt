use Rattle.wbt_limits.proofs.Rising.{cgroup_avail_never_rises}
use Rattle.wbt_limits.proofs.laws.cgroup_avail_never_rises.Goals as goal

pub returns : goal.returns
returns c = cgroup_avail_never_rises
