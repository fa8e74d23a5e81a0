use Rattle.wbt_limits.proofs.Rising.{cgroup_thresh_is_between}
use Rattle.wbt_limits.proofs.laws.cgroup_thresh_is_between.Goals as goal

pub returns : goal.returns
returns c = cgroup_thresh_is_between
