use Rattle.std.proofs.Common.{ap, ◌∙◌}
use Rattle.wbt_expiry.specs.Kept.{pairs_of}
use Rattle.wbt_expiry.proofs.Pairs.{no_pairs}
use Rattle.wbt_expiry.proofs.wheel.Wheel.make.Goals as goal

pub returns-clause-pairs : goal.returns-clause-pairs
returns-clause-pairs c = ap (pairs_of c.in_ok-dues.dues.items) c.in_ok-lists.ensures ∙ no_pairs c.in_ok-dues.dues.items c.args.inodes
