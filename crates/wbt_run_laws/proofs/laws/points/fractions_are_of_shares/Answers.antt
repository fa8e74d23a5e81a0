use Rattle.wbt_run_laws.proofs.Sharing.{fractions_of_shares}
use Rattle.wbt_run_laws.proofs.laws.points.fractions_are_of_shares.Goals as goal

pub returns : goal.returns
returns c = fractions_of_shares
