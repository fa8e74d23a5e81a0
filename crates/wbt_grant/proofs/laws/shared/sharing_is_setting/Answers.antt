use Rattle.wbt_grant.proofs.SharedWords.{sharing_is_setting}
use Rattle.wbt_grant.proofs.laws.shared.sharing_is_setting.Goals as goal

pub returns : goal.returns
returns c = sharing_is_setting
