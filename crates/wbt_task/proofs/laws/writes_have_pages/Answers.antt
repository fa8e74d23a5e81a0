use Rattle.wbt_task.proofs.Leaving.{writes_have_pages}
use Rattle.wbt_task.proofs.laws.writes_have_pages.Goals as goal

pub returns : goal.returns
returns c = writes_have_pages
