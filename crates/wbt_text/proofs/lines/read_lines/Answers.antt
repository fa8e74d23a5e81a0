use Rattle.wbt_text.proofs.Leading.{read_exact}
use Rattle.wbt_text.proofs.lines.read_lines.Goals as goal

pub returns-clause-exact : goal.returns-clause-exact
returns-clause-exact g c = read_exact g.R.Reader.format (g.R.Reader.seen c.args.reader) c.requires.clear c.args.text.now c.read.result c.read.ensures
