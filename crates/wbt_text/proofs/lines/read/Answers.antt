use Rattle.std.proofs.Common.{sym, subst}
use Rattle.wbt_text.specs.Reading.{HasAnswer}
use Rattle.wbt_text.proofs.Leading.{has_bytes, further, ends_uncut, ends_unread}
use Rattle.wbt_text.proofs.lines.read.Goals as goal

pub returns-in-None : goal.returns-in-None
returns-in-None g c =
    let format = g.R.Reader.format in
    let start = g.R.Reader.seen c.args.reader in
    let bytes = has_bytes c.is_empty.result c.lines.rest.now c.is_empty.ensures c.if-is_empty.false in
    let ends = ends_uncut format start c.args.text.now c.lines.count (g.R.Reader.seen c.lines.reader) c.lines.rest.now c.lines.invariant bytes c.in-None.ensures.none in
    subst (λ (answer : _). HasAnswer format start c.args.text.now answer) (sym c.unread.ensures) ends

pub returns-in-NoLine : goal.returns-in-NoLine
returns-in-NoLine g c =
    let format = g.R.Reader.format in
    let start = g.R.Reader.seen c.args.reader in
    let cut = c.in-Some.ensures.found in
    let none = rw c.in-NoLine.is at c.in_ok-take-in-Some.ensures in
    let ends = ends_unread format start c.args.text.now c.lines.count (g.R.Reader.seen c.lines.reader) c.lines.rest.now c.in-Some.first.now c.in-Some.more.now c.requires c.lines.invariant cut.0 cut.1 none in
    subst (λ (answer : _). HasAnswer format start c.args.text.now answer) (sym c.unread-in-NoLine.ensures) ends

pub lines-preserved : goal.lines-preserved
lines-preserved g c =
    let line = rw c.in-Taken.is at c.in_ok-take-in-Some.ensures in
    further g.R.Reader.format (g.R.Reader.seen c.args.reader) c.args.text.now c.lines.count (g.R.Reader.seen c.lines.reader) (g.R.Reader.seen c.take.new.self) c.lines.rest.now c.in-Some.first.now c.in-Some.more.now line.0 c.lines.invariant c.in-Some.ensures.found.0 line.1 line.2
