use Rattle.std.proofs.Common.{subst, sym}
use Rattle.std.proofs.lemmas.List.{take_more}
use Rattle.wbt_text.specs.Cut.{Without}
use Rattle.wbt_text.proofs.Cuts.{without_push}
use Rattle.wbt_text.proofs.parts.cut.Goals as goal

pub loop-i-preserved : goal.loop-i-preserved
loop-i-preserved c =
    let more = take_more c.args.text.now c.loop-i.i 0 c.loop-i-test.true in
    subst (Without c.args.at) (sym more) (without_push c.args.at _ _ c.loop-i.invariant c.if-text-i.false)
