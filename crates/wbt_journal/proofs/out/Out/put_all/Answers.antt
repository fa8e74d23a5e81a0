use Rattle.std.proofs.Common.{◌≡◌, ◌++◌, take, ap, ◌∙◌, append_assoc, take-append-drop}
use Rattle.wbt_journal.proofs.Ways.{puts_same, puts_then}
use Rattle.wbt_journal.proofs.out.Out.put_all.Goals as goal

pub loop-rest-preserved : goal.loop-rest-preserved
loop-rest-preserved g c =
    let before = c.loop-rest.invariant in
    let piece = c.split_at.result.0.now in
    let more = c.split_at.result.1.now in
    let rest = c.loop-rest.rest.now in
    let both : piece ++ more ≡ rest = ap (λ t. t ++ more) c.split_at.ensures.front ∙ ap (λ t. take 65536 rest ++ t) c.split_at.ensures.back ∙ take-append-drop 65536 rest in (
      before.0 ++ piece,
      puts_then before.0 piece _ _ _ before.1 c.put.ensures,
      append_assoc before.0 piece more ∙ ap (λ t. before.0 ++ t) both ∙ before.2,
    )

pub returns : goal.returns
returns g c =
    let before = c.loop-rest.invariant in
    puts_same _ _ _ _ before.2 (puts_then before.0 c.loop-rest.rest.now _ _ _ before.1 c.put-2.ensures)
