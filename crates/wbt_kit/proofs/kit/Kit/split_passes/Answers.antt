use Rattle.std.proofs.Common.{ℕ, List, length, sym, ap, ◌∙◌}
use Rattle.wbt_kit.proofs.Undoing.{estimates_back}
use Rattle.wbt_kit.proofs.kit.Kit.split_passes.Goals as goal

pub returns-in-Err-clause-refused : goal.returns-in-Err-clause-refused
returns-in-Err-clause-refused g c =
    let long = ap (λ (l : List ℕ). length l) c.as_slice.ensures ∙ c.requires.owners ∙ sym c.requires.est.1 in (
      estimates_back c.as_slice.result.now c.args.cpu c.args.est.now c.split.new.pass c.in_ok-one.one c.join.new.into long
          c.in_ok-one.ensures.old c.in_ok-one.ensures.new c.join.ensures,
      c.in-Err.ensures.refused,
    )
