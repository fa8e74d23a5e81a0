use Rattle.std.proofs.Common.{◌<◌, ◌^◌, ◌∙◌, ℕ, sym, ap, subst}
use Rattle.std.specs.Int.{trailing_zeros, w64}
use Rattle.wbt_expiry.specs.Marks.{IsAhead}
use Rattle.wbt_expiry.proofs.Marking.{none_set, some_set}
use Rattle.wbt_expiry.proofs.marks.bits_ahead.Goals as goal

pub returns-then-turned-eq0 : goal.returns-then-turned-eq0
returns-then-turned-eq0 c = none_set c.args.word c.args.from c.ranges.word.fits c.requires (sym c.rotate_right-turned.ensures ∙ c.if-turned-eq0.true)

pub returns : goal.returns
returns c =
    subst (IsAhead c.args.word c.args.from) (ap (trailing_zeros w64) (sym c.rotate_right-turned.ensures))
    (some_set c.args.word c.args.from c.ranges.word.fits c.requires
    (λ none. c.if-turned-eq0.false (c.rotate_right-turned.ensures ∙ none))
    (subst (λ (n : ℕ). n < 2 ^ 64) c.rotate_right-turned.ensures c.rotate_right-turned.type_inv))
