use Rattle.std.proofs.Common.{ℕ, List, MatchOption, subst}
use Rattle.wbt_expiry.specs.Marks.{AreEmpty, IsFirstFilled}
use Rattle.wbt_expiry.proofs.Marking.{filled_by_marks}
use Rattle.wbt_expiry.proofs.lists.Lists.first_filled.Goals as goal

pub returns : goal.returns
returns c =
    subst (λ (homes : List ℕ). MatchOption c.first_from.result (AreEmpty homes c.args.level) (IsFirstFilled homes c.args.level c.args.start)) c.self.view_is
    (filled_by_marks c.self.inside.firsts.items c.self.inside.nexts.items c.self.inside.homes.items c.self.inside.marks c.self.invariant
    c.args.level c.args.start c.requires.level c.first_from.result c.first_from.ensures)
