use Rattle.std.proofs.Common.{ℕ, List, ◌+◌, ◌%◌, get_or, sym, subst}
use Rattle.wbt_expiry.specs.Marks.{IsClear, IsAhead, AreUnmarked, IsFirstMarked}
use Rattle.wbt_expiry.proofs.Marking.{none_marked, first_marked}
use Rattle.wbt_expiry.proofs.marks.Marks.first_from.Goals as goal

pub returns-in-Some : goal.returns-in-Some
returns-in-Some c =
    let ahead : IsAhead (get_or c.self.inside.words c.args.level 0) (c.args.start % 64) c.in-Some.bits = c.in-Some.ensures in
    subst (λ (words : List ℕ). IsFirstMarked words c.args.level c.args.start (c.args.start + c.from.result)) c.self.view_is
    (subst (λ (bits : ℕ). IsFirstMarked c.self.inside.words c.args.level c.args.start (c.args.start + bits)) (sym c.from.ensures)
    (first_marked c.self.inside.words c.args.level c.args.start c.in-Some.bits ahead))

pub returns-in-None : goal.returns-in-None
returns-in-None c =
    let clear : IsClear (get_or c.self.inside.words c.args.level 0) = c.in-None.ensures in
    subst (λ (words : List ℕ). AreUnmarked words c.args.level) c.self.view_is
    (none_marked c.self.inside.words c.args.level c.args.start clear)
