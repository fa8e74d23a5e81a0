use Rattle.std.proofs.Common.{ℕ, MatchOption, subst}
use Rattle.wbt_expiry.specs.Marks.{AreEmpty, IsFirstFilled}
use Rattle.wbt_expiry.proofs.Filing.{first_slot}
use Rattle.wbt_expiry.proofs.filed.Filed.first_slot.Goals as goal

pub returns : goal.returns
returns c = let now = c.args.self.now in
    first_slot c.args.level now.base now.dues.items now.lists c.requires.level c.requires.filed c.first_filled.result
    (subst (λ (start : ℕ). MatchOption c.first_filled.result (AreEmpty now.lists c.args.level) (IsFirstFilled now.lists c.args.level start)) c.start_of.ensures c.first_filled.ensures)
