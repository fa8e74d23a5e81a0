-- What a check did.
use Rattle.std.specs.Prelude.{ℕ, List, [], ◌∷◌}
use Rattle.wbt_journal.specs.Told.{Told}
use Rattle.wbt_kit.specs.declared.kit.Kit.{Kit}
use Rattle.wbt_trace.specs.declared.trace.Trace.{Trace}
use Rattle.wbt_writer.specs.Desk.{HaveLefts, OwesNothing, Sight}
use Rattle.wbt_writer.specs.Did.{Did, Does, OwesNoMore}
use Rattle.wbt_writer.specs.Took.{IsCheck}

-- a check was made at a moment that the clock told
pub record Checks (told : ℕ → Type 0) (trace : Trace) (kit : Kit) (cpu task : ℕ) (old new : Sight) : Type 0 where
  pub now : ℕ
  pub was_told : told now
  pub added : List Told
  pub did : Did trace kit.published.moment cpu (now ∷ []) added old new
  pub is_check : IsCheck trace kit cpu task added old new
  pub owes_nothing : OwesNothing cpu new.seats
  pub lefts : HaveLefts trace cpu kit new.work.tasks new.seats
  pub owes_no_more : OwesNoMore cpu old.seats new.seats

-- some loads were made, and no more
pub record LoadsAlone (trace : Trace) (kit : Kit) (cpu : ℕ) (old new : Sight) : Type 0 where
  pub does : Does trace kit.published.moment cpu [] old new
