-- The steps of a CPU's writers are words of turns.
use Rattle.std.proofs.Common.{◌≡◌, ℕ, Bool, true, false, ◌==◌, List, [], ◌∷◌, ◌++◌, pos, inl, inr, refl, sym, ap, subst}
use Rattle.std.proofs.lemmas.Bool.{cond_both}
use Rattle.wbt_writer.proofs.Common.{Context, count, setting, Dirtied, Kit, Seats, MakesEach, MakesSome, domain_steps, none_as, record_in, StepsToDirty}
use Rattle.wbt_kit.proofs.Common.{Owed, Step, StepKind}
use Rattle.wbt_grant.specs.declared.who.StepKind.TheVariants as kind
use Rattle.wbt_grant.specs.declared.who.Who.TheVariants.{Writer}
use Rattle.wbt_run_steps.specs.Kinds.{ArePayments, CutsTurn, Steps, StepsAs, StepsToPay, TakesTurn, marking}
use Rattle.wbt_run_steps.proofs.Logging.{as_still, cut_after, cut_so, cut_whole, cuts_none, each_as, kinds_listed, some_as, steps_more, steps_so}
use Rattle.wbt_run_steps.proofs.Payments.{settled_by}
use Rattle.wbt_table.specs.declared.answer.Dirtied.TheVariants as found
use Rattle.wbt_turns.specs.Words.{IsCut, IsTurn}
use Rattle.wbt_turns.specs.Words.IsTurn.{checks, writes, writes_again}
use Rattle.wbt_writer.specs.Kinds.{PaysAndMarks, StepsToFinish, StepsToWrite}
use Rattle.wbt_writer.specs.Loads.{check_steps}
use Rattle.wbt_writer.specs.declared.write.Wrote.{Wrote}
use Rattle.wbt_writer.specs.declared.write.Wrote.TheVariants as wrote

-- ---- a check

-- all that a check loads is a turn
check_turn : (domains cpu writer context group : ℕ) → IsTurn domains (kinds_listed (check_steps cpu writer context group))
check_turn domains cpu writer context group =
    cond_both (group == 0) [] (domain_steps cpu (Writer writer) group)
    (λ (l : List Step). IsTurn domains (kinds_listed (domain_steps cpu (Writer writer) 0 ++ (l ++ count (Writer writer) (Context context) ∷ []))))
    (λ none. checks 1 (inl refl) refl) (λ some. checks 2 (inr refl) refl)

pub check_takes : (domains : ℕ) (kit : Kit) (cpu writer context group : ℕ) (old mid new : Seats) → MakesEach kit cpu (check_steps cpu writer context group) old mid
    → StepsAs cpu [] mid new → TakesTurn domains cpu old new
check_takes domains kit cpu writer context group old mid new makes gives =
    let steps = check_steps cpu writer context group in
    (kinds_listed steps, check_turn domains cpu writer context group, as_still cpu (kinds_listed steps) old mid new (each_as kit cpu steps old mid makes) gives)

pub check_cuts : (domains : ℕ) (kit : Kit) (cpu writer context group : ℕ) (old new : Seats) → MakesSome kit cpu (check_steps cpu writer context group) old new → CutsTurn domains cpu old new
check_cuts domains kit cpu writer context group old new makes =
    let steps = check_steps cpu writer context group in
    steps_so cpu (IsCut (λ word. word ≡ kinds_listed steps)) (IsCut (IsTurn domains)) old new
    (λ word cut. (cut.0, subst (IsTurn domains) (sym cut.1) (check_turn domains cpu writer context group)))
    (some_as kit cpu steps old new makes)

-- ---- what follows a write of a clean page

module _ (cpu : ℕ) (old mid : Seats) where
  abbrev debts : List Owed
  debts = (record_in cpu old).debts

  begins : (word : List StepKind) → ArePayments debts word → (more : List StepKind) × PaysAndMarks debts (word ++ more)
  begins word pays = (marking, (word, pays, refl))

  -- it was stopped in what it pays
  pub finish_cut : (all : Bool) → all ≡ false → StepsToPay cpu all old mid → StepsToFinish cpu wrote.Stopped old mid
  finish_cut all is pays = cut_so cpu (ArePayments debts) (PaysAndMarks debts) old mid begins (subst (λ (b : Bool). StepsToPay cpu b old mid) is pays)

  -- or after that
  pub finish_paid : (all : Bool) → all ≡ true → StepsToPay cpu all old mid → StepsToFinish cpu wrote.Stopped old mid
  finish_paid all is pays = cut_so cpu (ArePayments debts) (PaysAndMarks debts) old mid begins
      (cut_whole cpu (ArePayments debts) old mid (subst (λ (b : Bool). StepsToPay cpu b old mid) is pays))

  -- or not at all
  pub finish_marked : (all : Bool) (new : Seats) → all ≡ true → StepsToPay cpu all old mid → StepsAs cpu marking mid new → StepsToFinish cpu wrote.Fresh old new
  finish_marked all new is pays marks = steps_more cpu (ArePayments debts) (λ word. word ≡ marking) (PaysAndMarks debts) old mid new
      (λ a b paid marked. (a, paid, ap (λ (l : List StepKind). a ++ l) marked)) (subst (λ (b : Bool). StepsToPay cpu b old mid) is pays) (marking, refl, marks)

-- ---- a write

-- nothing was done of it
pub write_none : (domains cpu : ℕ) (old : Seats) → StepsToWrite domains cpu wrote.Stopped old old
write_none domains cpu old = cuts_none domains cpu old old (none_as cpu old old refl)

-- its page was dirty
pub write_again : (domains : ℕ) (kit : Kit) (cpu page : ℕ) (answer : Dirtied) (old new : Seats) → StepsToDirty kit cpu page answer old new → StepsToWrite domains cpu wrote.Already old new
write_again domains kit cpu page answer old new dirties = (kind.Dirty ∷ [], writes_again refl, dirties.steps)

-- it was clean, and this followed
module _ (domains : ℕ) (kit : Kit) (cpu page : ℕ) (old mid new : Seats) (dirties : StepsToDirty kit cpu page found.Fresh old mid) where
  dirtied : Steps cpu (λ word. word ≡ kind.Dirty ∷ []) old mid
  dirtied = (kind.Dirty ∷ [], refl, dirties.steps)

  fresh_turn : (a b : List StepKind) → a ≡ kind.Dirty ∷ [] → PaysAndMarks (record_in cpu mid).debts b → IsTurn domains (a ++ b)
  fresh_turn a b is finish = writes finish.0
      (settled_by (setting kit.throttle.layout) page (pos 1) finish.0 (subst (λ (l : List Owed). ArePayments l finish.0) dirties.owes finish.1)) (λ i. is i ++ finish.2 i)

  pub write_fresh : (answer : Wrote) → StepsToFinish cpu answer mid new → StepsToWrite domains cpu answer old new
  write_fresh wrote.Fresh finish = steps_more cpu (λ word. word ≡ kind.Dirty ∷ []) (PaysAndMarks (record_in cpu mid).debts) (IsTurn domains) old mid new fresh_turn dirtied finish
  write_fresh wrote.Stopped finish = cut_after cpu (λ word. word ≡ kind.Dirty ∷ []) (PaysAndMarks (record_in cpu mid).debts) (IsTurn domains) old mid new fresh_turn dirtied finish
  write_fresh wrote.Already finish = absurd finish
  write_fresh wrote.Spent finish = absurd finish
