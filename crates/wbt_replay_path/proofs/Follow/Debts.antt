-- What a list of debts says with the numbers that are to be cleared left out, which a CPU's list of what to do doesn't name.
use Rattle.std.proofs.Common.{◌≡◌, cond, not, ℤ, pos, List, [], ◌∷◌, refl, sym, ◌∙◌, ap}
use Rattle.wbt_replay_order.proofs.Common.{Counter, Debt, ClearDue, Owed, is_same, without_debt, debt_to, bared}
use Rattle.wbt_counter.specs.declared.record.Debt.TheVariants.{Free, Event, FoldDue}
use Rattle.wbt_counter.specs.Account.{to_clear}
use Rattle.wbt_replay_order.specs.Kept.Following.{bare}
use Rattle.wbt_replay_order.proofs.Lists.Places.{cond_ap}

pub bared_without : (x : Counter) (debts : List Owed) → bared (without_debt x debts) ≡ without_debt x (bared debts)
bared_without x [] = refl
bared_without x (owed ∷ rest) =
    let more = bared_without x rest in
    let first : Owed = record { counter = owed.counter; debt = bare owed.debt } in
    cond_ap bared (not (is_same x owed.counter)) (owed ∷ without_debt x rest) (without_debt x rest)
    ∙ ap (λ (l : List Owed). cond (not (is_same x owed.counter)) (first ∷ l) l) more

pub debt_in_bared : (x : Counter) (debts : List Owed) → debt_to x (bared debts) ≡ bare (debt_to x debts)
debt_in_bared x [] = refl
debt_in_bared x (owed ∷ rest) =
    ap (cond (is_same x owed.counter) (bare owed.debt)) (debt_in_bared x rest)
    ∙ sym (cond_ap bare (is_same x owed.counter) owed.debt (debt_to x rest))

pub none_owed : (debts : List Owed) → bared debts ≡ [] → debts ≡ []
none_owed [] is = refl
none_owed (owed ∷ rest) is = absurd (cc is)

is_event : (debt : Debt) (a : ℤ) → bare debt ≡ Event a → debt ≡ Event a
is_event Free a is = is
is_event (Event b) a is = is
is_event FoldDue a is = is
is_event (ClearDue d) a is = absurd (cc is)

is_fold : (debt : Debt) → bare debt ≡ FoldDue → debt ≡ FoldDue
is_fold Free is = is
is_fold (Event b) is = is
is_fold FoldDue is = is
is_fold (ClearDue d) is = absurd (cc is)

is_clear : (debt : Debt) → bare debt ≡ ClearDue (pos 0) → debt ≡ ClearDue (to_clear debt)
is_clear Free is = absurd (cc is)
is_clear (Event b) is = absurd (cc is)
is_clear FoldDue is = absurd (cc is)
is_clear (ClearDue d) is = refl

pub owes_event : (x : Counter) (a : ℤ) (debts : List Owed) → debt_to x (bared debts) ≡ Event a → debt_to x debts ≡ Event a
owes_event x a debts is = is_event (debt_to x debts) a (sym (debt_in_bared x debts) ∙ is)

pub owes_fold : (x : Counter) (debts : List Owed) → debt_to x (bared debts) ≡ FoldDue → debt_to x debts ≡ FoldDue
owes_fold x debts is = is_fold (debt_to x debts) (sym (debt_in_bared x debts) ∙ is)

pub owes_clear : (x : Counter) (debts : List Owed) → debt_to x (bared debts) ≡ ClearDue (pos 0)
    → debt_to x debts ≡ ClearDue (to_clear (debt_to x debts))
owes_clear x debts is = is_clear (debt_to x debts) (sym (debt_in_bared x debts) ∙ is)
