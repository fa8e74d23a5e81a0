-- Tests of single conditions, which compute.
use Rattle.std.specs.Prelude.{ℕ, Bool, true, false, ◌==◌, nat_lt, nat_le, ◌&&◌, Option, Some, None, List, [], ◌∷◌}
use Rattle.wbt_num.specs.declared.limits.Limits.{Limits}
use Rattle.wbt_num.specs.declared.limits.TheConstants.{MAX_LIMIT}
use Rattle.wbt_counter.specs.declared.record.Debt.{Debt}
use Rattle.wbt_counter.specs.declared.record.Debt.TheVariants.{Free, Event, FoldDue, ClearDue}
use Rattle.wbt_counter.specs.declared.record.Owed.{Owed}
use Rattle.wbt_grant.specs.declared.who.StepKind.{StepKind}
use Rattle.wbt_grant.specs.declared.who.StepKind.TheVariants.{Look}
use Rattle.wbt_grant.specs.declared.who.Word.{Word}
use Rattle.wbt_grant.specs.declared.who.Word.TheVariants.{Page}
use Rattle.wbt_grant.specs.declared.who.Who.{Who}
use Rattle.wbt_grant.specs.declared.who.Who.TheVariants.{Writer, Cpu, Timer}
use Rattle.wbt_grant.specs.declared.record.LastStep.{LastStep}
use Rattle.wbt_grant.specs.declared.record.Stage.{Stage}
use Rattle.wbt_grant.specs.declared.record.Stage.TheVariants.{Sealed, Unsealed, Drafted}
use Rattle.wbt_grant.specs.Setting.{Setting}
use Rattle.wbt_grant.specs.State.{State}

-- an event is owed, which isn't yet in the own number
abbrev pub is_event : (debt : Debt) → Bool
is_event Free = false
is_event (Event a) = true
is_event FoldDue = false
is_event (ClearDue d) = false

-- a fold is owed, since the own number has reached the batch
abbrev pub is_fold_due : (debt : Debt) → Bool
is_fold_due Free = false
is_fold_due (Event a) = false
is_fold_due FoldDue = true
is_fold_due (ClearDue d) = false

-- a clear is owed, after a fold
abbrev pub is_clear_due : (debt : Debt) → Bool
is_clear_due Free = false
is_clear_due (Event a) = false
is_clear_due FoldDue = false
is_clear_due (ClearDue d) = true

-- a writer or a CPU that the throttle has, or the timer
abbrev pub is_who : (set : Setting) (who : Who) → Bool
is_who set (Writer w) = nat_lt w set.writers
is_who set (Cpu i) = nat_lt i set.cpus
is_who set Timer = true

-- a loader of limits, which the timer isn't
abbrev pub is_loader : (set : Setting) (who : Who) → Bool
is_loader set (Writer w) = nat_lt w set.writers
is_loader set (Cpu i) = nat_lt i set.cpus
is_loader set Timer = false

-- no counter is owed anything
abbrev pub owes_none : (debts : List Owed) → Bool
owes_none [] = true
owes_none (owed ∷ rest) = false

-- the CPU i owes no counter anything, and has a page step left
abbrev pub is_ready : (set : Setting) (i : ℕ) (s : State) → Bool
is_ready set i s = owes_none (s.cpu i).debts && nat_lt (s.cpu i).page_steps set.page_steps

-- a step that looks at a page
abbrev pub is_look : (kind : StepKind) → Bool
is_look Look = true
is_look other = false

-- the word of the page p
abbrev pub is_page : (p : ℕ) (word : Word) → Bool
is_page p (Page q) = q == p
is_page p other = false

-- the last step was a look at the page p
abbrev pub looked_at : (p : ℕ) (last : List LastStep) → Bool
looked_at p [] = false
looked_at p (step ∷ older) = is_look step.kind && is_page p step.word

-- a peak was raised, and to at least n pages
abbrev pub at_most : (n : ℕ) (raised : Option ℕ) → Bool
at_most n None = false
at_most n (Some m) = nat_le n m

-- the same three limits
abbrev pub is_triple : (a b : Limits) → Bool
is_triple a b = (a.thresh == b.thresh) && ((a.bg == b.bg) && (a.hard == b.hard))

-- the limits in hand are these
abbrev pub is_drafted : (triple : Limits) (stage : Stage) → Bool
is_drafted triple Sealed = false
is_drafted triple Unsealed = false
is_drafted triple (Drafted limits) = is_triple limits triple

-- limits in order, background threshold, threshold and hard limit, of which none is above `MAX_LIMIT`
abbrev pub is_lawful : (triple : Limits) → Bool
is_lawful triple = nat_le triple.bg triple.thresh && (nat_le triple.thresh triple.hard && nat_le triple.hard MAX_LIMIT)
