-- Tests that decide what they test.
use Rattle.std.proofs.Common.{◌≡◌, ℕ, ◌<◌, ◌≤◌, Bool, true, false, not, eqb, ltb, leb, ◌&&◌, ◌||◌, Option, Some, None, List, [], ◌∷◌, sym, refl, ap, ◌∙◌, subst, eqb-true, eq-eqb, true≢false, ltb-true, leb-true, ⊎_elim}
use Rattle.std.specs.Prelude.{IsSomeAnd}
use Rattle.std.specs.Cmp.Derive.{both_true}
use Rattle.std.proofs.Math.Bool.{or-true}
use Rattle.std.proofs.lemmas.Bool.{and_parts, or_cases, le-leb, lt-ltb}
use Rattle.wbt_num.specs.declared.limits.Limits.{Limits}
use Rattle.wbt_num.specs.declared.limits.TheConstants.{MAX_LIMIT}
use Rattle.wbt_num.specs.Limits.{IsLawful}
use Rattle.wbt_counter.specs.declared.record.Debt.{Debt}
use Rattle.wbt_counter.specs.declared.record.Debt.TheVariants.{Free, Event, FoldDue, ClearDue}
use Rattle.wbt_counter.specs.declared.record.Owed.{Owed}
use Rattle.wbt_counter.specs.Account.{amount, to_clear}
use Rattle.wbt_grant.specs.declared.who.StepKind.{StepKind}
use Rattle.wbt_grant.specs.declared.who.StepKind.TheVariants.{Look}
use Rattle.wbt_grant.specs.declared.who.Word.{Word}
use Rattle.wbt_grant.specs.declared.who.Word.TheVariants.{Page}
use Rattle.wbt_grant.specs.declared.who.Who.{Who}
use Rattle.wbt_grant.specs.declared.who.Who.TheVariants.{Writer, Cpu, Timer}
use Rattle.wbt_grant.specs.declared.record.LastStep.{LastStep}
use Rattle.wbt_grant.specs.declared.record.Stage.{Stage}
use Rattle.wbt_grant.specs.declared.record.Stage.TheVariants.{Sealed, Unsealed, Drafted}
use Rattle.wbt_grant.specs.Setting.{Setting, is_inside}
use Rattle.wbt_grant.specs.State.{State}
use Rattle.wbt_grant.specs.Kinds.{IsWho, IsLoader, IsReady, IsLookAt}
use Rattle.wbt_grant.specs.Conditions.{is_event, is_fold_due, is_clear_due, is_who, is_loader, owes_none, is_ready, is_look, is_page, looked_at, at_most, is_triple, is_drafted, is_lawful}

-- the test passes just where the condition holds
pub record Decides (test : Bool) (Condition : Type 0) : Type 0 where
  pub holds : test ≡ true → Condition
  pub passes : Condition → test ≡ true

pub both : {a b : Bool} {P Q : Type 0} → Decides a P → Decides b Q → Decides (a && b) (P × Q)
both {a} {b} p q = record {
  holds = λ t. let parts = and_parts a b t in (p.holds parts.0, q.holds parts.1);
  passes = λ h. both_true (p.passes h.0) (q.passes h.1);
}

-- the same condition in other words
pub said : {b : Bool} {P Q : Type 0} → (P → Q) → (Q → P) → Decides b P → Decides b Q
said to from p = record { holds = λ t. to (p.holds t); passes = λ h. p.passes (from h) }

pub itself : (b : Bool) → Decides b (b ≡ true)
itself b = record { holds = λ t. t; passes = λ t. t }

pub less : (n m : ℕ) → Decides (ltb n m) (n < m)
less n m = record { holds = ltb-true n m; passes = lt-ltb n m }

pub no_more : (n m : ℕ) → Decides (leb n m) (n ≤ m)
no_more n m = record { holds = leb-true n m; passes = le-leb n m }

pub equal : (n m : ℕ) → Decides (eqb n m) (n ≡ m)
equal n m = record { holds = eqb-true n m; passes = eq-eqb n m }

-- debts

is_event-true : (debt : Debt) → is_event debt ≡ true → debt ≡ Event (amount debt)
is_event-true Free t = absurd (true≢false (sym t))
is_event-true (Event a) t = refl
is_event-true FoldDue t = absurd (true≢false (sym t))
is_event-true (ClearDue d) t = absurd (true≢false (sym t))

is_fold_due-true : (debt : Debt) → is_fold_due debt ≡ true → debt ≡ FoldDue
is_fold_due-true Free t = absurd (true≢false (sym t))
is_fold_due-true (Event a) t = absurd (true≢false (sym t))
is_fold_due-true FoldDue t = refl
is_fold_due-true (ClearDue d) t = absurd (true≢false (sym t))

is_clear_due-true : (debt : Debt) → is_clear_due debt ≡ true → debt ≡ ClearDue (to_clear debt)
is_clear_due-true Free t = absurd (true≢false (sym t))
is_clear_due-true (Event a) t = absurd (true≢false (sym t))
is_clear_due-true FoldDue t = absurd (true≢false (sym t))
is_clear_due-true (ClearDue d) t = refl

pub event_is_owed : (debt : Debt) → Decides (is_event debt) (debt ≡ Event (amount debt))
event_is_owed debt = record { holds = is_event-true debt; passes = ap is_event }

pub fold_is_owed : (debt : Debt) → Decides (is_fold_due debt) (debt ≡ FoldDue)
fold_is_owed debt = record { holds = is_fold_due-true debt; passes = ap is_fold_due }

pub clear_is_owed : (debt : Debt) → Decides (is_clear_due debt) (debt ≡ ClearDue (to_clear debt))
clear_is_owed debt = record { holds = is_clear_due-true debt; passes = ap is_clear_due }

owes_none-true : (debts : List Owed) → owes_none debts ≡ true → debts ≡ []
owes_none-true [] t = refl
owes_none-true (owed ∷ rest) t = absurd (true≢false (sym t))

pub ready : (set : Setting) (i : ℕ) (s : State) → Decides (is_ready set i s) (IsReady set (s.cpu i))
ready set i s = said (λ h. record { owes_none = h.0; step_left = h.1 }) (λ h. (h.owes_none, h.step_left))
    (both (record { holds = owes_none-true (s.cpu i).debts; passes = ap owes_none }) (less (s.cpu i).page_steps set.page_steps))

-- who loads

pub who_is : (set : Setting) (who : Who) → Decides (is_who set who) (IsWho set who)
who_is set (Writer w) = less w set.writers
who_is set (Cpu i) = less i set.cpus
who_is set Timer = record { holds = λ t. tt; passes = λ h. refl }

pub loader_is : (set : Setting) (who : Who) → Decides (is_loader set who) (IsLoader set who)
loader_is set (Writer w) = less w set.writers
loader_is set (Cpu i) = less i set.cpus
loader_is set Timer = record { holds = λ t. true≢false (sym t); passes = λ h. absurd h }

-- looks

is_look-true : (k : StepKind) → is_look k ≡ true → k ≡ Look
is_look-true Look t = refl
is_look-true _ t = absurd (true≢false (sym t))

is_page-true : (p : ℕ) (word : Word) → is_page p word ≡ true → word ≡ Page p
is_page-true p (Page q) t = ap Page (eqb-true q p t)
is_page-true p _ t = absurd (true≢false (sym t))

looked_at-true : (p : ℕ) (last : List LastStep) → looked_at p last ≡ true → IsLookAt p last
looked_at-true p [] t = true≢false (sym t)
looked_at-true p (step ∷ older) t =
    let both = and_parts (is_look step.kind) (is_page p step.word) t in
    (is_look-true step.kind both.0, is_page-true p step.word both.1)

pub decides_look : (p : ℕ) (last : List LastStep) → IsLookAt p last → looked_at p last ≡ true
decides_look p [] is = absurd is
decides_look p (step ∷ older) is = both_true (ap is_look is.0) (ap (is_page p) is.1 ∙ eq-eqb p p refl)

pub looked : (p : ℕ) (last : List LastStep) → Decides (looked_at p last) (IsLookAt p last)
looked p last = record { holds = looked_at-true p last; passes = decides_look p last }

-- limits

pub at_most_some : (n : ℕ) (o : Option ℕ) → Decides (at_most n o) (IsSomeAnd o (λ m. n ≤ m))
at_most_some n None = record { holds = λ t. true≢false (sym t); passes = λ h. absurd h }
at_most_some n (Some m) = no_more n m

pub lawful : (triple : Limits) → Decides (is_lawful triple) (IsLawful triple)
lawful triple = said (λ h. record { bg_below_thresh = h.0; thresh_below_hard = h.1.0; hard_in_range = h.1.1 })
    (λ h. (h.bg_below_thresh, (h.thresh_below_hard, h.hard_in_range)))
    (both (no_more triple.bg triple.thresh) (both (no_more triple.thresh triple.hard) (no_more triple.hard MAX_LIMIT)))

not-true : (b : Bool) → not b ≡ true → b ≡ false
not-true true t = absurd (true≢false (sym t))
not-true false t = refl

pub fails : (b : Bool) → Decides (not b) (b ≡ false)
fails b = record { holds = not-true b; passes = ap not }

same_triple : (a b : Limits) → is_triple a b ≡ true → a ≡ b
same_triple a b t =
    let one = and_parts (eqb a.thresh b.thresh) (eqb a.bg b.bg && eqb a.hard b.hard) t in
    let two = and_parts (eqb a.bg b.bg) (eqb a.hard b.hard) one.1 in
    ap (λ (n : ℕ). record { thresh = n; bg = a.bg; hard = a.hard }) (eqb-true a.thresh b.thresh one.0)
    ∙ (ap (λ (n : ℕ). record { thresh = b.thresh; bg = n; hard = a.hard }) (eqb-true a.bg b.bg two.0)
    ∙ ap (λ (n : ℕ). record { thresh = b.thresh; bg = b.bg; hard = n }) (eqb-true a.hard b.hard two.1))

triple_itself : (a : Limits) → is_triple a a ≡ true
triple_itself a = both_true (eq-eqb a.thresh a.thresh refl) (both_true (eq-eqb a.bg a.bg refl) (eq-eqb a.hard a.hard refl))

is_drafted-true : (triple : Limits) (stage : Stage) → is_drafted triple stage ≡ true → stage ≡ Drafted triple
is_drafted-true triple Sealed t = absurd (true≢false (sym t))
is_drafted-true triple Unsealed t = absurd (true≢false (sym t))
is_drafted-true triple (Drafted limits) t = ap Drafted (same_triple limits triple t)

pub drafted : (triple : Limits) (stage : Stage) → Decides (is_drafted triple stage) (stage ≡ Drafted triple)
drafted triple stage = record {
  holds = is_drafted-true triple stage;
  passes = λ is. ap (is_drafted triple) is ∙ triple_itself triple;
}

-- a domain of a context is the global one or that of its cgroup
in_both : (set : Setting) (k d : ℕ) (P : ℕ → Type 0) → P 0 → P (set.group k) → is_inside set d k ≡ true → P d
in_both set k d P global own inside = ⊎_elim (λ t. subst P (sym (eqb-true d 0 t)) global)
    (λ t. subst P (sym (eqb-true d (set.group k) t)) own) (or_cases (eqb d 0) (eqb d (set.group k)) inside)

-- a context is in the global domain, and in that of its cgroup
in_own : (set : Setting) (k : ℕ) → is_inside set (set.group k) k ≡ true
in_own set k = ap (λ (b : Bool). eqb (set.group k) 0 || b) (eq-eqb (set.group k) (set.group k) refl) ∙ or-true (eqb (set.group k) 0)

-- what holds in both of a context's domains
pub in_each : (set : Setting) (k : ℕ) (P : ℕ → Bool)
    → Decides (P 0 && P (set.group k)) ((d : ℕ) → is_inside set d k ≡ true → P d ≡ true)
in_each set k P = said (λ h d inside. in_both set k d (λ n. P n ≡ true) h.0 h.1 inside) (λ h. (h 0 refl, h (set.group k) (in_own set k)))
    (both (itself (P 0)) (itself (P (set.group k))))
