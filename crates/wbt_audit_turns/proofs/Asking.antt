-- A check whose lines tell what it is asked decides that, with the mark that its line calls for.
use Rattle.std.proofs.Common.{◌≡◌, ℕ, Bool, true, false, ◌&&◌, ◌==◌, Option, Some, None, refl, sym, ap, ◌∙◌}
use Rattle.std.proofs.lemmas.Bool.{cond-true, cond-false}
use Rattle.std.proofs.lemmas.Bool.Decides.{Decides-eqb}
use Rattle.wbt_audit_walk.proofs.Common.{Estimate, Decision, Trace, with_mark, CheckEntry}
use Rattle.wbt_pause.specs.declared.decision.Kind.{Kind}
use Rattle.wbt_pause.specs.declared.decision.Kind.TheVariants as kind
use Rattle.wbt_pause.specs.declared.reads.Task.{Task}
use Rattle.wbt_journal.specs.Checks.{asked_by, decides_by, is_in_range, same_bool, same_decision, same_kind, same_task, task_numbers}
use Rattle.wbt_journal.specs.Side.{Side}
use Rattle.wbt_audit_turns.specs.Judging.{asked_in_range}
use Rattle.wbt_audit_turns.specs.Sides.{tells_decision}
use Rattle.wbt_audit_turns.proofs.Marked.{marks_agree}

-- ---- a decision that is the same in all its parts

kind_is : (a b : Kind) → same_kind a b ≡ true → a ≡ b
kind_is kind.Free kind.Free is = refl
kind_is kind.Free kind.Go is = cc
kind_is kind.Free kind.Exempt is = cc
kind_is kind.Free kind.Wait is = cc
kind_is kind.Go kind.Free is = cc
kind_is kind.Go kind.Go is = refl
kind_is kind.Go kind.Exempt is = cc
kind_is kind.Go kind.Wait is = cc
kind_is kind.Exempt kind.Free is = cc
kind_is kind.Exempt kind.Go is = cc
kind_is kind.Exempt kind.Exempt is = refl
kind_is kind.Exempt kind.Wait is = cc
kind_is kind.Wait kind.Free is = cc
kind_is kind.Wait kind.Go is = cc
kind_is kind.Wait kind.Exempt is = cc
kind_is kind.Wait kind.Wait is = refl

bool_is : (a b : Bool) → same_bool a b ≡ true → a ≡ b
bool_is true true is = refl
bool_is true false is = cc
bool_is false true is = cc
bool_is false false is = refl

left_is : (a b : Bool) → (a && b) ≡ true → a ≡ true
left_is true b is = refl
left_is false b is = cc

right_is : (a b : Bool) → (a && b) ≡ true → b ≡ true
right_is true b is = is
right_is false b is = cc

number_is : (a b : ℕ) → (a == b) ≡ true → a ≡ b
number_is a b is = (Decides-eqb a b).0 is

task_is : (a b : Task) → same_task a b ≡ true → a ≡ b
task_is a b is =
    let dirtied = number_is a.nr_dirtied b.nr_dirtied (left_is _ _ is) in
    let pause = number_is a.nr_dirtied_pause b.nr_dirtied_pause (left_is _ _ (right_is _ _ is)) in
    let paused = number_is a.paused_when b.paused_when (right_is _ _ (right_is _ _ is)) in
    (λ i. record { nr_dirtied = dirtied i; nr_dirtied_pause = pause i; paused_when = paused i })

decision_is : (a b : Decision) → same_decision a b ≡ true → a ≡ b
decision_is a b is =
    let kinds = kind_is a.kind b.kind (left_is _ _ is) in
    let after_kind = right_is (same_kind a.kind b.kind) _ is in
    let pauses = number_is a.pause b.pause (left_is _ _ after_kind) in
    let after_pause = right_is (a.pause == b.pause) _ after_kind in
    let lefts = number_is a.left b.left (left_is _ _ after_pause) in
    let after_left = right_is (a.left == b.left) _ after_pause in
    let tasks = task_is a.task b.task (left_is _ _ after_left) in
    let marks = bool_is a.exceeded b.exceeded (right_is (same_task a.task b.task) _ after_left) in
    (λ i. record { kind = kinds i; pause = pauses i; left = lefts i; task = tasks i; exceeded = marks i })

-- ---- a check

module _ (trace : Trace) (s : Side) (check : CheckEntry) where
  abbrev in_range : Estimate → Bool
  in_range estimate = is_in_range check estimate (task_numbers trace s check)

  -- a check is asked exactly where the numbers are in range
  was_asked : (estimate : Estimate) (decision : Decision) (b : Bool) → in_range estimate ≡ b → Some decision ≡ asked_in_range trace s check (Some estimate)
      → (in_range estimate ≡ true) × (asked_by trace s check estimate ≡ decision)
  was_asked estimate decision true within is = (within, same (is ∙ cond-true (in_range estimate) (Some (asked_by trace s check estimate)) None within))
    where
      same : Some decision ≡ Some (asked_by trace s check estimate) → asked_by trace s check estimate ≡ decision
      same e = cc
  was_asked estimate decision false outside is = absurd (never (is ∙ cond-false (in_range estimate) (Some (asked_by trace s check estimate)) None outside))
    where
      never : Some decision ≡ None → ⊥
      never e = cc

  not_asked : (estimate : Estimate) (b : Bool) → in_range estimate ≡ b → None ≡ asked_in_range trace s check (Some estimate) → in_range estimate ≡ false
  not_asked estimate false outside is = outside
  not_asked estimate true within is = absurd (never (is ∙ cond-true (in_range estimate) (Some (asked_by trace s check estimate)) None within))
    where
      never : None ≡ Some (asked_by trace s check estimate) → ⊥
      never e = cc

  -- of numbers in range it decides as it is asked where its lines tell that
  decides : (estimate : Estimate) → in_range estimate ≡ true → decides_by trace s (with_mark trace check) (Some estimate) ≡ tells_decision check.decision (asked_by trace s check estimate)
  decides estimate within =
      ap (λ (b : Bool). b && same_decision (with_mark trace check).decision (asked_by trace s (with_mark trace check) estimate)) within ∙ marks_agree trace s check estimate

  module _ (which : Option Estimate) (asked : Option Decision) (is : asked ≡ asked_in_range trace s check which) where
    -- it decides as it is asked where its lines tell that
    pub told_if : (decision : Decision) → asked ≡ Some decision → decides_by trace s (with_mark trace check) which ≡ tells_decision check.decision decision
    told_if decision some = by which (sym some ∙ is)
      where
        by : (which : Option Estimate) → Some decision ≡ asked_in_range trace s check which → decides_by trace s (with_mark trace check) which ≡ tells_decision check.decision decision
        by None is = absurd (cc is)
        by (Some estimate) is =
            let was = was_asked estimate decision (in_range estimate) refl is in
            decides estimate was.0 ∙ ap (tells_decision check.decision) was.1

    -- and then what it was asked is what it decided
    pub told_is : (decision : Decision) → asked ≡ Some decision → tells_decision check.decision decision ≡ true → decision ≡ (with_mark trace check).decision
    told_is decision some told = by which (sym some ∙ is)
      where
        by : (which : Option Estimate) → Some decision ≡ asked_in_range trace s check which → decision ≡ (with_mark trace check).decision
        by None is = absurd (cc is)
        by (Some estimate) is =
            let was = was_asked estimate decision (in_range estimate) refl is in
            sym was.1 ∙ sym (decision_is (with_mark trace check).decision (asked_by trace s check estimate) (marks_agree trace s check estimate ∙ ap (tells_decision check.decision) was.1 ∙ told))

    -- where nothing is asked, it doesn't decide
    pub told_none : asked ≡ None → decides_by trace s (with_mark trace check) which ≡ false
    told_none none = by which (sym none ∙ is)
      where
        by : (which : Option Estimate) → None ≡ asked_in_range trace s check which → decides_by trace s (with_mark trace check) which ≡ false
        by None is = refl
        by (Some estimate) is =
            ap (λ (b : Bool). b && same_decision (with_mark trace check).decision (asked_by trace s (with_mark trace check) estimate)) (not_asked estimate (in_range estimate) refl is)
