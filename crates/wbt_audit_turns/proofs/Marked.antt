-- A check with the mark that its line calls for is compared with what it is asked by its lines alone.
use Rattle.std.proofs.Common.{◌≡◌, Bool, true, false, ◌&&◌, ◌==◌, refl, sym, ap, ◌∙◌}
use Rattle.wbt_audit_walk.proofs.Common.{Estimate, Decision, Trace, with_mark, CheckEntry}
use Rattle.wbt_pause.specs.Decision.{exceeded_of}
use Rattle.wbt_pause.specs.declared.decision.Kind.{Kind}
use Rattle.wbt_pause.specs.declared.decision.Kind.TheVariants as kind
use Rattle.wbt_pause.specs.declared.reads.Reads.{Reads}
use Rattle.wbt_rules.specs.Strict.{is_strict}
use Rattle.wbt_strict.specs.Decision.{exceeded_for}
use Rattle.wbt_strict.proofs.Marks.{exceeded_is}
use Rattle.wbt_journal.specs.Checks.{asked_by, mark_of, reads_by, same_bool, same_decision, same_kind, same_task, task_numbers}
use Rattle.wbt_journal.specs.Side.{Side}
use Rattle.wbt_audit_turns.specs.Sides.{tells_decision}

same_mark : (a b : Kind) (over : Bool) → same_kind a b ≡ true → exceeded_of a over ≡ exceeded_of b over
same_mark kind.Free kind.Free over is = refl
same_mark kind.Free kind.Go over is = cc
same_mark kind.Free kind.Exempt over is = cc
same_mark kind.Free kind.Wait over is = cc
same_mark kind.Go kind.Free over is = cc
same_mark kind.Go kind.Go over is = refl
same_mark kind.Go kind.Exempt over is = refl
same_mark kind.Go kind.Wait over is = refl
same_mark kind.Exempt kind.Free over is = cc
same_mark kind.Exempt kind.Go over is = refl
same_mark kind.Exempt kind.Exempt over is = refl
same_mark kind.Exempt kind.Wait over is = refl
same_mark kind.Wait kind.Free over is = cc
same_mark kind.Wait kind.Go over is = refl
same_mark kind.Wait kind.Exempt over is = refl
same_mark kind.Wait kind.Wait over is = refl

bool_self : (b : Bool) → same_bool b b ≡ true
bool_self true = refl
bool_self false = refl

and_true : (b : Bool) → (b && true) ≡ b
and_true true = refl
and_true false = refl

same_for : (strict : Bool) (reads : Reads) (a b : Kind) → same_kind a b ≡ true → exceeded_for strict a reads ≡ exceeded_for strict b reads
unfolding exceeded_for
same_for strict reads a b is = same_mark a b _ is

same_when_told : (strict : Bool) (reads : Reads) (told asked : Decision) → told.exceeded ≡ exceeded_for strict told.kind reads → asked.exceeded ≡ exceeded_for strict asked.kind reads
    → same_decision told asked ≡ tells_decision told asked
same_when_told strict reads told asked told_is asked_is = by (same_kind told.kind asked.kind) refl
  where
    by : (b : Bool) → same_kind told.kind asked.kind ≡ b
        → (same_kind told.kind asked.kind && (told.pause == asked.pause && (told.left == asked.left && (same_task told.task asked.task && same_bool told.exceeded asked.exceeded))))
        ≡ (same_kind told.kind asked.kind && (told.pause == asked.pause && (told.left == asked.left && same_task told.task asked.task)))
    by true is =
        let marks : told.exceeded ≡ asked.exceeded = told_is ∙ same_for strict reads told.kind asked.kind is ∙ sym asked_is in
        let same : same_bool told.exceeded asked.exceeded ≡ true = ap (λ (b : Bool). same_bool b asked.exceeded) marks ∙ bool_self asked.exceeded in
        ap (λ (b : Bool). same_kind told.kind asked.kind && (told.pause == asked.pause && (told.left == asked.left && (same_task told.task asked.task && b)))) same
        ∙ ap (λ (b : Bool). same_kind told.kind asked.kind && (told.pause == asked.pause && (told.left == asked.left && b))) (and_true (same_task told.task asked.task))
    by false is =
        ap (λ (b : Bool). b && (told.pause == asked.pause && (told.left == asked.left && (same_task told.task asked.task && same_bool told.exceeded asked.exceeded)))) is
        ∙ sym (ap (λ (b : Bool). b && (told.pause == asked.pause && (told.left == asked.left && same_task told.task asked.task))) is)

-- so the audit compares all but the mark
pub marks_agree : (trace : Trace) (s : Side) (check : CheckEntry) (estimate : Estimate)
    → same_decision (with_mark trace check).decision (asked_by trace s (with_mark trace check) estimate) ≡ tells_decision check.decision (asked_by trace s check estimate)
unfolding mark_of
marks_agree trace s check estimate =
    same_when_told (is_strict trace check.context) (reads_by trace check) (with_mark trace check).decision (asked_by trace s check estimate) refl
    (exceeded_is (is_strict trace check.context) (reads_by trace check) estimate (task_numbers trace s check) check.now)
