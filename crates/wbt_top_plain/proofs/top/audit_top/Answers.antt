use Rattle.std.proofs.Common.{rules, ◌≡◌, ◌⊎◌, Err, inl, inr, ap, subst}
use Rattle.wbt_io.specs.Faults.{HasRisen}
use Rattle.wbt_audit.specs.Audited.{audit_of}
use Rattle.wbt_top_plain.specs.Audit.{Answers, Audited, IfAuditTold, IsAuditInput, both, Shows}
use Rattle.wbt_top_plain.specs.Written.{IsWrittenUnless}
use Rattle.wbt_top_plain.specs.declared.status.Status.{Status}
use Rattle.wbt_top_plain.specs.declared.status.Status.TheVariants as status
use Rattle.wbt_top_plain.proofs.Told.{end_answers, is_told, shows, no_refusal, no_read_fault, not_too_long, other_way}
use Rattle.wbt_top_plain.proofs.Judged.{run_judged}
use Rattle.wbt_top_plain.proofs.top.audit_top.Goals as goal

pub returns-in-Err-clause-audit : goal.returns-in-Err-clause-audit
returns-in-Err-clause-audit g c =
    let each : (HasRisen (g.S.Source.faults c.args.source.now) (g.S.Source.faults c.read_case.new.source) → ⊥) → IfAuditTold (g.S.Source.left c.args.source.now) (λ told. Answers c.of_case_end.result (HasRisen (g.K.Sink.faults c.args.sink.now) (g.K.Sink.faults c.args.sink.now)) told ⊎ (c.of_case_end.result ≡ status.NoMemory)) = λ calm. end_answers c.text_has_one_answer.ensures.one c.text_fixes_journal.ensures (g.S.Source.left c.args.source.now) c.in-Err.end c.of_case_end.result
    (HasRisen (g.S.Source.faults c.args.source.now) (g.S.Source.faults c.read_case.new.source)) _
    (λ e. c.in-Err.ensures.read_fault (ap Err e)) (λ e. c.in-Err.ensures.too_long (ap Err e)) (λ fault e other. c.in-Err.ensures.bad_trace fault (ap Err e) other)
    (λ line e. c.in-Err.ensures.bad_journal line (ap Err e)) c.of_case_end.ensures.memory.1 (λ fault. (c.of_case_end.ensures.bad_trace fault).1) (λ line. (c.of_case_end.ensures.bad_journal line).1) calm in
    record {
      good = λ is. absurd (c.of_case_end.ensures.no_other.0 is);
      part = λ is. absurd (c.of_case_end.ensures.no_other.4 is);
      unlawful = λ is. absurd (c.of_case_end.ensures.no_other.3 is);
      unsettled = λ is. absurd (c.of_case_end.ensures.no_other.2 is);
      bad_trace = λ fault is. let told = (c.of_case_end.ensures.bad_trace fault).0 is in (told.0, c.in-Err.ensures.bad_trace fault (ap Err told.1) told.0);
      bad_journal = λ line is. c.in-Err.ensures.bad_journal line (ap Err ((c.of_case_end.ensures.bad_journal line).0 is));
      each = each;
      each_run = λ calm sunk. run_judged c.text_has_one_answer.ensures.one c.text_fixes_journal.ensures c.lawful_is_told.ensures (g.S.Source.left c.args.source.now) c.of_case_end.result
          (HasRisen (g.K.Sink.faults c.args.sink.now) (g.K.Sink.faults c.args.sink.now)) (λ bytes. Unit {0}) (each calm) (λ is. absurd (c.of_case_end.ensures.no_other.3 is)) sunk;
    }

pub returns-in-Ok-clause-audit : goal.returns-in-Ok-clause-audit
returns-in-Ok-clause-audit g c =
    let each : (HasRisen (g.S.Source.faults c.args.source.now) (g.S.Source.faults c.read_case.new.source) → ⊥) → IfAuditTold (g.S.Source.left c.args.source.now) (λ told. Answers c.judge.result (HasRisen (g.K.Sink.faults c.args.sink.now) (g.K.Sink.faults c.judge.new.sink)) told ⊎ (c.judge.result ≡ status.NoMemory)) = λ calm. is_told c.text_has_one_answer.ensures.one c.text_fixes_journal.ensures (g.S.Source.left c.args.source.now) (both c.in-Ok.case.trace c.in-Ok.case.journal) _ c.in-Ok.ensures.found
    (other_way c.judge.result _ (audit_of c.in-Ok.case.trace c.in-Ok.case.journal) c.judge.ensures.answers) in
    let unlawful : c.judge.result ≡ status.Unlawful → Audited (IsAuditInput (g.S.Source.left c.args.source.now)) status.Unlawful (IsWrittenUnless (HasRisen (g.K.Sink.faults c.args.sink.now) (g.K.Sink.faults c.judge.new.sink)) (g.K.Sink.held c.args.sink.now) (g.K.Sink.held c.judge.new.sink)) = λ is. record {
      trace = c.in-Ok.case.trace;
      journal = c.in-Ok.case.journal;
      told = c.in-Ok.ensures.found;
      lawful = c.in-Ok.ensures.lawful;
      means = c.judge.ensures.means (λ none. cc (none, is));
      shown = subst (λ (s : Status). Shows s (audit_of c.in-Ok.case.trace c.in-Ok.case.journal)) is
          (shows c.judge.result _ (audit_of c.in-Ok.case.trace c.in-Ok.case.journal) c.judge.ensures.answers (λ none. cc (none, is)));
      wrote = c.judge.ensures.told (inl is);
    } in
    record {
      good = search rules;
      part = search rules;
      unlawful = unlawful;
      unsettled = λ is. record {
        trace = c.in-Ok.case.trace;
        journal = c.in-Ok.case.journal;
        told = c.in-Ok.ensures.found;
        lawful = c.in-Ok.ensures.lawful;
        means = c.judge.ensures.means (λ none. cc (none, is));
        shown = subst (λ (s : Status). Shows s (audit_of c.in-Ok.case.trace c.in-Ok.case.journal)) is
            (shows c.judge.result _ (audit_of c.in-Ok.case.trace c.in-Ok.case.journal) c.judge.ensures.answers (λ none. cc (none, is)));
        wrote = c.judge.ensures.told (inr is);
      };
      bad_trace = λ fault is. absurd (no_refusal c.judge.result _ (audit_of c.in-Ok.case.trace c.in-Ok.case.journal) fault c.judge.ensures.answers is);
      bad_journal = search rules;
      each = each;
      each_run = λ calm sunk. run_judged c.text_has_one_answer.ensures.one c.text_fixes_journal.ensures c.lawful_is_told.ensures (g.S.Source.left c.args.source.now) c.judge.result
          _ _ (each calm) unlawful sunk;
    }

pub returns-in-Ok-clause-input : goal.returns-in-Ok-clause-input
returns-in-Ok-clause-input g c = record {
  whole = λ is. c.in-Ok.ensures.end;
  read_fault = λ is. absurd (no_read_fault c.judge.result _ (audit_of c.in-Ok.case.trace c.in-Ok.case.journal) c.judge.ensures.answers is);
  too_long = λ is. absurd (not_too_long c.judge.result _ (audit_of c.in-Ok.case.trace c.in-Ok.case.journal) c.judge.ensures.answers is);
  each_too_long = search rules;
}
