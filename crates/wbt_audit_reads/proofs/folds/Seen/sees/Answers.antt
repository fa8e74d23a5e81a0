use Rattle.std.proofs.Common.{Some, None, sym, ◌∙◌}
use Rattle.wbt_audit_reads.proofs.Folded.{counted, partial, strange, of_places}
use Rattle.wbt_audit_reads.proofs.folds.Seen.sees.Goals as goal

pub returns-in-None : goal.returns-in-None
returns-in-None c = λ trace all seen kept.
    strange trace all seen c.args.self.now c.args.fold.now (of_places trace c.args.self.now.places c.args.fold.now.counter None kept.places (sym c.counter.ensures ∙ c.in-None.is))

pub returns-then-moved-batch : goal.returns-then-moved-batch
returns-then-moved-batch c = λ trace all seen kept.
    counted trace all seen c.args.fold.now c.in-Some.place
    (of_places trace c.args.self.now.places c.args.fold.now.counter (Some c.in-Some.place) kept.places (sym c.counter.ensures ∙ c.in-Some.is))
    c.args.self.now c.mark.new.versions c.mark.result kept (sym c.moved.ensures ∙ c.if-moved-batch.true ∙ c.batch.ensures)
    c.mark.ensures.value c.mark.ensures.marked

pub returns-else-moved-batch : goal.returns-else-moved-batch
returns-else-moved-batch c = λ trace all seen kept.
    partial trace all seen c.args.self.now c.args.self.now c.args.fold.now kept
    (λ e. c.if-moved-batch.false (c.moved.ensures ∙ e ∙ sym c.batch.ensures))
