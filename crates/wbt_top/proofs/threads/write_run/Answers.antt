use Rattle.wbt_journal.specs.Text.{journal_text}
use Rattle.wbt_top.proofs.Running.{on_ok, ran, unless}
use Rattle.wbt_top.proofs.threads.write_run.Goals as goal

pub returns-in-Finished-clause-ran : goal.returns-in-Finished-clause-ran
returns-in-Finished-clause-ran g c = on_ok c.print.result c.of_finished.result _ _ c.of_finished.ensures.good c.print.ensures.ok
    (λ wrote. ran _ c.args.trace.now c.requires _ _ _ _ journal_text c.in-Finished.journal (c.run.ensures.finished c.in-Finished.journal c.in-Finished.is) _ _ (c.run.ensures.finish_cause c.in-Finished.journal c.in-Finished.is) wrote)

pub returns-in-Finished-clause-ran_part : goal.returns-in-Finished-clause-ran_part
returns-in-Finished-clause-ran_part g c = λ is.
    ran _ c.args.trace.now c.requires _ _ _ _ journal_text c.in-Finished.journal (c.run.ensures.finished c.in-Finished.journal c.in-Finished.is) _ _
    (c.run.ensures.finish_cause c.in-Finished.journal c.in-Finished.is) (c.print.ensures.write_fault (c.of_finished.ensures.write_fault.0 is))

pub returns-in-Finished-clause-done : goal.returns-in-Finished-clause-done
returns-in-Finished-clause-done g c = λ never. on_ok c.print.result c.of_finished.result _ _ c.of_finished.ensures.good c.print.ensures.ok
    (λ wrote. ran _ c.args.trace.now c.requires _ _ _ _ journal_text c.in-Finished.journal (c.run.ensures.finished c.in-Finished.journal c.in-Finished.is) _ _ (c.run.ensures.done never c.in-Finished.journal c.in-Finished.is) wrote)

pub returns-in-Faulted-clause-ran_faulted : goal.returns-in-Faulted-clause-ran_faulted
returns-in-Faulted-clause-ran_faulted g c = λ is.
    ran _ c.args.trace.now c.requires _ _ _ _ journal_text c.in-Faulted.journal (c.run.ensures.faulted c.in-Faulted.journal c.in-Faulted.is) _ _ (c.run.ensures.fault_cause c.in-Faulted.journal c.in-Faulted.is)
    (unless c.print-in-Faulted.result _ _ _ c.print-in-Faulted.ensures.ok c.print-in-Faulted.ensures.cause c.print-in-Faulted.ensures.write_fault (c.of_faulted.ensures.disk_fault.0 is))

pub returns-in-Spent-clause-ran_spent : goal.returns-in-Spent-clause-ran_spent
returns-in-Spent-clause-ran_spent g c = λ is.
    ran _ c.args.trace.now c.requires _ _ _ _ journal_text c.in-Spent.journal (c.run.ensures.spent c.in-Spent.journal c.in-Spent.is) _ _ (c.run.ensures.spent_cause c.in-Spent.journal c.in-Spent.is)
    (unless c.print-in-Spent.result _ _ _ c.print-in-Spent.ensures.ok c.print-in-Spent.ensures.cause c.print-in-Spent.ensures.write_fault (c.of_spent.ensures.spent.0 is))
