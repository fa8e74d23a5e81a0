use Rattle.std.proofs.Common.{ap, ◌∙◌, refl, replicate, length, ℕ}
use Rattle.wbt_writer.proofs.Common.{is_own_task, new_writer}
use Rattle.wbt_writer.specs.declared.task.TaskPlace.{TaskPlace}
use Rattle.wbt_writer.proofs.Seeing.{made, side_first}
use Rattle.wbt_writer.proofs.tasks.Tasks.make.Goals as goal

pub returns-clause-tasks : goal.returns-clause-tasks
returns-clause-tasks c = made c.args.trace.now c.requires.lawful (is_own_task c.args.trace.now c.args.cpu) (record { tasks = c.in_ok-tasks.tasks; names = c.into_vec-names.result; writers = c.in_ok-writers.writers; local = record { since_check = 0; leaks = 0 }; ratelimit_pages = c.args.ratelimit_pages; cap = c.from-cap.result; next = 0 })
    (c.into_vec-names.ensures ∙ c.in_ok-listed.ensures) c.from-cap.ensures
    (c.in_ok-writers.ensures ∙ ap (λ (k : ℕ). replicate k (new_writer c.from-cap.result)) (ap length c.as_slice.ensures.value)) refl c.in_ok-tasks.ensures.long c.in_ok-tasks.ensures.each

pub returns-clause-side : goal.returns-clause-side
returns-clause-side c = side_first c.args.trace.now c.requires.lawful (is_own_task c.args.trace.now c.args.cpu) (record { tasks = c.in_ok-tasks.tasks; names = c.into_vec-names.result; writers = c.in_ok-writers.writers; local = record { since_check = 0; leaks = 0 }; ratelimit_pages = c.args.ratelimit_pages; cap = c.from-cap.result; next = 0 })
    (c.into_vec-names.ensures ∙ c.in_ok-listed.ensures) c.from-cap.ensures
    (c.in_ok-writers.ensures ∙ ap (λ (k : ℕ). replicate k (new_writer c.from-cap.result)) (ap length c.as_slice.ensures.value)) refl c.in_ok-tasks.ensures.long c.in_ok-tasks.ensures.each

pub returns-clause-written : goal.returns-clause-written
returns-clause-written c = λ t less. let e = c.in_ok-tasks.ensures.each t less in ap (λ (x : TaskPlace). x.written) e.2 ∙ ap (λ (x : TaskPlace). x.written) e.1.plain

pub returns-clause-own : goal.returns-clause-own
returns-clause-own c = λ t less. let e = c.in_ok-tasks.ensures.each t less in ap (λ (x : TaskPlace). x.own) e.2 ∙ ap (λ (x : TaskPlace). x.own) e.1.plain
