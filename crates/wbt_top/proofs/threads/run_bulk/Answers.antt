use Rattle.std.proofs.Common.{◌≡◌, subst}
use Rattle.wbt_run.specs.Running.{IsDone, IsFaulted, IsRunOf}
use Rattle.wbt_trace.specs.Bulk.{bulk_trace}
use Rattle.wbt_trace.specs.Lawful.{IsLawful}
use Rattle.wbt_trace.specs.Sofar.{pages_in}
use Rattle.wbt_trace.specs.declared.trace.Trace.{Trace}
use Rattle.wbt_top_plain.specs.Bulk.{bulk_text}
use Rattle.wbt_top.specs.Threads.{Finishes}
use Rattle.wbt_top.proofs.BulkRuns.{bulk_done}
use Rattle.wbt_top.proofs.Running.{on_ok, ran, unless}
use Rattle.wbt_top.proofs.threads.run_bulk.Goals as goal

pub returns-in-Finished-clause-ran : goal.returns-in-Finished-clause-ran
returns-in-Finished-clause-ran g c =
    let j = c.in-Finished.journal in
    let told = c.in-Ok.ensures.told in
    on_ok c.write_bulk.result c.of_finished.result _ _ c.of_finished.ensures.good c.write_bulk.ensures.ok (λ wrote.
    ran (g.C.Clock.told c.args.clock.now) (bulk_trace c.args.n) (subst IsLawful told c.in-Ok.ensures.lawful) (g.R.Rack.written c.args.rack.now) (g.R.Rack.written c.run.new.rack) (g.R.Rack.faults c.args.rack.now) (g.R.Rack.faults c.run.new.rack) (bulk_text c.args.n) j (subst (λ (t : Trace). IsRunOf (g.C.Clock.told c.args.clock.now) t (g.R.Rack.written c.args.rack.now) (g.R.Rack.written c.run.new.rack) (g.R.Rack.faults c.args.rack.now) (g.R.Rack.faults c.run.new.rack) j) told (c.run.ensures.finished j c.in-Finished.is)) _ _
    (subst (λ (t : Trace). Finishes (g.G.Gate.said c.args.gate.now) t j) told (c.run.ensures.finish_cause j c.in-Finished.is)) wrote)

pub returns-in-Finished-clause-ran_part : goal.returns-in-Finished-clause-ran_part
returns-in-Finished-clause-ran_part g c = λ is.
    let j = c.in-Finished.journal in
    let told = c.in-Ok.ensures.told in
    ran (g.C.Clock.told c.args.clock.now) (bulk_trace c.args.n) (subst IsLawful told c.in-Ok.ensures.lawful) (g.R.Rack.written c.args.rack.now) (g.R.Rack.written c.run.new.rack) (g.R.Rack.faults c.args.rack.now) (g.R.Rack.faults c.run.new.rack) (bulk_text c.args.n) j (subst (λ (t : Trace). IsRunOf (g.C.Clock.told c.args.clock.now) t (g.R.Rack.written c.args.rack.now) (g.R.Rack.written c.run.new.rack) (g.R.Rack.faults c.args.rack.now) (g.R.Rack.faults c.run.new.rack) j) told (c.run.ensures.finished j c.in-Finished.is)) _ _
    (subst (λ (t : Trace). Finishes (g.G.Gate.said c.args.gate.now) t j) told (c.run.ensures.finish_cause j c.in-Finished.is)) (c.write_bulk.ensures.write_fault (c.of_finished.ensures.write_fault.0 is))

pub returns-in-Finished-clause-done : goal.returns-in-Finished-clause-done
returns-in-Finished-clause-done g c = λ never.
    let j = c.in-Finished.journal in
    let told = c.in-Ok.ensures.told in
    on_ok c.write_bulk.result c.of_finished.result _ _ c.of_finished.ensures.good c.write_bulk.ensures.ok (λ wrote.
    ran (g.C.Clock.told c.args.clock.now) (bulk_trace c.args.n) (subst IsLawful told c.in-Ok.ensures.lawful) (g.R.Rack.written c.args.rack.now) (g.R.Rack.written c.run.new.rack) (g.R.Rack.faults c.args.rack.now) (g.R.Rack.faults c.run.new.rack) (bulk_text c.args.n) j (subst (λ (t : Trace). IsRunOf (g.C.Clock.told c.args.clock.now) t (g.R.Rack.written c.args.rack.now) (g.R.Rack.written c.run.new.rack) (g.R.Rack.faults c.args.rack.now) (g.R.Rack.faults c.run.new.rack) j) told (c.run.ensures.finished j c.in-Finished.is)) _ _
    (subst (λ (t : Trace). IsDone t j) told (c.run.ensures.done never j c.in-Finished.is)) wrote)

pub returns-in-Finished-clause-bulk_done : goal.returns-in-Finished-clause-bulk_done
returns-in-Finished-clause-bulk_done g c = λ never.
    let j = c.in-Finished.journal in
    let told = c.in-Ok.ensures.told in
    on_ok c.write_bulk.result c.of_finished.result _ _ c.of_finished.ensures.good c.write_bulk.ensures.ok (λ wrote.
    bulk_done c.args.n (subst IsLawful told c.in-Ok.ensures.lawful) (subst (λ (t : Trace). pages_in t.inodes ≡ c.args.n) told c.in-Ok.ensures.pages) (g.C.Clock.told c.args.clock.now) (g.R.Rack.written c.args.rack.now) (g.R.Rack.written c.run.new.rack) (g.R.Rack.faults c.args.rack.now) (g.R.Rack.faults c.run.new.rack) j
    (subst (λ (t : Trace). IsRunOf (g.C.Clock.told c.args.clock.now) t (g.R.Rack.written c.args.rack.now) (g.R.Rack.written c.run.new.rack) (g.R.Rack.faults c.args.rack.now) (g.R.Rack.faults c.run.new.rack) j) told (c.run.ensures.finished j c.in-Finished.is))
    (subst (λ (t : Trace). IsDone t j) told (c.run.ensures.done never j c.in-Finished.is)) _ _ wrote)

pub returns-in-Faulted-clause-ran_faulted : goal.returns-in-Faulted-clause-ran_faulted
returns-in-Faulted-clause-ran_faulted g c = λ is.
    let j = c.in-Faulted.journal in
    let told = c.in-Ok.ensures.told in
    ran (g.C.Clock.told c.args.clock.now) (bulk_trace c.args.n) (subst IsLawful told c.in-Ok.ensures.lawful) (g.R.Rack.written c.args.rack.now) (g.R.Rack.written c.run.new.rack) (g.R.Rack.faults c.args.rack.now) (g.R.Rack.faults c.run.new.rack) (bulk_text c.args.n) j (subst (λ (t : Trace). IsRunOf (g.C.Clock.told c.args.clock.now) t (g.R.Rack.written c.args.rack.now) (g.R.Rack.written c.run.new.rack) (g.R.Rack.faults c.args.rack.now) (g.R.Rack.faults c.run.new.rack) j) told (c.run.ensures.faulted j c.in-Faulted.is)) _ _
    (subst (λ (t : Trace). IsFaulted t (g.R.Rack.faults c.args.rack.now) (g.R.Rack.faults c.run.new.rack) j) told (c.run.ensures.fault_cause j c.in-Faulted.is))
    (unless c.write_bulk-in-Faulted.result _ _ _ c.write_bulk-in-Faulted.ensures.ok c.write_bulk-in-Faulted.ensures.cause c.write_bulk-in-Faulted.ensures.write_fault (c.of_faulted.ensures.disk_fault.0 is))

pub returns-clause-ran_spent : goal.returns-clause-ran_spent
returns-clause-ran_spent g c = λ is.
    let j = c.in-Spent.journal in
    let told = c.in-Ok.ensures.told in
    ran (g.C.Clock.told c.args.clock.now) (bulk_trace c.args.n) (subst IsLawful told c.in-Ok.ensures.lawful) (g.R.Rack.written c.args.rack.now) (g.R.Rack.written c.run.new.rack) (g.R.Rack.faults c.args.rack.now) (g.R.Rack.faults c.run.new.rack) (bulk_text c.args.n) j (subst (λ (t : Trace). IsRunOf (g.C.Clock.told c.args.clock.now) t (g.R.Rack.written c.args.rack.now) (g.R.Rack.written c.run.new.rack) (g.R.Rack.faults c.args.rack.now) (g.R.Rack.faults c.run.new.rack) j) told (c.run.ensures.spent j c.in-Spent.is)) _ _
    (c.run.ensures.spent_cause j c.in-Spent.is)
    (unless c.write_bulk-in-Spent.result _ _ _ c.write_bulk-in-Spent.ensures.ok c.write_bulk-in-Spent.ensures.cause c.write_bulk-in-Spent.ensures.write_fault (c.of_spent.ensures.spent.0 is))
