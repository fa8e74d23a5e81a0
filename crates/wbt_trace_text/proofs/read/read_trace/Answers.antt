use Rattle.std.proofs.Common.{ℕ, List, Result, Ok, Err, IfOk, inl, inr}
use Rattle.wbt_text.proofs.Leading.{told_exact}
use Rattle.wbt_trace.specs.Lawful.{IsLawful}
use Rattle.wbt_trace_text.specs.Reading.{traces, Tells}
use Rattle.wbt_trace.specs.Sofar.{start}
use Rattle.wbt_trace_text.specs.declared.fault.TraceFault.{TraceFault}
use Rattle.wbt_trace_text.specs.declared.fault.TraceFault.TheVariants as fault
use Rattle.wbt_trace.specs.declared.trace.Trace.{Trace}
use Rattle.wbt_trace_text.proofs.Kept.{told_lawful}
use Rattle.wbt_trace_text.proofs.LineLaws.{clear}
use Rattle.wbt_trace_text.proofs.read.read_trace.Goals as goal

pub returns-clause-exact : goal.returns-clause-exact
returns-clause-exact c = λ answer is. told_exact traces start clear (Err fault.NoMemory) c.args.text.now c.read.result answer c.read.ensures is

lawful : (text : List ℕ) (r : Result Trace TraceFault) → Tells text r → IfOk r (λ trace. IsLawful trace)
lawful text (Ok trace) (inl none) = absurd (cc none)
lawful text (Ok trace) (inr told) = told_lawful text trace told
lawful text (Err other) told = tt

pub returns-clause-lawful : goal.returns-clause-lawful
returns-clause-lawful c = lawful c.args.text.now c.read.result c.read.ensures
