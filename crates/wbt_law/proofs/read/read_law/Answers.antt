use Rattle.std.proofs.Common.{ℕ, List, Result, Ok, Err, IfOk, inl, inr}
use Rattle.wbt_text.proofs.Leading.{told_exact}
use Rattle.wbt_trace_text.specs.declared.fault.TraceFault.{TraceFault}
use Rattle.wbt_trace_text.specs.declared.fault.TraceFault.TheVariants as fault
use Rattle.wbt_law.specs.Draft.{start}
use Rattle.wbt_law.specs.Law.{IsDecidable}
use Rattle.wbt_law.specs.Reading.{laws, Tells}
use Rattle.wbt_law.specs.declared.input.LawInput.{LawInput}
use Rattle.wbt_law.proofs.Fitting.{answer_fits}
use Rattle.wbt_law.proofs.RowLaws.{clear}
use Rattle.wbt_law.proofs.read.read_law.Goals as goal

pub returns-clause-exact : goal.returns-clause-exact
returns-clause-exact c = λ answer is. told_exact laws start clear (Err fault.NoMemory) c.args.text.now c.read.result answer c.read.ensures is

fits : (text : List ℕ) (r : Result LawInput TraceFault) → Tells text r → IfOk r (λ law. IsDecidable law)
fits text (Ok law) (inl none) = absurd (cc none)
fits text (Ok law) (inr told) = answer_fits text law told
fits text (Err other) told = tt

pub returns-clause-fits : goal.returns-clause-fits
returns-clause-fits c = fits c.args.text.now c.read.result c.read.ensures
