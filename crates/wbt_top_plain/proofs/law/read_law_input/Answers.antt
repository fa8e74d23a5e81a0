use Rattle.std.proofs.Common.{◌≡◌, subst}
use Rattle.wbt_trace_text.specs.declared.fault.TraceFault.TheVariants.{NoMemory}
use Rattle.wbt_top_plain.specs.Top.{IsLawRefused}
use Rattle.wbt_top_plain.proofs.Inputs.{law_refused}
use Rattle.wbt_top_plain.proofs.law.read_law_input.Goals as goal

pub returns-clause-refused : goal.returns-clause-refused
returns-clause-refused g c = λ fault is other.
    let same : c.in-Err-read_law.fault ≡ fault = cc in
    subst (IsLawRefused _) same (law_refused _ c.in-Ok.text.items c.as_slice.result.now c.in-Err-read_law.fault (record { all = c.in-Ok.ensures.all; short = c.in-Ok.ensures.within; same = c.as_slice.ensures.value }) (λ memory. let none : fault ≡ NoMemory = cc in other none) c.in-Err-read_law.ensures.told)
