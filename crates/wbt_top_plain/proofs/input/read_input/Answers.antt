use Rattle.std.proofs.Common.{◌≡◌, subst}
use Rattle.wbt_trace_text.specs.declared.fault.TraceFault.TheVariants.{NoMemory}
use Rattle.wbt_top_plain.specs.Top.{IsRefused}
use Rattle.wbt_top_plain.proofs.Inputs.{refused}
use Rattle.wbt_top_plain.proofs.input.read_input.Goals as goal

pub returns-clause-refused : goal.returns-clause-refused
returns-clause-refused g c = λ fault is other.
    let same : c.in-Err-read_trace.fault ≡ fault = cc in
    subst (IsRefused _) same (refused _ c.in-Ok.text.items c.as_slice.result.now c.in-Err-read_trace.fault (record { all = c.in-Ok.ensures.all; short = c.in-Ok.ensures.within; same = c.as_slice.ensures.value }) (λ memory. let none : fault ≡ NoMemory = cc in other none) c.in-Err-read_trace.ensures.told)
