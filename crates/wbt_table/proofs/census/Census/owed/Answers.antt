use Rattle.std.proofs.Common.{◌≡◌, Option, None, sym, ap, ◌∙◌, arith}
use Rattle.wbt_table.proofs.Common.{amount, to_clear, debt_to, debts_in, Counted}
use Rattle.wbt_table.specs.declared.state.CpuState.{CpuState}
use Rattle.wbt_table.specs.Census.{debt_at, kept_state}
use Rattle.wbt_table.proofs.Lists.{same_default}
use Rattle.wbt_table.proofs.census.Census.owed.Goals as goal

pub returns-in-Some-clause-event : goal.returns-in-Some-clause-event
returns-in-Some-clause-event c =
    let lay = ap (λ (z : Counted). z.layout.cpus) c.self.view_is in
    let long = c.self.invariant.4 in
    let less = c.requires.cpu in
    let is = same_default c.self.inside.cpus.items c.args.cpu None c.index.result.now (omega arith) ∙ sym c.index.ensures ∙ c.in-Some.is in
    let same : debt_at c.args.self.now c.args.cpu c.args.counter ≡ debt_to c.args.counter (debts_in c.in-Some.state) =
    ap (λ (z : Counted). debt_at z c.args.cpu c.args.counter) (sym c.self.view_is) ∙ ap (λ (x : Option CpuState). debt_to c.args.counter (debts_in (kept_state x))) is in
    c.owed_in.ensures.event ∙ ap amount (sym same)

pub returns-in-Some-clause-clear : goal.returns-in-Some-clause-clear
returns-in-Some-clause-clear c =
    let lay = ap (λ (z : Counted). z.layout.cpus) c.self.view_is in
    let long = c.self.invariant.4 in
    let less = c.requires.cpu in
    let is = same_default c.self.inside.cpus.items c.args.cpu None c.index.result.now (omega arith) ∙ sym c.index.ensures ∙ c.in-Some.is in
    let same : debt_at c.args.self.now c.args.cpu c.args.counter ≡ debt_to c.args.counter (debts_in c.in-Some.state) =
    ap (λ (z : Counted). debt_at z c.args.cpu c.args.counter) (sym c.self.view_is) ∙ ap (λ (x : Option CpuState). debt_to c.args.counter (debts_in (kept_state x))) is in
    c.owed_in.ensures.clear ∙ ap to_clear (sym same)
