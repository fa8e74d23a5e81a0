use Rattle.std.proofs.Common.{◌≡◌, ℕ, List, get_or, set, Option, Some, None, Vec, Global, sym, refl, ap, ◌∙◌, arith, ⊎_elim}
use mathlib.Core.Option.{some}
use Rattle.wbt_table.specs.declared.state.CpuState.{CpuState}
use Rattle.wbt_table.proofs.Lists.{at_read}
use Rattle.wbt_table.proofs.Joining.{one_follows, none_follows, there, taking, all_taken, either_is}
use Rattle.wbt_table.proofs.life.take_over.Goals as goal
use Rattle.wbt_table.proofs.life.take_over.Goals.{in-Some, in_default}

pub loop-i-init : goal.loop-i-init
loop-i-init c = refl

pub loop-i-preserved : goal.loop-i-preserved
loop-i-preserved c =
    let same = c.requires in
    let less = c.loop-i-test.true in
    let first : List (Option CpuState) = c.args.into.now.items in
    let from : List (Option CpuState) = c.args.from.now in
    let i : ℕ = c.loop-i.i in
    let t = there from i less in
    let read : get_or from i None ≡ t.0 = at_read from i t.0 t.1 None in
    elim c.match-from-i.branch [
      | in-Some w ↦ let y = there first i (omega arith) in ap (λ (v : Vec (Option CpuState) Global). v.items) w.into-is ∙ ap (λ (l : List (Option CpuState)). set l i (Some w.in-Some.state)) c.loop-i.invariant
          ∙ one_follows taking i from first (Some w.in-Some.state) y.0 (t.1 ∙ ap some (sym read ∙ w.in-Some.is)) y.1
      | in_default w ↦ let none : t.0 ≡ None = ⊎_elim (λ h. h) (λ h. absurd (w.in_default.not-Some h.0 (read ∙ h.1))) (either_is t.0) in
          ap (λ (v : Vec (Option CpuState) Global). v.items) w.into-is ∙ c.loop-i.invariant ∙ none_follows taking i from first None (t.1 ∙ ap some none) (λ y. refl)
    ]

pub returns : goal.returns
returns c = c.loop-i.invariant ∙ all_taken c.args.into.now.items c.args.from.now c.loop-i.i c.requires (omega arith)
