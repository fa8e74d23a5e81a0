use Rattle.std.proofs.Common.{◌∙◌, ◌+◌, ◌*◌, ◌^◌, ◌≡◌, ◌++◌, get_or, pos, subst, arith}
use Rattle.wbt_journal.specs.declared.step.StepEntry.{StepEntry}
use Rattle.wbt_grant.specs.declared.who.StepKind.TheVariants.{Add}
use Rattle.wbt_journal.specs.Line.{line_text}
use Rattle.wbt_journal.specs.Near.{AreNear}
use Rattle.wbt_journal.specs.Steps.{step_line}
use Rattle.wbt_journal.proofs.Texts.{steps_step}
use Rattle.wbt_journal.proofs.Ways.{puts_then}
use Rattle.wbt_journal.proofs.out.Out.steps.Goals as goal

-- what no place has
abbrev no_step : StepEntry
no_step = record { who = 0; kind = Add; context = 0; change = pos 0; domain = 0; peak = 0 }

pub loop-i-preserved : goal.loop-i-preserved
loop-i-preserved g c =
    let before = c.loop-i.invariant in
    let here = line_text (step_line c.args.cpus (c.loop-i.i + 1) (get_or c.args.steps.now c.loop-i.i no_step) c.advance.new.self) in (
      before.0 ++ here,
      puts_then before.0 here _ _ _ before.1 c.step.ensures,
      steps_step c.args.cpus c.args.homes.now before.0 c.loop-i.columns c.advance.new.self c.args.steps.now c.loop-i.i no_step c.loop-i-test.true c.advance.ensures.value ∙ before.2,
      (let same : c.loop-i.i * 2 ^ 31 + 2 ^ 31 ≡ (c.loop-i.i + 1) * 2 ^ 31 = omega arith in subst (λ most. AreNear most c.advance.new.self) same c.advance.ensures.near),
    )
