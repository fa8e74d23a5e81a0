use Rattle.std.proofs.Common.{◌∙◌, ◌++◌, [], refl}
use Rattle.wbt_journal.specs.Pieces.{cpu_text}
use Rattle.wbt_journal.proofs.Texts.{cpus_step, cpus_over}
use Rattle.wbt_journal.proofs.Ways.{puts_none, puts_same, puts_then}
use Rattle.wbt_journal.proofs.out.Out.cpus.Goals as goal

pub loop-cpu-init : goal.loop-cpu-init
loop-cpu-init g c = ([], puts_none _, refl)

pub loop-cpu-preserved : goal.loop-cpu-preserved
loop-cpu-preserved g c =
    let before = c.loop-cpu.invariant in
    let part = c.index-cpus-cpu.result in (
      before.0 ++ cpu_text c.loop-cpu.cpu part.checks part.estimates part.entries,
      puts_then before.0 (cpu_text c.loop-cpu.cpu part.checks part.estimates part.entries) _ _ _ before.1 c.cpu.ensures,
      cpus_step before.0 c.args.cpus.now c.loop-cpu.cpu part c.index-cpus-cpu.is c.loop-cpu-test.true ∙ before.2,
    )

pub returns : goal.returns
returns g c = let before = c.loop-cpu.invariant in puts_same _ _ _ _ (cpus_over before.0 c.args.cpus.now c.loop-cpu.cpu c.loop-cpu-test.false ∙ before.2) before.1
