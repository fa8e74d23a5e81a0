use Rattle.std.proofs.Common.{rules, ◌≡◌, List, length, sym, ◌∙◌, subst}
use Rattle.wbt_run_worker.specs.declared.side.CpuSide.{CpuSide}
use Rattle.wbt_run.specs.Finished.{HasFinished}
use Rattle.wbt_run_first.specs.Voiced.{OutForCause, StopsForCause}
use Rattle.wbt_run.proofs.Ending.{out_for_cause, stops_after}
use Rattle.wbt_run.proofs.Finishing.{finished}
use Rattle.wbt_run.proofs.Holding.{whole_again}
use Rattle.wbt_run.proofs.working.finish.Goals as goal

pub returns-clause-finished : goal.returns-clause-finished
returns-clause-finished g c =
    let many : length c.clean_up.new.sides ≡ length c.work_together-apart.new.sides.items = c.clean_up.ensures.standing.many ∙ sym c.work_together-apart.ensures.standing.many in
    subst (λ (sides : List (CpuSide g.row.D.Denot)). HasFinished (g.C.Clock.told c.args.hands.now.clock.now) (g.G.Gate.said c.args.hands.now.gate.now) g.D.Disk.written g.D.Disk.faults c.args.trace.now c.args.now
    c.args.hands.now.kit.now sides c.work_together-apart.new.timer.log.items c.work_together-apart.new.timer.refused c.gather_notes.new.seats)
    (sym (whole_again c.work_together-apart.new.sides.len c.clean_up.new.sides c.work_together-apart.new.sides.items (search rules) many))
    (finished (g.C.Clock.told c.args.hands.now.clock.now) (g.G.Gate.said c.args.hands.now.gate.now) g.D.Disk.written g.D.Disk.faults c.args.trace.now c.args.now c.args.hands.now.kit.now
    c.clean_up.new.sides c.work_together-apart.new.timer.log.items c.work_together-apart.result.share c.work_together-apart.new.seats c.clean_up.new.seats c.gather_notes.new.seats
    (record {
      lawful = c.requires.lawful;
      moment = c.requires.moment;
      of = c.requires.kit;
      standing = c.clean_up.ensures.standing;
      ticked = c.work_together-apart.ensures.timer;
      makes_all = c.work_together-apart.ensures.complete;
      stakes = c.clean_up.ensures.went.stakes;
      same_timer = c.clean_up.ensures.went.timer;
      same_timer_log = c.clean_up.ensures.went.timer_log;
      records = c.gather_notes.ensures.records;
      queue = c.gather_notes.ensures.queue;
      behind_at = c.gather_notes.ensures.seats;
      joined = c.gather_notes.ensures.joined;
      gathered = c.gather_notes.ensures.gathered;
      known = c.gather_notes.ensures.known;
    })
    c.work_together-apart.new.timer.refused (λ not. (c.clean_up.ensures.done not, c.clean_up.ensures.cleaned not)))

pub returns-clause-stopped : goal.returns-clause-stopped
returns-clause-stopped g c =
    let many : length c.clean_up.new.sides ≡ length c.work_together-apart.new.sides.items = c.clean_up.ensures.standing.many ∙ sym c.work_together-apart.ensures.standing.many in
    subst (λ (sides : List (CpuSide g.row.D.Denot)). StopsForCause c.work_together-apart.new.timer.refused sides)
    (sym (whole_again c.work_together-apart.new.sides.len c.clean_up.new.sides c.work_together-apart.new.sides.items (search rules) many))
    (stops_after c.as_mut_slice.result.now c.clean_up.new.sides c.work_together-apart.new.timer.refused
    (subst (λ (sides : List (CpuSide g.row.D.Denot)). StopsForCause c.work_together-apart.new.timer.refused sides) (sym c.as_mut_slice.ensures.value) c.work_together-apart.ensures.stopped)
    c.clean_up.ensures.went.stopped c.clean_up.ensures.stopped)

pub returns-clause-unnamed : goal.returns-clause-unnamed
returns-clause-unnamed g c =
    let many : length c.clean_up.new.sides ≡ length c.work_together-apart.new.sides.items = c.clean_up.ensures.standing.many ∙ sym c.work_together-apart.ensures.standing.many in
    subst (λ (sides : List (CpuSide g.row.D.Denot)). OutForCause sides)
    (sym (whole_again c.work_together-apart.new.sides.len c.clean_up.new.sides c.work_together-apart.new.sides.items (search rules) many))
    (out_for_cause (g.C.Clock.told c.args.hands.now.clock.now) (g.G.Gate.said c.args.hands.now.gate.now) g.D.Disk.written g.D.Disk.faults c.args.trace.now c.args.hands.now.kit.now
    c.clean_up.new.sides c.clean_up.new.seats c.clean_up.ensures.standing)
