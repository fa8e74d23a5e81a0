use Rattle.std.proofs.Common.{◌+◌, Bool, refl, sym, ◌∙◌, subst, arith}
use Rattle.wbt_run_worker.proofs.Common.{team_of}
use Rattle.wbt_run_worker.specs.declared.round.JobOutcome.TheVariants as job_said
use Rattle.wbt_run_worker.proofs.Going.{stands_more}
use Rattle.wbt_run_worker.proofs.Rotating.{all_so, as_team, few_so, goes_after, none_goes, one_goes, passing_now, passing_over, passing_rested}
use Rattle.wbt_run_worker.proofs.Rounding.{SoFar, ends_so, goes_so, over_so, rested_so, so_far_now}
use Rattle.wbt_run_worker.proofs.side.CpuSide.round.Goals as goal
use Rattle.wbt_run_worker.proofs.side.CpuSide.round.Goals.{in-Resting, in-Over}

pub loop-job-init : goal.loop-job-init
loop-job-init g c = (
  so_far_now (g.C.Clock.told c.args.hands.now.clock.now) (g.G.Gate.said c.args.hands.now.gate.now) c.args.self.now.writers.trace c.args.self.now.writers.cpu c.args.hands.now.kit.now
      (team_of g.D.Disk.written g.D.Disk.faults c.args.self.now) c.args.seats.now c.requires.side,
  refl,
  passing_now (g.C.Clock.told c.args.hands.now.clock.now) (g.G.Gate.said c.args.hands.now.gate.now) c.args.hands.now.kit.now c.args.self.now.next (team_of g.D.Disk.written g.D.Disk.faults c.args.self.now) c.args.seats.now,
  refl,
)

pub returns-in-Stepped-clause-goes : goal.returns-in-Stepped-clause-goes
returns-in-Stepped-clause-goes g c = goes_so (g.C.Clock.told c.args.hands.now.clock.now) (g.G.Gate.said c.args.hands.now.gate.now) c.args.self.now.writers.trace
    c.args.self.now.writers.cpu c.args.hands.now.kit.now (team_of g.D.Disk.written g.D.Disk.faults c.args.self.now) (team_of g.D.Disk.written g.D.Disk.faults c.loop-job.self)
    (team_of g.D.Disk.written g.D.Disk.faults c.turn.new.self) c.args.seats.now c.loop-job.seats c.turn.new.seats c.loop-job.writes c.loop-job.invariant.0 c.turn.ensures.goes

pub returns-in-Ends-clause-goes : goal.returns-in-Ends-clause-goes
returns-in-Ends-clause-goes g c = goes_so (g.C.Clock.told c.args.hands.now.clock.now) (g.G.Gate.said c.args.hands.now.gate.now) c.args.self.now.writers.trace
    c.args.self.now.writers.cpu c.args.hands.now.kit.now (team_of g.D.Disk.written g.D.Disk.faults c.args.self.now) (team_of g.D.Disk.written g.D.Disk.faults c.loop-job.self)
    (team_of g.D.Disk.written g.D.Disk.faults c.turn.new.self) c.args.seats.now c.loop-job.seats c.turn.new.seats c.loop-job.writes c.loop-job.invariant.0 c.turn.ensures.goes

pub returns-in-Ends-clause-answers : goal.returns-in-Ends-clause-answers
returns-in-Ends-clause-answers g c = ends_so (g.C.Clock.told c.args.hands.now.clock.now) (g.G.Gate.said c.args.hands.now.gate.now) c.args.self.now.writers.trace
    c.args.self.now.writers.cpu c.args.hands.now.kit.now (team_of g.D.Disk.written g.D.Disk.faults c.args.self.now) (team_of g.D.Disk.written g.D.Disk.faults c.loop-job.self)
    (team_of g.D.Disk.written g.D.Disk.faults c.turn.new.self) c.args.seats.now c.loop-job.seats c.turn.new.seats c.loop-job.writes c.loop-job.invariant.0 c.turn.ensures.goes
    c.in-Ends.end c.in-Ends.ensures.answers

pub loop-job-preserved : goal.loop-job-preserved
loop-job-preserved g c =
    let told = g.C.Clock.told c.args.hands.now.clock.now in
    let said = g.G.Gate.said c.args.hands.now.gate.now in
    let trace = c.args.self.now.writers.trace in
    let cpu = c.args.self.now.writers.cpu in
    let old = team_of g.D.Disk.written g.D.Disk.faults c.args.self.now in
    let mid = team_of g.D.Disk.written g.D.Disk.faults c.loop-job.self in
    let new = team_of g.D.Disk.written g.D.Disk.faults c.turn.new.self in
    let So = λ (w : Bool). SoFar told trace cpu c.args.hands.now.kit.now old new c.args.seats.now c.turn.new.seats w in
    let stands = stands_more c.args.self.now.posts.items c.loop-job.self.posts.items c.turn.new.self.posts.items c.loop-job.invariant.1 c.turn.ensures.stands in
    let next_is = c.after-next.ensures ∙ as_team g.D.Disk.written g.D.Disk.faults c.loop-job.self c.loop-job.next in
    let rest_next = c.turn.ensures.next ∙ c.loop-job.invariant.3 in
    elim c.match-turn.branch [
      | in-Resting w ↦ (
        subst So (sym w.writes-is) (rested_so told said trace cpu c.args.hands.now.kit.now old mid new c.args.seats.now c.loop-job.seats c.turn.new.seats
            c.loop-job.writes c.loop-job.invariant.0 c.turn.ensures.goes w.in-Resting.rest w.in-Resting.ensures.answers),
        stands,
        passing_rested told said c.args.hands.now.kit.now c.args.self.now.next c.loop-job.next c.after-next.result c.loop-job._job c.loop-job.ticks c.loop-job.writes old mid new c.args.seats.now c.loop-job.seats
            c.turn.new.seats c.loop-job.invariant.2 w.in-Resting.rest next_is w.in-Resting.ensures.waits w.in-Resting.ensures.takes (w.ticks-is ∙ w.sooner-ticks.ensures) w.writes-is,
        rest_next,
      )
      | in-Over w ↦ (
        subst So (sym w.writes-is) (over_so told said trace cpu c.args.hands.now.kit.now old mid new c.args.seats.now c.loop-job.seats c.turn.new.seats
            c.loop-job.writes c.loop-job.invariant.0 c.turn.ensures.goes w.in-Over.ensures.answers),
        stands,
        passing_over told said c.args.hands.now.kit.now c.args.self.now.next c.loop-job.next c.after-next.result c.loop-job._job c.loop-job.ticks c.loop-job.writes old mid new c.args.seats.now c.loop-job.seats
            c.turn.new.seats c.loop-job.invariant.2 next_is w.in-Over.ensures.waits w.in-Over.ensures.takes w.ticks-is w.writes-is,
        rest_next,
      )
    ]

pub returns-after-turn-clause-goes : goal.returns-after-turn-clause-goes
returns-after-turn-clause-goes g c = goes_so (g.C.Clock.told c.args.hands.now.clock.now) (g.G.Gate.said c.args.hands.now.gate.now) c.args.self.now.writers.trace
    c.args.self.now.writers.cpu c.args.hands.now.kit.now (team_of g.D.Disk.written g.D.Disk.faults c.args.self.now) (team_of g.D.Disk.written g.D.Disk.faults c.loop-job.self)
    (team_of g.D.Disk.written g.D.Disk.faults c.turn.new.self) c.args.seats.now c.loop-job.seats c.turn.new.seats c.loop-job.writes c.loop-job.invariant.0 c.turn.ensures.goes

pub returns-in-Stepped-clause-stands : goal.returns-in-Stepped-clause-stands
returns-in-Stepped-clause-stands g c = stands_more c.args.self.now.posts.items c.loop-job.self.posts.items c.turn.new.self.posts.items c.loop-job.invariant.1 c.turn.ensures.stands

pub returns-in-Ends-clause-stands : goal.returns-in-Ends-clause-stands
returns-in-Ends-clause-stands g c = stands_more c.args.self.now.posts.items c.loop-job.self.posts.items c.turn.new.self.posts.items c.loop-job.invariant.1 c.turn.ensures.stands

pub returns-after-turn-clause-stands : goal.returns-after-turn-clause-stands
returns-after-turn-clause-stands g c = stands_more c.args.self.now.posts.items c.loop-job.self.posts.items c.turn.new.self.posts.items c.loop-job.invariant.1 c.turn.ensures.stands

pub returns-in-Stepped-clause-rotates : goal.returns-in-Stepped-clause-rotates
returns-in-Stepped-clause-rotates g c =
    let told = g.C.Clock.told c.args.hands.now.clock.now in
    let said = g.G.Gate.said c.args.hands.now.gate.now in
    let kit = c.args.hands.now.kit.now in
    let old = team_of g.D.Disk.written g.D.Disk.faults c.args.self.now in
    let mid = team_of g.D.Disk.written g.D.Disk.faults c.loop-job.self in
    let new = team_of g.D.Disk.written g.D.Disk.faults c.turn.new.self in
    let i = c.loop-job.invariant.2 in
    let next_is = c.after-next.ensures ∙ as_team g.D.Disk.written g.D.Disk.faults c.loop-job.self c.loop-job.next in (
      c.loop-job.next,
      one_goes told said kit c.args.self.now.next c.loop-job.next c.after-next.result c.loop-job._job c.loop-job.ticks c.loop-job.writes old mid new c.args.seats.now c.loop-job.seats c.turn.new.seats
          i job_said.Stepped (few_so g.D.Disk.written g.D.Disk.faults c.args.self.now c.loop-job._job (omega arith)) c.in-Stepped.ensures.takes,
      goes_after told said kit c.args.self.now.next c.loop-job.next c.after-next.result c.loop-job._job c.loop-job.ticks c.loop-job.writes old mid new c.args.seats.now c.loop-job.seats c.turn.new.seats
          i next_is,
    )

pub returns-in-Ends-clause-rotates : goal.returns-in-Ends-clause-rotates
returns-in-Ends-clause-rotates g c =
    let told = g.C.Clock.told c.args.hands.now.clock.now in
    let said = g.G.Gate.said c.args.hands.now.gate.now in
    let kit = c.args.hands.now.kit.now in
    let old = team_of g.D.Disk.written g.D.Disk.faults c.args.self.now in
    let mid = team_of g.D.Disk.written g.D.Disk.faults c.loop-job.self in
    let new = team_of g.D.Disk.written g.D.Disk.faults c.turn.new.self in (
      c.loop-job.next,
      one_goes told said kit c.args.self.now.next c.loop-job.next c.after-next.result c.loop-job._job c.loop-job.ticks c.loop-job.writes old mid new c.args.seats.now c.loop-job.seats c.turn.new.seats
          c.loop-job.invariant.2 (job_said.Ends c.in-Ends.end) (few_so g.D.Disk.written g.D.Disk.faults c.args.self.now c.loop-job._job (omega arith)) c.in-Ends.ensures.takes,
      c.turn.ensures.next ∙ c.loop-job.invariant.3,
    )

pub returns-after-turn-clause-rotates : goal.returns-after-turn-clause-rotates
returns-after-turn-clause-rotates g c =
    let told = g.C.Clock.told c.args.hands.now.clock.now in
    let said = g.G.Gate.said c.args.hands.now.gate.now in
    let old = team_of g.D.Disk.written g.D.Disk.faults c.args.self.now in
    let mid = team_of g.D.Disk.written g.D.Disk.faults c.loop-job.self in
    let new = team_of g.D.Disk.written g.D.Disk.faults c.turn.new.self in
    let next_is = c.after-next.ensures ∙ as_team g.D.Disk.written g.D.Disk.faults c.loop-job.self c.loop-job.next in
    let all = all_so g.D.Disk.written g.D.Disk.faults c.args.self.now (c.loop-job._job + 1) (omega arith) in
    let stays = c.turn.ensures.next ∙ c.loop-job.invariant.3 in
    elim c.match-turn.branch [
      | in-Resting w ↦ (
        none_goes told said c.args.hands.now.kit.now c.args.self.now.next c.after-next.result (c.loop-job._job + 1) old new c.args.seats.now c.turn.new.seats
            (passing_rested told said c.args.hands.now.kit.now c.args.self.now.next c.loop-job.next c.after-next.result c.loop-job._job c.loop-job.ticks c.loop-job.writes old mid new c.args.seats.now c.loop-job.seats
            c.turn.new.seats c.loop-job.invariant.2 w.in-Resting.rest next_is w.in-Resting.ensures.waits w.in-Resting.ensures.takes (w.ticks-is ∙ w.sooner-ticks.ensures) w.writes-is) all,
        stays,
      )
      | in-Over w ↦ (
        none_goes told said c.args.hands.now.kit.now c.args.self.now.next c.after-next.result (c.loop-job._job + 1) old new c.args.seats.now c.turn.new.seats
            (passing_over told said c.args.hands.now.kit.now c.args.self.now.next c.loop-job.next c.after-next.result c.loop-job._job c.loop-job.ticks c.loop-job.writes old mid new c.args.seats.now c.loop-job.seats
            c.turn.new.seats c.loop-job.invariant.2 next_is w.in-Over.ensures.waits w.in-Over.ensures.takes w.ticks-is w.writes-is) all,
        stays,
      )
    ]
