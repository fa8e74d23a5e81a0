use Rattle.std.proofs.Common.{◌≡◌, ℕ, sym, subst}
use Rattle.wbt_run_worker.specs.Answers.{JobAnswers, job_by}
use Rattle.wbt_run_worker.specs.Side.{IsSide}
use Rattle.wbt_run_worker.specs.Team.{Team, team_of}
use Rattle.wbt_kit.specs.declared.turn.Turn.{Turn}
use Rattle.wbt_kit.specs.declared.kit.Kit.{Kit}
use Rattle.wbt_kit.specs.declared.kit.Seats.{Seats}
use Rattle.wbt_trace.specs.declared.trace.Trace.{Trace}
use Rattle.wbt_run_worker.proofs.Writing.{writers_answer_by}
use Rattle.turns_taken.proofs.turning.turn_writers.Goals as goal

-- the side is that of the trace and of the CPU still
again : (kit : Kit) (team : Team) (seats : Seats) (was now : Trace) (cpu its : ℕ) → (now ≡ was) × (its ≡ cpu) → IsSide was cpu kit team seats → IsSide now its kit team seats
again kit team seats was now cpu its fixed side = subst (λ (z : Trace × ℕ). IsSide z.0 z.1 kit team seats) (λ i. (sym fixed.0 i, sym fixed.1 i)) side

pub returns-in-Stepped : goal.returns-in-Stepped
returns-in-Stepped g c =
    let t = c.turn-turn in
    let e = t.ensures in
    let old = team_of g.D.Disk.written g.D.Disk.faults c.args.side.now in
    let new : Team = record { desk = t.new.self; posts = old.posts; log = t.new.log } in
    let kit = c.args.hands.now.kit.now in
    let said = g.G.Gate.said c.args.hands.now.gate.now in
    record {
      side = again kit new t.new.seats old.desk.trace t.new.self.trace old.desk.cpu t.new.self.cpu e.fixed
          (subst (λ (a : Turn). JobAnswers said old.desk.trace old.desk.cpu kit (job_by a) old new c.args.seats.now t.new.seats) c.in-Stepped.is
          (writers_answer_by (g.C.Clock.told c.args.hands.now.clock.now) said kit t.result old t.new.self t.new.log c.args.seats.now t.new.seats c.requires.side e.fixed e.at_kit e.fits e.turned t.result e.turned.answers e.may_go_on));
    }

pub returns-in-Resting : goal.returns-in-Resting
returns-in-Resting g c =
    let t = c.turn-turn in
    let e = t.ensures in
    let old = team_of g.D.Disk.written g.D.Disk.faults c.args.side.now in
    let new : Team = record { desk = t.new.self; posts = old.posts; log = t.new.log } in
    let kit = c.args.hands.now.kit.now in
    let said = g.G.Gate.said c.args.hands.now.gate.now in
    record {
      side = again kit new t.new.seats old.desk.trace t.new.self.trace old.desk.cpu t.new.self.cpu e.fixed
          (subst (λ (a : Turn). JobAnswers said old.desk.trace old.desk.cpu kit (job_by a) old new c.args.seats.now t.new.seats) c.in-Resting.is
          (writers_answer_by (g.C.Clock.told c.args.hands.now.clock.now) said kit t.result old t.new.self t.new.log c.args.seats.now t.new.seats c.requires.side e.fixed e.at_kit e.fits e.turned t.result e.turned.answers e.may_go_on)).0;
    }

pub returns-in-Done : goal.returns-in-Done
returns-in-Done g c =
    let t = c.turn-turn in
    let e = t.ensures in
    let old = team_of g.D.Disk.written g.D.Disk.faults c.args.side.now in
    let new : Team = record { desk = t.new.self; posts = old.posts; log = t.new.log } in
    let kit = c.args.hands.now.kit.now in
    let said = g.G.Gate.said c.args.hands.now.gate.now in
    record {
      side = again kit new t.new.seats old.desk.trace t.new.self.trace old.desk.cpu t.new.self.cpu e.fixed
          (subst (λ (a : Turn). JobAnswers said old.desk.trace old.desk.cpu kit (job_by a) old new c.args.seats.now t.new.seats) c.in-Done.is
          (writers_answer_by (g.C.Clock.told c.args.hands.now.clock.now) said kit t.result old t.new.self t.new.log c.args.seats.now t.new.seats c.requires.side e.fixed e.at_kit e.fits e.turned t.result e.turned.answers e.may_go_on)).0;
    }
