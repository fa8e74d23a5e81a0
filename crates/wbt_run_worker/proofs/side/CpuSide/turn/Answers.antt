use Rattle.std.proofs.Common.{sym, ◌∙◌, subst}
use Rattle.wbt_run_worker.proofs.Common.{JobAnswers, JobWaits, seen, team_of}
use Rattle.wbt_run_worker.specs.declared.round.JobOutcome.{JobOutcome}
use Rattle.wbt_run_worker.specs.declared.side.Job.TheVariants.{Writers, Flusher}
use Rattle.wbt_run_worker.specs.declared.side.CpuSide.{CpuSide}
use Rattle.wbt_run_worker.specs.declared.side.Post.{Post}
use Rattle.wbt_run_worker.proofs.Taking.{taken_by, taken_by_flusher, takes_as, waits_as, writers_take, writers_wait}
use Rattle.wbt_run_worker.proofs.Writing.{writers_goes, writers_answer_by}
use Rattle.wbt_run_worker.proofs.side.CpuSide.turn.Goals as goal

pub returns-in-Writers-clause-goes : goal.returns-in-Writers-clause-goes
returns-in-Writers-clause-goes g c = writers_goes (g.C.Clock.told c.args.hands.now.clock.now) (g.G.Gate.said c.args.hands.now.gate.now) c.args.hands.now.kit.now c.turn.result
    (team_of g.D.Disk.written g.D.Disk.faults c.args.self.now) c.turn.new.self c.turn.new.log c.args.seats.now c.turn.new.seats
    c.requires.side c.turn.ensures.fixed c.turn.ensures.at_kit c.turn.ensures.fits c.turn.ensures.turned

pub returns-in-Writers-clause-answers : goal.returns-in-Writers-clause-answers
returns-in-Writers-clause-answers g c =
    let old = team_of g.D.Disk.written g.D.Disk.faults c.args.self.now in
    let answer = writers_answer_by (g.C.Clock.told c.args.hands.now.clock.now) (g.G.Gate.said c.args.hands.now.gate.now) c.args.hands.now.kit.now c.turn.result
    old c.turn.new.self c.turn.new.log c.args.seats.now c.turn.new.seats
    c.requires.side c.turn.ensures.fixed c.turn.ensures.at_kit c.turn.ensures.fits c.turn.ensures.turned
    c.turn.result c.turn.ensures.turned.answers c.turn.ensures.may_go_on in
    subst (λ (job : JobOutcome). JobAnswers (g.G.Gate.said c.args.hands.now.gate.now) c.args.self.now.writers.trace c.args.self.now.writers.cpu c.args.hands.now.kit.now job old
    (record { desk = c.turn.new.self; posts = old.posts; log = c.turn.new.log }) c.args.seats.now c.turn.new.seats)
    (sym c.job_of.ensures) answer

pub returns-in-Writers-clause-takes : goal.returns-in-Writers-clause-takes
returns-in-Writers-clause-takes g c =
    let told = g.C.Clock.told c.args.hands.now.clock.now in
    let said = g.G.Gate.said c.args.hands.now.gate.now in
    let old = team_of g.D.Disk.written g.D.Disk.faults c.args.self.now in
    let e = c.turn.ensures in
    let takes = writers_take told said c.args.hands.now.kit.now old c.turn.new.self c.turn.new.log c.args.seats.now c.turn.new.seats e.fixed
    c.turn.result c.job_of.result c.job_of.ensures e.turned e.took e.kinds in
    takes_as told said c.args.hands.now.kit.now c.args.job Writers old (team_of g.D.Disk.written g.D.Disk.faults (record c.args.self.now { writers = c.turn.new.self; log = c.turn.new.log }))
    c.args.seats.now c.turn.new.seats (taken_by (λ (p : Post g.row.D.Denot). seen g.D.Disk.written g.D.Disk.faults p) c.args.self.now.posts.items c.args.job c.taker.result c.taker.ensures.taker ∙ c.in-Writers.is) c.job_of.result takes

pub returns-in-Writers-clause-waits : goal.returns-in-Writers-clause-waits
returns-in-Writers-clause-waits g c =
    let told = g.C.Clock.told c.args.hands.now.clock.now in
    let said = g.G.Gate.said c.args.hands.now.gate.now in
    let old = team_of g.D.Disk.written g.D.Disk.faults c.args.self.now in
    let new = team_of g.D.Disk.written g.D.Disk.faults (record c.args.self.now { writers = c.turn.new.self; log = c.turn.new.log }) in
    let e = c.turn.ensures in
    let waits = writers_wait told said c.args.hands.now.kit.now old c.turn.new.self c.turn.new.log c.args.seats.now c.turn.new.seats e.fixed
    c.turn.result e.turned.added e.turned.answers e.took in
    waits_as told said c.args.hands.now.kit.now c.args.job Writers old new
    c.args.seats.now c.turn.new.seats (taken_by (λ (p : Post g.row.D.Denot). seen g.D.Disk.written g.D.Disk.faults p) c.args.self.now.posts.items c.args.job c.taker.result c.taker.ensures.taker ∙ c.in-Writers.is) c.job_of.result
    (subst (λ (outcome : JobOutcome). JobWaits told Writers outcome old new c.args.seats.now c.turn.new.seats) (sym c.job_of.ensures) waits)

pub returns-in-Flusher-clause-takes : goal.returns-in-Flusher-clause-takes
returns-in-Flusher-clause-takes g c =
    let team = λ (side : CpuSide g.row.D.Denot). team_of g.D.Disk.written g.D.Disk.faults side in
    takes_as (g.C.Clock.told c.args.hands.now.clock.now) (g.G.Gate.said c.args.hands.now.gate.now) c.args.hands.now.kit.now c.args.job (Flusher c.in-Flusher.place)
    (team c.args.self.now) (team c.turn_flusher.new.self) c.args.seats.now c.turn_flusher.new.seats
    (taken_by_flusher (λ (p : Post g.row.D.Denot). seen g.D.Disk.written g.D.Disk.faults p) c.args.self.now.posts.items c.args.job c.taker.result c.taker.ensures.taker
    c.in-Flusher.place c.in-Flusher.is (c.taker.ensures.there c.in-Flusher.place c.in-Flusher.is)) c.turn_flusher.result c.turn_flusher.ensures.takes

pub returns-in-Flusher-clause-waits : goal.returns-in-Flusher-clause-waits
returns-in-Flusher-clause-waits g c =
    let team = λ (side : CpuSide g.row.D.Denot). team_of g.D.Disk.written g.D.Disk.faults side in
    waits_as (g.C.Clock.told c.args.hands.now.clock.now) (g.G.Gate.said c.args.hands.now.gate.now) c.args.hands.now.kit.now c.args.job (Flusher c.in-Flusher.place)
    (team c.args.self.now) (team c.turn_flusher.new.self) c.args.seats.now c.turn_flusher.new.seats
    (taken_by_flusher (λ (p : Post g.row.D.Denot). seen g.D.Disk.written g.D.Disk.faults p) c.args.self.now.posts.items c.args.job c.taker.result c.taker.ensures.taker
    c.in-Flusher.place c.in-Flusher.is (c.taker.ensures.there c.in-Flusher.place c.in-Flusher.is)) c.turn_flusher.result c.turn_flusher.ensures.waits
