use Rattle.wbt_writer.proofs.work.WriterWork.step.Goals as goal
use Rattle.std.proofs.Common.{ap, ◌∙◌, [], ◌∷◌, true, false, ◌+◌, inl}
use Rattle.wbt_writer.proofs.Common.{wrote, first_page, sight, asked_none, none_as, domains}
use Rattle.wbt_writer.specs.declared.tasks.Tasks.{Tasks}
use Rattle.wbt_writer.specs.Exact.{checks, pauses, rests, stops_checking, stops_writing, writes}
use Rattle.wbt_writer.proofs.Exacting.{takes, takes_none, takes_some}
use Rattle.wbt_writer.proofs.Going.{at_paused, at_rested, with_tasks, goes_on_by_check, goes_on_by_pause, goes_on_by_rest, goes_on_by_write, halted_by_check, halted_by_write, spent_by_write, turned_by_already, turned_by_check, turned_by_fresh, turned_by_pause, turned_by_rest}
use Rattle.std.proofs.Common.{refl}
use Rattle.wbt_run_steps.proofs.Logging.{takes_none as rests_none}

pub returns-in-Ok-clause-turned : goal.returns-in-Ok-clause-turned
returns-in-Ok-clause-turned g c = turned_by_check (g.C.Clock.told c.args.hands.now.clock.now) (g.G.Gate.said c.args.hands.now.gate.now) c.args.place.now.trace.now c.args.hands.now.kit.now c.args.place.now.cpu c.args.task c.args.now c.args.self.now c.args.seats.now c.args.pen.now.log c.begin.new.self c.begin.ensures.only c.requires.goes (sight c.check.new.self c.check.new.seats c.check.new.pen.log) c.in-Ok.ensures.checks

pub returns-in-Ok-clause-may_go_on : goal.returns-in-Ok-clause-may_go_on
returns-in-Ok-clause-may_go_on g c = goes_on_by_check (g.C.Clock.told c.args.hands.now.clock.now) (g.G.Gate.said c.args.hands.now.gate.now) c.args.place.now.trace.now c.args.hands.now.kit.now c.args.place.now.cpu c.args.task c.args.now c.args.self.now c.args.seats.now c.args.pen.now.log c.begin.new.self c.begin.ensures.only c.requires.goes (sight c.check.new.self c.check.new.seats c.check.new.pen.log) c.in-Ok.ensures.checks c.requires.have_read

pub returns-in-Err-clause-turned : goal.returns-in-Err-clause-turned
returns-in-Err-clause-turned g c = halted_by_check (g.C.Clock.told c.args.hands.now.clock.now) (g.G.Gate.said c.args.hands.now.gate.now) c.args.place.now.trace.now c.args.hands.now.kit.now c.args.place.now.cpu c.args.task c.args.now c.args.self.now c.args.seats.now c.args.pen.now.log c.begin.new.self c.begin.ensures.only c.requires.goes (sight c.check.new.self c.check.new.seats c.check.new.pen.log) c.in-Err.ensures.loads_alone c.in-Err.ensures.stopped

pub returns-in-Rest-clause-turned : goal.returns-in-Rest-clause-turned
returns-in-Rest-clause-turned g c = turned_by_rest (g.C.Clock.told c.args.hands.now.clock.now) (g.G.Gate.said c.args.hands.now.gate.now) c.args.place.now.trace.now c.args.hands.now.kit.now c.args.place.now.cpu c.args.task c.args.now c.args.self.now c.args.seats.now c.args.pen.now.log c.begin.new.self c.begin.ensures.only c.requires.goes c.in-Rest.ticks c.requires.task c.requires.at_kit.is_work.tasks.counted.tasks (inl c.in-Rest.ensures) c.rested.new.self c.rested.ensures.rests c.rested.ensures.goes_on (c.rested.ensures.ends c.args.hands.now.kit.now.published.moment (ap (λ (s : Tasks). s.ratelimit_pages) c.begin.ensures.only ∙ c.requires.at_kit.its.ratelimit)) c.rested.ensures.may_end c.rested.ensures.written.0 c.rested.ensures.others

pub returns-in-Rest-clause-at_kit : goal.returns-in-Rest-clause-at_kit
returns-in-Rest-clause-at_kit g c = at_rested (g.C.Clock.told c.args.hands.now.clock.now) (g.G.Gate.said c.args.hands.now.gate.now) c.args.place.now.trace.now c.args.hands.now.kit.now c.args.place.now.cpu c.args.task c.args.now c.args.self.now c.args.seats.now c.args.pen.now.log c.begin.new.self c.begin.ensures.only c.requires.goes c.in-Rest.ticks c.requires.task c.requires.at_kit.is_work.tasks.counted.tasks (inl c.in-Rest.ensures) c.rested.new.self c.rested.ensures.rests c.rested.ensures.goes_on (c.rested.ensures.ends c.args.hands.now.kit.now.published.moment (ap (λ (s : Tasks). s.ratelimit_pages) c.begin.ensures.only ∙ c.requires.at_kit.its.ratelimit)) c.rested.ensures.may_end c.rested.ensures.written.0 c.rested.ensures.others c.requires.at_kit (c.begin.ensures.tasks c.args.place.now.trace.now c.requires.at_kit.is_work.tasks) c.rested.ensures.written.1 c.rested.ensures.tasks c.rested.ensures.fixed

pub returns-in-Rest-clause-may_go_on : goal.returns-in-Rest-clause-may_go_on
returns-in-Rest-clause-may_go_on g c = goes_on_by_rest (g.C.Clock.told c.args.hands.now.clock.now) (g.G.Gate.said c.args.hands.now.gate.now) c.args.place.now.trace.now c.args.hands.now.kit.now c.args.place.now.cpu c.args.task c.args.now c.args.self.now c.args.seats.now c.args.pen.now.log c.begin.new.self c.begin.ensures.only c.requires.goes c.in-Rest.ticks c.requires.task c.requires.at_kit.is_work.tasks.counted.tasks (inl c.in-Rest.ensures) c.rested.new.self c.rested.ensures.rests c.rested.ensures.goes_on (c.rested.ensures.ends c.args.hands.now.kit.now.published.moment (ap (λ (s : Tasks). s.ratelimit_pages) c.begin.ensures.only ∙ c.requires.at_kit.its.ratelimit)) c.rested.ensures.may_end c.rested.ensures.written.0 c.rested.ensures.others c.requires.owes c.requires.lefts c.requires.have_read

pub returns-in-Already-clause-turned : goal.returns-in-Already-clause-turned
returns-in-Already-clause-turned g c = turned_by_already (g.C.Clock.told c.args.hands.now.clock.now) (g.G.Gate.said c.args.hands.now.gate.now) c.args.place.now.trace.now c.args.hands.now.kit.now c.args.place.now.cpu c.args.task c.args.now c.args.self.now c.args.seats.now c.args.pen.now.log c.begin.new.self c.begin.ensures.only c.requires.goes c.in-Write.inode c.in-Write.page (sight c.write.new.self c.write.new.seats c.write.new.pen.log) c.in-Write.ensures c.in-Already.ensures.writes

pub returns-in-Already-clause-may_go_on : goal.returns-in-Already-clause-may_go_on
returns-in-Already-clause-may_go_on g c = goes_on_by_write (g.C.Clock.told c.args.hands.now.clock.now) (g.G.Gate.said c.args.hands.now.gate.now) c.args.place.now.trace.now c.args.hands.now.kit.now c.args.place.now.cpu c.args.task c.args.now c.args.self.now c.args.seats.now c.args.pen.now.log c.begin.new.self c.begin.ensures.only c.requires.goes (wrote c.args.task (first_page c.args.place.now.trace.now c.in-Write.inode + c.in-Write.page) false ∷ []) (sight c.write.new.self c.write.new.seats c.write.new.pen.log) c.in-Already.ensures.writes c.requires.have_read

pub returns-in-Fresh-clause-turned : goal.returns-in-Fresh-clause-turned
returns-in-Fresh-clause-turned g c = turned_by_fresh (g.C.Clock.told c.args.hands.now.clock.now) (g.G.Gate.said c.args.hands.now.gate.now) c.args.place.now.trace.now c.args.hands.now.kit.now c.args.place.now.cpu c.args.task c.args.now c.args.self.now c.args.seats.now c.args.pen.now.log c.begin.new.self c.begin.ensures.only c.requires.goes c.in-Write.inode c.in-Write.page (sight c.write.new.self c.write.new.seats c.write.new.pen.log) c.in-Write.ensures c.in-Fresh.ensures.writes

pub returns-in-Fresh-clause-may_go_on : goal.returns-in-Fresh-clause-may_go_on
returns-in-Fresh-clause-may_go_on g c = goes_on_by_write (g.C.Clock.told c.args.hands.now.clock.now) (g.G.Gate.said c.args.hands.now.gate.now) c.args.place.now.trace.now c.args.hands.now.kit.now c.args.place.now.cpu c.args.task c.args.now c.args.self.now c.args.seats.now c.args.pen.now.log c.begin.new.self c.begin.ensures.only c.requires.goes (wrote c.args.task (first_page c.args.place.now.trace.now c.in-Write.inode + c.in-Write.page) true ∷ c.in-Fresh.ensures.writes.folds) (sight c.write.new.self c.write.new.seats c.write.new.pen.log) c.in-Fresh.ensures.writes.written c.requires.have_read

pub returns-in-Stopped-clause-turned : goal.returns-in-Stopped-clause-turned
returns-in-Stopped-clause-turned g c = halted_by_write (g.C.Clock.told c.args.hands.now.clock.now) (g.G.Gate.said c.args.hands.now.gate.now) c.args.place.now.trace.now c.args.hands.now.kit.now c.args.place.now.cpu c.args.task c.args.now c.args.self.now c.args.seats.now c.args.pen.now.log c.begin.new.self c.begin.ensures.only c.requires.goes (sight c.write.new.self c.write.new.seats c.write.new.pen.log) c.in-Stopped.ensures.writes

pub returns-in-Spent-clause-turned : goal.returns-in-Spent-clause-turned
returns-in-Spent-clause-turned g c = spent_by_write (g.C.Clock.told c.args.hands.now.clock.now) (g.G.Gate.said c.args.hands.now.gate.now) c.args.place.now.trace.now c.args.hands.now.kit.now c.args.place.now.cpu c.args.task c.args.now c.args.self.now c.args.seats.now c.args.pen.now.log c.begin.new.self c.begin.ensures.only c.requires.goes (sight c.write.new.self c.write.new.seats c.write.new.pen.log) c.in-Spent.ensures.writes.0 c.in-Spent.ensures.writes.1

pub returns-in-Rest-clause-asked : goal.returns-in-Rest-clause-asked
returns-in-Rest-clause-asked g c = asked_none c.args.place.now.cpu (g.G.Gate.said c.args.hands.now.gate.now) c.args.seats.now c.args.seats.now refl

pub returns-in-Ok-clause-took : goal.returns-in-Ok-clause-took
returns-in-Ok-clause-took g c = takes (g.C.Clock.told c.args.hands.now.clock.now) (g.G.Gate.said c.args.hands.now.gate.now) c.args.place.now.trace.now c.args.hands.now.kit.now c.args.place.now.cpu c.args.task c.args.now c.args.self.now c.args.seats.now c.args.pen.now.log c.begin.new.self c.begin.ensures.only c.requires.goes (sight c.check.new.self c.check.new.seats c.check.new.pen.log) (checks c.in-Ok.ensures.took)

pub returns-in-Err-clause-took : goal.returns-in-Err-clause-took
returns-in-Err-clause-took g c = takes_some (g.C.Clock.told c.args.hands.now.clock.now) (g.G.Gate.said c.args.hands.now.gate.now) c.args.place.now.trace.now c.args.hands.now.kit.now c.args.place.now.cpu c.args.task c.args.now c.args.self.now c.args.seats.now c.args.pen.now.log c.begin.new.self c.begin.ensures.only c.requires.goes (sight c.check.new.self c.check.new.seats c.check.new.pen.log) (stops_checking c.in-Err.ensures.took_some)

pub returns-in-Rest-clause-took : goal.returns-in-Rest-clause-took
returns-in-Rest-clause-took g c = takes (g.C.Clock.told c.args.hands.now.clock.now) (g.G.Gate.said c.args.hands.now.gate.now) c.args.place.now.trace.now c.args.hands.now.kit.now c.args.place.now.cpu c.args.task c.args.now c.args.self.now c.args.seats.now c.args.pen.now.log c.begin.new.self c.begin.ensures.only c.requires.goes (sight (with_tasks c.args.self.now c.rested.new.self) c.args.seats.now c.args.pen.now.log) (rests (record {
  ticks = c.in-Rest.ticks;
  its_job = c.in-Rest.ensures;
  place = c.rested.ensures.own;
  next = c.rested.ensures.next;
  only = record { others = c.rested.ensures.others; fixed = c.rested.ensures.fixed };
  fractions = refl;
  waiting = refl;
  seats = refl;
  told = refl;
}))

pub returns-in-Already-clause-took : goal.returns-in-Already-clause-took
returns-in-Already-clause-took g c = takes (g.C.Clock.told c.args.hands.now.clock.now) (g.G.Gate.said c.args.hands.now.gate.now) c.args.place.now.trace.now c.args.hands.now.kit.now c.args.place.now.cpu c.args.task c.args.now c.args.self.now c.args.seats.now c.args.pen.now.log c.begin.new.self c.begin.ensures.only c.requires.goes (sight c.write.new.self c.write.new.seats c.write.new.pen.log) (writes c.in-Write.inode c.in-Write.page c.in-Write.ensures c.in-Already.ensures.took)

pub returns-in-Fresh-clause-took : goal.returns-in-Fresh-clause-took
returns-in-Fresh-clause-took g c = takes (g.C.Clock.told c.args.hands.now.clock.now) (g.G.Gate.said c.args.hands.now.gate.now) c.args.place.now.trace.now c.args.hands.now.kit.now c.args.place.now.cpu c.args.task c.args.now c.args.self.now c.args.seats.now c.args.pen.now.log c.begin.new.self c.begin.ensures.only c.requires.goes (sight c.write.new.self c.write.new.seats c.write.new.pen.log) (writes c.in-Write.inode c.in-Write.page c.in-Write.ensures c.in-Fresh.ensures.took)

pub returns-in-Stopped-clause-took : goal.returns-in-Stopped-clause-took
returns-in-Stopped-clause-took g c = takes_some (g.C.Clock.told c.args.hands.now.clock.now) (g.G.Gate.said c.args.hands.now.gate.now) c.args.place.now.trace.now c.args.hands.now.kit.now c.args.place.now.cpu c.args.task c.args.now c.args.self.now c.args.seats.now c.args.pen.now.log c.begin.new.self c.begin.ensures.only c.requires.goes (sight c.write.new.self c.write.new.seats c.write.new.pen.log) (stops_writing c.in-Write.inode c.in-Write.page c.in-Write.ensures c.in-Stopped.ensures.took)

pub returns-in-Spent-clause-took : goal.returns-in-Spent-clause-took
returns-in-Spent-clause-took g c = takes_none (g.C.Clock.told c.args.hands.now.clock.now) (g.G.Gate.said c.args.hands.now.gate.now) c.args.place.now.trace.now c.args.hands.now.kit.now c.args.place.now.cpu c.args.task c.args.now c.args.self.now c.args.seats.now c.args.pen.now.log c.begin.new.self c.begin.ensures.only c.requires.goes (sight c.write.new.self c.write.new.seats c.write.new.pen.log) (record { inode = c.in-Write.inode; page = c.in-Write.page; its_job = c.in-Write.ensures; same = c.in-Spent.ensures.took })

pub returns-in-Rest-clause-kinds : goal.returns-in-Rest-clause-kinds
returns-in-Rest-clause-kinds g c =
    rests_none (domains c.args.hands.now.kit.now.throttle.layout) c.args.place.now.cpu c.args.seats.now c.args.seats.now (none_as c.args.place.now.cpu c.args.seats.now c.args.seats.now refl)

pub returns-in-Pause-clause-turned : goal.returns-in-Pause-clause-turned
returns-in-Pause-clause-turned g c = turned_by_pause (g.C.Clock.told c.args.hands.now.clock.now) (g.G.Gate.said c.args.hands.now.gate.now) c.args.place.now.trace.now c.args.hands.now.kit.now c.args.place.now.cpu c.args.task c.args.now c.args.self.now c.args.seats.now c.args.pen.now.log c.begin.new.self c.begin.ensures.only c.requires.goes c.in-Pause.ticks c.requires.task c.requires.at_kit.is_work.tasks.counted.tasks c.in-Pause.ensures c.paused.new.self c.paused.ensures.side c.paused.ensures.own c.paused.ensures.others

pub returns-in-Pause-clause-at_kit : goal.returns-in-Pause-clause-at_kit
returns-in-Pause-clause-at_kit g c = at_paused (g.C.Clock.told c.args.hands.now.clock.now) (g.G.Gate.said c.args.hands.now.gate.now) c.args.place.now.trace.now c.args.hands.now.kit.now c.args.place.now.cpu c.args.task c.args.now c.args.self.now c.args.seats.now c.args.pen.now.log c.begin.new.self c.begin.ensures.only c.requires.goes c.in-Pause.ticks c.requires.task c.requires.at_kit.is_work.tasks.counted.tasks c.in-Pause.ensures c.paused.new.self c.paused.ensures.side c.paused.ensures.own c.paused.ensures.others c.requires.at_kit (c.begin.ensures.tasks c.args.place.now.trace.now c.requires.at_kit.is_work.tasks) (c.paused.ensures.tasks c.args.place.now.trace.now (c.begin.ensures.tasks c.args.place.now.trace.now c.requires.at_kit.is_work.tasks)) c.paused.ensures.fixed

pub returns-in-Pause-clause-may_go_on : goal.returns-in-Pause-clause-may_go_on
returns-in-Pause-clause-may_go_on g c = goes_on_by_pause (g.C.Clock.told c.args.hands.now.clock.now) (g.G.Gate.said c.args.hands.now.gate.now) c.args.place.now.trace.now c.args.hands.now.kit.now c.args.place.now.cpu c.args.task c.args.now c.args.self.now c.args.seats.now c.args.pen.now.log c.begin.new.self c.begin.ensures.only c.requires.goes c.in-Pause.ticks c.requires.task c.requires.at_kit.is_work.tasks.counted.tasks c.in-Pause.ensures c.paused.new.self c.paused.ensures.side c.paused.ensures.own c.paused.ensures.others c.requires.owes c.requires.lefts c.requires.have_read

pub returns-in-Pause-clause-asked : goal.returns-in-Pause-clause-asked
returns-in-Pause-clause-asked g c = asked_none c.args.place.now.cpu (g.G.Gate.said c.args.hands.now.gate.now) c.args.seats.now c.args.seats.now refl

pub returns-in-Pause-clause-took : goal.returns-in-Pause-clause-took
returns-in-Pause-clause-took g c = takes (g.C.Clock.told c.args.hands.now.clock.now) (g.G.Gate.said c.args.hands.now.gate.now) c.args.place.now.trace.now c.args.hands.now.kit.now c.args.place.now.cpu c.args.task c.args.now c.args.self.now c.args.seats.now c.args.pen.now.log c.begin.new.self c.begin.ensures.only c.requires.goes (sight (with_tasks c.args.self.now c.paused.new.self) c.args.seats.now c.args.pen.now.log) (pauses (record {
  ticks = c.in-Pause.ticks;
  its_job = c.in-Pause.ensures;
  place = c.paused.ensures.own;
  only = record { others = c.paused.ensures.others; fixed = c.paused.ensures.fixed };
  fractions = refl;
  waiting = refl;
  seats = refl;
  told = refl;
}))

pub returns-in-Pause-clause-kinds : goal.returns-in-Pause-clause-kinds
returns-in-Pause-clause-kinds g c =
    rests_none (domains c.args.hands.now.kit.now.throttle.layout) c.args.place.now.cpu c.args.seats.now c.args.seats.now (none_as c.args.place.now.cpu c.args.seats.now c.args.seats.now refl)
