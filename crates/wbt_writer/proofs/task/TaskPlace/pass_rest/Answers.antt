use Rattle.wbt_writer.proofs.Along.{rested, rests_at_last, none_left}
use Rattle.wbt_writer.proofs.task.TaskPlace.pass_rest.Goals as goal

pub returns-clause-along : goal.returns-clause-along
returns-clause-along c =
    let n = c.requires.next in let e = c.action_from-self.ensures in
    rested c.args.trace.now c.args.task c.args.self.now c.requires.along c.requires.lawful n.0 c.action_from-self.result n.1 e.within e.own e.skips

pub returns-clause-last : goal.returns-clause-last
returns-clause-last c past =
    let n = c.requires.next in let e = c.action_from-self.ensures in
    rests_at_last c.args.trace.now c.args.task c.args.self.now c.requires.along n.0 c.action_from-self.result n.1 e.skips past

pub returns-clause-all : goal.returns-clause-all
returns-clause-all c past =
    let n = c.requires.next in let e = c.action_from-self.ensures in
    none_left c.args.trace.now c.args.task c.args.self.now c.requires.along n.0 c.action_from-self.result n.1 e.skips past

pub returns-clause-next : goal.returns-clause-next
returns-clause-next c = let e = c.action_from-self.ensures in record { within = e.within; own = e.own; skips = e.skips }
