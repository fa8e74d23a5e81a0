use Rattle.wbt_replay.proofs.Run as run
use Rattle.wbt_replay.proofs.ordered.replay.Goals as goal

pub returns-in-Ok-clause-followed : goal.returns-in-Ok-clause-followed
returns-in-Ok-clause-followed c = run.followed c.args.trace.now c.requires.lawful

pub returns-in-Err-clause-followed : goal.returns-in-Err-clause-followed
returns-in-Err-clause-followed c = run.followed c.args.trace.now c.requires.lawful

pub returns-in-Ok-clause-pages : goal.returns-in-Ok-clause-pages
returns-in-Ok-clause-pages c = run.accounted c.args.trace.now c.requires.lawful

pub returns-in-Err-clause-pages : goal.returns-in-Err-clause-pages
returns-in-Err-clause-pages c = run.accounted c.args.trace.now c.requires.lawful

pub returns-in-Ok-clause-within : goal.returns-in-Ok-clause-within
returns-in-Ok-clause-within c = run.within c.args.trace.now c.requires.lawful

pub returns-in-Err-clause-within : goal.returns-in-Err-clause-within
returns-in-Err-clause-within c = run.within c.args.trace.now c.requires.lawful

pub returns-in-Ok-clause-decided : goal.returns-in-Ok-clause-decided
returns-in-Ok-clause-decided c = run.decided c.args.trace.now c.requires.lawful

pub returns-in-Err-clause-decided : goal.returns-in-Err-clause-decided
returns-in-Err-clause-decided c = run.decided c.args.trace.now c.requires.lawful

pub returns-in-Ok-clause-points : goal.returns-in-Ok-clause-points
returns-in-Ok-clause-points c = run.points_are c.args.trace.now c.requires.lawful

pub returns-in-Err-clause-points : goal.returns-in-Err-clause-points
returns-in-Err-clause-points c = run.points_are c.args.trace.now c.requires.lawful

pub returns-in-Ok-clause-lawful : goal.returns-in-Ok-clause-lawful
returns-in-Ok-clause-lawful c = run.is_lawful c.args.trace.now c.requires.lawful

pub returns-in-Err-clause-lawful : goal.returns-in-Err-clause-lawful
returns-in-Err-clause-lawful c = run.is_lawful c.args.trace.now c.requires.lawful

pub returns-in-Ok-clause-whole : goal.returns-in-Ok-clause-whole
returns-in-Ok-clause-whole c = run.whole c.args.trace.now c.requires.lawful

pub returns-in-Err-clause-whole : goal.returns-in-Err-clause-whole
returns-in-Err-clause-whole c = run.whole c.args.trace.now c.requires.lawful

pub returns-in-Ok-clause-ends : goal.returns-in-Ok-clause-ends
returns-in-Ok-clause-ends c = run.ends_itself c.args.trace.now c.requires.lawful

pub returns-in-Err-clause-ends : goal.returns-in-Err-clause-ends
returns-in-Err-clause-ends c = run.ends_itself c.args.trace.now c.requires.lawful

pub returns-in-Ok-clause-order : goal.returns-in-Ok-clause-order
returns-in-Ok-clause-order c = run.in_order c.args.trace.now c.requires.lawful

pub returns-in-Err-clause-order : goal.returns-in-Err-clause-order
returns-in-Err-clause-order c = run.in_order c.args.trace.now c.requires.lawful
