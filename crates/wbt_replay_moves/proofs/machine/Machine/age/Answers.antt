use Rattle.std.proofs.Common.{arith}
use Rattle.wbt_replay_moves.specs.Seen.{seen}
use Rattle.wbt_replay_moves.proofs.Ageing.{noticed_cpus, noticed_fits, told_fits}
use Rattle.wbt_replay_moves.proofs.machine.Machine.age.Goals as goal

pub notice_all-requires-clause-fits : goal.notice_all-requires-clause-fits
notice_all-requires-clause-fits c =
    told_fits c.args.trace.now c.args.flusher c.args.now (seen c.args.self.now) (seen c.tell.new.self) c.tell.ensures
    c.requires.flusher c.requires.wheel c.requires.moment c.requires.queue

pub take_aged-requires-clause-cpu : goal.take_aged-requires-clause-cpu
take_aged-requires-clause-cpu c =
    omega (arith, c.requires.cpu, noticed_cpus c.args.trace.now c.args.cpu c.args.flusher c.args.now (seen c.args.self.now) (seen c.tell.new.self) (seen c.notice_all.new.self) c.tell.ensures c.in_ok-notice_all.ensures)

pub take_aged-requires-clause-flusher : goal.take_aged-requires-clause-flusher
take_aged-requires-clause-flusher c =
    (noticed_fits c.args.trace.now c.args.cpu c.args.flusher c.args.now (seen c.args.self.now) (seen c.tell.new.self) (seen c.notice_all.new.self) c.tell.ensures c.in_ok-notice_all.ensures
    c.requires.flusher c.requires.wheel c.requires.moment c.requires.queue).here.there

pub take_aged-requires-clause-wheel : goal.take_aged-requires-clause-wheel
take_aged-requires-clause-wheel c =
    (noticed_fits c.args.trace.now c.args.cpu c.args.flusher c.args.now (seen c.args.self.now) (seen c.tell.new.self) (seen c.notice_all.new.self) c.tell.ensures c.in_ok-notice_all.ensures
    c.requires.flusher c.requires.wheel c.requires.moment c.requires.queue).wheel

pub take_aged-requires-clause-told : goal.take_aged-requires-clause-told
take_aged-requires-clause-told c =
    (noticed_fits c.args.trace.now c.args.cpu c.args.flusher c.args.now (seen c.args.self.now) (seen c.tell.new.self) (seen c.notice_all.new.self) c.tell.ensures c.in_ok-notice_all.ensures
    c.requires.flusher c.requires.wheel c.requires.moment c.requires.queue).told
