use Rattle.wbt_kit.proofs.Common.{Held, size_of}
use Rattle.wbt_queue.specs.Passes.{known_of}
use Rattle.wbt_run_steps.proofs.Queues.{only_put}
use Rattle.wbt_run_steps.proofs.inodes.put_or_wait.Goals as goal

pub returns-clause-device : goal.returns-clause-device
returns-clause-device g c =
    let device = c.args.device in
    let old = c.args.seats.now.queue in
    only_put c.put.result (Held (size_of device c.args.kit.now.queues) (known_of device old)) device c.args.inode old c.put.new.pass c.put.ensures.others c.put.ensures.full
