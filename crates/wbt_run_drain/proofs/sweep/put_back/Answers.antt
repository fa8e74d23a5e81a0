use Rattle.std.proofs.Common.{◌≡◌}
use Rattle.wbt_kit.proofs.Common.{HasPut, Held, size_of}
use Rattle.wbt_queue.specs.Passes.{known_of}
use Rattle.wbt_run_steps.proofs.Queues.{only_put}
use Rattle.wbt_run_drain.proofs.Looking.{put_or_full, seats_queued, same_pass}
use Rattle.wbt_run_drain.proofs.sweep.put_back.Goals as goal

pub returns-clause-seats : goal.returns-clause-seats
returns-clause-seats g c =
    let kit = c.args.hands.now.kit.now in
    let device = c.args.device in
    let old = c.args.seats.now.queue in
    seats_queued kit c.args.seats.now c.put.new.pass c.requires.seats
    (same_pass c.put.result (Held (size_of device kit.queues) (known_of device old)) device c.args.inode old c.put.new.pass c.put.ensures.others c.put.ensures.full)

pub returns-clause-device : goal.returns-clause-device
returns-clause-device g c =
    let device = c.args.device in
    let old = c.args.seats.now.queue in
    only_put c.put.result (Held (size_of device c.args.hands.now.kit.now.queues) (known_of device old)) device c.args.inode old c.put.new.pass c.put.ensures.others c.put.ensures.full

pub returns-clause-queued : goal.returns-clause-queued
returns-clause-queued g c =
    let device = c.args.device in
    let old = c.args.seats.now.queue in
    put_or_full c.put.result (HasPut (known_of device old) c.args.inode (known_of device c.put.new.pass)) (c.put.new.pass ≡ old)
    (Held (size_of device c.args.hands.now.kit.now.queues) (known_of device old)) c.put.ensures.put c.put.ensures.full
