use Rattle.std.proofs.Common.{◌≡◌, ℕ, ◌^◌, Option, Some, None, sym, subst}
use Rattle.std.specs.Prelude.{IfNone}
use Rattle.wbt_kit.proofs.Common.{AreAllTaken, Held, Seats}
use Rattle.wbt_queue.specs.Passes.{known_of}
use Rattle.wbt_run_steps.proofs.Queues.{only_take}
use Rattle.wbt_flusher.proofs.plan.FlusherPlan.take.Goals as goal

still : (answer : Option ℕ) (held : Type 0) (P : Seats → Type 0) (old new : Seats) → IfNone answer ((new ≡ old) × held) → IfNone answer (P old) → IfNone answer (P new)
still None held P old new same is = subst P (sym same.0) is
still (Some inode) held P old new same is = tt

pub returns-clause-device : goal.returns-clause-device
returns-clause-device g c =
    let device = c.args.self.now.device in
    let old = c.args.seats.now.queue in
    only_take c.take.result (Held 0 (known_of device old)) device old c.take.new.pass c.take.ensures.others c.take.ensures.empty

pub returns-clause-whole : goal.returns-clause-whole
returns-clause-whole g c =
    let device = c.args.self.now.device in
    let old = c.args.seats.now.queue in
    still c.take.result (Held 0 (known_of device old)) (λ (s : Seats). (known_of device s).stakes ≡ 2 ^ 32 → AreAllTaken (known_of device s)) old c.take.new.pass c.take.ensures.empty c.take.ensures.whole
