-- What a mark of an inode, and a put into its device's queue, make of seats.
use Rattle.std.specs.Prelude.{◌≡◌, ◌==◌, ℕ, Bool, true, false}
use Rattle.wbt_grant.specs.Kinds as kind
use Rattle.wbt_queue.specs.Order.{HasPut}
use Rattle.wbt_queue.specs.Passes as queue
use Rattle.wbt_table.specs.Layout.{setting}
use Rattle.wbt_table.specs.Seat.{Makes}
use Rattle.wbt_kit.specs.declared.kit.Kit.{Kit}
use Rattle.wbt_kit.specs.declared.kit.Seats.{Seats}
use Rattle.wbt_run_steps.specs.Records.{OnlyCpu}

-- the inode was marked, and `clear` says whether it had no mark; nothing but the CPU's record changed
pub record MarksInode (kit : Kit) (cpu inode : ℕ) (clear : Bool) (old new : Seats) : Type 0 where
  pub found : ℕ
  pub is_clear : clear ≡ (found == 0)
  pub makes : Makes (setting kit.throttle.layout) (kind.mark cpu inode) found old.cpu new.cpu
  pub only : OnlyCpu old new

-- nothing but what the pass knows of queues changed
pub record OnlyQueue (old new : Seats) : Type 0 where
  pub cpu : new.cpu ≡ old.cpu
  pub share : new.share ≡ old.share
  pub est : new.est ≡ old.est

-- the inode was put into the device's queue; or it wasn't, as that was full at a moment of the call
pub data PutsWhere (kit : Kit) (device inode : ℕ) (full : Bool) (old new : queue.Seats) : Type 0 where
  was_put : full ≡ false → HasPut (queue.known_of device old) inode (queue.known_of device new) → PutsWhere kit device inode full old new
  was_full : full ≡ true → new ≡ old → queue.Held (queue.size_of device kit.queues) (queue.known_of device old) → PutsWhere kit device inode full old new
