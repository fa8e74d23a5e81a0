-- How a scan begins.
use Rattle.std.specs.Prelude.{◌≡◌, ℕ}
use Rattle.wbt_estimate.specs.declared.estimate.Estimate.{Estimate}
use Rattle.wbt_grant.specs.Kinds.{unmark}
use Rattle.wbt_kit.specs.declared.kit.Kit.{Kit}
use Rattle.wbt_rules.specs.Flusher.{quota_of}
use Rattle.wbt_run_steps.specs.Reads.{ReadsEstimate}
use Rattle.wbt_table.specs.Layout.{setting}
use Rattle.wbt_table.specs.Seat.{Makes}
use Rattle.wbt_flusher.specs.Plans.{IsInode, context_of}
use Rattle.wbt_flusher.specs.Sights.{Sight}
use Rattle.wbt_flusher.specs.Turns.{begun_scan}
use Rattle.wbt_flusher.specs.declared.plan.FlusherPlan.{FlusherPlan}

-- the inode's mark was cleared, and its scan begins: as many pages at most as the device writes in half a second, by an average that was
-- read for the inode's context, and as its line says
pub record BeginsScan (plan : FlusherPlan) (kit : Kit) (inode : ℕ) (old new : Sight) : Type 0 where
  pub its : IsInode plan inode
  pub found : ℕ
  pub unmarks : Makes (setting kit.throttle.layout) (unmark plan.cpu inode) found old.seats.cpu new.seats.cpu
  pub estimate : Estimate
  pub reads : ReadsEstimate kit.published.firsts (context_of plan inode) estimate old.seats.est new.seats.est
  pub share : new.seats.share ≡ old.seats.share
  pub queue_is : new.seats.queue ≡ old.seats.queue
  pub work : new.work ≡ record old.work { phase = begun_scan plan old.work inode (quota_of plan.shares estimate.avg old.work.hard) }
