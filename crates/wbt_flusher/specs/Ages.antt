-- The wheel of a flusher whose device's inodes are written for their age: the list of those that wait.
use Rattle.std.specs.Prelude.{◌≡◌, ℕ, ◌≤◌, max, true, false, if◌then◌else◌, List, [], length, Option, Some, None}
use Rattle.wbt_expiry.specs.Waiting.{Each, Waiting, AreInOrder}
use Rattle.wbt_expiry.specs.declared.due.Due.{Due}
use Rattle.wbt_flusher.specs.Plans.{IsInode, due_of}
use Rattle.wbt_flusher.specs.declared.plan.FlusherPlan.{FlusherPlan}

-- the list of a wheel: where there is none, no inode waits
abbrev pub pairs_of : (wheel : Option Waiting) → List Due
pairs_of None = []
pairs_of (Some waiting) = waiting.pairs

-- the wheel with another list
abbrev pub with_list : (pairs : List Due) (wheel : Option Waiting) → Option Waiting
with_list pairs None = None
with_list pairs (Some waiting) = Some (record waiting { pairs = pairs })

-- the wheel was told a moment
abbrev pub told_at : (now : ℕ) (wheel : Option Waiting) → Option Waiting
told_at now None = None
told_at now (Some waiting) = Some (record waiting { told = max waiting.told now })

-- a flusher of an ageing device has a wheel, in which no inode waits at first
abbrev pub first_wheel : (plan : FlusherPlan) (now : ℕ) → Option Waiting
first_wheel plan now = if plan.ages then Some (record { pairs = []; told = now; inodes = length plan.inodes }) else None

-- the pair of an inode that was noticed at a moment
abbrev pub noticed_pair : (plan : FlusherPlan) (inode since : ℕ) → Due
noticed_pair plan inode since = record { due = due_of plan inode since; inode = inode }

-- A wheel has the inodes of the trace. Those that wait are of the flusher's device, and stand in order.
pub record IsWheel (plan : FlusherPlan) (waiting : Waiting) : Type 0 where
  pub ageing : plan.ages ≡ true
  pub inodes : waiting.inodes ≡ length plan.inodes
  pub own : Each (λ pair. IsInode plan pair.inode) waiting.pairs
  pub order : AreInOrder waiting.pairs

-- there is one exactly where the device is ageing
abbrev pub HasWheel : (plan : FlusherPlan) (wheel : Option Waiting) → Type 0
HasWheel plan None = plan.ages ≡ false
HasWheel plan (Some waiting) = IsWheel plan waiting

-- a wheel, where there is one, was told this moment, or a later one
abbrev pub WasTold : (now : ℕ) (wheel : Option Waiting) → Type 0
WasTold now None = Unit {0}
WasTold now (Some waiting) = now ≤ waiting.told
