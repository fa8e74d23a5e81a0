use Rattle.std.proofs.Common.{◌≡◌, ◌<◌, ℕ, false, get_or, length}
use Rattle.wbt_flusher.proofs.Common.{OnlyQueue, OnlyDevice, Fits, OnlyWaiting, PutsBefore}
use Rattle.wbt_flusher.proofs.plan.FlusherPlan.put_each.Given as goal

abbrev pub invariant-loop-inode : goal.invariant-loop-inode
invariant-loop-inode g l = record {
  fits : Fits l.self l.hands.kit.now l.seats;
  queue : OnlyQueue l.initial.seats l.seats;
  device : OnlyDevice l.self.device l.initial.seats.queue l.seats.queue;
  waiting : OnlyWaiting l.self l.initial.work l.work;
  long : length l.work.waiting.items ≡ length l.self.inodes;
  puts : PutsBefore l.self l.hands.kit.now l.inode l.initial.seats.queue l.seats.queue l.initial.work.waiting.items l.work.waiting.items l.some;
  none : l.some ≡ false → (k : ℕ) → k < l.inode → get_or l.work.waiting.items k false ≡ false;
}
