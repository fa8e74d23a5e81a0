use Rattle.std.proofs.Common.{◌≡◌, length, map, drop}
use Rattle.wbt_audit_walk.proofs.Common.{cpu_after, Ended}
use Rattle.wbt_audit_turns.specs.Sides.{Fits, cpu_of}
use Rattle.wbt_audit_turns.proofs.side.Side.end_each.Given as goal

abbrev pub invariant-loop-number : goal.invariant-loop-number
invariant-loop-number l = record {
  cpu : cpu_after l.machine.ratelimit_pages l.machine.cap (cpu_of l.self) (map Ended (drop l.number-index l.numbers)) ≡ cpu_after l.machine.ratelimit_pages l.machine.cap (cpu_of l.initial.self) (map Ended l.numbers);
  tasks : l.self.tasks.items ≡ l.initial.self.tasks.items;
  fits : Fits l.machine l.self;
  room : l.self.room ≡ l.initial.self.room;
  long : length l.self.writers.items ≡ length l.initial.self.writers.items;
}
