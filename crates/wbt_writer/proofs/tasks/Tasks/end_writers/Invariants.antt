use Rattle.std.proofs.Common.{◌≡◌, ◌≢◌, ◌≤◌, ℕ, get_or}
use Rattle.wbt_writer.proofs.Common.{AllHavePagesLeft, cpu_after, writer_of, KeepsFixed, OnlyEnds, cpu_of, no_name}
use Rattle.wbt_writer.specs.Counted.{ends_from}
use Rattle.wbt_writer.proofs.tasks.Tasks.end_writers.Given as goal

abbrev pub invariant-loop-number : goal.invariant-loop-number
invariant-loop-number l = record {
  reaches : cpu_after l.fn.self.ratelimit_pages l.fn.self.cap (cpu_of l.fn.self) (ends_from l.task 0 l.fn.self.names.items)
      ≡ cpu_after l.fn.self.ratelimit_pages l.fn.self.cap (cpu_of l.self) (ends_from l.task l.number l.fn.self.names.items);
  only : OnlyEnds (cpu_of l.fn.self) (cpu_of l.self);
  stay : (n : ℕ) → (get_or l.fn.self.names.items n no_name).task ≢ l.task → writer_of (cpu_of l.self) n ≡ writer_of (cpu_of l.fn.self) n;
  left : 1 ≤ l.fn.self.cap → AllHavePagesLeft l.fn.self.cap (cpu_of l.fn.self) → AllHavePagesLeft l.fn.self.cap (cpu_of l.self);
  fixed : KeepsFixed l.fn.self l.self;
  tasks : l.self.tasks.items ≡ l.fn.self.tasks.items;
}
