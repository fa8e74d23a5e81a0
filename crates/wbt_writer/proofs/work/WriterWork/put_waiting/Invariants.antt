use Rattle.wbt_writer.proofs.Common.{AreAt, OnlyPuts}
use Rattle.wbt_writer.specs.Exact.{PutsBefore}
use Rattle.wbt_writer.proofs.work.WriterWork.put_waiting.Given as goal

abbrev pub invariant-loop-inode : goal.invariant-loop-inode
invariant-loop-inode g l = record {
  at_kit : AreAt l.place.trace.now l.place.cpu l.hands.kit.now l.self l.seats;
  only : OnlyPuts l.initial.self l.self l.initial.seats l.seats;
  puts : PutsBefore l.place.trace.now l.hands.kit.now l.inode l.initial.seats.queue l.seats.queue l.initial.self.waiting.items l.self.waiting.items;
}
