use Rattle.std.proofs.Common.{refl, ◌∙◌}
use Rattle.wbt_writer.proofs.Exacting.{puts_more}
use Rattle.wbt_writer.proofs.work.WriterWork.put_waiting.Goals as goal

pub loop-inode-init : goal.loop-inode-init
loop-inode-init g c = record {
  at_kit = c.requires.at_kit;
  only = record { tasks = refl; fractions = refl; cpu = refl; share = refl; est = refl; queues = λ device. refl };
  puts = (refl, refl);
}

pub loop-inode-preserved : goal.loop-inode-preserved
loop-inode-preserved g c =
    let l = c.loop-inode in
    let p = l.invariant.only in
    let q = c.put_next.ensures.only in
    record {
      at_kit = c.put_next.ensures.at_kit;
      only = record {
        tasks = q.tasks ∙ p.tasks;
        fractions = q.fractions ∙ p.fractions;
        cpu = q.cpu ∙ p.cpu;
        share = q.share ∙ p.share;
        est = q.est ∙ p.est;
        queues = λ device. q.queues device ∙ p.queues device;
      };
      puts = puts_more c.args.place.now.trace.now c.args.hands.now.kit.now l.inode c.args.seats.now.queue l.seats.queue c.put_next.new.seats.queue c.args.self.now.waiting.items l.self.waiting.items
          c.put_next.new.self.waiting.items l.invariant.puts c.put_next.ensures.next;
    }
