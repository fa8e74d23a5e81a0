use Rattle.std.proofs.Common.{ℕ, false, get_or, inl, inr, ◌∙◌, ap, arith}
use Rattle.std.proofs.lemmas.Bool.{cases_eq}
use Rattle.wbt_run_steps.proofs.Queues.{only_more}
use Rattle.wbt_flusher.proofs.Held.{puts_more}
use Rattle.wbt_flusher.proofs.plan.FlusherPlan.put_each.Goals as goal

pub loop-inode-preserved : goal.loop-inode-preserved
loop-inode-preserved g c =
    let l = c.loop-inode in
    let i = l.invariant in
    let e = c.put_next-some.ensures in
    let q = e.only_queue in
    let o = e.only_waiting in
    record {
      fits = e.fits;
      queue = record { cpu = q.cpu ∙ i.queue.cpu; share = q.share ∙ i.queue.share; est = q.est ∙ i.queue.est };
      device = only_more c.args.self.now.device c.args.seats.now.queue l.seats.queue c.put_next-some.new.seats.queue i.device e.device;
      waiting = record {
        phase = o.phase ∙ i.waiting.phase;
        batch = o.batch ∙ i.waiting.batch;
        faults = o.faults ∙ i.waiting.faults;
        hard = o.hard ∙ i.waiting.hard;
        tallies = o.tallies ∙ i.waiting.tallies;
        wheel = o.wheel ∙ i.waiting.wheel;
        places = o.places ∙ i.waiting.places;
        waiting = o.waiting ∙ i.waiting.waiting;
      };
      long = o.waiting ∙ i.long;
      puts = puts_more c.args.self.now c.args.hands.now.kit.now l.inode c.args.seats.now.queue l.seats.queue c.put_next-some.new.seats.queue c.args.work.now.waiting.items l.work.waiting.items
          c.put_next-some.new.work.waiting.items l.some c.put_next-some.result i.puts e.next;
      none = λ so k less. elim (cases_eq k l.inode) [
        | inl is ↦ ap (λ (n : ℕ). get_or c.put_next-some.new.work.waiting.items n false) is ∙ e.none so
        | inr other ↦ e.others k other ∙ i.none (e.before so) k (omega arith)
      ];
    }
