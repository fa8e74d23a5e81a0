-- Seats whose records came from one side and whose notes came from the other.
use Rattle.std.proofs.Common.{◌≡◌, length, sym, ap, ◌∙◌, subst}
use Rattle.wbt_kit.proofs.Common.{IsSeatOf, all_joined, joined_seat, Seated, length-merged, AreSeatsOf}
use Rattle.wbt_fraction.specs.Several.{Seats as ShareSeats}
use Rattle.wbt_published.specs.Passes.{Seats as EstPass}
use Rattle.wbt_queue.specs.Passes.{all_joined as all_parts, Seats as QueuePass}
use Rattle.wbt_kit.specs.declared.kit.Kit.{Kit}
use Rattle.wbt_kit.specs.declared.kit.Seats.{Seats}
use Rattle.wbt_kit.proofs.Lengths.{joined_long, parts_long}
use Rattle.wbt_run_seats.specs.Apart.{IsApart}
use Rattle.wbt_run_seats.specs.declared.apart.Apart.{Apart}

-- the records of both and their passes to the queues, and the notes of the second
pub with_records : (kit : Kit) (old from : Seats) (cpu : Seated) (share : ShareSeats) (est : EstPass) (queue : QueuePass) → AreSeatsOf kit old → AreSeatsOf kit from
    → cpu ≡ joined_seat old.cpu from.cpu → share ≡ from.share → est ≡ from.est → queue ≡ record old.queue { known = all_parts old.queue.known from.queue.known }
    → AreSeatsOf kit (record { cpu = cpu; share = share; est = est; queue = queue })
with_records kit old from cpu share est queue one two e s p q = record {
  cpu = record { table = ap (λ (x : Seated). x.table) e ∙ one.cpu.table; layout = ap (λ (x : Seated). x.layout) e ∙ one.cpu.layout };
  each_cpu = ap (λ (x : Seated). length x.cpus) e ∙ length-merged old.cpu.cpus from.cpu.cpus ∙ one.each_cpu;
  share = subst (IsSeatOf kit.shares) (sym s) two.share;
  est = ap (λ (x : EstPass). x.names) p ∙ two.est;
  each_context = ap (λ (x : EstPass). length x.known) p ∙ two.each_context;
  queue = ap (λ (x : QueuePass). x.names) q ∙ one.queue;
  each_device = ap (λ (x : QueuePass). length x.known) q ∙ parts_long old.queue.known from.queue.known ∙ one.each_device;
}

-- the records that were there, and the notes of both
pub with_notes : (kit : Kit) (old : Seats) (apart : Apart) (share : ShareSeats) (est mine theirs : EstPass) → AreSeatsOf kit old → IsApart kit apart
    → IsSeatOf kit.shares share → mine ≡ apart.est → theirs ≡ old.est → est ≡ record mine { known = all_joined mine.known theirs.known }
    → AreSeatsOf kit (record { cpu = old.cpu; share = share; est = est; queue = old.queue })
with_notes kit old apart share est mine theirs are beside its m t e =
    let one = ap (λ (x : EstPass). length x.known) m ∙ beside.each_context in
    let two = ap (λ (x : EstPass). length x.known) t ∙ are.each_context in
    record {
      cpu = are.cpu;
      each_cpu = are.each_cpu;
      share = its;
      est = ap (λ (x : EstPass). x.names) e ∙ ap (λ (x : EstPass). x.names) m ∙ beside.est;
      each_context = ap (λ (x : EstPass). length x.known) e ∙ joined_long mine.known theirs.known (one ∙ sym two) ∙ one;
      queue = are.queue;
      each_device = are.each_device;
    }
