-- The record of one CPU changes in a seat, and the seats stay those of their kit.
use Rattle.std.proofs.Common.{◌≡◌, ℕ, length, Some, None, sym, ap, ◌∙◌, subst, length-set}
use Rattle.atomic_table.proofs.Lists.{set_else}
use Rattle.wbt_fraction.specs.Several as share
use Rattle.wbt_kit.proofs.Common.{CpuRecord, Cpus, Has, Seated, Changes, AreSeatsOf}
use Rattle.wbt_published.specs.Passes as est
use Rattle.wbt_queue.specs.Passes as queue
use Rattle.wbt_table.proofs.Lists.{at_read}
use Rattle.wbt_table.proofs.Seating.{still_at}
use Rattle.wbt_kit.specs.declared.kit.Kit.{Kit}
use Rattle.wbt_kit.specs.declared.kit.Seats.{Seats}
use Rattle.wbt_run_steps.specs.Records.{record_of, held_in, IsApart, OnlyCpu}

-- the record of a CPU that is held
pub record_is : (cpus : Cpus) (c : ℕ) (r : CpuRecord) → Has cpus c r → record_of c cpus ≡ r
record_is cpus c r has = ap held_in (at_read cpus c (Some r) has None)

-- no other record changes
pub apart_changed : (c : ℕ) (f : CpuRecord → CpuRecord) (old new : Seated) (r : CpuRecord) → Changes c f old new → Has old.cpus c r → IsApart c old new
apart_changed c f old new r change has =
    let cpus = change.cpus r has in
    record {
      others = λ d q other there. subst (λ (l : Cpus). Has l d q) (sym cpus) (set_else old.cpus c d (Some (f r)) other ∙ there);
      no_more = λ d q other there. sym (set_else old.cpus c d (Some (f r)) other) ∙ subst (λ (l : Cpus). Has l d q) cpus there;
      timer = change.timer;
      layout = change.layout;
    }

pub apart_more : (cpu : ℕ) (old mid new : Seated) → IsApart cpu old mid → IsApart cpu mid new → IsApart cpu old new
apart_more cpu old mid new a b = record {
  others = λ c r other has. b.others c r other (a.others c r other has);
  no_more = λ c r other has. a.no_more c r other (b.no_more c r other has);
  timer = b.timer ∙ a.timer;
  layout = b.layout ∙ a.layout;
}

-- seats of which only the record of a CPU changed are seats of the same kit
pub seats_stay : (kit : Kit) (c : ℕ) (f : CpuRecord → CpuRecord) (old new : Seats) (r : CpuRecord) → AreSeatsOf kit old → Has old.cpu.cpus c r
    → Changes c f old.cpu new.cpu → OnlyCpu old new → AreSeatsOf kit new
seats_stay kit c f old new r seats has change only = record {
  cpu = still_at kit.throttle c f old.cpu new.cpu seats.cpu change;
  each_cpu = ap (λ (l : Cpus). length l) (change.cpus r has) ∙ length-set old.cpu.cpus c (Some (f r)) ∙ seats.each_cpu;
  share = subst (λ (s : share.Seats). share.IsSeatOf kit.shares s) (sym only.share) seats.share;
  est = subst (λ (s : est.Seats). est.IsPassOf kit.published s) (sym only.est) seats.est;
  each_context = ap (λ (s : est.Seats). length s.known) only.est ∙ seats.each_context;
  queue = subst (λ (s : queue.Seats). queue.IsPassOf kit.queues s) (sym only.queue) seats.queue;
  each_device = ap (λ (s : queue.Seats). length s.known) only.queue ∙ seats.each_device;
}
