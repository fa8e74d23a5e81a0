-- Seats after a split and after a join are seats at the kit.
use Rattle.std.proofs.Common.{◌≡◌, ℕ, Bool, true, false, cond, eqb, None, length, map, replicate, refl, ap, sym, ◌∙◌}
use Rattle.std.proofs.lemmas.List.{length-map}
use Rattle.wbt_kit.proofs.Common.{IsSeatOf, all_left, all_handed, all_joined, accompanied, newcomer, left_seat, right_seat, joined_seat, Seated, without_cpu, apart, Layout, length-merged, AreSeatsOf, HasOwners}
use Rattle.wbt_fraction.specs.Several.{Seats as ShareSeats}
use Rattle.wbt_published.specs.Passes.{Seats as EstPass}
use Rattle.wbt_queue.specs.Passes.{all_joined as all_parts, Seats as QueuePass}
use Rattle.wbt_kit.specs.declared.kit.Kit.{Kit}
use Rattle.wbt_kit.specs.declared.kit.Seats.{Seats}
use Rattle.wbt_kit.proofs.Joining as cpus
use Rattle.wbt_kit.proofs.Lengths as passes

-- a place for each CPU of its layout
pub own_cpus : (kit : Kit) (seats : Seats) → AreSeatsOf kit seats → length seats.cpu.cpus ≡ seats.cpu.layout.cpus
own_cpus kit seats are = are.each_cpu ∙ sym (ap (λ (l : Layout). l.cpus) are.cpu.layout)

left_at : (n : ℕ) (s : Seated) → (left_seat n s).table ≡ s.table
left_at n s = by (eqb n s.layout.cpus)
  where
    by : (b : Bool) → (cond b (record s { timer = None; timer_log = None }) (record s { cpus = without_cpu n s.cpus; logs = without_cpu n s.logs })).table ≡ s.table
    by true = refl
    by false = refl

left_of : (n : ℕ) (s : Seated) → (left_seat n s).layout ≡ s.layout
left_of n s = by (eqb n s.layout.cpus)
  where
    by : (b : Bool) → (cond b (record s { timer = None; timer_log = None }) (record s { cpus = without_cpu n s.cpus; logs = without_cpu n s.logs })).layout ≡ s.layout
    by true = refl
    by false = refl

right_at : (n : ℕ) (s : Seated) → (right_seat n s).table ≡ s.table
right_at n s = by (eqb n s.layout.cpus)
  where
    by : (b : Bool) → (cond b (record s { cpus = replicate (length s.cpus) None; logs = replicate (length s.logs) None }) (record s { cpus = apart n s.cpus; timer = None; logs = apart n s.logs; timer_log = None })).table ≡ s.table
    by true = refl
    by false = refl

right_of : (n : ℕ) (s : Seated) → (right_seat n s).layout ≡ s.layout
right_of n s = by (eqb n s.layout.cpus)
  where
    by : (b : Bool) → (cond b (record s { cpus = replicate (length s.cpus) None; logs = replicate (length s.logs) None }) (record s { cpus = apart n s.cpus; timer = None; logs = apart n s.logs; timer_log = None })).layout ≡ s.layout
    by true = refl
    by false = refl

module _ (kit : Kit) (n : ℕ) (old : Seats) (are : AreSeatsOf kit old) (owners : HasOwners kit) where
  long : length kit.owners ≡ length old.est.known
  long = owners ∙ sym are.each_context

  pub seats_left : (cpu : Seated) (share : ShareSeats) (est : EstPass) (queue : QueuePass) → cpu ≡ left_seat n old.cpu → IsSeatOf kit.shares share
      → est ≡ record old.est { known = all_left kit.owners n old.est.known } → queue ≡ record old.queue { known = map accompanied old.queue.known }
      → AreSeatsOf kit (record { cpu = cpu; share = share; est = est; queue = queue })
  seats_left cpu share est queue e its f q = record {
    cpu = record { table = ap (λ (s : Seated). s.table) e ∙ left_at n old.cpu ∙ are.cpu.table; layout = ap (λ (s : Seated). s.layout) e ∙ left_of n old.cpu ∙ are.cpu.layout };
    each_cpu = ap (λ (s : Seated). length s.cpus) e ∙ cpus.left_long n old.cpu ∙ are.each_cpu;
    share = its;
    est = ap (λ (p : EstPass). p.names) f ∙ are.est;
    each_context = ap (λ (p : EstPass). length p.known) f ∙ passes.left_long kit.owners n old.est.known long ∙ are.each_context;
    queue = ap (λ (p : QueuePass). p.names) q ∙ are.queue;
    each_device = ap (λ (p : QueuePass). length p.known) q ∙ length-map old.queue.known accompanied ∙ are.each_device;
  }

  pub seats_right : (cpu : Seated) (share : ShareSeats) (est : EstPass) (queue : QueuePass) → cpu ≡ right_seat n old.cpu → IsSeatOf kit.shares share
      → est ≡ record old.est { known = all_handed kit.owners n old.est.known } → queue ≡ record old.queue { known = map newcomer old.queue.known }
      → AreSeatsOf kit (record { cpu = cpu; share = share; est = est; queue = queue })
  seats_right cpu share est queue e its f q = record {
    cpu = record { table = ap (λ (s : Seated). s.table) e ∙ right_at n old.cpu ∙ are.cpu.table; layout = ap (λ (s : Seated). s.layout) e ∙ right_of n old.cpu ∙ are.cpu.layout };
    each_cpu = ap (λ (s : Seated). length s.cpus) e ∙ cpus.right_long n old.cpu ∙ are.each_cpu;
    share = its;
    est = ap (λ (p : EstPass). p.names) f ∙ are.est;
    each_context = ap (λ (p : EstPass). length p.known) f ∙ passes.handed_long kit.owners n old.est.known long ∙ are.each_context;
    queue = ap (λ (p : QueuePass). p.names) q ∙ are.queue;
    each_device = ap (λ (p : QueuePass). length p.known) q ∙ length-map old.queue.known newcomer ∙ are.each_device;
  }

module _ (kit : Kit) (a b : Seats) (one : AreSeatsOf kit a) (two : AreSeatsOf kit b) where
  pub as_long : length a.cpu.cpus ≡ length b.cpu.cpus
  as_long = one.each_cpu ∙ sym two.each_cpu

  pub seats_joined : (cpu : Seated) (share : ShareSeats) (est : EstPass) (queue : QueuePass) → cpu ≡ joined_seat a.cpu b.cpu → IsSeatOf kit.shares share
      → est ≡ record a.est { known = all_joined a.est.known b.est.known } → queue ≡ record a.queue { known = all_parts a.queue.known b.queue.known }
      → AreSeatsOf kit (record { cpu = cpu; share = share; est = est; queue = queue })
  seats_joined cpu share est queue e its f q = record {
    cpu = record { table = ap (λ (s : Seated). s.table) e ∙ one.cpu.table; layout = ap (λ (s : Seated). s.layout) e ∙ one.cpu.layout };
    each_cpu = ap (λ (s : Seated). length s.cpus) e ∙ length-merged a.cpu.cpus b.cpu.cpus ∙ one.each_cpu;
    share = its;
    est = ap (λ (p : EstPass). p.names) f ∙ one.est;
    each_context = ap (λ (p : EstPass). length p.known) f ∙ passes.joined_long a.est.known b.est.known (one.each_context ∙ sym two.each_context) ∙ one.each_context;
    queue = ap (λ (p : QueuePass). p.names) q ∙ one.queue;
    each_device = ap (λ (p : QueuePass). length p.known) q ∙ passes.parts_long a.queue.known b.queue.known ∙ one.each_device;
  }
