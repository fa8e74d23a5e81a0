-- A kit and the seats at it, as contracts see them.
use Rattle.std.specs.Prelude.{◌≡◌, ◌≢◌, ℕ, ◌+◌, ◌^◌, ◌<◌, Some, [], map, length, replicate}
use Rattle.wbt_trace.specs.declared.trace.Trace.{Trace}
use Rattle.wbt_grant.specs.declared.record.CpuRecord.{CpuRecord}
use Rattle.wbt_grant.specs.declared.record.TimerRecord.{TimerRecord}
use Rattle.wbt_journal.specs.Machine.{domains, contexts}
use Rattle.wbt_table.specs.Calls.{IsFirst, left_seat, right_seat, joined_seat}
use Rattle.wbt_table.specs.Rule.{Has}
use Rattle.wbt_table.specs.Seat.{Seated, IsAt, IsHeld}
use Rattle.wbt_fraction.specs.Several.{IsSeatOf, AllFirst, HasRoom, HasTotalRoom, CanSplit, IsParted, AllJoined, IsTotalJoined, AreAdded, left_of, right_of, total_left, total_right, Seats as ShareSeats}
use Rattle.wbt_fraction.specs.Totals.{room_of}
use Rattle.wbt_published.specs.Known.{opening}
use Rattle.wbt_published.specs.Passes.{IsPassOf, all_left, all_handed, all_joined, Seats as EstPass}
use Rattle.wbt_queue.specs.Known.{accompanied, newcomer, opening as empty}
use Rattle.wbt_queue.specs.Passes.{IsPassOf as IsPassOfQueues, all_joined as all_parts, Seats as QueuePass}
use Rattle.wbt_rules.specs.First.{first_estimates}
use Rattle.wbt_kit.specs.Opening.{layout_of, homes_of, owners_of, queue_sizes}
use Rattle.wbt_kit.specs.declared.kit.Kit.{Kit}
use Rattle.wbt_kit.specs.declared.kit.Seats.{Seats}

-- ---- the kit

-- an owner for each context that has an estimate
abbrev pub HasOwners : (kit : Kit) → Type 0
HasOwners kit = length kit.owners ≡ length kit.published.names

-- the kit of a trace whose opening was at the moment `now`
pub record IsKitOf (trace : Trace) (now : ℕ) (kit : Kit) : Type 0 where
  pub layout : kit.throttle.layout ≡ layout_of trace now
  pub domains_are : length kit.shares.domains ≡ domains trace
  pub homes : kit.shares.homes ≡ homes_of trace
  pub moment : kit.published.moment ≡ now
  pub firsts : kit.published.firsts ≡ first_estimates trace now
  pub contexts_are : length kit.published.names ≡ contexts trace
  pub sizes : kit.queues.sizes ≡ queue_sizes trace
  pub owners : kit.owners ≡ owners_of trace

-- ---- seats

-- these are seats at the kit
pub record AreSeatsOf (kit : Kit) (seats : Seats) : Type 0 where
  pub cpu : IsAt kit.throttle seats.cpu
  pub each_cpu : length seats.cpu.cpus ≡ kit.throttle.layout.cpus
  pub share : IsSeatOf kit.shares seats.share
  pub est : IsPassOf kit.published seats.est
  pub each_context : length seats.est.known ≡ length kit.published.names
  pub queue : IsPassOfQueues kit.queues seats.queue
  pub each_device : length seats.queue.known ≡ length kit.queues.sizes

-- they hold the CPU, or the timer, with this record
abbrev pub HasCpu : (cpu : ℕ) (r : CpuRecord) (seats : Seats) → Type 0
HasCpu cpu r seats = Has seats.cpu.cpus cpu r

-- they hold the timer with this record
abbrev pub HasTimer : (r : TimerRecord) (seats : Seats) → Type 0
HasTimer r seats = seats.cpu.timer ≡ Some r

-- they hold the CPU of this number, or the timer, whose number comes after the last CPU's
abbrev pub IsHeldBy : (seats : Seats) (cpu : ℕ) → Type 0
IsHeldBy seats cpu = IsHeld seats.cpu cpu

-- the seats of `make`: every CPU and the timer, of which none has done anything, all stakes and rooms, and the right to publish for
-- each context
pub record AreFirst (kit : Kit) (seats : Seats) : Type 0 where
  pub cpu : IsFirst seats.cpu
  pub shares : AllFirst seats.share.domains
  pub totals : (seats.share.totals.notes ≡ []) × (seats.share.totals.stakes ≡ 2 ^ 32)
  pub rooms : (context : ℕ) → context < length kit.shares.homes → room_of context seats.share.totals.rooms ≡ 2 ^ 39
  pub est : seats.est.known ≡ replicate (length kit.published.names) opening
  pub queue : seats.queue.known ≡ map (λ _. empty) kit.queues.sizes
  pub shares_room : HasRoom seats.share.domains × HasTotalRoom kit.shares.totals seats.share.totals
  -- they can be split for each of 64 CPUs
  pub splits : CanSplit 64 kit.shares seats.share

-- ---- split: what the old seat was, what is left of it, and the new one

-- the CPU, or the timer, whose number comes after the last CPU's, has gone with its record; the others have stayed with theirs
pub record CpusSplit (cpu : ℕ) (old left new : Seated) : Type 0 where
  pub left_is : left ≡ left_seat cpu old
  pub new_is : new ≡ right_seat cpu old
  pub gone : (r : CpuRecord) → Has old.cpus cpu r → Has new.cpus cpu r
  pub timer_gone : cpu ≡ old.layout.cpus → new.timer ≡ old.timer
  pub others : (n : ℕ) (r : CpuRecord) → n ≢ cpu → Has old.cpus n r → Has left.cpus n r
  pub timer_stayed : cpu ≢ old.layout.cpus → left.timer ≡ old.timer

-- one stake and 2^33 of each room, and none of the notes
pub record SharesSplit (kit : Kit) (old left new : ShareSeats) : Type 0 where
  pub seats : IsSeatOf kit.shares left × IsSeatOf kit.shares new
  pub left_is : left ≡ record { domains = map left_of old.domains; totals = total_left old.totals }
  pub new_is : new ≡ record { domains = map right_of old.domains; totals = total_right old.totals }
  pub parted : IsParted kit.shares old left new
  -- what could be split some times can be split once less
  pub splits : (more : ℕ) → CanSplit (more + 1) kit.shares old → CanSplit more kit.shares left

-- the right to publish for each context that the CPU owns, where the old pass had it; and a pass to the queues that knows nothing and
-- has a stake of each
pub record PassesSplit (kit : Kit) (cpu : ℕ) (old left new : EstPass) (queue queue_left queue_new : QueuePass) : Type 0 where
  pub left_is : left ≡ record old { known = all_left kit.owners cpu old.known }
  pub new_is : new ≡ record old { known = all_handed kit.owners cpu old.known }
  pub queue_left_is : queue_left ≡ record queue { known = map accompanied queue.known }
  pub queue_new_is : queue_new ≡ record queue { known = map newcomer queue.known }

-- ---- join

-- the seats after a join have what both had: the records, all notes, stakes and rooms, all rights, and each part of puts and takes
pub record AreJoined (old from new : Seats) : Type 0 where
  pub cpu : new.cpu ≡ joined_seat old.cpu from.cpu
  pub came : (n : ℕ) (r : CpuRecord) → Has from.cpu.cpus n r → Has new.cpu.cpus n r
  pub others : (n : ℕ) (r : CpuRecord) → ((q : CpuRecord) → Has from.cpu.cpus n q → ⊥) → Has old.cpu.cpus n r → Has new.cpu.cpus n r
  pub shares : AllJoined old.share.domains from.share.domains new.share.domains
  pub totals : IsTotalJoined old.share.totals from.share.totals new.share.totals
  pub added : AreAdded old.share from.share new.share
  pub est : new.est ≡ record old.est { known = all_joined old.est.known from.est.known }
  pub queue : new.queue ≡ record old.queue { known = all_parts old.queue.known from.queue.known }
