-- The seats of a kit in parts: one for each CPU, with what is left, which has the timer.
use Rattle.std.specs.Prelude.{◌-◌, ◌≡◌, ◌≢◌, ℕ, zero, suc, ◌+◌, ◌*◌, ◌^◌, ◌<◌, ◌≤◌, List, [], ◌∷◌, ◌++◌, length, map, get_or, replicate, slice_index_or, None}
use mathlib.Core.Option.{some}
use lib.ListN.{get_elem?}
use Rattle.wbt_fraction.specs.Several.{left_of, right_of, total_left, total_right, room_in, stakes_in, no_seat, Seats as ShareSeats}
use Rattle.wbt_fraction.specs.Totals.{room_of}
use Rattle.wbt_fraction.specs.declared.domain.note.Note.{Note}
use Rattle.wbt_grant.specs.declared.record.CpuRecord.{CpuRecord}
use Rattle.wbt_published.specs.Known.{reader, with_right, without_right}
use Rattle.wbt_published.specs.Passes.{all_left, all_handed, known_of}
use Rattle.wbt_queue.specs.Known.{accompanied, newcomer, nothing}
use Rattle.wbt_queue.specs.Passes as queue
use Rattle.wbt_queue.specs.declared.known.Known.{Known as Queued}
use Rattle.wbt_table.specs.Calls.{left_seat, right_seat}
use Rattle.wbt_table.specs.Rule.{HasLog, Logs}
use Rattle.wbt_table.specs.declared.rule.Logged.{Logged}
use Rattle.wbt_kit.specs.Kit.{AreSeatsOf, HasCpu}
use Rattle.wbt_kit.specs.declared.kit.Kit.{Kit}
use Rattle.wbt_kit.specs.declared.kit.Seats.{Seats}

-- ---- what is read of seats

-- what was noted of a domain's shares, the newest first
abbrev pub noted : (share : ShareSeats) (domain : ℕ) → List Note
noted share domain = (slice_index_or share.domains domain no_seat).notes

-- the CPU that publishes for a context
abbrev pub owner_of : (kit : Kit) (context : ℕ) → ℕ
owner_of kit context = get_or kit.owners context 0

-- ---- one CPU goes

-- the seats without the CPU
abbrev pub without : (kit : Kit) (cpu : ℕ) (seats : Seats) → Seats
without kit cpu seats = record {
  cpu = left_seat cpu seats.cpu;
  share = record { domains = map left_of seats.share.domains; totals = total_left seats.share.totals };
  est = record seats.est { known = all_left kit.owners cpu seats.est.known };
  queue = record seats.queue { known = map accompanied seats.queue.known };
}

-- the CPU's own
abbrev pub own_of : (kit : Kit) (cpu : ℕ) (seats : Seats) → Seats
own_of kit cpu seats = record {
  cpu = right_seat cpu seats.cpu;
  share = record { domains = map right_of seats.share.domains; totals = total_right seats.share.totals };
  est = record seats.est { known = all_handed kit.owners cpu seats.est.known };
  queue = record seats.queue { known = map newcomer seats.queue.known };
}

-- the seats without the first so many CPUs, and these CPUs' own in order
abbrev pub rest_of : (kit : Kit) (count : ℕ) (seats : Seats) → Seats
rest_of kit zero seats = seats
rest_of kit (suc n) seats = without kit n (rest_of kit n seats)

-- the own seats of the first so many CPUs, in order
abbrev pub parts_of : (kit : Kit) (count : ℕ) (seats : Seats) → List Seats
parts_of kit zero seats = []
parts_of kit (suc n) seats = parts_of kit n seats ++ own_of kit n (rest_of kit n seats) ∷ []

-- ---- what the parts have

-- what a pass knows of a device's queue, with so many stakes less
abbrev pub with_fewer : (count : ℕ) (known : Queued) → Queued
with_fewer count known = record known { stakes = known.stakes - count }

-- they hold this CPU, and no other
pub record HoldsOnly (cpu : ℕ) (seats : Seats) : Type 0 where
  pub held : (r : CpuRecord) × HasCpu cpu r seats
  pub alone : (c : ℕ) (r : CpuRecord) → HasCpu c r seats → c ≡ cpu
  pub no_timer : seats.cpu.timer ≡ None

-- there is a place for the CPU's log, and it is empty
abbrev pub HasNoLog : (cpu : ℕ) (logs : Logs) → Type 0
HasNoLog cpu logs = get_elem? logs cpu ≡ some None

-- the part of a CPU: its record and its log as they were and no other, one stake and 2^33 of each room, no notes, and the right to publish
-- for the contexts that the CPU owns; and of each queue a stake, where the seats before it left two or more
pub record IsPart (kit : Kit) (cpu : ℕ) (old part : Seats) : Type 0 where
  pub seats_are : AreSeatsOf kit part
  pub holds : HoldsOnly cpu part
  pub same : (r : CpuRecord) → HasCpu cpu r old → HasCpu cpu r part
  pub log : (log : List Logged) → HasLog old.cpu.logs cpu log → HasLog part.cpu.logs cpu log
  pub no_log : (c : ℕ) (log : List Logged) → c ≢ cpu → HasLog old.cpu.logs c log → HasNoLog c part.cpu.logs
  pub no_timer_log : part.cpu.timer_log ≡ None
  pub nothing_noted : (domain : ℕ) → noted part.share domain ≡ []
  pub nothing_counted : part.share.totals.notes ≡ []
  pub stakes : (domain : ℕ) → domain < length kit.shares.domains → stakes_in domain part.share.domains ≡ 1
  pub rooms : (domain : ℕ) → domain < length kit.shares.domains → room_in domain part.share.domains ≡ 2 ^ 33
  pub total_stakes : part.share.totals.stakes ≡ 1
  pub totals : (context : ℕ) → context < kit.shares.totals.contexts → room_of context part.share.totals.rooms ≡ 2 ^ 33
  pub owned : (context : ℕ) → context < length kit.published.names → owner_of kit context ≡ cpu → known_of context part.est ≡ with_right (known_of context old.est)
  pub others : (context : ℕ) → context < length kit.published.names → owner_of kit context ≢ cpu → known_of context part.est ≡ reader (known_of context old.est)
  pub queues : (device : ℕ) → device < length kit.queues.sizes → queue.known_of device part.queue ≡ newcomer (with_fewer cpu (queue.known_of device old.queue))

-- one for each CPU in order
pub record AreParts (kit : Kit) (cpus : ℕ) (old : Seats) (parts : List Seats) : Type 0 where
  pub many : length parts ≡ cpus
  pub each : (cpu : ℕ) (other : Seats) → cpu < cpus → IsPart kit cpu old (get_or parts cpu other)

-- what is left where the first so many CPUs went: the other records and logs, the notes, the other stakes, of queues too, the rest of each
-- room, and the right to publish for contexts that other CPUs own
pub record IsLeft (kit : Kit) (cpus : ℕ) (old left : Seats) : Type 0 where
  pub seats_are : AreSeatsOf kit left
  pub gone : (c : ℕ) (r : CpuRecord) → c < cpus → HasCpu c r left → ⊥
  pub stayed : (c : ℕ) (r : CpuRecord) → cpus ≤ c → HasCpu c r old → HasCpu c r left
  pub logs_gone : (c : ℕ) (log : List Logged) → c < cpus → HasLog old.cpu.logs c log → HasNoLog c left.cpu.logs
  pub logs_stayed : (c : ℕ) (log : List Logged) → cpus ≤ c → HasLog old.cpu.logs c log → HasLog left.cpu.logs c log
  pub timer : left.cpu.timer ≡ old.cpu.timer
  pub timer_log : left.cpu.timer_log ≡ old.cpu.timer_log
  pub notes : (domain : ℕ) → noted left.share domain ≡ noted old.share domain
  pub counted : left.share.totals.notes ≡ old.share.totals.notes
  pub stakes : (domain : ℕ) → domain < length kit.shares.domains → stakes_in domain left.share.domains + cpus ≡ stakes_in domain old.share.domains
  pub rooms : (domain : ℕ) → domain < length kit.shares.domains → room_in domain left.share.domains + cpus * 2 ^ 33 ≡ room_in domain old.share.domains
  pub total_stakes : left.share.totals.stakes + cpus ≡ old.share.totals.stakes
  pub totals : (context : ℕ) → context < kit.shares.totals.contexts → room_of context left.share.totals.rooms + cpus * 2 ^ 33 ≡ room_of context old.share.totals.rooms
  pub owned : (context : ℕ) → context < length kit.published.names → owner_of kit context < cpus → known_of context left.est ≡ without_right (known_of context old.est)
  pub others : (context : ℕ) → context < length kit.published.names → cpus ≤ owner_of kit context → known_of context left.est ≡ known_of context old.est
  pub queues : (device : ℕ) → device < length kit.queues.sizes → (queue.known_of device left.queue).stakes ≡ (queue.known_of device old.queue).stakes - cpus

-- ---- where memory was refused

-- what a pass to the queues put and took is what it was; some passes came from it and came back, which put and took nothing
pub record IsSameQueue (old new : queue.Seats) : Type 0 where
  pub names : new.names ≡ old.names
  pub many : length new.known ≡ length old.known
  pub own : (device : ℕ) → (queue.known_of device new).own ≡ (queue.known_of device old).own
  pub joined : (device : ℕ) → (count : ℕ) × ((queue.known_of device new).joined ≡ (queue.known_of device old).joined ++ replicate count nothing)

-- the seats are as they were
pub record AreBack (old new : Seats) : Type 0 where
  pub cpu : new.cpu ≡ old.cpu
  pub share : new.share ≡ old.share
  pub est : new.est ≡ old.est
  pub queue : IsSameQueue old.queue new.queue
