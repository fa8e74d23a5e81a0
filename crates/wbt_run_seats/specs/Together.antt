-- Seats that were brought together: what they have is what all had.
use Rattle.std.specs.Prelude.{◌≡◌, ◌≢◌, ℕ, suc, ◌+◌, ◌^◌, ◌<◌, List, [], ◌∷◌, ◌++◌, length, get_or, sum_by}
use Rattle.wbt_fraction.specs.Notes.{IsComplete}
use Rattle.wbt_fraction.specs.Several.{room_in, stakes_in}
use Rattle.wbt_fraction.specs.Totals.{room_of, HasEachTally}
use Rattle.wbt_fraction.specs.declared.domain.note.Note.{Note}
use Rattle.wbt_fraction.specs.declared.total.note.TotalNote.{TotalNote}
use Rattle.wbt_grant.specs.declared.record.CpuRecord.{CpuRecord}
use Rattle.wbt_published.specs.Known.{knows_both}
use Rattle.wbt_published.specs.Passes.{known_of}
use Rattle.wbt_published.specs.declared.known.Known.{Known}
use Rattle.wbt_queue.specs.Known as part
use Rattle.wbt_queue.specs.Passes as queue
use Rattle.wbt_queue.specs.declared.known.Known as declared
use Rattle.wbt_table.specs.Calls.{joined_seat}
use Rattle.wbt_table.specs.Seat.{Seated}
use Rattle.wbt_kit.specs.Kit.{AreSeatsOf, AreJoined, HasCpu}
use Rattle.wbt_kit.specs.declared.kit.Kit.{Kit}
use Rattle.wbt_kit.specs.declared.kit.Seats.{Seats}
use Rattle.wbt_run_seats.specs.Parts.{noted, HoldsOnly}

-- ---- what one list of seats has, one after the other taken in

-- the table seats, with those of these taken in
abbrev pub cpus_with : (parts : List Seats) (cpu : Seated) → Seated
cpus_with [] cpu = cpu
cpus_with (part ∷ more) cpu = cpus_with more (joined_seat cpu part.cpu)

-- the notes of a domain, those of the last seats first
abbrev pub notes_with : (domain : ℕ) (parts : List Seats) (notes : List Note) → List Note
notes_with domain [] notes = notes
notes_with domain (part ∷ more) notes = notes_with domain more (noted part.share domain ++ notes)

-- the notes of written totals, those of the last seats first
abbrev pub tallies_with : (parts : List Seats) (notes : List TotalNote) → List TotalNote
tallies_with [] notes = notes
tallies_with (part ∷ more) notes = tallies_with more (part.share.totals.notes ++ notes)

-- what is known of a context's estimates
abbrev pub known_with : (context : ℕ) (parts : List Seats) (known : Known) → Known
known_with context [] known = known
known_with context (part ∷ more) known = known_with context more (knows_both known (known_of context part.est))

-- what is known of a device's queue
abbrev pub queue_with : (device : ℕ) (parts : List Seats) (known : declared.Known) → declared.Known
queue_with device [] known = known
queue_with device (one ∷ more) known = queue_with device more (part.knows_both known (queue.known_of device one.queue))

-- the notes are all that were ever made, where the seats have all stakes
abbrev pub AreComplete : (kit : Kit) (seats : Seats) → Type 0
AreComplete kit seats = (domain : ℕ) → domain < length kit.shares.domains → stakes_in domain seats.share.domains ≡ 2 ^ 32 → IsComplete (noted seats.share domain)

-- Seats that took in these, one after the other: the records of all, and all notes, stakes, rooms, rights, puts and takes. After a join
-- notes are complete.
pub record AreTogether (kit : Kit) (old : Seats) (parts : List Seats) (new : Seats) : Type 0 where
  pub seats_are : AreSeatsOf kit new
  pub cpu : new.cpu ≡ cpus_with parts old.cpu
  pub notes : (domain : ℕ) → noted new.share domain ≡ notes_with domain parts (noted old.share domain)
  pub stakes : (domain : ℕ) → stakes_in domain new.share.domains ≡ stakes_in domain old.share.domains + sum_by (λ (part : Seats). stakes_in domain part.share.domains) parts
  pub rooms : (domain : ℕ) → room_in domain new.share.domains ≡ room_in domain old.share.domains + sum_by (λ (part : Seats). room_in domain part.share.domains) parts
  pub counted : new.share.totals.notes ≡ tallies_with parts old.share.totals.notes
  pub total_stakes : new.share.totals.stakes ≡ old.share.totals.stakes + sum_by (λ (part : Seats). part.share.totals.stakes) parts
  pub totals : (context : ℕ) → room_of context new.share.totals.rooms ≡ room_of context old.share.totals.rooms + sum_by (λ (part : Seats). room_of context part.share.totals.rooms) parts
  pub known : (context : ℕ) → context < length kit.published.names → known_of context new.est ≡ known_with context parts (known_of context old.est)
  pub queues : (device : ℕ) → device < length kit.queues.sizes → queue.known_of device new.queue ≡ queue_with device parts (queue.known_of device old.queue)
  pub complete : parts ≢ [] → AreComplete kit new × HasEachTally new.share.totals

-- ---- whose records come together

-- seats of the CPUs from one on, each of that CPU alone
abbrev pub InOrder : (cpu : ℕ) (parts : List Seats) → Type 0
InOrder cpu [] = Unit {0}
InOrder cpu (part ∷ more) = HoldsOnly cpu part × InOrder (suc cpu) more

-- the seats hold none of the CPUs from one on
abbrev pub HoldsNone : (from : ℕ) (seats : Seats) → Type 0
HoldsNone from seats = (c : ℕ) (r : CpuRecord) → HasCpu c r seats → c < from

-- ---- laws

-- seats that took in nothing are together with nothing
abbrev pub TogetherAtFirst : Type 0
TogetherAtFirst = (kit : Kit) (seats : Seats) → AreSeatsOf kit seats → AreTogether kit seats [] seats

-- and a join brings one more
abbrev pub TogetherWithOneMore : Type 0
TogetherWithOneMore = (kit : Kit) (old mid from new : Seats) (parts : List Seats) → AreSeatsOf kit from → AreSeatsOf kit new
    → AreTogether kit old parts mid → AreJoined mid from new → AreTogether kit old (parts ++ from ∷ []) new

-- Seats of CPUs from one on, taken in by seats that hold none of these: what each held is held, and what was held before; and the
-- timer's record stays.
pub record HoldsAllOf (cpu : ℕ) (old : Seats) (parts : List Seats) (new : Seats) : Type 0 where
  pub came : (n : ℕ) (other : Seats) (r : CpuRecord) → n < length parts → HasCpu (cpu + n) r (get_or parts n other) → HasCpu (cpu + n) r new
  pub stayed : (c : ℕ) (r : CpuRecord) → HasCpu c r old → HasCpu c r new
  pub no_more : (c : ℕ) (r : CpuRecord) → HasCpu c r new → c < cpu + length parts
  pub timer : new.cpu.timer ≡ old.cpu.timer

-- the records of CPUs that come in order come together
abbrev pub RecordsComeTogether : Type 0
RecordsComeTogether = (kit : Kit) (cpu : ℕ) (old new : Seats) (parts : List Seats) → AreTogether kit old parts new → InOrder cpu parts → HoldsNone cpu old
    → ((part : Seats) (k : ℕ) → k < length parts → AreSeatsOf kit (get_or parts k part)) → AreSeatsOf kit old → HoldsAllOf cpu old parts new
