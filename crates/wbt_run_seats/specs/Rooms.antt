-- Rooms of seats that come together.
use Rattle.std.specs.Prelude.{◌≡◌, ℕ, ◌+◌, ◌*◌, ◌^◌, ◌<◌, ◌≤◌, List, length, get_or}
use Rattle.wbt_counter.specs.Sums.{total}
use Rattle.wbt_fraction.specs.Several.{room_in}
use Rattle.wbt_fraction.specs.Totals.{room_of}
use Rattle.wbt_grant.specs.declared.record.CpuRecord.{CpuRecord}
use Rattle.wbt_table.specs.Calls.{joined_seat}
use Rattle.wbt_kit.specs.Kit.{AreSeatsOf, HasCpu}
use Rattle.wbt_kit.specs.declared.kit.Kit.{Kit}
use Rattle.wbt_kit.specs.declared.kit.Seats.{Seats}
use Rattle.wbt_flusher.specs.Did.{AreCounted, HasRooms}
use Rattle.wbt_flusher.specs.Sights.{all_completions, held_cpus, owing, owing_total}
use Rattle.wbt_flusher.specs.declared.plan.FlusherPlan.{FlusherPlan}
use Rattle.wbt_flusher.specs.declared.work.FlusherWork.{FlusherWork}
use Rattle.wbt_run_seats.specs.Together.{AreTogether, InOrder, HoldsNone}

-- 2^33 of each room for each CPU is backed by rooms and completions, beside what is owed
pub record AreBacked (domains contexts : ℕ) (owed owed_totals : ℕ → ℕ) (seats : Seats) : Type 0 where
  pub counted : AreCounted seats.cpu.cpus
  pub rooms : (domain : ℕ) → domain < domains
      → owed domain + held_cpus seats.cpu.cpus * 2 ^ 33 ≤ room_in domain seats.share.domains + all_completions seats.cpu.cpus
  pub totals : (context : ℕ) → context < contexts
      → owed_totals context + held_cpus seats.cpu.cpus * 2 ^ 33 ≤ room_of context seats.share.totals.rooms + all_completions seats.cpu.cpus

-- so a flusher that owes no more has rooms
abbrev pub BackedHasRooms : Type 0
BackedHasRooms = (plan : FlusherPlan) (work : FlusherWork) (owed owed_totals : ℕ → ℕ) (seats : Seats) → AreBacked plan.domains (length plan.contexts) owed owed_totals seats
    → ((domain : ℕ) → domain < plan.domains → owing plan domain work ≤ owed domain)
    → ((context : ℕ) → context < length plan.contexts → owing_total plan context work ≤ owed_totals context) → HasRooms plan work seats

-- seats that take in those of other CPUs are backed for all
abbrev pub TogetherAreBacked : Type 0
TogetherAreBacked = (kit : Kit) (domains contexts cpus : ℕ) (owed owed_totals : (cpu : ℕ) → ℕ → ℕ) (old_owed old_totals : ℕ → ℕ) (old new : Seats) (parts : List Seats)
    → AreTogether kit old parts new → AreSeatsOf kit old → ((n : ℕ) (other : Seats) → n < length parts → AreSeatsOf kit (get_or parts n other))
    → InOrder cpus parts → HoldsNone cpus old → AreBacked domains contexts old_owed old_totals old
    → ((n : ℕ) (other : Seats) → n < length parts → AreBacked domains contexts (owed n) (owed_totals n) (get_or parts n other))
    → AreBacked domains contexts (λ domain. old_owed domain + total (length parts) (λ n. owed n domain)) (λ context. old_totals context + total (length parts) (λ n. owed_totals n context)) new

-- and so are seats that hold no CPU, where they get the records of these with their rooms
abbrev pub TakenAreBacked : Type 0
TakenAreBacked = (kit : Kit) (domains contexts : ℕ) (owed owed_totals : ℕ → ℕ) (old from new : Seats) → AreSeatsOf kit old → AreSeatsOf kit from
    → ((c : ℕ) (r : CpuRecord) → HasCpu c r old → ⊥) → AreBacked domains contexts owed owed_totals from
    → new.cpu ≡ joined_seat old.cpu from.cpu → new.share ≡ from.share → AreBacked domains contexts owed owed_totals new
