-- The waiting lists that the audit keeps: a wheel for each flusher, of which those of the CPU's flushers whose part is read hold their lists.
use Rattle.std.specs.Prelude.{◌≡◌, ◌≢◌, ℕ, ◌<◌, Bool, true, ◌&&◌, ◌==◌, nat_lt, List, [], ◌∷◌, length, get_or}
use Rattle.wbt_expiry.specs.Waiting.{Waiting}
use Rattle.wbt_expiry.specs.declared.due.Due.{Due}
use Rattle.wbt_rules.specs.Age.{is_ageing}
use Rattle.wbt_rules.specs.Things.{device_of, flusher_device}
use Rattle.wbt_trace.specs.declared.trace.Trace.{Trace}
use Rattle.wbt_journal.specs.Effects.{WaitMove}
use Rattle.wbt_journal.specs.Flights.{is_own_flusher}
use Rattle.wbt_journal.specs.Items.{Item, begins, tells}
use Rattle.wbt_journal.specs.Waits.{list_of, may_wait, waited}
use Rattle.wbt_audit_turns.specs.declared.waits.Lists.{Lists}

-- the wheel of a flusher that isn't there
abbrev pub no_wheel : Waiting
no_wheel = record { pairs = []; told = 0; inodes = 0 }

-- the wheel of a flusher by its number
abbrev pub wheel_at : (wheels : List Waiting) (flusher : ℕ) → Waiting
wheel_at wheels flusher = get_or wheels flusher no_wheel

-- a wheel of no waiting inode
abbrev pub emptied : (wheel : Waiting) → Waiting
emptied wheel = record { pairs = []; told = wheel.told; inodes = wheel.inodes }

-- a wheel for each flusher, which holds the inodes of the trace
pub record AreWheelsOf (trace : Trace) (wheels : List Waiting) : Type 0 where
  pub long : length wheels ≡ length trace.flushers
  pub inodes : (flusher : ℕ) → flusher < length trace.flushers → (wheel_at wheels flusher).inodes ≡ length trace.inodes

-- whether each flusher's device is ageing
pub record AreAgeing (trace : Trace) (ageing : List Bool) : Type 0 where
  pub long : length ageing ≡ length trace.flushers
  pub each : (flusher : ℕ) → flusher < length trace.flushers → get_or ageing flusher true ≡ is_ageing trace (flusher_device trace flusher)

-- the audit has a wheel for each flusher, and whether its device is ageing
pub record AreListsOf (trace : Trace) (lists : Lists) : Type 0 where
  pub wheels : AreWheelsOf trace lists.wheels.items
  pub ageing : AreAgeing trace lists.ageing.items

-- the wheels of the CPU's flushers hold their lists
pub record Keep (trace : Trace) (cpu : ℕ) (wheels : List Waiting) (lists : List (List Due)) : Type 0 where
  pub long : length lists ≡ length trace.flushers
  pub each : (flusher : ℕ) → is_own_flusher trace cpu flusher ≡ true → (wheel_at wheels flusher).pairs ≡ list_of lists flusher

-- an inode of the flusher's device, which is ageing
abbrev pub may_be_noticed : (trace : Trace) (flusher inode : ℕ) → Bool
may_be_noticed trace flusher inode =
    nat_lt inode (length trace.inodes) && (device_of trace inode == flusher_device trace flusher && is_ageing trace (flusher_device trace flusher))

-- a flusher's move is answered by whether it may come, and then its wheel alone moves
pub record Moved (trace : Trace) (flusher : ℕ) (move : WaitMove) (may : Bool) (old new : List Waiting) : Type 0 where
  pub answer : may ≡ may_wait trace flusher move (wheel_at old flusher).pairs
  pub moves : may ≡ true → (wheel_at new flusher).pairs ≡ waited trace move (wheel_at old flusher).pairs
  pub others : (other : ℕ) → other ≢ flusher → wheel_at new other ≡ wheel_at old other
  pub wheels : AreWheelsOf trace new

-- ---- whose part is read

-- up to where a part begins all entries are of this CPU's
abbrev pub AreOf : (cpu : ℕ) (items : List Item) → Type 0
AreOf cpu [] = Unit {0}
AreOf cpu (begins of ∷ items) = AreOf of items
AreOf cpu (tells of entry ∷ items) = (of ≡ cpu) × AreOf cpu items

-- an item is of the CPU: its entry, or the beginning of any part
abbrev pub IsOf : (cpu : ℕ) (item : Item) → Type 0
IsOf cpu (begins of) = Unit {0}
IsOf cpu (tells of entry) = of ≡ cpu
