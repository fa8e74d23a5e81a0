-- That the gate was asked before each step by which the timer publishes, and said true.
use Rattle.std.specs.Prelude.{◌≡◌, ℕ, Bool, true, false, Some, List, [], ◌∷◌}
use Rattle.wbt_counter.specs.declared.counter.Counter.TheVariants.{Domain}
use Rattle.wbt_grant.specs.Kinds.{Step, count, unseal, thresh, publish}
use Rattle.wbt_grant.specs.Seats.{timer_after}
use Rattle.wbt_grant.specs.declared.record.TimerRecord.{TimerRecord}
use Rattle.wbt_grant.specs.declared.who.Who.TheVariants.{Timer}
use Rattle.wbt_kit.specs.Kit.{HasTimer}
use Rattle.wbt_kit.specs.declared.kit.Kit.{Kit}
use Rattle.wbt_kit.specs.declared.kit.Seats.{Seats}
use Rattle.wbt_table.specs.Calls.{Made, timer_of}
use Rattle.wbt_table.specs.History.{LogsSteps, timer_log_of}
use Rattle.wbt_table.specs.Layout.{setting}
use Rattle.wbt_table.specs.Seat.{Times}
use Rattle.wbt_table.specs.declared.rule.Logged.{Logged}

-- a step of a publication; the timer loads its counts and raises its peaks without a gate
abbrev pub is_publishing : (step : Step) → Bool
is_publishing (unseal d) = true
is_publishing (thresh d triple) = true
is_publishing (publish d triple) = true
is_publishing other = false

-- Of steps of the timer, the first first: before each one of a publication the gate was asked by just the steps that the timer had made, the
-- others among them, and said true. (A count of steps that has reached its type's end, 2^64 - 1, stands still there.)
abbrev pub AskedToPublish : (said : ℕ → Bool → Type 0) (made : List Made) (r : TimerRecord) → Type 0
AskedToPublish said [] r = Unit {0}
AskedToPublish said (m ∷ more) r = (is_publishing m.step ≡ true → said r.steps true) × AskedToPublish said more (timer_after m.step m.found r)

-- The timer made steps between the old seats and the new ones: they made its record what it is, and its log tells just them, each with what
-- then stood in its word. The gate was asked before each one of a publication.
pub record AskedBeforePublishing (kit : Kit) (said : ℕ → Bool → Type 0) (old new : Seats) : Type 0 where
  pub made : List Made
  pub became : (r : TimerRecord) → HasTimer r old → HasTimer (timer_of made r) new
  pub logged : (log : List Logged) → old.cpu.timer_log ≡ Some log
      → (log' : List Logged) × LogsSteps (setting kit.throttle.layout) timer_log_of made log log' × (new.cpu.timer_log ≡ Some log')
  pub asked : (r : TimerRecord) → HasTimer r old → AskedToPublish said made r

-- the timer loaded the count of a domain, which is one step, and made no other
abbrev pub LoadsCount : (kit : Kit) (domain : ℕ) (old new : Seats) → Type 0
LoadsCount kit domain old new = (n : ℕ) × Times (setting kit.throttle.layout) (count Timer (Domain domain)) n old.cpu new.cpu
