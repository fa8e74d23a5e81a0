-- What steps leave of the passes to the queues.
use Rattle.std.specs.Prelude.{◌≡◌, ◌≢◌, ℕ, ◌^◌, ◌<◌, List, ◌++◌, length}
use Rattle.wbt_queue.specs.Passes.{Rings, Seats, known_of}
use Rattle.wbt_queue.specs.declared.known.Known.{Known}

-- of each device's queue the pass has as many stakes as before
abbrev pub KeepsQueueStakes : (old new : Seats) → Type 0
KeepsQueueStakes old new = (device : ℕ) → (known_of device new).stakes ≡ (known_of device old).stakes

-- the pass itself put these numbers into a queue, after all that it had put before
pub record PutsMore (old new : Known) : Type 0 where
  pub puts : List ℕ
  pub after : new.own.puts ≡ old.own.puts ++ puts

-- so it has, and nothing but what it knows of one device's queue changed: it put numbers there after those that it had put, and took some
pub record OnlyDevice (device : ℕ) (old new : Seats) : Type 0 where
  pub stakes : KeepsQueueStakes old new
  pub others : (other : ℕ) → other ≢ device → known_of other new ≡ known_of other old
  pub puts : PutsMore (known_of device old) (known_of device new)

-- the pass has all stakes of each device's queue
abbrev pub HasAllStakes : (queues : Rings) (pass : Seats) → Type 0
HasAllStakes queues pass = (device : ℕ) → device < length queues.sizes → (known_of device pass).stakes ≡ 2 ^ 32
