-- What workers say by their voices.
use Rattle.std.specs.Prelude.{◌≡◌, ◌⊎◌, ℕ, ◌+◌, ◌-◌, Bool, true, false, cond, Option, Some, None}
use Rattle.atomic_table.specs.Seated.{TableId}
use Rattle.wbt_signals.specs.declared.rule.Act.TheVariants.{Leave}
use Rattle.wbt_signals.specs.History.{IsNoted}
use Rattle.wbt_signals.specs.Signals.{Known}
use Rattle.wbt_run_worker.specs.declared.side.End.{End}
use Rattle.wbt_run_worker.specs.declared.side.End.TheVariants.{Ended, Faulted, Spent, Refused, Stopped}

-- for these ends a worker rings the bell, by which all others are to stop
abbrev pub rings_for : (end : End) → ℕ
rings_for Faulted = 1
rings_for Spent = 1
rings_for Refused = 1
rings_for other = 0

-- a voice of the signals, whose worker is there; it has leave just where its worker hasn't said yet that it writes no more
pub record MaySpeak (signals : TableId) (writes : Bool) (voice : Known) : Type 0 where
  pub its : voice.signals ≡ signals
  pub leave : voice.writes ≡ cond writes 1 0
  pub there : voice.there ≡ 1

-- A worker whose side hasn't ended rang no bell. One whose side ended rang it just where that makes others stop; it ended Stopped only where it
-- heard the bell, and Ended only where it found that nobody writes.
abbrev pub SaysSo : (end : Option End) (old new : Known) → Type 0
SaysSo None old new = new.rings ≡ old.rings
SaysSo (Some end) old new = (new.rings ≡ old.rings + rings_for end) × (end ≡ Stopped → new.heard ≡ true) × (end ≡ Ended → new.quiet ≡ true)

-- a worker whose side ended otherwise than as told to stop has said that it writes no more
abbrev pub HasWritten : (end : Option End) (writes : Bool) → Type 0
HasWritten None writes = Unit {0}
HasWritten (Some Stopped) writes = Unit {0}
HasWritten (Some end) writes = writes ≡ false

-- what a CPU's worker says by its voice, as its side goes on or ends
pub record Speaks (signals : TableId) (writes : Bool) (end : Option End) (old new : Known) : Type 0 where
  pub may : MaySpeak signals writes new
  pub stakes : new.stakes ≡ old.stakes
  pub says : SaysSo end old new
  pub written : HasWritten end writes

-- once its side has ended a worker says that it leaves
abbrev pub HasLeft : (end : Option End) (old new : Known) → Type 0
HasLeft None old new = new ≡ old
HasLeft (Some end) old new = (new ≡ record old { there = old.there - 1; notes = new.notes }) × IsNoted old.workers Leave old.notes new.notes

-- it spoke, and what it said last is that it leaves, where its side has ended; `last` is its voice before that
pub record HasSpoken (signals : TableId) (writes : Bool) (end : Option End) (old new : Known) : Type 0 where
  pub last : Known
  pub speaks : Speaks signals writes end old last
  pub left : HasLeft end last new

-- The timer leaves only where it was refused memory, the gate stopped it, it is to be served in turn, or it found that all CPUs' workers have left
abbrev pub LeavesFor : (refused halted in_turn : Bool) (voice : Known) → Type 0
LeavesFor refused halted in_turn voice = (refused ≡ true) ⊎ ((halted ≡ true) ⊎ ((in_turn ≡ true) ⊎ (voice.gone ≡ true)))

-- the timer rings the bell only where it was refused memory; it speaks for no CPU's worker, neither that it writes no more nor that it leaves
pub record TimerSpeaks (signals : TableId) (refused refused' : Bool) (old new : Known) : Type 0 where
  pub its : new.signals ≡ signals
  pub stakes : new.stakes ≡ old.stakes
  pub writes : new.writes ≡ old.writes
  pub there : new.there ≡ old.there
  pub rings : ((new.rings ≡ old.rings) × (refused' ≡ refused)) ⊎ (refused' ≡ true)
