-- A replay has disks that never fail: its journal tells no fault, and no page that was given back.
use Rattle.std.specs.Prelude.{◌≡◌, ℕ, Bool, true, false}
use Rattle.wbt_trace.specs.declared.trace.Trace.{Trace}
use Rattle.wbt_journal.specs.Each.{Each}
use Rattle.wbt_journal.specs.Effects.{Flight, Move, gives_back, effect, of_part}
use Rattle.wbt_journal.specs.Leaves.{is_fault}
use Rattle.wbt_journal.specs.Told.{Told, told}
use Rattle.wbt_replay_order.specs.Definition.Run.{part_of, state_at}
use Rattle.wbt_replay_moves.specs.Definition.State.{cpu_of}

-- whether a move gives a page back
abbrev pub is_return : (move : Move) → Bool
is_return (gives_back page absorbed) = true
is_return other = false

-- whether an entry tells that a page was given back
abbrev pub is_back : (entry : Told) → Bool
is_back entry = of_part false (λ (flight : Flight). is_return flight.move) (effect entry).flight

-- an entry tells no fault and no page that was given back
abbrev pub TellsNoFailure : (entry : Told) → Type 0
TellsNoFailure entry = (is_fault entry ≡ false) × (is_back entry ≡ false)

-- at each moment of the trace's run, of each CPU's part
abbrev pub NeverFails : (trace : Trace) → Type 0
NeverFails trace = (moves i : ℕ) → Each TellsNoFailure (told (part_of (cpu_of i (state_at trace moves))))
