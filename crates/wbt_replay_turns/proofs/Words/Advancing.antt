-- What moves of actors keep, each move of a run keeps, and so it holds at each moment.
use Rattle.std.proofs.Common.{◌≡◌, ℕ, zero, suc, ◌<◌, List, [], length, Option, ⊎_elim, refl, sym, subst, arith}
use Rattle.std.proofs.lemmas.Bool.{cases_Bool}
use Rattle.wbt_replay_order.proofs.Common.{domains, StepEntry, Trace, State, cpu_of, begin_timer, Actor, Cpu, Domain, Stretch, opening, go_on, begin, advance, is_ended, state_at, Ending, ArePaced, StaysInRange}
use Rattle.wbt_replay_moves.specs.declared.state.Actor.TheVariants as who
use Rattle.wbt_replay_moves.specs.declared.todo.Todo.TheVariants as todo
use Rattle.wbt_replay_order.proofs.Walk.{turned, walked}
use Rattle.wbt_replay_order.proofs.Growth.Runs.{run_none, run_last, run_stays}
use Rattle.wbt_replay_turns.specs.Laws.{EndsWell}

-- what is needed of a state for a move
pub record ReadyIn (trace : Trace) (steps : List StepEntry) (cpus : List Cpu) (ds : List Domain) : Type 0 where
  pub paced : ArePaced trace.halt steps cpus
  pub many : length cpus ≡ trace.cpus
  pub domains_many : length ds ≡ domains trace

abbrev pub Ready : (trace : Trace) (s : State) → Type 0
Ready trace s = ReadyIn trace s.steps s.cpus s.domains

-- What doesn't ask for the clock, the order lines or the rotation, and is kept where an actor goes on or begins a turn.
module _ (trace : Trace) (P : State → Type 0)
    (free : (s : State) (now : ℕ) (orders : List Stretch) (rotation : Option Actor) → P s → P (record s { now = now; orders = orders; rotation = rotation }))
    (goes : (a : Actor) (s : State) → Ready trace s → P s → Ending trace (go_on trace a s) → P (go_on trace a s))
    (begins : (i job place : ℕ) (s : State) → Ready trace s → P s → i < length s.cpus → (cpu_of i s).todo ≡ [] → P (begin trace (who.Cpu i) job place s))
    (times : (s : State) → Ready trace s → P s → s.timer.todo ≡ [] → P (begin_timer s)) where
  module _ (s : State) (ready : Ready trace s) (h : P s) where
    turn : (orders : List Stretch) (rotation : Option Actor) → P (turned orders rotation s)
    turn orders rotation = free s s.now orders rotation h

    on_move : Ending trace (advance trace s) → P (advance trace s)
    on_move =
        walked trace s (λ (u : State). Ending trace u → P u) (λ orders rotation now ending. free s now orders rotation h)
        (λ orders rotation a some ending. goes a (turned orders rotation s) ready (turn orders rotation) ending)
        (λ orders rotation i n place free found ending. begins i n place (turned orders rotation s) ready (turn orders rotation) free.there free.idle)
        (λ orders rotation none time ending. times (turned orders rotation s) ready (turn orders rotation) none)

  -- what is needed of a state holds at each moment
  module _ (stays : StaysInRange trace) (h : EndsWell trace) (first : P (opening trace)) where
    ready_at : (m : ℕ) → Ready trace (state_at trace m)
    ready_at m = record { paced = (h m).paced; many = (stays.sound m).holds.cpus.many; domains_many = (stays.sound m).holds.domains.many }

    pub always : (m : ℕ) → P (state_at trace m)
    always zero = subst P (sym (run_none trace 0 (opening trace) refl)) first
    always (suc m) = ⊎_elim
        (λ over. subst P (sym (run_stays trace m (suc m) (opening trace) (omega arith) over)) (always m))
        (λ going.
        let next = run_last trace m (suc m) (opening trace) (omega arith) going in
        subst P (sym next) (on_move (state_at trace m) (ready_at m) (always m) (subst (Ending trace) next (h (suc m)))))
        (cases_Bool (is_ended (state_at trace m)))
