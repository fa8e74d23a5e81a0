-- Whatever an actor does in its turn, it leaves the clock, the order lines and the rotation alone.
use Rattle.std.proofs.Common.{ℕ, ◌+◌, List, [], ◌∷◌, refl, ap}
use Rattle.wbt_replay_order.proofs.Common.{Trace, make_step, State, cpu_of, with_cpu, with_timer, Actor, TimerTodo, Todo, is_full, is_halted, spend, stop, cpu_on, timer_on, go_on, take}
use Rattle.wbt_replay_moves.specs.declared.state.Actor.TheVariants as who
use Rattle.wbt_replay_moves.specs.declared.todo.TimerTodo.TheVariants as timer_todo
use Rattle.wbt_replay_moves.specs.declared.todo.Todo.TheVariants as todo
use Rattle.wbt_replay_order.specs.declared.chance.Chance.{Chance}
use Rattle.wbt_replay_order.specs.declared.chance.Chance.TheVariants as chance
use Rattle.wbt_replay_turns.proofs.Kept.Items.{Outside, Kept, Apart, both_kept, both_apart, apart_step, apart_move, kept_timer_step, kept_timer_move}
use Rattle.wbt_replay_turns.proofs.Kept.Turns.{kept_begin}

pub apart_cpu : (trace : Trace) (cpu : ℕ) (todos : List Todo) (s : State) → Apart s (cpu_on trace cpu todos s)
apart_cpu trace cpu [] s = refl
apart_cpu trace cpu (todo.Step item ∷ rest) s =
    let next = with_cpu cpu (record (cpu_of cpu s) { todo = rest; made = (cpu_of cpu s).made + 1 }) s in
    both_apart s (is_halted trace.halt (cpu_of cpu s).made) (stop cpu s) _ refl
    (both_apart s (is_full s) (spend s) (make_step trace cpu item next) refl (apart_step trace cpu item next))
apart_cpu trace cpu (todo.Silent item ∷ rest) s = apart_move trace cpu item (with_cpu cpu (record (cpu_of cpu s) { todo = rest }) s)

kept_timer : (trace : Trace) (todos : List TimerTodo) (s : State) → Kept s (timer_on trace todos s)
kept_timer trace [] s = refl
kept_timer trace (timer_todo.Step item ∷ rest) s =
    both_kept s (is_full s) (spend s) _ refl (kept_timer_step trace item (with_timer (record s.timer { todo = rest }) s))
kept_timer trace (timer_todo.Silent item ∷ rest) s = kept_timer_move item (with_timer (record s.timer { todo = rest }) s)

pub kept_on : (trace : Trace) (actor : Actor) (s : State) → Kept s (go_on trace actor s)
kept_on trace (who.Cpu i) s = ap (λ (o : Outside). o.order) (apart_cpu trace i (cpu_of i s).todo s)
kept_on trace who.Timer s = kept_timer trace s.timer.todo s

pub kept_take : (trace : Trace) (actor : Actor) (found : Chance) (s : State) → Kept s (take trace actor found s)
kept_take trace actor chance.Nothing s = refl
kept_take trace actor chance.GoesOn s = kept_on trace actor s
kept_take trace actor (chance.Begins job place) s = kept_begin trace actor job place s
kept_take trace actor chance.TimerBegins s = refl
