-- What a turn does up to its next step is paid, by the shape of what it has to do.
use Rattle.std.proofs.Common.{◌≡◌, ℕ, zero, suc, ◌+◌, ◌≤◌, Bool, true, false, leb, List, [], ◌∷◌, ◌++◌, ap, subst, sym, refl, arith}
use Rattle.std.proofs.lemmas.List.{append_assoc}
use Rattle.wbt_replay_order.proofs.Common.{domain_loads, measure, measures_of, weighs_of, ESTIMATE_AGE, State, writeback_of, domain_turns, domain_periods, turn_items, Silent, TimerTodo, Todo, ahead_cost, StepsPay, timer_silent_cost}
use Rattle.wbt_replay_moves.specs.declared.todo.Silent.TheVariants as silent
use Rattle.wbt_replay_moves.specs.declared.todo.TimerSilent.TheVariants as timer_silent
use Rattle.wbt_replay_moves.specs.declared.todo.TimerTodo.TheVariants as timer_todo
use Rattle.wbt_replay_moves.specs.declared.todo.Todo.TheVariants as todo
use Rattle.wbt_replay_order.specs.Kept.Ending.{silent_cost, timer_ahead_cost}
use Rattle.wbt_replay_order.proofs.Facts.Lists.{either}

-- ---- a task that has nothing left costs no more

silent_most : (b : Bool) (item : Silent) (n m : ℕ) → n ≤ m → silent_cost b item n ≤ silent_cost false item m
silent_most b silent.Decide n m h = omega (arith, h)
silent_most true silent.End n m h = omega (arith, h)
silent_most false silent.End n m h = omega (arith, h)
silent_most b (silent.Estimate context) n m h = omega (arith, h)
silent_most b (silent.Weigh context) n m h = omega (arith, h)
silent_most b silent.Test n m h = omega (arith, h)
silent_most b silent.Close n m h = omega (arith, h)
silent_most b silent.HandOver n m h = omega (arith, h)
silent_most b silent.Land n m h = omega (arith, h)

pub ahead_most : (b : Bool) (ts : List Todo) → ahead_cost b ts ≤ ahead_cost false ts
ahead_most b [] = omega arith
ahead_most b (todo.Step item ∷ ts) = omega arith
ahead_most b (todo.Silent item ∷ ts) = silent_most b item (ahead_cost b ts) (ahead_cost false ts) (ahead_most b ts)

-- ---- the loads of a flusher's test

-- paid, and light enough to come after an estimate
abbrev pub IsLight : (todos : List Todo) → Type 0
IsLight todos = (ahead_cost false todos ≤ 5) × StepsPay todos

pub loads_light : (count domain : ℕ) (ts : List Todo) → IsLight ts → IsLight (domain_loads count domain ++ ts)
unfolding domain_loads
loads_light zero domain ts h = h
loads_light (suc count) domain ts h =
    let rest = loads_light count (domain + 1) ts h in
    (omega arith, (omega arith, (omega arith, (omega arith, (omega (arith, rest.0), rest.1)))))

pub loads_begin : (count domain : ℕ) (b : Bool) (ts : List Todo) → 1 ≤ count → ahead_cost b (domain_loads count domain ++ ts) ≡ 0
unfolding domain_loads
loads_begin zero domain b ts some = absurd (omega (arith, some))
loads_begin (suc count) domain b ts some = refl

measure_light : (context : ℕ) (s : State) (ts : List Todo) → IsLight ts → (ahead_cost false ts ≤ 4) → IsLight (measure context s ++ ts) × (ahead_cost false (measure context s ++ ts) ≤ 4)
measure_light context s ts h light =
    either (λ (l : List Todo). IsLight (l ++ ts) × (ahead_cost false (l ++ ts) ≤ 4)) (leb ((writeback_of context s).estimate.at + ESTIMATE_AGE) s.now) _ _
    (λ is. ((omega arith, (omega (arith, light), (tt, h.1))), omega arith))
    (λ is. (h, light))

pub measures_light : (contexts : List ℕ) (s : State) (ts : List Todo) → IsLight ts → (ahead_cost false ts ≤ 4) → IsLight (measures_of contexts s ++ ts) × (ahead_cost false (measures_of contexts s ++ ts) ≤ 4)
unfolding measures_of
measures_light [] s ts h light = (h, light)
measures_light (context ∷ contexts) s ts h light =
    let rest = measures_light contexts s ts h light in
    let first = measure_light context s (measures_of contexts s ++ ts) rest.0 rest.1 in
    subst (λ (l : List Todo). IsLight l × (ahead_cost false l ≤ 4)) (sym (append_assoc (measure context s) (measures_of contexts s) ts)) first

pub weighs_light : (contexts : List ℕ) (ts : List Todo) → IsLight ts → (ahead_cost false ts ≤ 4) → IsLight (weighs_of contexts ++ ts) × (ahead_cost false (weighs_of contexts ++ ts) ≤ 4)
unfolding weighs_of
weighs_light [] ts h light = (h, light)
weighs_light (context ∷ contexts) ts h light =
    let rest = weighs_light contexts ts h light in
    ((omega arith, (omega (arith, rest.1), (tt, rest.0.1))), omega arith)

-- ---- the timer's turn

pub timer_ahead_most : (ts : List TimerTodo) → timer_ahead_cost ts ≤ 1 + timer_silent_cost ts
timer_ahead_most [] = omega arith
timer_ahead_most (timer_todo.Step item ∷ ts) = omega arith
timer_ahead_most (timer_todo.Silent (timer_silent.Period domain) ∷ ts) = let rest = timer_ahead_most ts in omega (arith, rest)
timer_ahead_most (timer_todo.Silent timer_silent.Rest ∷ ts) = let rest = timer_ahead_most ts in omega (arith, rest)

turns_silent : (count domain : ℕ) (ts : List TimerTodo) → timer_silent_cost (domain_turns count domain ++ ts) ≡ timer_silent_cost ts
unfolding domain_turns
turns_silent zero domain ts = refl
turns_silent (suc count) domain ts = turns_silent count (domain + 1) ts

periods_silent : (count domain : ℕ) (ts : List TimerTodo) → timer_silent_cost (domain_periods count domain ++ ts) ≡ count + timer_silent_cost ts
unfolding domain_periods
periods_silent zero domain ts = omega arith
periods_silent (suc count) domain ts = let rest = periods_silent count (domain + 1) ts in omega (arith, rest)

pub timer_turn_silent : (count : ℕ) → timer_silent_cost (turn_items count) ≡ count + 2
timer_turn_silent count =
    let last = timer_todo.Silent timer_silent.Rest ∷ [] in
    let turns = turns_silent count 0 (domain_periods count 0 ++ last) in
    let periods = periods_silent count 0 last in
    let whole = ap timer_silent_cost (append_assoc (domain_turns count 0) (domain_periods count 0) last) in
    omega (arith, turns, periods, whole)

pub timer_turn_begins : (count : ℕ) → 1 ≤ count → timer_ahead_cost (turn_items count) ≡ 0
unfolding domain_turns
timer_turn_begins zero some = absurd (omega (arith, some))
timer_turn_begins (suc count) some = refl
