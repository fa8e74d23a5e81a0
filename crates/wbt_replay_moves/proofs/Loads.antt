-- The items of so many domains, one domain on and at the end, after what is there already.
use Rattle.std.proofs.Common.{◌≡◌, ℕ, suc, ◌+◌, ◌-◌, ◌<◌, ◌≤◌, List, [], ◌∷◌, ◌++◌, ap, sym, ◌∙◌, arith, refl, drop, length, get_or}
use Rattle.std.proofs.lemmas.List.{append_assoc, append-nil, drop_all, drop_more}
use Rattle.wbt_counter.specs.declared.counter.Counter.TheVariants.{Domain, Context}
use Rattle.wbt_replay_moves.specs.Definition.Cpu.{do_last}
use Rattle.wbt_replay_moves.specs.Definition.Idle.{domain_loads, measure, measures_of, weighs_of}
use Rattle.wbt_replay_moves.specs.Definition.State.{State}
use Rattle.wbt_replay_moves.specs.Definition.Timer.{domain_turns, domain_periods}
use Rattle.wbt_replay_moves.specs.declared.state.Cpu.{Cpu}
use Rattle.wbt_replay_moves.specs.declared.state.Timer.{Timer}
use Rattle.wbt_replay_moves.specs.declared.todo.Todo.{Todo}
use Rattle.wbt_replay_moves.specs.declared.todo.Todo.TheVariants as todo
use Rattle.wbt_replay_moves.specs.declared.todo.Step.TheVariants as step
use Rattle.wbt_replay_moves.specs.declared.todo.Silent.TheVariants as move
use Rattle.wbt_replay_moves.specs.declared.todo.TimerTodo.{TimerTodo}
use Rattle.wbt_replay_moves.specs.declared.todo.TimerTodo.TheVariants as timer
use Rattle.wbt_replay_moves.specs.declared.todo.TimerSilent.TheVariants as silent
use Rattle.wbt_replay_moves.specs.declared.todo.TimerStep.TheVariants as timer_step

-- ---- lists of a CPU and of the timer

last_twice : (first rest : List Todo) (c d : Cpu) → d ≡ do_last first c → do_last rest d ≡ do_last (first ++ rest) c
last_twice first rest c d is = ap (do_last rest) is ∙ ap (λ (ts : List Todo). record c { todo = ts }) (append_assoc c.todo first rest)

last_none : (rest : List Todo) (c : Cpu) → rest ≡ [] → do_last rest c ≡ c
last_none rest c none = ap (λ (ts : List Todo). do_last ts c) none ∙ ap (λ (ts : List Todo). record c { todo = ts }) (append-nil c.todo)

abbrev pub timer_last : (items : List TimerTodo) (t : Timer) → Timer
timer_last items t = record t { todo = t.todo ++ items }

timer_twice : (first rest : List TimerTodo) (t u : Timer) → u ≡ timer_last first t → timer_last rest u ≡ timer_last (first ++ rest) t
timer_twice first rest t u is = ap (timer_last rest) is ∙ ap (λ (ts : List TimerTodo). record t { todo = ts }) (append_assoc t.todo first rest)

timer_none : (rest : List TimerTodo) (t : Timer) → rest ≡ [] → timer_last rest t ≡ t
timer_none rest t none = ap (λ (ts : List TimerTodo). timer_last ts t) none ∙ ap (λ (ts : List TimerTodo). record t { todo = ts }) (append-nil t.todo)

-- ---- loads

pub loads_go : (count domain : ℕ) → domain < count → (c d : Cpu)
    → d ≡ do_last (todo.Step (step.First domain) ∷ todo.Step (step.Middle domain) ∷ todo.Step (step.Limits domain) ∷ todo.Step (step.Count (Domain domain)) ∷ []) c
    → do_last (domain_loads (count - (domain + 1)) (domain + 1)) d ≡ do_last (domain_loads (count - domain) domain) c
unfolding domain_loads
loads_go count domain less c d is =
    let more : count - domain ≡ suc (count - (domain + 1)) = omega arith in
    last_twice (todo.Step (step.First domain) ∷ todo.Step (step.Middle domain) ∷ todo.Step (step.Limits domain) ∷ todo.Step (step.Count (Domain domain)) ∷ []) (domain_loads (count - (domain + 1)) (domain + 1)) c d is
    ∙ ap (λ (n : ℕ). do_last (domain_loads n domain) c) (sym more)

pub loads_end : (count domain : ℕ) (c : Cpu) → count ≤ domain → do_last (domain_loads (count - domain) domain) c ≡ c
unfolding domain_loads
loads_end count domain c past =
    let none : count - domain ≡ 0 = omega arith in last_none (domain_loads (count - domain) domain) c (ap (λ (n : ℕ). domain_loads n domain) none)

-- ---- measures

pub measures_go : (contexts : List ℕ) (i : ℕ) (s : State) → i < length contexts → (c d : Cpu)
    → d ≡ do_last (measure (get_or contexts i 0) s) c
    → do_last (measures_of (drop (i + 1) contexts) s) d ≡ do_last (measures_of (drop i contexts) s) c
unfolding measures_of
measures_go contexts i s less c d is =
    last_twice (measure (get_or contexts i 0) s) (measures_of (drop (i + 1) contexts) s) c d is
    ∙ ap (λ (ks : List ℕ). do_last (measures_of ks s) c) (sym (drop_more contexts i 0 less))

pub measures_end : (contexts : List ℕ) (i : ℕ) (s : State) → length contexts ≤ i → (c : Cpu)
    → do_last (measures_of (drop i contexts) s) c ≡ c
unfolding measures_of
measures_end contexts i s past c = last_none (measures_of (drop i contexts) s) c (ap (λ (ks : List ℕ). measures_of ks s) (drop_all i contexts past))

-- What a CPU does changes nothing that is measured.
pub measures_same : (contexts : List ℕ) (s : State) (cpus : List Cpu)
    → measures_of contexts (record s { cpus = cpus }) ≡ measures_of contexts s
unfolding measures_of
measures_same [] s cpus = refl
measures_same (k ∷ contexts) s cpus = ap (λ (ts : List Todo). measure k s ++ ts) (measures_same contexts s cpus)

-- ---- contexts that are weighed

pub weighs_go : (contexts : List ℕ) (i : ℕ) → i < length contexts → (c d : Cpu)
    → d ≡ do_last (todo.Step (step.Count (Context (get_or contexts i 0))) ∷ todo.Silent (move.Weigh (get_or contexts i 0)) ∷ []) c
    → do_last (weighs_of (drop (i + 1) contexts)) d ≡ do_last (weighs_of (drop i contexts)) c
unfolding weighs_of
weighs_go contexts i less c d is =
    let k : ℕ = get_or contexts i 0 in
    last_twice (todo.Step (step.Count (Context k)) ∷ todo.Silent (move.Weigh k) ∷ []) (weighs_of (drop (i + 1) contexts)) c d is
    ∙ ap (λ (ks : List ℕ). do_last (weighs_of ks) c) (sym (drop_more contexts i 0 less))

pub weighs_end : (contexts : List ℕ) (i : ℕ) → length contexts ≤ i → (c : Cpu) → do_last (weighs_of (drop i contexts)) c ≡ c
unfolding weighs_of
weighs_end contexts i past c = last_none (weighs_of (drop i contexts)) c (ap weighs_of (drop_all i contexts past))

-- ---- the timer's

abbrev domain_steps : (domain : ℕ) → List TimerTodo
domain_steps domain =
    timer.Step (timer_step.Count domain) ∷ timer.Step (timer_step.Peak domain) ∷ timer.Step (timer_step.Unseal domain)
    ∷ timer.Step (timer_step.Thresh domain) ∷ timer.Step (timer_step.Publish domain) ∷ []

pub turns_go : (count domain : ℕ) → domain < count → (t u : Timer)
    → u ≡ timer_last (domain_steps domain) t
    → timer_last (domain_turns (count - (domain + 1)) (domain + 1)) u ≡ timer_last (domain_turns (count - domain) domain) t
unfolding domain_turns
turns_go count domain less t u is =
    let more : count - domain ≡ suc (count - (domain + 1)) = omega arith in
    timer_twice (domain_steps domain)
    (domain_turns (count - (domain + 1)) (domain + 1)) t u is
    ∙ ap (λ (n : ℕ). timer_last (domain_turns n domain) t) (sym more)

pub turns_end : (count domain : ℕ) (t : Timer) → count ≤ domain → timer_last (domain_turns (count - domain) domain) t ≡ t
unfolding domain_turns
turns_end count domain t past =
    let none : count - domain ≡ 0 = omega arith in timer_none (domain_turns (count - domain) domain) t (ap (λ (n : ℕ). domain_turns n domain) none)

pub periods_go : (count domain : ℕ) → domain < count → (t u : Timer)
    → u ≡ timer_last (timer.Silent (silent.Period domain) ∷ []) t
    → timer_last (domain_periods (count - (domain + 1)) (domain + 1)) u ≡ timer_last (domain_periods (count - domain) domain) t
unfolding domain_periods
periods_go count domain less t u is =
    let more : count - domain ≡ suc (count - (domain + 1)) = omega arith in
    timer_twice (timer.Silent (silent.Period domain) ∷ []) (domain_periods (count - (domain + 1)) (domain + 1)) t u is
    ∙ ap (λ (n : ℕ). timer_last (domain_periods n domain) t) (sym more)

pub periods_end : (count domain : ℕ) (t : Timer) → count ≤ domain → timer_last (domain_periods (count - domain) domain) t ≡ t
unfolding domain_periods
periods_end count domain t past =
    let none : count - domain ≡ 0 = omega arith in timer_none (domain_periods (count - domain) domain) t (ap (λ (n : ℕ). domain_periods n domain) none)
