-- At each moment of a run the steps of each CPU are those of whole turns, and of one of which its items are left.
use Rattle.std.proofs.Common.{◌≡◌, ◌≢◌, ℕ, zero, suc, ◌+◌, ◌<◌, Bool, true, false, cond, eqb, List, [], ◌∷◌, ◌++◌, length, get_or, All, Option, Some, None, ⊎_elim, refl, sym, ◌∙◌, ap, subst, arith, eq-eqb, ne_eqb}
use Rattle.std.proofs.lemmas.Bool.{cases_lt}
use Rattle.std.proofs.lemmas.List.{append-nil, length-set, length-append, get_or-set_same, get_or-set_other, get_or_past}
use Rattle.std.proofs.lemmas.List.Elements.{All-nil, All-get_or}
use mathlib.Core.Logic.{dite}
use native.Mathlib.Decide.{ℕ_discrete}
use Rattle.wbt_replay_order.proofs.Common.{after_period, Half, StepKind, StepEntry, Trace, make_step, make_move, make_timer_step, make_timer_move, State, no_cpu, cpu_of, with_cpu, domain_of, with_timer, period_to, is_time, periods, Actor, Cpu, Silent, Step, TimerSilent, TimerStep, TimerTodo, Todo, first_cpu, first_cpus, opening, is_full, is_halted, spend, stop, cpu_on, timer_on, go_on, begin, most_moves, last_state, journal_of, Ending, StaysInRange}
use Rattle.wbt_replay_moves.specs.declared.state.Actor.TheVariants as who
use Rattle.wbt_replay_moves.specs.declared.todo.TimerSilent.TheVariants as timer_silent
use Rattle.wbt_replay_moves.specs.declared.todo.TimerStep.TheVariants as timer_step
use Rattle.wbt_replay_moves.specs.declared.todo.TimerTodo.TheVariants as timer_todo
use Rattle.wbt_replay_moves.specs.declared.todo.Todo.TheVariants as todo
use Rattle.wbt_replay_order.proofs.Facts.Lists.{either, all_push}
use Rattle.wbt_replay_order.proofs.Growth.Growing.{silent_move}
use Rattle.wbt_replay_turns.specs.Laws.{EndsWell}
use Rattle.wbt_replay_turns.specs.Words.{kinds_by, CpusTakeTurns}
use Rattle.wbt_replay_turns.proofs.Lines.Moves.{begins_silently}
use Rattle.wbt_replay_turns.proofs.Lines.Runs.{journal_steps}
use Rattle.wbt_replay_turns.proofs.Lines.Steps.{cpu_one, quiet_timer_move, timer_makes}
use Rattle.wbt_replay_turns.proofs.Words.Advancing.{Ready, always}
use Rattle.wbt_replay_turns.proofs.Words.Begins.{opens}
use Rattle.wbt_replay_turns.proofs.Words.Fits.{fits_none}
use Rattle.wbt_replay_turns.proofs.Words.Items.{Does, nothing, does, does_step}
use Rattle.wbt_replay_turns.proofs.Words.Language.{Parses, parses_on, parses_begun, parses_cut}
use Rattle.wbt_replay_turns.proofs.Words.Silent.{leaves}
use Rattle.wbt_replay_turns.proofs.Words.Todos.{Todos, as_before, then_quiet}

-- ---- the kinds of an actor's steps

pub kinds_push : (i : ℕ) (steps : List StepEntry) (e : StepEntry) → kinds_by i (steps ++ e ∷ []) ≡ kinds_by i steps ++ cond (eqb e.who i) (e.kind ∷ []) []
kinds_push i [] e = refl
kinds_push i (x ∷ steps) e = by_test (eqb x.who i) (kinds_push i steps e)
  where
    by_test : (b : Bool) → kinds_by i (steps ++ e ∷ []) ≡ kinds_by i steps ++ cond (eqb e.who i) (e.kind ∷ []) []
        → cond b (x.kind ∷ kinds_by i (steps ++ e ∷ [])) (kinds_by i (steps ++ e ∷ []))
        ≡ cond b (x.kind ∷ kinds_by i steps) (kinds_by i steps) ++ cond (eqb e.who i) (e.kind ∷ []) []
    by_test true is = ap (λ (l : List StepKind). x.kind ∷ l) is
    by_test false is = is

pub kinds_own : (i : ℕ) (steps more : List StepEntry) (e : StepEntry) (k : StepKind) → more ≡ steps ++ e ∷ [] → e.who ≡ i → e.kind ≡ k → kinds_by i more ≡ kinds_by i steps ++ k ∷ []
kinds_own i steps more e k is by kind =
    ap (kinds_by i) is ∙ (kinds_push i steps e ∙ (ap (λ (b : Bool). kinds_by i steps ++ cond b (e.kind ∷ []) []) (eq-eqb e.who i by)
    ∙ ap (λ (j : StepKind). kinds_by i steps ++ j ∷ []) kind))

pub kinds_other : (i j : ℕ) (steps more : List StepEntry) (e : StepEntry) → more ≡ steps ++ e ∷ [] → e.who ≡ i → j ≢ i → kinds_by j more ≡ kinds_by j steps
kinds_other i j steps more e is by other =
    ap (kinds_by j) is ∙ (kinds_push j steps e ∙ (ap (λ (b : Bool). kinds_by j steps ++ cond b (e.kind ∷ []) []) (ne_eqb e.who j (λ same. other (sym same ∙ by)))
    ∙ append-nil (kinds_by j steps)))

-- ---- what holds at each moment

-- each CPU's steps, by the CPUs and steps of a state
abbrev ParsesIn : (trace : Trace) (steps : List StepEntry) (cpus : List Cpu) → Type 0
ParsesIn trace steps cpus = (i : ℕ) → i < length cpus → Parses trace (get_or cpus i no_cpu).todo (kinds_by i steps)

abbrev AllParse : (trace : Trace) (s : State) → Type 0
AllParse trace s = ParsesIn trace s.steps s.cpus

module _ (trace : Trace) (s : State) (h : AllParse trace s) where
  -- one CPU moved, and the others made no step
  moved : (i : ℕ) (todos : List Todo) (u : State) → Todos i todos s u → ((j : ℕ) → j ≢ i → kinds_by j u.steps ≡ kinds_by j s.steps)
      → Parses trace todos (kinds_by i u.steps) → AllParse trace u
  moved i todos u b others here j less = dite (ℕ_discrete j i)
      (λ e. subst (λ (n : ℕ). Parses trace (cpu_of n u).todo (kinds_by n u.steps)) (sym e) (subst (λ (l : List Todo). Parses trace l (kinds_by i u.steps)) (sym b.here) here))
      (λ n. subst (λ (l : List Todo). Parses trace l (kinds_by j u.steps)) (sym (b.others j n))
      (subst (Parses trace (cpu_of j s).todo) (sym (others j n)) (h j (omega (arith, less, b.many)))))

  -- a CPU is changed, but not what it has to do, and no step is made
  quietly : (i : ℕ) → i < length s.cpus → (u : State) → Todos i (cpu_of i s).todo s u → u.steps ≡ s.steps → AllParse trace u
  quietly i there u b same =
      moved i (cpu_of i s).todo u b (λ j n. ap (kinds_by j) same) (subst (Parses trace (cpu_of i s).todo) (ap (kinds_by i) (sym same)) (h i there))

  -- the timer makes a step, which is none of a CPU
  timely : (u : State) (e : StepEntry) → u.cpus ≡ s.cpus → u.steps ≡ s.steps ++ e ∷ [] → e.who ≡ length s.cpus → AllParse trace u
  timely u e cpus steps by =
      subst (λ (l : List Cpu). ParsesIn trace u.steps l) (sym cpus)
      (λ j less. subst (Parses trace (cpu_of j s).todo) (sym (kinds_other (length s.cpus) j s.steps u.steps e steps by (λ e. omega (arith, e, less)))) (h j less))

  -- neither CPUs nor steps are changed
  same : (u : State) → u.cpus ≡ s.cpus → u.steps ≡ s.steps → AllParse trace u
  same u cpus steps = subst (λ (l : List Cpu). ParsesIn trace u.steps l) (sym cpus) (subst (λ (l : List StepEntry). ParsesIn trace l s.cpus) (sym steps) h)

-- ---- a CPU goes on

module _ (trace : Trace) (i : ℕ) (s : State) (there : i < length s.cpus) (ready : Ready trace s) (h : AllParse trace s) where
  -- what others have, after an item was taken and then done
  composed : (c : Cpu) (todos : List Todo) (u : State) → Todos i todos (with_cpu i c s) u → Todos i todos s u
  composed c todos u b = record {
    many = b.many ∙ length-set s.cpus i c;
    here = b.here;
    others = λ j n. b.others j n ∙ ap (λ (d : Cpu). d.todo) (get_or-set_other s.cpus i j c no_cpu n);
  }

  by_item : (item : Step) (rest : List Todo) → (cpu_of i s).todo ≡ todo.Step item ∷ rest
      → Ending trace (make_step trace i item (with_cpu i (record (cpu_of i s) { todo = rest; made = (cpu_of i s).made + 1 }) s))
      → AllParse trace (make_step trace i item (with_cpu i (record (cpu_of i s) { todo = rest; made = (cpu_of i s).made + 1 }) s))
  by_item item rest is ending =
      let c : Cpu = record (cpu_of i s) { todo = rest; made = (cpu_of i s).made + 1 } in
      by_does item rest is ending (does_step trace i (with_cpu i c s) (omega (arith, there, length-set s.cpus i c)) item)
    where
      by_does : (item : Step) (rest : List Todo) → (cpu_of i s).todo ≡ todo.Step item ∷ rest
          → Ending trace (make_step trace i item (with_cpu i (record (cpu_of i s) { todo = rest; made = (cpu_of i s).made + 1 }) s))
          → Does i item (with_cpu i (record (cpu_of i s) { todo = rest; made = (cpu_of i s).made + 1 }) s)
          (make_step trace i item (with_cpu i (record (cpu_of i s) { todo = rest; made = (cpu_of i s).made + 1 }) s))
          → AllParse trace (make_step trace i item (with_cpu i (record (cpu_of i s) { todo = rest; made = (cpu_of i s).made + 1 }) s))
      by_does item rest is ending (nothing none) =
          let one = cpu_one trace i s there ready.paced item rest ending in
          absurd (omega (arith, ap (λ (l : List StepEntry). length l) none, ap (λ (l : List StepEntry). length l) one.is, length-append s.steps (one.entry ∷ [])))
      by_does item rest is ending (does items k e steps by kind yields todos) =
          let c : Cpu = record (cpu_of i s) { todo = rest; made = (cpu_of i s).made + 1 } in
          let next : State = with_cpu i c s in
          let u : State = make_step trace i item next in
          let left : (cpu_of i next).todo ≡ rest = ap (λ (d : Cpu). d.todo) (get_or-set_same s.cpus i c no_cpu there) in
          let all = subst (λ (l : List Todo). Todos i (items ++ l) next u) left todos in
          let before = subst (λ (l : List Todo). Parses trace l (kinds_by i s.steps)) is (h i there) in
          let own = kinds_own i s.steps u.steps e k steps by kind in
          moved trace s h i (items ++ rest) u (composed c (items ++ rest) u all) (λ j n. kinds_other i j s.steps u.steps e steps by n)
          (subst (Parses trace (items ++ rest)) (sym own) (parses_on trace (todo.Step item) items rest (k ∷ []) (kinds_by i s.steps) yields before))

  by_silent : (item : Silent) (rest : List Todo) → (cpu_of i s).todo ≡ todo.Silent item ∷ rest → AllParse trace (make_move trace i item (with_cpu i (record (cpu_of i s) { todo = rest }) s))
  by_silent item rest is =
      let c : Cpu = record (cpu_of i s) { todo = rest } in
      let next : State = with_cpu i c s in
      let u : State = make_move trace i item next in
      let l = leaves trace i next (omega (arith, there, length-set s.cpus i c)) item in
      let left : (cpu_of i next).todo ≡ rest = ap (λ (d : Cpu). d.todo) (get_or-set_same s.cpus i c no_cpu there) in
      let all = subst (λ (x : List Todo). Todos i (l.items ++ x) next u) left l.todos in
      let before = subst (λ (x : List Todo). Parses trace x (kinds_by i s.steps)) is (h i there) in
      let silent : u.steps ≡ s.steps = silent_move trace i item next in
      moved trace s h i (l.items ++ rest) u (composed c (l.items ++ rest) u all) (λ j n. ap (kinds_by j) silent)
      (subst (Parses trace (l.items ++ rest)) (append-nil (kinds_by i s.steps) ∙ ap (kinds_by i) (sym silent))
      (parses_on trace (todo.Silent item) l.items rest [] (kinds_by i s.steps) l.yields before))

  by_cpu : (todos : List Todo) → (cpu_of i s).todo ≡ todos → Ending trace (cpu_on trace i todos s) → AllParse trace (cpu_on trace i todos s)
  by_cpu [] is = λ ending. h
  by_cpu (todo.Step item ∷ rest) is =
      either (λ (u : State). Ending trace u → AllParse trace u) (is_halted trace.halt (cpu_of i s).made) (stop i s) _
      (λ halted ending. quietly trace s h i there (stop i s) (then_quiet i s there (cpu_of i s).todo s _ (as_before i s) refl) refl)
      (λ on. either (λ (u : State). Ending trace u → AllParse trace u) (is_full s) (spend s) _ (λ full ending. h) (λ room. by_item item rest is))
  by_cpu (todo.Silent item ∷ rest) is = λ ending. by_silent item rest is

-- ---- the timer

pub timer_cpus : (trace : Trace) (item : TimerStep) (s : State) → (make_timer_step trace item s).cpus ≡ s.cpus
unfolding make_timer_step
timer_cpus trace (timer_step.Count domain) s = refl
timer_cpus trace (timer_step.Peak domain) s = refl
timer_cpus trace (timer_step.Unseal domain) s = refl
timer_cpus trace (timer_step.Thresh domain) s = refl
timer_cpus trace (timer_step.Publish domain) s = refl

period_cpus : (domain k : ℕ) (found : Option Half) (s : State) → (period_to domain k found s).cpus ≡ s.cpus
period_cpus domain k None s = refl
period_cpus domain k (Some events) s = refl

silent_cpus : (item : TimerSilent) (s : State) → (make_timer_move item s).cpus ≡ s.cpus
unfolding make_timer_move
silent_cpus (timer_silent.Period domain) s =
    either (λ (u : State). u.cpus ≡ s.cpus) (is_time s.timer) (period_to domain (periods s.timer) (after_period (domain_of domain s).events (periods s.timer)) s) s
    (λ time. period_cpus domain (periods s.timer) (after_period (domain_of domain s).events (periods s.timer)) s) (λ early. refl)
silent_cpus timer_silent.Rest s = refl

by_timer : (trace : Trace) (s : State) → AllParse trace s → (todos : List TimerTodo) → AllParse trace (timer_on trace todos s)
by_timer trace s h [] = h
by_timer trace s h (timer_todo.Step item ∷ rest) =
    either (AllParse trace) (is_full s) (spend s) _ (λ full. h)
    (λ room.
    let t = with_timer (record s.timer { todo = rest }) s in
    let one = timer_makes trace item t in
    timely trace s h (make_timer_step trace item t) one.entry (timer_cpus trace item t) one.is one.by)
by_timer trace s h (timer_todo.Silent item ∷ rest) =
    let t = with_timer (record s.timer { todo = rest }) s in same trace s h (make_timer_move item t) (silent_cpus item t) (quiet_timer_move item t)

-- ---- an actor

on_actor : (trace : Trace) (a : Actor) (s : State) → Ready trace s → AllParse trace s → Ending trace (go_on trace a s) → AllParse trace (go_on trace a s)
on_actor trace (who.Cpu i) s ready h ending = ⊎_elim
    (λ there. by_cpu trace i s there ready h (cpu_of i s).todo refl ending)
    (λ past. subst (AllParse trace) (sym (ap (λ (l : List Todo). cpu_on trace i l s) (ap (λ (c : Cpu). c.todo) (get_or_past s.cpus i no_cpu past)))) h)
    (cases_lt i (length s.cpus))
on_actor trace who.Timer s ready h ending = by_timer trace s h s.timer.todo

begin_cpu : (trace : Trace) (i job place : ℕ) (s : State) → Ready trace s → AllParse trace s → i < length s.cpus → (cpu_of i s).todo ≡ []
    → AllParse trace (begin trace (who.Cpu i) job place s)
begin_cpu trace i n place s ready h there free =
    let o = opens trace i s there free ready.domains_many n place in
    let silent = begins_silently trace (who.Cpu i) n place s in
    let before = subst (λ (l : List Todo). Parses trace l (kinds_by i s.steps)) free (h i there) in
    moved trace s h i o.items (begin trace (who.Cpu i) n place s) o.todos (λ j m. ap (kinds_by j) silent)
    (subst (Parses trace o.items) (ap (kinds_by i) (sym silent)) (parses_begun trace o.items (kinds_by i s.steps) o.fits before))

-- ---- the run

none_first : (trace : Trace) (n : ℕ) → All (λ (c : Cpu). c.todo ≡ []) (first_cpus trace n)
none_first trace zero = All-nil (λ (c : Cpu). c.todo ≡ [])
none_first trace (suc n) = all_push (λ (c : Cpu). c.todo ≡ []) (first_cpus trace n) (first_cpu trace n) (none_first trace n) refl

first_todo : (trace : Trace) (i : ℕ) → i < length (opening trace).cpus → (cpu_of i (opening trace)).todo ≡ []
unfolding opening
first_todo trace i less = All-get_or (λ (c : Cpu). c.todo ≡ []) (first_cpus trace trace.cpus) i no_cpu less (none_first trace trace.cpus)

first_kinds : (trace : Trace) (i : ℕ) → kinds_by i (opening trace).steps ≡ []
unfolding opening
first_kinds trace i = refl

opens_so : (trace : Trace) → AllParse trace (opening trace)
opens_so trace i less =
    subst (Parses trace (cpu_of i (opening trace)).todo) (sym (first_kinds trace i))
    (subst (λ (l : List Todo). Parses trace l []) (sym (first_todo trace i less)) ([], λ more runs. fits_none trace more runs))

pub takes_turns : (trace : Trace) → StaysInRange trace → EndsWell trace → CpusTakeTurns trace
takes_turns trace stays h cpu there =
    let s : State = last_state trace in
    let along = always trace (AllParse trace) (λ s now orders rotation k. k) (on_actor trace) (begin_cpu trace) (λ s ready k free. k) stays h (opens_so trace) in
    let at : Parses trace (cpu_of cpu s).todo (kinds_by cpu s.steps) = along most_moves cpu (omega (arith, there, (stays.sound most_moves).holds.cpus.many)) in
    parses_cut trace (cpu_of cpu s).todo (kinds_by cpu (journal_of trace).steps)
    (subst (Parses trace (cpu_of cpu s).todo) (ap (kinds_by cpu) (sym (journal_steps trace))) at)
